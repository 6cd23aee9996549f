use Rattle.std.proofs.Common.{◌≡◌, arith, ◌^◌, slice_index_or}
use Rattle.c_types.specs.Layouts.{begin_after, end_after, layouts}
use Rattle.c_types.specs.Views.{records_of, types_of_fields}
use Rattle.c_typed.specs.TypeNumbers.{type_at}
use Rattle.layout_plan.proofs.Ends.{placed_more, rest_within, this_within}
use Rattle.layout_plan.proofs.placing.place_part.Goals as goal

pub overflow_cast-at : goal.overflow_cast-at
overflow_cast-at c =
    let known = layouts (records_of c.args.records.now) in
    let type_in = type_at (types_of_fields c.args.own.now) in
    let near = this_within known type_in c.args.fields.now c.loop-field.field-index 0 c.loop-field-test.true c.loop-field.end (2 ^ 24)
    c.loop-field.invariant.end in
    omega (arith, near, c.span_after-span.ensures.begin)

pub loop-field-preserved : goal.loop-field-preserved
loop-field-preserved c =
    let known = layouts (records_of c.args.records.now) in
    let type_in = type_at (types_of_fields c.args.own.now) in
    let near = this_within known type_in c.args.fields.now c.loop-field.field-index 0 c.loop-field-test.true c.loop-field.end (2 ^ 24)
    c.loop-field.invariant.end in
    let t = type_in (slice_index_or c.args.fields.now c.loop-field.field-index 0) in
    let begin : c.span_after-span.result.begin ≡ begin_after known c.loop-field.end t = omega (arith, near, c.span_after-span.ensures.begin) in
    let end : c.span_after-span.result.end ≡ end_after known c.loop-field.end t = omega (arith, near, c.span_after-span.ensures.end) in
    record {
      placed = placed_more known type_in c.args.fields.now c.loop-field.field-index 0 c.loop-field-test.true (records_of c.args.records.now)
          (types_of_fields c.args.own.now) c.args.part c.loop-field.end c.span_after-span.result.begin c.span_after-span.result.end c.loop-field.placed
          c.add.new.list _ begin end c.in_ok-add.ensures.added c.loop-field.invariant.placed;
      end = rw end (rest_within known type_in c.args.fields.now c.loop-field.field-index 0 c.loop-field-test.true c.loop-field.end (2 ^ 24)
          c.loop-field.invariant.end);
    }
