use Rattle.std.proofs.Common.{◌≡◌, ◌^◌, arith}
use Rattle.c_types.specs.Layouts.{begin_after, end_after}
use Rattle.c_types.specs.Views.{type_of}
use Rattle.c_types.proofs.Ends.{within, offset_more}
use Rattle.c_types.proofs.laying.offsets.Goals as goal

pub overflow_cast-span : goal.overflow_cast-span
overflow_cast-span c =
    let near = within c.args.known.now c.args.fields.now c.loop-field.field-index c.field-item.result c.loop-field.end (2 ^ 24) c.loop-field-test.true
    c.field-item.is c.loop-field.invariant.end in
    omega (arith, near.this)

pub loop-field-preserved : goal.loop-field-preserved
loop-field-preserved c =
    let near = within c.args.known.now c.args.fields.now c.loop-field.field-index c.field-item.result c.loop-field.end (2 ^ 24) c.loop-field-test.true
    c.field-item.is c.loop-field.invariant.end in
    let t = type_of c.field-item.result.ty in
    let begin : c.span_after-span.result.begin ≡ begin_after c.args.known.now c.loop-field.end t = omega (arith, near.this) in
    let end : c.span_after-span.result.end ≡ end_after c.args.known.now c.loop-field.end t = omega (arith, near.this) in
    record {
      offsets = offset_more c.args.known.now c.args.fields.now c.loop-field.field-index c.field-item.result c.loop-field.end
          c.span_after-span.result.begin c.span_after-span.result.end c.loop-field.offsets c.add.new.list _ c.loop-field-test.true c.field-item.is begin end
          c.in_ok-add.ensures.added c.loop-field.invariant.offsets;
      end = rw end near.more;
    }
