use Rattle.std.proofs.Common.{arith, drop, refl, ◌+◌, ◌-◌, ◌^◌}
use Rattle.c_types.specs.Layouts.{layouts}
use Rattle.c_types.specs.Views.{records_of, types_of_fields}
use Rattle.c_typed.specs.TypeNumbers.{type_at}
use Rattle.layout_plan.proofs.Ends.{alignment_parts, end_parts, part_here}
use Rattle.layout_plan.proofs.parts.whole_size.Goals as goal

pub loop-fields-preserved : goal.loop-fields-preserved
loop-fields-preserved c =
    let known = layouts (records_of c.args.records.now) in
    let type_in = type_at (types_of_fields c.args.own.now) in
    let parts = c.args.parts.now in
    let i = c.loop-fields.fields-index in
    let fields = c.as_slice.result.now in
    let here = part_here parts parts i c.fields-item.result fields refl c.loop-fields-test.true c.fields-item.is c.as_slice.ensures in
    record {
      end = end_parts known type_in (drop i parts) (drop (i + 1) parts) fields here c.loop-fields.extent.end c.extent_after-extent.result.end (2 ^ 64 - 1) _
          c.extent_after-extent.ensures.end c.loop-fields.invariant.end;
      alignment = alignment_parts known type_in (drop i parts) (drop (i + 1) parts) fields here c.loop-fields.extent.alignment
          c.extent_after-extent.result.alignment _ c.extent_after-extent.ensures.alignment c.loop-fields.invariant.alignment;
      capped = omega (arith, c.extent_after-extent.ensures.end);
      positive = omega (arith, c.extent_after-extent.ensures.alignment, c.loop-fields.invariant.positive);
    }
