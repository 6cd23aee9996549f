use Rattle.std.proofs.Common.{arith, ◌-◌, ◌^◌}
use Rattle.c_types.specs.Layouts.{layouts}
use Rattle.c_types.specs.Views.{records_of, types_of_fields}
use Rattle.c_typed.specs.TypeNumbers.{type_at}
use Rattle.layout_plan.proofs.Ends.{alignment_more, end_more}
use Rattle.layout_plan.proofs.parts.extent_after.Goals as goal

pub loop-field-preserved : goal.loop-field-preserved
loop-field-preserved c =
    let known = layouts (records_of c.args.records.now) in
    let type_in = type_at (types_of_fields c.args.own.now) in
    record {
      end = end_more known type_in c.args.fields.now c.loop-field.field-index 0 c.loop-field-test.true c.loop-field.end c.span_after-end.result.end
          (2 ^ 64 - 1) _ c.span_after-end.ensures.end c.loop-field.invariant.end;
      alignment = alignment_more known type_in c.args.fields.now c.loop-field.field-index 0 c.loop-field-test.true c.loop-field.alignment
          c.max-alignment.result _ (omega (arith, c.max-alignment.ensures, c.alignment_at.ensures.value)) c.loop-field.invariant.alignment;
      capped = omega (arith, c.span_after-end.ensures.end);
      positive = omega (arith, c.max-alignment.ensures, c.loop-field.invariant.positive);
    }
