use Rattle.std.proofs.Common.{arith, ◌-◌, ◌^◌}
use Rattle.c_types.proofs.Ends.{capped_more}
use Rattle.c_types.proofs.laying.end.Goals as goal

pub loop-field-preserved : goal.loop-field-preserved
loop-field-preserved c = record {
  end = capped_more c.args.known.now c.args.fields.now c.loop-field.field-index c.field-item.result c.loop-field.end c.span_after-end.result.end
      (2 ^ 64 - 1) _ c.loop-field-test.true c.field-item.is c.span_after-end.ensures.end c.loop-field.invariant.end;
  capped = omega arith;
}
