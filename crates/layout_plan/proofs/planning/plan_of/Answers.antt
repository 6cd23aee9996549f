use Rattle.layout_plan.proofs.Fields.{are_own}
use Rattle.layout_plan.proofs.planning.plan_of.Goals as goal

pub outline_of-requires : goal.outline_of-requires
outline_of-requires c = are_own c.args.records.now _ c.args.number c.get.result.now c.get.ensures c.as_slice-own.ensures

pub outlines_are_small-requires : goal.outlines_are_small-requires
outlines_are_small-requires c = are_own c.args.records.now _ c.args.number c.get.result.now c.get.ensures c.as_slice-own.ensures

pub record_plan-requires-clause-own : goal.record_plan-requires-clause-own
record_plan-requires-clause-own c = are_own c.args.records.now _ c.args.number c.get.result.now c.get.ensures c.as_slice-own.ensures
