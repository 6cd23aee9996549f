use Rattle.std.proofs.Common.{false}
use Rattle.std.proofs.lemmas.Option.{get_or_from_slice_get}
use Rattle.c_typed.specs.Programs.{program_data}
use Rattle.layout_plan.proofs.Next.{planned_more}
use Rattle.layout_plan.proofs.planning.plan.Goals as goal

pub loop-number-preserved : goal.loop-number-preserved
loop-number-preserved c =
    let here = c.in_ok-peelable.ensures.each c.loop-number.number (rw (← c.len-number-end.ensures) c.loop-number-test.true) in
    rw c.in_ok-add.ensures.added (planned_more (program_data c.args.p.now) c.args.facts.now c.args.v.now.list c.args.w.now c.args.p.now.records
    c.loop-number.number _ c.of.result c.loop-number.records _ c.in_ok-plan.plan
    (rw c.as_slice.ensures (get_or_from_slice_get c.in_ok-peelable.peelable c.loop-number.number _ false here)) c.of.ensures c.in_ok-plan.ensures
    c.loop-number.invariant)
