use Rattle.std.proofs.Common.{sym, ◌∙◌, arith}
use Rattle.rv_machine.proofs.Places.{mapped_rest, mapped_first_not, mapped_nothing}
use Rattle.rv_machine.proofs.memory.Memory.may_use.Goals as goal

pub loop-left-preserved : goal.loop-left-preserved
loop-left-preserved c =
    let s = c.in-Some.ensures in
    (omega (arith, s.2), c.loop-left.invariant.1 ∙ mapped_rest _ _ _ c.in-Some.stretch.count c.loop-left.left s.0.mapped s.2)

pub returns-in-None : goal.returns-in-None
returns-in-None c = sym (c.loop-left.invariant.1 ∙ mapped_first_not _ _ _ c.loop-left.left c.loop-left-test.true c.in-None.ensures)

pub returns : goal.returns
returns c = sym (c.loop-left.invariant.1 ∙ mapped_nothing _ _ _ c.loop-left.left (omega arith))
