use Rattle.std.proofs.Common.{ap, List, None, Some}
use Rattle.tac_ir.specs.declared.step.Step.{Step}
use Rattle.tac_engine.specs.View.{state_of}
use Rattle.tac_engine.proofs.Leading.{led_label}
use Rattle.tac_engine.proofs.engine.Engine.jump.Goals as goal

pub returns-in-Some : goal.returns-in-Some
returns-in-Some c = rw c.in-Label.is (ap (λ (code : List Step). record (state_of c.args.self.now) { more = code })
    (led_label c.args.self.now.routine.now c.in-Label.l (Some c.in-Some.n.now) c.in-Some.ensures.value))

pub returns-in-None : goal.returns-in-None
returns-in-None c = rw c.in-Label.is (ap (λ (code : List Step). record (state_of c.args.self.now) { more = code })
    (led_label c.args.self.now.routine.now c.in-Label.l None c.in-None.ensures.value))
