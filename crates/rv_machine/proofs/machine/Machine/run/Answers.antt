use Rattle.rv_machine.proofs.Ending.{fresh_gives}
use Rattle.rv_machine.proofs.machine.Machine.run.Goals as goal

pub returns-clause-gives : goal.returns-clause-gives
returns-clause-gives g c = λ image fresh. fresh_gives image c.args.self.now c.args.steps _ _ _ c.go-end.result fresh c.go-end.ensures
