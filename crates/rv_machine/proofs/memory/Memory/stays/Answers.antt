use Rattle.rv_machine.proofs.Standing.{not_written}
use Rattle.rv_machine.proofs.memory.Memory.stays.Goals as goal

pub returns-in-Some : goal.returns-in-Some
returns-in-Some c = λ no. not_written _ _ c.args.pc 4 c.in-Some.row c.allows.result c.args.self.now.sound c.in-Some.ensures.0 c.in-Some.ensures.2
    c.in-Some.ensures.3 c.allows.ensures no
