use Rattle.rv_machine.specs.View.{content_of}
use Rattle.rv_machine.proofs.Places.{one_not}
use Rattle.rv_machine.proofs.memory.Memory.byte_apart.Goals as goal

pub returns-in-None : goal.returns-in-None
returns-in-None c = one_not c.args.self.now c.args.flag c.args.address (content_of c.args.self.now c.args.address) c.in-None.ensures
