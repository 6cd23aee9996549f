use Rattle.rv_isa.specs.Memory.{writable}
use Rattle.rv_machine.proofs.Stores.{byte_put}
use Rattle.rv_machine.proofs.memory.Memory.store_byte.Goals as goal

pub returns-in-Some-clause-content : goal.returns-in-Some-clause-content
returns-in-Some-clause-content c = byte_put c.args.self.now writable c.args.address c.in-Some.place c.args.value c.in-Some.ensures
