use Rattle.std.proofs.Common.{sym, ◌∙◌}
use Rattle.rv_isa.specs.Memory.{writable}
use Rattle.rv_machine.proofs.Places.{one_mapped}
use Rattle.rv_machine.proofs.Stores.{byte_put}
use Rattle.rv_machine.proofs.memory.Memory.put.Goals as goal

pub returns-in-Some-clause-mapped : goal.returns-in-Some-clause-mapped
returns-in-Some-clause-mapped c = sym (sym (one_mapped _ _ _) ∙ c.in-Some.ensures.mapped)

pub returns-in-Some-clause-content : goal.returns-in-Some-clause-content
returns-in-Some-clause-content c = byte_put c.args.self.now writable c.args.address c.in-Some.place c.args.value c.in-Some.ensures
