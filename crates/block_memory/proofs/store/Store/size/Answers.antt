use Rattle.std.proofs.Common.{ap, ◌∙◌}
use Rattle.block_memory.proofs.Views.{size_is}
use Rattle.block_memory.proofs.store.Store.size.Goals as goal

pub returns : goal.returns
returns c = let s = c.args.self.now in ap (λ s. s.size) c.slot.ensures.is ∙ size_is s.slots s.arena s.free c.args.block s.sound
