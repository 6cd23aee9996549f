use Rattle.std.proofs.Common.{◌≡◌, true, sym, ap, ◌∙◌}
use Rattle.block_memory.specs.Slots.{holds, slot_at}
use Rattle.block_memory.proofs.Gathering.{settled_from}
use Rattle.block_memory.proofs.store.Store.unsettle.Goals as goal

pub invariant_of-self : goal.invariant_of-self
invariant_of-self c =
    let s = c.args.self.now in
    let held : holds (slot_at s.slots c.args.block) ≡ true = ap holds (sym c.requires) ∙ sym c.holds.ensures ∙ c.if-holds.true in
    record { sound = s.sound; settles = settled_from s.slots s.arena s.free c.args.block c.args.slot.start s.sound held (ap (λ s. s.start) c.requires) }
