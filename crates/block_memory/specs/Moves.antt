-- Live blocks that are moved together, one after the other.
use Rattle.std.specs.Prelude.{◌≡◌, ℕ, ◌<◌, ◌≤◌, true, List, length}
use Rattle.block_memory.specs.declared.slot.Slot.{Slot}
use Rattle.block_memory.specs.Slots.{end_of, holds, slot_at}

-- blocks before one have their cells before a word, and it and those behind have theirs from that word on
pub record IsGathered (slots : List Slot) (block to : ℕ) : Type 0 where
  pub before : (b : ℕ) → b < block → holds (slot_at slots b) ≡ true → end_of (slot_at slots b) ≤ to
  pub behind : (b : ℕ) → block ≤ b → holds (slot_at slots b) ≡ true → to ≤ (slot_at slots b).start

-- what always holds of the blocks that need not be looked at when others are moved: they lie before a word, and the others behind it
pub record IsSettled (slots : List Slot) (free block to : ℕ) : Type 0 where
  pub gathered : IsGathered slots block to
  pub known : block ≤ length slots
  pub within : to ≤ free
