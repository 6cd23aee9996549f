-- That the block of a local has room.
use Rattle.std.specs.Prelude.{ℕ, ◌≤◌, Option, Some}
use Rattle.block_memory.specs.Blocks.{Memory, size}
use Rattle.c_meaning.specs.declared.frame.Slot.{Slot}
use Rattle.c_meaning.specs.declared.frame.Slot.TheVariants.{InBlock}

-- for so many bytes, where the local has a block
abbrev pub HasRoom : (count : ℕ) → Option Slot → Memory → Type 0
HasRoom n (Some (InBlock (Some b))) m = n ≤ size m b
HasRoom n s m = Unit {0}
