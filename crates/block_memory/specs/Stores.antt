-- A store as memory, and what its calls do.
use Rattle.std.specs.Prelude.{◌≡◌, ℕ, ◌+◌, ◌*◌, ◌%◌, ◌==◌, ◌<◌, ◌≤◌, ◌^◌, Bool, true, ◌&&◌, nat_le, if◌then◌else◌, List, length, Result, Ok, Err, MatchResult}
use Rattle.lay_base.specs.declared.faults.UndefinedKind.{UndefinedKind}
use Rattle.lay_base.specs.declared.faults.UndefinedKind.TheVariants as K
use Rattle.lay_base.specs.declared.no_memory.NoMemory.{NoMemory}
use Rattle.block_memory.specs.declared.kinds.BlockKind.{BlockKind}
use Rattle.block_memory.specs.declared.slot.Slot.{Slot}
use Rattle.block_memory.specs.Accesses.{is_text}
use Rattle.block_memory.specs.Blocks.{Memory}
use Rattle.block_memory.specs.Lifetimes.{with_block}
use Rattle.block_memory.specs.Slots.{slot_at}
use Rattle.block_memory.specs.Tested.{Tested}

-- ---- accesses

-- the tests on a block and its size
abbrev pub tests : Slot → (at count width : ℕ) → (stores : Bool) → Tested (Unit {0})
tests slot at count width stores =
    if nat_le (at + count) slot.size then
    (if at % width == 0 then (if stores && is_text slot.kind then Err K.ReadOnly else Ok tt) else Err K.Align)
    else Err K.Outside

-- an offset in a live block with so many cells behind it, and where it lies among all cells
pub record IsPlace (slots : List Slot) (b cell at count : ℕ) : Type 0 where
  pub lives : (slot_at slots b).live ≡ true
  pub lies : cell ≡ 4 * (slot_at slots b).start + at
  pub fits : at + count ≤ (slot_at slots b).size
  pub small : cell < 2 ^ 34

-- what a call that changes memory does: its step, or, with the kind, nothing
abbrev pub Does : Result (Unit {0}) UndefinedKind → (old new : Memory) → Tested Memory → Type 0
Does result old new defined = MatchResult result (λ _. defined ≡ Ok new) (λ kind. (defined ≡ Err kind) × (new ≡ old))

-- the number of the new block, or nothing has changed
abbrev pub AllocGives : (old new : Memory) → (size : ℕ) → BlockKind → Result ℕ NoMemory → Type 0
AllocGives old new size kind result = MatchResult result (λ b. (b ≡ length old) × (new ≡ with_block old size kind)) (λ refused. new ≡ old)
