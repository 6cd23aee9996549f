-- The locals of the function that runs.
use Rattle.std.specs.Prelude.{ℕ, Bool, true, false, [], ◌∷◌, Option, Some, None, replicate, slice_get, slice_set}
use Rattle.memory_words.specs.declared.cell_words.cell.Cell.TheVariants.{Empty}
use Rattle.block_memory.specs.declared.kinds.BlockKind.TheVariants as Kind
use Rattle.c_meaning.specs.Frames.{Frame}
use Rattle.c_meaning.specs.declared.frame.Slot.{Slot}
use Rattle.c_meaning.specs.declared.frame.Slot.TheVariants.{ByName, InBlock}
use Rattle.source_state.specs.Steps.Cores.{Core, Does, and_then, done}
use Rattle.source_state.specs.Steps.Memories.{put_cells, make, end}

abbrev pub slot : Core → (local : ℕ) → Option Slot
slot c x = slice_get c.frame x

abbrev pub with_slot : (local : ℕ) → Slot → Core → Core
with_slot x s c = record c { frame = slice_set c.frame x s }

-- ---- scopes

abbrev pub end_slot : (local : ℕ) → Option Slot → Core → Core
end_slot x (Some (InBlock (Some b))) c = with_slot x (InBlock None) (end b c)
end_slot x s c = c

abbrev pub finish : (local : ℕ) → Core → Core
finish x c = end_slot x (slot c x) c

-- a local of so many bytes is made, in a block or not; a block that has begun ends before it begins anew
abbrev pub begin_as : (local : ℕ) → (block : Bool) → (size : ℕ) → Core → Does (Unit {0})
begin_as x true size c = and_then (make size Kind.Local (finish x c)) (λ b c. done tt (with_slot x (InBlock (Some b)) c))
begin_as x false size c = done tt (with_slot x (ByName None) c)

-- where a declaration without an initializer is reached, the object is empty again
abbrev pub emptied : (local size : ℕ) → Option Slot → Core → Core
emptied x size (Some (InBlock (Some b))) c = put_cells b 0 (replicate size Empty) c
emptied x size (Some (ByName v)) c = with_slot x (ByName None) c
emptied x size s c = c

-- ---- what has begun ends with its function, the first local first

abbrev pub end_of : Slot → Core → Core
end_of (InBlock (Some b)) c = end b c
end_of s c = c

abbrev pub end_all : Frame → Core → Core
end_all [] c = c
end_all (s ∷ more) c = end_all more (end_of s c)
