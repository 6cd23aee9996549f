-- The room that a light run has in the stack and in the heap.
use Rattle.std.specs.Prelude.{◌≡◌, ℕ, ◌+◌, ◌*◌, ◌^◌, ◌≤◌, List, ◌∷◌, slice_get, Option}
use Rattle.block_memory.specs.RunWorlds.Events.{Event, entered, allocated, heap_weight}
use Rattle.c_meaning.specs.Weights.{frame_of}
use Rattle.c_typed.specs.Programs.{ProgramData}
use Rattle.compiled_files.specs.CodeRuns.Active.{active, frames, greatest}
use Rattle.compiled_files.specs.CodeRuns.Growth.{Grew}

-- by its number, each function's frame is no larger than the weight of its calls
abbrev pub AreWithin : ProgramData → (size : ℕ → ℕ) → Type 0
AreWithin p size = (k : ℕ) → size k ≤ frame_of p (slice_get p.functions k)

-- where frames have these sizes, so many MiB hold all that was asked for, and the frames of all active calls with 16384 bytes beside them
pub record Fits (size : ℕ → ℕ) (heap stack : ℕ) (trace : List Event) : Type 0 where
  pub heap_fits : heap_weight trace ≤ heap * 2 ^ 20
  pub stack_fits : greatest size trace + 16384 ≤ stack * 2 ^ 20

-- frames stand one below the other from a stack's end, of which no more than 16384 bytes are taken before, down to the stack pointer. In a run that fits,
-- a function that is entered has room for its frame below that
abbrev pub CallHasRoom : Type 0
CallHasRoom = (size : ℕ → ℕ) (heap stack k : ℕ) (trace end : List Event) → Grew (entered k ∷ trace) end → Fits size heap stack end
    → (low pointer start : ℕ) → start ≤ 16384 → pointer + frames size (active trace) + start ≡ low + stack * 2 ^ 20 → low + size k ≤ pointer

-- what an allocation takes, with its head, is within the heap, and within its weight
pub record AllocationFits (low heap unused took : ℕ) (after : List Event) : Type 0 where
  pub has_room : unused + took ≤ low + heap * 2 ^ 20
  pub within : unused + took ≤ low + heap_weight after

-- blocks stand one behind the other from a heap's beginning on, and the unused heap begins within the weight so far. So it does behind the next one
abbrev pub AllocationHasRoom : Type 0
AllocationHasRoom = (size : ℕ → ℕ) (heap stack block : ℕ) (elements : Option (ℕ × ℕ)) (n : ℕ) (trace end : List Event)
    → Grew (allocated block elements n ∷ trace) end → Fits size heap stack end
    → (low unused took : ℕ) → unused ≤ low + heap_weight trace → took ≤ 16 * n + 256
    → AllocationFits low heap unused took (allocated block elements n ∷ trace)
