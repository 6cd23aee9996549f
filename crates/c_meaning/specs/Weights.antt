-- How much room a run takes, in quantities of the source alone (own).
use Rattle.std.specs.Prelude.{ℕ, ◌+◌, ◌*◌, ◌^◌, ◌≤◌, max, Bool, true, false, List, [], ◌∷◌, ◌++◌, Option, Some, None, slice_get, drop}
use Rattle.c_typed.specs.declared.program.Local.{Local}
use Rattle.c_typed.specs.Programs.{ProgramData, FunctionData}
use Rattle.block_memory.specs.RunWorlds.Events.{Event, entered, left, heap_weight}
use Rattle.block_memory.specs.RunWorlds.Worlds.{world_of}
use Rattle.c_meaning.specs.Program.{size_at, all_locals}
use Rattle.c_meaning.specs.Run.{run_of}

module _ (p : ProgramData) where
  -- in bytes
  abbrev pub size_of_locals : List Local → ℕ
  size_of_locals [] = 0
  size_of_locals (l ∷ more) = size_at p l.ty + size_of_locals more

  -- of one call
  abbrev pub frame_of : Option FunctionData → ℕ
  frame_of None = 0
  frame_of (Some g) = 512 + 64 * g.nodes + 8 * size_of_locals (all_locals g)

  -- the functions that were entered and not left, the last first
  abbrev pub active : List Event → List ℕ
  active [] = []
  active (entered f ∷ before) = f ∷ active before
  active (left ∷ before) = drop 1 (active before)
  active (event ∷ before) = active before

  abbrev pub frames : List ℕ → ℕ
  frames [] = 0
  frames (f ∷ more) = frame_of (slice_get p.functions f) + frames more

  -- the greatest that the frames of all active calls were together
  abbrev pub greatest_frames : List Event → ℕ
  greatest_frames [] = 0
  greatest_frames (entered f ∷ before) = max (frames (f ∷ active before)) (greatest_frames before)
  greatest_frames (event ∷ before) = greatest_frames before

  abbrev pub stack_weight : List Event → ℕ
  stack_weight trace = 16384 + greatest_frames trace

  -- a run fits in so many MiB of heap and of stack
  pub record IsLight (heap stack : ℕ) (input : List ℕ) (turns : ℕ) : Type 0 where
    pub heap_fits : heap_weight ((world_of (run_of p input turns false)).trace) ≤ heap * 2 ^ 20
    pub stack_fits : stack_weight ((world_of (run_of p input turns false)).trace) ≤ stack * 2 ^ 20
