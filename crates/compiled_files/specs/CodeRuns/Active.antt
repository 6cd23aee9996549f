-- The functions that were entered and not left, and what their frames take together.
use Rattle.std.specs.Prelude.{◌≡◌, ℕ, ◌+◌, max, List, [], ◌∷◌, drop, Some, slice_get}
use Rattle.block_memory.specs.RunWorlds.Events.{Event, entered, left}
use Rattle.tac_ir.specs.Code.{Code, RoutineData}
use Rattle.tac_ir.specs.Running.{Caller}
use Rattle.compiled_files.specs.CodeRuns.Moments.{Moved, to, over}

-- the last one that was entered first
abbrev pub active : List Event → List ℕ
active [] = []
active (entered f ∷ before) = f ∷ active before
active (left ∷ before) = drop 1 (active before)
active (event ∷ before) = active before

-- where each function's frame has a size by its number
module _ (size : ℕ → ℕ) where
  abbrev pub frames : List ℕ → ℕ
  frames [] = 0
  frames (f ∷ more) = size f + frames more

  -- the most that the frames of all active calls were together
  abbrev pub greatest : List Event → ℕ
  greatest [] = 0
  greatest (entered f ∷ before) = max (frames (f ∷ active before)) (greatest before)
  greatest (event ∷ before) = greatest before

module _ (c : Code) where
  -- the calls that wait are of the functions of these numbers
  abbrev pub AreOf : (numbers : List ℕ) → List Caller → Type 0
  AreOf [] [] = Unit {0}
  AreOf (k ∷ numbers) (one ∷ callers) = (slice_get c.routines k ≡ Some one.routine) × AreOf numbers callers
  AreOf numbers callers = ⊥

  -- the function that runs has that number, those that wait have these, and they are the active ones
  pub record IsActive (number : ℕ) (numbers : List ℕ) (callers : List Caller) (g : RoutineData) (trace : List Event) : Type 0 where
    pub runs : slice_get c.routines number ≡ Some g
    pub wait : AreOf numbers callers
    pub are_active : active trace ≡ number ∷ numbers

  -- so it is for some numbers, where a run has not ended
  abbrev pub HasActive : Moved → Type 0
  HasActive (to m) = (number : ℕ) × (numbers : List ℕ) × IsActive number numbers m.callers m.routine m.world.trace
  HasActive (over e) = Unit {0}
