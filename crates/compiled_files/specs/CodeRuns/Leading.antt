-- To what a part of a run leads, whatever the steps behind it do.
use Rattle.std.specs.Prelude.{◌≡◌, ℕ, List}
use Rattle.block_memory.specs.RunWorlds.Events.{Event}
use Rattle.block_memory.specs.RunWorlds.Worlds.{World, End}
use Rattle.tac_ir.specs.Code.{Code, RoutineData}
use Rattle.tac_ir.specs.Running.{Caller, Next}
use Rattle.compiled_files.specs.CodeRuns.Active.{active, AreOf, IsActive, HasActive}
use Rattle.compiled_files.specs.CodeRuns.Growth.{Onward}
use Rattle.compiled_files.specs.CodeRuns.Moments.{Moved, world_behind, go_on}

-- to one moment or the end, later than the world from which it goes; and something holds of these
pub record Leads (w : World) (Holds : Moved → Type 0) (run : Next → End) : Type 0 where
  pub moved : Moved
  pub is : (next : Next) → run next ≡ go_on next moved
  pub onward : Onward w (world_behind moved)
  pub holds : Holds moved

module _ (c : Code) where
  -- where the active functions are the one that runs and those that wait, they are so behind it
  abbrev pub KeepsActive : List Caller → RoutineData → List Event → Moved → Type 0
  KeepsActive callers g trace moved = (number : ℕ) (numbers : List ℕ) → IsActive c number numbers callers g trace → HasActive c moved

  -- where the active functions are those that wait: a function is entered next, or one has been left
  abbrev pub MakesActive : List Caller → List Event → Moved → Type 0
  MakesActive callers trace moved = (numbers : List ℕ) → AreOf c numbers callers → active trace ≡ numbers → HasActive c moved
