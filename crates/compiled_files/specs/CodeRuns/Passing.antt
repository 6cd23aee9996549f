-- Through which moments a run of code passes.
use Rattle.std.specs.Prelude.{◌≡◌, ℕ, ◌+◌, List}
use Rattle.c_types.specs.Types.{CType}
use Rattle.block_memory.specs.RunWorlds.Worlds.{World, End, world_of}
use Rattle.tac_ir.specs.Code.{Code}
use Rattle.tac_ir.specs.Running.{go}
use Rattle.compiled_files.specs.CodeRuns.Active.{HasActive}
use Rattle.compiled_files.specs.CodeRuns.Growth.{Onward}
use Rattle.compiled_files.specs.CodeRuns.Moments.{Moved, world_behind, go_on}

module _ (types : List CType) (c : Code) where
  -- a run is so far after k steps: at a moment, or it has ended
  pub record Passes (w : World) (k : ℕ) (run : ℕ → End) : Type 0 where
    pub moved : Moved
    pub is : (n : ℕ) → run (k + n) ≡ go_on (go types c n) moved
    pub onward : Onward w (world_behind moved)
    pub active : HasActive c moved

  -- and its end is later
  pub record PassesTo (e : End) (w : World) (k : ℕ) (run : ℕ → End) : Type 0 where
    pub passes : Passes w k run
    pub onward : Onward (world_behind passes.moved) (world_of e)
