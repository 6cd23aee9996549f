-- When a run of code comes to the end of a run of the source.
use Rattle.std.specs.Prelude.{◌≡◌, ℕ, ◌+◌}
use Rattle.block_memory.specs.RunWorlds.Worlds.{End}

-- so many steps, and any more, come to that end
pub record Covers (e : End) (run : ℕ → End) : Type 0 where
  pub steps : ℕ
  pub is : (more : ℕ) → run (steps + more) ≡ e
