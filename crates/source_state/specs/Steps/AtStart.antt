-- What a run starts with.
use Rattle.std.specs.Prelude.{◌≡◌, ℕ, zero, List, [], Some, slice_get}
use Rattle.c_typed.specs.Programs.{ProgramData}
use Rattle.block_memory.specs.RunWorlds.Worlds.{live_bytes}
use Rattle.c_meaning.specs.Program.{initial_memory}
use Rattle.source_state.specs.Steps.Cores.{Core}
use Rattle.source_state.specs.Steps.Counting.{Counting}

pub record AreZero (counts : Counting) : Type 0 where
  pub entries : (f n : ℕ) → slice_get counts.entries f ≡ Some n → n ≡ zero
  pub begins : (f l n : ℕ) → (loops : List ℕ) → slice_get counts.begins f ≡ Some loops → slice_get loops l ≡ Some n → n ≡ zero

abbrev pub core_at_start : ProgramData → (turns : ℕ) → Counting → Core
core_at_start p turns counts = record {
  frame = [];
  memory = initial_memory p;
  live = live_bytes (initial_memory p);
  turns = turns;
  depth = 0;
  counts = counts;
}
