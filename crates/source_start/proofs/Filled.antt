-- An empty room that takes the memory of the objects is that of the start.
use Rattle.std.proofs.Common.{◌≡◌, ap, ◌∙◌, ℕ}
use Rattle.block_memory.specs.Blocks.{Memory}
use Rattle.c_meaning.specs.Program.{initial_memory}
use Rattle.c_typed.specs.Programs.{ProgramData}
use Rattle.block_memory.specs.RunWorlds.Worlds.{live_bytes}
use Rattle.source_state.specs.RoomView.{empty_core}
use Rattle.source_state.specs.Steps.AtStart.{core_at_start}
use Rattle.source_state.specs.Steps.Cores.{Core}
use Rattle.source_state.specs.Steps.Counting.{Counting}

pub filled : (p : ProgramData) (turns : ℕ) (counts : Counting) (old : Core) (memory : Memory) (live : ℕ)
    → old ≡ empty_core turns counts → memory ≡ initial_memory p → live ≡ live_bytes (initial_memory p)
    → record old { memory = memory; live = live } ≡ core_at_start p turns counts
filled p turns counts old memory live e f g = ap (λ (c : Core). record c { memory = memory; live = live }) e
    ∙ ap (λ (m : Memory). record (empty_core turns counts) { memory = m; live = live }) f
    ∙ ap (λ (n : ℕ). record (empty_core turns counts) { memory = initial_memory p; live = n }) g
