-- What a run keeps, as plain data.
use Rattle.std.specs.Prelude.{ℕ, []}
use Rattle.block_memory.specs.View.{memory_of}
use Rattle.source_state.specs.CountsView.{counting_of}
use Rattle.source_state.specs.declared.room.Room.{Room}
use Rattle.source_state.specs.Steps.Cores.{Core}
use Rattle.source_state.specs.Steps.Counting.{Counting}

abbrev pub core_of : Room → Core
core_of r = record {
  frame = r.frame.items;
  memory = memory_of r.store;
  live = r.live;
  turns = r.turns;
  depth = r.depth;
  counts = counting_of r.counts;
}

-- what is kept before there is a program
abbrev pub empty_core : (turns : ℕ) → Counting → Core
empty_core turns counts = record { frame = []; memory = []; live = 0; turns = turns; depth = 0; counts = counts }
