-- The counts of a run as plain data.
use Rattle.std.specs.Prelude.{map}
use Rattle.source_state.specs.declared.counting.Counters.{Counters}
use Rattle.source_state.specs.Steps.Counting.{Counting}

abbrev pub counting_of : Counters → Counting
counting_of c = record { entries = c.entries.items; begins = map (λ loops. loops.items) c.begins.items }
