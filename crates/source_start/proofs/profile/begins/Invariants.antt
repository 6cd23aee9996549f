use Rattle.std.proofs.Common.{◌≡◌, map}
use Rattle.c_typed.specs.RunCounts.Counting.{numbers_below}
use Rattle.source_state.specs.CountsView.{counting_of}
use Rattle.source_start.specs.Counted.{begin_in}
use Rattle.source_start.proofs.profile.begins.Given as goal

abbrev pub invariant-loop-l : goal.invariant-loop-l
invariant-loop-l l = l.all.items ≡ map (begin_in (counting_of l.counters) l.f) (numbers_below l.l)
