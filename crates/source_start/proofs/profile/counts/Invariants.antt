use Rattle.std.proofs.Common.{◌≡◌, map, take}
use Rattle.c_typed.specs.RunCounts.Counting.{count_at}
use Rattle.c_typed.specs.Programs.{program_data}
use Rattle.source_state.specs.CountsView.{counting_of}
use Rattle.source_start.specs.Counted.{begin_in, entry_in}
use Rattle.source_start.proofs.profile.counts.Given as goal

abbrev pub invariant-loop-f : goal.invariant-loop-f
invariant-loop-f l = l.functions
    ≡ map (λ f. count_at (entry_in (counting_of l.counters)) (begin_in (counting_of l.counters)) (program_data l.p) f.number) (take l.f-index l.f-items)
