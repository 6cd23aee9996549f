use Rattle.std.proofs.Common.{◌≡◌, ◌++◌, drop, map, replicate}
use Rattle.c_typed.specs.RunCounts.Loops.{loops_of}
use Rattle.c_typed.specs.Programs.{data_of, program_data}
use Rattle.source_start.specs.Zeros.{no_counts, rows_of}
use Rattle.source_start.proofs.counters.rows.Given as goal

abbrev pub invariant-loop-f : goal.invariant-loop-f
invariant-loop-f l = rows_of l.rows.items ++ map (λ f. replicate (loops_of f) 0) (map data_of (drop l.f-index l.f-items)) ≡ (no_counts (program_data l.p)).begins
