use Rattle.std.proofs.Common.{◌≡◌, length, ◌+◌, ◌≤◌, drop}
use Rattle.std.specs.Prelude.{map}
use Rattle.c_typed.specs.RunCounts.Order.{defined_from, defined_in}
use Rattle.c_typed.specs.Programs.{data_of, program_data}
use Rattle.c_typed.proofs.run_counts.numbers.function_count.Given as goal

abbrev pub invariant-loop-f : goal.invariant-loop-f
invariant-loop-f l =
    (l.count ≤ l.f-index)
    × (l.count + length (defined_from l.f-index (map data_of (drop l.f-index l.p.functions))) ≡ length (defined_in (program_data l.fn.p)))
