use Rattle.std.proofs.Common.{◌≡◌, ◌++◌, drop}
use Rattle.std.specs.Prelude.{map}
use Rattle.c_typed.specs.RunCounts.Order.{defined_from, defined_in}
use Rattle.c_typed.specs.Programs.{data_of, program_data}
use Rattle.c_typed.proofs.run_counts.order.defined_in.Given as goal

abbrev pub invariant-loop-number : goal.invariant-loop-number
invariant-loop-number l = l.all.items ++ defined_from l.number (map data_of (drop l.number l.p.functions)) ≡ defined_in (program_data l.fn.p)
