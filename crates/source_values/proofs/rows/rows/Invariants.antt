use Rattle.std.proofs.Common.{◌≡◌}
use Rattle.c_typed.specs.Programs.{program_data}
use Rattle.source_values.specs.Rows.{rows_of}
use Rattle.source_values.proofs.rows.rows.Given as goal

abbrev pub invariant-loop-index : goal.invariant-loop-index
invariant-loop-index l = l.rows.items ≡ rows_of (program_data l.typed) l.index
