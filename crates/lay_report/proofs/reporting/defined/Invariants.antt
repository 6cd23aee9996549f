use Rattle.std.proofs.Common.{◌≡◌, ◌++◌, drop}
use Rattle.c_types.specs.Views.{records_of}
use Rattle.lay_report.specs.Reports.{defined_from}
use Rattle.lay_report.proofs.reporting.defined.Given as goal

abbrev pub invariant-loop-number : goal.invariant-loop-number
invariant-loop-number l = l.all.items ++ defined_from l.number (records_of (drop l.number l.records)) ≡ defined_from 0 (records_of l.records)
