use Rattle.std.proofs.Common.{◌≡◌, ◌++◌, drop}
use Rattle.affinity.specs.Touched.{kept}
use Rattle.affinity.proofs.of_record.kept.Given as goal

abbrev pub invariant-loop-group : goal.invariant-loop-group
invariant-loop-group g l = l.those ++ kept l.group l.marks (drop l.group l.items) ≡ kept 0 l.marks l.items
