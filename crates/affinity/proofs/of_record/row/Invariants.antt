use Rattle.std.proofs.Common.{◌≡◌, map, take}
use Rattle.affinity.specs.Touched.{common}
use Rattle.affinity.proofs.of_record.row.Given as goal

abbrev pub invariant-loop-other : goal.invariant-loop-other
invariant-loop-other l = l.sums ≡ map (λ other. common 0 l.weights l.one other) (take l.other-index l.columns)
