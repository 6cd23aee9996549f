use Rattle.std.proofs.Common.{◌≡◌, map, take}
use Rattle.affinity.specs.Touched.{common}
use Rattle.affinity.proofs.of_record.rows.Given as goal

abbrev pub invariant-loop-one : goal.invariant-loop-one
invariant-loop-one l = l.rows ≡ map (λ one. map (λ other. common 0 l.weights one other) l.columns) (take l.one-index l.one-items)
