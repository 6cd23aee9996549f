use Rattle.std.proofs.Common.{◌≡◌, length, map}
use Rattle.c_typed.specs.RunCounts.Counting.{numbers_below}
use Rattle.affinity.specs.Touched.{kept, touched}
use Rattle.affinity.proofs.of_record.columns.Given as goal

abbrev pub invariant-loop-f : goal.invariant-loop-f
invariant-loop-f l = l.columns ≡ map (λ f. kept 0 l.marks (touched l.of f (length l.marks) l.all)) (numbers_below l.f)
