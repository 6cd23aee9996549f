use Rattle.std.proofs.Common.{◌≡◌, map}
use Rattle.c_typed.specs.RunCounts.Counting.{numbers_below}
use Rattle.affinity.specs.Sums.{hotness}
use Rattle.affinity.proofs.of_record.sums.Given as goal

abbrev pub invariant-loop-f : goal.invariant-loop-f
invariant-loop-f l = l.sums ≡ map (λ f. hotness l.groups l.of f l.all) (numbers_below l.f)
