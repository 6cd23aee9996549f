use Rattle.std.proofs.Common.{◌≡◌, map}
use Rattle.c_typed.specs.RunCounts.Counting.{numbers_below}
use Rattle.affinity.specs.Sums.{is_read}
use Rattle.affinity.proofs.of_record.reads.Given as goal

abbrev pub invariant-loop-f : goal.invariant-loop-f
invariant-loop-f l = l.reads ≡ map (λ f. is_read l.of f l.all) (numbers_below l.f)
