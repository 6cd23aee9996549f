use Rattle.std.proofs.Common.{◌≡◌}
use Rattle.std.specs.Prelude.{filter}
use Rattle.c_typed.specs.RunCounts.Counting.{numbers_below}
use Rattle.affinity.specs.FieldWeights.{is_read_in}
use Rattle.layout_plan.proofs.outlining.read.Given as goal

abbrev pub invariant-loop-f : goal.invariant-loop-f
invariant-loop-f l = l.all ≡ filter (is_read_in l.w) (numbers_below l.f)
