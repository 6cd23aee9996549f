use Rattle.std.proofs.Common.{◌≡◌}
use Rattle.c_typed.specs.RunCounts.Counting.{numbers_below}
use Rattle.layout_plan.proofs.planning.refused.Given as goal

abbrev pub invariant-loop-field : goal.invariant-loop-field
invariant-loop-field l = l.fields ≡ numbers_below l.field
