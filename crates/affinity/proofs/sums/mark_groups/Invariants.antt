use Rattle.std.proofs.Common.{◌≡◌, drop, fold}
use Rattle.affinity.specs.Touched.{marked_group}
use Rattle.affinity.proofs.sums.mark_groups.Given as goal

abbrev pub invariant-loop-a : goal.invariant-loop-a
invariant-loop-a l = fold marked_group l.marks (drop l.a-index l.all) ≡ fold marked_group l.fn.marks l.all
