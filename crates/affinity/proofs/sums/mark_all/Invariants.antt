use Rattle.std.proofs.Common.{◌≡◌, drop, fold}
use Rattle.affinity.specs.Touched.{marked}
use Rattle.affinity.proofs.sums.mark_all.Given as goal

abbrev pub invariant-loop-a : goal.invariant-loop-a
invariant-loop-a l = fold (marked l.of l.field) l.marks (drop l.a-index l.all) ≡ fold (marked l.of l.field) l.fn.marks l.all
