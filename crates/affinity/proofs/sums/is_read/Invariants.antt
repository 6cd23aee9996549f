use Rattle.std.proofs.Common.{◌≡◌, drop}
use Rattle.affinity.specs.Sums.{is_read}
use Rattle.affinity.proofs.sums.is_read.Given as goal

abbrev pub invariant-loop-a : goal.invariant-loop-a
invariant-loop-a l = is_read l.of l.field (drop l.a-index l.all) ≡ is_read l.of l.field l.all
