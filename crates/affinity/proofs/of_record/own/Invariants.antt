use Rattle.std.proofs.Common.{◌≡◌, ◌++◌, drop}
use Rattle.affinity.specs.Touched.{own}
use Rattle.affinity.proofs.of_record.own.Given as goal

abbrev pub invariant-loop-a : goal.invariant-loop-a
invariant-loop-a l = l.those ++ own l.of (drop l.a-index l.all) ≡ own l.of l.all
