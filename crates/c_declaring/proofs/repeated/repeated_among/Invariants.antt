use Rattle.std.proofs.Common.{◌≡◌, [], drop}
use Rattle.c_erasure.specs.Checking.Declaring.{repeated}
use Rattle.c_declaring.specs.Adding.{lent}
use Rattle.c_declaring.proofs.repeated.repeated_among.Given as goal

abbrev pub invariant-loop-y : goal.invariant-loop-y
invariant-loop-y l = repeated (lent l.standing.found.items) (lent (drop l.y-index l.all)) ≡ repeated [] (lent l.all)
