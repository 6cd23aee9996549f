use Rattle.std.proofs.Common.{◌≡◌, drop}
use Rattle.c_link.specs.Missing.{have_none}
use Rattle.c_link.proofs.structures.have_none.Given as goal

abbrev pub invariant-loop-least : goal.invariant-loop-least
invariant-loop-least l = have_none (drop l.least-index l.leasts) ≡ have_none l.leasts
