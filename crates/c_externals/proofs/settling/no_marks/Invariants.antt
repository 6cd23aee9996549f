use Rattle.std.proofs.Common.{◌≡◌, []}
use Rattle.c_externals.specs.Settling.{marks_from}
use Rattle.c_externals.proofs.settling.no_marks.Given as goal

abbrev pub invariant-loop-n : goal.invariant-loop-n
invariant-loop-n l = l.marks.items ≡ marks_from [] 0 l.n
