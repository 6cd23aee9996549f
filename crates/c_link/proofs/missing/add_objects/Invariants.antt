use Rattle.std.proofs.Common.{◌≡◌, ◌++◌, drop, map}
use Rattle.c_link.specs.Clashes.{trouble_of}
use Rattle.c_link.specs.Missing.{objects_nowhere}
use Rattle.c_link.proofs.missing.add_objects.Given as goal

abbrev pub invariant-loop-n : goal.invariant-loop-n
invariant-loop-n l = map trouble_of l.missing ++ objects_nowhere l.used l.n (drop l.n l.objects) ≡ map trouble_of l.initial.missing ++ objects_nowhere l.used 0 l.objects
