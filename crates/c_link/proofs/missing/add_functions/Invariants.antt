use Rattle.std.proofs.Common.{◌≡◌, ◌++◌, drop, map}
use Rattle.c_link.specs.Clashes.{trouble_of}
use Rattle.c_typed.specs.Programs.{data_of}
use Rattle.c_link.specs.Missing.{functions_nowhere}
use Rattle.c_link.proofs.missing.add_functions.Given as goal

abbrev pub invariant-loop-n : goal.invariant-loop-n
invariant-loop-n l = map trouble_of l.missing ++ functions_nowhere l.used l.n (map data_of (drop l.n l.functions)) ≡ map trouble_of l.initial.missing ++ functions_nowhere l.used 0 (map data_of l.functions)
