use Rattle.std.proofs.Common.{◌≡◌, map, take}
use Rattle.c_typed.specs.Programs.{program_data}
use Rattle.lower_tac.specs.Statements.{parameter_of}
use Rattle.lower_tac.proofs.functions.parameters.Given as goal

abbrev pub invariant-loop-local : goal.invariant-loop-local
invariant-loop-local l = l.made ≡ map (parameter_of (program_data l.types)) (take l.local-index l.all)
