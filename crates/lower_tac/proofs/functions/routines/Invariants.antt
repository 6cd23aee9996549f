use Rattle.std.proofs.Common.{◌≡◌, ◌<◌, ◌^◌, ◌++◌, map, drop}
use Rattle.c_typed.specs.Programs.{data_of, program_data}
use Rattle.tac_ir.specs.Code as Code
use Rattle.lower_tac.specs.Asked.{asked_by_functions}
use Rattle.lower_tac.specs.Statements.{routines_from}
use Rattle.lower_tac.proofs.functions.routines.Given as goal

abbrev pub invariant-loop-number : goal.invariant-loop-number
invariant-loop-number l = (map Code.data_of l.made ++ routines_from (program_data l.types) l.number (map data_of (drop l.number l.all)) ≡ routines_from (program_data l.types) 0 (map data_of l.all))
    × (asked_by_functions (map data_of (drop l.number l.all)) < 2 ^ 32)
