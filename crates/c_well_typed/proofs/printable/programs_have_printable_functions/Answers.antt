use Rattle.c_well_typed.proofs.PrintableFunctions.Programs.{program_has_printable_functions}
use Rattle.c_well_typed.proofs.printable.programs_have_printable_functions.Goals as goal
use Rattle.c_typed.specs.Programs.{program_data}

pub returns : goal.returns
returns c =
    program_has_printable_functions c.tokens_have_places.ensures c.units_have_typed_functions.ensures (program_data c.args.p.now)
    c.records_are_complete.ensures.complete
