use Rattle.c_typed.specs.Programs.{program_data}
use Rattle.c_well_typed.proofs.PrintableObjects.Programs.{program_has_printable_types}
use Rattle.c_well_typed.proofs.printable.programs_have_printable_types.Goals as goal

pub returns : goal.returns
returns c =
    program_has_printable_types c.tokens_have_places.ensures c.units_have_typed_functions.ensures (program_data c.args.p.now)
    c.records_are_complete.ensures.complete
