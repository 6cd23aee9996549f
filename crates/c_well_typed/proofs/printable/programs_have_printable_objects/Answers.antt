use Rattle.c_typed.specs.Programs.{program_data}
use Rattle.c_well_typed.proofs.PrintableObjects.Programs.{program_has_printable_objects}
use Rattle.c_well_typed.proofs.printable.programs_have_printable_objects.Goals as goal

pub returns : goal.returns
returns c =
    program_has_printable_objects c.tokens_have_places.ensures c.units_have_typed_functions.ensures (program_data c.args.p.now)
    c.records_are_complete.ensures.complete
