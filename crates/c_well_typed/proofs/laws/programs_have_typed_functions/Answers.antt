use Rattle.c_typed.specs.Programs.{program_data}
use Rattle.c_well_typed.proofs.Programs.{program_has_typed_functions}
use Rattle.c_well_typed.proofs.laws.programs_have_typed_functions.Goals as goal

pub returns : goal.returns
returns c =
    program_has_typed_functions c.units_have_typed_functions.ensures (program_data c.args.p.now) c.records_are_complete.ensures.complete
    c.records_are_complete.ensures.small
