use Rattle.c_typed.specs.Programs.{program_data}
use Rattle.c_well_typed.proofs.Programs.{program_is_well_typed}
use Rattle.c_well_typed.proofs.laws.programs_are_well_typed.Goals as goal

pub returns : goal.returns
returns c =
    program_is_well_typed c.units_have_typed_functions.ensures c.units_are_well_typed.ensures c.units_have_whole_elements.ensures (program_data c.args.p.now)
    c.records_are_complete.ensures.complete c.records_are_complete.ensures.small
