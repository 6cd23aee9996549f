use Rattle.c_typed.specs.Programs.{program_data}
use Rattle.c_well_typed.proofs.Programs.{program_has_typed_objects}
use Rattle.c_well_typed.proofs.laws.programs_have_typed_objects.Goals as goal

pub returns : goal.returns
returns c =
    program_has_typed_objects c.units_are_well_typed.ensures (program_data c.args.p.now) c.records_are_complete.ensures.complete
    c.records_are_complete.ensures.small
