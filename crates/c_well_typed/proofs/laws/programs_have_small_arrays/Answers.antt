use Rattle.c_typed.specs.Programs.{program_data}
use Rattle.c_well_typed.proofs.Programs.{program_has_small_arrays}
use Rattle.c_well_typed.proofs.laws.programs_have_small_arrays.Goals as goal

pub returns : goal.returns
returns c =
    program_has_small_arrays c.units_have_typed_functions.ensures c.arrays_are_small.ensures (program_data c.args.p.now)
    c.records_are_complete.ensures.complete
