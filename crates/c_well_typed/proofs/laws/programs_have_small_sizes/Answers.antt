use Rattle.c_typed.specs.Programs.{program_data}
use Rattle.c_well_typed.proofs.SmallSizes.{program_has_small_sizes}
use Rattle.c_well_typed.proofs.laws.programs_have_small_sizes.Goals as goal

pub returns : goal.returns
returns c =
    program_has_small_sizes (program_data c.args.p.now) c.records_are_complete.ensures.complete c.records_are_complete.ensures.small
    c.programs_have_printable_types.ensures c.programs_have_small_arrays.ensures
