use Rattle.c_well_typed.proofs.ProgramWeights.Programs.{programs_are_bounded}
use Rattle.c_well_typed.proofs.program_weights.programs_are_bounded.Goals as goal

pub returns : goal.returns
returns c = programs_are_bounded c.units_are_bounded.ensures c.joined_are_bounded.ensures
