use Rattle.c_well_typed.proofs.ProgramWeights.Units.{units_are_bounded}
use Rattle.c_well_typed.proofs.program_weights.units_are_bounded.Goals as goal

pub returns : goal.returns
returns c = units_are_bounded c.tokens_have_places.ensures
