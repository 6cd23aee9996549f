use Rattle.c_well_typed.proofs.Limits.{programs_are_within_limits}
use Rattle.c_well_typed.proofs.laws.programs_are_within_limits.Goals as goal

pub returns : goal.returns
returns c = programs_are_within_limits
