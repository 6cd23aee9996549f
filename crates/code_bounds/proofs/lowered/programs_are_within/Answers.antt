use Rattle.code_bounds.proofs.Functions.{programs_are_within}
use Rattle.code_bounds.proofs.lowered.programs_are_within.Goals as goal

pub returns : goal.returns
returns c = programs_are_within
