use Rattle.code_bounds.proofs.Functions.{steps_are_few}
use Rattle.code_bounds.proofs.lowered.steps_are_few.Goals as goal

pub returns : goal.returns
returns c = steps_are_few
