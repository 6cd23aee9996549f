use Rattle.code_bounds.proofs.Lengths.{steps_are_as_long}
use Rattle.code_bounds.proofs.compiled.steps_are_as_long.Goals as goal

pub returns : goal.returns
returns c = steps_are_as_long
