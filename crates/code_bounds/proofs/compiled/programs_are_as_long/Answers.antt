use Rattle.code_bounds.proofs.Lengths.{programs_are_as_long}
use Rattle.code_bounds.proofs.compiled.programs_are_as_long.Goals as goal

pub returns : goal.returns
returns c = programs_are_as_long
