use Rattle.code_bounds.proofs.Lengths.{functions_are_as_long}
use Rattle.code_bounds.proofs.compiled.functions_are_as_long.Goals as goal

pub returns : goal.returns
returns c = functions_are_as_long
