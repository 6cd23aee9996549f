use Rattle.code_bounds.proofs.Words.{functions_are_paid}
use Rattle.code_bounds.proofs.compiled.functions_are_paid.Goals as goal

pub returns : goal.returns
returns c = functions_are_paid
