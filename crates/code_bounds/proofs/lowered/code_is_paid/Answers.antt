use Rattle.code_bounds.proofs.Functions.{code_is_paid}
use Rattle.code_bounds.proofs.lowered.code_is_paid.Goals as goal

pub returns : goal.returns
returns c = code_is_paid
