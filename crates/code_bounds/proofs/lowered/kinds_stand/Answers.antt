use Rattle.code_bounds.proofs.Functions.{kinds_stand}
use Rattle.code_bounds.proofs.lowered.kinds_stand.Goals as goal

pub returns : goal.returns
returns c = kinds_stand
