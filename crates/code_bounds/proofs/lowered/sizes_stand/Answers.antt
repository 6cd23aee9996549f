use Rattle.code_bounds.proofs.Functions.{sizes_stand}
use Rattle.code_bounds.proofs.lowered.sizes_stand.Goals as goal

pub returns : goal.returns
returns c = sizes_stand
