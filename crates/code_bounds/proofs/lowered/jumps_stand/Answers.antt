use Rattle.code_bounds.proofs.Functions.{jumps}
use Rattle.code_bounds.proofs.lowered.jumps_stand.Goals as goal

pub returns : goal.returns
returns c = jumps
