use Rattle.code_bounds.proofs.Functions.{jumps_on}
use Rattle.code_bounds.proofs.lowered.jumps_lead_on.Goals as goal

pub returns : goal.returns
returns c = jumps_on
