use Rattle.code_bounds.proofs.Functions.{frames_weigh_less}
use Rattle.code_bounds.proofs.lowered.frames_weigh_less.Goals as goal

pub returns : goal.returns
returns c = frames_weigh_less
