use Rattle.code_bounds.proofs.Functions.{frames_are_within}
use Rattle.code_bounds.proofs.lowered.frames_are_within.Goals as goal

pub returns : goal.returns
returns c = frames_are_within
