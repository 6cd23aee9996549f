use Rattle.code_bounds.proofs.Frames.{frames_are_weighed}
use Rattle.code_bounds.proofs.compiled.frames_are_weighed.Goals as goal

pub returns : goal.returns
returns c = frames_are_weighed c.frames_are_small.ensures
