use Rattle.code_bounds.proofs.Frames.{frames_are_small}
use Rattle.code_bounds.proofs.compiled.frames_are_small.Goals as goal

pub returns : goal.returns
returns c = frames_are_small c.sizes_stand.ensures c.temporaries_are_few.ensures c.frames_are_within.ensures
