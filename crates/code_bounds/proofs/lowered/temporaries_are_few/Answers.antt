use Rattle.code_bounds.proofs.Functions.{temporaries_are_few}
use Rattle.code_bounds.proofs.lowered.temporaries_are_few.Goals as goal

pub returns : goal.returns
returns c = temporaries_are_few
