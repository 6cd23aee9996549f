use Rattle.code_bounds.proofs.Functions.{labels_are_few}
use Rattle.code_bounds.proofs.lowered.labels_are_few.Goals as goal

pub returns : goal.returns
returns c = labels_are_few
