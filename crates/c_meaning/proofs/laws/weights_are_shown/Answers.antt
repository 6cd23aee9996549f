use Rattle.c_meaning.proofs.ShownWeights.{weighed_as_shown}
use Rattle.c_meaning.proofs.laws.weights_are_shown.Goals as goal

pub returns : goal.returns
returns c = weighed_as_shown
