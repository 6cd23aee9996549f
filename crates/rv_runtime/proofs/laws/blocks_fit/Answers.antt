use Rattle.rv_runtime.proofs.Allocation.{blocks_fit}
use Rattle.rv_runtime.proofs.laws.blocks_fit.Goals as goal

pub returns : goal.returns
returns c = blocks_fit
