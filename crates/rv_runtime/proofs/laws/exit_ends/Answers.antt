use Rattle.rv_runtime.proofs.Working.{exit_ends}
use Rattle.rv_runtime.proofs.laws.exit_ends.Goals as goal

pub returns : goal.returns
returns c = exit_ends
