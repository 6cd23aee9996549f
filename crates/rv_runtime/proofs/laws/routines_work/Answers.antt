use Rattle.rv_runtime.proofs.Working.{routines_work}
use Rattle.rv_runtime.proofs.laws.routines_work.Goals as goal

pub returns : goal.returns
returns c = routines_work
