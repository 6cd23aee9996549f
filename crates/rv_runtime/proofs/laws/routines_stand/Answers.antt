use Rattle.rv_runtime.proofs.Standing.{runtime_stands}
use Rattle.rv_runtime.proofs.laws.routines_stand.Goals as goal

pub returns : goal.returns
returns c = runtime_stands
