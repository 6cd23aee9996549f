use Rattle.rv_runtime.proofs.Standing.{heap_begins}
use Rattle.rv_runtime.proofs.laws.heap_begins.Goals as goal

pub returns : goal.returns
returns c = heap_begins
