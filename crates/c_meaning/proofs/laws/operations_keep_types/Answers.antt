use Rattle.std.specs.Prelude.{IsTrue}
use Rattle.c_meaning.proofs.PointersKept.{keeps_types}
use Rattle.c_meaning.proofs.laws.operations_keep_types.Goals as goal

pub returns : goal.returns
returns c p among made m typed = keeps_types p (λ r. IsTrue (among r)) made m typed
