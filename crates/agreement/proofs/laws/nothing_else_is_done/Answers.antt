use Rattle.agreement.proofs.NothingElse.{does_nothing_else}
use Rattle.agreement.proofs.laws.nothing_else_is_done.Goals as goal

pub returns : goal.returns
returns c = does_nothing_else
