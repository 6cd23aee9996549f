use Rattle.c_well_typed.proofs.PartsWithin.{initials_lie_within}
use Rattle.c_well_typed.proofs.laws.initials_lie_within.Goals as goal

pub returns : goal.returns
returns c = initials_lie_within
