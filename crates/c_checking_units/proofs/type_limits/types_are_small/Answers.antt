use Rattle.c_checking_units.proofs.TypeLimits.Whole.{types_are_small}
use Rattle.c_checking_units.proofs.type_limits.types_are_small.Goals as goal

pub returns : goal.returns
returns c = types_are_small c.tokens_have_places.ensures
