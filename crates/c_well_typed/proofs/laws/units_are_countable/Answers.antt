use Rattle.c_well_typed.proofs.CountableUnits.{units_countable}
use Rattle.c_well_typed.proofs.laws.units_are_countable.Goals as goal

pub returns : goal.returns
returns c = units_countable c.units_have_typed_functions.ensures
