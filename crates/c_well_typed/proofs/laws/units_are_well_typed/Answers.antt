use Rattle.c_grammar.proofs.FirstPlaces.{trees_begin_first}
use Rattle.c_well_typed.proofs.WholeUnits.{units_are_well_typed}
use Rattle.c_well_typed.proofs.laws.units_are_well_typed.Goals as goal

pub returns : goal.returns
returns c = units_are_well_typed c.tokens_have_places.ensures trees_begin_first c.texts_are_in_order.ensures
