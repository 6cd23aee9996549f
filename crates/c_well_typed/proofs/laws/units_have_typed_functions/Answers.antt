use Rattle.c_grammar.proofs.FirstPlaces.{trees_begin_first}
use Rattle.c_well_typed.proofs.UnitFunctions.{units_have_typed_functions}
use Rattle.c_well_typed.proofs.laws.units_have_typed_functions.Goals as goal

pub returns : goal.returns
returns c = units_have_typed_functions c.tokens_have_places.ensures trees_begin_first c.texts_are_in_order.ensures
