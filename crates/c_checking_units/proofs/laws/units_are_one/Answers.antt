use Rattle.c_grammar.proofs.FirstPlaces.{trees_begin_first}
use Rattle.c_checking_units.proofs.Closed.{one_unit}
use Rattle.c_checking_units.proofs.laws.units_are_one.Goals as goal

pub returns : goal.returns
returns c = one_unit c.tokens_have_places.ensures trees_begin_first c.texts_are_in_order.ensures
