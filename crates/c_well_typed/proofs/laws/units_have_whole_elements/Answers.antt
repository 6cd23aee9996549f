use Rattle.c_grammar.proofs.FirstPlaces.{trees_begin_first}
use Rattle.c_well_typed.proofs.WholeElements.{units_have_whole_elements}
use Rattle.c_well_typed.proofs.laws.units_have_whole_elements.Goals as goal

pub returns : goal.returns
returns c = units_have_whole_elements c.tokens_have_places.ensures trees_begin_first c.texts_are_in_order.ensures
