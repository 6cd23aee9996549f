use Rattle.c_grammar.proofs.FirstPlaces.{trees_begin_first}
use Rattle.c_checking_units.proofs.Closed.{small_arrays}
use Rattle.c_checking_units.proofs.type_limits.arrays_are_small.Goals as goal

pub returns : goal.returns
returns c = small_arrays c.tokens_have_places.ensures trees_begin_first c.texts_are_in_order.ensures
