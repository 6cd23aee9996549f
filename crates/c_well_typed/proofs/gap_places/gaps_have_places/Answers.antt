use Rattle.c_grammar.proofs.FirstPlaces.{trees_begin_first}
use Rattle.c_well_typed.proofs.GapPlaces.PlacesOfGaps.{gaps_have_places}
use Rattle.c_well_typed.proofs.gap_places.gaps_have_places.Goals as goal

pub returns : goal.returns
returns c = gaps_have_places c.tokens_have_places.ensures trees_begin_first c.texts_are_in_order.ensures
