use Rattle.c_grammar.proofs.FirstPlaces.{trees_begin_first}
use Rattle.c_checking_units.proofs.FirstStops.TextStops.{broken_text}
use Rattle.c_checking_units.proofs.first_stops.faults_break_rules.Goals as goal

pub returns : goal.returns
returns c = broken_text c.tokens_have_places.ensures trees_begin_first c.texts_are_in_order.ensures
