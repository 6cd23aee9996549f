use Rattle.c_grammar.proofs.FirstPlaces.{trees_begin_first}
use Rattle.c_checking_units.proofs.Closed.{no_unit}
use Rattle.c_checking_units.proofs.laws.faults_have_no_unit.Goals as goal

pub returns : goal.returns
returns c = no_unit c.tokens_have_places.ensures trees_begin_first c.texts_are_in_order.ensures
