use Rattle.c_undefined_places.proofs.PlacesOfPrograms.{facts_stand}
use Rattle.c_undefined_places.proofs.laws.facts_stand_in_files.Goals as goal

pub returns : goal.returns
returns c = facts_stand c.tokens_have_places.ensures c.texts_are_in_order.ensures
