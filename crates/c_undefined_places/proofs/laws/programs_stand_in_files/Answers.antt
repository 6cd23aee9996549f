use Rattle.c_undefined_places.proofs.PlacesOfPrograms.{programs_stand}
use Rattle.c_undefined_places.proofs.laws.programs_stand_in_files.Goals as goal

pub returns : goal.returns
returns c = programs_stand c.tokens_have_places.ensures c.texts_are_in_order.ensures
