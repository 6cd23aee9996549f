use Rattle.c_undefined_places.proofs.PlacesOfPrograms.{undefined_steps_stand}
use Rattle.c_undefined_places.proofs.laws.undefined_steps_stand_in_files.Goals as goal

pub returns : goal.returns
returns c = undefined_steps_stand c.tokens_have_places.ensures c.texts_are_in_order.ensures
