use Rattle.c_undefined_places.proofs.PlacesOfPrograms.{violations_stand}
use Rattle.c_undefined_places.proofs.laws.violations_stand_in_files.Goals as goal

pub returns : goal.returns
returns c = violations_stand c.tokens_have_places.ensures c.texts_are_in_order.ensures
