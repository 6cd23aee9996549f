use Rattle.lay_compile.proofs.RefusalPlaces.PlacesOfRefusals.{texts_are_of_places}
use Rattle.lay_compile.proofs.refusal_places.texts_are_of_places.Goals as goal

pub returns : goal.returns
returns c = texts_are_of_places c.faults_stand_in_files.ensures
