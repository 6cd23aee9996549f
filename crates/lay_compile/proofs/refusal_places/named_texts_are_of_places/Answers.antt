use Rattle.lay_compile.proofs.RefusalPlaces.FilesOfNames.{named_texts_are_of_places}
use Rattle.lay_compile.proofs.refusal_places.named_texts_are_of_places.Goals as goal

pub returns : goal.returns
returns c = named_texts_are_of_places c.texts_are_of_places.ensures
