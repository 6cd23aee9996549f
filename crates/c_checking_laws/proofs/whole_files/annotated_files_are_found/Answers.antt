use Rattle.c_grammar.proofs.FirstPlaces.{trees_begin_first}
use Rattle.c_checking_laws.proofs.WholeFiles.TextFits.{sound_text}
use Rattle.c_checking_laws.proofs.whole_files.annotated_files_are_found.Goals as goal

pub returns : goal.returns
returns c = sound_text c.tokens_have_places.ensures trees_begin_first c.texts_are_in_order.ensures
