use Rattle.c_parser.proofs.FileTrees.{one_file_tree}
use Rattle.c_parser.proofs.laws.files_have_one_tree.Goals as goal

pub returns : goal.returns
returns c = one_file_tree c.texts_have_one_reading.ensures.one_list
