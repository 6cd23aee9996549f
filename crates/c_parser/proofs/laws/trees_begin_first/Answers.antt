use Rattle.c_grammar.proofs.FirstPlaces.{trees_begin_first}
use Rattle.c_parser.proofs.laws.trees_begin_first.Goals as goal

pub returns : goal.returns
returns c = trees_begin_first
