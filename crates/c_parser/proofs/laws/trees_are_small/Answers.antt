use Rattle.c_grammar.proofs.FileTrees.{trees_are_small}
use Rattle.c_parser.proofs.laws.trees_are_small.Goals as goal

pub returns : goal.returns
returns c = trees_are_small c.tokens_have_places.ensures
