use Rattle.c_grammar.proofs.OneTree.{one_tree}
use Rattle.c_parser.proofs.laws.tokens_have_one_tree.Goals as goal

pub returns : goal.returns
returns c = one_tree
