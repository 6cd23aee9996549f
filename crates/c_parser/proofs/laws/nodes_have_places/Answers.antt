use Rattle.c_grammar.proofs.FileTrees.{nodes_have_places}
use Rattle.c_parser.proofs.laws.nodes_have_places.Goals as goal

pub returns : goal.returns
returns c = nodes_have_places c.tokens_have_places.ensures
