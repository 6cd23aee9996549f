use Rattle.c_lexer.proofs.Exactness.{parts_are_exact}
use Rattle.c_lexer.proofs.PlacesOfTokens.{tokens_have_places}
use Rattle.c_lexer.proofs.lexing.tokens_have_places.Goals as goal

pub returns : goal.returns
returns c = tokens_have_places parts_are_exact
