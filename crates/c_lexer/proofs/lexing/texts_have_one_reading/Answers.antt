use Rattle.c_lexer.proofs.Exactness.{parts_are_exact, tokens_are_exact}
use Rattle.c_lexer.proofs.OneReading.{have_one_reading}
use Rattle.c_lexer.proofs.lexing.texts_have_one_reading.Goals as goal

pub returns : goal.returns
returns c = have_one_reading parts_are_exact tokens_are_exact
