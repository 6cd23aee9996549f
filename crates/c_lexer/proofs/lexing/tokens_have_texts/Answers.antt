use Rattle.c_lexer.proofs.TextsOfTokens.{tokens_have_texts}
use Rattle.c_lexer.proofs.lexing.tokens_have_texts.Goals as goal

pub returns : goal.returns
returns c = tokens_have_texts
