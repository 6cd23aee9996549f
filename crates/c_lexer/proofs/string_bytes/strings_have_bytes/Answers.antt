use Rattle.c_lexer.proofs.StringBytes.{strings_have_bytes}
use Rattle.c_lexer.proofs.string_bytes.strings_have_bytes.Goals as goal

pub returns : goal.returns
returns c = strings_have_bytes
