-- The tokens of a file with their texts.
use Rattle.std.specs.Prelude.{ℕ, ◌-◌, List, map, take, drop}
use Rattle.c_tokens.specs.declared.token.Token.{Token}
use Rattle.c_ast.specs.Spelling.{Lexeme}

abbrev pub lexeme_of : List ℕ → Token → Lexeme
lexeme_of bytes t = record { kind = t.kind; from = t.from; to = t.to; text = take (t.to - t.from) (drop t.from bytes) }

abbrev pub lexemes_of : List ℕ → List Token → List Lexeme
lexemes_of bytes tokens = map (lexeme_of bytes) tokens
