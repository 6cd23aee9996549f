-- Tokens as the lexer finds them: the text of a keyword or a punctuator is its own.
use Rattle.std.proofs.Common.{◌≡◌, List}
use Rattle.std.specs.Prelude.{All}
use Rattle.c_tokens.specs.declared.token.TokenKind.{TokenKind}
use Rattle.c_tokens.specs.declared.token.TokenKind.TheVariants as K
use Rattle.c_ast.specs.Spelling.{Lexeme, punctuator, keyword}

abbrev pub IsWhole : Lexeme → Type 0
IsWhole t = whole t.kind
  where
    whole : TokenKind → Type 0
    whole (K.Punctuator m) = t ≡ punctuator m t.from
    whole (K.Keyword k) = t ≡ keyword k t.from
    whole _ = Unit {0}

abbrev pub AreWhole : List Lexeme → Type 0
AreWhole tokens = All IsWhole tokens
