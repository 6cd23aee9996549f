-- Each token has its text.
use Rattle.std.specs.Prelude.{◌≡◌, ℕ, ◌+◌, ◌-◌, List, [], ◌∷◌, take, drop, length}
use Rattle.c_tokens.specs.declared.token.Token.{Token}
use Rattle.c_tokens.specs.declared.token.TokenKind.{TokenKind}
use Rattle.c_tokens.specs.declared.token.TokenKind.TheVariants as K
use Rattle.c_tokens.specs.declared.part.Shape.TheVariants as S
use Rattle.c_tokens.specs.Words.{IsToken}
use Rattle.lay_base.specs.Keywords.{keyword_text}
use Rattle.c_tokens.specs.Punctuators.{punctuator_text}
use Rattle.c_tokens.specs.Lexes.{Lexes}

-- the bytes of a file that a token is
abbrev pub token_text : List ℕ → Token → List ℕ
token_text bytes token = take (token.to - token.from) (drop token.from bytes)

abbrev pub IsTextOf : TokenKind → List ℕ → Type 0
IsTextOf (K.Keyword keyword) text = text ≡ keyword_text keyword
IsTextOf (K.Punctuator punctuator) text = text ≡ punctuator_text punctuator
IsTextOf K.Name text = IsToken S.Name text K.Name
IsTextOf (K.Number n kind) text = IsToken S.Number text (K.Number n kind)
IsTextOf (K.Character n) text = IsToken S.Character text (K.Character n)
IsTextOf K.Text text = IsToken S.Text text K.Text

abbrev pub HaveTexts : List ℕ → List Token → Type 0
HaveTexts bytes [] = Unit {0}
HaveTexts bytes (token ∷ tokens) =
    (token.to ≡ token.from + length (token_text bytes token)) × IsTextOf token.kind (token_text bytes token) × HaveTexts bytes tokens

-- the bytes of a keyword or a punctuator are its spelling, and those of any other token can be it
abbrev pub TokensHaveTexts : Type 0
TokensHaveTexts = (bytes : List ℕ) (tokens : List Token) → Lexes bytes tokens → HaveTexts bytes tokens
