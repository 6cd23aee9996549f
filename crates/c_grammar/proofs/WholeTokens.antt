-- The tokens of a file have their texts.
use Rattle.std.proofs.Common.{◌≡◌, ℕ, ◌+◌, List, [], ◌∷◌, length, ap, refl, ◌∙◌}
use Rattle.std.proofs.lemmas.List.Elements.{All-nil, All-cons}
use Rattle.c_tokens.specs.declared.token.Token.{Token}
use Rattle.c_tokens.specs.declared.token.TokenKind.{TokenKind}
use Rattle.c_tokens.specs.declared.token.TokenKind.TheVariants as K
use Rattle.lay_base.specs.Keywords.{keyword_text}
use Rattle.c_tokens.specs.Punctuators.{punctuator_text}
use Rattle.c_tokens.specs.TokenTexts.{token_text, IsTextOf, HaveTexts}
use Rattle.c_ast.specs.Spelling.{Lexeme}
use Rattle.c_ast.specs.Lexemes.{lexeme_of, lexemes_of}
use Rattle.c_grammar.proofs.Wholeness.{IsWhole, AreWhole}

abbrev lexeme : TokenKind → ℕ → ℕ → List ℕ → Lexeme
lexeme kind from to text = record { kind = kind; from = from; to = to; text = text }

whole : (kind : TokenKind) (from to : ℕ) (text : List ℕ) → to ≡ from + length text → IsTextOf kind text → IsWhole (lexeme kind from to text)
whole (K.Punctuator m) from to text e h = let f : to ≡ from + length (punctuator_text m) = e ∙ ap (λ t. from + length t) h in rw (f, h) refl
whole (K.Keyword k) from to text e h = let f : to ≡ from + length (keyword_text k) = e ∙ ap (λ t. from + length t) h in rw (f, h) refl
whole K.Name from to text e h = tt
whole (K.Number n kind) from to text e h = tt
whole (K.Character n) from to text e h = tt
whole K.Text from to text e h = tt

pub tokens_are_whole : (bytes : List ℕ) (tokens : List Token) → HaveTexts bytes tokens → AreWhole (lexemes_of bytes tokens)
tokens_are_whole bytes [] h = All-nil IsWhole
tokens_are_whole bytes (t ∷ tokens) h = All-cons IsWhole (lexeme_of bytes t) (lexemes_of bytes tokens)
    (whole t.kind t.from t.to (token_text bytes t) h.0 h.1) (tokens_are_whole bytes tokens h.2)
