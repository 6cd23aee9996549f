-- Each token has its text.
use Rattle.std.proofs.Common.{◌≡◌, ℕ, ◌+◌, ◌-◌, List, [], ◌∷◌, ◌++◌, take, drop, length, refl, ap, sym, subst, ◌∙◌, arith, append_assoc, append-nil}
use Rattle.std.proofs.Common.{length-append, Bool, true}
use Rattle.std.proofs.Math.Seq.{take-append_seam, drop-append_seam}
use Rattle.c_tokens.specs.declared.part.PartKind.{PartKind}
use Rattle.c_tokens.specs.declared.part.PartKind.TheVariants as P
use Rattle.c_tokens.specs.declared.part.Shape.{Shape}
use Rattle.c_tokens.specs.declared.part.Shape.TheVariants as S
use Rattle.c_tokens.specs.declared.token.Token.{Token}
use Rattle.c_tokens.specs.declared.token.TokenKind.{TokenKind}
use Rattle.c_tokens.specs.declared.token.TokenKind.TheVariants as K
use Rattle.c_tokens.specs.Punctuators.{punctuator_text}
use Rattle.c_tokens.specs.Words.{IsWord, IsToken}
use Rattle.c_tokens.specs.Parts.{Part, text_of, Stands, AreParts, begins_line_after_part}
use Rattle.c_tokens.specs.Lexes.{AreTokens, AreTokensFrom}
use Rattle.c_tokens.specs.TokenTexts.{token_text, IsTextOf, HaveTexts, TokensHaveTexts}

its_text : (shape : Shape) (text : List ℕ) (kind : TokenKind) → IsWord shape text → IsToken shape text kind → IsTextOf kind text
its_text S.Name text K.Name w h = h
its_text S.Number text K.Name w h = absurd h
its_text S.Character text K.Name w h = absurd h
its_text S.Text text K.Name w h = absurd h
its_text (S.Punctuator punctuator) text K.Name w h = absurd h
its_text S.Name text (K.Number n kind) w h = absurd h
its_text S.Number text (K.Number n kind) w h = h
its_text S.Character text (K.Number n kind) w h = absurd h
its_text S.Text text (K.Number n kind) w h = absurd h
its_text (S.Punctuator punctuator) text (K.Number n kind) w h = absurd h
its_text S.Name text (K.Character n) w h = absurd h
its_text S.Number text (K.Character n) w h = absurd h
its_text S.Character text (K.Character n) w h = h
its_text S.Text text (K.Character n) w h = absurd h
its_text (S.Punctuator punctuator) text (K.Character n) w h = absurd h
its_text S.Name text K.Text w h = absurd h
its_text S.Number text K.Text w h = absurd h
its_text S.Character text K.Text w h = absurd h
its_text S.Text text K.Text w h = h
its_text (S.Punctuator punctuator) text K.Text w h = absurd h
its_text S.Name text (K.Keyword keyword) w h = h
its_text S.Number text (K.Keyword keyword) w h = absurd h
its_text S.Character text (K.Keyword keyword) w h = absurd h
its_text S.Text text (K.Keyword keyword) w h = absurd h
its_text (S.Punctuator punctuator) text (K.Keyword keyword) w h = absurd h
its_text S.Name text (K.Punctuator m) w h = absurd h
its_text S.Number text (K.Punctuator m) w h = absurd h
its_text S.Character text (K.Punctuator m) w h = absurd h
its_text S.Text text (K.Punctuator m) w h = absurd h
its_text (S.Punctuator punctuator) text (K.Punctuator m) w h = w ∙ ap punctuator_text (sym h)

-- the bytes between the front and the rest
between : (front text rest : List ℕ) (from to : ℕ) → from ≡ length front → to ≡ from + length text
    → take (to - from) (drop from (front ++ (text ++ rest))) ≡ text
between front text rest from to f t =
    let size : to - from ≡ length text = omega (arith, t) in
    rw (size, f, drop-append_seam front (text ++ rest)) (take-append_seam text rest)

has_text : (front text rest bytes : List ℕ) (token : Token) (shape : Shape) → bytes ≡ front ++ (text ++ rest) → IsWord shape text
    → IsToken shape text token.kind → token.from ≡ length front → token.to ≡ token.from + length text
    → (token.to ≡ token.from + length (token_text bytes token)) × IsTextOf token.kind (token_text bytes token)
has_text front text rest bytes token shape e w h f t =
    let same : token_text bytes token ≡ text = ap (λ b. take (token.to - token.from) (drop token.from b)) e ∙ between front text rest token.from token.to f t in
    rw same (t, its_text shape text token.kind w h)

by_kind : (kind : PartKind) (front text rest bytes : List ℕ) (begins_line : Bool) (GoOn : List Token → Type 0) (tokens : List Token) (at : ℕ) → bytes
    ≡ front ++ (text ++ rest) → at ≡ length front → Stands begins_line kind text rest → ((more : List Token) → GoOn more → HaveTexts bytes more)
    → AreTokensFrom at kind text GoOn tokens → HaveTexts bytes tokens
by_kind P.White front text rest bytes b GoOn tokens at e l s more h = more tokens h
by_kind P.Comment front text rest bytes b GoOn tokens at e l s more h = more tokens h
by_kind P.LineComment front text rest bytes b GoOn tokens at e l s more h = more tokens h
by_kind P.Directive front text rest bytes b GoOn tokens at e l s more h = more tokens h
by_kind (P.Word shape) front text rest bytes b GoOn [] at e l s more h = absurd h
by_kind (P.Word shape) front text rest bytes b GoOn (token ∷ tokens) at e l s more h =
    let t = has_text front text rest bytes token shape e s.0 h.0 (h.1 ∙ l) (rw h.1 h.2) in
    (t.0, t.1, more tokens h.3)

those : (parts : List Part) (front : List ℕ) (tokens : List Token) (bytes : List ℕ) (at : ℕ) (begins_line : Bool) → bytes ≡ front ++ text_of parts
    → at ≡ length front → AreParts begins_line parts [] → AreTokens at parts tokens → HaveTexts bytes tokens
those [] front tokens bytes at b e l s h = subst (HaveTexts bytes) (sym h) tt
those (part ∷ parts) front tokens bytes at b e l s h =
    let size : at + length part.text ≡ length (front ++ part.text) = omega (arith, l, length-append front part.text) in
    by_kind part.kind front part.text (text_of parts) bytes b (AreTokens (at + length part.text) parts) tokens at e l
    (subst (λ rest. Stands b part.kind part.text rest) (append-nil (text_of parts)) s.0)
    (λ more m. those parts (front ++ part.text) more bytes (at + length part.text) (begins_line_after_part b part) (e
    ∙ sym (append_assoc front part.text (text_of parts))) size s.1 m) h

pub tokens_have_texts : TokensHaveTexts
tokens_have_texts bytes tokens l = those l.parts [] tokens bytes 0 true l.bytes_are refl l.are_parts l.are_tokens
