-- The tokens of a text come one after the other, none of them is empty, and no name begins with `@`.
use Rattle.std.proofs.Common.{◌≡◌, ℕ, ◌+◌, ◌-◌, ◌≤◌, ◌<◌, Bool, true, false, List, [], ◌∷◌, ◌++◌, take, drop, length, refl, ap, sym, subst, ◌∙◌}
use Rattle.std.proofs.Common.{arith, append_assoc, append-nil, length-append}
use Rattle.std.proofs.Math.Seq.{take-append_seam, drop-append_seam}
use Rattle.std.specs.Prelude.{IsTrue}
use Rattle.c_tokens.specs.declared.part.PartKind.{PartKind}
use Rattle.c_tokens.specs.declared.part.PartKind.TheVariants as P
use Rattle.c_tokens.specs.declared.part.Shape.{Shape}
use Rattle.c_tokens.specs.declared.part.Shape.TheVariants as S
use Rattle.c_tokens.specs.declared.token.Token.{Token}
use Rattle.c_tokens.specs.declared.token.TokenKind.{TokenKind}
use Rattle.c_tokens.specs.declared.token.TokenKind.TheVariants as K
use Rattle.c_tokens.specs.Characters.{is_letter}
use Rattle.c_tokens.specs.Words.{IsWord, IsName, IsToken}
use Rattle.c_tokens.specs.Parts.{Part, text_of, Stands, AreParts, begins_line_after_part}
use Rattle.c_tokens.specs.Lexes.{Lexes, AreTokens, AreTokensFrom}
use Rattle.c_tokens.specs.TokenTexts.{token_text}
use Rattle.c_lexer.proofs.Exactness.{parts_are_exact}
use Rattle.c_lexer.proofs.WholeTexts.{part_long}
use Rattle.c_ast.specs.Lexemes.{lexemes_of}
use Rattle.c_checking_laws.specs.TextOrder.TextOrder.{IsUnwritten}
use Rattle.c_checking_laws.proofs.TextOrder.Rising.{AreRising, IsWritten}

name_written : (text : List ℕ) → IsName text → IsUnwritten text → ⊥
name_written [] w h = w
name_written (b ∷ bytes) w h =
    let same : b ≡ 64 = cc in
    let false_is_true : false ≡ true = subst (λ b. IsTrue (is_letter b)) same w.0 in
    cc

written : (shape : Shape) (text : List ℕ) (kind : TokenKind) → IsWord shape text → IsToken shape text kind → IsWritten kind text
written S.Name text K.Name w h = name_written text w
written shape text K.Name w h = absurd h
written shape text kind w h = tt

between : (front text rest : List ℕ) (from to : ℕ) → from ≡ length front → to ≡ from + length text
    → take (to - from) (drop from (front ++ (text ++ rest))) ≡ text
between front text rest from to f t =
    let size : to - from ≡ length text = omega (arith, t) in
    rw (size, f, drop-append_seam front (text ++ rest)) (take-append_seam text rest)

sooner : (low high : ℕ) (bytes : List ℕ) (tokens : List Token) → low ≤ high → AreRising high (lexemes_of bytes tokens)
    → AreRising low (lexemes_of bytes tokens)
sooner low high bytes [] l h = tt
sooner low high bytes (token ∷ tokens) l h = (omega (arith, l, h.0), h.1, h.2, h.3)

of_part : (kind : PartKind) (front text rest bytes : List ℕ) (begins_line : Bool) (GoOn : List Token → Type 0) (tokens : List Token) (at : ℕ)
    → bytes ≡ front ++ (text ++ rest) → at ≡ length front → 0 < length text → Stands begins_line kind text rest
    → ((more : List Token) → GoOn more → AreRising (at + length text) (lexemes_of bytes more))
    → AreTokensFrom at kind text GoOn tokens → AreRising at (lexemes_of bytes tokens)
of_part (P.Word shape) front text rest bytes b GoOn [] at e l n s more h = absurd h
of_part (P.Word shape) front text rest bytes b GoOn (token ∷ tokens) at e l n s more h =
    let end : token.to ≡ token.from + length text = rw h.1 h.2 in
    let same : token_text bytes token ≡ text =
    ap (λ b. take (token.to - token.from) (drop token.from b)) e ∙ between front text rest token.from token.to (h.1 ∙ l) end in (
      omega (arith, h.1),
      omega (arith, end, n),
      subst (IsWritten token.kind) (sym same) (written shape text token.kind s.0 h.0),
      subst (λ to. AreRising to (lexemes_of bytes tokens)) (sym h.2) (more tokens h.3),
    )
of_part P.White front text rest bytes b GoOn tokens at e l n s more h = sooner at (at + length text) bytes tokens (omega arith) (more tokens h)
of_part P.Comment front text rest bytes b GoOn tokens at e l n s more h = sooner at (at + length text) bytes tokens (omega arith) (more tokens h)
of_part P.LineComment front text rest bytes b GoOn tokens at e l n s more h = sooner at (at + length text) bytes tokens (omega arith) (more tokens h)
of_part P.Directive front text rest bytes b GoOn tokens at e l n s more h = sooner at (at + length text) bytes tokens (omega arith) (more tokens h)

of_parts : (parts : List Part) (front : List ℕ) (tokens : List Token) (bytes : List ℕ) (at : ℕ) (begins_line : Bool) → bytes ≡ front ++ text_of parts
    → at ≡ length front → AreParts begins_line parts [] → AreTokens at parts tokens → AreRising at (lexemes_of bytes tokens)
of_parts [] front tokens bytes at b e l s h = subst (λ tokens. AreRising at (lexemes_of bytes tokens)) (sym h) tt
of_parts (part ∷ parts) front tokens bytes at b e l s h =
    let size : at + length part.text ≡ length (front ++ part.text) = omega (arith, l, length-append front part.text) in
    of_part part.kind front part.text (text_of parts) bytes b (AreTokens (at + length part.text) parts) tokens at e l
    (part_long parts_are_exact b part (text_of parts ++ []) s.0)
    (subst (λ rest. Stands b part.kind part.text rest) (append-nil (text_of parts)) s.0)
    (λ more m. of_parts parts (front ++ part.text) more bytes (at + length part.text) (begins_line_after_part b part)
    (e ∙ sym (append_assoc front part.text (text_of parts))) size s.1 m) h

pub tokens_rise : (bytes : List ℕ) (tokens : List Token) → Lexes bytes tokens → AreRising 0 (lexemes_of bytes tokens)
tokens_rise bytes tokens l = of_parts l.parts [] tokens bytes 0 true l.bytes_are refl l.are_parts l.are_tokens
