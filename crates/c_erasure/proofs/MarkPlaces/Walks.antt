-- Marks along the tokens of a part, token by token.
use Rattle.std.proofs.Common.{◌≡◌, ℕ, List, [], ◌∷◌, ◌++◌, Option, Some, None, length, refl, sym, ap, ◌∙◌, subst, arith, append_assoc, append-nil, inl, inr}
use Rattle.c_tokens.specs.declared.punctuator.Punctuator.{Punctuator}
use Rattle.c_tokens.specs.Punctuators.{punctuator_text}
use Rattle.c_ast.specs.declared.words.Spelling.{Spelling}
use Rattle.c_ast.specs.Spelling.{Lexeme, punctuator, spelled_comma, spelled_tag, spelled_texts, spelled_consts}
use Rattle.c_erasure.specs.Scopes.{Tag}
use Rattle.c_erasure.specs.Marks.{Mark, a_tag, an_end, a_name}
use Rattle.c_erasure.specs.MarkPlaces.Places.{bytes_of, AreAmong, Along}

bytes_of_both : (a b : List Mark) → bytes_of (a ++ b) ≡ bytes_of a ++ bytes_of b
bytes_of_both [] b = refl
bytes_of_both (a_tag t ∷ a) b = bytes_of_both a b
bytes_of_both (an_end tag right ∷ a) b = ap (λ x. right ∷ x) (bytes_of_both a b)
bytes_of_both (a_name from ∷ a) b = ap (λ x. from ∷ x) (bytes_of_both a b)

pub among_none : (tokens : List Lexeme) → AreAmong [] tokens
among_none [] = refl
among_none (t ∷ tokens) = inl (among_none tokens)

among_both : (a b : List ℕ) (tokens others : List Lexeme) → AreAmong a tokens → AreAmong b others → AreAmong (a ++ b) (tokens ++ others)
among_both a b [] others h k = rw h k
among_both a b (t ∷ tokens) others (inl h) k = inl (among_both a b tokens others h k)
among_both a b (t ∷ tokens) others (inr h) k = inr (h.0 ++ b, ap (λ x. x ++ b) h.1, h.2, among_both h.0 b tokens others h.3 k)

-- ---- steps

pub none : {rest : List Lexeme} → Along [] rest rest
none = record { own = []; whole = refl; among = refl }

pub skip : {marks : List Mark} {t : Lexeme} {tokens rest : List Lexeme} → Along marks tokens rest → Along marks (t ∷ tokens) rest
skip {t = t} p = record { own = t ∷ p.own; whole = ap (λ x. t ∷ x) p.whole; among = inl p.among }

pub tag : {t : Tag} {marks : List Mark} {tokens rest : List Lexeme} → Along marks tokens rest → Along (a_tag t ∷ marks) tokens rest
tag p = record { own = p.own; whole = p.whole; among = p.among }

pub both : {a b : List Mark} {tokens middle rest : List Lexeme} → Along a tokens middle → Along b middle rest → Along (a ++ b) tokens rest
both {a = a} {b = b} p q = record {
  own = p.own ++ q.own;
  whole = p.whole ∙ (ap (λ x. p.own ++ x) q.whole ∙ sym (append_assoc p.own q.own _));
  among = rw bytes_of_both (among_both (bytes_of a) (bytes_of b) p.own q.own p.among q.among);
}

-- a scope begins at a punctuator
pub begins : {m : Punctuator} {at : ℕ} {marks : List Mark} {tokens rest : List Lexeme} → length (punctuator_text m) ≡ 1
    → Along marks tokens rest → Along (a_name at ∷ marks) (punctuator m at ∷ tokens) rest
begins {m = m} {at = at} long p = record {
  own = punctuator m at ∷ p.own;
  whole = ap (λ x. punctuator m at ∷ x) p.whole;
  among = inr (_, refl, omega (arith, long), p.among);
}

-- a definition ends at a brace
pub ends : {m : Punctuator} {name : List ℕ} {at : ℕ} {marks : List Mark} {tokens rest : List Lexeme} → length (punctuator_text m) ≡ 1
    → Along marks tokens rest → Along (an_end name at ∷ marks) (punctuator m at ∷ tokens) rest
ends {m = m} {at = at} long p = record {
  own = punctuator m at ∷ p.own;
  whole = ap (λ x. punctuator m at ∷ x) p.whole;
  among = inr (_, refl, omega (arith, long), p.among);
}

-- the tokens of a part of which nothing is marked
pub bare : {marks : List Mark} {tokens rest : List Lexeme} → Along marks tokens rest → Along [] tokens rest
bare p = record { own = p.own; whole = p.whole; among = among_none p.own }

pub before : {a b : List Mark} {tokens middle rest : List Lexeme} → Along a tokens middle → Along b middle rest → Along a tokens rest
before {a = a} {tokens = tokens} {rest = rest} p q = subst (λ marks. Along marks tokens rest) (append-nil a) (both p (bare q))

pub after : {a b : List Mark} {tokens middle rest : List Lexeme} → Along a tokens middle → Along b middle rest → Along b tokens rest
after {b = b} p q = both (bare p) q

-- ---- rows of tokens of which none is marked

pub comma_along : (c : Option ℕ) {rest : List Lexeme} → Along [] (spelled_comma c rest) rest
comma_along None = none
comma_along (Some at) = skip none

pub tag_along : (x : Option Spelling) {rest : List Lexeme} → Along [] (spelled_tag x rest) rest
tag_along None = none
tag_along (Some x) = skip none

pub texts_along : (all : List Spelling) {rest : List Lexeme} → Along [] (spelled_texts all rest) rest
texts_along [] = none
texts_along (x ∷ more) = skip (texts_along more)

pub consts_along : (all : List ℕ) {rest : List Lexeme} → Along [] (spelled_consts all rest) rest
consts_along [] = none
consts_along (at ∷ more) = skip (consts_along more)
