-- Places that rise along the tokens of a part, token by token.
use Rattle.std.proofs.Common.{◌≡◌, ℕ, ◌+◌, ◌≤◌, ◌<◌, List, [], ◌∷◌, ◌++◌, inl, inr, refl, sym, subst, arith, append-nil}
use Rattle.c_tokens.specs.declared.token.TokenKind.{TokenKind}
use Rattle.c_tokens.specs.declared.token.TokenKind.TheVariants as K
use Rattle.c_ast.specs.Spelling.{Lexeme}
use Rattle.c_erasure.specs.Marks.{Mark, scope_beginnings}
use Rattle.c_erasure.specs.MarkPlaces.Places.{AreAmong, Along}
use Rattle.c_erasure.proofs.MarkPlaces.Ordered.{beginnings_among}
use Rattle.c_checking_laws.specs.TextOrder.TextOrder.{Rising, IsUnwritten}

-- ---- tokens one after the other, none of them empty; no name begins as that of a structure without a tag

abbrev pub IsWritten : TokenKind → List ℕ → Type 0
IsWritten K.Name text = IsUnwritten text → ⊥
IsWritten kind text = Unit {0}

abbrev pub AreRising : ℕ → List Lexeme → Type 0
AreRising at [] = Unit {0}
AreRising at (t ∷ tokens) = (at ≤ t.from) × (t.from < t.to) × IsWritten t.kind t.text × AreRising t.to tokens

-- ---- places from a byte to another, one after the other

abbrev pub RisingTo : ℕ → List ℕ → ℕ → Type 0
RisingTo from [] to = from ≤ to
RisingTo from (p ∷ more) to = (from ≤ p) × RisingTo (p + 1) more to

pub rises : (from : ℕ) (places : List ℕ) (to : ℕ) → RisingTo from places to → Rising from places
rises from [] to h = tt
rises from (p ∷ more) to h = (h.0, rises (p + 1) more to h.1)

sooner : (from later : ℕ) (places : List ℕ) (to : ℕ) → from ≤ later → RisingTo later places to → RisingTo from places to
sooner from later [] to l h = omega (arith, l, h)
sooner from later (p ∷ more) to l h = (omega (arith, l, h.0), h.1)

joined : (from : ℕ) (a : List ℕ) (middle : ℕ) (b : List ℕ) (to : ℕ) → RisingTo from a middle → RisingTo middle b to → RisingTo from (a ++ b) to
joined from [] middle b to h k = sooner from middle b to h k
joined from (p ∷ a) middle b to h k = (h.0, joined (p + 1) a middle b to h.1 k)

-- ---- the tokens of a part, before those of what follows, and the places that rise along them

pub record Rise (places : List ℕ) (tokens rest : List Lexeme) : Type 0 where
  pub along : (from : ℕ) → AreRising from tokens → (to : ℕ) × RisingTo from places to × AreRising to rest

pub none : {rest : List Lexeme} → Rise [] rest rest
none = record { along = λ from o. (from, omega arith, o) }

pub skip : {places : List ℕ} {t : Lexeme} {tokens rest : List Lexeme} → Rise places tokens rest → Rise places (t ∷ tokens) rest
skip {places = places} {t = t} p = record {
  along = λ from o. let r = p.along t.to o.3 in (r.0, sooner from t.to places r.0 (omega (arith, o.0, o.1)) r.1, r.2);
}

-- the token stands at one of the places
pub here : {places : List ℕ} {t : Lexeme} {tokens rest : List Lexeme} → Rise places tokens rest → Rise (t.from ∷ places) (t ∷ tokens) rest
here {places = places} {t = t} p = record {
  along = λ from o. let r = p.along t.to o.3 in (r.0, (o.0, sooner (t.from + 1) t.to places r.0 (omega (arith, o.1)) r.1), r.2);
}

pub both : {a b : List ℕ} {tokens middle rest : List Lexeme} → Rise a tokens middle → Rise b middle rest → Rise (a ++ b) tokens rest
both {a = a} {b = b} p q = record {
  along = λ from o. let r = p.along from o in let s = q.along r.0 r.2 in (s.0, joined from a r.0 b s.0 r.1 s.1, s.2);
}

pub before : {a : List ℕ} {tokens middle rest : List Lexeme} → Rise a tokens middle → Rise [] middle rest → Rise a tokens rest
before {a = a} {tokens = tokens} {rest = rest} p q = subst (λ places. Rise places tokens rest) (append-nil a) (both p q)

pub after : {a : List ℕ} {tokens middle rest : List Lexeme} → Rise [] tokens middle → Rise a middle rest → Rise a tokens rest
after p q = both p q

-- ---- of a part whose marks are known

among : (from : ℕ) (places : List ℕ) (own rest : List Lexeme) → AreAmong places own → AreRising from (own ++ rest)
    → (to : ℕ) × RisingTo from places to × AreRising to rest
among from places [] rest h o = (from, subst (λ p. RisingTo from p from) (sym h) (omega arith), o)
among from places (t ∷ own) rest (inl h) o =
    let r = among t.to places own rest h o.3 in
    (r.0, sooner from t.to places r.0 (omega (arith, o.0, o.1)) r.1, r.2)
among from places (t ∷ own) rest (inr h) o =
    let r = among t.to h.0 own rest h.3 o.3 in
    (r.0, subst (λ p. RisingTo from p r.0) (sym h.1) (o.0, sooner (t.from + 1) t.to h.0 r.0 (omega (arith, o.1)) r.1), r.2)

own_places : {places : List ℕ} {tokens rest : List Lexeme} (own : List Lexeme) → tokens ≡ own ++ rest → AreAmong places own → Rise places tokens rest
own_places {places = places} {rest = rest} own e h = record { along = λ from o. among from places own rest h (subst (AreRising from) e o) }

-- where scopes begin
pub marked : {marks : List Mark} {tokens rest : List Lexeme} → Along marks tokens rest → Rise (scope_beginnings marks) tokens rest
marked {marks = marks} a = own_places a.own a.whole (beginnings_among marks a.own a.among)

nowhere : (own : List Lexeme) → AreAmong [] own
nowhere [] = refl
nowhere (t ∷ own) = inl (nowhere own)

pub unmarked : {marks : List Mark} {tokens rest : List Lexeme} → Along marks tokens rest → Rise [] tokens rest
unmarked a = own_places a.own a.whole (nowhere a.own)
