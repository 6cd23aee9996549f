-- Places that stand at tokens of a part, no two at one token, in whatever order.
use Rattle.std.proofs.Common.{◌≡◌, ℕ, zero, suc, ◌+◌, ◌≤◌, ◌<◌, List, [], ◌∷◌, ◌++◌, length, refl, subst, arith, append-nil, inl, inr}
use Rattle.std.specs.Prelude.{◌⊎◌, Some, slice_get}
use Rattle.c_ast.specs.Spelling.{Lexeme}
use Rattle.c_checking_laws.proofs.TextOrder.Rising.{AreRising, Rise}
use Rattle.c_checking_laws.proofs.Extends.{kept, behind, one_of_both}

-- different places from a byte on, and before another
pub record AreWithin (from : ℕ) (places : List ℕ) (to : ℕ) : Type 0 where
  pub later : from ≤ to
  pub between : (k p : ℕ) → slice_get places k ≡ Some p → (from ≤ p) × (p < to)
  pub apart : (j k p : ℕ) → slice_get places j ≡ Some p → slice_get places k ≡ Some p → j ≡ k

pub record Spread (places : List ℕ) (tokens rest : List Lexeme) : Type 0 where
  pub along : (from : ℕ) → AreRising from tokens → (to : ℕ) × AreWithin from places to × AreRising to rest

none_within : (from to : ℕ) → from ≤ to → AreWithin from [] to
none_within from to l = record { later = l; between = λ k p e. cc; apart = λ j k p e f. cc }

sooner : (from later : ℕ) (places : List ℕ) (to : ℕ) → from ≤ later → AreWithin later places to → AreWithin from places to
sooner from later places to l h = record {
  later = omega (arith, l, h.later);
  between = λ k p e. let b = h.between k p e in let c = b.0 in (omega (arith, l, c), b.1);
  apart = h.apart;
}

joined : (from : ℕ) (a : List ℕ) (middle : ℕ) (b : List ℕ) (to : ℕ) → AreWithin from a middle → AreWithin middle b to → AreWithin from (a ++ b) to
joined from a middle b to h i = record {
  later = omega (arith, h.later, i.later);
  between = λ k p e. in_both k p (one_of_both a b k p e);
  apart = λ j k p e f. different j k p (one_of_both a b j p e) (one_of_both a b k p f);
}
  where
    in_both : (k p : ℕ) → (slice_get a k ≡ Some p) ⊎ ((j : ℕ) × (k ≡ length a + j) × (slice_get b j ≡ Some p)) → (from ≤ p) × (p < to)
    in_both k p (inl e) = let c = h.between k p e in let m = c.1 in (c.0, omega (arith, m, i.later))
    in_both k p (inr e) = let c = i.between e.0 p e.2 in let m = c.0 in (omega (arith, m, h.later), c.1)

    different : (j k p : ℕ) → (slice_get a j ≡ Some p) ⊎ ((i : ℕ) × (j ≡ length a + i) × (slice_get b i ≡ Some p))
        → (slice_get a k ≡ Some p) ⊎ ((i : ℕ) × (k ≡ length a + i) × (slice_get b i ≡ Some p)) → j ≡ k
    different j k p (inl e) (inl f) = h.apart j k p e f
    different j k p (inl e) (inr f) = let m = (h.between j p e).1 in let n = (i.between f.0 p f.2).0 in absurd (omega (arith, m, n))
    different j k p (inr e) (inl f) = let m = (h.between k p f).1 in let n = (i.between e.0 p e.2).0 in absurd (omega (arith, m, n))
    different j k p (inr e) (inr f) = let s = i.apart e.0 f.0 p e.2 f.2 in let m = e.1 in let n = f.1 in omega (arith, s, m, n)

-- in another order
in_other : (a b : List ℕ) (k p : ℕ) → slice_get (a ++ b) k ≡ Some p
    → (j : ℕ) × (slice_get (b ++ a) j ≡ Some p) × (((k ≡ j + length a) × (slice_get b j ≡ Some p)) ⊎ ((j ≡ length b + k) × (slice_get a k ≡ Some p)))
in_other a b k p e = by_part (one_of_both a b k p e)
  where
    by_part : (slice_get a k ≡ Some p) ⊎ ((j : ℕ) × (k ≡ length a + j) × (slice_get b j ≡ Some p))
        → (j : ℕ) × (slice_get (b ++ a) j ≡ Some p) × (((k ≡ j + length a) × (slice_get b j ≡ Some p)) ⊎ ((j ≡ length b + k) × (slice_get a k ≡ Some p)))
    by_part (inl e) = (length b + k, behind b a k (length b + k) p refl e, inr (refl, e))
    by_part (inr e) = let m = e.1 in (e.0, kept b a e.0 p e.2, inl (omega (arith, m), e.2))

swapped : (from : ℕ) (a b : List ℕ) (to : ℕ) → AreWithin from (b ++ a) to → AreWithin from (a ++ b) to
swapped from a b to h = record {
  later = h.later;
  between = λ k p e. let o = in_other a b k p e in h.between o.0 p o.1;
  apart = λ j k p e f.
      let o = in_other a b j p e in
      let i = in_other a b k p f in
      let s = h.apart o.0 i.0 p o.1 i.1 in
      number j k p o.0 i.0 s o.2 i.2;
}
  where
    below : (all : List ℕ) (k p : ℕ) → slice_get all k ≡ Some p → k < length all
    below [] k p e = cc
    below (q ∷ all) zero p e = omega arith
    below (q ∷ all) (suc k) p e = let l = below all k p e in omega (arith, l)

    number : (j k p m n : ℕ) → m ≡ n → ((j ≡ m + length a) × (slice_get b m ≡ Some p)) ⊎ ((m ≡ length b + j) × (slice_get a j ≡ Some p))
        → ((k ≡ n + length a) × (slice_get b n ≡ Some p)) ⊎ ((n ≡ length b + k) × (slice_get a k ≡ Some p)) → j ≡ k
    number j k p m n s (inl e) (inl f) = let x = e.0 in let y = f.0 in omega (arith, s, x, y)
    number j k p m n s (inr e) (inr f) = let x = e.0 in let y = f.0 in omega (arith, s, x, y)
    number j k p m n s (inl e) (inr f) = let x = f.0 in let l = below b m p e.1 in absurd (omega (arith, s, x, l))
    number j k p m n s (inr e) (inl f) = let x = e.0 in let l = below b n p f.1 in absurd (omega (arith, s, x, l))

-- ---- parts

pub none : {rest : List Lexeme} → Spread [] rest rest
none = record { along = λ from o. (from, none_within from from (omega arith), o) }

pub skip : {places : List ℕ} {t : Lexeme} {tokens rest : List Lexeme} → Spread places tokens rest → Spread places (t ∷ tokens) rest
skip {places = places} {t = t} p = record {
  along = λ from o. let r = p.along t.to o.3 in let l = o.0 in let m = o.1 in (r.0, sooner from t.to places r.0 (omega (arith, l, m)) r.1, r.2);
}

one_within : (p to : ℕ) → p < to → AreWithin p (p ∷ []) to
one_within p to l = record { later = omega (arith, l); between = λ k q e. here k q e; apart = λ j k q e f. same j k q e f }
  where
    here : (k q : ℕ) → slice_get (p ∷ []) k ≡ Some q → (p ≤ q) × (q < to)
    here zero q e = let s : p ≡ q = cc in (omega (arith, s), omega (arith, s, l))
    here (suc k) q e = cc

    same : (j k q : ℕ) → slice_get (p ∷ []) j ≡ Some q → slice_get (p ∷ []) k ≡ Some q → j ≡ k
    same zero zero q e f = refl
    same zero (suc k) q e f = cc
    same (suc j) k q e f = cc

-- the token stands at one of the places
pub here : {places : List ℕ} {t : Lexeme} {tokens rest : List Lexeme} → Spread places tokens rest → Spread (t.from ∷ places) (t ∷ tokens) rest
here {places = places} {t = t} p = record {
  along = λ from o.
      let r = p.along t.to o.3 in
      let l = o.0 in
      let m = o.1 in
      (r.0, sooner from t.from (t.from ∷ places) r.0 l (joined t.from (t.from ∷ []) t.to places r.0 (one_within t.from t.to m) r.1), r.2);
}

pub both : {a b : List ℕ} {tokens middle rest : List Lexeme} → Spread a tokens middle → Spread b middle rest → Spread (a ++ b) tokens rest
both {a = a} {b = b} p q = record {
  along = λ from o. let r = p.along from o in let s = q.along r.0 r.2 in (s.0, joined from a r.0 b s.0 r.1 s.1, s.2);
}

pub swap : {tokens rest : List Lexeme} (a b : List ℕ) → Spread (b ++ a) tokens rest → Spread (a ++ b) tokens rest
swap a b p = record { along = λ from o. let r = p.along from o in (r.0, swapped from a b r.0 r.1, r.2) }

pub before : {a : List ℕ} {tokens middle rest : List Lexeme} → Spread a tokens middle → Spread [] middle rest → Spread a tokens rest
before {a = a} {tokens = tokens} {rest = rest} p q = subst (λ places. Spread places tokens rest) (append-nil a) (both p q)

pub after : {a : List ℕ} {tokens middle rest : List Lexeme} → Spread [] tokens middle → Spread a middle rest → Spread a tokens rest
after p q = both p q

-- a part in which there are none
pub quiet : {tokens rest : List Lexeme} → Rise [] tokens rest → Spread [] tokens rest
quiet p = record { along = λ from o. let r = p.along from o in (r.0, none_within from r.0 r.1, r.2) }
