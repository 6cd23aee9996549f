-- Bytes that are put into a list, and cells that are written over others: each is found again, and outside all is as it was.
use Rattle.std.proofs.Common.{◌≡◌, ◌≢◌, ℕ, zero, suc, ◌+◌, ◌^◌, ◌<◌, ◌≤◌, ◌⊎◌, inl, inr, List, [], ◌∷◌, ◌++◌, length, Some}
use Rattle.std.proofs.Common.{slice_get, slice_index, take, drop, refl, ap, ◌∙◌, subst, arith}
use Rattle.std.specs.Prelude.{All, replicate, slice_set}
use Rattle.std.proofs.lemmas.List.{length-set, get_or-set_same, get_or-set_other}
use Rattle.rv_image.specs.Data.{put_bytes}
use Rattle.rv_emit.proofs.Cells.{Outside}

-- ---- bytes

pub put_keeps : (at : ℕ) (bytes all : List ℕ) → length (put_bytes at bytes all) ≡ length all
put_keeps at [] all = refl
put_keeps at (byte ∷ more) all = put_keeps (at + 1) more (slice_set all at byte) ∙ length-set all at byte

pub put_outside : (at : ℕ) (bytes all : List ℕ) (j : ℕ) → Outside at (length bytes) j → slice_index (put_bytes at bytes all) j ≡ slice_index all j
put_outside at [] all j out = refl
put_outside at (byte ∷ more) all j out =
    put_outside (at + 1) more (slice_set all at byte) j (rest out) ∙ get_or-set_other all at j byte 0 (other out)
  where
    rest : Outside at (suc (length more)) j → Outside (at + 1) (length more) j
    rest (inl lt) = inl (omega arith)
    rest (inr le) = inr (omega arith)

    other : Outside at (suc (length more)) j → j ≢ at
    other (inl lt) e = omega arith
    other (inr le) e = omega arith

pub put_inside : (at : ℕ) (bytes all : List ℕ) (j : ℕ) → j < length bytes → at + length bytes ≤ length all
    → slice_index (put_bytes at bytes all) (at + j) ≡ slice_index bytes j
put_inside at [] all j lt le = absurd (omega arith)
put_inside at (byte ∷ more) all zero lt le =
    let e : at + 0 ≡ at = omega arith in
    ap (slice_index (put_bytes at (byte ∷ more) all)) e
    ∙ put_outside (at + 1) more (slice_set all at byte) at (inl (omega arith)) ∙ get_or-set_same all at byte 0 (omega arith)
put_inside at (byte ∷ more) all (suc j) lt le =
    let e : at + suc j ≡ at + 1 + j = omega arith in
    ap (slice_index (put_bytes at (byte ∷ more) all)) e
    ∙ put_inside (at + 1) more (slice_set all at byte) j (omega arith) (omega (arith, length-set all at byte))

-- ---- bytes that are below 2^8

abbrev pub AreBytes : List ℕ → Type 0
AreBytes all = All (λ b. b < 2 ^ 8) all

-- ---- elements of lists that are written over

module _ {A : Type 0} where
  front_cases : (all new : List A) (i : ℕ) (c : A) → length new ≤ length all → slice_get (new ++ drop (length new) all) i ≡ Some c
      → ((i < length new) × (slice_get new i ≡ Some c)) ⊎ ((length new ≤ i) × (slice_get all i ≡ Some c))
  front_cases all [] i c le e = inr (omega arith, e)
  front_cases [] (x ∷ new) i c le e = absurd (omega arith)
  front_cases (z ∷ all) (x ∷ new) zero c le e = inl (omega arith, e)
  front_cases (z ∷ all) (x ∷ new) (suc i) c le e = elim (front_cases all new i c (omega arith) e) [
    | inl h ↦ inl (omega (arith, h.0), h.1)
    | inr h ↦ inr (omega (arith, h.0), h.1)
  ]

  -- an element is a new one, or one that was there outside
  pub over_cases : (all new : List A) (at n i : ℕ) (c : A) → n ≡ at + length new → n ≤ length all
      → slice_get (take at all ++ new ++ drop n all) i ≡ Some c
      → ((k : ℕ) × (i ≡ at + k) × (k < length new) × (slice_get new k ≡ Some c)) ⊎ (Outside at (length new) i × (slice_get all i ≡ Some c))
  over_cases all new zero n i c is le e =
      let z : n ≡ length new = omega arith in
      elim (front_cases all new i c (omega arith) (subst (λ k. slice_get (new ++ drop k all) i ≡ Some c) z e)) [
        | inl h ↦ inl (i, omega arith, h.0, h.1)
        | inr h ↦ inr (inr (omega (arith, h.0)), h.1)
      ]
  over_cases all new (suc at) zero i c is le e = absurd (omega arith)
  over_cases [] new (suc at) (suc n) i c is le e = absurd (omega arith)
  over_cases (x ∷ all) new (suc at) (suc n) zero c is le e = inr (inl (omega arith), e)
  over_cases (x ∷ all) new (suc at) (suc n) (suc i) c is le e = elim (over_cases all new at n i c (omega arith) (omega arith) e) [
    | inl h ↦ inl (h.0, omega (arith, h.1), h.2, h.3)
    | inr h ↦ inr (further h.0, h.1)
  ]
    where
      further : Outside at (length new) i → Outside (suc at) (length new) (suc i)
      further (inl lt) = inl (omega arith)
      further (inr le) = inr (omega arith)

  pub replicate_is : (n : ℕ) (x c : A) (i : ℕ) → slice_get (replicate n x) i ≡ Some c → x ≡ c
  replicate_is zero x c i e = absurd cc
  replicate_is (suc n) x c zero e = cc
  replicate_is (suc n) x c (suc i) e = replicate_is n x c i e
