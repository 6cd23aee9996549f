-- The earliest of some troubles: of a list, one that stands at no later place than any.
use Rattle.std.proofs.Common.{◌≡◌, ◌++◌, Option, Some, None, ap, ℕ, ◌<◌, ◌≤◌, ◌⊎◌, inl, inr, Bool, true, false, ◌||◌, ◌&&◌, ◌==◌, nat_lt, List, [], ◌∷◌, refl}
use Rattle.std.proofs.Common.{sym, ◌∙◌, subst, arith}
use Rattle.std.specs.Prelude.{if◌then◌else◌, MatchOption}
use Rattle.std.proofs.lemmas.Bool.{eqb-true, eqb-false, ltb-true, ltb-false}
use Rattle.lay_base.specs.declared.place.Place.{Place}
use Rattle.c_link.specs.Earliest.{earlier, earlier_of, earliest, earliest_of, is_earlier}
use Rattle.std.specs.Option.{option_map}
use Rattle.c_link.specs.Clashes.{trouble_of}
use Rattle.c_link.specs.declared.troubles.Trouble as troubles
use Rattle.c_link.specs.Gaps.{HasNone, IsBefore, IsEarliest, IsIn, IsNotAfter, Trouble}

earlier_is : (p q : Place) → is_earlier p q ≡ true → IsBefore p q
earlier_is p q h =
    go (nat_lt p.file q.file) (p.file == q.file) (nat_lt p.at q.at) refl refl refl h
  where
    go : (a b c : Bool) → nat_lt p.file q.file ≡ a → (p.file == q.file) ≡ b → nat_lt p.at q.at ≡ c → (a || (b && c)) ≡ true → IsBefore p q
    go true b c e f g h = inl (ltb-true p.file q.file e)
    go false true true e f g h = inr (eqb-true p.file q.file f, ltb-true p.at q.at g)
    go false true false e f g h = absurd (let k : false ≡ true = h in cc)
    go false false c e f g h = absurd (let k : false ≡ true = h in cc)

not_after_or : (p q : Place) → p.file ≡ q.file → (p.at < q.at) ⊎ (p.at ≡ q.at) → IsNotAfter p q
not_after_or p q e (inl h) = inl (inr (e, h))
not_after_or p q e (inr h) = inr (λ i. record { file = e i; at = h i })

le_is : (n m : ℕ) → n ≤ m → (n < m) ⊎ (n ≡ m)
le_is n m h = go (nat_lt n m) refl
  where
    go : (b : Bool) → nat_lt n m ≡ b → (n < m) ⊎ (n ≡ m)
    go true e = inl (ltb-true n m e)
    go false e = let k : m ≤ n = ltb-false n m e in inr (omega (arith, k, h))

not_earlier : (p q : Place) → is_earlier p q ≡ false → IsNotAfter q p
not_earlier p q h =
    go (nat_lt p.file q.file) (p.file == q.file) (nat_lt p.at q.at) refl refl refl h
  where
    go : (a b c : Bool) → nat_lt p.file q.file ≡ a → (p.file == q.file) ≡ b → nat_lt p.at q.at ≡ c → (a || (b && c)) ≡ false → IsNotAfter q p
    go true b c e f g h = absurd (let k : true ≡ false = h in cc)
    go false true true e f g h = absurd (let k : true ≡ false = h in cc)
    go false true false e f g h = not_after_or q p (sym (eqb-true p.file q.file f)) (le_is q.at p.at (ltb-false p.at q.at g))
    go false false c e f g h =
        let k : q.file ≤ p.file = ltb-false p.file q.file e in
        elim (le_is q.file p.file k) [ inl l ↦ inl (inl l) | inr l ↦ absurd (eqb-false p.file q.file f (sym l)) ]

before_then : (p q r : Place) → IsBefore p q → IsBefore q r → IsBefore p r
before_then p q r (inl a) (inl b) = inl (omega (arith, a, b))
before_then p q r (inl a) (inr b) = let e = b.0 in inl (omega (arith, a, e))
before_then p q r (inr a) (inl b) = let e = a.0 in inl (omega (arith, e, b))
before_then p q r (inr a) (inr b) = let h = a.1 in let k = b.1 in inr (a.0 ∙ b.0, omega (arith, h, k))

not_after_then : (p q r : Place) → IsNotAfter p q → IsNotAfter q r → IsNotAfter p r
not_after_then p q r (inl a) (inl b) = inl (before_then p q r a b)
not_after_then p q r (inl a) (inr b) = inl (subst (IsBefore p) b a)
not_after_then p q r (inr a) b = subst (λ x. IsNotAfter x r) (sym a) b

earliest_is_in : (t : Trouble) (more : List Trouble) → IsIn (earliest t more) (t ∷ more)
earliest_is_in t [] = inl refl
earliest_is_in t (u ∷ more) =
    go (is_earlier u.place t.place) (earliest_is_in u more) (earliest_is_in t more)
  where
    go : (b : Bool) → IsIn (earliest u more) (u ∷ more) → IsIn (earliest t more) (t ∷ more) → IsIn (earliest (if b then u else t) more) (t ∷ u ∷ more)
    go true h k = inr h
    go false h (inl e) = inl e
    go false h (inr e) = inr (inr e)

earliest_first : (t : Trouble) (more : List Trouble) → IsNotAfter (earliest t more).place t.place
earliest_first t [] = inr refl
earliest_first t (u ∷ more) =
    go (is_earlier u.place t.place) refl (earliest_first u more) (earliest_first t more)
  where
    go : (b : Bool) → is_earlier u.place t.place ≡ b → IsNotAfter (earliest u more).place u.place → IsNotAfter (earliest t more).place t.place
        → IsNotAfter (earliest (if b then u else t) more).place t.place
    go true e h k = not_after_then _ u.place t.place h (inl (earlier_is u.place t.place e))
    go false e h k = k

earliest_rest : (t : Trouble) (more : List Trouble) (other : Trouble) → IsIn other more → IsNotAfter (earliest t more).place other.place
earliest_rest t [] other h = absurd h
earliest_rest t (u ∷ more) other h =
    go (is_earlier u.place t.place) refl h (earliest_first u more) (earliest_first t more) (earliest_rest u more other) (earliest_rest t more other)
  where
    go : (b : Bool) → is_earlier u.place t.place ≡ b → IsIn other (u ∷ more) → IsNotAfter (earliest u more).place u.place
        → IsNotAfter (earliest t more).place t.place → (IsIn other more → IsNotAfter (earliest u more).place other.place)
        → (IsIn other more → IsNotAfter (earliest t more).place other.place) → IsNotAfter (earliest (if b then u else t) more).place other.place
    go true e (inl q) h k f g = subst (λ o. IsNotAfter (earliest u more).place o.place) (sym q) h
    go true e (inr q) h k f g = f q
    go false e (inl q) h k f g =
        subst (λ o. IsNotAfter (earliest t more).place o.place) (sym q) (not_after_then _ t.place u.place k (not_earlier u.place t.place e))
    go false e (inr q) h k f g = g q

pub earliest_is : (t : Trouble) (more : List Trouble) → IsEarliest (λ u. IsIn u (t ∷ more)) (earliest t more)
earliest_is t more = record {
  here = earliest_is_in t more;
  earliest = λ other h. elim h [
    | inl e ↦ subst (λ o. IsNotAfter (earliest t more).place o.place) (sym e) (earliest_first t more)
    | inr e ↦ earliest_rest t more other e
  ];
}

-- one more
one_after : (t : Trouble) (more : List Trouble) (u : Trouble) → earliest t (more ++ u ∷ []) ≡ earlier (earliest t more) u
one_after t [] u = refl
one_after t (x ∷ more) u = one_after (earlier t x) more u

pub one_more_trouble : (all : List Trouble) (u : Trouble) → Some (earlier_of (earliest_of all) u) ≡ earliest_of (all ++ u ∷ [])
one_more_trouble [] u = refl
one_more_trouble (t ∷ more) u = ap Some (sym (one_after t more u))

-- ---- the earliest of all, or none

pub earliest_or_none : (Is : Trouble → Type 0) (all : List Trouble) → ((t : Trouble) → Is t → IsIn t all) → ((t : Trouble) → IsIn t all → Is t)
    → (o : Option troubles.Trouble) → option_map trouble_of o ≡ earliest_of all → MatchOption o (HasNone Is) (λ t. IsEarliest Is (trouble_of t))
earliest_or_none Is [] f g None e = f
earliest_or_none Is [] f g (Some t) e = absurd (let k : Some (trouble_of t) ≡ None = e in cc)
earliest_or_none Is (t ∷ more) f g None e = absurd (let k : None ≡ Some (earliest t more) = e in cc)
earliest_or_none Is (t ∷ more) f g (Some u) e =
    let is : trouble_of u ≡ earliest t more = let k : Some (trouble_of u) ≡ Some (earliest t more) = e in cc in
    let first = earliest_is t more in
    subst (IsEarliest Is) (sym is) (record { here = g (earliest t more) first.here; earliest = λ other w. first.earliest other (f other w) })
