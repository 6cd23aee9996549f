-- What stands in a program under the number of an object or a function of a unit: one that has the same identity there.
use Rattle.std.proofs.Common.{◌≡◌, ◌∙◌, ℕ, zero, suc, ◌+◌, ◌≤◌, Bool, true, false, ◌||◌, refl, sym, ap, subst, cond, List, [], ◌∷◌, ◌++◌, map, flat_map, inl}
use Rattle.std.proofs.Common.{inr}
use Rattle.std.proofs.Common.{arith}
use Rattle.std.proofs.lemmas.List.{append-nil, map-append}
use Rattle.std.proofs.lemmas.Slice.Eq.{bytes_eq-Decides}
use Rattle.std.specs.Prelude.{◌⊎◌, Option, Some, None, slice_get}
use Rattle.std.specs.Str.{bytes_eq}
use Rattle.c_numbers.proofs.KeyNumbers.Laws.{all_new}
use Rattle.c_numbers.specs.KeyNumbers.Keys.{is_among, new_keys, position}
use Rattle.c_typed.specs.Programs.{UnitData}
use Rattle.c_link.specs.Joining.{numbered_from, named, identity, paired, under, chosen, chosen_among, or_first, if_any}
use Rattle.c_link.specs.Placing.{placed}
use Rattle.c_link.proofs.UnderKeys.{placed_all, found_at}
use Rattle.c_link.proofs.JoinedRecords.{IsAmong, among_flat, among_at}

abbrev Key : Type 0
Key = List ℕ

-- ---- lists

append_among : {A : Type 0} (x : A) (xs ys : List A) → IsAmong x (xs ++ ys) → IsAmong x xs ⊎ IsAmong x ys
append_among x [] ys h = inr h
append_among x (y ∷ more) ys (inl e) = inl (inl e)
append_among x (y ∷ more) ys (inr h) = elim (append_among x more ys h) [ inl k ↦ inl (inr k) | inr k ↦ inr k ]

pub flat_among : {A B : Type 0} (f : A → List B) (all : List A) (x : B) → IsAmong x (flat_map f all) → (y : A) × IsAmong y all × IsAmong x (f y)
flat_among f [] x h = absurd h
flat_among f (y ∷ more) x h =
    elim (append_among x (f y) (flat_map f more) h) [
      | inl k ↦ (y, inl refl, k)
      | inr k ↦ let w = flat_among f more x k in (w.0, inr w.1, w.2)
    ]

-- ---- the units with their numbers

later : (k n : ℕ) (u : UnitData) (units : List UnitData) → IsAmong (n, u) (numbered_from k units) → k ≤ n
later k n u [] h = absurd h
later k n u (v ∷ more) (inl e) = let is : n ≡ k = ap (λ (p : ℕ × UnitData). p.0) e in omega (arith, is)
later k n u (v ∷ more) (inr h) = let l = later (k + 1) n u more h in omega (arith, l)

pub one_unit : (k n : ℕ) (u v : UnitData) (units : List UnitData) → IsAmong (n, u) (numbered_from k units) → IsAmong (n, v) (numbered_from k units) → u ≡ v
one_unit k n u v [] h g = absurd h
one_unit k n u v (w ∷ more) (inl e) (inl f) = ap (λ (p : ℕ × UnitData). p.1) e ∙ sym (ap (λ (p : ℕ × UnitData). p.1) f)
one_unit k n u v (w ∷ more) (inl e) (inr g) =
    let is : n ≡ k = ap (λ (p : ℕ × UnitData). p.0) e in let l = later (k + 1) n v more g in absurd (omega (arith, is, l))
one_unit k n u v (w ∷ more) (inr h) (inl f) =
    let is : n ≡ k = ap (λ (p : ℕ × UnitData). p.0) f in let l = later (k + 1) n u more h in absurd (omega (arith, is, l))
one_unit k n u v (w ∷ more) (inr h) (inr g) = one_unit (k + 1) n u v more h g

pub unit_among : (k : ℕ) (units : List UnitData) (p : ℕ × UnitData) → IsAmong p (numbered_from k units) → IsAmong p.1 units
unit_among k [] p h = absurd h
unit_among k (v ∷ more) p (inl e) = inl (ap (λ (p : ℕ × UnitData). p.1) e)
unit_among k (v ∷ more) p (inr h) = inr (unit_among (k + 1) more p h)

-- ---- keys that stand once

some_is : {A : Type 0} (x y : A) → Some x ≡ Some y → x ≡ y
some_is x y h = cc

-- what stands under a number among what some keys give, of which each gives one thing
chosen_index : {X : Type 0} (f : Key → Option X) (keys : List Key) → ((k : Key) → IsAmong k keys → (x : X) × (f k ≡ Some x)) → (j : ℕ) (y : X)
    → slice_get (flat_map (λ k. if_any (f k)) keys) j ≡ Some y → (k : Key) × (slice_get keys j ≡ Some k) × (f k ≡ Some y)
chosen_index f [] each j y h = cc
chosen_index {X = X} f (k ∷ keys) each j y h =
    let e = each k (inl refl) in
    go e.0 e.1 j (subst (λ o. slice_get (if_any o ++ flat_map (λ k. if_any (f k)) keys) j ≡ Some y) e.1 h) (λ i. chosen_index f keys (λ k i. each k (inr i)) i y)
  where
    go : (x : X) → f k ≡ Some x → (j : ℕ) → slice_get (x ∷ flat_map (λ k. if_any (f k)) keys) j ≡ Some y
        → ((i : ℕ) → slice_get (flat_map (λ k. if_any (f k)) keys) i ≡ Some y → (l : Key) × (slice_get keys i ≡ Some l) × (f l ≡ Some y))
        → (l : Key) × (slice_get (k ∷ keys) j ≡ Some l) × (f l ≡ Some y)
    go x e zero h again = (k, refl, e ∙ h)
    go x e (suc i) h again = again i h

new_among : (k : Key) (known all : List Key) → IsAmong k (new_keys known all) → IsAmong k all
new_among k known [] h = h
new_among k known (x ∷ all) h = go (is_among known x) h (new_among k known all) (new_among k (x ∷ known) all)
  where
    go : (b : Bool) → IsAmong k (cond b (new_keys known all) (x ∷ new_keys (x ∷ known) all)) → (IsAmong k (new_keys known all) → IsAmong k all)
        → (IsAmong k (new_keys (x ∷ known) all) → IsAmong k all) → IsAmong k (x ∷ all)
    go true i f g = inr (f i)
    go false (inl e) f g = inl e
    go false (inr i) f g = inr (g i)

-- one that is known is not new
not_new : (k : Key) (known all : List Key) (j : ℕ) → is_among known k ≡ true → slice_get (new_keys known all) j ≡ Some k → ⊥
not_new k known [] j q h = cc
not_new k known (x ∷ all) j q h = go (is_among known x) refl j h (not_new k known all) (not_new k (x ∷ known) all)
  where
    or_true : (b : Bool) → (b || is_among known k) ≡ true
    or_true true = refl
    or_true false = q

    go : (b : Bool) → is_among known x ≡ b → (j : ℕ) → slice_get (cond b (new_keys known all) (x ∷ new_keys (x ∷ known) all)) j ≡ Some k
        → ((j : ℕ) → is_among known k ≡ true → slice_get (new_keys known all) j ≡ Some k → ⊥)
        → ((j : ℕ) → is_among (x ∷ known) k ≡ true → slice_get (new_keys (x ∷ known) all) j ≡ Some k → ⊥) → ⊥
    go true e j h f g = f j q h
    go false e zero h f g =
        let is = some_is x k h in let true_is_false : true ≡ false = sym q ∙ ap (is_among known) (sym is) ∙ e in cc
    go false e (suc j) h f g = g j (or_true (bytes_eq k x)) h

-- the place of a key is where it stands
position_at : (known all : List Key) (j : ℕ) (k : Key) → slice_get (new_keys known all) j ≡ Some k → position (new_keys known all) k ≡ j
position_at known [] j k h = cc
position_at known (x ∷ all) j k h = go (is_among known x) j h (position_at known all) (position_at (x ∷ known) all)
  where
    go : (b : Bool) (j : ℕ) → slice_get (cond b (new_keys known all) (x ∷ new_keys (x ∷ known) all)) j ≡ Some k
        → ((j : ℕ) (k : Key) → slice_get (new_keys known all) j ≡ Some k → position (new_keys known all) k ≡ j)
        → ((j : ℕ) (k : Key) → slice_get (new_keys (x ∷ known) all) j ≡ Some k → position (new_keys (x ∷ known) all) k ≡ j)
        → position (cond b (new_keys known all) (x ∷ new_keys (x ∷ known) all)) k ≡ j
    go true j h f g = f j k h
    go false zero h f g = let is = some_is x k h in ap (λ b. cond b 0 (position (new_keys (x ∷ known) all) k + 1)) ((bytes_eq-Decides k x).1 (sym is))
    go false (suc j) h f g = by_test (bytes_eq k x) refl
      where
        by_test : (b : Bool) → bytes_eq k x ≡ b → cond b 0 (position (new_keys (x ∷ known) all) k + 1) ≡ suc j
        by_test true e =
            absurd (not_new k (x ∷ known) all j (ap (λ b. b || is_among known k) e) h)
        by_test false e = let r = g j k h in omega (arith, r)

mapped_among : {X : Type 0} (k : Key) (ps : List (Key × X)) → IsAmong k (map {B = Key} (λ p. p.0) ps) → (p : Key × X) × IsAmong p ps × (p.0 ≡ k)
mapped_among k [] h = absurd h
mapped_among k (p ∷ ps) (inl e) = (p, inl refl, sym e)
mapped_among k (p ∷ ps) (inr h) = let r = mapped_among k ps h in (r.0, inr r.1, r.2)

-- ---- under an identity

module _ {X : Type 0} (d : X → Bool) where
  under_has : (i : Key) (x : X) (ps : List (Key × X)) → IsAmong (i, x) ps → IsAmong x (under i ps)
  under_has i x [] h = absurd h
  under_has i x (p ∷ more) h = go (bytes_eq i p.0) refl h (under_has i x more)
    where
      go : (b : Bool) → bytes_eq i p.0 ≡ b → IsAmong (i, x) (p ∷ more) → (IsAmong (i, x) more → IsAmong x (under i more))
          → IsAmong x (cond b (p.1 ∷ under i more) (under i more))
      go true e (inl is) f = inl (ap (λ (p : Key × X). p.1) is)
      go true e (inr k) f = inr (f k)
      go false e (inl is) f =
          let same = (bytes_eq-Decides i p.0).1 (ap (λ (p : Key × X). p.0) is) in
          let true_is_false : true ≡ false = sym same ∙ e in cc
      go false e (inr k) f = f k

  under_from : (i : Key) (x : X) (ps : List (Key × X)) → IsAmong x (under i ps) → (p : Key × X) × IsAmong p ps × (p.0 ≡ i) × (p.1 ≡ x)
  under_from i x [] h = absurd h
  under_from i x (p ∷ more) h = go (bytes_eq i p.0) refl h (under_from i x more)
    where
      go : (b : Bool) → bytes_eq i p.0 ≡ b → IsAmong x (cond b (p.1 ∷ under i more) (under i more))
          → (IsAmong x (under i more) → (q : Key × X) × IsAmong q more × (q.0 ≡ i) × (q.1 ≡ x)) → (q : Key × X) × IsAmong q (p ∷ more) × (q.0 ≡ i) × (q.1 ≡ x)
      go true e (inl is) f = (p, inl refl, sym ((bytes_eq-Decides i p.0).0 e), sym is)
      go true e (inr k) f = let w = f k in (w.0, inr w.1, w.2, w.3)
      go false e k f = let w = f k in (w.0, inr w.1, w.2, w.3)

  among_found : (xs : List X) (y : X) → chosen_among d xs ≡ Some y → IsAmong y xs
  among_found [] y h = cc
  among_found (x ∷ more) y h = go (d x) h (among_found more y)
    where
      go : (b : Bool) → cond b (Some x) (chosen_among d more) ≡ Some y → (chosen_among d more ≡ Some y → IsAmong y more) → IsAmong y (x ∷ more)
      go true e f = let is : x ≡ y = cc in inl (sym is)
      go false e f = inr (f e)

  some_chosen : (x : X) (xs : List X) → IsAmong x xs → (y : X) × (chosen d xs ≡ Some y) × IsAmong y xs
  some_chosen x [] h = absurd h
  some_chosen x (z ∷ more) h = go (d z) (chosen_among d more) refl
    where
      go : (b : Bool) (o : Option X) → chosen_among d more ≡ o → (y : X) × (cond b (Some z) (or_first z o) ≡ Some y) × IsAmong y (z ∷ more)
      go true o e = (z, refl, inl refl)
      go false None e = (z, refl, inl refl)
      go false (Some y) e = (y, refl, inr (among_found more y e))

  among_defined : (xs : List X) (y : X) → chosen_among d xs ≡ Some y → d y ≡ true
  among_defined [] y h = cc
  among_defined (x ∷ more) y h = go (d x) refl h (among_defined more y)
    where
      go : (b : Bool) → d x ≡ b → cond b (Some x) (chosen_among d more) ≡ Some y → (chosen_among d more ≡ Some y → d y ≡ true) → d y ≡ true
      go true q e f = let is : x ≡ y = cc in subst (λ x. d x ≡ true) is q
      go false q e f = f e

  among_there : (x : X) (xs : List X) → IsAmong x xs → d x ≡ true → chosen_among d xs ≡ None → ⊥
  among_there x [] i q h = i
  among_there x (y ∷ more) i q h = go (d y) refl i h (among_there x more)
    where
      go : (b : Bool) → d y ≡ b → (x ≡ y) ⊎ IsAmong x more → cond b (Some y) (chosen_among d more) ≡ None
          → (IsAmong x more → d x ≡ true → chosen_among d more ≡ None → ⊥) → ⊥
      go true e i h f = cc
      go false e (inl is) h f = let true_is_false : true ≡ false = sym q ∙ ap d is ∙ e in cc
      go false e (inr i) h f = f i q h

  -- where one of them is defined, so is what is chosen
  chosen_defined : (x : X) (xs : List X) (y : X) → IsAmong x xs → d x ≡ true → chosen d xs ≡ Some y → d y ≡ true
  chosen_defined x [] y i q h = absurd i
  chosen_defined x (z ∷ more) y i q h = go (d z) refl i (chosen_among d more) refl h
    where
      go : (b : Bool) → d z ≡ b → (x ≡ z) ⊎ IsAmong x more → (o : Option X) → chosen_among d more ≡ o → cond b (Some z) (or_first z o) ≡ Some y → d y ≡ true
      go true e i o c h = let is : z ≡ y = cc in subst (λ z. d z ≡ true) is e
      go false e (inl is) o c h = let true_is_false : true ≡ false = sym q ∙ ap d is ∙ e in cc
      go false e (inr i) None c h = absurd (among_there x more i q c)
      go false e (inr i) (Some w) c h = let is : w ≡ y = cc in among_defined more y (c ∙ ap Some is)

  -- what stands at the place of an identity
  at_place : (ps : List (Key × X)) (i : Key)
      → slice_get (flat_map (λ k. if_any (chosen d (under k ps))) (new_keys [] (map {B = Key} (λ p. p.0) ps))) (position (new_keys [] (map {B = Key} (λ p. p.0) ps)) i)
      ≡ chosen d (under i ps)
  at_place ps i =
      let keys = map {B = Key} (λ (p : Key × X). p.0) ps in
      let all = flat_map (λ k. if_any (chosen d (under k ps))) (new_keys [] keys) in
      ap (λ t. slice_get all (position t i)) (sym (append-nil (new_keys [] keys)))
      ∙ ap (λ xs. slice_get xs (position (new_keys [] keys ++ []) i)) (sym (placed_all d ps []))
      ∙ ap (λ t. slice_get (placed d (t ++ []) [] ps) (position (t ++ []) i)) (sym (all_new keys))
      ∙ found_at d ps [] i

-- ---- identities

abbrev pair_of : {A : Type 0} → Key → A → Key × A
pair_of k x = (k, x)

pub from_zero : (n : ℕ) → 0 + n ≡ n
from_zero n = omega arith

-- a name with linkage
named_is : (x y : List ℕ) (k n : ℕ) (l : Bool) → named x ≡ identity k l y n → (l ≡ true) × (x ≡ y)
named_is x y k n true e = (refl, cc)
named_is x y k n false e = cc

-- two identities are the same where both are of one name, or of one thing of one unit
identities_are : (j k : ℕ) (l m : Bool) (x y : List ℕ) (i n : ℕ) → identity j l x i ≡ identity k m y n
    → ((l ≡ true) × (m ≡ true) × (x ≡ y)) ⊎ ((j ≡ k) × (i ≡ n))
identities_are j k true true x y i n e = inl (refl, refl, cc)
identities_are j k true false x y i n e = cc
identities_are j k false true x y i n e = cc
identities_are j k false false x y i n e = inr (cc, cc)

module _ {X : Type 0} (linked : X → Bool) (name : X → List ℕ) (items : UnitData → List X) (d : X → Bool) (in_program : ℕ → UnitData → X → X)
    (ids : ℕ → ℕ → List X → List Key) (ids_none : (k n : ℕ) → ids k n [] ≡ [])
    (ids_more : (k n : ℕ) (x : X) (more : List X) → ids k n (x ∷ more) ≡ identity k (linked x) (name x) n ∷ ids k (n + 1) more) where
  -- the things of a unit with their identities
  abbrev pairs_of : ℕ × UnitData → List (Key × X)
  pairs_of u = paired (ids u.0 0 (items u.1)) (map (in_program u.0 u.1) (items u.1))

  pair_at : (g : X → X) (k m : ℕ) (all : List X) (n : ℕ) (x : X) → slice_get all n ≡ Some x
      → IsAmong (identity k (linked x) (name x) (m + n), g x) (paired (ids k m all) (map g all))
  pair_at g k m [] n x h = cc
  pair_at g k m (y ∷ all) zero x h =
      let is : y ≡ x = cc in
      let e = ap (λ n. pair_of (identity k (linked y) (name y) n) (g y)) (let z : m + 0 ≡ m = omega arith in z) in
      let f = subst (λ x. pair_of (identity k (linked x) (name x) (m + 0)) (g x) ≡ pair_of (identity k (linked y) (name y) m) (g y)) is e in
      subst (λ ks. IsAmong (identity k (linked x) (name x) (m + 0), g x) (paired ks (g y ∷ map g all))) (sym (ids_more k m y all)) (inl f)
  pair_at g k m (y ∷ all) (suc n) x h =
      let e : m + 1 + n ≡ m + suc n = omega arith in
      subst (λ ks. IsAmong (identity k (linked x) (name x) (m + suc n), g x) (paired ks (g y ∷ map g all))) (sym (ids_more k m y all))
      (inr (subst (λ n. IsAmong (identity k (linked x) (name x) n, g x) (paired (ids k (m + 1) all) (map g all))) e (pair_at g k (m + 1) all n x h)))

  pair_from : (g : X → X) (k m : ℕ) (all : List X) (p : Key × X) → IsAmong p (paired (ids k m all) (map g all))
      → (n : ℕ) × (x : X) × (slice_get all n ≡ Some x) × (p.0 ≡ identity k (linked x) (name x) (m + n)) × (p.1 ≡ g x)
  pair_from g k m [] p h = absurd (subst (λ ks. IsAmong p (paired ks [])) (ids_none k m) h)
  pair_from g k m (y ∷ all) p h =
      go (subst (λ ks. IsAmong p (paired ks (g y ∷ map g all))) (ids_more k m y all) h) (pair_from g k (m + 1) all p)
    where
      go : IsAmong p ((identity k (linked y) (name y) m, g y) ∷ paired (ids k (m + 1) all) (map g all))
          → (IsAmong p (paired (ids k (m + 1) all) (map g all))
          → (n : ℕ) × (x : X) × (slice_get all n ≡ Some x) × (p.0 ≡ identity k (linked x) (name x) (m + 1 + n)) × (p.1 ≡ g x))
          → (n : ℕ) × (x : X) × (slice_get (y ∷ all) n ≡ Some x) × (p.0 ≡ identity k (linked x) (name x) (m + n)) × (p.1 ≡ g x)
      go (inl e) f =
          (0, y, refl, ap (λ (p : Key × X). p.0) e ∙ ap (identity k (linked y) (name y)) (let z : m ≡ m + 0 = omega arith in z), ap (λ (p : Key × X). p.1) e)
      go (inr i) f =
          let w = f i in
          (suc w.0, w.1, w.2, w.3 ∙ ap (identity k (linked w.1) (name w.1)) (let n = w.0 in let z : m + 1 + n ≡ m + suc n = omega arith in z), w.4)

  -- ---- all units

  module _ (units : List UnitData) where
    abbrev pairs : List (Key × X)
    pairs = flat_map pairs_of (numbered_from 0 units)

    keys_of : (g : X → X) (k m : ℕ) (all : List X) → map {B = Key} (λ p. p.0) (paired (ids k m all) (map g all)) ≡ ids k m all
    keys_of g k m [] = ap (λ ks. map {B = Key} (λ (p : Key × X). p.0) (paired ks [])) (ids_none k m) ∙ sym (ids_none k m)
    keys_of g k m (y ∷ all) =
        ap (λ ks. map {B = Key} (λ (p : Key × X). p.0) (paired ks (g y ∷ map g all))) (ids_more k m y all)
        ∙ ap (λ ks. identity k (linked y) (name y) m ∷ ks) (keys_of g k (m + 1) all) ∙ sym (ids_more k m y all)

    all_keys : (us : List (ℕ × UnitData)) → map {B = Key} (λ p. p.0) (flat_map pairs_of us) ≡ flat_map (λ (u : ℕ × UnitData). ids u.0 0 (items u.1)) us
    all_keys [] = refl
    all_keys (u ∷ more) =
        map-append {B = Key} (λ (p : Key × X). p.0) (pairs_of u) (flat_map pairs_of more)
        ∙ ap (λ ks. ks ++ map {B = Key} (λ (p : Key × X). p.0) (flat_map pairs_of more)) (keys_of (in_program u.0 u.1) u.0 0 (items u.1))
        ∙ ap (λ ks. ids u.0 0 (items u.1) ++ ks) (all_keys more)

    abbrev keys : List Key
    keys = new_keys [] (flat_map (λ (u : ℕ × UnitData). ids u.0 0 (items u.1)) (numbered_from 0 units))

    abbrev chosen_all : List X
    chosen_all = flat_map (λ k. if_any (chosen d (under k pairs))) keys

    -- one of some unit, of the same identity
    pub record IsFound (k : ℕ) (u : UnitData) (n : ℕ) (x : X) : Type 0 where
      pub found : X
      pub stands : slice_get chosen_all (position keys (identity k (linked x) (name x) n)) ≡ Some found
      pub number : ℕ
      pub unit : UnitData
      pub numbered : IsAmong (number, unit) (numbered_from 0 units)
      pub place : ℕ
      pub thing : X
      pub there : slice_get (items unit) place ≡ Some thing
      pub is : found ≡ in_program number unit thing
      pub alike : ((linked x ≡ true) × (linked thing ≡ true) × (name x ≡ name thing)) ⊎ ((k ≡ number) × (n ≡ place))
      pub defined : d (in_program k u x) ≡ true → d found ≡ true

    pub looked_up : (k : ℕ) (u : UnitData) → IsAmong (k, u) (numbered_from 0 units) → (n : ℕ) (x : X) → slice_get (items u) n ≡ Some x → IsFound k u n x
    looked_up k u h n x e =
        let i = identity k (linked x) (name x) n in
        let pair : IsAmong (i, in_program k u x) pairs =
        among_flat pairs_of (k, u) (numbered_from 0 units) (i, in_program k u x) h
        (subst (λ n. IsAmong (identity k (linked x) (name x) n, in_program k u x) (paired (ids k 0 (items u)) (map (in_program k u) (items u)))) (from_zero n)
        (pair_at (in_program k u) k 0 (items u) n x e)) in
        let c = some_chosen d (in_program k u x) (under i pairs) (under_has d i (in_program k u x) pairs pair) in
        let p = under_from d i c.0 pairs c.2 in
        let w = flat_among pairs_of (numbered_from 0 units) p.0 p.1 in
        let q = pair_from (in_program w.0.0 w.0.1) w.0.0 0 (items w.0.1) p.0 w.2 in
        let same : new_keys [] (map {B = Key} (λ (p : Key × X). p.0) pairs) ≡ keys = ap (new_keys []) (all_keys (numbered_from 0 units)) in
        record {
          found = c.0;
          stands = subst (λ ks. slice_get (flat_map (λ k. if_any (chosen d (under k pairs))) ks) (position ks i) ≡ Some c.0) same (at_place d pairs i ∙ c.1);
          number = w.0.0;
          unit = w.0.1;
          numbered = w.1;
          place = q.0;
          thing = q.1;
          there = q.2;
          is = sym p.3 ∙ q.4;
          alike = identities_are k w.0.0 (linked x) (linked q.1) (name x) (name q.1) n q.0 (sym p.2 ∙ q.3 ∙ ap (identity w.0.0 (linked q.1) (name q.1)) (from_zero q.0));
          defined = λ t. chosen_defined d (in_program k u x) (under i pairs) c.0 (under_has d i (in_program k u x) pairs pair) t c.1;
        }

    -- one of some unit, under a key
    record IsUnder (i : Key) (y : X) : Type 0 where
      pub number : ℕ
      pub unit : UnitData
      pub numbered : IsAmong (number, unit) (numbered_from 0 units)
      pub place : ℕ
      pub thing : X
      pub there : slice_get (items unit) place ≡ Some thing
      pub is : y ≡ in_program number unit thing
      pub key : i ≡ identity number (linked thing) (name thing) place

    from_chosen : (y : X) (xs : List X) → chosen d xs ≡ Some y → IsAmong y xs
    from_chosen y [] h = cc
    from_chosen y (x ∷ more) h = go (d x) (chosen_among d more) refl h
      where
        go : (b : Bool) (o : Option X) → chosen_among d more ≡ o → cond b (Some x) (or_first x o) ≡ Some y → IsAmong y (x ∷ more)
        go true o e k = let is : x ≡ y = cc in inl (sym is)
        go false None e k = let is : x ≡ y = cc in inl (sym is)
        go false (Some z) e k = inr (among_found d more y (e ∙ k))

    of_key : (i : Key) (y : X) → chosen d (under i pairs) ≡ Some y → IsUnder i y
    of_key i y c =
        let p = under_from d i y pairs (from_chosen y (under i pairs) c) in
        let w = flat_among pairs_of (numbered_from 0 units) p.0 p.1 in
        let q = pair_from (in_program w.0.0 w.0.1) w.0.0 0 (items w.0.1) p.0 w.2 in
        record {
          number = w.0.0;
          unit = w.0.1;
          numbered = w.1;
          place = q.0;
          thing = q.1;
          there = q.2;
          is = sym p.3 ∙ q.4;
          key = sym p.2 ∙ q.3 ∙ ap (identity w.0.0 (linked q.1) (name q.1)) (from_zero q.0);
        }

    -- what stands under a name is one of a unit that has the name
    pub of_name : (x : Key) (y : X) → slice_get chosen_all (position keys (named x)) ≡ Some y → (k : ℕ) × (u : UnitData)
        × IsAmong (k, u) (numbered_from 0 units) × (z : X) × IsAmong z (items u) × (y ≡ in_program k u z) × (name z ≡ x)
    of_name x y h =
        let same : new_keys [] (map {B = Key} (λ (p : Key × X). p.0) pairs) ≡ keys = ap (new_keys []) (all_keys (numbered_from 0 units)) in
        let at = subst (λ ks. slice_get (flat_map (λ k. if_any (chosen d (under k pairs))) ks) (position ks (named x)) ≡ chosen d (under (named x) pairs)) same
        (at_place d pairs (named x)) in
        let z = of_key (named x) y (sym at ∙ h) in
        let n = named_is x (name z.thing) z.number z.place (linked z.thing) z.key in
        (z.number, z.unit, z.numbered, z.thing, among_at (items z.unit) z.place z.thing z.there, z.is, sym n.1)

    -- one that is among them is one of some unit
    pub of_unit : (y : X) → IsAmong y chosen_all → (k : ℕ) × (u : UnitData) × IsAmong (k, u) (numbered_from 0 units) × (n : ℕ) × (x : X)
        × (slice_get (items u) n ≡ Some x) × (y ≡ in_program k u x)
    of_unit y h =
        let a = flat_among (λ k. if_any (chosen d (under k pairs))) keys y h in
        let z = of_key a.0 y (any_is (chosen d (under a.0 pairs)) a.2) in
        (z.number, z.unit, z.numbered, z.place, z.thing, z.there, z.is)
      where
        any_is : (o : Option X) → IsAmong y (if_any o) → o ≡ Some y
        any_is None h = absurd h
        any_is (Some x) (inl e) = ap Some (sym e)
        any_is (Some x) (inr e) = absurd e

    -- what stands under a number has an identity, whose place that number is
    pub record IsNumbered (j : ℕ) (y : X) : Type 0 where
      pub number : ℕ
      pub unit : UnitData
      pub numbered : IsAmong (number, unit) (numbered_from 0 units)
      pub place : ℕ
      pub thing : X
      pub there : slice_get (items unit) place ≡ Some thing
      pub is : y ≡ in_program number unit thing
      pub position_is : j ≡ position keys (identity number (linked thing) (name thing) place)

    pub under_number : (j : ℕ) (y : X) → slice_get chosen_all j ≡ Some y → IsNumbered j y
    under_number j y h =
        let a = chosen_index (λ k. chosen d (under k pairs)) keys each j y h in
        let z = of_key a.0 y a.2 in
        record {
          number = z.number;
          unit = z.unit;
          numbered = z.numbered;
          place = z.place;
          thing = z.thing;
          there = z.there;
          is = z.is;
          position_is = sym (position_at [] (flat_map (λ (u : ℕ × UnitData). ids u.0 0 (items u.1)) (numbered_from 0 units)) j a.0 a.1) ∙ ap (position keys) z.key;
        }
      where
        each : (k : Key) → IsAmong k keys → (x : X) × (chosen d (under k pairs) ≡ Some x)
        each k i =
            let all = flat_map (λ (u : ℕ × UnitData). ids u.0 0 (items u.1)) (numbered_from 0 units) in
            let own = subst (IsAmong k) (sym (all_keys (numbered_from 0 units))) (new_among k [] all i) in
            let p = mapped_among k pairs own in
            let c = some_chosen d p.0.1 (under k pairs) (under_has d k p.0.1 pairs (subst (λ k. IsAmong (pair_of k p.0.1) pairs) p.2 p.1)) in
            (c.0, c.1)
