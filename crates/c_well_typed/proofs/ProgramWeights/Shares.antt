-- Of things under keys, those that are chosen under different keys weigh together no more than all.
use Rattle.std.proofs.Common.{◌≡◌, ℕ, ◌+◌, ◌≤◌, Bool, true, false, ◌||◌, refl, sym, ap, ◌∙◌, subst, List, [], ◌∷◌, ◌++◌, map, flat_map, Option, Some, None}
use Rattle.std.proofs.Common.{arith}
use Rattle.std.specs.Prelude.{if◌then◌else◌}
use Rattle.std.specs.Str.{bytes_eq}
use Rattle.std.specs.List.{AllByRecursion}
use Rattle.std.proofs.lemmas.Slice.Eq.{bytes_eq-Decides}
use Rattle.c_numbers.specs.KeyNumbers.Keys.{is_among, new_keys}
use Rattle.c_types.specs.Types.{Record}
use Rattle.c_link.specs.Joining.{under, chosen_among, or_first, chosen, if_any, with_tag}
use Rattle.c_well_typed.proofs.ProgramWeights.Numbered.{total}

abbrev pub Key : Type 0
Key = List ℕ

-- ---- new keys stand once

-- a weight for each key that is that one
abbrev matched : ℕ → Key → List Key → ℕ
matched w x [] = 0
matched w x (y ∷ ks) = (if bytes_eq y x then w else 0) + matched w x ks

false_is_true : false ≡ true → ⊥
false_is_true h = cc

same_key : (x y : Key) → bytes_eq x y ≡ true → x ≡ y
same_key x y h = (bytes_eq-Decides x y).0 h

self : (x : Key) → bytes_eq x x ≡ true
self x = (bytes_eq-Decides x x).1 refl

on_right : (a b : Bool) → b ≡ true → (a || b) ≡ true
on_right true b h = refl
on_right false b h = h

on_left : (a b : Bool) → a ≡ true → (a || b) ≡ true
on_left a b h = subst (λ a. (a || b) ≡ true) (sym h) refl

known_once : (w : ℕ) (x : Key) (known xs : List Key) → is_among known x ≡ true → matched w x (new_keys known xs) ≡ 0
known_once w x known [] h = refl
known_once w x known (y ∷ more) h =
    by_known (is_among known y) refl (known_once w x known more h)
    (known_once w x (y ∷ known) more (on_right (bytes_eq x y) (is_among known x) h))
  where
    by_key : (b : Bool) → bytes_eq y x ≡ b → is_among known y ≡ false → matched w x (new_keys (y ∷ known) more) ≡ 0
        → (if b then w else 0) + matched w x (new_keys (y ∷ known) more) ≡ 0
    by_key true e f r = absurd (false_is_true (sym f ∙ ap (is_among known) (same_key y x e) ∙ h))
    by_key false e f r = omega (arith, r)

    by_known : (b : Bool) → is_among known y ≡ b → matched w x (new_keys known more) ≡ 0 → matched w x (new_keys (y ∷ known) more) ≡ 0
        → matched w x (if b then new_keys known more else y ∷ new_keys (y ∷ known) more) ≡ 0
    by_known true f q r = q
    by_known false f q r = by_key (bytes_eq y x) refl f r

each_once : (w : ℕ) (x : Key) (known xs : List Key) → matched w x (new_keys known xs) ≤ w
each_once w x known [] = omega arith
each_once w x known (y ∷ more) =
    by_known (is_among known y) (each_once w x known more) (each_once w x (y ∷ known) more)
  where
    by_key : (b : Bool) → bytes_eq y x ≡ b → matched w x (new_keys (y ∷ known) more) ≤ w
        → (if b then w else 0) + matched w x (new_keys (y ∷ known) more) ≤ w
    by_key true e r =
        let k : is_among (y ∷ known) x ≡ true =
        on_left (bytes_eq x y) (is_among known x) (subst (λ z. bytes_eq x z ≡ true) (sym (same_key y x e)) (self x)) in
        let q = known_once w x (y ∷ known) more k in omega (arith, q)
    by_key false e r = omega (arith, r)

    by_known : (b : Bool) → matched w x (new_keys known more) ≤ w → matched w x (new_keys (y ∷ known) more) ≤ w
        → matched w x (if b then new_keys known more else y ∷ new_keys (y ∷ known) more) ≤ w
    by_known true q r = q
    by_known false q r = by_key (bytes_eq y x) refl r

-- ---- sums

pub total_append : {A : Type 0} (weigh : A → ℕ) (a b : List A) → total weigh (a ++ b) ≡ total weigh a + total weigh b
total_append weigh [] b = omega arith
total_append weigh (x ∷ a) b = let e = total_append weigh a b in omega (arith, e)

pub total_flat : {A B : Type 0} (weigh : B → ℕ) (v : A → List B) (xs : List A) → total weigh (flat_map v xs) ≡ total (λ x. total weigh (v x)) xs
total_flat weigh v [] = refl
total_flat weigh v (x ∷ xs) = let e = total_append weigh (v x) (flat_map v xs) in let r = total_flat weigh v xs in omega (arith, e, r)

pub total_less : {A : Type 0} (v w : A → ℕ) (xs : List A) → ((x : A) → v x ≤ w x) → total v xs ≤ total w xs
total_less v w [] h = omega arith
total_less v w (x ∷ xs) h = let a = h x in let b = total_less v w xs h in omega (arith, a, b)

module _ {A : Type 0} (weigh : A → ℕ) where
  -- what stands under a key
  abbrev pub share : List (Key × A) → Key → ℕ
  share [] i = 0
  share (p ∷ ps) i = (if bytes_eq i p.0 then weigh p.1 else 0) + share ps i

  one_more : (p : Key × A) (ps : List (Key × A)) (ks : List Key) → total (share (p ∷ ps)) ks ≡ matched (weigh p.1) p.0 ks + total (share ps) ks
  one_more p ps [] = omega arith
  one_more p ps (k ∷ ks) = let e = one_more p ps ks in omega (arith, e)

  -- the shares of new keys
  pub shares_less : (ps : List (Key × A)) (known xs : List Key) → total (share ps) (new_keys known xs) ≤ total (λ (p : Key × A). weigh p.1) ps
  shares_less [] known xs = nothing_there (new_keys known xs)
    where
      nothing_there : (ks : List Key) → total (share []) ks ≤ 0
      nothing_there [] = omega arith
      nothing_there (k ∷ ks) = let e = nothing_there ks in omega (arith, e)
  shares_less (p ∷ ps) known xs =
      let a = one_more p ps (new_keys known xs) in
      let b = each_once (weigh p.1) p.0 known xs in
      let c = shares_less ps known xs in omega (arith, a, b, c)

  under_share : (i : Key) (ps : List (Key × A)) → total weigh (under i ps) ≡ share ps i
  under_share i [] = refl
  under_share i (p ∷ ps) = by_key (bytes_eq i p.0) (under_share i ps)
    where
      by_key : (b : Bool) → total weigh (under i ps) ≡ share ps i
          → total weigh (if b then p.1 ∷ under i ps else under i ps) ≡ (if b then weigh p.1 else 0) + share ps i
      by_key true e = omega (arith, e)
      by_key false e = omega (arith, e)

  among_less : (d : A → Bool) (xs : List A) → total weigh (if_any (chosen_among d xs)) ≤ total weigh xs
  among_less d [] = omega arith
  among_less d (x ∷ xs) = by_test (d x) (among_less d xs)
    where
      by_test : (b : Bool) → total weigh (if_any (chosen_among d xs)) ≤ total weigh xs
          → total weigh (if_any (if b then Some x else chosen_among d xs)) ≤ weigh x + total weigh xs
      by_test true e = omega arith
      by_test false e = omega (arith, e)

  chosen_less : (d : A → Bool) (xs : List A) → total weigh (if_any (chosen d xs)) ≤ total weigh xs
  chosen_less d [] = omega arith
  chosen_less d (x ∷ xs) = by_test (d x) (chosen_among d xs) (among_less d xs)
    where
      by_test : (b : Bool) (o : Option A) → total weigh (if_any o) ≤ total weigh xs
          → total weigh (if_any (if b then Some x else or_first x o)) ≤ weigh x + total weigh xs
      by_test true o e = omega arith
      by_test false None e = omega arith
      by_test false (Some y) e = omega (arith, e)

  -- what is chosen under new keys
  pub chosen_share : (d : A → Bool) (ps : List (Key × A)) (known xs : List Key)
      → total weigh (flat_map (λ i. if_any (chosen d (under i ps))) (new_keys known xs)) ≤ total (λ (p : Key × A). weigh p.1) ps
  chosen_share d ps known xs =
      let a = total_flat weigh (λ i. if_any (chosen d (under i ps))) (new_keys known xs) in
      let b = total_less (λ i. total weigh (if_any (chosen d (under i ps)))) (share ps) (new_keys known xs)
      (λ i. let c = chosen_less d (under i ps) in let e = under_share i ps in omega (arith, c, e)) in
      let c = shares_less ps known xs in omega (arith, a, b, c)

-- ---- records under their tags

abbrev tagged : Record → Key × Record
tagged r = (r.tag, r)

with_tag_share : (weigh : Record → ℕ) (tag : Key) (rs : List Record) → total weigh (with_tag tag rs) ≤ share weigh (map tagged rs) tag
with_tag_share weigh tag [] = omega arith
with_tag_share weigh tag (r ∷ rs) = by_tag (bytes_eq tag r.tag) (with_tag_share weigh tag rs)
  where
    by_tag : (b : Bool) → total weigh (with_tag tag rs) ≤ share weigh (map tagged rs) tag
        → total weigh (if b then r ∷ [] else with_tag tag rs) ≤ (if b then weigh r else 0) + share weigh (map tagged rs) tag
    by_tag true e = omega arith
    by_tag false e = omega (arith, e)

tagged_total : (weigh : Record → ℕ) (rs : List Record) → total (λ (p : Key × Record). weigh p.1) (map tagged rs) ≡ total weigh rs
tagged_total weigh [] = refl
tagged_total weigh (r ∷ rs) = ap (λ m. weigh r + m) (tagged_total weigh rs)

pub records_share : (weigh : Record → ℕ) (rs : List Record) (known xs : List Key)
    → total weigh (flat_map (λ tag. with_tag tag rs) (new_keys known xs)) ≤ total weigh rs
records_share weigh rs known xs =
    let a = total_flat weigh (λ tag. with_tag tag rs) (new_keys known xs) in
    let b = total_less (λ tag. total weigh (with_tag tag rs)) (share weigh (map tagged rs)) (new_keys known xs) (λ tag. with_tag_share weigh tag rs) in
    let c = shares_less weigh (map tagged rs) known xs in
    let d = tagged_total weigh rs in omega (arith, a, b, c, d)

-- ---- what holds of all holds of those that are chosen

module _ {A : Type 0} (P : A → Type 0) where
  both_hold : (a b : List A) → AllByRecursion P a → AllByRecursion P b → AllByRecursion P (a ++ b)
  both_hold [] b h g = g
  both_hold (x ∷ a) b h g = (h.0, both_hold a b h.1 g)

  pub flat_holds : {B : Type 0} (v : B → List A) (xs : List B) → ((x : B) → AllByRecursion P (v x)) → AllByRecursion P (flat_map v xs)
  flat_holds v [] h = tt
  flat_holds v (x ∷ xs) h = both_hold (v x) (flat_map v xs) (h x) (flat_holds v xs h)

  under_holds : (i : Key) (ps : List (Key × A)) → AllByRecursion (λ (p : Key × A). P p.1) ps → AllByRecursion P (under i ps)
  under_holds i [] h = tt
  under_holds i (p ∷ ps) h = by_key (bytes_eq i p.0) (under_holds i ps h.1)
    where
      by_key : (b : Bool) → AllByRecursion P (under i ps) → AllByRecursion P (if b then p.1 ∷ under i ps else under i ps)
      by_key true r = (h.0, r)
      by_key false r = r

  among_holds : (d : A → Bool) (xs : List A) → AllByRecursion P xs → AllByRecursion P (if_any (chosen_among d xs))
  among_holds d [] h = tt
  among_holds d (x ∷ xs) h = by_test (d x) (among_holds d xs h.1)
    where
      by_test : (b : Bool) → AllByRecursion P (if_any (chosen_among d xs)) → AllByRecursion P (if_any (if b then Some x else chosen_among d xs))
      by_test true r = (h.0, tt)
      by_test false r = r

  chosen_holds : (d : A → Bool) (xs : List A) → AllByRecursion P xs → AllByRecursion P (if_any (chosen d xs))
  chosen_holds d [] h = tt
  chosen_holds d (x ∷ xs) h = by_test (d x) (chosen_among d xs) (among_holds d xs h.1)
    where
      by_test : (b : Bool) (o : Option A) → AllByRecursion P (if_any o) → AllByRecursion P (if_any (if b then Some x else or_first x o))
      by_test true o r = (h.0, tt)
      by_test false None r = (h.0, tt)
      by_test false (Some y) r = r

  pub chosen_all : (d : A → Bool) (ps : List (Key × A)) (ks : List Key) → AllByRecursion (λ (p : Key × A). P p.1) ps
      → AllByRecursion P (flat_map (λ i. if_any (chosen d (under i ps))) ks)
  chosen_all d ps ks h = flat_holds (λ i. if_any (chosen d (under i ps))) ks (λ i. chosen_holds d (under i ps) (under_holds i ps h))
