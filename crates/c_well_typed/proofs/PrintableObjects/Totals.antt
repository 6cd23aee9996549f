-- Sums over lists, by the places of their elements; and how often a number stands in a list that rises.
use Rattle.std.proofs.Common.{◌≡◌, ◌≢◌, ℕ, zero, suc, ◌+◌, ◌≤◌, ◌<◌, Bool, true, false, refl, sym, ap, List, [], ◌∷◌, length, map, arith, inl, inr}
use Rattle.std.specs.Prelude.{◌==◌, if◌then◌else◌, Option, Some, None, slice_get}
use Rattle.c_ast.specs.Places.{first_declarator, first_item}
use Rattle.c_ast.specs.Trees
use Rattle.c_erasure.specs.Files.{IsMade}
use Rattle.c_erasure.specs.Literals.{literals_of_value, initial_literals, made_by_file_item, made_by_file}
use Rattle.c_checking_laws.specs.TextOrder.TextOrder.{Rising, places_of_declarators, places_of_item, places_of_file}
use Rattle.c_well_typed.proofs.ProgramWeights.Numbered.{total}
use Rattle.c_well_typed.proofs.PrintableObjects.Counts.{same_number, is_same, occurs, occurs_both, sum_below}

-- ---- sums

module _ {A : Type 0} (g : A → ℕ) where
  abbrev pub at_place : Option A → ℕ
  at_place None = 0
  at_place (Some x) = g x

  pub past_end : (xs : List A) (n : ℕ) → at_place (slice_get xs n) ≢ 0 → n < length xs
  past_end [] n h = absurd (h refl)
  past_end (x ∷ xs) zero h = omega arith
  past_end (x ∷ xs) (suc n) h = let r = past_end xs n h in omega (arith, r)

  -- one of them weighs no more than all, and neither do two
  pub one_place : (xs : List A) (n : ℕ) (x : A) → slice_get xs n ≡ Some x → g x ≤ total g xs
  one_place [] n x e = cc
  one_place (y ∷ xs) zero x e = let is : y ≡ x = cc in let s = ap g is in omega (arith, s)
  one_place (y ∷ xs) (suc n) x e = let r = one_place xs n x e in omega (arith, r)

  pub two_places : (xs : List A) (m n : ℕ) (x y : A) → m ≢ n → slice_get xs m ≡ Some x → slice_get xs n ≡ Some y → g x + g y ≤ total g xs
  two_places [] m n x y d e k = cc
  two_places (z ∷ xs) zero zero x y d e k = absurd (d refl)
  two_places (z ∷ xs) zero (suc n) x y d e k =
      let is : z ≡ x = cc in let s = ap g is in let r = one_place xs n y k in omega (arith, s, r)
  two_places (z ∷ xs) (suc m) zero x y d e k =
      let is : z ≡ y = cc in let s = ap g is in let r = one_place xs m x e in omega (arith, s, r)
  two_places (z ∷ xs) (suc m) (suc n) x y d e k = let r = two_places xs m n x y (λ is. d (ap suc is)) e k in omega (arith, r)

  pub some_place : (xs : List A) → total g xs ≢ 0 → (n : ℕ) × (x : A) × (slice_get xs n ≡ Some x) × (g x ≢ 0)
  some_place [] d = absurd (d refl)
  some_place (x ∷ xs) d = by_weight (g x) refl (some_place xs)
    where
      by_weight : (m : ℕ) → g x ≡ m → (total g xs ≢ 0 → (n : ℕ) × (y : A) × (slice_get xs n ≡ Some y) × (g y ≢ 0))
          → (n : ℕ) × (y : A) × (slice_get (x ∷ xs) n ≡ Some y) × (g y ≢ 0)
      by_weight (suc m) e again = (0, x, refl, λ z. omega (arith, z, e))
      by_weight zero e again = let r = again (λ z. d (omega (arith, z, e))) in (suc r.0, r.1, r.2, r.3)

pub total_mapped : {A B : Type 0} (h : B → ℕ) (g : A → ℕ) (v : A → B) (xs : List A) → ((n : ℕ) (x : A) → slice_get xs n ≡ Some x → h (v x) ≡ g x)
    → total h (map v xs) ≡ total g xs
total_mapped h g v [] k = refl
total_mapped h g v (x ∷ xs) k =
    let r = total_mapped h g v xs (λ n y e. k (suc n) y e) in
    let s = k 0 x refl in
    omega (arith, r, s)

from_first : (w v : ℕ → ℕ) → ((n : ℕ) → w (suc n) ≡ v n) → (k : ℕ) → sum_below w (suc k) ≡ w 0 + sum_below v k
from_first w v h zero = omega arith
from_first w v h (suc k) = let r = from_first w v h k in let s = h k in omega (arith, r, s)

pub by_places : {A : Type 0} (g : A → ℕ) (xs : List A) → total g xs ≡ sum_below (λ n. at_place g (slice_get xs n)) (length xs)
by_places g [] = refl
by_places g (x ∷ xs) =
    let r = by_places g xs in
    let s = from_first (λ n. at_place g (slice_get (x ∷ xs) n)) (λ n. at_place g (slice_get xs n)) (λ n. refl) (length xs) in
    omega (arith, r, s)

-- ---- numbers that rise

none_before : (n from : ℕ) (all : List ℕ) → n < from → Rising from all → occurs n all ≡ 0
none_before n from [] l h = refl
none_before n from (p ∷ all) l h = by_test (p == n) refl (none_before n (p + 1) all (let a = h.0 in omega (arith, l, a)) h.1)
  where
    by_test : (b : Bool) → (p == n) ≡ b → occurs n all ≡ 0 → (if b then 1 else 0) + occurs n all ≡ 0
    by_test true e r = let same = same_number p n e in let a = h.0 in absurd (omega (arith, l, a, same))
    by_test false e r = omega (arith, r)

pub at_most_once : (n from : ℕ) (all : List ℕ) → Rising from all → occurs n all ≤ 1
at_most_once n from [] h = omega arith
at_most_once n from (p ∷ all) h =
    by_test (p == n) refl (at_most_once n (p + 1) all h.1) (λ l. none_before n (p + 1) all l h.1)
  where
    by_test : (b : Bool) → (p == n) ≡ b → occurs n all ≤ 1 → (n < p + 1 → occurs n all ≡ 0) → (if b then 1 else 0) + occurs n all ≤ 1
    by_test true e r z = let same = same_number p n e in let k = z (omega (arith, same)) in omega (arith, k)
    by_test false e r z = omega (arith, r)

-- ---- the literals of a file, among the places at which its parts begin

declarators_fewer : (n : ℕ) (ds : List Trees.InitDeclarator) (semicolon : ℕ) → occurs n (initial_literals ds) ≤ occurs n (places_of_declarators ds semicolon)
declarators_fewer n [] semicolon = omega arith
declarators_fewer n (d ∷ more) semicolon =
    let r = declarators_fewer n more semicolon in
    let a = occurs_both n (literals_of_value d.value) (initial_literals more) in
    let b = occurs_both n (first_declarator d.declarator semicolon ∷ literals_of_value d.value) (places_of_declarators more semicolon) in
    omega (arith, r, a, b)

item_fewer : (n : ℕ) (item : Trees.Item) → occurs n (made_by_file_item item) ≤ occurs n (places_of_item item)
item_fewer n (Trees.declaration d) = declarators_fewer n d.all d.semicolon
item_fewer n (Trees.defines specs d left items right) = omega arith

pub file_fewer : (n : ℕ) (items : List Trees.Item) → occurs n (made_by_file items) ≤ occurs n (places_of_file items)
file_fewer n [] = omega arith
file_fewer n (item ∷ items) =
    let r = file_fewer n items in
    let s = item_fewer n item in
    let a = occurs_both n (made_by_file_item item) (made_by_file items) in
    let b = occurs_both n (first_item item ∷ places_of_item item) (places_of_file items) in
    omega (arith, r, s, a, b)

-- one that stands there does so at least once
pub at_least_once : (all : List ℕ) (n : ℕ) → IsMade all n → 1 ≤ occurs n all
at_least_once [] n h = absurd h
at_least_once (p ∷ all) n (inl e) = by_test (p == n) (is_same p n (sym e))
  where
    by_test : (b : Bool) → b ≡ true → 1 ≤ (if b then 1 else 0) + occurs n all
    by_test true e = omega arith
    by_test false e = cc
at_least_once (p ∷ all) n (inr h) = let r = at_least_once all n h in omega (arith, r)
