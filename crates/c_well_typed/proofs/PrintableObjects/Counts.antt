-- How often a list of references names an object, how often a number stands in a list, and sums over lists of numbers.
use Rattle.std.proofs.Common.{◌≡◌, ◌≢◌, ℕ, zero, suc, ◌+◌, ◌≤◌, ◌<◌, Bool, true, false, refl, sym, ap, subst, List, [], ◌∷◌, ◌++◌, arith, inl, inr}
use Rattle.std.proofs.lemmas.Bool.Decides.{nat_tests}
use Rattle.std.specs.Prelude.{◌⊎◌, ◌==◌, if◌then◌else◌}
use Rattle.c_typed.specs.References.{Reference, an_object, a_function}
use Rattle.c_well_typed.specs.Printable.Programs.{times}

-- ---- tests of numbers

pub same_number : (m n : ℕ) → (m == n) ≡ true → m ≡ n
same_number m n h = grind (arith, nat_tests)

pub other_number : (m n : ℕ) → (m == n) ≡ false → m ≢ n
other_number m n h = grind (arith, nat_tests)

pub is_same : (m n : ℕ) → m ≡ n → (m == n) ≡ true
is_same m n h = grind (arith, nat_tests)

-- two tests that are true of the same
pub alike : (a b : Bool) → (a ≡ true → b ≡ true) → (b ≡ true → a ≡ true) → a ≡ b
alike true b f g = sym (f refl)
alike false true f g = g refl
alike false false f g = refl

-- ---- references

pub times_both : (n : ℕ) (a b : List Reference) → times n (a ++ b) ≡ times n a + times n b
times_both n [] b = omega arith
times_both n (an_object m ∷ a) b = let r = times_both n a b in omega (arith, r)
times_both n (a_function f ∷ a) b = times_both n a b

-- ---- numbers in a list

abbrev pub occurs : ℕ → List ℕ → ℕ
occurs n [] = 0
occurs n (m ∷ more) = (if m == n then 1 else 0) + occurs n more

pub occurs_both : (n : ℕ) (a b : List ℕ) → occurs n (a ++ b) ≡ occurs n a + occurs n b
occurs_both n [] b = omega arith
occurs_both n (m ∷ a) b = let r = occurs_both n a b in omega (arith, r)

abbrev pub IsIn : ℕ → List ℕ → Type 0
IsIn n [] = ⊥
IsIn n (m ∷ more) = (n ≡ m) ⊎ IsIn n more

pub in_left : (n : ℕ) (a b : List ℕ) → IsIn n a → IsIn n (a ++ b)
in_left n [] b h = absurd h
in_left n (m ∷ a) b (inl e) = inl e
in_left n (m ∷ a) b (inr h) = inr (in_left n a b h)

pub in_right : (n : ℕ) (a b : List ℕ) → IsIn n b → IsIn n (a ++ b)
in_right n [] b h = h
in_right n (m ∷ a) b h = inr (in_right n a b h)

-- ---- sums

module _ (w : ℕ → ℕ) where
  abbrev pub sum_of : List ℕ → ℕ
  sum_of [] = 0
  sum_of (m ∷ more) = w m + sum_of more

  pub sum_both : (a b : List ℕ) → sum_of (a ++ b) ≡ sum_of a + sum_of b
  sum_both [] b = omega arith
  sum_both (m ∷ a) b = let r = sum_both a b in omega (arith, r)

  -- of the numbers below one
  abbrev pub sum_below : ℕ → ℕ
  sum_below zero = 0
  sum_below (suc k) = sum_below k + w k

  abbrev without : ℕ → List ℕ → List ℕ
  without n [] = []
  without n (m ∷ more) = if m == n then more else m ∷ without n more

  sum_without : (n : ℕ) (all : List ℕ) → IsIn n all → sum_of all ≡ w n + sum_of (without n all)
  sum_without n [] h = absurd h
  sum_without n (m ∷ all) h = by_test (m == n) refl h (sum_without n all)
    where
      by_test : (b : Bool) → (m == n) ≡ b → (n ≡ m) ⊎ IsIn n all → (IsIn n all → sum_of all ≡ w n + sum_of (without n all))
          → w m + sum_of all ≡ w n + sum_of (if b then all else m ∷ without n all)
      by_test true e h again = let same = ap w (same_number m n e) in omega (arith, same)
      by_test false e (inl is) again = absurd (other_number m n e (sym is))
      by_test false e (inr i) again = let r = again i in omega (arith, r)

  still_in : (n k : ℕ) (all : List ℕ) → n ≢ k → IsIn n all → IsIn n (without k all)
  still_in n k [] d h = absurd h
  still_in n k (m ∷ all) d h = by_test (m == k) refl h (still_in n k all d)
    where
      by_test : (b : Bool) → (m == k) ≡ b → (n ≡ m) ⊎ IsIn n all → (IsIn n all → IsIn n (without k all)) → IsIn n (if b then all else m ∷ without k all)
      by_test true e (inl is) again = absurd (d (subst (λ m. n ≡ m) (same_number m k e) is))
      by_test true e (inr i) again = i
      by_test false e (inl is) again = inl is
      by_test false e (inr i) again = inr (again i)

  -- where each number that weighs something is in a list, those below one weigh no more than the list
  pub below_covered : (k : ℕ) (all : List ℕ) → ((n : ℕ) → n < k → w n ≢ 0 → IsIn n all) → sum_below k ≤ sum_of all
  below_covered zero all h = omega arith
  below_covered (suc k) all h = by_weight (w k) refl (below_covered k)
    where
      by_weight : (m : ℕ) → w k ≡ m → ((rest : List ℕ) → ((n : ℕ) → n < k → w n ≢ 0 → IsIn n rest) → sum_below k ≤ sum_of rest)
          → sum_below k + w k ≤ sum_of all
      by_weight zero e again = let r = again all (λ n l. h n (omega (arith, l))) in omega (arith, r, e)
      by_weight (suc m) e again =
          let i = h k (omega arith) (λ z. omega (arith, z, e)) in
          let s = sum_without k all i in
          let r = again (without k all) (λ n l d. still_in n k all (λ is. omega (arith, l, is)) (h n (omega (arith, l)) d)) in
          omega (arith, r, s)

  pub one_below : (k n : ℕ) → n < k → w n ≤ sum_below k
  one_below zero n l = absurd (omega (arith, l))
  one_below (suc k) n l = by_last (n == k) refl (one_below k n)
    where
      by_last : (b : Bool) → (n == k) ≡ b → (n < k → w n ≤ sum_below k) → w n ≤ sum_below k + w k
      by_last true e again = let same = ap w (same_number n k e) in omega (arith, same)
      by_last false e again = let d = other_number n k e in let r = again (omega (arith, l, d)) in omega (arith, r)

  -- a list that weighs something has a number that does
  pub some_weighs : (all : List ℕ) → sum_of all ≢ 0 → (n : ℕ) × (w n ≢ 0)
  some_weighs [] d = absurd (d refl)
  some_weighs (m ∷ all) d = by_weight (w m) refl (some_weighs all)
    where
      by_weight : (v : ℕ) → w m ≡ v → (sum_of all ≢ 0 → (n : ℕ) × (w n ≢ 0)) → (n : ℕ) × (w n ≢ 0)
      by_weight (suc v) e again = (m, λ z. omega (arith, z, e))
      by_weight zero e again = again (λ z. d (omega (arith, z, e)))

pub sum_below_same : (v w : ℕ → ℕ) → ((n : ℕ) → v n ≡ w n) → (k : ℕ) → sum_below v k ≡ sum_below w k
sum_below_same v w h zero = refl
sum_below_same v w h (suc k) = let r = sum_below_same v w h k in let s = h k in omega (arith, r, s)
