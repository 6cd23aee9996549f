-- The sum over a list is no greater than that over numbers among which each of its elements has its own.
use Rattle.std.proofs.Common.{◌≡◌, ℕ, zero, suc, ◌+◌, ◌≤◌, refl, ap, List, [], ◌∷◌, ◌++◌, arith, inl, inr}
use Rattle.std.specs.Prelude.{◌⊎◌, Some, slice_get}

abbrev pub IsAmong : ℕ → List ℕ → Type 0
IsAmong j [] = ⊥
IsAmong j (k ∷ ks) = (j ≡ k) ⊎ IsAmong j ks

pub among_left : (j : ℕ) (a b : List ℕ) → IsAmong j a → IsAmong j (a ++ b)
among_left j [] b h = absurd h
among_left j (k ∷ a) b (inl h) = inl h
among_left j (k ∷ a) b (inr h) = inr (among_left j a b h)

pub among_right : (j : ℕ) (a b : List ℕ) → IsAmong j b → IsAmong j (a ++ b)
among_right j [] b h = h
among_right j (k ∷ a) b h = inr (among_right j a b h)

pub among_either : (j : ℕ) (a b : List ℕ) → IsAmong j (a ++ b) → IsAmong j a ⊎ IsAmong j b
among_either j [] b h = inr h
among_either j (k ∷ a) b (inl h) = inl (inl h)
among_either j (k ∷ a) b (inr h) = or_later (among_either j a b h)
  where
    or_later : IsAmong j a ⊎ IsAmong j b → IsAmong j (k ∷ a) ⊎ IsAmong j b
    or_later (inl h) = inl (inr h)
    or_later (inr h) = inr h

-- the numbers behind the first, each one less
abbrev lowered : List ℕ → List ℕ
lowered [] = []
lowered (zero ∷ ks) = lowered ks
lowered (suc k ∷ ks) = k ∷ lowered ks

lowered_among : (j : ℕ) (ks : List ℕ) → IsAmong (suc j) ks → IsAmong j (lowered ks)
lowered_among j [] h = absurd h
lowered_among j (zero ∷ ks) (inl e) = absurd (omega (arith, e))
lowered_among j (zero ∷ ks) (inr h) = lowered_among j ks h
lowered_among j (suc k ∷ ks) (inl e) = inl (omega (arith, e))
lowered_among j (suc k ∷ ks) (inr h) = inr (lowered_among j ks h)

module _ {A : Type 0} (weigh : A → ℕ) where
  abbrev pub total : List A → ℕ
  total [] = 0
  total (x ∷ more) = weigh x + total more

  -- what has a number, and nothing where none has it
  abbrev pub at : List A → ℕ → ℕ
  at [] k = 0
  at (x ∷ more) zero = weigh x
  at (x ∷ more) (suc k) = at more k

  abbrev pub at_all : List A → List ℕ → ℕ
  at_all xs [] = 0
  at_all xs (k ∷ ks) = at xs k + at_all xs ks

  pub at_is : (xs : List A) (k : ℕ) (x : A) → slice_get xs k ≡ Some x → at xs k ≡ weigh x
  at_is [] k x h = cc
  at_is (y ∷ xs) zero x h = let e : y ≡ x = cc in ap weigh e
  at_is (y ∷ xs) (suc k) x h = at_is xs k x h

  pub at_both : (xs : List A) (a b : List ℕ) → at_all xs (a ++ b) ≡ at_all xs a + at_all xs b
  at_both xs [] b = omega arith
  at_both xs (k ∷ a) b = let e = at_both xs a b in omega (arith, e)

  without_first : (x : A) (xs : List A) (ks : List ℕ) → at_all xs (lowered ks) ≤ at_all (x ∷ xs) ks
  without_first x xs [] = omega arith
  without_first x xs (zero ∷ ks) = let l = without_first x xs ks in omega (arith, l)
  without_first x xs (suc k ∷ ks) = let l = without_first x xs ks in omega (arith, l)

  with_first : (x : A) (xs : List A) (ks : List ℕ) → IsAmong 0 ks → weigh x + at_all xs (lowered ks) ≤ at_all (x ∷ xs) ks
  with_first x xs [] h = absurd h
  with_first x xs (zero ∷ ks) h = let l = without_first x xs ks in omega (arith, l)
  with_first x xs (suc k ∷ ks) (inl e) = absurd (omega (arith, e))
  with_first x xs (suc k ∷ ks) (inr h) = let l = with_first x xs ks h in omega (arith, l)

  pub covered : (xs : List A) (ks : List ℕ) → ((j : ℕ) (x : A) → slice_get xs j ≡ Some x → (weigh x ≡ 0) ⊎ IsAmong j ks) → total xs ≤ at_all xs ks
  covered [] ks h = omega arith
  covered (x ∷ xs) ks h = by_first (h 0 x refl) (covered xs (lowered ks) (λ j y e. behind j y (h (suc j) y e)))
    where
      behind : (j : ℕ) (y : A) → (weigh y ≡ 0) ⊎ IsAmong (suc j) ks → (weigh y ≡ 0) ⊎ IsAmong j (lowered ks)
      behind j y (inl z) = inl z
      behind j y (inr i) = inr (lowered_among j ks i)

      by_first : (weigh x ≡ 0) ⊎ IsAmong 0 ks → total xs ≤ at_all xs (lowered ks) → weigh x + total xs ≤ at_all (x ∷ xs) ks
      by_first (inl z) r = let l = without_first x xs ks in omega (arith, z, r, l)
      by_first (inr i) r = let l = with_first x xs ks i in omega (arith, r, l)
