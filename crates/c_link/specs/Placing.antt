-- Things that come one after another, each to the number of its key.
use Rattle.std.specs.Prelude.{ℕ, zero, suc, Bool, false, not, ◌&&◌, if◌then◌else◌, List, [], ◌∷◌, Option, Some, None, slice_get}
use Rattle.c_numbers.specs.KeyNumbers.Keys.{position}

-- the number is that of one that is there, or of the next
abbrev pub put : {A : Type 0} → (replaces : Bool) → List A → ℕ → A → List A
put replaces [] n x = x ∷ []
put replaces (y ∷ more) zero x = (if replaces then x else y) ∷ more
put replaces (y ∷ more) (suc n) x = y ∷ put replaces more n x

module _ {A : Type 0} (is_defined : A → Bool) where
  -- of two that stand under one key, the first that is defined is kept, or else the first
  abbrev pub replaces_one : Option A → A → Bool
  replaces_one None x = false
  replaces_one (Some y) x = not (is_defined y) && is_defined x

  abbrev pub replaces : List A → ℕ → A → Bool
  replaces all n x = replaces_one (slice_get all n) x

  abbrev pub place : List A → ℕ → A → List A
  place all n x = put (replaces all n x) all n x

  abbrev pub placed : List (List ℕ) → List A → List (List ℕ × A) → List A
  placed keys all [] = all
  placed keys all (p ∷ more) = placed keys (place all (position keys p.0) p.1) more

  -- the same, of things to the numbers that these are given from 0 on
  abbrev pub placed_by : (number : ℕ → ℕ) → List A → List A → List A
  placed_by number all [] = all
  placed_by number all (x ∷ more) = placed_by (λ n. number (suc n)) (place all (number 0) x) more
