-- A look-up in two lists, one behind the other.
use Rattle.std.proofs.Common.{◌≡◌, ◌-◌, ◌<◌, ◌≤◌, ◌++◌, ℕ, zero, suc, List, [], ◌∷◌, length, refl, ap, ◌∙◌, arith}
use Rattle.std.specs.Prelude.{slice_get}

pub within_first : {X : Type 0} (xs ys : List X) (k : ℕ) → k < length xs → slice_get (xs ++ ys) k ≡ slice_get xs k
within_first [] ys k h = absurd (omega arith)
within_first (x ∷ xs) ys zero h = refl
within_first (x ∷ xs) ys (suc k) h = within_first xs ys k (omega arith)

pub behind_first : {X : Type 0} (xs ys : List X) (k : ℕ) → length xs ≤ k → slice_get (xs ++ ys) k ≡ slice_get ys (k - length xs)
behind_first [] ys k h = ap (λ (n : ℕ). slice_get ys n) (omega arith)
behind_first (x ∷ xs) ys zero h = absurd (omega arith)
behind_first (x ∷ xs) ys (suc k) h = behind_first xs ys k (omega arith) ∙ ap (λ (n : ℕ). slice_get ys n) (omega arith)
