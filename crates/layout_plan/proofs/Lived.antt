-- The fields that stay.
use Rattle.std.proofs.Common.{◌≡◌, ℕ, zero, suc, ◌<◌, List, [], ◌∷◌, ◌++◌, refl, take, arith}
use Rattle.c_typed.specs.RunCounts.Counting.{numbers_below}
use Rattle.layout_plan.specs.Outlines.{or_first}

pub some : (declared stay : List ℕ) → (stay ≡ [] → ⊥) → or_first declared stay ≡ stay
some declared [] h = absurd (h refl)
some declared (f ∷ more) h = refl

begins : (all more : List ℕ) → take 1 all ≡ 0 ∷ [] → take 1 (all ++ more) ≡ 0 ∷ []
begins [] more h = absurd (let k : [] ≡ 0 ∷ [] = h in cc)
begins (f ∷ all) more h = h

pub first : (n : ℕ) → 0 < n → take 1 (numbers_below n) ≡ 0 ∷ []
first zero h = absurd (omega (arith, h))
first (suc zero) h = refl
first (suc (suc n)) h = begins (numbers_below (suc n)) (suc n ∷ []) (first (suc n) (omega arith))
