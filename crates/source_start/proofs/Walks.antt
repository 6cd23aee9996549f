-- How a walk over the loops of a function goes on.
use Rattle.std.proofs.Common.{◌≡◌, ap, ◌∙◌, ℕ, ◌+◌, [], ◌∷◌, ◌++◌, map}
use Rattle.std.proofs.Common.{add-one}
use Rattle.std.proofs.lemmas.List.{map-append}
use Rattle.c_typed.specs.RunCounts.Counting.{numbers_below}

pub next_number : (g : ℕ → ℕ) (n : ℕ) → map g (numbers_below (n + 1)) ≡ map g (numbers_below n) ++ g n ∷ []
next_number g n = ap (λ k. map g (numbers_below k)) (add-one n) ∙ map-append g (numbers_below n) (n ∷ [])
