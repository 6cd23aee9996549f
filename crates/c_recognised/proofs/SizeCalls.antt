-- Calls with other numbers of arguments have no size operand.
use Rattle.std.proofs.Common.{◌≡◌, ℕ, ◌<◌, ◌≤◌, List, [], ◌∷◌, length, refl, arith}
use Rattle.c_annotated.specs.Trees.{Expression}
use Rattle.c_recognised.specs.Operands.{calloc_place, malloc_place}
use Rattle.c_recognised.proofs.Calls.{listed}

pub malloc_of_more : (r : ℕ) (all : List Expression) → 2 ≤ length all → [] ≡ malloc_place r (listed all)
malloc_of_more r [] n = refl
malloc_of_more r (x ∷ []) n = absurd (omega (arith, n))
malloc_of_more r (x ∷ y ∷ more) n = refl

pub calloc_of_less : (r : ℕ) (all : List Expression) → length all < 2 → [] ≡ calloc_place r (listed all)
calloc_of_less r [] n = refl
calloc_of_less r (x ∷ []) n = refl
calloc_of_less r (x ∷ y ∷ more) n = absurd (omega (arith, n))

pub calloc_of_more : (r : ℕ) (all : List Expression) → 3 ≤ length all → [] ≡ calloc_place r (listed all)
calloc_of_more r [] n = refl
calloc_of_more r (x ∷ []) n = refl
calloc_of_more r (x ∷ y ∷ []) n = absurd (omega (arith, n))
calloc_of_more r (x ∷ y ∷ z ∷ more) n = refl
