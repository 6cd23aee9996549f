-- Numbers of places that ascend, and of names that are different.
use Rattle.std.proofs.Common.{◌≡◌, ◌≢◌, ℕ, zero, suc, ◌<◌, refl, ap, List, [], ◌∷◌, arith}
use Rattle.std.specs.Prelude.{Some, slice_get}
use Rattle.c_erasure.specs.Declarators.{AreDifferent}
use Rattle.c_erasure.specs.Files.{AreAscending}
use Rattle.c_checking_laws.proofs.CompleteNodes.{some_is}
use Rattle.c_checking_laws.proofs.WholeFiles.Names.{all_at}

pub lesser_first : (all : List ℕ) → AreAscending all → (j k p q : ℕ) → slice_get all j ≡ Some p → slice_get all k ≡ Some q → p < q → j < k
lesser_first [] h j k p q e f l = cc
lesser_first (x ∷ all) h zero zero p q e f l = let a = some_is x p e in let b = some_is x q f in absurd (omega (arith, l, a, b))
lesser_first (x ∷ all) h zero (suc k) p q e f l = omega arith
lesser_first (x ∷ all) h (suc j) zero p q e f l =
    let b = some_is x q f in
    let m = all_at (λ y. x < y) all h.0 j p e in
    absurd (omega (arith, l, b, m))
lesser_first (x ∷ all) h (suc j) (suc k) p q e f l = let m = lesser_first all h.1 j k p q e f l in omega (arith, m)

-- a place has one number
pub ascending_apart : (all : List ℕ) → AreAscending all → (j k p : ℕ) → slice_get all j ≡ Some p → slice_get all k ≡ Some p → j ≡ k
ascending_apart [] h j k p e f = cc
ascending_apart (x ∷ all) h zero zero p e f = refl
ascending_apart (x ∷ all) h zero (suc k) p e f =
    let l = all_at (λ y. x < y) all h.0 k p f in
    let same = some_is x p e in
    absurd (omega (arith, l, same))
ascending_apart (x ∷ all) h (suc j) zero p e f =
    let l = all_at (λ y. x < y) all h.0 j p e in
    let same = some_is x p f in
    absurd (omega (arith, l, same))
ascending_apart (x ∷ all) h (suc j) (suc k) p e f = ap suc (ascending_apart all h.1 j k p e f)

-- and so has a name
pub different_apart : (all : List (List ℕ)) → AreDifferent all → (j k : ℕ) (x : List ℕ) → slice_get all j ≡ Some x → slice_get all k ≡ Some x → j ≡ k
different_apart [] h j k x e f = cc
different_apart (y ∷ all) h zero zero x e f = refl
different_apart (y ∷ all) h zero (suc k) x e f = absurd (all_at (λ z. y ≢ z) all h.0 k x f (some_is y x e))
different_apart (y ∷ all) h (suc j) zero x e f = absurd (all_at (λ z. y ≢ z) all h.0 j x e (some_is y x f))
different_apart (y ∷ all) h (suc j) (suc k) x e f = ap suc (different_apart all h.1 j k x e f)
