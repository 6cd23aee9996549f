-- What holds of all elements of lists holds of those of other lists.
use Rattle.std.proofs.Common.{◌≡◌, Bool, true, false, cond, List, [], ◌∷◌, ◌++◌, length, map, flat_map, filter, Some, refl, subst}
use Rattle.std.specs.Prelude.{slice_get}
use Rattle.std.specs.List.{AllByRecursion}

module _ {A : Type 0} (R : A → Type 0) where
  pub both : (xs ys : List A) → AllByRecursion R xs → AllByRecursion R ys → AllByRecursion R (xs ++ ys)
  both [] ys p q = q
  both (x ∷ xs) ys p q = (p.0, both xs ys p.1 q)

  pub each_of : {B : Type 0} (Q : B → Type 0) (f : B → A) (xs : List B) → ((x : B) → Q x → R (f x)) → AllByRecursion Q xs → AllByRecursion R (map f xs)
  each_of Q f [] h p = tt
  each_of Q f (x ∷ xs) h p = (h x p.0, each_of Q f xs h p.1)

  pub all_of : {B : Type 0} (Q : B → Type 0) (f : B → List A) (xs : List B) → ((x : B) → Q x → AllByRecursion R (f x)) → AllByRecursion Q xs
      → AllByRecursion R (flat_map f xs)
  all_of Q f [] h p = tt
  all_of Q f (x ∷ xs) h p = both (f x) (flat_map f xs) (h x p.0) (all_of Q f xs h p.1)

  pub chosen : (b : Bool) (xs ys : List A) → AllByRecursion R xs → AllByRecursion R ys → AllByRecursion R (cond b xs ys)
  chosen true xs ys p q = p
  chosen false xs ys p q = q

  pub kept : (f : A → Bool) (xs : List A) → AllByRecursion R xs → AllByRecursion R (filter f xs)
  kept f [] p = tt
  kept f (x ∷ xs) p = chosen (f x) (x ∷ filter f xs) (filter f xs) (p.0, kept f xs p.1) (kept f xs p.1)

  -- those before one of them, and it
  pub before : (xs : List A) (x : A) (ys : List A) → AllByRecursion R (xs ++ x ∷ ys) → AllByRecursion R xs
  before [] x ys p = tt
  before (y ∷ xs) x ys p = (p.0, before xs x ys p.1)

  pub between : (xs : List A) (x : A) (ys : List A) → AllByRecursion R (xs ++ x ∷ ys) → R x
  between [] x ys p = p.0
  between (y ∷ xs) x ys p = between xs x ys p.1

  pub first_of : (all : List A) (x : A) (rest : List A) → all ≡ x ∷ rest → AllByRecursion R all → R x
  first_of all x rest e p = (subst (AllByRecursion R) e p).0

-- what stands behind a list
pub behind : {A : Type 0} (xs : List A) (x : A) (ys : List A) → slice_get (xs ++ x ∷ ys) (length xs) ≡ Some x
behind [] x ys = refl
behind (y ∷ xs) x ys = behind xs x ys
