-- Places that come one after the other, and what stands before them.
use Rattle.std.proofs.Common.{◌≡◌, ℕ, zero, suc, ◌+◌, ◌≤◌, ◌<◌, refl, ap, subst, List, [], ◌∷◌, ◌++◌, length, arith, inl, inr}
use Rattle.std.specs.Prelude.{◌⊎◌, map, Some, slice_get}
use Rattle.c_checking_laws.proofs.Extends.{one_of_both}
use Rattle.c_checking_laws.proofs.WholeFiles.Parts.{Parted, none, is_made, is_bytes}
use Rattle.c_checking_laws.specs.TextOrder.TextOrder.{Rising}

-- behind a first part
pub record Passed (at : ℕ) (u v : List ℕ) : Type 0 where
  pub to : ℕ
  pub later : at ≤ to
  pub below : (k p : ℕ) → slice_get u k ≡ Some p → p < to
  pub from : (k p : ℕ) → slice_get u k ≡ Some p → at ≤ p
  pub rest : Rising to v

pub passed : (at : ℕ) (u v : List ℕ) → Rising at (u ++ v) → Passed at u v
passed at [] v r = record { to = at; later = omega arith; below = λ k p e. cc; from = λ k p e. cc; rest = r }
passed at (q ∷ u) v r =
    let m = passed (q + 1) u v r.1 in
    record {
      to = m.to;
      later = omega (arith, r.0, m.later);
      below = λ k p e. under k p e m.to m.later m.below;
      from = λ k p e. over k p e r.0 m.from;
      rest = m.rest;
    }
  where
    under : (k p : ℕ) → slice_get (q ∷ u) k ≡ Some p → (to : ℕ) → q + 1 ≤ to → ((k p : ℕ) → slice_get u k ≡ Some p → p < to) → p < to
    under zero p e to l b = let same : q ≡ p = cc in omega (arith, same, l)
    under (suc k) p e to l b = b k p e

    over : (k p : ℕ) → slice_get (q ∷ u) k ≡ Some p → at ≤ q → ((k p : ℕ) → slice_get u k ≡ Some p → q + 1 ≤ p) → at ≤ p
    over zero p e l b = let same : q ≡ p = cc in omega (arith, same, l)
    over (suc k) p e l b = let c = b k p e in omega (arith, c, l)

pub rising_later : (a b : ℕ) (u : List ℕ) → a ≤ b → Rising b u → Rising a u
rising_later a b [] l r = tt
rising_later a b (p ∷ u) l r = (omega (arith, l, r.0), r.1)

pub rising_front : (at : ℕ) (u v : List ℕ) → Rising at (u ++ v) → Rising at u
rising_front at [] v r = tt
rising_front at (p ∷ u) v r = (r.0, rising_front (p + 1) u v r.1)

map_there : {X : Type 0} (v : X → ℕ) (xs : List X) (k : ℕ) (x : X) → slice_get xs k ≡ Some x → slice_get (map v xs) k ≡ Some (v x)
map_there v [] k x e = cc
map_there v (y ∷ xs) zero x e = let same : y ≡ x = cc in ap (λ x. Some (v x)) same
map_there v (y ∷ xs) (suc k) x e = map_there v xs k x e

map_back : {X : Type 0} (v : X → ℕ) (xs : List X) (k p : ℕ) → slice_get (map v xs) k ≡ Some p → (x : X) × (slice_get xs k ≡ Some x) × (v x ≡ p)
map_back v [] k p e = cc
map_back v (x ∷ xs) zero p e = (x, refl, let f : v x ≡ p = cc in f)
map_back v (x ∷ xs) (suc k) p e = map_back v xs k p e

-- what is numbered by places, with more of them
pub below_then : {X : Type 0} (v : X → ℕ) (xs ys : List X) (own : List ℕ) (at to : ℕ) → map v ys ≡ map v xs ++ own → at ≤ to
    → ((k : ℕ) (x : X) → slice_get xs k ≡ Some x → v x < at) → ((k p : ℕ) → slice_get own k ≡ Some p → p < to)
    → (k : ℕ) (y : X) → slice_get ys k ≡ Some y → v y < to
below_then {X} v xs ys own at to e l h i k y g =
    by_part (one_of_both (map v xs) own k (v y) (subst (λ all. slice_get all k ≡ Some (v y)) e (map_there v ys k y g)))
  where
    by_part : (slice_get (map v xs) k ≡ Some (v y)) ⊎ ((j : ℕ) × (k ≡ length (map v xs) + j) × (slice_get own j ≡ Some (v y))) → v y < to
    by_part (inl g) =
        let m = map_back v xs k (v y) g in
        let b = h k m.0 m.1 in
        let s = m.2 in
        omega (arith, b, s, l)
    by_part (inr g) = i g.0 (v y) g.2

-- the made ones are among all
pub part_of : (all made texts : List ℕ) → Parted all made texts → (k p : ℕ) → slice_get made k ≡ Some p → (j : ℕ) × (slice_get all j ≡ Some p)
part_of [] [] [] none k p e = cc
part_of _ _ _ (is_made q all made texts w) zero p e = (0, e)
part_of _ _ _ (is_made q all made texts w) (suc k) p e = let r = part_of all made texts w k p e in (suc r.0, r.1)
part_of _ _ _ (is_bytes q all made texts w) k p e = let r = part_of all made texts w k p e in (suc r.0, r.1)
