-- The records whose marks are left are those that nothing holds back.
use Rattle.std.proofs.Common.{◌≡◌, Option, Some, None, ap, ℕ, zero, suc, ◌<◌, length, replicate, ◌==◌, not, ◌||◌, Bool, true, false, List, [], ◌∷◌, refl, ◌∙◌, subst, rules, arith}
use Rattle.std.specs.Prelude.{◌&&◌, fold, slice_get, slice_set}
use Rattle.std.specs.Option.{option_map}
use Rattle.std.proofs.lemmas.Bool.{eqb-true, eqb-false}
use Rattle.std.proofs.lemmas.List.{length-replicate}
use Rattle.layout_plan.specs.Clearing.{cleared}
use Rattle.layout_plan.specs.Peeling.{is_among}

-- the mark of a record, where some are still to be cleared
abbrev Left : Option Bool → Bool → Option Bool
Left mark held = option_map (λ m. m && not held) mark

same : (mark : Option Bool) → mark ≡ Left mark false
same None = refl
same (Some true) = refl
same (Some false) = refl

set_there : (l : List Bool) (n : ℕ) (held : Bool) → Left (slice_get (slice_set l n false) n) held ≡ Left (slice_get l n) true
set_there [] n held = refl
set_there (true ∷ l) zero held = refl
set_there (false ∷ l) zero held = refl
set_there (x ∷ l) (suc n) held = set_there l n held

set_elsewhere : (l : List Bool) (n m : ℕ) → (n ≡ m → ⊥) → slice_get (slice_set l n false) m ≡ slice_get l m
set_elsewhere [] n m h = refl
set_elsewhere (x ∷ l) zero zero h = absurd (h refl)
set_elsewhere (x ∷ l) zero (suc m) h = refl
set_elsewhere (x ∷ l) (suc n) zero h = refl
set_elsewhere (x ∷ l) (suc n) (suc m) h = set_elsewhere l n m (λ e. h (ap suc e))

step : (l : List Bool) (r n : ℕ) (held : Bool) → Left (slice_get (cleared l n) r) held ≡ Left (slice_get l r) ((n == r) || held)
step l r n held = go (n == r) refl
  where
    go : (e : Bool) → (n == r) ≡ e → Left (slice_get (cleared l n) r) held ≡ Left (slice_get l r) (e || held)
    go true p = subst (λ m. Left (slice_get (cleared l n) m) held ≡ Left (slice_get l m) true) (eqb-true n r p) (set_there l n held)
    go false p = ap (λ mark. Left mark held) (set_elsewhere l n r (eqb-false n r p))

marks : (l : List Bool) (r : ℕ) (all : List ℕ) → slice_get (fold cleared l all) r ≡ Left (slice_get l r) (is_among all r)
marks l r [] = same (slice_get l r)
marks l r (n ∷ all) = marks (cleared l n) r all ∙ step l r n (is_among all r)

at_first : (n r : ℕ) → r < n → slice_get (replicate n true) r ≡ Some true
at_first zero r h = absurd (omega (arith, h))
at_first (suc n) zero h = refl
at_first (suc n) (suc r) h = at_first n r (omega (arith, h))

pub peelable : (n : ℕ) (all : List ℕ) (r : ℕ) → r < n → slice_get (fold cleared (replicate n true) all) r ≡ Some (not (is_among all r))
peelable n all r h = marks (replicate n true) r all ∙ ap (λ mark. Left mark (is_among all r)) (at_first n r h)

keeps : (l : List Bool) (all : List ℕ) → length (fold cleared l all) ≡ length l
keeps l [] = refl
keeps l (n ∷ all) = keeps (cleared l n) all ∙ kept l n
  where
    kept : (l : List Bool) (n : ℕ) → length (slice_set l n false) ≡ length l
    kept l n = search rules

pub counted : (n : ℕ) (all : List ℕ) → length (fold cleared (replicate n true) all) ≡ n
counted n all = keeps (replicate n true) all ∙ length-replicate n true
