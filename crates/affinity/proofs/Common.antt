-- The groups with both marks are those that access both fields.
use Rattle.std.proofs.Common.{◌≡◌, ap, ℕ, zero, suc, ◌+◌, ◌<◌, ◌==◌, Bool, true, false, ◌&&◌, ◌||◌}
use Rattle.std.proofs.Common.{List, [], ◌∷◌, length, replicate, refl, sym, ◌∙◌, subst, arith}
use Rattle.std.specs.Prelude.{if◌then◌else◌, fold, slice_set}
use Rattle.std.proofs.lemmas.Bool.{eqb-true, eqb-false}
use Rattle.std.proofs.lemmas.List.{length-replicate}
use Rattle.affinity.specs.declared.access.Access.{Access}
use Rattle.affinity.specs.Accesses.{is_to}
use Rattle.affinity.specs.Sums.{affinity, affinity_from, touches, touches_both}
use Rattle.affinity.specs.Touched.{common, is_marked, marked}

set_there : (marks : List Bool) (n : ℕ) → n < length marks → is_marked (slice_set marks n true) n ≡ true
set_there [] n h = absurd (omega (arith, h))
set_there (x ∷ marks) zero h = refl
set_there (x ∷ marks) (suc n) h = set_there marks n (omega (arith, h))

set_elsewhere : (marks : List Bool) (n m : ℕ) → (n ≡ m → ⊥) → is_marked (slice_set marks n true) m ≡ is_marked marks m
set_elsewhere [] n m h = refl
set_elsewhere (x ∷ marks) zero zero h = absurd (h refl)
set_elsewhere (x ∷ marks) zero (suc m) h = refl
set_elsewhere (x ∷ marks) (suc n) zero h = refl
set_elsewhere (x ∷ marks) (suc n) (suc m) h = set_elsewhere marks n m (λ e. h (ap suc e))

pub set_length : (marks : List Bool) (n : ℕ) → length (slice_set marks n true) ≡ length marks
set_length [] n = refl
set_length (x ∷ marks) zero = refl
set_length (x ∷ marks) (suc n) = ap suc (set_length marks n)

module _ (of field group : ℕ) where
  -- one access more
  step_marks : (marks : List Bool) (a : Access) → group < length marks
      → is_marked (marked of field marks a) group ≡ (is_to of field a && a.group == group || is_marked marks group)
  step_marks marks a h = go (is_to of field a) (a.group == group) refl
    where
      go : (t e : Bool) → (a.group == group) ≡ e → is_marked (if t then slice_set marks a.group true else marks) group ≡ (t && e || is_marked marks group)
      go false e p = refl
      go true true p = subst (λ n. is_marked (slice_set marks n true) group ≡ true) (sym (eqb-true a.group group p)) (set_there marks group h)
      go true false p = set_elsewhere marks a.group group (eqb-false a.group group p)

  step_length : (marks : List Bool) (a : Access) → length (marked of field marks a) ≡ length marks
  step_length marks a = go (is_to of field a)
    where
      go : (t : Bool) → length (if t then slice_set marks a.group true else marks) ≡ length marks
      go false = refl
      go true = set_length marks a.group

  -- what was marked before stays so
  marks_are : (marks : List Bool) (all : List Access) → group < length marks
      → is_marked (fold (marked of field) marks all) group ≡ (is_marked marks group || touches of field group all)
  marks_are marks [] h = go (is_marked marks group)
    where
      go : (m : Bool) → m ≡ (m || false)
      go true = refl
      go false = refl
  marks_are marks (a ∷ more) h = marks_are (marked of field marks a) more (subst (λ n. group < n) (sym (step_length marks a)) h)
      ∙ ap (λ m. m || touches of field group more) (step_marks marks a h)
      ∙ turn (is_to of field a && a.group == group) (is_marked marks group) (touches of field group more)
    where
      turn : (x m t : Bool) → ((x || m) || t) ≡ (m || (x || t))
      turn true true t = refl
      turn true false t = refl
      turn false true t = refl
      turn false false t = refl

none_marked : (count group : ℕ) → is_marked (replicate count false) group ≡ false
none_marked zero group = refl
none_marked (suc count) zero = refl
none_marked (suc count) (suc group) = none_marked count group

marks_touch : (of field group count : ℕ) (all : List Access) → group < count
    → is_marked (fold (marked of field) (replicate count false) all) group ≡ touches of field group all
marks_touch of field group count all h = marks_are of field group (replicate count false) all (subst (λ n. group < n) (sym (length-replicate count false)) h)
    ∙ ap (λ m. m || touches of field group all) (none_marked count group)

sums_are : (group count : ℕ) (weights : List ℕ) (of one other : ℕ) (all : List Access) → group + length weights ≡ count
    → common group weights (fold (marked of one) (replicate count false) all) (fold (marked of other) (replicate count false) all)
    ≡ affinity_from group weights of one other all
sums_are group count [] of one other all h = refl
sums_are group count (weight ∷ more) of one other all h =
    ap (λ m. (if m && is_marked others group then weight else 0) + rest) (marks_touch of one group count all within)
    ∙ ap (λ m. (if touches of one group all && m then weight else 0) + rest) (marks_touch of other group count all within)
    ∙ ap (λ n. (if touches_both of one other group all then weight else 0) + n) (sums_are (group + 1) count more of one other all (omega (arith, h)))
  where
    ones : List Bool
    ones = fold (marked of one) (replicate count false) all

    others : List Bool
    others = fold (marked of other) (replicate count false) all

    rest : ℕ
    rest = common (group + 1) more ones others

    within : group < count
    within = omega (arith, h)

pub common_is_affinity : (weights : List ℕ) (of one other : ℕ) (all : List Access)
    → common 0 weights (fold (marked of one) (replicate (length weights) false) all) (fold (marked of other) (replicate (length weights) false) all)
    ≡ affinity weights of one other all
common_is_affinity weights of one other all = sums_are 0 (length weights) weights of one other all (omega arith)
