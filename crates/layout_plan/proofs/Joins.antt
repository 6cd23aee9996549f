-- A field joins the group of that number.
use Rattle.std.proofs.Common.{◌≡◌, ℕ, zero, suc, ◌-◌, ◌<◌, ◌≤◌, ◌==◌, ◌||◌, Bool, true, false, List, [], ◌∷◌, ◌++◌, length, ap, refl, sym, ◌∙◌, arith, slice_index_or, slice_set}
use Rattle.std.specs.Prelude.{if◌then◌else◌}
use Rattle.affinity.specs.declared.fields.FieldWeights.{FieldWeights}
use Rattle.layout_plan.specs.Joining.{group_of, with_member}
use Rattle.layout_plan.specs.Order.{is_with, joined}

joins : (w : FieldWeights) (room : ℕ) (groups : List (List ℕ)) (f : ℕ) → joined w room groups f ≡ with_member groups (group_of w room groups f) f
joins w room [] f = refl
joins w room (group ∷ more) f = go (room == 1 || is_with w group f) (joins w (room - 1) more f)
  where
    go : (l : Bool) → joined w (room - 1) more f ≡ with_member more (group_of w (room - 1) more f) f
        → (if l then (group ++ f ∷ []) ∷ more else group ∷ joined w (room - 1) more f)
        ≡ with_member (group ∷ more) (if l then 0 else suc (group_of w (room - 1) more f)) f
    go true h = refl
    go false h = ap (λ all. group ∷ all) h

set_within : (groups : List (List ℕ)) (number f : ℕ) (other : List ℕ) → number < length groups
    → slice_set groups number (slice_index_or groups number other ++ f ∷ []) ≡ with_member groups number f
set_within [] number f other h = absurd (omega (arith, h))
set_within (group ∷ more) zero f other h = refl
set_within (group ∷ more) (suc number) f other h = ap (λ all. group ∷ all) (set_within more number f other (omega (arith, h)))

added_past : (groups : List (List ℕ)) (number f : ℕ) → length groups ≤ number → groups ++ (f ∷ []) ∷ [] ≡ with_member groups number f
added_past [] number f h = refl
added_past (group ∷ more) zero f h = absurd (omega (arith, h))
added_past (group ∷ more) (suc number) f h = ap (λ all. group ∷ all) (added_past more number f (omega (arith, h)))

module _ (w : FieldWeights) (groups : List (List ℕ)) (f number : ℕ) (e : number ≡ group_of w 8 groups f) where
  pub within : (group : List ℕ) → group ≡ slice_index_or groups number group → number < length groups
      → slice_set groups number (group ++ f ∷ []) ≡ joined w 8 groups f
  within group same h = ap (λ g. slice_set groups number (g ++ f ∷ [])) same ∙ set_within groups number f group h
      ∙ ap (λ n. with_member groups n f) e ∙ sym (joins w 8 groups f)

  pub past : length groups ≤ number → groups ++ (f ∷ []) ∷ [] ≡ joined w 8 groups f
  past h = added_past groups number f h ∙ ap (λ n. with_member groups n f) e ∙ sym (joins w 8 groups f)
