-- The group that a field joins, by its number among those that there are.
use Rattle.std.specs.Prelude.{ℕ, zero, suc, ◌-◌, ◌==◌, ◌||◌, if◌then◌else◌, List, [], ◌∷◌, ◌++◌}
use Rattle.affinity.specs.declared.fields.FieldWeights.{FieldWeights}
use Rattle.layout_plan.specs.Order.{is_with}

-- past the last where it opens one
abbrev pub group_of : FieldWeights → (room : ℕ) → List (List ℕ) → (field : ℕ) → ℕ
group_of w room [] f = 0
group_of w room (group ∷ more) f = if room == 1 || is_with w group f then 0 else suc (group_of w (room - 1) more f)

abbrev pub with_member : List (List ℕ) → (number field : ℕ) → List (List ℕ)
with_member [] number f = (f ∷ []) ∷ []
with_member (group ∷ more) zero f = (group ++ f ∷ []) ∷ more
with_member (group ∷ more) (suc number) f = group ∷ with_member more number f
