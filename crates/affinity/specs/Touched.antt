-- Marks of the groups that access a field or any field of one record, what stands at the groups with a mark, and the sum of the weights of those with two.
use Rattle.std.specs.Prelude.{ℕ, ◌+◌, ◌==◌, Bool, true, false, ◌&&◌, if◌then◌else◌, List, [], ◌∷◌}
use Rattle.std.specs.Prelude.{filter, fold, replicate, slice_get, slice_set, unwrap_or}
use Rattle.affinity.specs.declared.access.Access.{Access}
use Rattle.affinity.specs.Accesses.{is_to}

-- of one record
abbrev pub own : (of : ℕ) → List Access → List Access
own of all = filter (λ a. a.of == of) all

abbrev pub marked : (of field : ℕ) → List Bool → Access → List Bool
marked of field marks a = if is_to of field a then slice_set marks a.group true else marks

abbrev pub marked_group : List Bool → Access → List Bool
marked_group marks a = slice_set marks a.group true

abbrev pub touched : (of field groups : ℕ) → List Access → List Bool
touched of field groups all = fold (marked of field) (replicate groups false) all

abbrev pub touched_at_all : (groups : ℕ) → List Access → List Bool
touched_at_all groups all = fold marked_group (replicate groups false) all

abbrev pub is_marked : List Bool → (group : ℕ) → Bool
is_marked marks group = unwrap_or (slice_get marks group) false

-- from a group on
abbrev pub kept : {X : Type 0} → (group : ℕ) → List Bool → List X → List X
kept group marks [] = []
kept group marks (x ∷ more) = if is_marked marks group then x ∷ kept (group + 1) marks more else kept (group + 1) marks more

-- from a group on
abbrev pub common : (group : ℕ) → (weights : List ℕ) → (ones others : List Bool) → ℕ
common group [] ones others = 0
common group (weight ∷ more) ones others =
    (if is_marked ones group && is_marked others group then weight else 0) + common (group + 1) more ones others
