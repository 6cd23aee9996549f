-- How often fields are accessed, how often two of them together, and whether one is read, by the weights of groups and all accesses.
use Rattle.std.specs.Prelude.{ℕ, ◌+◌, ◌==◌, Bool, ◌&&◌, if◌then◌else◌, List, [], ◌∷◌}
use Rattle.std.specs.List.{list_any}
use Rattle.affinity.specs.declared.access.Access.{Access}
use Rattle.affinity.specs.Accesses.{is_to}
use Rattle.affinity.specs.GroupWeights.{weight_of}

-- of a field: the sum over its accesses
abbrev pub hotness : (weights : List ℕ) → (of field : ℕ) → List Access → ℕ
hotness weights of field [] = 0
hotness weights of field (a ∷ more) = (if is_to of field a then weight_of weights a.group else 0) + hotness weights of field more

abbrev pub touches : (of field group : ℕ) → List Access → Bool
touches of field group all = list_any (λ a. is_to of field a && a.group == group) all

-- the group accesses both
abbrev pub touches_both : (of one other group : ℕ) → List Access → Bool
touches_both of one other group all = touches of one group all && touches of other group all

-- the weights are those from a group on
abbrev pub affinity_from : (group : ℕ) → (weights : List ℕ) → (of one other : ℕ) → List Access → ℕ
affinity_from group [] of one other all = 0
affinity_from group (weight ∷ more) of one other all =
    (if touches_both of one other group all then weight else 0) + affinity_from (group + 1) more of one other all

-- of two fields: the sum over the groups that access both
abbrev pub affinity : (weights : List ℕ) → (of one other : ℕ) → List Access → ℕ
affinity weights of one other all = affinity_from 0 weights of one other all

-- whether its value is ever loaded
abbrev pub is_read : (of field : ℕ) → List Access → Bool
is_read of field all = list_any (λ a. is_to of field a && a.is_read) all
