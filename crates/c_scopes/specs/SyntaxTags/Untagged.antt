-- The tags of structures without one, as a list of each `struct` with its tag.
use Rattle.std.specs.Prelude.{ℕ, nat_eq, List, [], ◌∷◌, unwrap_or}
use Rattle.std.specs.Map.{lookup}

-- what is no `struct` has a text that is no tag of a structure
abbrev pub untagged_by : List (ℕ × List ℕ) → ℕ → List ℕ
untagged_by all at = unwrap_or (lookup (nat_eq at) all) (64 ∷ [])
