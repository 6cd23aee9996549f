-- Keys, each once, in the order in which they stand first. A key is a list of numbers, as the bytes of a name.
use Rattle.std.specs.Prelude.{ℕ, ◌+◌, Bool, if◌then◌else◌, List, [], ◌∷◌, ◌++◌}
use Rattle.std.specs.List.{list_any}
use Rattle.std.specs.Str.{bytes_eq}

abbrev pub is_among : List (List ℕ) → List ℕ → Bool
is_among keys x = list_any (bytes_eq x) keys

-- one more key, where it is not there
abbrev pub with_key : List (List ℕ) → List ℕ → List (List ℕ)
with_key keys x = if is_among keys x then keys else keys ++ x ∷ []

-- those of a list that are not known before
abbrev pub new_keys : List (List ℕ) → List (List ℕ) → List (List ℕ)
new_keys known [] = []
new_keys known (x ∷ more) = if is_among known x then new_keys known more else x ∷ new_keys (x ∷ known) more

-- the place of a key, and the length where it is not there
abbrev pub position : List (List ℕ) → List ℕ → ℕ
position [] x = 0
position (y ∷ more) x = if bytes_eq x y then 0 else position more x + 1
