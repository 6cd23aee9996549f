-- Names by their places in a list.
use Rattle.std.specs.Prelude.{ℕ, ◌+◌, List, [], ◌∷◌, ◌++◌, if◌then◌else◌, Option, Some, None}
use Rattle.std.specs.Option.{option_map}
use Rattle.std.specs.Str.{bytes_eq}
use Rattle.c_erasure.specs.Marks.{is_among}

-- where a name stands first
abbrev pub number_in : List (List ℕ) → List ℕ → Option ℕ
number_in [] x = None
number_in (name ∷ names) x = if bytes_eq x name then Some 0 else option_map (λ k. k + 1) (number_in names x)

-- with a name that is not among them
abbrev pub with_new : List (List ℕ) → List ℕ → List (List ℕ)
with_new names x = if is_among names x then names else names ++ x ∷ []
