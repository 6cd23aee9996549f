-- One more number, where it is not there.
use Rattle.std.specs.Prelude.{ℕ, ◌==◌, if◌then◌else◌, List, [], ◌∷◌, ◌++◌}
use Rattle.std.specs.List.{list_any}

abbrev pub with_number : List ℕ → ℕ → List ℕ
with_number numbers number = if list_any (λ n. n == number) numbers then numbers else numbers ++ number ∷ []
