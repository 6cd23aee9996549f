-- One more type, where it is not there.
use Rattle.std.specs.Prelude.{◌≡◌, ℕ, Some, if◌then◌else◌, List, [], ◌∷◌, ◌++◌}
use Rattle.std.specs.List.{list_any, slice_get}
use Rattle.c_erasure.specs.Units.{number_in}
use Rattle.c_types.specs.Sameness.{same_type}
use Rattle.c_types.specs.Types.{CType}

abbrev pub with_type : List CType → CType → List CType
with_type types t = if list_any (same_type t) types then types else types ++ t ∷ []

-- each type stands once
abbrev pub AreOnce : List CType → Type 0
AreOnce types = (i : ℕ) (t : CType) → slice_get types i ≡ Some t → number_in types t ≡ i
