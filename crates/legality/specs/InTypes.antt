-- The records of which a type speaks. A record T is a structure, by its number.
use Rattle.std.specs.Prelude.{ℕ, List, [], ◌∷◌, ◌++◌}
use Rattle.c_types.specs.Types.{CType, CTypes, pointer, array, function, structure, no_types, and_type}

-- T of T
abbrev pub itself : CType → List ℕ
itself (structure r) = r ∷ []
itself t = []

-- T of `T *`
abbrev pub pointed : CType → List ℕ
pointed (pointer t) = itself t
pointed t = []

abbrev mutual
  -- each T of which `T *` stands anywhere in a type
  pub pointers_in : CType → List ℕ
  pointers_in (pointer t) = itself t ++ pointers_in t
  pointers_in (array t n) = pointers_in t
  pointers_in (function t all) = pointers_in t ++ pointers_in_all all
  pointers_in t = []

  pub pointers_in_all : CTypes → List ℕ
  pointers_in_all no_types = []
  pointers_in_all (and_type t more) = pointers_in t ++ pointers_in_all more

abbrev mutual
  -- each T of which an array stands anywhere in a type
  pub arrays_in : CType → List ℕ
  arrays_in (pointer t) = arrays_in t
  arrays_in (array t n) = itself t ++ arrays_in t
  arrays_in (function t all) = arrays_in t ++ arrays_in_all all
  arrays_in t = []

  pub arrays_in_all : CTypes → List ℕ
  arrays_in_all no_types = []
  arrays_in_all (and_type t more) = arrays_in t ++ arrays_in_all more
