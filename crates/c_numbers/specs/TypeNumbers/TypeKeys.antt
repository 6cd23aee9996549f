-- A type as a key: numbers from which it can be read back.
use Rattle.std.specs.Prelude.{ℕ, List, [], ◌∷◌, ◌++◌}
use Rattle.c_types.specs.declared.ty.IntKind.{IntKind}
use Rattle.c_types.specs.declared.ty.IntKind.TheVariants.{Char, SChar, UChar, Short, UShort, Int, UInt, Long, ULong}
use Rattle.c_types.specs.Types.{CType, CTypes, void, integer, pointer, array, function, structure, no_types, and_type}

abbrev pub kind_number : IntKind → ℕ
kind_number Char = 0
kind_number SChar = 1
kind_number UChar = 2
kind_number Short = 3
kind_number UShort = 4
kind_number Int = 5
kind_number UInt = 6
kind_number Long = 7
kind_number ULong = 8

abbrev mutual
  pub type_key : CType → List ℕ
  type_key void = 0 ∷ []
  type_key (integer kind) = 1 ∷ kind_number kind ∷ []
  type_key (pointer t) = 2 ∷ type_key t
  type_key (array t n) = 3 ∷ n ∷ type_key t
  type_key (function t all) = 4 ∷ (type_key t ++ types_key all)
  type_key (structure r) = 5 ∷ r ∷ []

  pub types_key : CTypes → List ℕ
  types_key no_types = 0 ∷ []
  types_key (and_type t more) = 1 ∷ (type_key t ++ types_key more)
