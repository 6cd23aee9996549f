-- The types that specifiers and declarators can make (C99 6.7.2, 6.7.5).
use Rattle.std.specs.Prelude.{◌≡◌, ℕ, ◌≤◌, true, ◌⊎◌}
use Rattle.c_types.specs.Types.{CType, CTypes, void, integer, pointer, array, function, structure, no_types, and_type}
use Rattle.c_types.specs.Objects.{is_object}
use Rattle.c_typed.specs.Conversions.{is_scalar}

-- of `count` complete records: an array has elements of a complete type, and at least one; a function gives a number, a pointer or nothing,
-- and takes numbers and pointers (own)
abbrev mutual
  pub IsDeclarable : (count : ℕ) → CType → Type 0
  IsDeclarable count void = Unit {0}
  IsDeclarable count (integer kind) = Unit {0}
  IsDeclarable count (pointer t) = IsDeclarable count t
  IsDeclarable count (array t n) = (1 ≤ n) × (is_object count t ≡ true) × IsDeclarable count t
  IsDeclarable count (function t all) = ((is_scalar t ≡ true) ⊎ (t ≡ void)) × IsDeclarable count t × AreParameters count all
  IsDeclarable count (structure r) = Unit {0}

  pub AreParameters : (count : ℕ) → CTypes → Type 0
  AreParameters count no_types = Unit {0}
  AreParameters count (and_type t more) = (is_scalar t ≡ true) × IsDeclarable count t × AreParameters count more

-- the type that specifiers name, from which a declarator makes a type
abbrev pub base_of : CType → CType
base_of (pointer t) = base_of t
base_of (array t n) = base_of t
base_of (function t all) = base_of t
base_of t = t
