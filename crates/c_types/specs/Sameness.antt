-- When two types are the same: they are built alike, of the same integer types and of records with the same numbers.
use Rattle.std.specs.Prelude.{◌==◌, Bool, true, false, ◌&&◌}
use Rattle.c_types.specs.declared.ty.IntKind.{IntKind}
use Rattle.c_types.specs.declared.ty.IntKind.TheVariants.{Char, SChar, UChar, Short, UShort, Int, UInt, Long, ULong}
use Rattle.c_types.specs.Types.{CType, CTypes, void, integer, pointer, array, function, structure, no_types, and_type}

-- the nine integer types are nine types, also where they have the same values (6.2.5)
abbrev pub same_kind : IntKind → IntKind → Bool
same_kind Char Char = true
same_kind SChar SChar = true
same_kind UChar UChar = true
same_kind Short Short = true
same_kind UShort UShort = true
same_kind Int Int = true
same_kind UInt UInt = true
same_kind Long Long = true
same_kind ULong ULong = true
same_kind k l = false

abbrev mutual
  pub same_type : CType → CType → Bool
  same_type void void = true
  same_type (integer k) (integer l) = same_kind k l
  same_type (pointer s) (pointer t) = same_type s t
  same_type (array s n) (array t m) = n == m && same_type s t
  same_type (function s all) (function t others) = same_type s t && same_types all others
  same_type (structure r) (structure s) = r == s
  same_type s t = false

  pub same_types : CTypes → CTypes → Bool
  same_types no_types no_types = true
  same_types (and_type s more) (and_type t others) = same_type s t && same_types more others
  same_types all others = false
