-- Which types fully describe objects (C99 6.2.5), and how many parts a type has.
use Rattle.std.specs.Prelude.{ℕ, ◌+◌, Bool, true, false, ◌&&◌, nat_lt}
use Rattle.c_types.specs.Types.{CType, CTypes, void, integer, pointer, array, function, structure, no_types, and_type}

-- Is it an object type, where `count` records are complete? An array has at least one element (6.7.5.2), and what a pointer
-- points to may be incomplete.
abbrev pub is_object : (count : ℕ) → CType → Bool
is_object count void = false
is_object count (integer kind) = true
is_object count (pointer t) = true
is_object count (array t n) = nat_lt 0 n && is_object count t
is_object count (function t all) = false
is_object count (structure number) = nat_lt number count

-- the number of types that a type is built of, itself among them; a record is one, whatever its fields are (own)
abbrev mutual
  pub parts : CType → ℕ
  parts void = 1
  parts (integer kind) = 1
  parts (pointer t) = parts t + 1
  parts (array t n) = parts t + 1
  parts (function t all) = parts t + parts_of_all all + 1
  parts (structure number) = 1

  pub parts_of_all : CTypes → ℕ
  parts_of_all no_types = 0
  parts_of_all (and_type t more) = parts t + parts_of_all more
