-- Which types take part in arithmetic, and what conversions make of types and values (C99 6.2.5, 6.3).
use Rattle.std.specs.Prelude.{ℕ, ◌+◌, ◌-◌, ◌%◌, ◌^◌, Bool, true, false, if◌then◌else◌, nat_lt, ℤ, pos, Option, Some, None}
use Rattle.std.specs.Int.{w32, cast_signed}
use Rattle.c_types.specs.declared.ty.IntKind.{IntKind}
use Rattle.c_types.specs.declared.ty.IntKind.TheVariants.{Char, SChar, UChar, Short, UShort, Int, UInt, Long, ULong}
use Rattle.c_types.specs.Types.{CType, integer, pointer, array, function, structure}

-- ---- sorts of types (6.2.5)

abbrev pub is_integer : CType → Bool
is_integer (integer kind) = true
is_integer t = false

abbrev pub is_pointer : CType → Bool
is_pointer (pointer t) = true
is_pointer t = false

abbrev pub is_scalar : CType → Bool
is_scalar (integer kind) = true
is_scalar (pointer t) = true
is_scalar t = false

abbrev pub is_record : CType → Bool
is_record (structure number) = true
is_record t = false

abbrev pub is_array : CType → Bool
is_array (array t n) = true
is_array t = false

abbrev pub is_function : CType → Bool
is_function (function t all) = true
is_function t = false

-- what a pointer points to; there is none of what is no pointer
abbrev pub pointed : CType → Option CType
pointed (pointer t) = Some t
pointed t = None

abbrev pub element_of : CType → Option CType
element_of (array t n) = Some t
element_of t = None

-- ---- integer promotions and the usual arithmetic conversions (6.3.1.1, 6.3.1.8)

-- every integer type narrower than int promotes to int
abbrev pub promoted_kind : IntKind → IntKind
promoted_kind UInt = UInt
promoted_kind Long = Long
promoted_kind ULong = ULong
promoted_kind kind = Int

-- of two promoted types: unsigned long if one is that, or if one is long and the other unsigned, as long cannot hold every
-- unsigned value; else long if one is long; else unsigned if one is unsigned; else int
abbrev pub common_promoted : IntKind → IntKind → IntKind
common_promoted ULong l = ULong
common_promoted k ULong = ULong
common_promoted Long UInt = ULong
common_promoted UInt Long = ULong
common_promoted Long l = Long
common_promoted k Long = Long
common_promoted UInt l = UInt
common_promoted k UInt = UInt
common_promoted k l = Int

abbrev pub common_kind : IntKind → IntKind → IntKind
common_kind k l = common_promoted (promoted_kind k) (promoted_kind l)

-- of integer types; other types stay
abbrev pub promoted : CType → CType
promoted (integer kind) = integer (promoted_kind kind)
promoted t = t

abbrev pub common : CType → CType → CType
common (integer k) (integer l) = integer (common_kind k l)
common s t = s

-- ---- arrays and functions as values, and as parameters (6.3.2.1, 6.7.5.3)

-- an array becomes a pointer to its first element, a function a pointer to it
abbrev pub adjusted : CType → CType
adjusted (array t n) = pointer t
adjusted (function t all) = pointer (function t all)
adjusted t = t

-- ---- values: a number is kept as the 32 bits that stand for it in two's complement

abbrev pub is_signed : IntKind → Bool
is_signed SChar = true
is_signed Short = true
is_signed Int = true
is_signed Long = true
is_signed kind = false

-- the number that the low bits stand for, with the highest of them as its sign
abbrev pub sign_extended : (bits v : ℕ) → ℕ
sign_extended bits v = if nat_lt (v % 2 ^ bits) (2 ^ (bits - 1)) then v % 2 ^ bits else v % 2 ^ bits + (2 ^ 32 - 2 ^ bits)

-- a conversion keeps the value modulo 2 to the power of the type's width (6.3.1.3)
abbrev pub as_kind : IntKind → ℕ → ℕ
as_kind Char v = v % 2 ^ 8
as_kind SChar v = sign_extended 8 v
as_kind UChar v = v % 2 ^ 8
as_kind Short v = sign_extended 16 v
as_kind UShort v = v % 2 ^ 16
as_kind kind v = v % 2 ^ 32

-- the number itself
abbrev pub number_of : IntKind → ℕ → ℤ
number_of kind v = if is_signed kind then cast_signed w32 v else pos v
