-- The sizes and values of integer types (C99 5.2.4.2.1, 6.2.5).
use Rattle.std.specs.Prelude.{ℕ, ◌^◌, ◌-◌, Bool, true, false}
use Rattle.c_types.specs.declared.ty.IntKind.{IntKind}
use Rattle.c_types.specs.declared.ty.IntKind.TheVariants as I

-- the greatest value: char is unsigned, short has 16 bits, int and long have 32 (own)
abbrev pub greatest : IntKind → ℕ
greatest I.Char = 2 ^ 8 - 1
greatest I.SChar = 2 ^ 7 - 1
greatest I.UChar = 2 ^ 8 - 1
greatest I.Short = 2 ^ 15 - 1
greatest I.UShort = 2 ^ 16 - 1
greatest I.Int = 2 ^ 31 - 1
greatest I.UInt = 2 ^ 32 - 1
greatest I.Long = 2 ^ 31 - 1
greatest I.ULong = 2 ^ 32 - 1

-- the size in bytes (own)
abbrev pub width : IntKind → ℕ
width I.Char = 1
width I.SChar = 1
width I.UChar = 1
width I.Short = 2
width I.UShort = 2
width I.Int = 4
width I.UInt = 4
width I.Long = 4
width I.ULong = 4

-- does it have negative values? char has none (own)
abbrev pub is_signed : IntKind → Bool
is_signed I.Char = false
is_signed I.SChar = true
is_signed I.UChar = false
is_signed I.Short = true
is_signed I.UShort = false
is_signed I.Int = true
is_signed I.UInt = false
is_signed I.Long = true
is_signed I.ULong = false
