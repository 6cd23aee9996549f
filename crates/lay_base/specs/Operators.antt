-- `/`, `%`, `<<` and `>>` on integers of 32 bits (C99 6.5.5 and 6.5.7). None stands where a
-- program's behaviour is undefined. A signed integer is its number, and an unsigned one its bits.
use Rattle.std.specs.Prelude.{◌≡◌, ◌⊎◌, ℕ, ◌-◌, ◌*◌, ◌/◌, ◌%◌, ◌^◌, Bool, not, ◌&&◌, if◌then◌else◌, nat_lt, ℤ, pos, negsuc, int_le, int_div, int_rem}
use Rattle.std.specs.Prelude.{Option, None}
use Rattle.std.specs.Bool.{then_some}
use Rattle.std.specs.Ordering.{int_eq}
use Rattle.std.specs.Int.{w32, cast_signed, cast_unsigned, int_shr}

-- ---- 6.5.5

-- whether a number is an int, from -2^31 to 2^31 - 1
abbrev pub is_int : ℤ → Bool
is_int z = int_le (negsuc (2 ^ 31 - 1)) z && int_le z (pos (2 ^ 31 - 1))

-- a / b and a % b have a value where b is not 0 and the quotient, its fraction discarded, is an int
abbrev pub is_divisible : ℤ → ℤ → Bool
is_divisible a b = not (int_eq b (pos 0)) && is_int (int_div a b)

-- no value: the divisor is 0, or the dividend is -2^31 and the divisor -1
abbrev pub IsUndefinedDivision : (a b : ℤ) → Type 0
IsUndefinedDivision a b = (b ≡ pos 0) ⊎ ((a ≡ negsuc (2 ^ 31 - 1)) × (b ≡ negsuc 0))

-- the quotient, its fraction discarded
abbrev pub quotient : (a b : ℤ) → Option ℤ
quotient a b = then_some (is_divisible a b) (int_div a b)

-- a less the quotient times b: where it is not 0, it has the sign of a
abbrev pub remainder : (a b : ℤ) → Option ℤ
remainder a b = then_some (is_divisible a b) (int_rem a b)

-- ---- 6.5.7: an amount is from 0 to 31

-- a times 2^n, modulo 2^32
abbrev pub shifted_left : (a : ℕ) (by : ℤ) → Option ℕ
shifted_left a (pos n) = then_some (nat_lt n 32) (a * 2 ^ n % 2 ^ 32)
shifted_left a (negsuc n) = None

-- the bits of the number that 32 bits stand for in two's complement, divided by 2^n and rounded down
abbrev pub arithmetic_shift : (a n : ℕ) → ℕ
arithmetic_shift a n = cast_unsigned w32 (int_shr (cast_signed w32 a) n)

-- a divided by 2^n and rounded down; of a signed number also where it is negative (own)
abbrev pub shifted_right : (a : ℕ) (by : ℤ) (signed : Bool) → Option ℕ
shifted_right a (pos n) signed = then_some (nat_lt n 32) (if signed then arithmetic_shift a n else a / 2 ^ n)
shifted_right a (negsuc n) signed = None
