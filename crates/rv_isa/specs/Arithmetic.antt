-- What the arithmetic instructions give, on words below 2 ^ 32 (RISC-V unprivileged specification,
-- RV32I, integer computational instructions, and the M extension). Signed readings are in two's complement.
use Rattle.std.specs.Prelude.{ℕ, ◌+◌, ◌-◌, ◌*◌, ◌/◌, ◌%◌, ◌^◌, ◌==◌, Bool, if◌then◌else◌, ℤ, pos, ◌*ℤ◌, int_lt, int_div, int_rem}
use Rattle.std.specs.Int.{w32, cast_signed, cast_unsigned, int_shr}

-- a test as a word
abbrev pub one_if : Bool → ℕ
one_if test = if test then 1 else 0

-- the sum of a word and an immediate
abbrev pub plus : ℕ → ℤ → ℕ
plus a imm = (a + cast_unsigned w32 imm) % 2 ^ 32

-- an immediate as a word, with its sign extended
abbrev pub extended : ℤ → ℕ
extended imm = cast_unsigned w32 imm

-- ---- order

abbrev pub is_less : ℕ → ℕ → Bool
is_less a b = int_lt (cast_signed w32 a) (cast_signed w32 b)

-- ---- sums and products

abbrev pub sum : ℕ → ℕ → ℕ
sum a b = (a + b) % 2 ^ 32

abbrev pub difference : ℕ → ℕ → ℕ
difference a b = (a + (2 ^ 32 - b)) % 2 ^ 32

abbrev pub product : ℕ → ℕ → ℕ
product a b = a * b % 2 ^ 32

-- the upper word of a product: of two signed numbers, of a signed and an unsigned one, of two unsigned ones
abbrev pub high_signed : ℕ → ℕ → ℕ
high_signed a b = cast_unsigned w32 (int_shr (cast_signed w32 a *ℤ cast_signed w32 b) 32)

abbrev pub high_mixed : ℕ → ℕ → ℕ
high_mixed a b = cast_unsigned w32 (int_shr (cast_signed w32 a *ℤ pos b) 32)

abbrev pub high_unsigned : ℕ → ℕ → ℕ
high_unsigned a b = a * b / 2 ^ 32

-- ---- shifts, by the low five bits of the amount

abbrev pub shifted_left : (a amount : ℕ) → ℕ
shifted_left a amount = a * 2 ^ (amount % 2 ^ 5) % 2 ^ 32

abbrev pub shifted_right : (a amount : ℕ) → ℕ
shifted_right a amount = a / 2 ^ (amount % 2 ^ 5)

-- the sign comes in from above
abbrev pub shifted_right_signed : (a amount : ℕ) → ℕ
shifted_right_signed a amount = cast_unsigned w32 (int_shr (cast_signed w32 a) (amount % 2 ^ 5))

-- ---- division, rounded towards zero. It never traps: by zero the quotient is all ones and the
-- remainder the dividend. The one quotient that is too large, 2 ^ 31, has the bits of the dividend.

abbrev pub quotient : ℕ → ℕ → ℕ
quotient a b = if b == 0 then 2 ^ 32 - 1 else cast_unsigned w32 (int_div (cast_signed w32 a) (cast_signed w32 b))

abbrev pub remainder : ℕ → ℕ → ℕ
remainder a b = if b == 0 then a else cast_unsigned w32 (int_rem (cast_signed w32 a) (cast_signed w32 b))

abbrev pub quotient_unsigned : ℕ → ℕ → ℕ
quotient_unsigned a b = if b == 0 then 2 ^ 32 - 1 else a / b

abbrev pub remainder_unsigned : ℕ → ℕ → ℕ
remainder_unsigned a b = if b == 0 then a else a % b
