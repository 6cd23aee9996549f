-- Numbers of so many bits, with and without a sign (RISC-V unprivileged specification, RV32I:
-- signed numbers are in two's complement).
use Rattle.std.specs.Prelude.{ℕ, ◌-◌, ◌%◌, ◌^◌, nat_lt, if◌then◌else◌, ℤ, pos, negsuc, suc}
use Rattle.std.specs.Int.{w32, cast_unsigned}

-- a number of so many bits as a signed one
abbrev pub signed : (bits n : ℕ) → ℤ
signed bits n = if nat_lt n (2 ^ (bits - 1)) then pos n else negsuc (2 ^ bits - suc n)

-- the low bits of a signed number
abbrev pub low_bits : (bits : ℕ) → ℤ → ℕ
low_bits bits z = cast_unsigned w32 z % 2 ^ bits
