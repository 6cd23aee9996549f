-- An immediate and its low bits determine each other.
use Rattle.std.proofs.Common.{◌≡◌, ℕ, suc, ◌-◌, ◌%◌, ◌^◌, ◌<◌, ◌≤◌, ltb, ℤ, pos, negsuc, ap, arith}
use Rattle.std.proofs.lemmas.Bool.{cond_both, ltb-true, ltb-false}
use Rattle.std.proofs.lemmas.Int.{ints}
use Rattle.rv_isa.specs.Encoding.{IsShort, IsAmount, IsBranchDistance, IsDistance}
use Rattle.rv_isa.specs.TwosComplement.{signed, low_bits}

-- by the sign bit
by_sign : (P : ℤ → Type 0) (bits n : ℕ) → (n < 2 ^ (bits - 1) → P (pos n)) → (2 ^ (bits - 1) ≤ n → P (negsuc (2 ^ bits - suc n))) → P (signed bits n)
by_sign P bits n low high = cond_both (ltb n (2 ^ (bits - 1))) _ _ P (λ e. low (ltb-true _ _ e)) (λ e. high (ltb-false _ _ e))

-- ---- 12 bits

-- the number is read from its bits again
pub short_again : (imm : ℤ) → IsShort imm → signed 12 (low_bits 12 imm) ≡ imm
short_again (pos n) s = by_sign (λ z. z ≡ pos n) 12 (low_bits 12 (pos n)) (λ l. omega (arith, ints)) (λ h. absurd (omega (arith, ints)))
short_again (negsuc n) s = by_sign (λ z. z ≡ negsuc n) 12 (low_bits 12 (negsuc n)) (λ l. absurd (omega (arith, ints))) (λ h. omega (arith, ints))

-- the bits of the number that they are read as
pub short_bits : (n : ℕ) → n < 2 ^ 12 → low_bits 12 (signed 12 n) ≡ n
short_bits n lt = by_sign (λ z. low_bits 12 z ≡ n) 12 n (λ l. omega arith) (λ h. omega arith)

-- each 12 bits are a number in range
pub short_fits : (n : ℕ) → n < 2 ^ 12 → IsShort (signed 12 n)
short_fits n lt = by_sign IsShort 12 n (λ l. (omega (arith, ints), omega (arith, ints))) (λ h. (omega (arith, ints), omega (arith, ints)))

-- ---- the amount of a shift

pub amount_again : (imm : ℤ) → IsAmount imm → pos (low_bits 5 imm) ≡ imm
amount_again (pos n) a = ap pos (omega (arith, ints))
amount_again (negsuc n) a = absurd (omega (arith, ints))

pub amount_fits : (n : ℕ) → n < 2 ^ 5 → IsAmount (pos n)
amount_fits n lt = (omega (arith, ints), omega (arith, ints))

-- ---- 13 bits

-- the distance is read from its bits again
pub branch_again : (imm : ℤ) → IsBranchDistance imm → signed 13 (low_bits 13 imm) ≡ imm
branch_again (pos n) d = by_sign (λ z. z ≡ pos n) 13 (low_bits 13 (pos n)) (λ l. omega (arith, ints)) (λ h. absurd (omega (arith, ints)))
branch_again (negsuc n) d = by_sign (λ z. z ≡ negsuc n) 13 (low_bits 13 (negsuc n)) (λ l. absurd (omega (arith, ints))) (λ h. omega (arith, ints))

-- the bits of the distance that they are read as
pub branch_bits : (n : ℕ) → n < 2 ^ 13 → low_bits 13 (signed 13 n) ≡ n
branch_bits n lt = by_sign (λ z. low_bits 13 z ≡ n) 13 n (λ l. omega arith) (λ h. omega arith)

-- each 13 bits, the lowest of them 0, are a distance in range
pub branch_fits : (n : ℕ) → n < 2 ^ 13 → n % 2 ≡ 0 → IsBranchDistance (signed 13 n)
branch_fits n lt even =
    by_sign IsBranchDistance 13 n (λ l. (omega (arith, ints), omega (arith, ints), omega arith))
    (λ h. (omega (arith, ints), omega (arith, ints), omega arith))

-- ---- 21 bits

-- the distance is read from its bits again
pub distance_again : (imm : ℤ) → IsDistance imm → signed 21 (low_bits 21 imm) ≡ imm
distance_again (pos n) d = by_sign (λ z. z ≡ pos n) 21 (low_bits 21 (pos n)) (λ l. omega (arith, ints)) (λ h. absurd (omega (arith, ints)))
distance_again (negsuc n) d = by_sign (λ z. z ≡ negsuc n) 21 (low_bits 21 (negsuc n)) (λ l. absurd (omega (arith, ints))) (λ h. omega (arith, ints))

-- the bits of the distance that they are read as
pub distance_bits : (n : ℕ) → n < 2 ^ 21 → low_bits 21 (signed 21 n) ≡ n
distance_bits n lt = by_sign (λ z. low_bits 21 z ≡ n) 21 n (λ l. omega arith) (λ h. omega arith)

-- each 21 bits, the lowest of them 0, are a distance in range
pub distance_fits : (n : ℕ) → n < 2 ^ 21 → n % 2 ≡ 0 → IsDistance (signed 21 n)
distance_fits n lt even =
    by_sign IsDistance 21 n (λ l. (omega (arith, ints), omega (arith, ints), omega arith))
    (λ h. (omega (arith, ints), omega (arith, ints), omega arith))
