-- Sums of lesser parts.
use Rattle.std.proofs.Common.{ℕ, ◌+◌, ◌≤◌, arith}

pub less_one : (k : ℕ) {a b : ℕ} → a ≤ b → k + a ≤ k + b
less_one k h = omega (arith, h)

pub less_two : (k : ℕ) {a b c d : ℕ} → a ≤ b → c ≤ d → k + a + c ≤ k + b + d
less_two k h g = omega (arith, h, g)

pub less_three : (k : ℕ) {a b c d x y : ℕ} → a ≤ b → c ≤ d → x ≤ y → k + a + c + x ≤ k + b + d + y
less_three k h g i = omega (arith, h, g, i)
