-- Where the quotient and the remainder of two ints are undefined.
use Rattle.std.proofs.Common.{◌≡◌, ℕ, zero, suc, ◌^◌, ◌/◌, ◌<◌, ◌≤◌, inl, ◌↔◌, ℤ, pos, negsuc, true, false, refl, arith}
use Rattle.std.specs.Prelude.{FitsSigned, neg_ℤ, int_div}
use Rattle.std.specs.Int.{w32}
use Rattle.std.specs.Ordering.{int_eq}
use Rattle.std.proofs.lemmas.Bool.Decides.{nat_tests}
use Rattle.std.proofs.lemmas.Nat.{div_below}
use Rattle.std.proofs.Math.Nat.{div-le_self, div-one}
use Rattle.lay_base.specs.Operators.{is_int, is_divisible, IsUndefinedDivision}

not_zero : (m : ℕ) → int_eq (pos (suc m)) (pos 0) ≡ false
not_zero m = grind (arith, nat_tests)

above : (x : ℕ) → x < 2 ^ 31 → is_int (pos x) ≡ true
above x h = grind (arith, nat_tests)

below : (x : ℕ) → x ≤ 2 ^ 31 → is_int (neg_ℤ (pos x)) ≡ true
below zero h = refl
below (suc n) h = grind (arith, nat_tests)

defined : (a b : ℤ) → int_eq b (pos 0) ≡ false → is_int (int_div a b) ≡ true → (IsUndefinedDivision a b → ⊥)
    → (is_divisible a b ≡ false) ↔ IsUndefinedDivision a b
defined a b e f not_so =
    let divides : is_divisible a b ≡ true = rw (e, f) in
    (λ g. absurd (let h : is_divisible a b ≡ false = g in cc), λ u. absurd (not_so u))

at_one : (n : ℕ) → n < 2 ^ 31 → (is_divisible (negsuc n) (negsuc 0) ≡ false) ↔ IsUndefinedDivision (negsuc n) (negsuc 0)
at_one n h = rw (div-one (suc n)) (grind (arith, nat_tests))

pub undefined_divisions : (a b : ℤ) → FitsSigned w32 a → FitsSigned w32 b → (is_divisible a b ≡ false) ↔ IsUndefinedDivision a b
undefined_divisions a (pos zero) f g = (λ _. inl refl, λ _. refl)
undefined_divisions (pos n) (pos (suc m)) f g =
    defined (pos n) (pos (suc m)) (not_zero m) (above (n / suc m) (omega (arith, div-le_self n (suc m)))) (λ u. grind arith)
undefined_divisions (negsuc n) (pos (suc m)) f g =
    defined (negsuc n) (pos (suc m)) (not_zero m) (below (suc n / suc m) (omega (arith, div-le_self (suc n) (suc m)))) (λ u. grind arith)
undefined_divisions (pos n) (negsuc m) f g =
    defined (pos n) (negsuc m) refl (below (n / suc m) (omega (arith, div-le_self n (suc m)))) (λ u. grind arith)
undefined_divisions (negsuc n) (negsuc zero) f g = at_one n f.sfits
undefined_divisions (negsuc n) (negsuc (suc m)) f g =
    defined (negsuc n) (negsuc (suc m)) refl
    (above (suc n / suc (suc m)) (div_below (suc n) (suc (suc m)) (2 ^ 31) (omega arith) (omega arith))) (λ u. grind arith)
