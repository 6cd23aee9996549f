-- Examples of the operators, which compute.
use Rattle.std.specs.Prelude.{◌≡◌, ◌-◌, ◌^◌, pos, negsuc, [], ◌∷◌, Some, None, true, false}
use Rattle.std.proofs.Common.{refl}
use Rattle.lay_base.specs.Operators.{quotient, remainder, shifted_left, shifted_right}

-- -7 is `negsuc 6`, and -2 is `negsuc 1`; the least int is `negsuc (2 ^ 31 - 1)`

-- 7 / 2, -7 / 2, 7 / -2, -7 / -2
quotients : quotient (pos 7) (pos 2) ∷ quotient (negsuc 6) (pos 2) ∷ quotient (pos 7) (negsuc 1) ∷ quotient (negsuc 6) (negsuc 1) ∷ []
    ≡ Some (pos 3) ∷ Some (negsuc 2) ∷ Some (negsuc 2) ∷ Some (pos 3) ∷ []
quotients = refl

-- 7 % 2, -7 % 2, 7 % -2, -7 % -2
remainders : remainder (pos 7) (pos 2) ∷ remainder (negsuc 6) (pos 2) ∷ remainder (pos 7) (negsuc 1) ∷ remainder (negsuc 6) (negsuc 1) ∷ []
    ≡ Some (pos 1) ∷ Some (negsuc 0) ∷ Some (pos 1) ∷ Some (negsuc 0) ∷ []
remainders = refl

-- by 0, and the least int by -1
undefined_quotients : quotient (pos 7) (pos 0) ∷ remainder (pos 7) (pos 0)
    ∷ quotient (negsuc (2 ^ 31 - 1)) (negsuc 0) ∷ remainder (negsuc (2 ^ 31 - 1)) (negsuc 0) ∷ []
    ≡ None ∷ None ∷ None ∷ None ∷ []
undefined_quotients = refl

-- the least int by 1, and the greatest by -1
extreme_quotients : quotient (negsuc (2 ^ 31 - 1)) (pos 1) ∷ quotient (pos (2 ^ 31 - 1)) (negsuc 0) ∷ []
    ≡ Some (negsuc (2 ^ 31 - 1)) ∷ Some (negsuc (2 ^ 31 - 2)) ∷ []
extreme_quotients = refl

-- 3 << 31 loses a bit; amounts of 32 and of -1 are undefined
left_shifts : shifted_left 3 (pos 31) ∷ shifted_left 3 (pos 32) ∷ shifted_left 3 (negsuc 0) ∷ []
    ≡ Some 0x80000000 ∷ None ∷ None ∷ []
left_shifts = refl

-- the least int, and -7, shifted as signed and as unsigned
right_shifts : shifted_right 0x80000000 (pos 31) true ∷ shifted_right 0x80000000 (pos 31) false
    ∷ shifted_right 0xfffffff9 (pos 1) true ∷ shifted_right 0xfffffff9 (pos 1) false ∷ []
    ≡ Some 0xffffffff ∷ Some 1 ∷ Some 0xfffffffc ∷ Some 0x7ffffffc ∷ []
right_shifts = refl

undefined_right_shifts : shifted_right 1 (pos 32) true ∷ shifted_right 1 (negsuc 0) true
    ∷ shifted_right 1 (pos 32) false ∷ shifted_right 1 (negsuc 0) false ∷ []
    ≡ None ∷ None ∷ None ∷ None ∷ []
undefined_right_shifts = refl
