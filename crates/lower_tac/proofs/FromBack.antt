-- Lists that are walked from the back.
use Rattle.std.specs.Prelude.{min}
use Rattle.c_typed.specs.Views.{arm_of, arms_of}
use Rattle.c_typed.specs.declared.statement.Arm.{Arm}
use Rattle.tac_ir.specs.declared.step.Operand.{Operand}
use Rattle.tac_ir.specs.declared.step.Target.{Target}
use Rattle.lower_tac.specs.Parts.{Steps}
use Rattle.lower_tac.specs.Statements.{dispatch_code}
use Rattle.std.proofs.Common.{◌≡◌, ◌+◌, ◌<◌, ℕ, zero, suc, List, [], ◌∷◌, length, map, drop, get_or, refl, add-one, arith, drop-cons}

pub at_end : {X : Type 0} (xs : List X) → drop (length xs) xs ≡ []
at_end [] = refl
at_end (x ∷ xs) = at_end xs

pub one_more : {X : Type 0} (xs : List X) (k n : ℕ) (d : X) → n ≡ k + 1 → k < length xs → drop k xs ≡ get_or xs k d ∷ drop n xs
one_more xs k n d e h = rw (e, add-one) (drop-cons xs k d h)

pub none_left : (a : Operand) (arms : List (Arm ℕ)) (starts : List Target) (n : ℕ) (code : Steps) → n ≡ min (length arms) (length starts)
    → dispatch_code a (arms_of (map arm_of (drop n arms))) (drop n starts) code ≡ code
none_left a [] starts zero code e = refl
none_left a [] starts (suc n) code e = absurd (omega arith)
none_left a (x ∷ arms) [] zero code e = refl
none_left a (x ∷ arms) [] (suc n) code e = absurd (omega arith)
none_left a (x ∷ arms) (s ∷ starts) zero code e = absurd (omega arith)
none_left a (x ∷ arms) (s ∷ starts) (suc n) code e = none_left a arms starts n code (omega arith)
