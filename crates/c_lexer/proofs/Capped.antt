-- Values of digits that are kept from growing as they are read.
use Rattle.std.proofs.Common.{◌≡◌, ℕ, ◌+◌, ◌*◌, ◌≤◌, ◌<◌, ◌^◌, min, List, [], ◌∷◌, fold, refl, ap, ◌∙◌, arith, le-mul_of_pos_right, ⊎_elim}
use Rattle.std.proofs.lemmas.Bool.{cases_lt}
use Rattle.c_tokens.specs.Characters.{digit_value, value_of_digits}
use Rattle.c_lexer.specs.NumberScan.{capped_value}

-- one digit more, after a number that was kept at `most` where it is greater
step_capped : (base n v most : ℕ) → 1 ≤ base → min (base * min n most + v) most ≡ min (base * n + v) most
step_capped base n v most h = ⊎_elim within beyond (cases_lt n most)
  where
    within : n < most → min (base * min n most + v) most ≡ min (base * n + v) most
    within less = let e : min n most ≡ n = omega arith in rw e refl

    beyond : most ≤ n → min (base * min n most + v) most ≡ min (base * n + v) most
    beyond more = let e : min n most ≡ most = omega arith in rw e (omega (arith, le-mul_of_pos_right {m = base} most h, le-mul_of_pos_right {m = base} n h))

-- the number is kept at `most` at each digit, or once at the end
pub fold_capped : (base n most : ℕ) (digits : List ℕ) → 1 ≤ base → fold (λ n d. min (base * n + digit_value d) most) (min n most) digits
    ≡ min (fold (λ n d. base * n + digit_value d) n digits) most
fold_capped base n most [] h = refl
fold_capped base n most (d ∷ digits) h =
    ap (λ m. fold (λ n d. min (base * n + digit_value d) most) m digits) (step_capped base n (digit_value d) most h)
    ∙ fold_capped base (base * n + digit_value d) most digits h

pub capped_value_is : (base : ℕ) (digits : List ℕ) → 1 ≤ base → capped_value base digits ≡ min (value_of_digits base digits) (2 ^ 32)
capped_value_is base digits h = fold_capped base 0 (2 ^ 32) digits h
