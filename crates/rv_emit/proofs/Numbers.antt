-- What instructions make of words is what C makes of numbers.
use Rattle.std.proofs.Common.{◌≡◌, ◌≢◌, ℕ, zero, suc, ◌+◌, ◌-◌, ◌*◌, ◌/◌, ◌%◌, ◌^◌, ◌<◌, ◌≤◌, inl, inr, Bool, true, false, not, cond, eqb, ltb, Some, ℤ, pos, negsuc}
use Rattle.std.proofs.Common.{refl, ap, sym, ◌∙◌, arith, bit_and, bit_or, bit_xor}
use Rattle.std.specs.Prelude.{int_lt, int_div, int_rem}
use Rattle.std.specs.Ordering.{int_eq}
use Rattle.std.specs.Bool.{then_some}
use Rattle.std.specs.Option.{option_map}
use Rattle.std.specs.Int.{w32, cast_signed, cast_unsigned, int_shr}
use Rattle.std.proofs.lemmas.Bool.{cond_both, cases_eq, cases_lt, ltb-true, ltb-false, eq-eqb, ne_eqb, lt-ltb, le-ltb, not-true, and_parts}
use Rattle.std.proofs.lemmas.Nat.{and_mask, xor_block}
use Rattle.c_types.specs.declared.ty.IntKind.{IntKind}
use Rattle.c_typed.specs.Arithmetic.{truth, unary_value, binary_value, divided, remaining, holds}
use Rattle.c_typed.specs.Arithmetic as C
use Rattle.c_typed.specs.Conversions.{is_signed, number_of, sign_extended}
use Rattle.c_typed.specs.declared.operators.BinaryOp.{BinaryOp}
use Rattle.c_typed.specs.declared.operators.BinaryOp.TheVariants as B
use Rattle.lay_base.specs.Operators.{is_divisible, is_int}
use Rattle.lay_base.specs.Operators as L
use Rattle.rv_isa.specs.Arithmetic as R
use Rattle.rv_isa.specs.Arithmetic.{one_if, extended}

-- ---- numbers of 32 bits in two's complement

pub signed_cases : (P : ℤ → Type 0) (y : ℕ) → (y < 2 ^ 31 → P (pos y)) → (2 ^ 31 ≤ y → P (negsuc (2 ^ 32 - suc y))) → P (cast_signed w32 y)
signed_cases P y low high = cond_both (ltb y (2 ^ 31)) _ _ P (λ e. low (ltb-true _ _ e)) (λ e. high (ltb-false _ _ e))

pub number_cases : (P : ℤ → Type 0) (kind : IntKind) (y : ℕ) → (y < 2 ^ 31 → P (pos y)) → (2 ^ 31 ≤ y → P (negsuc (2 ^ 32 - suc y)))
    → (2 ^ 31 ≤ y → P (pos y)) → P (number_of kind y)
number_cases P kind y low high big =
    cond_both (is_signed kind) _ _ P (λ s. signed_cases P y low high)
    (λ s. elim (cases_lt y (2 ^ 31)) [
      | inl lt ↦ low lt
      | inr le ↦ big le
    ])

-- ---- one operand

pub minus_is : (v : ℕ) → R.difference 0 v ≡ (2 ^ 32 - v) % 2 ^ 32
minus_is v = omega arith

xor_one : (b : Bool) → bit_xor (one_if b) 1 ≡ one_if (not b)
xor_one true = refl
xor_one false = refl

-- with ones, bit by bit: a word is its lowest bit and the others
xor_ones : (k v : ℕ) → v < 2 ^ k → bit_xor v (2 ^ k - 1) ≡ 2 ^ k - 1 - v
xor_ones zero zero lt = refl
xor_ones zero (suc v) lt = absurd (omega arith)
xor_ones (suc k) v lt =
    let p : 2 ^ suc k ≡ 2 * 2 ^ k = omega arith in
    let h = xor_ones k (v / 2) (omega arith) in
    let one : 2 ^ suc k - 1 ≡ (2 ^ k - 1) * 2 ^ 1 + 1 = omega arith in
    let two : v ≡ v / 2 * 2 ^ 1 + v % 2 = omega arith in
    ap (bit_xor v) one ∙ ap (λ (i : ℕ). bit_xor i ((2 ^ k - 1) * 2 ^ 1 + 1)) two ∙ xor_block 1 (v / 2) (2 ^ k - 1) (v % 2) 1 (omega arith) (omega arith)
    ∙ last (v % 2) (omega arith) h refl
  where
    last : (r : ℕ) → r < 2 → bit_xor (v / 2) (2 ^ k - 1) ≡ 2 ^ k - 1 - v / 2 → r ≡ v % 2 → bit_xor (v / 2) (2 ^ k - 1) * 2 ^ 1 + bit_xor r 1 ≡ 2 ^ suc k - 1 - v
    last zero lr h e = omega arith
    last (suc zero) lr h e = omega arith
    last (suc (suc r)) lr h e = absurd (omega arith)

pub complement_is : (v : ℕ) → v < 2 ^ 32 → bit_xor v (extended (negsuc 0)) ≡ 2 ^ 32 - 1 - v
complement_is v lt = xor_ones 32 v lt

-- 1 for 0, else 0
pub is_zero : (v : ℕ) → one_if (ltb v (extended (pos 1))) ≡ truth (eqb v 0)
is_zero v = elim (cases_eq v 0) [
  | inl e ↦ rw (eq-eqb v 0 e, lt-ltb v 1 (omega arith)) refl
  | inr ne ↦ rw (ne_eqb v 0 ne, le-ltb v 1 (omega (arith, positive v ne))) refl
]
  where
    positive : (v : ℕ) → (v ≡ 0 → ⊥) → 0 < v
    positive zero ne = absurd (ne refl)
    positive (suc v) ne = omega arith

pub opposite_is : (b : Bool) → bit_xor (truth b) (extended (pos 1)) ≡ truth (not b)
opposite_is true = refl
opposite_is false = refl

-- ---- conversions

pub low_byte : (v : ℕ) → bit_and v (extended (pos 255)) ≡ v % 2 ^ 8
low_byte v = and_mask v 8

pub low_half : (v : ℕ) → R.shifted_right (R.shifted_left v (extended (pos 16))) (extended (pos 16)) ≡ v % 2 ^ 16
low_half v = omega arith

-- a number shifted up and down again, with its sign
pub byte_extended : (v : ℕ) → R.shifted_right_signed (R.shifted_left v (extended (pos 24))) (extended (pos 24)) ≡ sign_extended 8 v
byte_extended v =
    cond_both (ltb (v % 2 ^ 8) (2 ^ 7)) _ _ (λ (r : ℕ). cast_unsigned w32 (int_shr (cast_signed w32 (v * 2 ^ 24 % 2 ^ 32)) 24) ≡ r)
    (λ e. signed_cases (λ z. cast_unsigned w32 (int_shr z 24) ≡ v % 2 ^ 8) (v * 2 ^ 24 % 2 ^ 32)
    (λ low. omega arith) (λ high. absurd (let d = ltb-true _ _ e in omega arith)))
    (λ e. signed_cases (λ z. cast_unsigned w32 (int_shr z 24) ≡ v % 2 ^ 8 + (2 ^ 32 - 2 ^ 8)) (v * 2 ^ 24 % 2 ^ 32)
    (λ low. absurd (let d = ltb-false _ _ e in omega arith)) (λ high. omega arith))

pub half_extended : (v : ℕ) → R.shifted_right_signed (R.shifted_left v (extended (pos 16))) (extended (pos 16)) ≡ sign_extended 16 v
half_extended v =
    cond_both (ltb (v % 2 ^ 16) (2 ^ 15)) _ _ (λ (r : ℕ). cast_unsigned w32 (int_shr (cast_signed w32 (v * 2 ^ 16 % 2 ^ 32)) 16) ≡ r)
    (λ e. signed_cases (λ z. cast_unsigned w32 (int_shr z 16) ≡ v % 2 ^ 16) (v * 2 ^ 16 % 2 ^ 32)
    (λ low. omega arith) (λ high. absurd (let d = ltb-true _ _ e in omega arith)))
    (λ e. signed_cases (λ z. cast_unsigned w32 (int_shr z 16) ≡ v % 2 ^ 16 + (2 ^ 32 - 2 ^ 16)) (v * 2 ^ 16 % 2 ^ 32)
    (λ low. absurd (let d = ltb-false _ _ e in omega arith)) (λ high. omega arith))

-- ---- operators on two numbers

then_is : {A : Type 0} (t : Bool) (x r : A) → then_some t x ≡ Some r → (t ≡ true) × (x ≡ r)
then_is true x r e = (refl, cc)
then_is false x r e = absurd cc

map_then : (t : Bool) (z : ℤ) (r : ℕ) → option_map (cast_unsigned w32) (then_some t z) ≡ Some r → (t ≡ true) × (cast_unsigned w32 z ≡ r)
map_then true z r e = (refl, cc)
map_then false z r e = absurd cc

not_zero : (w : ℕ) → not (int_eq (cast_signed w32 w) (pos 0)) ≡ true → w ≢ 0
not_zero w e z = (let d : not (int_eq (cast_signed w32 w) (pos 0)) ≡ false = ap (λ (i : ℕ). not (int_eq (cast_signed w32 i) (pos 0))) z in absurd cc)

abbrev pub operator : BinaryOp → IntKind → ℕ → ℕ → ℕ
operator B.Multiply kind = R.product
operator B.Divide kind = cond (is_signed kind) R.quotient R.quotient_unsigned
operator B.Remainder kind = cond (is_signed kind) R.remainder R.remainder_unsigned
operator B.Add kind = R.sum
operator B.Subtract kind = R.difference
operator B.ShiftLeft kind = R.shifted_left
operator B.ShiftRight kind = cond (is_signed kind) R.shifted_right_signed R.shifted_right
operator B.BitAnd kind = bit_and
operator B.BitXor kind = bit_xor
operator B.BitOr kind = bit_or

same : (v r : ℕ) → Some v ≡ Some r → v ≡ r
same v r e = cc

divided_is : (signed : Bool) (v w r : ℕ) → divided signed v w ≡ Some r → cond signed R.quotient R.quotient_unsigned v w ≡ r
divided_is true v w r e =
    let a = cast_signed w32 v in
    let b = cast_signed w32 w in
    let h = map_then (is_divisible a b) (int_div a b) r e in
    let ne = not_zero w (and_parts (not (int_eq b (pos 0))) (is_int (int_div a b)) h.0).0 in
    ap (λ (t : Bool). cond t (2 ^ 32 - 1) (cast_unsigned w32 (int_div a b))) (ne_eqb w 0 ne) ∙ h.1
divided_is false v w r e =
    let h = then_is (not (eqb w 0)) (v / w) r e in
    ap (λ (t : Bool). cond t (2 ^ 32 - 1) (v / w)) (not-true (eqb w 0) h.0) ∙ h.1

remaining_is : (signed : Bool) (v w r : ℕ) → remaining signed v w ≡ Some r → cond signed R.remainder R.remainder_unsigned v w ≡ r
remaining_is true v w r e =
    let a = cast_signed w32 v in
    let b = cast_signed w32 w in
    let h = map_then (is_divisible a b) (int_rem a b) r e in
    let ne = not_zero w (and_parts (not (int_eq b (pos 0))) (is_int (int_div a b)) h.0).0 in
    ap (λ (t : Bool). cond t v (cast_unsigned w32 (int_rem a b))) (ne_eqb w 0 ne) ∙ h.1
remaining_is false v w r e =
    let h = then_is (not (eqb w 0)) (v % w) r e in
    ap (λ (t : Bool). cond t v (v % w)) (not-true (eqb w 0) h.0) ∙ h.1

-- an amount of a shift is its low five bits
amount : (w : ℕ) → ltb w 32 ≡ true → w % 2 ^ 5 ≡ w
amount w e = (let d = ltb-true _ _ e in omega arith)

left_is : (v : ℕ) (right : IntKind) (w r : ℕ) → L.shifted_left v (number_of right w) ≡ Some r → R.shifted_left v w ≡ r
left_is v right w r e =
    number_cases (λ z. L.shifted_left v z ≡ Some r → R.shifted_left v w ≡ r) right w (λ low e. by_amount e) (λ high e. absurd cc) (λ high e. by_amount e) e
  where
    by_amount : then_some (ltb w 32) (v * 2 ^ w % 2 ^ 32) ≡ Some r → R.shifted_left v w ≡ r
    by_amount e = (let h = then_is (ltb w 32) (v * 2 ^ w % 2 ^ 32) r e in ap (λ (k : ℕ). v * 2 ^ k % 2 ^ 32) (amount w h.0) ∙ h.1)

right_is : (v : ℕ) (right : IntKind) (w r : ℕ) (signed : Bool) → L.shifted_right v (number_of right w) signed ≡ Some r
    → cond signed R.shifted_right_signed R.shifted_right v w ≡ r
right_is v right w r signed e =
    number_cases (λ z. L.shifted_right v z signed ≡ Some r → cond signed R.shifted_right_signed R.shifted_right v w ≡ r) right w (λ low e. by_amount signed e)
    (λ high e. absurd cc) (λ high e. by_amount signed e) e
  where
    by_amount : (signed : Bool) → then_some (ltb w 32) (cond signed (L.arithmetic_shift v w) (v / 2 ^ w)) ≡ Some r
        → cond signed R.shifted_right_signed R.shifted_right v w ≡ r
    by_amount true e =
        (let h = then_is (ltb w 32) (L.arithmetic_shift v w) r e in ap (λ (k : ℕ). cast_unsigned w32 (int_shr (cast_signed w32 v) k)) (amount w h.0) ∙ h.1)
    by_amount false e = (let h = then_is (ltb w 32) (v / 2 ^ w) r e in ap (λ (k : ℕ). v / 2 ^ k) (amount w h.0) ∙ h.1)

pub operator_is : (op : BinaryOp) (kind right : IntKind) (v w r : ℕ) → binary_value op kind v right w ≡ Some r → operator op kind v w ≡ r
operator_is B.Multiply kind right v w r e = same _ r e
operator_is B.Divide kind right v w r e = divided_is (is_signed kind) v w r e
operator_is B.Remainder kind right v w r e = remaining_is (is_signed kind) v w r e
operator_is B.Add kind right v w r e = same _ r e
operator_is B.Subtract kind right v w r e = same _ r e
operator_is B.ShiftLeft kind right v w r e = left_is v right w r e
operator_is B.ShiftRight kind right v w r e = right_is v right w r (is_signed kind) e
operator_is B.BitAnd kind right v w r e = same _ r e
operator_is B.BitXor kind right v w r e = same _ r e
operator_is B.BitOr kind right v w r e = same _ r e

-- ---- order

pub equal_is : (v w : ℕ) → v < 2 ^ 32 → w < 2 ^ 32 → one_if (ltb (R.difference v w) (extended (pos 1))) ≡ truth (eqb v w)
equal_is v w lv lw = is_zero (R.difference v w) ∙ ap truth (elim (cases_eq v w) [
  | inl e ↦ eq-eqb (R.difference v w) 0 (omega arith) ∙ sym (eq-eqb v w e)
  | inr ne ↦ ne_eqb (R.difference v w) 0 (λ d. ne (omega arith)) ∙ sym (ne_eqb v w ne)
])

pub unequal_is : (v w : ℕ) → v < 2 ^ 32 → w < 2 ^ 32 → one_if (ltb 0 (R.difference v w)) ≡ truth (not (eqb v w))
unequal_is v w lv lw = elim (cases_eq v w) [
  | inl e ↦ rw (eq-eqb v w e, le-ltb 0 (R.difference v w) (omega arith)) refl
  | inr ne ↦ rw (ne_eqb v w ne, lt-ltb 0 (R.difference v w) (positive (R.difference v w) (λ d. ne (omega arith)))) refl
]
  where
    positive : (v : ℕ) → (v ≡ 0 → ⊥) → 0 < v
    positive zero ne = absurd (ne refl)
    positive (suc v) ne = omega arith

-- signed or not
abbrev pub below : (signed : Bool) → ℕ → ℕ → Bool
below signed v w = cond signed (R.is_less v w) (ltb v w)

pub less_is : (kind : IntKind) (v w : ℕ) → C.is_less kind v w ≡ below (is_signed kind) v w
less_is kind v w = by_sort (is_signed kind)
  where
    by_sort : (signed : Bool) → int_lt (cond signed (cast_signed w32 v) (pos v)) (cond signed (cast_signed w32 w) (pos w)) ≡ below signed v w
    by_sort true = refl
    by_sort false = refl

-- below 2 ^ 31 both orders are one
pub below_small : (signed : Bool) (v w : ℕ) → v < 2 ^ 31 → w < 2 ^ 31 → below signed v w ≡ ltb v w
below_small true v w lv lw = rw (lt-ltb v (2 ^ 31) lv, lt-ltb w (2 ^ 31) lw) refl
below_small false v w lv lw = refl
