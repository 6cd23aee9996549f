-- The value of an integer constant expression is kept in 32 bits (C99 6.6).
use Rattle.std.proofs.Common.{◌≡◌, ℕ, zero, suc, ◌+◌, ◌-◌, ◌*◌, ◌/◌, ◌%◌, ◌^◌, ◌≤◌, ◌<◌, Bool, true, false, refl, subst, cond, arith}
use Rattle.std.proofs.lemmas.Bool.{and_parts}
use Rattle.std.proofs.lemmas.Bool.Decides.{nat_tests}
use Rattle.std.proofs.lemmas.Int.{rem_below, ints}
use Rattle.std.proofs.lemmas.Nat.{or_lt, xor_lt, and_le_l}
use Rattle.std.proofs.Math.Nat.{div-le_self, mod-le}
use Rattle.std.specs.Prelude.{Option, Some, None, nat_lt, ◌==◌, not, bit_and, bit_or, bit_xor, ℤ, pos, negsuc, int_div, int_rem, int_le, unsigned_abs}
use Rattle.std.specs.Bool.{then_some}
use Rattle.std.specs.Option.{option_map}
use Rattle.std.specs.Int.{w32, cast_signed, cast_unsigned, int_shr}
use Rattle.std.specs.Ordering.{int_eq}
use Rattle.lay_base.specs.Operators.{is_int, is_divisible, shifted_left, shifted_right, arithmetic_shift}
use Rattle.lay_base.specs.declared.place.Place.{Place}
use Rattle.c_types.specs.declared.ty.IntKind.{IntKind}
use Rattle.c_types.specs.declared.ty.IntKind.TheVariants.{Char, SChar, UChar, Short, UShort, Int, UInt, Long, ULong}
use Rattle.c_types.specs.Types.{CType, void, integer, pointer, array, function, structure}
use Rattle.c_typed.specs.declared.operators.UnaryOp.{UnaryOp}
use Rattle.c_typed.specs.declared.operators.UnaryOp.TheVariants.{Plus, Minus, Complement}
use Rattle.c_typed.specs.declared.operators.BinaryOp.{BinaryOp}
use Rattle.c_typed.specs.declared.operators.BinaryOp.TheVariants.{Multiply, Divide, Remainder, Add, Subtract, ShiftLeft, ShiftRight, BitAnd, BitXor, BitOr}
use Rattle.c_typed.specs.Trees as Trees
use Rattle.c_typed.specs.Trees.{Expression, expression, Node}
use Rattle.c_typed.specs.Arithmetic.{divided, remaining, binary_value}
use Rattle.c_typed.specs.Conversions.{as_kind, number_of, is_signed}
use Rattle.c_typed.specs.Constants.{Constant, none, undefined, valued, of_value, converted_constant, unary_constant, with_both, decided_by, chosen}
use Rattle.c_typed.specs.Constants.{negated, constant_of, constant_in}
use Rattle.c_typed.specs.Typed.{Declared, IsTyped, IsTypedNode}

abbrev IsBelow : ℕ → Type 0
IsBelow v = v < 2 ^ 32

-- ---- conversions

extended_below : (bits n : ℕ) (b : Bool) → bits ≤ 2 ^ 16 → n < bits → cond b n (n + (2 ^ 32 - bits)) < 2 ^ 32
extended_below bits n true h l = omega (arith, h, l)
extended_below bits n false h l = omega (arith, h, l)

pub kind_below : (kind : IntKind) (v : ℕ) → as_kind kind v < 2 ^ 32
kind_below Char v = omega arith
kind_below SChar v = extended_below (2 ^ 8) (v % 2 ^ 8) (nat_lt (v % 2 ^ 8) (2 ^ 7)) (omega arith) (omega arith)
kind_below UChar v = omega arith
kind_below Short v = extended_below (2 ^ 16) (v % 2 ^ 16) (nat_lt (v % 2 ^ 16) (2 ^ 15)) (omega arith) (omega arith)
kind_below UShort v = omega arith
kind_below Int v = omega arith
kind_below UInt v = omega arith
kind_below Long v = omega arith
kind_below ULong v = omega arith

-- ---- operators

pub some_below : (o : Option ℕ) (v : ℕ) → ((w : ℕ) → o ≡ Some w → IsBelow w) → of_value o ≡ valued v → IsBelow v
some_below None v h e = cc
some_below (Some w) v h e = let f : w ≡ v = cc in subst IsBelow f (h w refl)

same_some : {X : Type 0} (x y : X) → Some x ≡ Some y → x ≡ y
same_some x y e = cc

then_below : (b : Bool) (n v : ℕ) → (b ≡ true → IsBelow n) → then_some b n ≡ Some v → IsBelow v
then_below true n v h e = subst IsBelow (same_some n v e) (h refl)
then_below false n v h e = cc

-- the bits of an int
int_below : (z : ℤ) → is_int z ≡ true → cast_unsigned w32 z < 2 ^ 32
int_below (pos n) h = let p = and_parts (int_le (negsuc (2 ^ 31 - 1)) (pos n)) (int_le (pos n) (pos (2 ^ 31 - 1))) h in grind (arith, nat_tests)
int_below (negsuc n) h = omega arith

abs_below : (z : ℤ) → unsigned_abs z < 2 ^ 31 + 1 → cast_unsigned w32 z < 2 ^ 32
abs_below (pos n) h = omega (arith, h)
abs_below (negsuc n) h = omega arith

signed_abs : (v : ℕ) → unsigned_abs (cast_signed w32 v) < 2 ^ 31 + 1
signed_abs v = omega (arith, ints)

quotient_below : (b : Bool) (z : ℤ) (v : ℕ) → (b ≡ true → is_int z ≡ true) → option_map (cast_unsigned w32) (then_some b z) ≡ Some v → IsBelow v
quotient_below true z v h e = subst IsBelow (same_some (cast_unsigned w32 z) v e) (int_below z (h refl))
quotient_below false z v h e = cc

remainder_below : (b : Bool) (y z : ℤ) (v : ℕ) → (b ≡ true → IsBelow (cast_unsigned w32 z)) → option_map (cast_unsigned w32) (then_some b z) ≡ Some v
    → IsBelow v
remainder_below true y z v h e = subst IsBelow (same_some (cast_unsigned w32 z) v e) (h refl)
remainder_below false y z v h e = cc

divided_below : (signed : Bool) (v w r : ℕ) → IsBelow v → divided signed v w ≡ Some r → IsBelow r
divided_below true v w r h e =
    let a : ℤ = cast_signed w32 v in
    let b : ℤ = cast_signed w32 w in
    quotient_below (is_divisible a b) (int_div a b) r (λ d. (and_parts (not (int_eq b (pos 0))) (is_int (int_div a b)) d).1) e
divided_below false v w r h e = then_below (not (w == 0)) (v / w) r (λ d. omega (arith, h, div-le_self v w)) e

not_zero_abs : (z : ℤ) → not (int_eq z (pos 0)) ≡ true → 0 < unsigned_abs z
not_zero_abs (pos zero) h = cc
not_zero_abs (pos (suc n)) h = omega arith
not_zero_abs (negsuc n) h = omega arith

remaining_below : (signed : Bool) (v w r : ℕ) → IsBelow v → remaining signed v w ≡ Some r → IsBelow r
remaining_below true v w r h e =
    let a : ℤ = cast_signed w32 v in
    let b : ℤ = cast_signed w32 w in
    remainder_below (is_divisible a b) b (int_rem a b) r
    (λ d. let n = not_zero_abs b (and_parts (not (int_eq b (pos 0))) (is_int (int_div a b)) d).0 in
    abs_below (int_rem a b) (omega (arith, rem_below a b n, signed_abs w))) e
remaining_below false v w r h e = then_below (not (w == 0)) (v % w) r (λ d. omega (arith, h, mod-le v w)) e

left_below : (v : ℕ) (by : ℤ) (r : ℕ) → shifted_left v by ≡ Some r → IsBelow r
left_below v (pos n) r e = then_below (nat_lt n 32) (v * 2 ^ n % 2 ^ 32) r (λ d. omega arith) e
left_below v (negsuc n) r e = cc

shift_below : (z : ℤ) (n : ℕ) → unsigned_abs z < 2 ^ 31 + 1 → cast_unsigned w32 (int_shr z n) < 2 ^ 32
shift_below (pos m) n h = omega (arith, h, div-le_self m (2 ^ n))
shift_below (negsuc m) n h = omega arith

arithmetic_below : (v n : ℕ) → arithmetic_shift v n < 2 ^ 32
arithmetic_below v n = shift_below (cast_signed w32 v) n (signed_abs v)

shifted_below : (b : Bool) (v n : ℕ) → IsBelow v → cond b (arithmetic_shift v n) (v / 2 ^ n) < 2 ^ 32
shifted_below true v n h = arithmetic_below v n
shifted_below false v n h = omega (arith, h, div-le_self v (2 ^ n))

right_below : (v : ℕ) (by : ℤ) (signed : Bool) (r : ℕ) → IsBelow v → shifted_right v by signed ≡ Some r → IsBelow r
right_below v (pos n) signed r h e = then_below (nat_lt n 32) _ r (λ d. shifted_below signed v n h) e
right_below v (negsuc n) signed r h e = cc

pub binary_below : (op : BinaryOp) (kind : IntKind) (v : ℕ) (right : IntKind) (w r : ℕ) → IsBelow v → IsBelow w → binary_value op kind v right w ≡ Some r
    → IsBelow r
binary_below Multiply kind v right w r h k e = subst IsBelow (same_some (v * w % 2 ^ 32) r e) (omega arith)
binary_below Divide kind v right w r h k e = divided_below (is_signed kind) v w r h e
binary_below Remainder kind v right w r h k e = remaining_below (is_signed kind) v w r h e
binary_below Add kind v right w r h k e = subst IsBelow (same_some ((v + w) % 2 ^ 32) r e) (omega arith)
binary_below Subtract kind v right w r h k e = subst IsBelow (same_some ((v + (2 ^ 32 - w)) % 2 ^ 32) r e) (omega arith)
binary_below ShiftLeft kind v right w r h k e = left_below v (number_of right w) r e
binary_below ShiftRight kind v right w r h k e = right_below v (number_of right w) (is_signed kind) r h e
binary_below BitAnd kind v right w r h k e = subst IsBelow (same_some (bit_and v w) r e) (omega (arith, h, and_le_l v w))
binary_below BitXor kind v right w r h k e = subst IsBelow (same_some (bit_xor v w) r e) (xor_lt 32 v w h k)
binary_below BitOr kind v right w r h k e = subst IsBelow (same_some (bit_or v w) r e) (or_lt 32 v w h k)

-- ---- of an expression

both_below : (c d : Constant) (f : ℕ → ℕ → Constant) (r : ℕ) → ((v w : ℕ) → c ≡ valued v → d ≡ valued w → f v w ≡ valued r → IsBelow r)
    → with_both c d f ≡ valued r → IsBelow r
both_below none d f r h e = cc
both_below undefined none f r h e = cc
both_below undefined undefined f r h e = cc
both_below undefined (valued w) f r h e = cc
both_below (valued v) none f r h e = cc
both_below (valued v) undefined f r h e = cc
both_below (valued v) (valued w) f r h e = h v w refl refl e

same_valued : (v w : ℕ) → valued v ≡ valued w → v ≡ w
same_valued v w e = cc

is_below : (v w : ℕ) → valued v ≡ valued w → IsBelow v → IsBelow w
is_below v w e h = subst IsBelow (same_valued v w e) h

truth_below : (b : Bool) → IsBelow (cond b 1 0)
truth_below true = omega arith
truth_below false = omega arith

zero_one_below : (b : Bool) → IsBelow (cond b 0 1)
zero_one_below true = omega arith
zero_one_below false = omega arith

decided_below : (deciding : Bool) (c d : Constant) (r : ℕ) → decided_by deciding c d ≡ valued r → IsBelow r
decided_below b none d r e = cc
decided_below b undefined none r e = cc
decided_below b undefined undefined r e = cc
decided_below b undefined (valued w) r e = cc
decided_below b (valued v) none r e = cc
decided_below true (valued zero) undefined r e = cc
decided_below true (valued zero) (valued w) r e = is_below _ r e (zero_one_below (w == 0))
decided_below true (valued (suc v)) undefined r e = is_below 1 r e (omega arith)
decided_below true (valued (suc v)) (valued w) r e = is_below 1 r e (omega arith)
decided_below false (valued zero) undefined r e = is_below 0 r e (omega arith)
decided_below false (valued zero) (valued w) r e = is_below 0 r e (omega arith)
decided_below false (valued (suc v)) undefined r e = cc
decided_below false (valued (suc v)) (valued w) r e = is_below _ r e (zero_one_below (w == 0))

negated_below : (c : Constant) (r : ℕ) → negated c ≡ valued r → IsBelow r
negated_below none r e = cc
negated_below undefined r e = cc
negated_below (valued v) r e = is_below _ r e (truth_below (v == 0))

chosen_below : (c d f : Constant) (r : ℕ) → ((v : ℕ) → d ≡ valued v → IsBelow v) → ((v : ℕ) → f ≡ valued v → IsBelow v) → chosen c d f ≡ valued r → IsBelow r
chosen_below none d f r h k e = cc
chosen_below undefined none f r h k e = cc
chosen_below undefined undefined none r h k e = cc
chosen_below undefined undefined undefined r h k e = cc
chosen_below undefined undefined (valued w) r h k e = cc
chosen_below undefined (valued v) none r h k e = cc
chosen_below undefined (valued v) undefined r h k e = cc
chosen_below undefined (valued v) (valued w) r h k e = cc
chosen_below (valued u) none f r h k e = cc
chosen_below (valued u) undefined none r h k e = cc
chosen_below (valued u) (valued v) none r h k e = cc
chosen_below (valued zero) undefined undefined r h k e = cc
chosen_below (valued zero) undefined (valued w) r h k e = k r e
chosen_below (valued zero) (valued v) undefined r h k e = cc
chosen_below (valued zero) (valued v) (valued w) r h k e = k r e
chosen_below (valued (suc u)) undefined undefined r h k e = cc
chosen_below (valued (suc u)) undefined (valued w) r h k e = cc
chosen_below (valued (suc u)) (valued v) undefined r h k e = h r e
chosen_below (valued (suc u)) (valued v) (valued w) r h k e = h r e

converted_below : (t : CType) (c : Constant) (r : ℕ) → converted_constant t c ≡ valued r → IsBelow r
converted_below (integer kind) (valued v) r e = is_below (as_kind kind v) r e (kind_below kind v)
converted_below (integer kind) none r e = cc
converted_below (integer kind) undefined r e = cc
converted_below void c r e = cc
converted_below (pointer t) c r e = cc
converted_below (array t n) c r e = cc
converted_below (function t all) c r e = cc
converted_below (structure k) c r e = cc

unary_below : (op : UnaryOp) (c : Constant) (r : ℕ) → ((v : ℕ) → c ≡ valued v → IsBelow v) → unary_constant op c ≡ valued r → IsBelow r
unary_below op none r h e = cc
unary_below op undefined r h e = cc
unary_below Plus (valued v) r h e = h r e
unary_below Minus (valued v) r h e = is_below ((2 ^ 32 - v) % 2 ^ 32) r e (omega arith)
unary_below Complement (valued v) r h e = is_below (2 ^ 32 - 1 - v) r e (omega arith)

module _ (d : Declared) where
  mutual
    pub constant_below : (e : Expression CType) (r : ℕ) → IsTyped d e → constant_of e ≡ valued r → IsBelow r
    constant_below (expression t at node) r h e = node_below t at node r h e

    node_below : (t : CType) (at : Place) (node : Node CType) (r : ℕ) → IsTypedNode d t at node → constant_in t node ≡ valued r → IsBelow r
    node_below t at (Trees.constant v) r h e = is_below v r e (subst IsBelow h.2 (kind_below h.0 v))
    node_below t at (Trees.convert x written) r h e = converted_below t (constant_of x) r e
    node_below t at (Trees.unary op x) r h e = unary_below op (constant_of x) r (λ v e. constant_below x v h.0 e) e
    node_below t at (Trees.binary op x y) r h e =
        both_below (constant_of x) (constant_of y) _ r
        (λ v w p q e. some_below _ r (λ z g. binary_below op _ v _ w z (constant_below x v h.0 p) (constant_below y w h.1 q) g) e) e
    node_below t at (Trees.compare op x y) r h e =
        both_below (constant_of x) (constant_of y) _ r (λ v w p q e. is_below _ r e (truth_below _)) e
    node_below t at (Trees.both x y) r h e = decided_below false (constant_of x) (constant_of y) r e
    node_below t at (Trees.either x y) r h e = decided_below true (constant_of x) (constant_of y) r e
    node_below t at (Trees.not x) r h e = negated_below (constant_of x) r e
    node_below t at (Trees.choose x y z) r h e =
        chosen_below (constant_of x) (constant_of y) (constant_of z) r (λ v e. constant_below y v h.1 e) (λ v e. constant_below z v h.2 e) e
    node_below t at node r h e = cc
