-- What operators make of numbers (C99 6.5.3.3, 6.5.5 to 6.5.12). A number is kept as the 32 bits that stand for it in two's complement;
-- the kind is that of the operands after their conversions.
use Rattle.std.specs.Prelude.{ℕ, ◌+◌, ◌-◌, ◌*◌, ◌/◌, ◌%◌, ◌^◌, ◌==◌, Bool, true, false, not, if◌then◌else◌, int_lt, bit_and, bit_or, bit_xor, Option}
use Rattle.std.specs.Prelude.{Some}
use Rattle.std.specs.Bool.{then_some}
use Rattle.std.specs.Option.{option_map}
use Rattle.std.specs.Int.{w32, cast_signed, cast_unsigned}
use Rattle.lay_base.specs.Operators.{quotient, remainder, shifted_left, shifted_right}
use Rattle.c_types.specs.declared.ty.IntKind.{IntKind}
use Rattle.c_typed.specs.declared.operators.UnaryOp.{UnaryOp}
use Rattle.c_typed.specs.declared.operators.UnaryOp.TheVariants.{Plus, Minus, Complement}
use Rattle.c_typed.specs.declared.operators.BinaryOp.{BinaryOp}
use Rattle.c_typed.specs.declared.operators.BinaryOp.TheVariants.{Multiply, Divide, Remainder, Add, Subtract, ShiftLeft, ShiftRight, BitAnd, BitXor, BitOr}
use Rattle.c_typed.specs.declared.operators.CompareOp.{CompareOp}
use Rattle.c_typed.specs.declared.operators.CompareOp.TheVariants.{Equal, NotEqual, Less, Greater, LessEqual, GreaterEqual}
use Rattle.c_typed.specs.Conversions.{is_signed, number_of}

-- 0 or 1, as an int
abbrev pub truth : Bool → ℕ
truth test = if test then 1 else 0

-- signed arithmetic wraps too (own)
abbrev pub unary_value : UnaryOp → ℕ → ℕ
unary_value Plus v = v
unary_value Minus v = (2 ^ 32 - v) % 2 ^ 32
unary_value Complement v = 2 ^ 32 - 1 - v

-- a quotient and a remainder have no value by zero, and where a signed quotient is no int
abbrev pub divided : Bool → ℕ → ℕ → Option ℕ
divided true v w = option_map (cast_unsigned w32) (quotient (cast_signed w32 v) (cast_signed w32 w))
divided false v w = then_some (not (w == 0)) (v / w)

abbrev pub remaining : Bool → ℕ → ℕ → Option ℕ
remaining true v w = option_map (cast_unsigned w32) (remainder (cast_signed w32 v) (cast_signed w32 w))
remaining false v w = then_some (not (w == 0)) (v % w)

-- none where it is undefined; the right operand of a shift has a kind of its own
abbrev pub binary_value : BinaryOp → (kind : IntKind) → ℕ → (right : IntKind) → ℕ → Option ℕ
binary_value Multiply kind v right w = Some (v * w % 2 ^ 32)
binary_value Divide kind v right w = divided (is_signed kind) v w
binary_value Remainder kind v right w = remaining (is_signed kind) v w
binary_value Add kind v right w = Some ((v + w) % 2 ^ 32)
binary_value Subtract kind v right w = Some ((v + (2 ^ 32 - w)) % 2 ^ 32)
binary_value ShiftLeft kind v right w = shifted_left v (number_of right w)
binary_value ShiftRight kind v right w = shifted_right v (number_of right w) (is_signed kind)
binary_value BitAnd kind v right w = Some (bit_and v w)
binary_value BitXor kind v right w = Some (bit_xor v w)
binary_value BitOr kind v right w = Some (bit_or v w)

abbrev pub is_less : IntKind → ℕ → ℕ → Bool
is_less kind v w = int_lt (number_of kind v) (number_of kind w)

abbrev pub holds : CompareOp → IntKind → ℕ → ℕ → Bool
holds Equal kind v w = v == w
holds NotEqual kind v w = not (v == w)
holds Less kind v w = is_less kind v w
holds Greater kind v w = is_less kind w v
holds LessEqual kind v w = not (is_less kind w v)
holds GreaterEqual kind v w = not (is_less kind v w)
