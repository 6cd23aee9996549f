-- Conversions, arithmetic and constants by computation, with the values that C99 6.3, 6.5 and 6.6 give.
use Rattle.std.proofs.Common.{refl}
use Rattle.std.specs.Prelude.{◌≡◌, ℕ, ◌^◌, ◌-◌, List, [], ◌∷◌, map, Bool, true, false, Option, Some, None, ℤ, pos, negsuc}
use Rattle.lay_base.specs.declared.place.Place.{Place}
use Rattle.c_types.specs.declared.ty.IntKind.{IntKind}
use Rattle.c_types.specs.declared.ty.IntKind.TheVariants.{Char, SChar, UChar, Short, UShort, Int, UInt, Long, ULong}
use Rattle.c_types.specs.Types.{CType, void, integer, pointer, function, no_types}
use Rattle.c_typed.specs.declared.operators.UnaryOp.TheVariants.{Plus, Minus, Complement}
use Rattle.c_typed.specs.declared.operators.BinaryOp.{BinaryOp}
use Rattle.c_typed.specs.declared.operators.BinaryOp.TheVariants.{Multiply, Divide, Remainder, Add, Subtract, ShiftLeft, ShiftRight, BitAnd, BitXor, BitOr}
use Rattle.c_typed.specs.declared.operators.CompareOp.{CompareOp}
use Rattle.c_typed.specs.declared.operators.CompareOp.TheVariants.{Equal, NotEqual, Less, Greater, LessEqual, GreaterEqual}
use Rattle.c_typed.specs.Trees
use Rattle.c_typed.specs.Conversions.{promoted_kind, common_kind, as_kind, number_of}
use Rattle.c_typed.specs.Arithmetic.{unary_value, binary_value, holds}
use Rattle.c_typed.specs.Constants.{Constant, none, undefined, valued, constant_of, is_null}

-- ---- conversions (6.3.1.1, 6.3.1.3, 6.3.1.8)

abbrev kinds : List IntKind
kinds = Char ∷ SChar ∷ UChar ∷ Short ∷ UShort ∷ Int ∷ UInt ∷ Long ∷ ULong ∷ []

promotions : map promoted_kind kinds ≡ Int ∷ Int ∷ Int ∷ Int ∷ Int ∷ Int ∷ UInt ∷ Long ∷ ULong ∷ []
promotions = refl

-- two operands, and their common type
abbrev rows : List (IntKind × IntKind × IntKind)
rows =
    (Char, Char, Int) ∷
    (SChar, UChar, Int) ∷
    (Short, UShort, Int) ∷
    (UShort, Int, Int) ∷
    (Int, Int, Int) ∷
    (Short, UInt, UInt) ∷
    (UInt, Int, UInt) ∷
    (UInt, UInt, UInt) ∷
    (Long, Char, Long) ∷
    (Int, Long, Long) ∷
    (Long, Long, Long) ∷
    (Long, UInt, ULong) ∷
    (UInt, Long, ULong) ∷
    (ULong, Char, ULong) ∷
    (Int, ULong, ULong) ∷
    (ULong, UInt, ULong) ∷
    (Long, ULong, ULong) ∷
    (ULong, Long, ULong) ∷
    (ULong, ULong, ULong) ∷
    []

common_types : map (λ row. common_kind row.0 row.1) rows ≡ map (λ row. row.2) rows
common_types = refl

-- the same of the operands the other way round
common_types_turned : map (λ row. common_kind row.1 row.0) rows ≡ map (λ row. row.2) rows
common_types_turned = refl

-- a type, a value, and what the conversion to the type makes of it
abbrev conversions : List (IntKind × ℕ × ℕ)
conversions =
    (Char, 255, 255) ∷
    (Char, 256, 0) ∷
    (Char, 2 ^ 32 - 1, 255) ∷
    (UChar, 0x1234, 0x34) ∷
    (SChar, 127, 127) ∷
    (SChar, 128, 2 ^ 32 - 128) ∷
    (SChar, 255, 2 ^ 32 - 1) ∷
    (SChar, 256, 0) ∷
    (SChar, 2 ^ 32 - 129, 127) ∷
    (Short, 32767, 32767) ∷
    (Short, 32768, 2 ^ 32 - 32768) ∷
    (Short, 65535, 2 ^ 32 - 1) ∷
    (UShort, 65535, 65535) ∷
    (UShort, 65536, 0) ∷
    (UShort, 2 ^ 32 - 1, 65535) ∷
    (Int, 2 ^ 31, 2 ^ 31) ∷
    (UInt, 2 ^ 32 - 1, 2 ^ 32 - 1) ∷
    (Long, 2 ^ 32 - 1, 2 ^ 32 - 1) ∷
    (ULong, 0, 0) ∷
    []

converted : map (λ row. as_kind row.0 row.1) conversions ≡ map (λ row. row.2) conversions
converted = refl

-- a type, the bits, and the number that they stand for
abbrev numbers : List (IntKind × ℕ × ℤ)
numbers =
    (Char, 255, pos 255) ∷
    (SChar, 2 ^ 32 - 1, negsuc 0) ∷
    (SChar, 127, pos 127) ∷
    (SChar, 2 ^ 32 - 128, negsuc 127) ∷
    (Short, 2 ^ 32 - 32768, negsuc 32767) ∷
    (UShort, 65535, pos 65535) ∷
    (Int, 2 ^ 31 - 1, pos (2 ^ 31 - 1)) ∷
    (Int, 2 ^ 31, negsuc (2 ^ 31 - 1)) ∷
    (Long, 2 ^ 32 - 1, negsuc 0) ∷
    (UInt, 2 ^ 32 - 1, pos (2 ^ 32 - 1)) ∷
    (ULong, 2 ^ 31, pos (2 ^ 31)) ∷
    []

numbered : map (λ row. number_of row.0 row.1) numbers ≡ map (λ row. row.2) numbers
numbered = refl

-- ---- operators (6.5.3.3, 6.5.5 to 6.5.12)

abbrev minus : ℕ → ℕ
minus n = 2 ^ 32 - n

unary_values : unary_value Minus 0 ∷ unary_value Minus 1 ∷ unary_value Minus (2 ^ 31) ∷ unary_value Complement 0 ∷ unary_value Complement (minus 1)
    ∷ unary_value Plus 7 ∷ [] ≡ 0 ∷ minus 1 ∷ 2 ^ 31 ∷ minus 1 ∷ 0 ∷ 7 ∷ []
unary_values = refl

-- an operator, the left operand's type and value, the right one's, and the result
abbrev results : List (BinaryOp × IntKind × ℕ × IntKind × ℕ × Option ℕ)
results =
    (Multiply, Int, minus 3, Int, 5, Some (minus 15)) ∷
    (Multiply, UInt, 2 ^ 31, UInt, 2, Some 0) ∷
    (Divide, Int, 7, Int, 2, Some 3) ∷
    (Divide, Int, minus 7, Int, 2, Some (minus 3)) ∷
    (Divide, Int, 7, Int, minus 2, Some (minus 3)) ∷
    (Divide, UInt, minus 7, UInt, 2, Some 0x7FFFFFFC) ∷
    (Divide, ULong, 1, ULong, minus 1, Some 0) ∷
    (Divide, Int, 1, Int, 0, None) ∷
    (Divide, UInt, 1, UInt, 0, None) ∷
    (Divide, Int, 2 ^ 31, Int, minus 1, None) ∷
    (Divide, Long, 2 ^ 31, Long, minus 1, None) ∷
    (Divide, UInt, 2 ^ 31, UInt, minus 1, Some 0) ∷
    (Divide, Int, 2 ^ 31, Int, 1, Some (2 ^ 31)) ∷
    (Remainder, Int, 7, Int, 2, Some 1) ∷
    (Remainder, Int, minus 7, Int, 2, Some (minus 1)) ∷
    (Remainder, Int, 7, Int, minus 2, Some 1) ∷
    (Remainder, UInt, minus 7, UInt, 16, Some 9) ∷
    (Remainder, Int, 2 ^ 31, Int, minus 1, None) ∷
    (Remainder, Int, 2 ^ 31, Int, 0, None) ∷
    (Remainder, UInt, 5, UInt, 0, None) ∷
    (Add, Int, 2 ^ 31 - 1, Int, 1, Some (2 ^ 31)) ∷
    (Add, UInt, minus 1, UInt, 1, Some 0) ∷
    (Subtract, Int, 3, Int, 5, Some (minus 2)) ∷
    (Subtract, Int, 5, Int, 0, Some 5) ∷
    (ShiftLeft, Int, 1, Int, 31, Some (2 ^ 31)) ∷
    (ShiftLeft, Int, 3, Int, 31, Some (2 ^ 31)) ∷
    (ShiftLeft, Int, 1, Int, 32, None) ∷
    (ShiftLeft, Int, 1, Int, minus 1, None) ∷
    (ShiftLeft, Int, 1, ULong, minus 1, None) ∷
    (ShiftRight, Int, minus 1, Int, 31, Some (minus 1)) ∷
    (ShiftRight, Int, minus 5, Int, 1, Some (minus 3)) ∷
    (ShiftRight, UInt, minus 5, Int, 1, Some 0x7FFFFFFD) ∷
    (ShiftRight, UInt, minus 1, Int, 31, Some 1) ∷
    -- the right operand's type does not matter for the left one
    (ShiftRight, Int, minus 8, UInt, 2, Some (minus 2)) ∷
    (ShiftRight, Int, 1, Int, 32, None) ∷
    (ShiftRight, Int, 1, Int, minus 1, None) ∷
    (BitAnd, Int, minus 1, Int, 6, Some 6) ∷
    (BitXor, Int, 5, Int, 6, Some 3) ∷
    (BitOr, UInt, 5, UInt, 6, Some 7) ∷
    []

operators : map (λ row. binary_value row.0 row.1 row.2 row.3 row.4) results ≡ map (λ row. row.5) results
operators = refl

-- an operator, the type of both operands, their values, and whether it holds
abbrev comparisons : List (CompareOp × IntKind × ℕ × ℕ × Bool)
comparisons =
    (Less, Int, minus 1, 1, true) ∷
    (Less, UInt, minus 1, 1, false) ∷
    (Less, Int, 1, 1, false) ∷
    (Greater, Int, 1, minus 1, true) ∷
    (Greater, ULong, 1, minus 1, false) ∷
    (LessEqual, Long, 2 ^ 31, 2 ^ 31 - 1, true) ∷
    (LessEqual, UInt, 2 ^ 31, 2 ^ 31 - 1, false) ∷
    (LessEqual, UInt, 4, 4, true) ∷
    (GreaterEqual, Int, minus 1, 0, false) ∷
    (GreaterEqual, UInt, minus 1, 0, true) ∷
    (GreaterEqual, Int, 4, 4, true) ∷
    (Equal, Int, minus 1, minus 1, true) ∷
    (Equal, Int, 0, 1, false) ∷
    (NotEqual, UInt, 0, 1, true) ∷
    (NotEqual, UInt, 1, 1, false) ∷
    []

compared : map (λ row. holds row.0 row.1 row.2 row.3) comparisons ≡ map (λ row. row.4) comparisons
compared = refl

-- ---- constant expressions (6.6)

abbrev Exp : Type 0
Exp = Trees.Expression CType

abbrev at : Place
at = record { file = 0; at = 0 }

abbrev node : CType → Trees.Node CType → Exp
node t n = Trees.expression t at n

abbrev int : CType
int = integer Int

abbrev number : ℕ → Exp
number v = node int (Trees.constant v)

abbrev with : BinaryOp → Exp → Exp → Exp
with op x y = node int (Trees.binary op x y)

-- x, a parameter
abbrev x : Exp
x = node int (Trees.load (Trees.path int at (Trees.local 0)))

abbrev cast : CType → Exp → Exp
cast t e = node t (Trees.convert e true)

abbrev no_value : Exp
no_value = with Divide (number 1) (number 0)

abbrev constants : List (Exp × Constant)
constants =
    -- 2 - 2, x - x, 1 / 0
    (with Subtract (number 2) (number 2), valued 0) ∷
    (with Subtract x x, none) ∷
    (no_value, undefined) ∷
    (with Add x no_value, none) ∷
    -- 1 || 1 / 0, 0 || 1 / 0, 0 && 1 / 0, 1 && 1 / 0, 1 / 0 && 0, 0 && x, 5 && 7
    (node int (Trees.either (number 1) no_value), valued 1) ∷
    (node int (Trees.either (number 0) no_value), undefined) ∷
    (node int (Trees.either (number 0) (number 7)), valued 1) ∷
    (node int (Trees.both (number 0) no_value), valued 0) ∷
    (node int (Trees.both (number 1) no_value), undefined) ∷
    (node int (Trees.both no_value (number 0)), undefined) ∷
    (node int (Trees.both (number 0) x), none) ∷
    (node int (Trees.both (number 5) (number 7)), valued 1) ∷
    -- 1 ? 2 : 1 / 0, 0 ? 1 / 0 : 3, 0 ? 2 : 1 / 0, 1 ? 2 : x
    (node int (Trees.choose (number 1) (number 2) no_value), valued 2) ∷
    (node int (Trees.choose (number 0) no_value (number 3)), valued 3) ∷
    (node int (Trees.choose (number 0) (number 2) no_value), undefined) ∷
    (node int (Trees.choose (number 1) (number 2) x), none) ∷
    -- (signed char)255, (unsigned char)-1, (int)0u - 1
    (cast (integer SChar) (number 255), valued (minus 1)) ∷
    (cast (integer UChar) (node int (Trees.unary Minus (number 1))), valued 255) ∷
    (with Subtract (cast int (node (integer UInt) (Trees.constant 0))) (number 1), valued (minus 1)) ∷
    -- -1 < 0u, where -1 is converted; -1 < 0
    (node int (Trees.compare Less (node (integer UInt) (Trees.convert (number (minus 1)) false)) (node (integer UInt) (Trees.constant 0))), valued 0) ∷
    (node int (Trees.compare Less (number (minus 1)) (number 0)), valued 1) ∷
    -- !0, !3, ~0
    (node int (Trees.not (number 0)), valued 1) ∷
    (node int (Trees.not (number 3)), valued 0) ∷
    (node int (Trees.unary Complement (number 0)), valued (minus 1)) ∷
    -- 1, 2 and x = 0 and x++ are no constant expressions; neither are pointers
    (node int (Trees.comma (number 1) (number 2)), none) ∷
    (node int (Trees.assign (Trees.path int at (Trees.local 0)) (number 0)), none) ∷
    (cast (pointer void) (number 0), none) ∷
    (cast int (cast (pointer void) (number 0)), none) ∷
    []

constant_values : map (λ row. constant_of row.0) constants ≡ map (λ row. row.1) constants
constant_values = refl

-- ---- null pointer constants (6.3.2.3)

abbrev nulls : List (Exp × Bool)
nulls =
    (number 0, true) ∷
    (number 1, false) ∷
    (with Subtract (number 1) (number 1), true) ∷
    (node (integer ULong) (Trees.constant 0), true) ∷
    (cast (integer Char) (number 256), true) ∷
    (cast (pointer void) (number 0), true) ∷
    (cast (pointer void) (number 1), false) ∷
    (cast (pointer void) (with Subtract (number 1) (number 1)), true) ∷
    (cast (pointer (integer Char)) (number 0), false) ∷
    (cast (pointer (function void no_types)) (number 0), false) ∷
    (cast (pointer void) (cast (pointer void) (number 0)), false) ∷
    (cast (pointer void) (cast (pointer (integer Char)) (number 0)), false) ∷
    (cast (pointer void) x, false) ∷
    (x, false) ∷
    (no_value, false) ∷
    []

null_pointer_constants : map (λ row. is_null row.0) nulls ≡ map (λ row. row.1) nulls
null_pointer_constants = refl
