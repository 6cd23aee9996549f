-- What operators and conversions make of values (C99 6.3, 6.5).
use Rattle.std.specs.Prelude.{ℕ, ◌==◌, Bool, true, false, not, if◌then◌else◌, ℤ, pos, ◌*ℤ◌, ◌-ℤ◌, Option, Some, None, Ok, Err}
use Rattle.std.specs.Int.{w32, cast_unsigned}
use Rattle.lay_base.specs.declared.faults.UndefinedKind.{UndefinedKind}
use Rattle.lay_base.specs.declared.faults.UndefinedKind.TheVariants as K
use Rattle.c_types.specs.declared.ty.IntKind.{IntKind}
use Rattle.c_types.specs.declared.ty.IntKind.TheVariants.{Int}
use Rattle.c_types.specs.Types.{CType, integer, pointer as pointer_to}
use Rattle.c_typed.specs.declared.operators.BinaryOp.{BinaryOp}
use Rattle.c_typed.specs.declared.operators.BinaryOp.TheVariants as B
use Rattle.c_typed.specs.declared.operators.CompareOp.{CompareOp}
use Rattle.c_typed.specs.declared.operators.CompareOp.TheVariants as C
use Rattle.c_typed.specs.declared.operators.PointerOp.{PointerOp}
use Rattle.c_typed.specs.declared.operators.PointerOp.TheVariants as O
use Rattle.c_typed.specs.declared.operators.StepOp.{StepOp}
use Rattle.c_typed.specs.declared.operators.StepOp.TheVariants as S
use Rattle.c_typed.specs.declared.operators.UnaryOp.{UnaryOp}
use Rattle.c_typed.specs.Arithmetic.{truth, unary_value, binary_value, holds}
use Rattle.c_typed.specs.Constants.{kind_of}
use Rattle.c_typed.specs.Conversions.{promoted_kind, as_kind, number_of}
use Rattle.c_typed.specs.Rules.{is_shift}
use Rattle.memory_words.specs.declared.cell_words.pointer.Ptr.{Ptr}
use Rattle.memory_words.specs.declared.cell_words.pointer.Ptr.TheVariants as P
use Rattle.block_memory.specs.Blocks.{Memory}
use Rattle.block_memory.specs.Pointers.{stepped, difference, is_less, are_equal}
use Rattle.block_memory.specs.Tested.{Tested, ◌>>=◌}
use Rattle.block_memory.specs.RunWorlds.Scalars.{as_value, as_word, as_pointer}
use Rattle.block_memory.specs.declared.run_worlds.value.Value.{Value}
use Rattle.block_memory.specs.declared.run_worlds.value.Value.TheVariants.{Word as word, Pointer as pointer}

-- ---- conversions (6.3): of the integer constant 0 to a null pointer, of numbers, and of pointers, which stay

abbrev pub null_or_pointer : Value → Tested Value
null_or_pointer (word v) = if v == 0 then Ok (pointer P.Null) else Err K.Pointer
null_or_pointer (pointer p) = Ok (pointer p)

abbrev pub converted : CType → Value → Tested Value
converted (integer kind) v = as_word v >>= λ n. Ok (word (as_kind kind n))
converted (pointer_to t) v = null_or_pointer v
converted t v = Ok v

-- compared with zero (6.5.3.3, 6.8.4.1)
abbrev pub is_true : Value → Bool
is_true (word v) = not (v == 0)
is_true (pointer P.Null) = false
is_true (pointer p) = true

abbrev pub flag : Bool → Value
flag test = word (truth test)

-- ---- numbers

-- what is undefined where there is no value
abbrev pub undefined_by : BinaryOp → UndefinedKind
undefined_by B.ShiftLeft = K.Shift
undefined_by B.ShiftRight = K.Shift
undefined_by op = K.Division

abbrev pub or_undefined : UndefinedKind → Option ℕ → Tested Value
or_undefined kind (Some v) = Ok (word v)
or_undefined kind None = Err kind

abbrev pub unary : UnaryOp → Value → Tested Value
unary op v = as_word v >>= λ n. Ok (word (unary_value op n))

-- of numbers of a kind; the right operand of a shift has a kind of its own
abbrev pub binary : BinaryOp → (kind : IntKind) → Value → (right : IntKind) → Value → Tested Value
binary op kind (word v) right (word w) = or_undefined (undefined_by op) (binary_value op kind v right w)
binary op kind v right w = Err K.Pointer

-- ---- pointers and numbers of elements (6.5.6)

-- so many elements on or back, in bytes
abbrev pub bytes_by : PointerOp → (elements : ℤ) → (size : ℕ) → ℤ
bytes_by O.Add elements size = elements *ℤ pos size
bytes_by O.Subtract elements size = pos 0 -ℤ elements *ℤ pos size

-- a pointer by a number of a kind
abbrev pub moved : Memory → PointerOp → (size : ℕ) → IntKind → Value → Value → Tested Value
moved m op size kind v w = as_pointer v >>= λ p. as_word w >>= λ n. as_value pointer (stepped m p (bytes_by op (number_of kind n) size))

-- whose pointer stands on the left, or on the right
abbrev pub moved_from : (left : Bool) → Memory → PointerOp → (size : ℕ) → IntKind → Value → Value → Tested Value
moved_from true m op size kind v w = moved m op size kind v w
moved_from false m op size kind v w = moved m op size kind w v

abbrev pub distance : (size : ℕ) → Value → Value → Tested Value
distance size (pointer p) (pointer q) = as_value (λ z. word (cast_unsigned w32 z)) (difference p q size)
distance size v w = Err K.Pointer

-- ---- comparisons (6.5.8, 6.5.9)

abbrev pub opposite : Tested Bool → Tested Bool
opposite r = r >>= λ test. Ok (not test)

abbrev pub pointers_compare : CompareOp → Memory → Ptr → Ptr → Tested Bool
pointers_compare C.Equal m p q = are_equal m p q
pointers_compare C.NotEqual m p q = opposite (are_equal m p q)
pointers_compare C.Less m p q = is_less m p q
pointers_compare C.Greater m p q = is_less m q p
pointers_compare C.LessEqual m p q = opposite (is_less m q p)
pointers_compare C.GreaterEqual m p q = opposite (is_less m p q)

abbrev pub compared : CompareOp → Memory → (kind : IntKind) → Value → Value → Tested Value
compared op m kind (word v) (word w) = Ok (flag (holds op kind v w))
compared op m kind (pointer p) (pointer q) = as_value flag (pointers_compare op m p q)
compared op m kind v w = Err K.Pointer

-- ---- compound assignments (6.5.16.2) and `++` and `--` (6.5.2.4, 6.5.3.1)

-- a number is updated in the common type of both operands, or for a shift in its own promoted type, and converted back
abbrev pub common_kind : BinaryOp → (left right : IntKind) → IntKind
common_kind op left right = if is_shift op then promoted_kind left else right

abbrev pub pointer_op : BinaryOp → PointerOp
pointer_op B.Subtract = O.Subtract
pointer_op op = O.Add

-- the old value of that type, and the operand of the type to which it is converted
abbrev pub updated : Memory → BinaryOp → (size : ℕ) → CType → Value → (right : CType) → Value → Tested Value
updated m op size (integer kind) old right v =
    converted (integer (common_kind op kind (kind_of right))) old
    >>= λ old. binary op (common_kind op kind (kind_of right)) old (kind_of right) v
    >>= λ new. converted (integer kind) new
updated m op size t old right v = moved m (pointer_op op) size (kind_of right) old v

abbrev pub step_op : StepOp → BinaryOp
step_op S.Increment = B.Add
step_op S.Decrement = B.Subtract

-- by one, an int
abbrev pub next : Memory → StepOp → (size : ℕ) → CType → Value → Tested Value
next m op size (integer kind) old = updated m (step_op op) size (integer kind) old (integer (promoted_kind kind)) (word 1)
next m op size t old = updated m (step_op op) size t old (integer Int) (word 1)
