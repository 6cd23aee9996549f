-- What each operator asks of the types of its operands, and what it makes of them (C99 6.5). A rule gives the types to which the operands
-- are converted and the type of the result, or none where it is broken. `null` tells that an operand is a null pointer constant.
use Rattle.std.specs.Prelude.{ℕ, Bool, true, false, ◌&&◌, if◌then◌else◌, Option, Some, None}
use Rattle.c_types.specs.Types.{CType, void, integer, pointer}
use Rattle.c_types.specs.Objects.{is_object}
use Rattle.c_types.specs.Sameness.{same_type}
use Rattle.c_typed.specs.declared.operators.BinaryOp.{BinaryOp}
use Rattle.c_typed.specs.declared.operators.BinaryOp.TheVariants.{Add, Subtract, ShiftLeft, ShiftRight}
use Rattle.c_typed.specs.declared.operators.CompareOp.{CompareOp}
use Rattle.c_typed.specs.Conversions.{is_integer, promoted, common}
use Rattle.c_typed.specs.Fits.{meeting, compared}

-- ---- numbers (6.5.3.3, 6.5.5 to 6.5.7, 6.5.10 to 6.5.12)

-- the integer promotions
abbrev pub promoting : CType → Option CType
promoting (integer kind) = Some (promoted (integer kind))
promoting t = None

-- the usual arithmetic conversions
abbrev pub arithmetic : CType → CType → Option CType
arithmetic (integer k) (integer l) = Some (common (integer k) (integer l))
arithmetic s t = None

abbrev pub is_shift : BinaryOp → Bool
is_shift ShiftLeft = true
is_shift ShiftRight = true
is_shift op = false

-- the left operand's type and the result's, and the right operand's: those of a shift are promoted each for itself
abbrev pub shifting : Option CType → Option CType → Option (CType × CType)
shifting (Some s) (Some t) = Some (s, t)
shifting s t = None

abbrev pub twice : Option CType → Option (CType × CType)
twice None = None
twice (Some t) = Some (t, t)

abbrev pub on_numbers : BinaryOp → CType → CType → Option (CType × CType)
on_numbers op s t = if is_shift op then shifting (promoting s) (promoting t) else twice (arithmetic s t)

-- ---- comparisons (6.5.8, 6.5.9): the type to which both operands are converted; the result is an int

abbrev pub or_else : Option CType → Option CType → Option CType
or_else None o = o
or_else (Some t) o = Some t

abbrev pub comparing : CompareOp → CType → (s_null : Bool) → CType → (t_null : Bool) → Option CType
comparing op s s_null t t_null = or_else (arithmetic s t) (compared op s s_null t t_null)

-- ---- `?:` (6.5.15): the type of the second and third operand, and of the result; no records (own)

abbrev pub both_void : CType → CType → Option CType
both_void void void = Some void
both_void s t = None

abbrev pub choosing : CType → (s_null : Bool) → CType → (t_null : Bool) → Option CType
choosing s s_null t t_null = or_else (arithmetic s t) (or_else (meeting s s_null t t_null) (both_void s t))

-- ---- pointers and numbers of elements (6.5.6); `count` records are complete

abbrev pub points_to_object : (count : ℕ) → CType → Bool
points_to_object count (pointer t) = is_object count t
points_to_object count t = false

-- the type to which the number is converted; the result's is the pointer's
abbrev pub moving : (count : ℕ) → (pointer number : CType) → Option CType
moving count p t = if points_to_object count p then promoting t else None

-- the difference of two pointers is an int (own)
abbrev pub differing : (count : ℕ) → CType → CType → Bool
differing count s t = points_to_object count s && same_type s t

-- ---- compound assignment (6.5.16.2): the type to which the right operand is converted. A number is updated in the common type, or for
-- a shift in the promoted type of its own; a pointer is moved

abbrev pub is_move : BinaryOp → Bool
is_move Add = true
is_move Subtract = true
is_move op = false

abbrev pub updating : (count : ℕ) → BinaryOp → CType → CType → Option CType
updating count op (integer kind) t = if is_shift op then promoting t else arithmetic (integer kind) t
updating count op p t = if is_move op then moving count p t else None

-- ---- `++` and `--` (6.5.2.4, 6.5.3.1)

abbrev pub is_stepped : (count : ℕ) → CType → Bool
is_stepped count t = if is_integer t then true else points_to_object count t
