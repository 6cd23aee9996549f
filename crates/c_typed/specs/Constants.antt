-- Integer constant expressions (C99 6.6), and null pointer constants (6.3.2.3), among typed expressions. `sizeof` and enumerators are
-- constants there.
use Rattle.std.specs.Prelude.{ℕ, zero, suc, ◌==◌, Bool, true, false, if◌then◌else◌, Option, Some, None}
use Rattle.c_types.specs.declared.ty.IntKind.{IntKind}
use Rattle.c_types.specs.declared.ty.IntKind.TheVariants.{Int}
use Rattle.c_types.specs.Types.{CType, void, integer, pointer}
use Rattle.c_typed.specs.declared.operators.UnaryOp.{UnaryOp}
use Rattle.c_typed.specs.Trees.{Expression, expression, Node, constant, convert, unary, binary, compare, both, either, not, choose}
use Rattle.c_typed.specs.Conversions.{as_kind}
use Rattle.c_typed.specs.Arithmetic.{truth, unary_value, binary_value, holds}

-- no integer constant expression; or one without a value, as a division by zero; or one with its value
pub data Constant : Type 0 where
  none : Constant
  undefined : Constant
  valued : (v : ℕ) → Constant

abbrev pub kind_of : CType → IntKind
kind_of (integer kind) = kind
kind_of t = Int

abbrev pub ty : {T : Type 0} → Expression T → T
ty (expression t at node) = t

-- ---- what operators make of constants

abbrev pub of_value : Option ℕ → Constant
of_value None = undefined
of_value (Some v) = valued v

abbrev pub converted_constant : CType → Constant → Constant
converted_constant (integer kind) (valued v) = valued (as_kind kind v)
converted_constant (integer kind) c = c
converted_constant t c = none

abbrev pub unary_constant : UnaryOp → Constant → Constant
unary_constant op (valued v) = valued (unary_value op v)
unary_constant op c = c

abbrev pub with_both : Constant → Constant → (ℕ → ℕ → Constant) → Constant
with_both none d f = none
with_both c none f = none
with_both undefined d f = undefined
with_both c undefined f = undefined
with_both (valued v) (valued w) f = f v w

-- the right operand is evaluated only where the left one does not decide
abbrev pub decided_by : (deciding : Bool) → Constant → Constant → Constant
decided_by deciding none d = none
decided_by deciding c none = none
decided_by deciding undefined d = undefined
decided_by true (valued zero) undefined = undefined
decided_by true (valued zero) (valued w) = valued (if w == 0 then 0 else 1)
decided_by true (valued (suc v)) d = valued 1
decided_by false (valued zero) d = valued 0
decided_by false (valued (suc v)) undefined = undefined
decided_by false (valued (suc v)) (valued w) = valued (if w == 0 then 0 else 1)

abbrev pub chosen : Constant → Constant → Constant → Constant
chosen none d e = none
chosen c none e = none
chosen c d none = none
chosen undefined d e = undefined
chosen (valued zero) d e = e
chosen (valued (suc v)) d e = d

abbrev pub negated : Constant → Constant
negated (valued v) = valued (truth (v == 0))
negated c = c

-- ---- of an expression

abbrev mutual
  pub constant_of : Expression CType → Constant
  constant_of (expression t at node) = constant_in t node

  pub constant_in : CType → Node CType → Constant
  constant_in t (constant v) = valued v
  constant_in t (convert e written) = converted_constant t (constant_of e)
  constant_in t (unary op x) = unary_constant op (constant_of x)
  constant_in t (binary op x y) = with_both (constant_of x) (constant_of y) (λ v w. of_value (binary_value op (kind_of t) v (kind_of (ty y)) w))
  constant_in t (compare op x y) = with_both (constant_of x) (constant_of y) (λ v w. valued (truth (holds op (kind_of (ty x)) v w)))
  constant_in t (both x y) = decided_by false (constant_of x) (constant_of y)
  constant_in t (either x y) = decided_by true (constant_of x) (constant_of y)
  constant_in t (not x) = negated (constant_of x)
  constant_in t (choose x y z) = chosen (constant_of x) (constant_of y) (constant_of z)
  constant_in t node = none

-- ---- null pointer constants: an integer constant expression of value 0, or one cast to `void *`

abbrev pub is_zero : Constant → Bool
is_zero (valued v) = v == 0
is_zero c = false

abbrev pub is_null : Expression CType → Bool
is_null (expression (pointer void) at (convert e true)) = is_zero (constant_of e)
is_null e = is_zero (constant_of e)
