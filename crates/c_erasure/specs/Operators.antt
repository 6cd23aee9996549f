-- The operators of the grammar, and those of typed trees (C99 6.5).
use Rattle.std.specs.Prelude.{Option, Some, None}
use Rattle.c_ast.specs.declared.operators.BinaryOp.{BinaryOp}
use Rattle.c_ast.specs.declared.operators.BinaryOp.TheVariants as B
use Rattle.c_ast.specs.declared.operators.AssignOp.{AssignOp}
use Rattle.c_ast.specs.declared.operators.AssignOp.TheVariants as A
use Rattle.c_ast.specs.declared.operators.StepOp.{StepOp}
use Rattle.c_ast.specs.declared.operators.StepOp.TheVariants as S
use Rattle.c_typed.specs.declared.operators.BinaryOp as Typed
use Rattle.c_typed.specs.declared.operators.BinaryOp.TheVariants as T
use Rattle.c_typed.specs.declared.operators.CompareOp.{CompareOp}
use Rattle.c_typed.specs.declared.operators.CompareOp.TheVariants as C
use Rattle.c_typed.specs.declared.operators.StepOp as TypedStep
use Rattle.c_typed.specs.declared.operators.StepOp.TheVariants as TS

-- what a binary operator does: it computes, compares, or evaluates its right operand only where the left one does not decide
pub data Kind : Type 0 where
  computes : (op : Typed.BinaryOp) → Kind
  compares : (op : CompareOp) → Kind
  all_of : Kind
  any_of : Kind

abbrev pub kind_of : BinaryOp → Kind
kind_of B.Or = any_of
kind_of B.And = all_of
kind_of B.BitOr = computes T.BitOr
kind_of B.BitXor = computes T.BitXor
kind_of B.BitAnd = computes T.BitAnd
kind_of B.Equal = compares C.Equal
kind_of B.NotEqual = compares C.NotEqual
kind_of B.Less = compares C.Less
kind_of B.Greater = compares C.Greater
kind_of B.LessEqual = compares C.LessEqual
kind_of B.GreaterEqual = compares C.GreaterEqual
kind_of B.ShiftLeft = computes T.ShiftLeft
kind_of B.ShiftRight = computes T.ShiftRight
kind_of B.Add = computes T.Add
kind_of B.Subtract = computes T.Subtract
kind_of B.Multiply = computes T.Multiply
kind_of B.Divide = computes T.Divide
kind_of B.Remainder = computes T.Remainder

-- what a compound assignment does to its left operand; the plain one does nothing to it
abbrev pub update_of : AssignOp → Option Typed.BinaryOp
update_of A.Plain = None
update_of A.Multiply = Some T.Multiply
update_of A.Divide = Some T.Divide
update_of A.Remainder = Some T.Remainder
update_of A.Add = Some T.Add
update_of A.Subtract = Some T.Subtract
update_of A.ShiftLeft = Some T.ShiftLeft
update_of A.ShiftRight = Some T.ShiftRight
update_of A.BitAnd = Some T.BitAnd
update_of A.BitXor = Some T.BitXor
update_of A.BitOr = Some T.BitOr

abbrev pub step_of : StepOp → TypedStep.StepOp
step_of S.Increment = TS.Increment
step_of S.Decrement = TS.Decrement
