-- One more than the greatest temporary that code writes or reads, with the locals among them.
use Rattle.std.specs.Prelude.{ℕ, suc, ◌+◌, max, List, [], ◌∷◌, Option, Some, None}
use Rattle.tac_ir.specs.declared.step.Operand.{Operand}
use Rattle.tac_ir.specs.declared.step.Operand.TheVariants as O
use Rattle.tac_ir.specs.declared.step.Row.{Row}
use Rattle.tac_ir.specs.declared.step.Step.{Step}
use Rattle.tac_ir.specs.declared.step.Step.TheVariants as S

abbrev pub top : Operand → ℕ
top (O.Temp kind t at) = suc t
top a = 0

abbrev pub top_if_any : Option Operand → ℕ
top_if_any None = 0
top_if_any (Some a) = top a

abbrev pub row_top : Row → ℕ
row_top all = all.first + all.count

abbrev pub top_of : Step → ℕ
top_of (S.Set t a) = max (suc t) (top a)
top_of (S.Clear t) = suc t
top_of (S.Unary t at op a) = max (suc t) (top a)
top_of (S.Not t a) = max (suc t) (top a)
top_of (S.Convert t at kind a) = max (suc t) (top a)
top_of (S.AsPointer t at a) = max (suc t) (top a)
top_of (S.Number t at a) = max (suc t) (top a)
top_of (S.Binary t at op kind right a b) = max (suc t) (max (top a) (top b))
top_of (S.Compare t at op kind a b) = max (suc t) (max (top a) (top b))
top_of (S.Move t at op size left kind a b) = max (suc t) (max (top a) (top b))
top_of (S.Distance t at size a b) = max (suc t) (max (top a) (top b))
top_of (S.Update t at op size sort right a b) = max (suc t) (max (top a) (top b))
top_of (S.Field t at by a) = max (suc t) (top a)
top_of (S.ElementField t at size kind by a b) = max (suc t) (max (top a) (top b))
top_of (S.Element t at n size addressed kind a b) = max (suc t) (max (top a) (top b))
top_of (S.Part t at by a) = max (suc t) (top a)
top_of (S.Inside t at x by) = max (suc t) (suc x)
top_of (S.Load t at access a) = max (suc t) (top a)
top_of (S.Store at access a b) = max (top a) (top b)
top_of (S.CopyRecord at size a b) = max (top a) (top b)
top_of (S.Jump to) = 0
top_of (S.Branch when a to) = top a
top_of (S.Test at op kind when a b to) = max (top a) (top b)
top_of (S.Case n a to) = top a
top_of (S.Call t at f all) = max (suc t) (row_top all)
top_of (S.CallThrough t at ty a all) = max (suc t) (max (top a) (row_top all))
top_of (S.Library t at which all) = max (suc t) (row_top all)
top_of (S.Allocate t at r size zeroed a) = max (suc t) (top a)
top_of (S.Begin x size) = suc x
top_of (S.End x) = suc x
top_of (S.Forget x size) = suc x
top_of (S.Zeros x size) = suc x
top_of (S.Text x by n) = suc x
top_of (S.Began f l) = 0
top_of (S.Return a) = top_if_any a
top_of (S.ReturnHeld t) = suc t
top_of (S.Fail kind at) = 0

abbrev pub top_of_all : List Step → ℕ
top_of_all [] = 0
top_of_all (s ∷ more) = max (top_of s) (top_of_all more)
