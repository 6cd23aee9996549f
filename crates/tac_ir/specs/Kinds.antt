-- Which temporaries steps write, and of whose blocks they speak.
use Rattle.std.specs.Prelude.{◌≡◌, ◌≢◌, ℕ, Bool, true, List, All, Option, Some, None, slice_get}
use Rattle.tac_ir.specs.Code.{RoutineData}
use Rattle.tac_ir.specs.declared.step.Step.{Step}
use Rattle.tac_ir.specs.declared.step.Step.TheVariants as S

-- the temporary that takes what a step gives
abbrev pub taken_by : Step → Option ℕ
taken_by (S.Set t a) = Some t
taken_by (S.Clear t) = Some t
taken_by (S.Unary t at op a) = Some t
taken_by (S.Not t a) = Some t
taken_by (S.Convert t at kind a) = Some t
taken_by (S.AsPointer t at a) = Some t
taken_by (S.Number t at a) = Some t
taken_by (S.Binary t at op kind right a b) = Some t
taken_by (S.Compare t at op kind a b) = Some t
taken_by (S.Move t at op size left kind a b) = Some t
taken_by (S.Distance t at size a b) = Some t
taken_by (S.Update t at op size sort right a b) = Some t
taken_by (S.Field t at by a) = Some t
taken_by (S.ElementField t at size kind by a b) = Some t
taken_by (S.Element t at n size addressed kind a b) = Some t
taken_by (S.Part t at by a) = Some t
taken_by (S.Inside t at x by) = Some t
taken_by (S.Load t at access a) = Some t
taken_by (S.Call t at f all) = Some t
taken_by (S.CallThrough t at ty a all) = Some t
taken_by (S.Library t at which all) = Some t
taken_by (S.Allocate t at r size zeroed a) = Some t
taken_by s = None

-- the local of whose block a step speaks
abbrev pub block_of : Step → Option ℕ
block_of (S.Inside t at x by) = Some x
block_of (S.Begin x size) = Some x
block_of (S.End x) = Some x
block_of (S.Forget x size) = Some x
block_of (S.Zeros x size) = Some x
block_of (S.Text x by n) = Some x
block_of s = None

-- of each local it is known whether it lies in a block: what is written does not, and what is spoken of does
abbrev pub IsOpenIfAny : (locals : List Bool) → Option ℕ → Type 0
IsOpenIfAny locals None = Unit {0}
IsOpenIfAny locals (Some t) = slice_get locals t ≢ Some true

abbrev pub IsBlockIfAny : (locals : List Bool) → Option ℕ → Type 0
IsBlockIfAny locals None = Unit {0}
IsBlockIfAny locals (Some x) = slice_get locals x ≡ Some true

abbrev pub KeepsKinds : (locals : List Bool) → Step → Type 0
KeepsKinds locals s = IsOpenIfAny locals (taken_by s) × IsBlockIfAny locals (block_of s)

abbrev pub KindsWithin : RoutineData → Type 0
KindsWithin g = All (KeepsKinds g.locals) g.code
