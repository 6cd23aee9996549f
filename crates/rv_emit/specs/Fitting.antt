-- What code must be so that its instructions do what its steps do: its numbers are words, it speaks of what is there, and blocks of locals have one size.
use Rattle.std.specs.Prelude.{◌≡◌, ◌≢◌, ℕ, ◌+◌, ◌<◌, ◌≤◌, ◌^◌, true, List, [], ◌∷◌, length, All, Option, Some, None, slice_get, slice_index, get_or}
use Rattle.c_types.specs.Sameness.{same_type}
use Rattle.c_types.specs.Types.{CType, pointer as pointer_to}
use Rattle.tac_ir.specs.Code.{Code, RoutineData}
use Rattle.tac_ir.specs.Jumps.{LeadsInsideIfAny, target_of}
use Rattle.tac_ir.specs.Kinds.{KeepsKinds}
use Rattle.tac_ir.specs.Running.{type_in}
use Rattle.tac_ir.specs.declared.step.Operand.{Operand}
use Rattle.tac_ir.specs.declared.step.Operand.TheVariants as O
use Rattle.tac_ir.specs.declared.step.Row.{Row}
use Rattle.tac_ir.specs.declared.step.Step.{Step}
use Rattle.tac_ir.specs.declared.step.Step.TheVariants as S
use Rattle.rv_code.specs.Frames.{block_sizes, kept_by, slots}
use Rattle.rv_code.specs.declared.layout.Places.{Places}
use Rattle.rv_emit.specs.Maps.{HasBody}

-- what a step reads, in the order of its operands
abbrev pub operands_of : Step → List Operand
operands_of (S.Set t a) = a ∷ []
operands_of (S.Unary t at op a) = a ∷ []
operands_of (S.Not t a) = a ∷ []
operands_of (S.Convert t at kind a) = a ∷ []
operands_of (S.AsPointer t at a) = a ∷ []
operands_of (S.Number t at a) = a ∷ []
operands_of (S.Binary t at op kind right a b) = a ∷ b ∷ []
operands_of (S.Compare t at op kind a b) = a ∷ b ∷ []
operands_of (S.Move t at op size left kind a b) = a ∷ b ∷ []
operands_of (S.Distance t at size a b) = a ∷ b ∷ []
operands_of (S.Update t at op size sort right a b) = a ∷ b ∷ []
operands_of (S.Field t at by a) = a ∷ []
operands_of (S.ElementField t at size kind by a b) = a ∷ b ∷ []
operands_of (S.Element t at n size addressed kind a b) = a ∷ b ∷ []
operands_of (S.Part t at by a) = a ∷ []
operands_of (S.Load t at access a) = a ∷ []
operands_of (S.Store at access a b) = a ∷ b ∷ []
operands_of (S.CopyRecord at size a b) = a ∷ b ∷ []
operands_of (S.Branch when a to) = a ∷ []
operands_of (S.Test at op kind when a b to) = a ∷ b ∷ []
operands_of (S.Case n a to) = a ∷ []
operands_of (S.CallThrough t at ty a all) = a ∷ []
operands_of (S.Allocate t at r size zeroed a) = a ∷ []
operands_of (S.Return (Some a)) = a ∷ []
operands_of s = []

-- the temporary is one for which the frame has a word
abbrev pub HasSlotIfAny : RoutineData → Option ℕ → Type 0
HasSlotIfAny g None = Unit {0}
HasSlotIfAny g (Some t) = t < slots g

-- the numbers of a step: sizes of elements, records and blocks, and offsets
abbrev pub NumbersFit : RoutineData → Step → Type 0
NumbersFit g (S.Distance t at size a b) = (0 < size) × (size < 2 ^ 31)
NumbersFit g (S.Inside t at x by) = by ≤ slice_index (block_sizes g) x
NumbersFit g (S.CopyRecord at size a b) = size < 2 ^ 32
NumbersFit g (S.Case n a to) = n < 2 ^ 32
NumbersFit g (S.Begin x size) = size ≡ slice_index (block_sizes g) x
NumbersFit g (S.Forget x size) = size ≤ slice_index (block_sizes g) x
NumbersFit g (S.Zeros x size) = size ≤ slice_index (block_sizes g) x
NumbersFit g (S.Text x by n) = by + length (get_or g.texts n []) ≤ slice_index (block_sizes g) x
NumbersFit g s = Unit {0}

-- the temporaries of a call's arguments
abbrev pub row_of : Step → Option Row
row_of (S.Call t at f all) = Some all
row_of (S.CallThrough t at ty a all) = Some all
row_of (S.Library t at which all) = Some all
row_of s = None

-- they are words: a local that lies in a block has its address in none
abbrev pub RowFitsIfAny : RoutineData → Option Row → Type 0
RowFitsIfAny g None = Unit {0}
RowFitsIfAny g (Some all) = (t : ℕ) → all.first ≤ t → t < all.first + all.count → slice_get g.locals t ≢ Some true

module _ (c : Code) (p : Places) where
  -- an operand's number is a word, its function has a body, its object is there
  abbrev pub OperandFits : Operand → Type 0
  OperandFits (O.Word n) = n < 2 ^ 32
  OperandFits O.Null = Unit {0}
  OperandFits (O.Function f) = HasBody c f
  OperandFits (O.Object n) = n < length p.objects
  OperandFits (O.Temp kind t at) = Unit {0}

module _ (types : List CType) (c : Code) (p : Places) where
  -- a function that has code gets as many arguments as it has parameters, by whatever pointer of its type. One that is only declared has no parameters,
  -- though its type has some
  abbrev pub ArgumentsFit : Step → Type 0
  ArgumentsFit (S.Call t at f all) = (g : RoutineData) → slice_get c.routines f ≡ Some g → g.code ≢ [] → length g.parameters ≡ all.count
  ArgumentsFit (S.CallThrough t at ty a all) = (f : ℕ) (g : RoutineData) → slice_get c.routines f ≡ Some g → g.code ≢ []
      → same_type (type_in types ty) (pointer_to (type_in types g.ty)) ≡ true → length g.parameters ≡ all.count
  ArgumentsFit s = Unit {0}

  pub record StepFits (g : RoutineData) (s : Step) : Type 0 where
    pub operands : All (OperandFits c p) (operands_of s)
    pub numbers : NumbersFit g s
    pub kinds : KeepsKinds g.locals s
    pub target : LeadsInsideIfAny g (target_of s)
    pub slot : HasSlotIfAny g (kept_by s)
    pub row : RowFitsIfAny g (row_of s)
    pub arguments : ArgumentsFit s

  abbrev pub CodeFits : RoutineData → List Step → Type 0
  CodeFits g code = All (StepFits g) code
