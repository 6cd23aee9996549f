-- Code of good steps fits.
use Rattle.std.proofs.Common.{◌≡◌, ℕ, zero, suc, ◌<◌, ◌≤◌, true, List, [], ◌∷◌, length, Option, Some, None, arith, slice_get}
use Rattle.std.proofs.lemmas.List.Elements.{All-from_recursion}
use Rattle.std.specs.List.{AllByRecursion as Each}
use Rattle.std.specs.Prelude.{get_or, slice_index}
use Rattle.c_typed.specs.Programs.{ProgramData}
use Rattle.rv_code.specs.Frames.{block_sizes, kept_by, kept_in, past, slots}
use Rattle.rv_code.specs.declared.layout.Places.{Places}
use Rattle.rv_emit.specs.Fitting.{CodeFits, HasSlotIfAny, NumbersFit, OperandFits, StepFits, operands_of}
use Rattle.rv_emit.specs.Maps.{HasBody}
use Rattle.tac_ir.specs.Code.{Code, RoutineData}
use Rattle.tac_ir.specs.Jumps.{JumpsWithin, LeadsInsideIfAny, target_of}
use Rattle.tac_ir.specs.Kinds.{KeepsKinds, KindsWithin}
use Rattle.tac_ir.specs.declared.step.Operand.{Operand}
use Rattle.tac_ir.specs.declared.step.Operand.TheVariants as O
use Rattle.tac_ir.specs.declared.step.Step.{Step}
use Rattle.tac_ir.specs.declared.step.Step.TheVariants as S
use Rattle.compiled_files.proofs.Soundness.Adding.{NumbersSit}
use Rattle.compiled_files.proofs.Soundness.Adding as Adding

-- ---- the temporaries of steps have words

kept_below : (code : List Step) (least k : ℕ) (d : Step) → k < length code → past (kept_by (get_or code k d)) ≤ kept_in code least
kept_below [] least k d h = absurd (let r : k < 0 = h in omega (arith, r))
kept_below (s ∷ more) least zero d h = omega arith
kept_below (s ∷ more) least (suc k) d h = let z = kept_below more least k d (omega (arith, h)) in omega (arith, z)

has_slot : (g : RoutineData) (o : Option ℕ) → past o ≤ slots g → HasSlotIfAny g o
has_slot g None h = tt
has_slot g (Some t) h = omega (arith, h)

module _ (p : ProgramData) (c : Code) (places : Places) (g : RoutineData) (size : ℕ → ℕ)
    -- the block of each local has its size
    (blocks : (x : ℕ) → slice_get g.locals x ≡ Some true → slice_index (block_sizes g) x ≡ size x) where
  abbrev Good : Step → Type 0
  Good = Adding.Good p c places g size (HasBody c)

  operand_fits : (a : Operand) → Adding.Fits p c places g size (HasBody c) a → OperandFits c places a
  operand_fits (O.Word n) h = h
  operand_fits O.Null h = tt
  operand_fits (O.Function f) h = h
  operand_fits (O.Object n) h = h
  operand_fits (O.Temp kind t at) h = tt

  operands_fit : (all : List Operand) → Each (Adding.Fits p c places g size (HasBody c)) all → Each (OperandFits c places) all
  operands_fit [] h = tt
  operands_fit (a ∷ more) h = (operand_fits a h.0, operands_fit more h.1)

  numbers_fit : (s : Step) → NumbersSit size g.texts s → KeepsKinds g.locals s → NumbersFit g s
  numbers_fit (S.Inside t at x by) h k = let e = blocks x k.1 in omega (arith, h, e)
  numbers_fit (S.Begin x n) h k = let e = blocks x k.1 in omega (arith, h, e)
  numbers_fit (S.Forget x n) h k = let e = blocks x k.1 in omega (arith, h, e)
  numbers_fit (S.Zeros x n) h k = let e = blocks x k.1 in omega (arith, h, e)
  numbers_fit (S.Text x by n) h k = let e = blocks x k.1 in omega (arith, h, e)
  numbers_fit (S.Set t a) h k = h
  numbers_fit (S.Clear t) h k = h
  numbers_fit (S.Unary t at op a) h k = h
  numbers_fit (S.Not t a) h k = h
  numbers_fit (S.Convert t at kind a) h k = h
  numbers_fit (S.AsPointer t at a) h k = h
  numbers_fit (S.Number t at a) h k = h
  numbers_fit (S.Binary t at op kind right a b) h k = h
  numbers_fit (S.Compare t at op kind a b) h k = h
  numbers_fit (S.Move t at op n left kind a b) h k = h
  numbers_fit (S.Distance t at n a b) h k = h
  numbers_fit (S.Update t at op n sort right a b) h k = h
  numbers_fit (S.Field t at by a) h k = h
  numbers_fit (S.ElementField t at n kind by a b) h k = h
  numbers_fit (S.Element t at m n addressed kind a b) h k = h
  numbers_fit (S.Part t at by a) h k = h
  numbers_fit (S.Load t at access a) h k = h
  numbers_fit (S.Store at access a b) h k = h
  numbers_fit (S.CopyRecord at n a b) h k = h
  numbers_fit (S.Jump to) h k = h
  numbers_fit (S.Branch when a to) h k = h
  numbers_fit (S.Test at op kind when a b to) h k = h
  numbers_fit (S.Case n a to) h k = h
  numbers_fit (S.Call t at f all) h k = h
  numbers_fit (S.CallThrough t at ty a all) h k = h
  numbers_fit (S.Library t at which all) h k = h
  numbers_fit (S.Allocate t at r n zeroed a) h k = h
  numbers_fit (S.End x) h k = h
  numbers_fit (S.Began f l) h k = h
  numbers_fit (S.Return a) h k = h
  numbers_fit (S.ReturnHeld t) h k = h
  numbers_fit (S.Fail kind at) h k = h

  step_fits : (s : Step) → Good s → KeepsKinds g.locals s → LeadsInsideIfAny g (target_of s) → HasSlotIfAny g (kept_by s) → StepFits p.types c places g s
  step_fits s h kinds target slot = record {
    operands = All-from_recursion (OperandFits c places) (operands_of s) (operands_fit (operands_of s) h.0);
    numbers = numbers_fit s h.1 kinds;
    kinds = kinds;
    target = target;
    slot = slot;
    row = h.2;
    arguments = h.3;
  }

  pub code_fits : Each Good g.code → KindsWithin g → JumpsWithin g → CodeFits p.types c places g g.code
  code_fits good kinds jumps k d h =
      step_fits (get_or g.code k d) (All-from_recursion Good g.code good k d h) (kinds k d h) (jumps k d h)
      (has_slot g (kept_by (get_or g.code k d)) (kept_below g.code (length g.locals) k d h))
