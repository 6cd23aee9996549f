-- What a step of steady code puts into the block of a local has room there.
use Rattle.std.proofs.Common.{◌≡◌, refl, ℕ, ◌+◌, ◌≤◌, List, [], ◌∷◌, length, Option, Some, None, get_or, arith}
use Rattle.c_meaning.specs.declared.frame.Slot.{Slot}
use Rattle.c_meaning.specs.declared.frame.Slot.TheVariants.{ByName as by_name, InBlock as in_block}
use Rattle.source_state.specs.Steps.Locals.{slot}
use Rattle.tac_ir.specs.Sizes.{AllFitBlocks, FitsBlocks}
use Rattle.tac_ir.specs.declared.step.Step.{Step}
use Rattle.tac_ir.specs.declared.step.Step.TheVariants as S
use Rattle.tac_engine.specs.States.{State}
use Rattle.tac_engine.proofs.Stays.{HasSizes}
use Rattle.source_state.specs.Steps.Rooms.{HasRoom}
use Rattle.tac_engine.specs.Rooms.{NextHasRoom, StepHasRoom}
use Rattle.tac_engine.proofs.Lessening.{IsSteadyAt}

module _ (s : State) (sizes : ℕ → ℕ) (has : HasSizes sizes s.core.frame s.core.memory) where
  by_slot : (n x : ℕ) (o : Option Slot) → slot s.core x ≡ o → n ≤ sizes x → HasRoom n o s.core.memory
  by_slot n x (Some (in_block (Some b))) e h = let own = has x b e in omega (arith, h, own)
  by_slot n x (Some (in_block None)) e h = tt
  by_slot n x (Some (by_name v)) e h = tt
  by_slot n x None e h = tt

  room_for : (n x : ℕ) → n ≤ sizes x → HasRoom n (slot s.core x) s.core.memory
  room_for n x h = by_slot n x (slot s.core x) refl h

  step_has : (i : Step) → FitsBlocks sizes s.routine.texts i → StepHasRoom i s
  step_has (S.Forget x n) h = room_for n x h
  step_has (S.Zeros x n) h = room_for n x h
  step_has (S.Text x by n) h = room_for (by + length (get_or s.routine.texts n [])) x h
  step_has (S.Set t a) h = tt
  step_has (S.Clear t) h = tt
  step_has (S.Unary t at op a) h = tt
  step_has (S.Not t a) h = tt
  step_has (S.Convert t at kind a) h = tt
  step_has (S.AsPointer t at a) h = tt
  step_has (S.Number t at a) h = tt
  step_has (S.Binary t at op kind right a b) h = tt
  step_has (S.Compare t at op kind a b) h = tt
  step_has (S.Move t at op n left kind a b) h = tt
  step_has (S.Distance t at n a b) h = tt
  step_has (S.Update t at op n sort right a b) h = tt
  step_has (S.Field t at by a) h = tt
  step_has (S.ElementField t at n kind by a b) h = tt
  step_has (S.Element t at m n addressed kind a b) h = tt
  step_has (S.Part t at by a) h = tt
  step_has (S.Inside t at x by) h = tt
  step_has (S.Load t at access a) h = tt
  step_has (S.Store at access a b) h = tt
  step_has (S.CopyRecord at n a b) h = tt
  step_has (S.Jump to) h = tt
  step_has (S.Branch when a to) h = tt
  step_has (S.Test at op kind when a b to) h = tt
  step_has (S.Case n a to) h = tt
  step_has (S.Call t at f all) h = tt
  step_has (S.CallThrough t at type a all) h = tt
  step_has (S.Library t at which all) h = tt
  step_has (S.Allocate t at r n zeroed a) h = tt
  step_has (S.Begin x n) h = tt
  step_has (S.End x) h = tt
  step_has (S.Began f l) h = tt
  step_has (S.Return a) h = tt
  step_has (S.ReturnHeld t) h = tt
  step_has (S.Fail kind at) h = tt

  next_has : (more : List Step) → AllFitBlocks sizes s.routine.texts more → NextHasRoom more s
  next_has [] h = tt
  next_has (i ∷ more) h = step_has i h.0

-- the theorem
pub has_room : (s : State) → IsSteadyAt s → NextHasRoom s.more s
has_room s h = next_has s h.at.here.sizes h.at.here.has s.more h.at.here.fit
