-- Which steps are made where: each way of the engine makes some of them, and leaves others to the next one.
use Rattle.std.specs.Prelude.{Bool, true, false}
use Rattle.tac_ir.specs.declared.step.Step.{Step}
use Rattle.tac_ir.specs.declared.step.Step.TheVariants as S

abbrev pub for_jumps : Step → Bool
for_jumps (S.Branch when a to) = true
for_jumps (S.Test at op kind when a b to) = true
for_jumps (S.Case n a to) = true
for_jumps (S.Fail kind at) = true
for_jumps i = false

abbrev pub for_blocks : Step → Bool
for_blocks (S.Begin x size) = true
for_blocks (S.End x) = true
for_blocks (S.Forget x size) = true
for_blocks (S.Zeros x size) = true
for_blocks (S.Text x by n) = true
for_blocks i = for_jumps i

abbrev pub for_places : Step → Bool
for_places (S.Store at access a b) = true
for_places (S.Field t at by a) = true
for_places (S.ElementField t at size kind by a b) = true
for_places (S.Part t at by a) = true
for_places (S.Inside t at x by) = true
for_places (S.CopyRecord at size a b) = true
for_places i = for_blocks i

abbrev pub for_calls : Step → Bool
for_calls (S.Call t at f row) = true
for_calls (S.CallThrough t at type a row) = true
for_calls (S.Library t at which row) = true
for_calls (S.Allocate t at r size zero a) = true
for_calls (S.Return a) = true
for_calls (S.ReturnHeld t) = true
for_calls i = for_places i

-- of one operand
abbrev pub for_one : Step → Bool
for_one (S.Set t a) = true
for_one (S.Clear t) = true
for_one (S.Unary t at op a) = true
for_one (S.Not t a) = true
for_one (S.Convert t at kind a) = true
for_one (S.AsPointer t at a) = true
for_one (S.Number t at a) = true
for_one i = for_calls i

-- of two
abbrev pub for_two : Step → Bool
for_two (S.Binary t at op kind right a b) = true
for_two (S.Compare t at op kind a b) = true
for_two (S.Distance t at size a b) = true
for_two (S.Move t at op size left kind a b) = true
for_two (S.Update t at op size sort right a b) = true
for_two i = for_one i

abbrev pub for_next : Step → Bool
for_next (S.Load t at access a) = true
for_next (S.Element t at n size addressed kind a b) = true
for_next i = for_two i
