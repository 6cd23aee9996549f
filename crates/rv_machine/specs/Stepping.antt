-- One step of the machine's code, whatever the input and the output are.
use Rattle.std.specs.Prelude.{◌≡◌, ℕ, List, Some}
use Rattle.rv_isa.specs.declared.image.Segment.{Segment}
use Rattle.rv_isa.specs.declared.instruction.Inst.TheVariants.{Ecall}
use Rattle.rv_isa.specs.Decoding.{decoded}
use Rattle.rv_isa.specs.Memory.{word_at}
use Rattle.rv_isa.specs.Step.{State, Goes, Ends, Exits, Trap, Break, calls, step}
use Rattle.rv_machine.specs.declared.hart.Moved.{Moved}
use Rattle.rv_machine.specs.declared.hart.Moved.TheVariants as M

-- the state with the input that is left and the output so far
abbrev pub with_streams : (input output : List ℕ) → State → State
with_streams input output s = record s { input = input; output = output }

-- a step that touches no stream leads to a state, or ends and the state stays; one that calls the
-- environment is left to the caller
abbrev pub StepGives : List Segment → (old new : State) → Moved → Type 0
StepGives places old new M.Goes = (input output : List ℕ) → step places (with_streams input output old) ≡ Goes (with_streams input output new)
StepGives places old new (M.Exits status) = ((input output : List ℕ) → step places (with_streams input output old) ≡ Ends (Exits status)) × (new ≡ old)
StepGives places old new (M.Traps kind) = ((input output : List ℕ) → step places (with_streams input output old) ≡ Ends (Trap kind old.pc)) × (new ≡ old)
StepGives places old new M.Breaks = ((input output : List ℕ) → step places (with_streams input output old) ≡ Ends (Break old.pc)) × (new ≡ old)
StepGives places old new M.Calls = (decoded (word_at old.memory old.pc) ≡ Some Ecall)
    × ((input output : List ℕ) → step places (with_streams input output old) ≡ calls places (with_streams input output old)) × (new ≡ old)
