-- A hart as contracts see it, and what an instruction does to it.
use Rattle.std.specs.Prelude.{◌≡◌, ℕ, List, [], false}
use Rattle.rv_isa.specs.declared.image.Segment.{Segment}
use Rattle.rv_isa.specs.declared.instruction.Inst.{Inst}
use Rattle.rv_isa.specs.declared.instruction.Inst.TheVariants.{Ecall}
use Rattle.rv_isa.specs.Encoding.{row}
use Rattle.rv_isa.specs.Memory.{is_mapped, writable}
use Rattle.rv_isa.specs.Step.{State, Stepped, Goes, Ends, Exits, Trap, Break, executed, next_pc, writes}
use Rattle.rv_machine.specs.declared.hart.Hart.{Hart}
use Rattle.rv_machine.specs.declared.hart.Moved.{Moved}
use Rattle.rv_machine.specs.declared.hart.Moved.TheVariants as M
use Rattle.rv_machine.specs.View.{segments_in, content_of}

-- which addresses may be used for what
abbrev pub places_of : Hart → List Segment
places_of hart = segments_in hart.memory

-- the state of the machine at a program counter, with no input and no output
abbrev pub state_at : Hart → (pc : ℕ) → State
state_at hart pc = record { registers = hart.registers; pc = pc; memory = content_of hart.memory; input = []; output = [] }

abbrev pub state_of : Hart → State
state_of hart = state_at hart hart.pc

abbrev pub with_pc : Hart → (pc : ℕ) → Hart
with_pc hart pc = record hart { pc = pc }

-- where memory may not be written it is as it was
abbrev pub LeavesUnwritten : (old new : Hart) → Type 0
LeavesUnwritten old new = (a : ℕ) → is_mapped (places_of old) writable a ≡ false → content_of new.memory a ≡ content_of old.memory a

-- nothing is done, and the next instruction follows
abbrev pub passes : State → Stepped
passes s = Goes (record s { pc = next_pc s })

-- an instruction leads from a state to the next one, or ends and the state stays
abbrev pub Executes : (old new : State) → Stepped → Moved → Type 0
Executes old new stepped M.Goes = stepped ≡ Goes new
Executes old new stepped (M.Exits status) = (stepped ≡ Ends (Exits status)) × (new ≡ old)
Executes old new stepped (M.Traps kind) = (stepped ≡ Ends (Trap kind old.pc)) × (new ≡ old)
Executes old new stepped M.Breaks = (stepped ≡ Ends (Break old.pc)) × (new ≡ old)
Executes old new stepped M.Calls = ⊥

-- an instruction that calls nothing
abbrev pub Does : List Segment → (old new : State) → Inst → Moved → Type 0
Does segments old new i moved = Executes old new (executed segments old i) moved

-- an instruction gives a register a word, by the registers alone
abbrev pub Computes : (registers : List ℕ) → Inst → (rd word : ℕ) → Type 0
Computes registers i rd word = (segments : List Segment) (s : State)
    → executed segments (record s { registers = registers }) i ≡ writes (record s { registers = registers }) rd word

-- the opcode of an instruction's word
abbrev pub HasOpcode : ℕ → Inst → Type 0
HasOpcode opcode i = (row i).opcode ≡ opcode

-- an instruction on two registers that is not of the extension M, by its word
abbrev pub IsBasic : Inst → Type 0
IsBasic i = ((row i).opcode ≡ 0x33) × ((row i).funct7 ≡ 1 → ⊥)

-- an instruction of the extension M, by its word
abbrev pub IsOfM : Inst → Type 0
IsOfM i = ((row i).opcode ≡ 0x33) × ((row i).funct7 ≡ 1)

-- each instruction; a call of the environment is left to the caller
abbrev pub Performs : List Segment → (old new : State) → Inst → Moved → Type 0
Performs segments old new Ecall moved = (moved ≡ M.Calls) × (new ≡ old)
Performs segments old new i moved = Executes old new (executed segments old i) moved
