-- What a step of the machine's code does to the machine and to the two streams.
use Rattle.std.specs.Prelude.{◌≡◌, ℕ, ◌<◌, List, ◌++◌, length, take, Bool, true, false, Option, Some}
use Rattle.lay_base.specs.Known.{Rose, Keeps, Appends, Consumes}
use Rattle.rv_isa.specs.Memory.{bytes_at}
use Rattle.rv_isa.specs.Step.{State, Stepped, Standing, Exits, Trap, Break, Goes, Ends, register, IsAtCall}
use Rattle.rv_machine.specs.declared.machine.Advance.{Advance}
use Rattle.rv_machine.specs.declared.machine.Advance.TheVariants as A
use Rattle.rv_machine.specs.Stepping.{with_streams}

-- what can be observed of the input and of the output
pub record Streams : Type 0 where
  pub left : Option (List ℕ)
  pub read_faults : ℕ
  pub written : Option (List ℕ)
  pub write_faults : ℕ

abbrev pub streams : (left : Option (List ℕ)) (read_faults : ℕ) (written : Option (List ℕ)) (write_faults : ℕ) → Streams
streams left read_faults written write_faults = record { left = left; read_faults = read_faults; written = written; write_faults = write_faults }

-- no call on a stream failed
pub record AreSteady (before now : Streams) : Type 0 where
  pub read_faults : now.read_faults ≡ before.read_faults
  pub write_faults : now.write_faults ≡ before.write_faults

-- registers and program counter stay
pub record SameButMemory (old new : State) : Type 0 where
  pub registers : new.registers ≡ old.registers
  pub pc : new.pc ≡ old.pc

-- what is done goes on: it neither ends the program nor traps
abbrev pub goes : Stepped → Bool
goes (Goes t) = true
goes (Ends standing) = false

abbrev pub GoesOn : (does : State → Stepped) → State → Type 0
GoesOn does s = (input output : List ℕ) → goes (does (with_streams input output s)) ≡ true

-- a first part of what was asked for has been read
abbrev pub ReadsPart : State → (before now : Streams) → Type 0
ReadsPart s before now = (piece : List ℕ) × (length piece < register s 12) × Consumes before.left now.left piece × Keeps before.written now.written

-- a first part of what was to be written has been written
abbrev pub WritesPart : State → (before now : Streams) → Type 0
WritesPart s before now = (k : ℕ) × Appends before.written now.written (take k (bytes_at s.memory (register s 11) (register s 12))) × Keeps before.left now.left

-- what is done leads from one state to the next, for known input: what it takes of the input, and what it writes
abbrev pub Moves : (does : State → Stepped) → (old new : State) → (before now : Streams) → (input : List ℕ) → Type 0
Moves does old new before now input =
    (rest : List ℕ) × (piece : List ℕ) × (now.left ≡ Some rest) × Appends before.written now.written piece
    × ((output : List ℕ) → does (with_streams input output old) ≡ Goes (with_streams rest (output ++ piece) new))

-- the program comes to an end, and the state stays
abbrev pub Stops : (does : State → Stepped) → (old new : State) → (before now : Streams) → Standing → Type 0
Stops does old new before now standing = (now ≡ before) × (new ≡ old) × ((input output : List ℕ) → does (with_streams input output old) ≡ Ends standing)

-- what is done, by the answer of the code
abbrev pub AdvanceGives : (does : State → Stepped) → (old new : State) → (before now : Streams) → Advance → Type 0
AdvanceGives does old new before now A.Goes = AreSteady before now × ((input : List ℕ) → before.left ≡ Some input → Moves does old new before now input)
AdvanceGives does old new before now (A.Exits status) = Stops does old new before now (Exits status)
AdvanceGives does old new before now (A.Traps kind) = Stops does old new before now (Trap kind old.pc)
AdvanceGives does old new before now A.Breaks = Stops does old new before now (Break old.pc)
AdvanceGives does old new before now A.ReadFails =
    Rose before.read_faults now.read_faults × SameButMemory old new × IsAtCall 63 old × GoesOn does old × ReadsPart old before now
AdvanceGives does old new before now A.WriteFails =
    Rose before.write_faults now.write_faults × SameButMemory old new × IsAtCall 64 old × GoesOn does old × WritesPart old before now
