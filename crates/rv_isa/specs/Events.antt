-- What a run does with the heap, step by step: the requests to the allocator and its replies, what is
-- given back, and the loads and stores of compiled code in the heap's segment.
use Rattle.std.specs.Prelude.{ℕ, zero, suc, ◌*◌, nat_le, ◌==◌, ◌&&◌, ◌||◌, not, Bool, if◌then◌else◌, List, [], ◌∷◌, ◌++◌, Option, Some}
use Rattle.std.specs.List.{list_any}
use Rattle.rv_isa.specs.declared.image.Segment.{Segment}
use Rattle.rv_isa.specs.declared.instruction.Inst.{Inst}
use Rattle.rv_isa.specs.declared.instruction.Inst.TheVariants.{Lb, Lh, Lw, Lbu, Lhu, Sb, Sh, Sw}
use Rattle.rv_isa.specs.Arithmetic.{plus}
use Rattle.rv_isa.specs.Memory.{is_in, word_at}
use Rattle.rv_isa.specs.Decoding.{decoded}
use Rattle.rv_isa.specs.Step.{State, Stepped, Goes, Ends, register, step}

pub data MachineEvent : Type 0 where
  -- so many bytes are asked for
  Request : (bytes : ℕ) → MachineEvent
  -- they are given, from this address on
  Reply : (address : ℕ) → MachineEvent
  -- what was given at this address is given back
  Release : (address : ℕ) → MachineEvent
  -- so many bytes at an address are loaded, or stored
  Load : (address width : ℕ) → MachineEvent
  Store : (address width : ℕ) → MachineEvent

-- ---- the memory map

-- compiled code stands from here on; the allocator's routines stand below it
abbrev pub code_address : ℕ
code_address = 0x00011000

abbrev pub malloc_entry : ℕ
malloc_entry = 0x00010400

abbrev pub malloc_return : ℕ
malloc_return = 0x000105FC

abbrev pub calloc_entry : ℕ
calloc_entry = 0x00010600

abbrev pub calloc_return : ℕ
calloc_return = 0x000107FC

abbrev pub free_entry : ℕ
free_entry = 0x00010800

abbrev pub heap_start : ℕ
heap_start = 0x20000000

abbrev pub is_code : (pc : ℕ) → Bool
is_code pc = nat_le code_address pc

-- the address lies in the heap's segment
abbrev pub is_heap : List Segment → (address : ℕ) → Bool
is_heap segments address = list_any (λ segment. segment.at == heap_start && is_in segment address) segments

-- ---- calls of the allocator

-- a step from code to the first word of a routine, with the arguments in a0 and a1
abbrev pub entered : State → List MachineEvent
entered t =
    if t.pc == malloc_entry then Request (register t 10) ∷ [] else
    (if t.pc == calloc_entry then Request (register t 10 * register t 11) ∷ [] else
    (if t.pc == free_entry && not (register t 10 == 0) then Release (register t 10) ∷ [] else []))

-- the return word of malloc or calloc is done and leads to code, with the answer in a0
abbrev pub returned : (pc : ℕ) → State → List MachineEvent
returned pc t = if (pc == malloc_return || pc == calloc_return) && is_code t.pc then Reply (register t 10) ∷ [] else []

-- ---- accesses by load and store instructions

abbrev pub loads_at : List Segment → (address width : ℕ) → List MachineEvent
loads_at segments address width = if is_heap segments address then Load address width ∷ [] else []

abbrev pub stores_at : List Segment → (address width : ℕ) → List MachineEvent
stores_at segments address width = if is_heap segments address then Store address width ∷ [] else []

abbrev pub accessed : List Segment → State → Option Inst → List MachineEvent
accessed segments s (Some (Lb rd rs1 imm)) = loads_at segments (plus (register s rs1) imm) 1
accessed segments s (Some (Lbu rd rs1 imm)) = loads_at segments (plus (register s rs1) imm) 1
accessed segments s (Some (Lh rd rs1 imm)) = loads_at segments (plus (register s rs1) imm) 2
accessed segments s (Some (Lhu rd rs1 imm)) = loads_at segments (plus (register s rs1) imm) 2
accessed segments s (Some (Lw rd rs1 imm)) = loads_at segments (plus (register s rs1) imm) 4
accessed segments s (Some (Sb rs1 rs2 imm)) = stores_at segments (plus (register s rs1) imm) 1
accessed segments s (Some (Sh rs1 rs2 imm)) = stores_at segments (plus (register s rs1) imm) 2
accessed segments s (Some (Sw rs1 rs2 imm)) = stores_at segments (plus (register s rs1) imm) 4
accessed segments s _ = []

-- ---- steps and runs

-- what a step from s to t does
abbrev pub step_events : List Segment → (s t : State) → List MachineEvent
step_events segments s t =
    if is_code s.pc
    then entered t ++ accessed segments s (decoded (word_at s.memory s.pc))
    else returned s.pc t

-- a step that traps or ends does nothing
abbrev pub events_then : (State → List MachineEvent) → List Segment → State → Stepped → List MachineEvent
events_then next segments s (Goes t) = step_events segments s t ++ next t
events_then next segments s (Ends standing) = []

-- the events of m steps
unfoldable pub events : List Segment → ℕ → State → List MachineEvent
events segments zero s = []
events segments (suc m) s = events_then (events segments m) segments s (step segments s)
