-- One step of the machine (RISC-V unprivileged specification, chapters on RV32I and M).
use Rattle.std.specs.Prelude.{◌≡◌, ℕ, ◌+◌, ◌*◌, ◌/◌, ◌%◌, ◌^◌, min, nat_lt, ◌==◌, ◌&&◌, Bool, not, if◌then◌else◌, List, ◌++◌, take, drop, length}
use Rattle.std.specs.Prelude.{slice_index, slice_set, Option, Some, None, ℤ, bit_and, bit_or, bit_xor}
use Rattle.std.specs.Int.{w8, w16, cast_signed}
use Rattle.lay_base.specs.declared.faults.TrapKind.{TrapKind}
use Rattle.lay_base.specs.declared.faults.TrapKind.TheVariants.{Unmapped, Illegal, Jump, Misaligned, Call}
use Rattle.rv_isa.specs.declared.image.Segment.{Segment}
use Rattle.rv_isa.specs.declared.instruction.Inst.{Inst}
use Rattle.rv_isa.specs.declared.instruction.Inst.TheVariants.{Lui, Auipc, Jal, Jalr, Beq, Bne, Blt, Bge, Bltu, Bgeu, Lb, Lh, Lw, Lbu, Lhu, Sb, Sh}
use Rattle.rv_isa.specs.declared.instruction.Inst.TheVariants.{Sw, Addi, Slti, Sltiu, Xori, Ori, Andi, Slli, Srli, Srai, Add, Sub, Sll, Slt, Sltu}
use Rattle.rv_isa.specs.declared.instruction.Inst.TheVariants.{Xor, Srl, Sra, Or, And, Mul, Mulh, Mulhsu, Mulhu, Div, Divu, Rem, Remu, Fence, Ecall}
use Rattle.rv_isa.specs.declared.instruction.Inst.TheVariants.{Ebreak}
use Rattle.rv_isa.specs.Memory.{Memory, executable, writable, readable, are_mapped, half_at, word_at, with_byte, with_half, with_word, bytes_at, with_bytes}
use Rattle.rv_isa.specs.Decoding.{decoded}
use Rattle.rv_isa.specs.Arithmetic.{one_if, plus, extended, is_less, sum, difference, product, high_signed, high_mixed, high_unsigned, shifted_left}
use Rattle.rv_isa.specs.Arithmetic.{shifted_right, shifted_right_signed, quotient, quotient_unsigned, remainder, remainder_unsigned}

-- the registers x0 to x31, the program counter, memory, the input left and the output
pub record State : Type 0 where
  pub registers : List ℕ
  pub pc : ℕ
  pub memory : Memory
  pub input : List ℕ
  pub output : List ℕ

-- how a machine stands: it runs, it has ended with a status, or it has stopped at an instruction
pub data Standing : Type 0 where
  Running : Standing
  Exits : (status : ℕ) → Standing
  Trap : (kind : TrapKind) (pc : ℕ) → Standing
  Break : (pc : ℕ) → Standing

-- a step leads to a state, or the machine ends and its state stays
pub data Stepped : Type 0 where
  Goes : State → Stepped
  Ends : Standing → Stepped

-- ---- registers

abbrev pub register : State → ℕ → ℕ
register s r = slice_index s.registers r

-- register 0 stays 0
abbrev pub with_register : List ℕ → (r value : ℕ) → List ℕ
with_register registers r v = if r == 0 then registers else slice_set registers r v

-- ---- the parts of instructions

abbrev pub next_pc : State → ℕ
next_pc s = (s.pc + 4) % 2 ^ 32

abbrev pub traps : State → TrapKind → Stepped
traps s kind = Ends (Trap kind s.pc)

-- the register gets the value, and the next instruction follows
abbrev pub writes : State → (rd value : ℕ) → Stepped
writes s rd v = Goes (record s { registers = with_register s.registers rd v; pc = next_pc s })

-- a jump, whose target is to be a multiple of 4; the register gets the place after it
abbrev pub jumps : State → (rd target : ℕ) → Stepped
jumps s rd target = if target % 4 == 0 then Goes (record s { registers = with_register s.registers rd (next_pc s); pc = target }) else traps s Jump

-- a branch: a jump to a distance where the test holds, else the next instruction follows
abbrev pub branches : State → Bool → (distance : ℤ) → Stepped
branches s test distance = if test then jumps s 0 (plus s.pc distance) else Goes (record s { pc = next_pc s })

-- an access to n bytes, at a multiple of n, of mapped memory
abbrev pub accesses : List Segment → State → (flag address n : ℕ) → Stepped → Stepped
accesses segments s flag address n done =
    if address % n == 0 then (if are_mapped segments flag address n then done else traps s Unmapped) else traps s Misaligned

abbrev pub stores : State → Memory → Stepped
stores s memory = Goes (record s { memory = memory; pc = next_pc s })

-- ---- the three calls, by the number in a7 with arguments in a0, a1 and a2

-- exit: the low 8 bits of a0 are the status
abbrev pub exit_call : State → Stepped
exit_call s = Ends (Exits (register s 10 % 2 ^ 8))

-- write: a2 bytes from a1 on go to the output, and a0 gets their number
abbrev pub write_call : List Segment → State → Stepped
write_call segments s =
    if are_mapped segments readable (register s 11) (register s 12)
    then Goes (record s {
      registers = with_register s.registers 10 (register s 12);
      pc = next_pc s;
      output = s.output ++ bytes_at s.memory (register s 11) (register s 12);
    })
    else traps s Unmapped

-- read: the next bytes of the input, at most a2, come to a1, and a0 gets their number
abbrev pub read_call : List Segment → State → Stepped
read_call segments s =
    let n = min (register s 12) (length s.input) in
    if are_mapped segments writable (register s 11) (register s 12)
    then Goes (record s {
      registers = with_register s.registers 10 n;
      pc = next_pc s;
      memory = with_bytes s.memory (register s 11) (take n s.input);
      input = drop n s.input;
    })
    else traps s Unmapped

abbrev pub calls : List Segment → State → Stepped
calls segments s =
    if register s 17 == 93 then exit_call s else
    (if register s 17 == 64 && register s 10 == 1 then write_call segments s else
    (if register s 17 == 63 && register s 10 == 0 then read_call segments s else traps s Call))

-- ---- each instruction

abbrev pub executed : List Segment → State → Inst → Stepped
executed segments s (Lui rd imm) = writes s rd (imm * 2 ^ 12)
executed segments s (Auipc rd imm) = writes s rd ((s.pc + imm * 2 ^ 12) % 2 ^ 32)
executed segments s (Jal rd imm) = jumps s rd (plus s.pc imm)
executed segments s (Jalr rd rs1 imm) = jumps s rd (plus (register s rs1) imm / 2 * 2)
executed segments s (Beq rs1 rs2 imm) = branches s (register s rs1 == register s rs2) imm
executed segments s (Bne rs1 rs2 imm) = branches s (not (register s rs1 == register s rs2)) imm
executed segments s (Blt rs1 rs2 imm) = branches s (is_less (register s rs1) (register s rs2)) imm
executed segments s (Bge rs1 rs2 imm) = branches s (not (is_less (register s rs1) (register s rs2))) imm
executed segments s (Bltu rs1 rs2 imm) = branches s (nat_lt (register s rs1) (register s rs2)) imm
executed segments s (Bgeu rs1 rs2 imm) = branches s (not (nat_lt (register s rs1) (register s rs2))) imm
executed segments s (Lb rd rs1 imm) =
    let a = plus (register s rs1) imm in accesses segments s readable a 1 (writes s rd (extended (cast_signed w8 (s.memory a))))
executed segments s (Lh rd rs1 imm) =
    let a = plus (register s rs1) imm in accesses segments s readable a 2 (writes s rd (extended (cast_signed w16 (half_at s.memory a))))
executed segments s (Lw rd rs1 imm) = let a = plus (register s rs1) imm in accesses segments s readable a 4 (writes s rd (word_at s.memory a))
executed segments s (Lbu rd rs1 imm) = let a = plus (register s rs1) imm in accesses segments s readable a 1 (writes s rd (s.memory a))
executed segments s (Lhu rd rs1 imm) = let a = plus (register s rs1) imm in accesses segments s readable a 2 (writes s rd (half_at s.memory a))
executed segments s (Sb rs1 rs2 imm) = let a = plus (register s rs1) imm in accesses segments s writable a 1 (stores s (with_byte s.memory a (register s rs2)))
executed segments s (Sh rs1 rs2 imm) = let a = plus (register s rs1) imm in accesses segments s writable a 2 (stores s (with_half s.memory a (register s rs2)))
executed segments s (Sw rs1 rs2 imm) = let a = plus (register s rs1) imm in accesses segments s writable a 4 (stores s (with_word s.memory a (register s rs2)))
executed segments s (Addi rd rs1 imm) = writes s rd (plus (register s rs1) imm)
executed segments s (Slti rd rs1 imm) = writes s rd (one_if (is_less (register s rs1) (extended imm)))
executed segments s (Sltiu rd rs1 imm) = writes s rd (one_if (nat_lt (register s rs1) (extended imm)))
executed segments s (Xori rd rs1 imm) = writes s rd (bit_xor (register s rs1) (extended imm))
executed segments s (Ori rd rs1 imm) = writes s rd (bit_or (register s rs1) (extended imm))
executed segments s (Andi rd rs1 imm) = writes s rd (bit_and (register s rs1) (extended imm))
executed segments s (Slli rd rs1 imm) = writes s rd (shifted_left (register s rs1) (extended imm))
executed segments s (Srli rd rs1 imm) = writes s rd (shifted_right (register s rs1) (extended imm))
executed segments s (Srai rd rs1 imm) = writes s rd (shifted_right_signed (register s rs1) (extended imm))
executed segments s (Add rd rs1 rs2) = writes s rd (sum (register s rs1) (register s rs2))
executed segments s (Sub rd rs1 rs2) = writes s rd (difference (register s rs1) (register s rs2))
executed segments s (Sll rd rs1 rs2) = writes s rd (shifted_left (register s rs1) (register s rs2))
executed segments s (Slt rd rs1 rs2) = writes s rd (one_if (is_less (register s rs1) (register s rs2)))
executed segments s (Sltu rd rs1 rs2) = writes s rd (one_if (nat_lt (register s rs1) (register s rs2)))
executed segments s (Xor rd rs1 rs2) = writes s rd (bit_xor (register s rs1) (register s rs2))
executed segments s (Srl rd rs1 rs2) = writes s rd (shifted_right (register s rs1) (register s rs2))
executed segments s (Sra rd rs1 rs2) = writes s rd (shifted_right_signed (register s rs1) (register s rs2))
executed segments s (Or rd rs1 rs2) = writes s rd (bit_or (register s rs1) (register s rs2))
executed segments s (And rd rs1 rs2) = writes s rd (bit_and (register s rs1) (register s rs2))
executed segments s (Mul rd rs1 rs2) = writes s rd (product (register s rs1) (register s rs2))
executed segments s (Mulh rd rs1 rs2) = writes s rd (high_signed (register s rs1) (register s rs2))
executed segments s (Mulhsu rd rs1 rs2) = writes s rd (high_mixed (register s rs1) (register s rs2))
executed segments s (Mulhu rd rs1 rs2) = writes s rd (high_unsigned (register s rs1) (register s rs2))
executed segments s (Div rd rs1 rs2) = writes s rd (quotient (register s rs1) (register s rs2))
executed segments s (Divu rd rs1 rs2) = writes s rd (quotient_unsigned (register s rs1) (register s rs2))
executed segments s (Rem rd rs1 rs2) = writes s rd (remainder (register s rs1) (register s rs2))
executed segments s (Remu rd rs1 rs2) = writes s rd (remainder_unsigned (register s rs1) (register s rs2))
executed segments s (Fence rd rs1 imm) = Goes (record s { pc = next_pc s })
executed segments s Ecall = calls segments s
executed segments s Ebreak = Ends (Break s.pc)

-- no row has the word
abbrev pub performed : List Segment → State → Option Inst → Stepped
performed segments s None = traps s Illegal
performed segments s (Some i) = executed segments s i

-- the word at the program counter is fetched, decoded and executed
unfoldable pub step : List Segment → State → Stepped
step segments s =
    if are_mapped segments executable s.pc 4 then performed segments s (decoded (word_at s.memory s.pc)) else traps s Unmapped

-- the state is before a call of the environment with this number
pub record IsAtCall (number : ℕ) (s : State) : Type 0 where
  pub instruction : decoded (word_at s.memory s.pc) ≡ Some Ecall
  pub in_a7 : register s 17 ≡ number
