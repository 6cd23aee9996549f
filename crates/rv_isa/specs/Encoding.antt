-- The instruction table: the word of each instruction, and the ranges of its fields
-- (RISC-V unprivileged specification, chapters on RV32I and M, and the instruction set listings).
use Rattle.std.specs.Prelude.{◌≡◌, ℕ, ◌+◌, ◌*◌, ◌/◌, ◌%◌, ◌^◌, ◌<◌, ℤ, pos, negsuc, ◌≤ℤ◌}
use Rattle.rv_isa.specs.declared.fields.Fields.{Fields}
use Rattle.rv_isa.specs.declared.instruction.Inst.{Inst}
use Rattle.rv_isa.specs.declared.instruction.Inst.TheVariants.{Lui, Auipc, Jal, Jalr, Beq, Bne, Blt, Bge, Bltu, Bgeu, Lb, Lh, Lw, Lbu, Lhu, Sb, Sh}
use Rattle.rv_isa.specs.declared.instruction.Inst.TheVariants.{Sw, Addi, Slti, Sltiu, Xori, Ori, Andi, Slli, Srli, Srai, Add, Sub, Sll, Slt, Sltu}
use Rattle.rv_isa.specs.declared.instruction.Inst.TheVariants.{Xor, Srl, Sra, Or, And, Mul, Mulh, Mulhsu, Mulhu, Div, Divu, Rem, Remu, Fence, Ecall}
use Rattle.rv_isa.specs.declared.instruction.Inst.TheVariants.{Ebreak}
use Rattle.rv_isa.specs.Fields.{word}
use Rattle.rv_isa.specs.TwosComplement.{low_bits}

-- ---- formats, from bit 31 down

-- funct7, rs2, rs1, funct3, rd, opcode
abbrev pub format_r : (funct7 rs2 rs1 funct3 rd opcode : ℕ) → Fields
format_r funct7 rs2 rs1 funct3 rd opcode =
    record { funct7 = funct7; rs2 = rs2; rs1 = rs1; funct3 = funct3; rd = rd; opcode = opcode }

-- imm[11:0], rs1, funct3, rd, opcode
abbrev pub format_i : (imm rs1 funct3 rd opcode : ℕ) → Fields
format_i imm rs1 funct3 rd opcode = format_r (imm / 2 ^ 5) (imm % 2 ^ 5) rs1 funct3 rd opcode

-- imm[11:5], rs2, rs1, funct3, imm[4:0], opcode
abbrev pub format_s : (imm rs2 rs1 funct3 opcode : ℕ) → Fields
format_s imm rs2 rs1 funct3 opcode = format_r (imm / 2 ^ 5) rs2 rs1 funct3 (imm % 2 ^ 5) opcode

-- imm[12], imm[10:5], rs2, rs1, funct3, imm[4:1], imm[11], opcode
abbrev pub format_b : (imm rs2 rs1 funct3 opcode : ℕ) → Fields
format_b imm rs2 rs1 funct3 opcode =
    format_r (imm / 2 ^ 12 * 2 ^ 6 + imm / 2 ^ 5 % 2 ^ 6) rs2 rs1 funct3 (imm / 2 % 2 ^ 4 * 2 + imm / 2 ^ 11 % 2) opcode

-- imm[31:12], rd, opcode
abbrev pub format_u : (imm rd opcode : ℕ) → Fields
format_u imm rd opcode = format_r (imm / 2 ^ 13) (imm / 2 ^ 8 % 2 ^ 5) (imm / 2 ^ 3 % 2 ^ 5) (imm % 2 ^ 3) rd opcode

-- imm[20], imm[10:1], imm[11], imm[19:12], rd, opcode
abbrev pub format_j : (imm rd opcode : ℕ) → Fields
format_j imm rd opcode =
    format_r (imm / 2 ^ 20 * 2 ^ 6 + imm / 2 ^ 5 % 2 ^ 6) (imm / 2 % 2 ^ 4 * 2 + imm / 2 ^ 11 % 2)
    (imm / 2 ^ 15 % 2 ^ 5) (imm / 2 ^ 12 % 2 ^ 3) rd opcode

-- ---- one row for each instruction

-- the fields of its word
abbrev pub row : Inst → Fields
row (Lui rd imm) = format_u imm rd 0x37
row (Auipc rd imm) = format_u imm rd 0x17
row (Jal rd imm) = format_j (low_bits 21 imm) rd 0x6F
row (Jalr rd rs1 imm) = format_i (low_bits 12 imm) rs1 0 rd 0x67
row (Beq rs1 rs2 imm) = format_b (low_bits 13 imm) rs2 rs1 0 0x63
row (Bne rs1 rs2 imm) = format_b (low_bits 13 imm) rs2 rs1 1 0x63
row (Blt rs1 rs2 imm) = format_b (low_bits 13 imm) rs2 rs1 4 0x63
row (Bge rs1 rs2 imm) = format_b (low_bits 13 imm) rs2 rs1 5 0x63
row (Bltu rs1 rs2 imm) = format_b (low_bits 13 imm) rs2 rs1 6 0x63
row (Bgeu rs1 rs2 imm) = format_b (low_bits 13 imm) rs2 rs1 7 0x63
row (Lb rd rs1 imm) = format_i (low_bits 12 imm) rs1 0 rd 0x03
row (Lh rd rs1 imm) = format_i (low_bits 12 imm) rs1 1 rd 0x03
row (Lw rd rs1 imm) = format_i (low_bits 12 imm) rs1 2 rd 0x03
row (Lbu rd rs1 imm) = format_i (low_bits 12 imm) rs1 4 rd 0x03
row (Lhu rd rs1 imm) = format_i (low_bits 12 imm) rs1 5 rd 0x03
row (Sb rs1 rs2 imm) = format_s (low_bits 12 imm) rs2 rs1 0 0x23
row (Sh rs1 rs2 imm) = format_s (low_bits 12 imm) rs2 rs1 1 0x23
row (Sw rs1 rs2 imm) = format_s (low_bits 12 imm) rs2 rs1 2 0x23
row (Addi rd rs1 imm) = format_i (low_bits 12 imm) rs1 0 rd 0x13
row (Slti rd rs1 imm) = format_i (low_bits 12 imm) rs1 2 rd 0x13
row (Sltiu rd rs1 imm) = format_i (low_bits 12 imm) rs1 3 rd 0x13
row (Xori rd rs1 imm) = format_i (low_bits 12 imm) rs1 4 rd 0x13
row (Ori rd rs1 imm) = format_i (low_bits 12 imm) rs1 6 rd 0x13
row (Andi rd rs1 imm) = format_i (low_bits 12 imm) rs1 7 rd 0x13
row (Slli rd rs1 imm) = format_r 0 (low_bits 5 imm) rs1 1 rd 0x13
row (Srli rd rs1 imm) = format_r 0 (low_bits 5 imm) rs1 5 rd 0x13
row (Srai rd rs1 imm) = format_r 0x20 (low_bits 5 imm) rs1 5 rd 0x13
row (Add rd rs1 rs2) = format_r 0 rs2 rs1 0 rd 0x33
row (Sub rd rs1 rs2) = format_r 0x20 rs2 rs1 0 rd 0x33
row (Sll rd rs1 rs2) = format_r 0 rs2 rs1 1 rd 0x33
row (Slt rd rs1 rs2) = format_r 0 rs2 rs1 2 rd 0x33
row (Sltu rd rs1 rs2) = format_r 0 rs2 rs1 3 rd 0x33
row (Xor rd rs1 rs2) = format_r 0 rs2 rs1 4 rd 0x33
row (Srl rd rs1 rs2) = format_r 0 rs2 rs1 5 rd 0x33
row (Sra rd rs1 rs2) = format_r 0x20 rs2 rs1 5 rd 0x33
row (Or rd rs1 rs2) = format_r 0 rs2 rs1 6 rd 0x33
row (And rd rs1 rs2) = format_r 0 rs2 rs1 7 rd 0x33
row (Mul rd rs1 rs2) = format_r 1 rs2 rs1 0 rd 0x33
row (Mulh rd rs1 rs2) = format_r 1 rs2 rs1 1 rd 0x33
row (Mulhsu rd rs1 rs2) = format_r 1 rs2 rs1 2 rd 0x33
row (Mulhu rd rs1 rs2) = format_r 1 rs2 rs1 3 rd 0x33
row (Div rd rs1 rs2) = format_r 1 rs2 rs1 4 rd 0x33
row (Divu rd rs1 rs2) = format_r 1 rs2 rs1 5 rd 0x33
row (Rem rd rs1 rs2) = format_r 1 rs2 rs1 6 rd 0x33
row (Remu rd rs1 rs2) = format_r 1 rs2 rs1 7 rd 0x33
row (Fence rd rs1 imm) = format_i (low_bits 12 imm) rs1 0 rd 0x0F
row Ecall = format_r 0 0 0 0 0 0x73
row Ebreak = format_r 0 1 0 0 0 0x73

-- its word
abbrev pub encoding : Inst → ℕ
encoding i = word (row i)

-- ---- the ranges of its fields

abbrev pub IsRegister : ℕ → Type 0
IsRegister r = r < 2 ^ 5

-- a signed number of 12 bits
abbrev pub IsShort : ℤ → Type 0
IsShort imm = (negsuc 2047 ≤ℤ imm) × (imm ≤ℤ pos 2047)

-- the amount of a shift
abbrev pub IsAmount : ℤ → Type 0
IsAmount imm = (pos 0 ≤ℤ imm) × (imm ≤ℤ pos 31)

-- a distance of a branch: a signed number of 13 bits, even
abbrev pub IsBranchDistance : ℤ → Type 0
IsBranchDistance imm = (negsuc 4095 ≤ℤ imm) × (imm ≤ℤ pos 4095) × (low_bits 1 imm ≡ 0)

-- a distance of a jump: a signed number of 21 bits, even
abbrev pub IsDistance : ℤ → Type 0
IsDistance imm = (negsuc 1048575 ≤ℤ imm) × (imm ≤ℤ pos 1048575) × (low_bits 1 imm ≡ 0)

abbrev pub IsInRange : Inst → Type 0
IsInRange (Lui rd imm) = IsRegister rd × (imm < 2 ^ 20)
IsInRange (Auipc rd imm) = IsRegister rd × (imm < 2 ^ 20)
IsInRange (Jal rd imm) = IsRegister rd × IsDistance imm
IsInRange (Jalr rd rs1 imm) = IsRegister rd × IsRegister rs1 × IsShort imm
IsInRange (Beq rs1 rs2 imm) = IsRegister rs1 × IsRegister rs2 × IsBranchDistance imm
IsInRange (Bne rs1 rs2 imm) = IsRegister rs1 × IsRegister rs2 × IsBranchDistance imm
IsInRange (Blt rs1 rs2 imm) = IsRegister rs1 × IsRegister rs2 × IsBranchDistance imm
IsInRange (Bge rs1 rs2 imm) = IsRegister rs1 × IsRegister rs2 × IsBranchDistance imm
IsInRange (Bltu rs1 rs2 imm) = IsRegister rs1 × IsRegister rs2 × IsBranchDistance imm
IsInRange (Bgeu rs1 rs2 imm) = IsRegister rs1 × IsRegister rs2 × IsBranchDistance imm
IsInRange (Lb rd rs1 imm) = IsRegister rd × IsRegister rs1 × IsShort imm
IsInRange (Lh rd rs1 imm) = IsRegister rd × IsRegister rs1 × IsShort imm
IsInRange (Lw rd rs1 imm) = IsRegister rd × IsRegister rs1 × IsShort imm
IsInRange (Lbu rd rs1 imm) = IsRegister rd × IsRegister rs1 × IsShort imm
IsInRange (Lhu rd rs1 imm) = IsRegister rd × IsRegister rs1 × IsShort imm
IsInRange (Sb rs1 rs2 imm) = IsRegister rs1 × IsRegister rs2 × IsShort imm
IsInRange (Sh rs1 rs2 imm) = IsRegister rs1 × IsRegister rs2 × IsShort imm
IsInRange (Sw rs1 rs2 imm) = IsRegister rs1 × IsRegister rs2 × IsShort imm
IsInRange (Addi rd rs1 imm) = IsRegister rd × IsRegister rs1 × IsShort imm
IsInRange (Slti rd rs1 imm) = IsRegister rd × IsRegister rs1 × IsShort imm
IsInRange (Sltiu rd rs1 imm) = IsRegister rd × IsRegister rs1 × IsShort imm
IsInRange (Xori rd rs1 imm) = IsRegister rd × IsRegister rs1 × IsShort imm
IsInRange (Ori rd rs1 imm) = IsRegister rd × IsRegister rs1 × IsShort imm
IsInRange (Andi rd rs1 imm) = IsRegister rd × IsRegister rs1 × IsShort imm
IsInRange (Slli rd rs1 imm) = IsRegister rd × IsRegister rs1 × IsAmount imm
IsInRange (Srli rd rs1 imm) = IsRegister rd × IsRegister rs1 × IsAmount imm
IsInRange (Srai rd rs1 imm) = IsRegister rd × IsRegister rs1 × IsAmount imm
IsInRange (Add rd rs1 rs2) = IsRegister rd × IsRegister rs1 × IsRegister rs2
IsInRange (Sub rd rs1 rs2) = IsRegister rd × IsRegister rs1 × IsRegister rs2
IsInRange (Sll rd rs1 rs2) = IsRegister rd × IsRegister rs1 × IsRegister rs2
IsInRange (Slt rd rs1 rs2) = IsRegister rd × IsRegister rs1 × IsRegister rs2
IsInRange (Sltu rd rs1 rs2) = IsRegister rd × IsRegister rs1 × IsRegister rs2
IsInRange (Xor rd rs1 rs2) = IsRegister rd × IsRegister rs1 × IsRegister rs2
IsInRange (Srl rd rs1 rs2) = IsRegister rd × IsRegister rs1 × IsRegister rs2
IsInRange (Sra rd rs1 rs2) = IsRegister rd × IsRegister rs1 × IsRegister rs2
IsInRange (Or rd rs1 rs2) = IsRegister rd × IsRegister rs1 × IsRegister rs2
IsInRange (And rd rs1 rs2) = IsRegister rd × IsRegister rs1 × IsRegister rs2
IsInRange (Mul rd rs1 rs2) = IsRegister rd × IsRegister rs1 × IsRegister rs2
IsInRange (Mulh rd rs1 rs2) = IsRegister rd × IsRegister rs1 × IsRegister rs2
IsInRange (Mulhsu rd rs1 rs2) = IsRegister rd × IsRegister rs1 × IsRegister rs2
IsInRange (Mulhu rd rs1 rs2) = IsRegister rd × IsRegister rs1 × IsRegister rs2
IsInRange (Div rd rs1 rs2) = IsRegister rd × IsRegister rs1 × IsRegister rs2
IsInRange (Divu rd rs1 rs2) = IsRegister rd × IsRegister rs1 × IsRegister rs2
IsInRange (Rem rd rs1 rs2) = IsRegister rd × IsRegister rs1 × IsRegister rs2
IsInRange (Remu rd rs1 rs2) = IsRegister rd × IsRegister rs1 × IsRegister rs2
IsInRange (Fence rd rs1 imm) = IsRegister rd × IsRegister rs1 × IsShort imm
IsInRange Ecall = Unit {0}
IsInRange Ebreak = Unit {0}
