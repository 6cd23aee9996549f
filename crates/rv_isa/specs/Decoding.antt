-- The instruction of a word, by nested tests of its fields. That these are the rows of the
-- instruction table and no others is a law of the table and this decoder.
use Rattle.std.specs.Prelude.{ℕ, ◌+◌, ◌*◌, ◌/◌, ◌%◌, ◌^◌, ◌==◌, ◌&&◌, if◌then◌else◌, Option, Some, None, ℤ, pos}
use Rattle.rv_isa.specs.declared.fields.Fields.{Fields}
use Rattle.rv_isa.specs.declared.instruction.Inst.{Inst}
use Rattle.rv_isa.specs.declared.instruction.Inst.TheVariants.{Lui, Auipc, Jal, Jalr, Beq, Bne, Blt, Bge, Bltu, Bgeu, Lb, Lh, Lw, Lbu, Lhu, Sb, Sh}
use Rattle.rv_isa.specs.declared.instruction.Inst.TheVariants.{Sw, Addi, Slti, Sltiu, Xori, Ori, Andi, Slli, Srli, Srai, Add, Sub, Sll, Slt, Sltu}
use Rattle.rv_isa.specs.declared.instruction.Inst.TheVariants.{Xor, Srl, Sra, Or, And, Mul, Mulh, Mulhsu, Mulhu, Div, Divu, Rem, Remu, Fence, Ecall}
use Rattle.rv_isa.specs.declared.instruction.Inst.TheVariants.{Ebreak}
use Rattle.rv_isa.specs.Fields.{fields_of}
use Rattle.rv_isa.specs.TwosComplement.{signed}

-- ---- the immediates of the formats

abbrev pub imm_i : Fields → ℤ
imm_i f = signed 12 (f.rs2 + 2 ^ 5 * f.funct7)

abbrev pub imm_s : Fields → ℤ
imm_s f = signed 12 (f.rd + 2 ^ 5 * f.funct7)

abbrev pub imm_b : Fields → ℤ
imm_b f = signed 13 (f.rd / 2 * 2 + 2 ^ 5 * (f.funct7 % 2 ^ 6) + 2 ^ 11 * (f.rd % 2) + 2 ^ 12 * (f.funct7 / 2 ^ 6))

abbrev pub imm_u : Fields → ℕ
imm_u f = f.funct3 + 2 ^ 3 * f.rs1 + 2 ^ 8 * f.rs2 + 2 ^ 13 * f.funct7

abbrev pub imm_j : Fields → ℤ
imm_j f = signed 21 (f.rs2 / 2 * 2 + 2 ^ 5 * (f.funct7 % 2 ^ 6) + 2 ^ 11 * (f.rs2 % 2) + 2 ^ 12 * f.funct3 + 2 ^ 15 * f.rs1 + 2 ^ 20 * (f.funct7 / 2 ^ 6))

-- ---- by opcode

abbrev pub indirect_jump_of : Fields → Option Inst
indirect_jump_of f = if f.funct3 == 0 then Some (Jalr f.rd f.rs1 (imm_i f)) else None

abbrev pub branch_of : Fields → Option Inst
branch_of f =
    if f.funct3 == 0 then Some (Beq f.rs1 f.rs2 (imm_b f)) else
    (if f.funct3 == 1 then Some (Bne f.rs1 f.rs2 (imm_b f)) else
    (if f.funct3 == 4 then Some (Blt f.rs1 f.rs2 (imm_b f)) else
    (if f.funct3 == 5 then Some (Bge f.rs1 f.rs2 (imm_b f)) else
    (if f.funct3 == 6 then Some (Bltu f.rs1 f.rs2 (imm_b f)) else
    (if f.funct3 == 7 then Some (Bgeu f.rs1 f.rs2 (imm_b f)) else
    None)))))

abbrev pub load_of : Fields → Option Inst
load_of f =
    if f.funct3 == 0 then Some (Lb f.rd f.rs1 (imm_i f)) else
    (if f.funct3 == 1 then Some (Lh f.rd f.rs1 (imm_i f)) else
    (if f.funct3 == 2 then Some (Lw f.rd f.rs1 (imm_i f)) else
    (if f.funct3 == 4 then Some (Lbu f.rd f.rs1 (imm_i f)) else
    (if f.funct3 == 5 then Some (Lhu f.rd f.rs1 (imm_i f)) else
    None))))

abbrev pub store_of : Fields → Option Inst
store_of f =
    if f.funct3 == 0 then Some (Sb f.rs1 f.rs2 (imm_s f)) else
    (if f.funct3 == 1 then Some (Sh f.rs1 f.rs2 (imm_s f)) else
    (if f.funct3 == 2 then Some (Sw f.rs1 f.rs2 (imm_s f)) else
    None))

-- the shifts by an amount have a funct7
abbrev pub right_shift_of : Fields → Option Inst
right_shift_of f =
    if f.funct7 == 0 then Some (Srli f.rd f.rs1 (pos f.rs2)) else
    (if f.funct7 == 0x20 then Some (Srai f.rd f.rs1 (pos f.rs2)) else None)

abbrev pub immediate_of : Fields → Option Inst
immediate_of f =
    if f.funct3 == 0 then Some (Addi f.rd f.rs1 (imm_i f)) else
    (if f.funct3 == 1 then (if f.funct7 == 0 then Some (Slli f.rd f.rs1 (pos f.rs2)) else None) else
    (if f.funct3 == 2 then Some (Slti f.rd f.rs1 (imm_i f)) else
    (if f.funct3 == 3 then Some (Sltiu f.rd f.rs1 (imm_i f)) else
    (if f.funct3 == 4 then Some (Xori f.rd f.rs1 (imm_i f)) else
    (if f.funct3 == 5 then right_shift_of f else
    (if f.funct3 == 6 then Some (Ori f.rd f.rs1 (imm_i f)) else
    (if f.funct3 == 7 then Some (Andi f.rd f.rs1 (imm_i f)) else
    None)))))))

-- funct7 0, 0x20 and 1
abbrev pub basic_of : Fields → Option Inst
basic_of f =
    if f.funct3 == 0 then Some (Add f.rd f.rs1 f.rs2) else
    (if f.funct3 == 1 then Some (Sll f.rd f.rs1 f.rs2) else
    (if f.funct3 == 2 then Some (Slt f.rd f.rs1 f.rs2) else
    (if f.funct3 == 3 then Some (Sltu f.rd f.rs1 f.rs2) else
    (if f.funct3 == 4 then Some (Xor f.rd f.rs1 f.rs2) else
    (if f.funct3 == 5 then Some (Srl f.rd f.rs1 f.rs2) else
    (if f.funct3 == 6 then Some (Or f.rd f.rs1 f.rs2) else
    (if f.funct3 == 7 then Some (And f.rd f.rs1 f.rs2) else
    None)))))))

abbrev pub other_of : Fields → Option Inst
other_of f =
    if f.funct3 == 0 then Some (Sub f.rd f.rs1 f.rs2) else
    (if f.funct3 == 5 then Some (Sra f.rd f.rs1 f.rs2) else
    None)

abbrev pub product_of : Fields → Option Inst
product_of f =
    if f.funct3 == 0 then Some (Mul f.rd f.rs1 f.rs2) else
    (if f.funct3 == 1 then Some (Mulh f.rd f.rs1 f.rs2) else
    (if f.funct3 == 2 then Some (Mulhsu f.rd f.rs1 f.rs2) else
    (if f.funct3 == 3 then Some (Mulhu f.rd f.rs1 f.rs2) else
    (if f.funct3 == 4 then Some (Div f.rd f.rs1 f.rs2) else
    (if f.funct3 == 5 then Some (Divu f.rd f.rs1 f.rs2) else
    (if f.funct3 == 6 then Some (Rem f.rd f.rs1 f.rs2) else
    (if f.funct3 == 7 then Some (Remu f.rd f.rs1 f.rs2) else
    None)))))))

abbrev pub register_of : Fields → Option Inst
register_of f =
    if f.funct7 == 0 then basic_of f else
    (if f.funct7 == 0x20 then other_of f else
    (if f.funct7 == 1 then product_of f else None))

abbrev pub fence_of : Fields → Option Inst
fence_of f = if f.funct3 == 0 then Some (Fence f.rd f.rs1 (imm_i f)) else None

abbrev pub system_of : Fields → Option Inst
system_of f =
    if f.funct7 == 0 && f.rs1 == 0 && f.funct3 == 0 && f.rd == 0
    then (if f.rs2 == 0 then Some Ecall else (if f.rs2 == 1 then Some Ebreak else None))
    else None

abbrev pub by_opcode : Fields → Option Inst
by_opcode f =
    if f.opcode == 0x37 then Some (Lui f.rd (imm_u f)) else
    (if f.opcode == 0x17 then Some (Auipc f.rd (imm_u f)) else
    (if f.opcode == 0x6F then Some (Jal f.rd (imm_j f)) else
    (if f.opcode == 0x67 then indirect_jump_of f else
    (if f.opcode == 0x63 then branch_of f else
    (if f.opcode == 0x03 then load_of f else
    (if f.opcode == 0x23 then store_of f else
    (if f.opcode == 0x13 then immediate_of f else
    (if f.opcode == 0x33 then register_of f else
    (if f.opcode == 0x0F then fence_of f else
    (if f.opcode == 0x73 then system_of f else
    None))))))))))

-- the instruction of a word, where a row has it
unfoldable pub decoded : ℕ → Option Inst
decoded w = by_opcode (fields_of w)
