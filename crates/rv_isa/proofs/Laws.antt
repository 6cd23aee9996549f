-- The laws of the table and the decoder: an instruction's word is decoded as the instruction, and
-- what a word is decoded as has that word.
use Rattle.std.proofs.Common.{◌≡◌, ℕ, ◌+◌, ◌*◌, ◌/◌, ◌%◌, ◌^◌, ◌<◌, Bool, true, cond, eqb, Option, Some, None, ℤ, pos, refl, sym, ap, subst, ◌∙◌, arith}
use Rattle.std.specs.Prelude.{IfSome, MatchOption, ◌&&◌}
use Rattle.std.proofs.lemmas.Bool.{cond_both, eqb-true, and_parts}
use Rattle.rv_isa.specs.declared.fields.Fields.{Fields}
use Rattle.rv_isa.specs.declared.instruction.Inst.{Inst}
use Rattle.rv_isa.specs.declared.instruction.Inst.TheVariants.{Lui, Auipc, Jal, Jalr, Beq, Bne, Blt, Bge, Bltu, Bgeu, Lb, Lh, Lw, Lbu, Lhu, Sb, Sh}
use Rattle.rv_isa.specs.declared.instruction.Inst.TheVariants.{Sw, Addi, Slti, Sltiu, Xori, Ori, Andi, Slli, Srli, Srai, Add, Sub, Sll, Slt, Sltu}
use Rattle.rv_isa.specs.declared.instruction.Inst.TheVariants.{Xor, Srl, Sra, Or, And, Mul, Mulh, Mulhsu, Mulhu, Div, Divu, Rem, Remu, Fence, Ecall}
use Rattle.rv_isa.specs.declared.instruction.Inst.TheVariants.{Ebreak}
use Rattle.rv_isa.specs.Fields.{word, fields_of, InRange}
use Rattle.rv_isa.specs.TwosComplement.{signed, low_bits}
use Rattle.rv_isa.specs.Encoding.{format_r, format_i, format_s, format_b, format_u, format_j, row, encoding, IsRegister, IsShort, IsBranchDistance}
use Rattle.rv_isa.specs.Encoding.{IsDistance, IsInRange}
use Rattle.rv_isa.specs.Decoding.{imm_i, imm_s, imm_b, imm_u, imm_j, by_opcode, decoded, indirect_jump_of, branch_of, load_of, store_of}
use Rattle.rv_isa.specs.Decoding.{right_shift_of, immediate_of, basic_of, other_of, product_of, register_of, fence_of, system_of}
use Rattle.rv_isa.proofs.Words.{same_fields, fields_of_word, word_of_fields, fields_fit, word_fits}
use Rattle.rv_isa.proofs.Immediates.{short_again, short_bits, short_fits, amount_again, amount_fits, branch_again, branch_bits, branch_fits}
use Rattle.rv_isa.proofs.Immediates.{distance_again, distance_bits, distance_fits}

-- ---- the fields of each row are in range

-- of each format
r_fits : (funct7 rs2 rs1 funct3 rd opcode : ℕ) → funct7 < 2 ^ 7 → IsRegister rs2 → IsRegister rs1 → funct3 < 2 ^ 3 → IsRegister rd → opcode < 2 ^ 7
    → InRange (format_r funct7 rs2 rs1 funct3 rd opcode)
r_fits funct7 rs2 rs1 funct3 rd opcode a b c d e h = record { funct7 = a; rs2 = b; rs1 = c; funct3 = d; rd = e; opcode = h }

i_fits : (imm : ℤ) (rs1 funct3 rd opcode : ℕ) → IsRegister rs1 → funct3 < 2 ^ 3 → IsRegister rd → opcode < 2 ^ 7
    → InRange (format_i (low_bits 12 imm) rs1 funct3 rd opcode)
i_fits imm rs1 funct3 rd opcode c d e h = r_fits _ _ _ _ _ _ (omega arith) (omega arith) c d e h

s_fits : (imm : ℤ) (rs2 rs1 funct3 opcode : ℕ) → IsRegister rs2 → IsRegister rs1 → funct3 < 2 ^ 3 → opcode < 2 ^ 7
    → InRange (format_s (low_bits 12 imm) rs2 rs1 funct3 opcode)
s_fits imm rs2 rs1 funct3 opcode b c d h = r_fits _ _ _ _ _ _ (omega arith) b c d (omega arith) h

b_fits : (imm : ℤ) (rs2 rs1 funct3 opcode : ℕ) → IsRegister rs2 → IsRegister rs1 → funct3 < 2 ^ 3 → opcode < 2 ^ 7
    → InRange (format_b (low_bits 13 imm) rs2 rs1 funct3 opcode)
b_fits imm rs2 rs1 funct3 opcode b c d h = r_fits _ _ _ _ _ _ (omega arith) b c d (omega arith) h

u_fits : (imm rd opcode : ℕ) → imm < 2 ^ 20 → IsRegister rd → opcode < 2 ^ 7 → InRange (format_u imm rd opcode)
u_fits imm rd opcode lt e h = r_fits _ _ _ _ _ _ (omega arith) (omega arith) (omega arith) (omega arith) e h

j_fits : (imm : ℤ) (rd opcode : ℕ) → IsRegister rd → opcode < 2 ^ 7 → InRange (format_j (low_bits 21 imm) rd opcode)
j_fits imm rd opcode e h = r_fits _ _ _ _ _ _ (omega arith) (omega arith) (omega arith) (omega arith) e h

-- of each instruction
pub row_fits : (i : Inst) → IsInRange i → InRange (row i)
row_fits (Lui rd imm) r = u_fits imm rd _ r.1 r.0 (omega arith)
row_fits (Auipc rd imm) r = u_fits imm rd _ r.1 r.0 (omega arith)
row_fits (Jal rd imm) r = j_fits imm rd _ r.0 (omega arith)
row_fits (Jalr rd rs1 imm) r = i_fits imm rs1 _ rd _ r.1 (omega arith) r.0 (omega arith)
row_fits (Beq rs1 rs2 imm) r = b_fits imm rs2 rs1 _ _ r.1 r.0 (omega arith) (omega arith)
row_fits (Bne rs1 rs2 imm) r = b_fits imm rs2 rs1 _ _ r.1 r.0 (omega arith) (omega arith)
row_fits (Blt rs1 rs2 imm) r = b_fits imm rs2 rs1 _ _ r.1 r.0 (omega arith) (omega arith)
row_fits (Bge rs1 rs2 imm) r = b_fits imm rs2 rs1 _ _ r.1 r.0 (omega arith) (omega arith)
row_fits (Bltu rs1 rs2 imm) r = b_fits imm rs2 rs1 _ _ r.1 r.0 (omega arith) (omega arith)
row_fits (Bgeu rs1 rs2 imm) r = b_fits imm rs2 rs1 _ _ r.1 r.0 (omega arith) (omega arith)
row_fits (Lb rd rs1 imm) r = i_fits imm rs1 _ rd _ r.1 (omega arith) r.0 (omega arith)
row_fits (Lh rd rs1 imm) r = i_fits imm rs1 _ rd _ r.1 (omega arith) r.0 (omega arith)
row_fits (Lw rd rs1 imm) r = i_fits imm rs1 _ rd _ r.1 (omega arith) r.0 (omega arith)
row_fits (Lbu rd rs1 imm) r = i_fits imm rs1 _ rd _ r.1 (omega arith) r.0 (omega arith)
row_fits (Lhu rd rs1 imm) r = i_fits imm rs1 _ rd _ r.1 (omega arith) r.0 (omega arith)
row_fits (Sb rs1 rs2 imm) r = s_fits imm rs2 rs1 _ _ r.1 r.0 (omega arith) (omega arith)
row_fits (Sh rs1 rs2 imm) r = s_fits imm rs2 rs1 _ _ r.1 r.0 (omega arith) (omega arith)
row_fits (Sw rs1 rs2 imm) r = s_fits imm rs2 rs1 _ _ r.1 r.0 (omega arith) (omega arith)
row_fits (Addi rd rs1 imm) r = i_fits imm rs1 _ rd _ r.1 (omega arith) r.0 (omega arith)
row_fits (Slti rd rs1 imm) r = i_fits imm rs1 _ rd _ r.1 (omega arith) r.0 (omega arith)
row_fits (Sltiu rd rs1 imm) r = i_fits imm rs1 _ rd _ r.1 (omega arith) r.0 (omega arith)
row_fits (Xori rd rs1 imm) r = i_fits imm rs1 _ rd _ r.1 (omega arith) r.0 (omega arith)
row_fits (Ori rd rs1 imm) r = i_fits imm rs1 _ rd _ r.1 (omega arith) r.0 (omega arith)
row_fits (Andi rd rs1 imm) r = i_fits imm rs1 _ rd _ r.1 (omega arith) r.0 (omega arith)
row_fits (Slli rd rs1 imm) r = r_fits _ (low_bits 5 imm) rs1 _ rd _ (omega arith) (omega arith) r.1 (omega arith) r.0 (omega arith)
row_fits (Srli rd rs1 imm) r = r_fits _ (low_bits 5 imm) rs1 _ rd _ (omega arith) (omega arith) r.1 (omega arith) r.0 (omega arith)
row_fits (Srai rd rs1 imm) r = r_fits _ (low_bits 5 imm) rs1 _ rd _ (omega arith) (omega arith) r.1 (omega arith) r.0 (omega arith)
row_fits (Add rd rs1 rs2) r = r_fits _ rs2 rs1 _ rd _ (omega arith) r.2 r.1 (omega arith) r.0 (omega arith)
row_fits (Sub rd rs1 rs2) r = r_fits _ rs2 rs1 _ rd _ (omega arith) r.2 r.1 (omega arith) r.0 (omega arith)
row_fits (Sll rd rs1 rs2) r = r_fits _ rs2 rs1 _ rd _ (omega arith) r.2 r.1 (omega arith) r.0 (omega arith)
row_fits (Slt rd rs1 rs2) r = r_fits _ rs2 rs1 _ rd _ (omega arith) r.2 r.1 (omega arith) r.0 (omega arith)
row_fits (Sltu rd rs1 rs2) r = r_fits _ rs2 rs1 _ rd _ (omega arith) r.2 r.1 (omega arith) r.0 (omega arith)
row_fits (Xor rd rs1 rs2) r = r_fits _ rs2 rs1 _ rd _ (omega arith) r.2 r.1 (omega arith) r.0 (omega arith)
row_fits (Srl rd rs1 rs2) r = r_fits _ rs2 rs1 _ rd _ (omega arith) r.2 r.1 (omega arith) r.0 (omega arith)
row_fits (Sra rd rs1 rs2) r = r_fits _ rs2 rs1 _ rd _ (omega arith) r.2 r.1 (omega arith) r.0 (omega arith)
row_fits (Or rd rs1 rs2) r = r_fits _ rs2 rs1 _ rd _ (omega arith) r.2 r.1 (omega arith) r.0 (omega arith)
row_fits (And rd rs1 rs2) r = r_fits _ rs2 rs1 _ rd _ (omega arith) r.2 r.1 (omega arith) r.0 (omega arith)
row_fits (Mul rd rs1 rs2) r = r_fits _ rs2 rs1 _ rd _ (omega arith) r.2 r.1 (omega arith) r.0 (omega arith)
row_fits (Mulh rd rs1 rs2) r = r_fits _ rs2 rs1 _ rd _ (omega arith) r.2 r.1 (omega arith) r.0 (omega arith)
row_fits (Mulhsu rd rs1 rs2) r = r_fits _ rs2 rs1 _ rd _ (omega arith) r.2 r.1 (omega arith) r.0 (omega arith)
row_fits (Mulhu rd rs1 rs2) r = r_fits _ rs2 rs1 _ rd _ (omega arith) r.2 r.1 (omega arith) r.0 (omega arith)
row_fits (Div rd rs1 rs2) r = r_fits _ rs2 rs1 _ rd _ (omega arith) r.2 r.1 (omega arith) r.0 (omega arith)
row_fits (Divu rd rs1 rs2) r = r_fits _ rs2 rs1 _ rd _ (omega arith) r.2 r.1 (omega arith) r.0 (omega arith)
row_fits (Rem rd rs1 rs2) r = r_fits _ rs2 rs1 _ rd _ (omega arith) r.2 r.1 (omega arith) r.0 (omega arith)
row_fits (Remu rd rs1 rs2) r = r_fits _ rs2 rs1 _ rd _ (omega arith) r.2 r.1 (omega arith) r.0 (omega arith)
row_fits (Fence rd rs1 imm) r = i_fits imm rs1 _ rd _ r.1 (omega arith) r.0 (omega arith)
row_fits Ecall r = r_fits _ _ _ _ _ _ (omega arith) (omega arith) (omega arith) (omega arith) (omega arith) (omega arith)
row_fits Ebreak r = r_fits _ _ _ _ _ _ (omega arith) (omega arith) (omega arith) (omega arith) (omega arith) (omega arith)

-- ---- each row is decoded as its instruction

-- the fields that hold no part of the immediate do not count, and are 0 here
i_again : (imm : ℤ) → IsShort imm → imm_i (format_i (low_bits 12 imm) 0 0 0 0) ≡ imm
i_again imm s = ap (signed 12) (omega arith) ∙ short_again imm s

s_again : (imm : ℤ) → IsShort imm → imm_s (format_s (low_bits 12 imm) 0 0 0 0) ≡ imm
s_again imm s = ap (signed 12) (omega arith) ∙ short_again imm s

b_again : (imm : ℤ) → IsBranchDistance imm → imm_b (format_b (low_bits 13 imm) 0 0 0 0) ≡ imm
b_again imm d = ap (signed 13) (omega (arith, d.2)) ∙ branch_again imm d

u_again : (imm : ℕ) → imm_u (format_u imm 0 0) ≡ imm
u_again imm = omega arith

j_again : (imm : ℤ) → IsDistance imm → imm_j (format_j (low_bits 21 imm) 0 0) ≡ imm
j_again imm d = ap (signed 21) (omega (arith, d.2)) ∙ distance_again imm d

-- the decoder finds each row
pub complete : (i : Inst) → IsInRange i → by_opcode (row i) ≡ Some i
complete (Lui rd imm) r = ap (λ (z : ℕ). Some (Lui rd z)) (u_again imm)
complete (Auipc rd imm) r = ap (λ (z : ℕ). Some (Auipc rd z)) (u_again imm)
complete (Jal rd imm) r = ap (λ (z : ℤ). Some (Jal rd z)) (j_again imm r.1)
complete (Jalr rd rs1 imm) r = ap (λ (z : ℤ). Some (Jalr rd rs1 z)) (i_again imm r.2)
complete (Beq rs1 rs2 imm) r = ap (λ (z : ℤ). Some (Beq rs1 rs2 z)) (b_again imm r.2)
complete (Bne rs1 rs2 imm) r = ap (λ (z : ℤ). Some (Bne rs1 rs2 z)) (b_again imm r.2)
complete (Blt rs1 rs2 imm) r = ap (λ (z : ℤ). Some (Blt rs1 rs2 z)) (b_again imm r.2)
complete (Bge rs1 rs2 imm) r = ap (λ (z : ℤ). Some (Bge rs1 rs2 z)) (b_again imm r.2)
complete (Bltu rs1 rs2 imm) r = ap (λ (z : ℤ). Some (Bltu rs1 rs2 z)) (b_again imm r.2)
complete (Bgeu rs1 rs2 imm) r = ap (λ (z : ℤ). Some (Bgeu rs1 rs2 z)) (b_again imm r.2)
complete (Lb rd rs1 imm) r = ap (λ (z : ℤ). Some (Lb rd rs1 z)) (i_again imm r.2)
complete (Lh rd rs1 imm) r = ap (λ (z : ℤ). Some (Lh rd rs1 z)) (i_again imm r.2)
complete (Lw rd rs1 imm) r = ap (λ (z : ℤ). Some (Lw rd rs1 z)) (i_again imm r.2)
complete (Lbu rd rs1 imm) r = ap (λ (z : ℤ). Some (Lbu rd rs1 z)) (i_again imm r.2)
complete (Lhu rd rs1 imm) r = ap (λ (z : ℤ). Some (Lhu rd rs1 z)) (i_again imm r.2)
complete (Sb rs1 rs2 imm) r = ap (λ (z : ℤ). Some (Sb rs1 rs2 z)) (s_again imm r.2)
complete (Sh rs1 rs2 imm) r = ap (λ (z : ℤ). Some (Sh rs1 rs2 z)) (s_again imm r.2)
complete (Sw rs1 rs2 imm) r = ap (λ (z : ℤ). Some (Sw rs1 rs2 z)) (s_again imm r.2)
complete (Addi rd rs1 imm) r = ap (λ (z : ℤ). Some (Addi rd rs1 z)) (i_again imm r.2)
complete (Slti rd rs1 imm) r = ap (λ (z : ℤ). Some (Slti rd rs1 z)) (i_again imm r.2)
complete (Sltiu rd rs1 imm) r = ap (λ (z : ℤ). Some (Sltiu rd rs1 z)) (i_again imm r.2)
complete (Xori rd rs1 imm) r = ap (λ (z : ℤ). Some (Xori rd rs1 z)) (i_again imm r.2)
complete (Ori rd rs1 imm) r = ap (λ (z : ℤ). Some (Ori rd rs1 z)) (i_again imm r.2)
complete (Andi rd rs1 imm) r = ap (λ (z : ℤ). Some (Andi rd rs1 z)) (i_again imm r.2)
complete (Slli rd rs1 imm) r = ap (λ (z : ℤ). Some (Slli rd rs1 z)) (amount_again imm r.2)
complete (Srli rd rs1 imm) r = ap (λ (z : ℤ). Some (Srli rd rs1 z)) (amount_again imm r.2)
complete (Srai rd rs1 imm) r = ap (λ (z : ℤ). Some (Srai rd rs1 z)) (amount_again imm r.2)
complete (Add rd rs1 rs2) r = refl
complete (Sub rd rs1 rs2) r = refl
complete (Sll rd rs1 rs2) r = refl
complete (Slt rd rs1 rs2) r = refl
complete (Sltu rd rs1 rs2) r = refl
complete (Xor rd rs1 rs2) r = refl
complete (Srl rd rs1 rs2) r = refl
complete (Sra rd rs1 rs2) r = refl
complete (Or rd rs1 rs2) r = refl
complete (And rd rs1 rs2) r = refl
complete (Mul rd rs1 rs2) r = refl
complete (Mulh rd rs1 rs2) r = refl
complete (Mulhsu rd rs1 rs2) r = refl
complete (Mulhu rd rs1 rs2) r = refl
complete (Div rd rs1 rs2) r = refl
complete (Divu rd rs1 rs2) r = refl
complete (Rem rd rs1 rs2) r = refl
complete (Remu rd rs1 rs2) r = refl
complete (Fence rd rs1 imm) r = ap (λ (z : ℤ). Some (Fence rd rs1 z)) (i_again imm r.2)
complete Ecall r = refl
complete Ebreak r = refl

-- ---- what is decoded has those fields

-- an instruction whose row is these fields
pub record Means (f : Fields) (i : Inst) : Type 0 where
  pub in_range : IsInRange i
  pub row : row i ≡ f

-- the format of what was read gives the same fields
r_fields : (f : Fields) (funct7 funct3 opcode : ℕ) → f.funct7 ≡ funct7 → f.funct3 ≡ funct3 → f.opcode ≡ opcode
    → format_r funct7 f.rs2 f.rs1 funct3 f.rd opcode ≡ f
r_fields f funct7 funct3 opcode a d h = same_fields (format_r funct7 f.rs2 f.rs1 funct3 f.rd opcode) f (sym a) refl refl (sym d) refl (sym h)

i_fields : (f : Fields) (funct3 opcode : ℕ) → InRange f → f.funct3 ≡ funct3 → f.opcode ≡ opcode → format_i (low_bits 12 (imm_i f)) f.rs1 funct3 f.rd opcode ≡ f
i_fields f funct3 opcode r d h =
    let e = short_bits (f.rs2 + 2 ^ 5 * f.funct7) (omega arith) in
    same_fields (format_i (low_bits 12 (imm_i f)) f.rs1 funct3 f.rd opcode) f (omega arith) (omega arith) refl (sym d) refl (sym h)

s_fields : (f : Fields) (funct3 opcode : ℕ) → InRange f → f.funct3 ≡ funct3 → f.opcode ≡ opcode → format_s (low_bits 12 (imm_s f)) f.rs2 f.rs1 funct3 opcode ≡ f
s_fields f funct3 opcode r d h =
    let e = short_bits (f.rd + 2 ^ 5 * f.funct7) (omega arith) in
    same_fields (format_s (low_bits 12 (imm_s f)) f.rs2 f.rs1 funct3 opcode) f (omega arith) refl refl (sym d) (omega arith) (sym h)

-- the bits of a branch's distance
abbrev bits_b : Fields → ℕ
bits_b f = f.rd / 2 * 2 + 2 ^ 5 * (f.funct7 % 2 ^ 6) + 2 ^ 11 * (f.rd % 2) + 2 ^ 12 * (f.funct7 / 2 ^ 6)

b_fields : (f : Fields) (funct3 opcode : ℕ) → InRange f → f.funct3 ≡ funct3 → f.opcode ≡ opcode → format_b (low_bits 13 (imm_b f)) f.rs2 f.rs1 funct3 opcode ≡ f
b_fields f funct3 opcode r d h =
    let e = branch_bits (bits_b f) (omega arith) in
    ap (λ n. format_b n f.rs2 f.rs1 funct3 opcode) e
    ∙ same_fields (format_b (bits_b f) f.rs2 f.rs1 funct3 opcode) f (omega arith) refl refl (sym d) (omega arith) (sym h)

-- an amount is no more than its bits
amount_fields : (f : Fields) (funct7 funct3 opcode : ℕ) → InRange f → f.funct7 ≡ funct7 → f.funct3 ≡ funct3 → f.opcode ≡ opcode
    → format_r funct7 (low_bits 5 (pos f.rs2)) f.rs1 funct3 f.rd opcode ≡ f
amount_fields f funct7 funct3 opcode r a d h =
    same_fields (format_r funct7 (low_bits 5 (pos f.rs2)) f.rs1 funct3 f.rd opcode) f (sym a) (omega arith) refl (sym d) refl (sym h)

u_fields : (f : Fields) (opcode : ℕ) → InRange f → f.opcode ≡ opcode → format_u (imm_u f) f.rd opcode ≡ f
u_fields f opcode r h = same_fields (format_u (imm_u f) f.rd opcode) f (omega arith) (omega arith) (omega arith) (omega arith) refl (sym h)

-- the bits of a jump's distance
abbrev bits_j : Fields → ℕ
bits_j f = f.rs2 / 2 * 2 + 2 ^ 5 * (f.funct7 % 2 ^ 6) + 2 ^ 11 * (f.rs2 % 2) + 2 ^ 12 * f.funct3 + 2 ^ 15 * f.rs1 + 2 ^ 20 * (f.funct7 / 2 ^ 6)

j_fields : (f : Fields) (opcode : ℕ) → InRange f → f.opcode ≡ opcode → format_j (low_bits 21 (imm_j f)) f.rd opcode ≡ f
j_fields f opcode r h =
    let e = distance_bits (bits_j f) (omega arith) in
    ap (λ n. format_j n f.rd opcode) e
    ∙ same_fields (format_j (bits_j f) f.rd opcode) f (omega arith) (omega arith) (omega arith) (omega arith) refl (sym h)

-- the tests of a system instruction
system_fields : (f : Fields) (rs2 : ℕ) → (eqb f.funct7 0 && eqb f.rs1 0 && eqb f.funct3 0 && eqb f.rd 0) ≡ true → f.rs2 ≡ rs2 → f.opcode ≡ 0x73
    → format_r 0 rs2 0 0 0 0x73 ≡ f
system_fields f rs2 t two h =
    let p = and_parts (eqb f.funct7 0 && eqb f.rs1 0 && eqb f.funct3 0) (eqb f.rd 0) t in
    let q = and_parts (eqb f.funct7 0 && eqb f.rs1 0) (eqb f.funct3 0) p.0 in
    let s = and_parts (eqb f.funct7 0) (eqb f.rs1 0) q.0 in
    same_fields (format_r 0 rs2 0 0 0 0x73) f (sym (eqb-true _ _ s.0)) (sym two) (sym (eqb-true _ _ s.1)) (sym (eqb-true _ _ q.1))
    (sym (eqb-true _ _ p.1)) (sym h)

-- ---- a chain of tests, link by link

-- a test that leads to an answer, and the tests after it
link : {A : Type 0} (P : A → Type 0) (b : Bool) (here rest : Option A) → (b ≡ true → IfSome here P) → IfSome rest P → IfSome (cond b here rest) P
link P b here rest h r = cond_both b here rest (λ o. IfSome o P) h (λ t. r)

-- a test of one field
test : {A : Type 0} (P : A → Type 0) (m n : ℕ) (here rest : Option A) → (m ≡ n → IfSome here P) → IfSome rest P → IfSome (cond (eqb m n) here rest) P
test P m n here rest h = link P (eqb m n) here rest (λ t. h (eqb-true m n t))

module _ (f : Fields) (r : InRange f) where
  indirect_jump_sound : f.opcode ≡ 0x67 → IfSome (indirect_jump_of f) (Means f)
  indirect_jump_sound o = test (Means f) f.funct3 0 _ _ (λ z. record { in_range = (r.rd, r.rs1, short_fits _ (omega arith)); row = i_fields f 0 0x67 r z o }) tt

  branch_sound : f.opcode ≡ 0x63 → IfSome (branch_of f) (Means f)
  branch_sound o =
      test (Means f) f.funct3 0 _ _ (λ z. record {
        in_range = (r.rs1, r.rs2, branch_fits (bits_b f) (omega arith) (omega arith));
        row = b_fields f 0 0x63 r z o;
      })
      (test (Means f) f.funct3 1 _ _ (λ z. record {
        in_range = (r.rs1, r.rs2, branch_fits (bits_b f) (omega arith) (omega arith));
        row = b_fields f 1 0x63 r z o;
      })
      (test (Means f) f.funct3 4 _ _ (λ z. record {
        in_range = (r.rs1, r.rs2, branch_fits (bits_b f) (omega arith) (omega arith));
        row = b_fields f 4 0x63 r z o;
      })
      (test (Means f) f.funct3 5 _ _ (λ z. record {
        in_range = (r.rs1, r.rs2, branch_fits (bits_b f) (omega arith) (omega arith));
        row = b_fields f 5 0x63 r z o;
      })
      (test (Means f) f.funct3 6 _ _ (λ z. record {
        in_range = (r.rs1, r.rs2, branch_fits (bits_b f) (omega arith) (omega arith));
        row = b_fields f 6 0x63 r z o;
      })
      (test (Means f) f.funct3 7 _ _ (λ z. record {
        in_range = (r.rs1, r.rs2, branch_fits (bits_b f) (omega arith) (omega arith));
        row = b_fields f 7 0x63 r z o;
      }) tt)))))

  load_sound : f.opcode ≡ 0x03 → IfSome (load_of f) (Means f)
  load_sound o =
      test (Means f) f.funct3 0 _ _ (λ z. record { in_range = (r.rd, r.rs1, short_fits _ (omega arith)); row = i_fields f 0 0x03 r z o })
      (test (Means f) f.funct3 1 _ _ (λ z. record { in_range = (r.rd, r.rs1, short_fits _ (omega arith)); row = i_fields f 1 0x03 r z o })
      (test (Means f) f.funct3 2 _ _ (λ z. record { in_range = (r.rd, r.rs1, short_fits _ (omega arith)); row = i_fields f 2 0x03 r z o })
      (test (Means f) f.funct3 4 _ _ (λ z. record { in_range = (r.rd, r.rs1, short_fits _ (omega arith)); row = i_fields f 4 0x03 r z o })
      (test (Means f) f.funct3 5 _ _ (λ z. record { in_range = (r.rd, r.rs1, short_fits _ (omega arith)); row = i_fields f 5 0x03 r z o }) tt))))

  store_sound : f.opcode ≡ 0x23 → IfSome (store_of f) (Means f)
  store_sound o =
      test (Means f) f.funct3 0 _ _ (λ z. record { in_range = (r.rs1, r.rs2, short_fits _ (omega arith)); row = s_fields f 0 0x23 r z o })
      (test (Means f) f.funct3 1 _ _ (λ z. record { in_range = (r.rs1, r.rs2, short_fits _ (omega arith)); row = s_fields f 1 0x23 r z o })
      (test (Means f) f.funct3 2 _ _ (λ z. record { in_range = (r.rs1, r.rs2, short_fits _ (omega arith)); row = s_fields f 2 0x23 r z o }) tt))

  right_shift_sound : f.opcode ≡ 0x13 → f.funct3 ≡ 5 → IfSome (right_shift_of f) (Means f)
  right_shift_sound o z =
      test (Means f) f.funct7 0 _ _ (λ g. record { in_range = (r.rd, r.rs1, amount_fits f.rs2 r.rs2); row = amount_fields f 0 5 0x13 r g z o })
      (test (Means f) f.funct7 0x20 _ _ (λ g. record { in_range = (r.rd, r.rs1, amount_fits f.rs2 r.rs2); row = amount_fields f 0x20 5 0x13 r g z o }) tt)

  left_shift_sound : f.opcode ≡ 0x13 → f.funct3 ≡ 1 → IfSome (cond (eqb f.funct7 0) (Some (Slli f.rd f.rs1 (pos f.rs2))) None) (Means f)
  left_shift_sound o z =
      test (Means f) f.funct7 0 _ _ (λ g. record { in_range = (r.rd, r.rs1, amount_fits f.rs2 r.rs2); row = amount_fields f 0 1 0x13 r g z o }) tt

  immediate_sound : f.opcode ≡ 0x13 → IfSome (immediate_of f) (Means f)
  immediate_sound o =
      test (Means f) f.funct3 0 _ _ (λ z. record { in_range = (r.rd, r.rs1, short_fits _ (omega arith)); row = i_fields f 0 0x13 r z o })
      (test (Means f) f.funct3 1 (cond (eqb f.funct7 0) (Some (Slli f.rd f.rs1 (pos f.rs2))) None) _ (left_shift_sound o)
      (test (Means f) f.funct3 2 _ _ (λ z. record { in_range = (r.rd, r.rs1, short_fits _ (omega arith)); row = i_fields f 2 0x13 r z o })
      (test (Means f) f.funct3 3 _ _ (λ z. record { in_range = (r.rd, r.rs1, short_fits _ (omega arith)); row = i_fields f 3 0x13 r z o })
      (test (Means f) f.funct3 4 _ _ (λ z. record { in_range = (r.rd, r.rs1, short_fits _ (omega arith)); row = i_fields f 4 0x13 r z o })
      (test (Means f) f.funct3 5 (right_shift_of f) _ (right_shift_sound o)
      (test (Means f) f.funct3 6 _ _ (λ z. record { in_range = (r.rd, r.rs1, short_fits _ (omega arith)); row = i_fields f 6 0x13 r z o })
      (test (Means f) f.funct3 7 _ _ (λ z. record { in_range = (r.rd, r.rs1, short_fits _ (omega arith)); row = i_fields f 7 0x13 r z o }) tt)))))))

  basic_sound : f.opcode ≡ 0x33 → f.funct7 ≡ 0 → IfSome (basic_of f) (Means f)
  basic_sound o m =
      test (Means f) f.funct3 0 _ _ (λ z. record { in_range = (r.rd, r.rs1, r.rs2); row = r_fields f 0 0 0x33 m z o })
      (test (Means f) f.funct3 1 _ _ (λ z. record { in_range = (r.rd, r.rs1, r.rs2); row = r_fields f 0 1 0x33 m z o })
      (test (Means f) f.funct3 2 _ _ (λ z. record { in_range = (r.rd, r.rs1, r.rs2); row = r_fields f 0 2 0x33 m z o })
      (test (Means f) f.funct3 3 _ _ (λ z. record { in_range = (r.rd, r.rs1, r.rs2); row = r_fields f 0 3 0x33 m z o })
      (test (Means f) f.funct3 4 _ _ (λ z. record { in_range = (r.rd, r.rs1, r.rs2); row = r_fields f 0 4 0x33 m z o })
      (test (Means f) f.funct3 5 _ _ (λ z. record { in_range = (r.rd, r.rs1, r.rs2); row = r_fields f 0 5 0x33 m z o })
      (test (Means f) f.funct3 6 _ _ (λ z. record { in_range = (r.rd, r.rs1, r.rs2); row = r_fields f 0 6 0x33 m z o })
      (test (Means f) f.funct3 7 _ _ (λ z. record { in_range = (r.rd, r.rs1, r.rs2); row = r_fields f 0 7 0x33 m z o }) tt)))))))

  other_sound : f.opcode ≡ 0x33 → f.funct7 ≡ 0x20 → IfSome (other_of f) (Means f)
  other_sound o m =
      test (Means f) f.funct3 0 _ _ (λ z. record { in_range = (r.rd, r.rs1, r.rs2); row = r_fields f 0x20 0 0x33 m z o })
      (test (Means f) f.funct3 5 _ _ (λ z. record { in_range = (r.rd, r.rs1, r.rs2); row = r_fields f 0x20 5 0x33 m z o }) tt)

  product_sound : f.opcode ≡ 0x33 → f.funct7 ≡ 1 → IfSome (product_of f) (Means f)
  product_sound o m =
      test (Means f) f.funct3 0 _ _ (λ z. record { in_range = (r.rd, r.rs1, r.rs2); row = r_fields f 1 0 0x33 m z o })
      (test (Means f) f.funct3 1 _ _ (λ z. record { in_range = (r.rd, r.rs1, r.rs2); row = r_fields f 1 1 0x33 m z o })
      (test (Means f) f.funct3 2 _ _ (λ z. record { in_range = (r.rd, r.rs1, r.rs2); row = r_fields f 1 2 0x33 m z o })
      (test (Means f) f.funct3 3 _ _ (λ z. record { in_range = (r.rd, r.rs1, r.rs2); row = r_fields f 1 3 0x33 m z o })
      (test (Means f) f.funct3 4 _ _ (λ z. record { in_range = (r.rd, r.rs1, r.rs2); row = r_fields f 1 4 0x33 m z o })
      (test (Means f) f.funct3 5 _ _ (λ z. record { in_range = (r.rd, r.rs1, r.rs2); row = r_fields f 1 5 0x33 m z o })
      (test (Means f) f.funct3 6 _ _ (λ z. record { in_range = (r.rd, r.rs1, r.rs2); row = r_fields f 1 6 0x33 m z o })
      (test (Means f) f.funct3 7 _ _ (λ z. record { in_range = (r.rd, r.rs1, r.rs2); row = r_fields f 1 7 0x33 m z o }) tt)))))))

  register_sound : f.opcode ≡ 0x33 → IfSome (register_of f) (Means f)
  register_sound o =
      test (Means f) f.funct7 0 (basic_of f) _ (basic_sound o)
      (test (Means f) f.funct7 0x20 (other_of f) _ (other_sound o)
      (test (Means f) f.funct7 1 (product_of f) _ (product_sound o) tt))

  fence_sound : f.opcode ≡ 0x0F → IfSome (fence_of f) (Means f)
  fence_sound o = test (Means f) f.funct3 0 _ _ (λ z. record { in_range = (r.rd, r.rs1, short_fits _ (omega arith)); row = i_fields f 0 0x0F r z o }) tt

  system_sound : f.opcode ≡ 0x73 → IfSome (system_of f) (Means f)
  system_sound o =
      link (Means f) (eqb f.funct7 0 && eqb f.rs1 0 && eqb f.funct3 0 && eqb f.rd 0)
      (cond (eqb f.rs2 0) (Some Ecall) (cond (eqb f.rs2 1) (Some Ebreak) None)) None
      (λ t.
      test (Means f) f.rs2 0 _ _ (λ z. record { in_range = tt; row = system_fields f 0 t z o })
      (test (Means f) f.rs2 1 _ _ (λ z. record { in_range = tt; row = system_fields f 1 t z o }) tt))
      tt

  -- what the decoder finds has these fields
  sound : IfSome (by_opcode f) (Means f)
  sound =
      test (Means f) f.opcode 0x37 _ _ (λ o. record { in_range = (r.rd, omega arith); row = u_fields f 0x37 r o })
      (test (Means f) f.opcode 0x17 _ _ (λ o. record { in_range = (r.rd, omega arith); row = u_fields f 0x17 r o })
      (test (Means f) f.opcode 0x6F _ _ (λ o. record { in_range = (r.rd, distance_fits (bits_j f) (omega arith) (omega arith)); row = j_fields f 0x6F r o })
      (test (Means f) f.opcode 0x67 (indirect_jump_of f) _ indirect_jump_sound
      (test (Means f) f.opcode 0x63 (branch_of f) _ branch_sound
      (test (Means f) f.opcode 0x03 (load_of f) _ load_sound
      (test (Means f) f.opcode 0x23 (store_of f) _ store_sound
      (test (Means f) f.opcode 0x13 (immediate_of f) _ immediate_sound
      (test (Means f) f.opcode 0x33 (register_of f) _ register_sound
      (test (Means f) f.opcode 0x0F (fence_of f) _ fence_sound
      (test (Means f) f.opcode 0x73 (system_of f) _ system_sound tt))))))))))

-- ---- the laws

-- a word has 32 bits
pub encoding_fits : (i : Inst) → IsInRange i → encoding i < 2 ^ 32
encoding_fits i r = word_fits (row i) (row_fits i r)

-- the word of an instruction is decoded as that instruction
pub decoded_again : (i : Inst) → IsInRange i → decoded (encoding i) ≡ Some i
unfolding decoded
decoded_again i r = ap by_opcode (fields_of_word (row i) (row_fits i r)) ∙ complete i r

-- what a word is decoded as is in range and has that word
pub encoded_again : (w : ℕ) (i : Inst) → w < 2 ^ 32 → decoded w ≡ Some i → IsInRange i × (encoding i ≡ w)
unfolding decoded
encoded_again w i lt e =
    let m : Means (fields_of w) i = subst (λ o. IfSome o (Means (fields_of w))) e (sound (fields_of w) (fields_fit w lt)) in
    (m.in_range, ap word m.row ∙ word_of_fields w lt)

-- the decoder finds exactly the words of the table
pub of_table : (w : ℕ) (found : Option Inst) → w < 2 ^ 32 → found ≡ decoded w
    → MatchOption found ((i : Inst) → IsInRange i → encoding i ≡ w → ⊥) (λ i. IsInRange i × (encoding i ≡ w))
of_table w None lt e = λ i r same. let again : None ≡ Some i = e ∙ ap decoded (sym same) ∙ decoded_again i r in cc
of_table w (Some i) lt e = encoded_again w i lt (sym e)
