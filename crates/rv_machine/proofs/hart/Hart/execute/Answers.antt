use Rattle.std.proofs.Common.{◌≡◌, arith, refl, rules}
use Rattle.rv_isa.specs.declared.instruction.Inst.TheVariants.{Lui, Auipc, Jal, Jalr, Beq, Bne, Blt, Bge, Bltu, Bgeu, Lb, Lh, Lw, Lbu, Lhu, Sb, Sh}
use Rattle.rv_isa.specs.declared.instruction.Inst.TheVariants.{Sw, Addi, Slti, Sltiu, Xori, Ori, Andi, Slli, Srli, Srai, Mul, Mulh, Mulhsu, Mulhu, Div, Divu}
use Rattle.rv_isa.specs.declared.instruction.Inst.TheVariants.{Rem, Remu, Fence, Ecall, Ebreak}
use Rattle.rv_isa.specs.Step.{executed}
use Rattle.rv_machine.specs.Harts.{Executes, HasOpcode, IsBasic, places_of, state_at}
use Rattle.rv_machine.proofs.Performing.{computed, no_call}
use Rattle.rv_machine.proofs.hart.Hart.execute.Goals as goal

pub returns-in-Sh-clause-moved : goal.returns-in-Sh-clause-moved
returns-in-Sh-clause-moved c =
    let moved : Executes (state_at c.args.self.now c.args.pc.now) (state_at c.store_half.new.self c.store_half.new.pc)
    (executed (places_of c.args.self.now) (state_at c.args.self.now c.args.pc.now) (Sh c.in-Sh.rs1 c.in-Sh.rs2 c.in-Sh.imm)) c.store_half.result =
    search rules in
    rw c.in-Sh.is moved

pub returns-in-Sw-clause-moved : goal.returns-in-Sw-clause-moved
returns-in-Sw-clause-moved c =
    let moved : Executes (state_at c.args.self.now c.args.pc.now) (state_at c.store_word.new.self c.store_word.new.pc)
    (executed (places_of c.args.self.now) (state_at c.args.self.now c.args.pc.now) (Sw c.in-Sw.rs1 c.in-Sw.rs2 c.in-Sw.imm)) c.store_word.result =
    search rules in
    rw c.in-Sw.is moved

-- what no arm above takes has two registers
pub with_registers-requires-clause-basic : goal.with_registers-requires-clause-basic
with_registers-requires-clause-basic c =
    let other = c.in_default in
    elim c.args.inst.now as (λ i. c.args.inst.now ≡ i → IsBasic i) [
      | Lui rd imm ↦ λ e. absurd (other.not-Lui rd imm e)
      | Auipc rd imm ↦ λ e. absurd (other.not-Auipc rd imm e)
      | Jal rd imm ↦ λ e. absurd (other.not-Jal rd imm e)
      | Jalr rd rs1 imm ↦ λ e. absurd (other.not-Jalr rd rs1 imm e)
      | Beq rs1 rs2 imm ↦ λ e. absurd (other.not-Beq rs1 rs2 imm e)
      | Bne rs1 rs2 imm ↦ λ e. absurd (other.not-Bne rs1 rs2 imm e)
      | Blt rs1 rs2 imm ↦ λ e. absurd (other.not-Blt rs1 rs2 imm e)
      | Bge rs1 rs2 imm ↦ λ e. absurd (other.not-Bge rs1 rs2 imm e)
      | Bltu rs1 rs2 imm ↦ λ e. absurd (other.not-Bltu rs1 rs2 imm e)
      | Bgeu rs1 rs2 imm ↦ λ e. absurd (other.not-Bgeu rs1 rs2 imm e)
      | Lb rd rs1 imm ↦ λ e. absurd (other.not-Lb rd rs1 imm e)
      | Lh rd rs1 imm ↦ λ e. absurd (other.not-Lh rd rs1 imm e)
      | Lw rd rs1 imm ↦ λ e. absurd (other.not-Lw rd rs1 imm e)
      | Lbu rd rs1 imm ↦ λ e. absurd (other.not-Lbu rd rs1 imm e)
      | Lhu rd rs1 imm ↦ λ e. absurd (other.not-Lhu rd rs1 imm e)
      | Sb rs1 rs2 imm ↦ λ e. absurd (other.not-Sb rs1 rs2 imm e)
      | Sh rs1 rs2 imm ↦ λ e. absurd (other.not-Sh rs1 rs2 imm e)
      | Sw rs1 rs2 imm ↦ λ e. absurd (other.not-Sw rs1 rs2 imm e)
      | Addi rd rs1 imm ↦ λ e. absurd (other.not-Addi rd rs1 imm e)
      | Slti rd rs1 imm ↦ λ e. absurd (other.not-Slti rd rs1 imm e)
      | Sltiu rd rs1 imm ↦ λ e. absurd (other.not-Sltiu rd rs1 imm e)
      | Xori rd rs1 imm ↦ λ e. absurd (other.not-Xori rd rs1 imm e)
      | Ori rd rs1 imm ↦ λ e. absurd (other.not-Ori rd rs1 imm e)
      | Andi rd rs1 imm ↦ λ e. absurd (other.not-Andi rd rs1 imm e)
      | Slli rd rs1 imm ↦ λ e. absurd (other.not-Slli rd rs1 imm e)
      | Srli rd rs1 imm ↦ λ e. absurd (other.not-Srli rd rs1 imm e)
      | Srai rd rs1 imm ↦ λ e. absurd (other.not-Srai rd rs1 imm e)
      | Mul rd rs1 rs2 ↦ λ e. absurd (other.not-Mul rd rs1 rs2 e)
      | Mulh rd rs1 rs2 ↦ λ e. absurd (other.not-Mulh rd rs1 rs2 e)
      | Mulhsu rd rs1 rs2 ↦ λ e. absurd (other.not-Mulhsu rd rs1 rs2 e)
      | Mulhu rd rs1 rs2 ↦ λ e. absurd (other.not-Mulhu rd rs1 rs2 e)
      | Div rd rs1 rs2 ↦ λ e. absurd (other.not-Div rd rs1 rs2 e)
      | Divu rd rs1 rs2 ↦ λ e. absurd (other.not-Divu rd rs1 rs2 e)
      | Rem rd rs1 rs2 ↦ λ e. absurd (other.not-Rem rd rs1 rs2 e)
      | Remu rd rs1 rs2 ↦ λ e. absurd (other.not-Remu rd rs1 rs2 e)
      | Fence rd rs1 imm ↦ λ e. absurd (other.not-Fence rd rs1 imm e)
      | Ecall ↦ λ e. absurd (other.not-Ecall e)
      | Ebreak ↦ λ e. absurd (other.not-Ebreak e)
      | _ ↦ λ e. (refl, λ f. absurd cc)
    ] refl

pub returns-in-Addi-clause-moved : goal.returns-in-Addi-clause-moved
returns-in-Addi-clause-moved c =
    let opcode : HasOpcode 0x13 c.args.inst.now = search rules in
    computed (places_of c.args.self.now) (state_at c.args.self.now c.args.pc.now) (state_at c.give.new.self c.give.new.pc) c.args.inst.now _ _ c.give.result
    (no_call c.args.inst.now 0x13 (omega arith) opcode) c.with_immediate.ensures.word c.give.ensures.moved

pub returns-in-Mul-clause-moved : goal.returns-in-Mul-clause-moved
returns-in-Mul-clause-moved c =
    let opcode : HasOpcode 0x33 c.args.inst.now = search rules in
    computed (places_of c.args.self.now) (state_at c.args.self.now c.args.pc.now) (state_at c.give-in-Mul.new.self c.give-in-Mul.new.pc) c.args.inst.now _ _
    c.give-in-Mul.result (no_call c.args.inst.now 0x33 (omega arith) opcode) c.multiplied_or_divided.ensures.word c.give-in-Mul.ensures.moved

pub returns-in_default-clause-moved : goal.returns-in_default-clause-moved
returns-in_default-clause-moved c =
    computed (places_of c.args.self.now) (state_at c.args.self.now c.args.pc.now) (state_at c.give-in_default.new.self c.give-in_default.new.pc) c.args.inst.now _ _
    c.give-in_default.result c.in_default.not-Ecall c.with_registers.ensures.word c.give-in_default.ensures.moved
