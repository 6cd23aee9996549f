-- An instruction that calls nothing performs what it executes.
use Rattle.std.proofs.Common.{◌≡◌, ◌<◌, ℕ, List, ap, arith, refl, subst, sym}
use Rattle.rv_isa.specs.declared.image.Segment.{Segment}
use Rattle.rv_isa.specs.declared.instruction.Inst.{Inst}
use Rattle.rv_isa.specs.declared.instruction.Inst.TheVariants.{Ecall}
use Rattle.rv_isa.specs.Encoding.{row}
use Rattle.rv_isa.specs.Step.{State, Stepped, executed, writes}
use Rattle.rv_machine.specs.declared.hart.Moved.{Moved}
use Rattle.rv_machine.specs.Harts.{Computes, Executes, HasOpcode, Performs}

pub performs : (places : List Segment) (old new : State) (i : Inst) (moved : Moved) → (i ≡ Ecall → ⊥) → Executes old new (executed places old i) moved
    → Performs places old new i moved
performs places old new Ecall moved other h = absurd (other refl)
performs places old new i moved other h = h

-- no call of the environment, by its opcode
pub no_call : (i : Inst) (opcode : ℕ) → opcode < 0x73 → HasOpcode opcode i → i ≡ Ecall → ⊥
no_call i opcode lt is e = let call : (row i).opcode ≡ 0x73 = ap (λ (x : Inst). (row x).opcode) e in omega (arith, lt, is, call)

-- so does one that gives a register a word
pub computed : (places : List Segment) (old new : State) (i : Inst) (rd word : ℕ) (moved : Moved) → (i ≡ Ecall → ⊥) → Computes old.registers i rd word
    → Executes old new (writes old rd word) moved → Performs places old new i moved
computed places old new i rd word moved other computes h =
    performs places old new i moved other (subst (λ (x : Stepped). Executes old new x moved) (sym (computes places old)) h)
