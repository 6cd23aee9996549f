-- A step that touches no stream is the same whatever the input and the output are.
use Rattle.std.proofs.Common.{◌≡◌, ℕ, ◌%◌, Bool, true, false, cond, eqb, List, Some, None, ℤ, refl, sym, ap, ◌∙◌, subst}
use Rattle.lay_base.specs.declared.faults.TrapKind.TheVariants.{Unmapped, Illegal, Misaligned}
use Rattle.rv_isa.specs.declared.image.Segment.{Segment}
use Rattle.rv_isa.specs.declared.instruction.Inst.{Inst}
use Rattle.rv_isa.specs.declared.instruction.Inst.TheVariants.{Jal, Jalr, Beq, Bne, Blt, Bge, Bltu, Bgeu, Lb, Lh, Lw, Lbu, Lhu, Sb, Sh, Sw, Ecall}
use Rattle.rv_isa.specs.Memory.{executable, are_mapped, word_at}
use Rattle.rv_isa.specs.Decoding.{decoded}
use Rattle.rv_isa.specs.Step.{State, Stepped, Goes, Ends, Trap, jumps, branches, accesses, executed, performed, step}
use Rattle.rv_machine.specs.declared.hart.Moved.{Moved}
use Rattle.rv_machine.specs.declared.hart.Moved.TheVariants as M
use Rattle.rv_machine.specs.declared.hart.Hart.{Hart}
use Rattle.rv_machine.specs.declared.decoder.Decoder.{Decoder}
use Rattle.rv_machine.specs.View.{content_of, if_mapped}
use Rattle.rv_machine.specs.Harts.{Executes, Performs, places_of, state_at, state_of}
use Rattle.rv_machine.proofs.Places.{some_if, none_if}
use Rattle.rv_machine.specs.Keeping.{IsReady, Keeps}
use Rattle.rv_machine.specs.Stepping.{with_streams, StepGives}

-- what a step leads to, with other streams
abbrev lifted : (input output : List ℕ) → Stepped → Stepped
lifted input output (Goes t) = Goes (with_streams input output t)
lifted input output (Ends standing) = Ends standing

module _ (input output : List ℕ) where
  lifted_cond : (b : Bool) (x y : Stepped) → lifted input output (cond b x y) ≡ cond b (lifted input output x) (lifted input output y)
  lifted_cond true x y = refl
  lifted_cond false x y = refl

  module _ (places : List Segment) (s : State) where
    jumps_lift : (rd target : ℕ) → jumps (with_streams input output s) rd target ≡ lifted input output (jumps s rd target)
    jumps_lift rd target = sym (lifted_cond (eqb (target % 4) 0) _ _)

    branches_lift : (test : Bool) (distance : ℤ) → branches (with_streams input output s) test distance ≡ lifted input output (branches s test distance)
    branches_lift true distance = jumps_lift 0 _
    branches_lift false distance = refl

    accesses_lift : (flag a n : ℕ) (done : Stepped)
        → accesses places (with_streams input output s) flag a n (lifted input output done) ≡ lifted input output (accesses places s flag a n done)
    accesses_lift flag a n done =
        sym (lifted_cond (eqb (a % n) 0) _ _ ∙ ap (λ (x : Stepped). cond (eqb (a % n) 0) x (Ends (Trap Misaligned s.pc)))
        (lifted_cond (are_mapped places flag a n) _ _))

    -- every instruction but a call of the environment
    executed_lift : (i : Inst) → (i ≡ Ecall → ⊥) → executed places (with_streams input output s) i ≡ lifted input output (executed places s i)
    executed_lift Ecall other = absurd (other refl)
    executed_lift (Jal rd imm) other = jumps_lift rd _
    executed_lift (Jalr rd rs1 imm) other = jumps_lift rd _
    executed_lift (Beq rs1 rs2 imm) other = branches_lift _ imm
    executed_lift (Bne rs1 rs2 imm) other = branches_lift _ imm
    executed_lift (Blt rs1 rs2 imm) other = branches_lift _ imm
    executed_lift (Bge rs1 rs2 imm) other = branches_lift _ imm
    executed_lift (Bltu rs1 rs2 imm) other = branches_lift _ imm
    executed_lift (Bgeu rs1 rs2 imm) other = branches_lift _ imm
    executed_lift (Lb rd rs1 imm) other = accesses_lift _ _ 1 _
    executed_lift (Lh rd rs1 imm) other = accesses_lift _ _ 2 _
    executed_lift (Lw rd rs1 imm) other = accesses_lift _ _ 4 _
    executed_lift (Lbu rd rs1 imm) other = accesses_lift _ _ 1 _
    executed_lift (Lhu rd rs1 imm) other = accesses_lift _ _ 2 _
    executed_lift (Sb rs1 rs2 imm) other = accesses_lift _ _ 1 _
    executed_lift (Sh rs1 rs2 imm) other = accesses_lift _ _ 2 _
    executed_lift (Sw rs1 rs2 imm) other = accesses_lift _ _ 4 _
    executed_lift _ other = refl

-- an instruction is a call of the environment, or it is executed
pub data Kind (places : List Segment) (old new : State) (i : Inst) (moved : Moved) : Type 0 where
  Calling : i ≡ Ecall → moved ≡ M.Calls → new ≡ old → Kind places old new i moved
  Plain : (i ≡ Ecall → ⊥) → Executes old new (executed places old i) moved → Kind places old new i moved

pub kind_of : (places : List Segment) (old new : State) (i : Inst) (moved : Moved) → Performs places old new i moved → Kind places old new i moved
kind_of places old new Ecall moved h = Calling refl h.0 h.1
kind_of places old new _ moved h = Plain (λ e. cc) h

-- the step of an instruction that is executed
plain_gives : (places : List Segment) (old new : State) (moved : Moved) (stepped : Stepped)
    → ((input output : List ℕ) → step places (with_streams input output old) ≡ lifted input output stepped) → Executes old new stepped moved
    → StepGives places old new moved
plain_gives places old new M.Goes stepped h e = λ input output. h input output ∙ ap (lifted input output) e
plain_gives places old new (M.Exits status) stepped h e = ((λ input output. h input output ∙ ap (lifted input output) e.0), e.1)
plain_gives places old new (M.Traps kind) stepped h e = ((λ input output. h input output ∙ ap (lifted input output) e.0), e.1)
plain_gives places old new M.Breaks stepped h e = ((λ input output. h input output ∙ ap (lifted input output) e.0), e.1)
plain_gives places old new M.Calls stepped h e = absurd e

module _ (places : List Segment) (old new : State) (w : ℕ) (i : Inst) (moved : Moved) (mapped : are_mapped places executable old.pc 4 ≡ true)
    (word : w ≡ word_at old.memory old.pc) (read : decoded w ≡ Some i) where
  -- the step is the instruction
  step_is : (input output : List ℕ) → step places (with_streams input output old) ≡ executed places (with_streams input output old) i
  unfolding step
  step_is input output =
      ap (λ (b : Bool). cond b (performed places (with_streams input output old) (decoded (word_at old.memory old.pc))) (Ends (Trap Unmapped old.pc))) mapped
      ∙ ap (performed places (with_streams input output old)) (ap decoded (sym word) ∙ read)

  by_kind : Kind places old new i moved → StepGives places old new moved
  by_kind (Calling call moves same) =
      subst (StepGives places old new) (sym moves) (
        ap decoded (sym word) ∙ read
            ∙ ap Some call,
        (λ input output. step_is input output ∙ ap (executed places (with_streams input output old)) call),
        same,
      )
  by_kind (Plain other e) =
      plain_gives places old new moved (executed places old i) (λ input output. step_is input output
      ∙ executed_lift input output places old i other) e

  pub performed_gives : Performs places old new i moved → StepGives places old new moved
  performed_gives h = by_kind (kind_of places old new i moved h)

-- the step where there is no instruction
pub unmapped_gives : (places : List Segment) (old new : State) → are_mapped places executable old.pc 4 ≡ false → new ≡ old
    → StepGives places old new (M.Traps Unmapped)
unfolding step
unmapped_gives places old new mapped same = (
  (λ input output. ap (λ (b : Bool). cond b (performed places (with_streams input output old) (decoded (word_at old.memory old.pc)))
      (Ends (Trap Unmapped old.pc))) mapped),
  same,
)

pub illegal_gives : (places : List Segment) (old new : State) (w : ℕ) → are_mapped places executable old.pc 4 ≡ true → w ≡ word_at old.memory old.pc
    → None ≡ decoded w → new ≡ old → StepGives places old new (M.Traps Illegal)
unfolding step
illegal_gives places old new w mapped word read same = (
  (λ input output.
      ap (λ (b : Bool). cond b (performed places (with_streams input output old) (decoded (word_at old.memory old.pc))) (Ends (Trap Unmapped old.pc))) mapped
      ∙ ap (performed places (with_streams input output old)) (ap decoded (sym word) ∙ sym read)),
  same,
)

-- ---- the code's step

module _ (hart : Hart) where
  pub code_unmapped : None ≡ if_mapped hart.memory 1 hart.pc 4 (word_at (content_of hart.memory) hart.pc)
      → StepGives (places_of hart) (state_of hart) (state_of hart) (M.Traps Unmapped)
  code_unmapped fetched = unmapped_gives (places_of hart) (state_of hart) (state_of hart) (none_if _ (word_at (content_of hart.memory) hart.pc) fetched) refl

  pub code_illegal : (w : ℕ) → Some w ≡ if_mapped hart.memory 1 hart.pc 4 (word_at (content_of hart.memory) hart.pc) → decoded w ≡ None
      → StepGives (places_of hart) (state_of hart) (state_of hart) (M.Traps Illegal)
  code_illegal w fetched read =
      let f = some_if _ w (word_at (content_of hart.memory) hart.pc) fetched in
      illegal_gives (places_of hart) (state_of hart) (state_of hart) w f.0 f.1 (sym read) refl

-- an instruction that is executed where it is ready, in a hart that is as it was before
pub code_gives : (old here : Hart) (pc : ℕ) (decoder : Decoder) (new : State) (i : Inst) (moved : Moved) → places_of here ≡ places_of old
    → state_at here pc ≡ state_at old pc → IsReady here.memory decoder pc → ((w : ℕ) → Keeps decoder pc w → decoded w ≡ Some i)
    → Performs (places_of here) (state_at here pc) new i moved → StepGives (places_of old) (state_at old pc) new moved
code_gives old here pc decoder new i moved places state ready read h =
    subst (λ (p : List Segment). StepGives p (state_at old pc) new moved) places
    (subst (λ (s : State). StepGives (places_of here) s new moved) state
    (performed_gives (places_of here) (state_at here pc) new (word_at (content_of here.memory) pc) i moved ready.mapped refl (read _ ready.kept) h))
