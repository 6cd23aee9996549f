-- FILL.
use Rattle.std.proofs.Common.{◌≡◌, ℕ, zero, suc, ◌+◌, ◌-◌, ◌%◌, ◌^◌, ◌<◌, ◌≤◌, ◌≢◌, ◌⊎◌, inl, inr, true, false, eqb, List, pos, negsuc}
use Rattle.std.proofs.Common.{refl, ap, sym, ◌∙◌, subst, arith, eq-eqb, ne_eqb}
use Rattle.std.proofs.lemmas.Bool.{cases_eq}
use Rattle.std.proofs.lemmas.Int.{ints}
use Rattle.rv_isa.specs.declared.image.Segment.{Segment}
use Rattle.rv_isa.specs.declared.instruction.Inst.TheVariants.{Jal, Beq, Sb, Addi}
use Rattle.rv_isa.specs.Arithmetic.{plus}
use Rattle.rv_isa.specs.Memory.{Memory, writable, are_mapped, with_byte}
use Rattle.rv_isa.specs.Step.{State}
use Rattle.rv_isa.specs.Events.{MachineEvent}
use Rattle.rv_runtime.specs.Steps.States.{put, at, IsBackward, code_end, Keeps}
use Rattle.rv_runtime.proofs.Steps.Ranges.{mapped_part}
use Rattle.rv_runtime.proofs.Steps.Registers.{put_other}
use Rattle.rv_runtime.proofs.Steps.Routines.{by_routine, puts_inside, stores_inside}
use Rattle.rv_runtime.proofs.Steps.Words.{keeps_byte, with_byte_same, with_byte_other}
use Rattle.rv_runtime.specs.Bytes.{Runtime}
use Rattle.rv_runtime.specs.Effects.{Leaves, Returns, Filled}
use Rattle.rv_runtime.specs.Routines.{fill_entry}
use Rattle.rv_runtime.proofs.Returning.{still_returns, comes_back}

-- nothing is filled
filled_none : (memory : Memory) (to v : ℕ) → Filled memory memory to v 0
filled_none memory to v = record { inside = λ i lt. absurd (omega arith); outside = λ a away. refl }

-- one byte, and then the others
filled_one : (memory after : Memory) (to v k : ℕ) → Filled (with_byte memory to v) after (to + 1) v k → Filled memory after to v (suc k)
filled_one memory after to v k rest = record {
  inside = λ i lt. by_place i lt (cases_eq i 0);
  outside = λ a away. rest.outside a (elim away [ inl lt ↦ inl (omega arith) | inr ge ↦ inr (omega arith) ]) ∙ with_byte_other memory to v a (λ e. omega arith);
}
  where
    by_place : (i : ℕ) → i < suc k → (i ≡ 0) ⊎ (i ≡ 0 → ⊥) → after (to + i) ≡ v % 2 ^ 8
    by_place i lt (inl e) =
        let d : to + i ≡ to = omega arith in
        ap after d ∙ rest.outside to (inl (omega arith)) ∙ with_byte_same memory to v
    by_place i lt (inr ne) =
        let d : to + i ≡ to + 1 + (i - 1) = omega arith in
        ap after d ∙ rest.inside (i - 1) (omega arith)

module _ (segments : List Segment) (text : Memory) (Claim : ℕ → State → List MachineEvent → Type 0) (claim : IsBackward segments Claim)
    (runtime : Runtime segments text) (n : ℕ) (before : List MachineEvent) (input output : List ℕ) where
  -- x13 goes up, and x12 bytes are left
  filling : (k to v : ℕ) (h : ℕ → ℕ) (memory : Memory) → Keeps text memory → h 0 ≡ 0 → h 11 ≡ v → h 12 ≡ k → h 13 ≡ to → to + k < 2 ^ 32 → (0 < k → code_end ≤ to)
      → are_mapped segments writable to k ≡ true
      → ((g : ℕ → ℕ) (after : Memory) → Filled memory after to v k → Keeps text after → ((r : ℕ) → r ≢ 12 → r ≢ 13 → g r ≡ h r)
      → Claim n (at g 0x10DFC after input output) before)
      → Claim n (at h 0x10C04 memory input output) before
  filling zero to v h memory keeps nil is11 is12 is13 fits low mapped c =
      by_routine segments text Claim claim n (at h 0x10C04 memory input output) (at h 0x10DFC memory input output) before (Beq 12 0 (pos 504)) keeps
      runtime.fill.1.0 refl (let t : eqb (h 12) (h 0) ≡ true = eq-eqb (h 12) (h 0) (is12 ∙ sym nil) in rw t refl)
      (c h memory (filled_none memory to v) keeps (λ r n12 n13. refl))
  filling (suc k) to v h memory keeps nil is11 is12 is13 fits low mapped c =
      let m = with_byte memory to v in
      let h1 = put h 13 (to + 1) in
      let h2 = put h1 12 k in
      let kept = keeps_byte text memory to v keeps (low (omega arith)) in
      by_routine segments text Claim claim n (at h 0x10C04 memory input output) (at h 0x10C08 memory input output) before (Beq 12 0 (pos 504)) keeps
      runtime.fill.1.0 refl (let t : eqb (h 12) (h 0) ≡ false = ne_eqb (h 12) (h 0) (λ e. omega arith) in rw t refl)
      (stores_inside segments text Claim claim n before h 0x10C08 memory input output keeps refl (Sb 13 11 (pos 0)) runtime.fill.1.1.0
      1 (plus (h 13) (pos 0)) to (λ (z : ℕ). with_byte memory z (h 11)) refl (omega (arith, ints)) (omega arith)
      (mapped_part segments writable to (suc k) to 1 mapped (omega arith) (omega arith))
      (subst (λ (z : ℕ). Claim n (at h 0x10C0C (with_byte memory to z) input output) before) (sym is11)
      (puts_inside segments text Claim claim n before h 0x10C0C m input output kept refl (Addi 13 13 (pos 1)) runtime.fill.1.1.1.0
      13 (to + 1) (plus (h 13) (pos 1)) (omega arith) refl (omega (arith, ints))
      (puts_inside segments text Claim claim n before h1 0x10C10 m input output kept refl (Addi 12 12 (negsuc 0)) runtime.fill.1.1.1.1.0
      12 k (plus (h 12) (negsuc 0)) (omega arith) refl (omega (arith, ints))
      (by_routine segments text Claim claim n (at h2 0x10C14 m input output) (at h2 0x10C04 m input output) before (Jal 0 (negsuc 15)) kept
      runtime.fill.1.1.1.1.1.0 refl refl
      (filling k (to + 1) v h2 m kept nil is11 refl refl (omega arith) (λ lt. omega (arith, low (omega arith)))
      (mapped_part segments writable to (suc k) (to + 1) k mapped (omega arith) (omega arith))
      (λ g after filled keeps' same. c g after (filled_one memory after to v k filled) keeps'
      (λ r n12 n13. same r n12 n13 ∙ put_other h1 12 _ r n12 ∙ put_other h 13 _ r n13))))))))

  -- x12 bytes from x10 on are the low byte of x11
  pub fill_works : (f : ℕ → ℕ) (place to v k : ℕ) (memory : Memory) → Keeps text memory → Returns f place → f 10 ≡ to → f 11 ≡ v → f 12 ≡ k
      → to + k < 2 ^ 32 → (0 < k → code_end ≤ to) → are_mapped segments writable to k ≡ true
      → ((g : ℕ → ℕ) (after : Memory) → Filled memory after to v k → Keeps text after → g 10 ≡ to → Leaves f g → Claim n (at g place after input output) before)
      → Claim n (at f fill_entry memory input output) before
  fill_works f place to v k memory keeps back is10 is11 is12 fits low mapped c =
      puts_inside segments text Claim claim n before f 0x10C00 memory input output keeps refl (Addi 13 10 (pos 0)) runtime.fill.0
      13 (f 10) (plus (f 10) (pos 0)) (omega arith) refl (omega (arith, ints))
      (filling k to v (put f 13 (f 10)) memory keeps back.nil is11 is12 is10 fits low mapped
      (λ g after filled keeps' same.
      let leaves : Leaves f g = λ r away. same r (λ e. omega arith) (λ e. omega arith) ∙ put_other f 13 _ r (λ e. omega arith) in
      comes_back segments text Claim claim n before g 0x10DFC after input output keeps' runtime.fill_last place (still_returns f g place back leaves) refl
      (c g after filled keeps' (same 10 (λ e. omega arith) (λ e. omega arith) ∙ is10) leaves)))
