-- COPY: each byte that it stores is one of memory as it was, also where the ranges overlap.
use Rattle.std.proofs.Common.{◌≡◌, ℕ, zero, suc, ◌+◌, ◌-◌, ◌%◌, ◌^◌, ◌<◌, ◌≤◌, ◌⊎◌, inl, inr, true, false, eqb, ltb, List, pos, negsuc}
use Rattle.std.proofs.Common.{refl, ap, sym, ◌∙◌, arith, eq-eqb, ne_eqb, lt-ltb, le-ltb}
use Rattle.std.proofs.lemmas.Bool.{cases_eq, cases_lt}
use Rattle.std.proofs.lemmas.Int.{ints}
use Rattle.rv_isa.specs.declared.image.Segment.{Segment}
use Rattle.rv_isa.specs.declared.instruction.Inst.TheVariants.{Jal, Beq, Bltu, Lbu, Sb, Addi, Add}
use Rattle.rv_isa.specs.Arithmetic.{plus}
use Rattle.rv_isa.specs.Memory.{Memory, readable, writable, are_mapped, with_byte}
use Rattle.rv_isa.specs.Step.{State}
use Rattle.rv_isa.specs.Events.{MachineEvent}
use Rattle.rv_runtime.specs.Steps.States.{put, at, IsBackward, code_end, Keeps}
use Rattle.rv_runtime.proofs.Steps.Ranges.{mapped_part}
use Rattle.rv_runtime.proofs.Steps.Registers.{put_other}
use Rattle.rv_runtime.proofs.Steps.Routines.{by_routine, puts_inside, loads_inside, stores_inside}
use Rattle.rv_runtime.proofs.Steps.Words.{keeps_byte, with_byte_same, with_byte_other}
use Rattle.rv_runtime.specs.Bytes.{Runtime}
use Rattle.rv_runtime.specs.Effects.{Leaves, Returns, Copied}
use Rattle.rv_runtime.specs.Routines.{copy_entry}
use Rattle.rv_runtime.proofs.Returning.{wider, still_returns, comes_back}

-- ---- one byte more

copied_none : (memory : Memory) (to from : ℕ) → Copied memory memory to from 0
copied_none memory to from = record { inside = λ i lt. absurd (omega arith); outside = λ a away. refl }

-- the first byte is copied, and then the others
copied_up : (memory after : Memory) (to from k : ℕ) → memory from < 2 ^ 8 → to ≤ from → Copied (with_byte memory to (memory from)) after (to + 1) (from + 1) k
    → Copied memory after to from (suc k)
copied_up memory after to from k byte le rest = record {
  inside = λ i lt. by_place i lt (cases_eq i 0);
  outside = λ a away. rest.outside a (elim away [ inl lt ↦ inl (omega arith) | inr ge ↦ inr (omega arith) ]) ∙ with_byte_other memory to (memory from) a (λ e. omega arith);
}
  where
    by_place : (i : ℕ) → i < suc k → (i ≡ 0) ⊎ (i ≡ 0 → ⊥) → after (to + i) ≡ memory (from + i)
    by_place i lt (inl e) =
        let d : to + i ≡ to = omega arith in
        let d' : from ≡ from + i = omega arith in
        let small : memory from % 2 ^ 8 ≡ memory from = omega arith in
        ap after d ∙ rest.outside to (inl (omega arith)) ∙ with_byte_same memory to (memory from) ∙ small ∙ ap memory d'
    by_place i lt (inr ne) =
        let d : to + i ≡ to + 1 + (i - 1) = omega arith in
        let d' : from + 1 + (i - 1) ≡ from + i = omega arith in
        ap after d ∙ rest.inside (i - 1) (omega arith) ∙ with_byte_other memory to (memory from) (from + 1 + (i - 1)) (λ e. omega arith) ∙ ap memory d'

-- the last byte is copied, and then the others
copied_down : (memory after : Memory) (to from k : ℕ) → memory (from + k) < 2 ^ 8 → from ≤ to
    → Copied (with_byte memory (to + k) (memory (from + k))) after to from k → Copied memory after to from (suc k)
copied_down memory after to from k byte le rest = record {
  inside = λ i lt. by_place i lt (cases_eq i k);
  outside = λ a away. rest.outside a (elim away [ inl lt ↦ inl (omega arith) | inr ge ↦ inr (omega arith) ]) ∙ with_byte_other memory (to + k) (memory (from + k)) a (λ e. omega arith);
}
  where
    by_place : (i : ℕ) → i < suc k → (i ≡ k) ⊎ (i ≡ k → ⊥) → after (to + i) ≡ memory (from + i)
    by_place i lt (inl e) =
        let d : to + i ≡ to + k = omega arith in
        let d' : from + k ≡ from + i = omega arith in
        let small : memory (from + k) % 2 ^ 8 ≡ memory (from + k) = omega arith in
        ap after d ∙ rest.outside (to + k) (inr (omega arith)) ∙ with_byte_same memory (to + k) (memory (from + k)) ∙ small ∙ ap memory d'
    by_place i lt (inr ne) =
        rest.inside i (omega arith) ∙ with_byte_other memory (to + k) (memory (from + k)) (from + i) (λ e. omega arith)

-- ---- the loops

-- x11 to x14 may have changed
abbrev Same : (h g : ℕ → ℕ) → Type 0
Same h g = (r : ℕ) → (r < 11) ⊎ (15 ≤ r) → g r ≡ h r

other : (h : ℕ → ℕ) (r k v : ℕ) → (r < 11) ⊎ (15 ≤ r) → 11 ≤ k → k < 15 → put h k v r ≡ h r
other h r k v away low high = put_other h k v r (λ d. omega arith)

module _ (segments : List Segment) (text : Memory) (Claim : ℕ → State → List MachineEvent → Type 0) (claim : IsBackward segments Claim)
    (runtime : Runtime segments text) (n : ℕ) (before : List MachineEvent) (input output : List ℕ) where
  -- x11 and x13 go up, and x12 bytes are left
  copying_up : (k to from : ℕ) (h : ℕ → ℕ) (memory : Memory) → Keeps text memory → h 0 ≡ 0 → h 11 ≡ from → h 12 ≡ k → h 13 ≡ to → to ≤ from
      → from + k < 2 ^ 32 → (0 < k → code_end ≤ to) → are_mapped segments readable from k ≡ true → are_mapped segments writable to k ≡ true
      → ((g : ℕ → ℕ) (after : Memory) → Copied memory after to from k → Keeps text after → Same h g → Claim n (at g 0x10BFC after input output) before)
      → Claim n (at h 0x10A08 memory input output) before
  copying_up zero to from h memory keeps nil is11 is12 is13 le fits low reads writes c =
      by_routine segments text Claim claim n (at h 0x10A08 memory input output) (at h 0x10BFC memory input output) before (Beq 12 0 (pos 500)) keeps
      runtime.copy.1.1.0 refl (let t : eqb (h 12) (h 0) ≡ true = eq-eqb (h 12) (h 0) (is12 ∙ sym nil) in rw t refl)
      (c h memory (copied_none memory to from) keeps (λ r away. refl))
  copying_up (suc k) to from h memory keeps nil is11 is12 is13 le fits low reads writes c =
      let x = memory from in
      let m = with_byte memory to x in
      let kept = keeps_byte text memory to x keeps (low (omega arith)) in
      let h1 = put h 14 x in
      let h2 = put h1 11 (from + 1) in
      let h3 = put h2 13 (to + 1) in
      let h4 = put h3 12 k in
      by_routine segments text Claim claim n (at h 0x10A08 memory input output) (at h 0x10A0C memory input output) before (Beq 12 0 (pos 500)) keeps
      runtime.copy.1.1.0 refl (let t : eqb (h 12) (h 0) ≡ false = ne_eqb (h 12) (h 0) (λ e. omega arith) in rw t refl)
      (loads_inside segments text Claim claim n before h 0x10A0C memory input output keeps refl (Lbu 14 11 (pos 0)) runtime.copy.1.1.1.0
      14 x 1 (plus (h 11) (pos 0)) from memory (omega arith) refl (omega (arith, ints)) (omega arith)
      (mapped_part segments readable from (suc k) from 1 reads (omega arith) (omega arith)) refl
      (stores_inside segments text Claim claim n before h1 0x10A10 memory input output keeps refl (Sb 13 14 (pos 0)) runtime.copy.1.1.1.1.0
      1 (plus (h 13) (pos 0)) to (λ (z : ℕ). with_byte memory z x) refl (omega (arith, ints)) (omega arith)
      (mapped_part segments writable to (suc k) to 1 writes (omega arith) (omega arith))
      (puts_inside segments text Claim claim n before h1 0x10A14 m input output kept refl (Addi 11 11 (pos 1)) runtime.copy.1.1.1.1.1.0
      11 (from + 1) (plus (h 11) (pos 1)) (omega arith) refl (omega (arith, ints))
      (puts_inside segments text Claim claim n before h2 0x10A18 m input output kept refl (Addi 13 13 (pos 1)) runtime.copy.1.1.1.1.1.1.0
      13 (to + 1) (plus (h 13) (pos 1)) (omega arith) refl (omega (arith, ints))
      (puts_inside segments text Claim claim n before h3 0x10A1C m input output kept refl (Addi 12 12 (negsuc 0)) runtime.copy.1.1.1.1.1.1.1.0
      12 k (plus (h 12) (negsuc 0)) (omega arith) refl (omega (arith, ints))
      (by_routine segments text Claim claim n (at h4 0x10A20 m input output) (at h4 0x10A08 m input output) before (Jal 0 (negsuc 23)) kept
      runtime.copy.1.1.1.1.1.1.1.1.0 refl refl
      (copying_up k (to + 1) (from + 1) h4 m kept nil refl refl refl (omega arith) (omega arith) (λ lt. omega (arith, low (omega arith)))
      (mapped_part segments readable from (suc k) (from + 1) k reads (omega arith) (omega arith))
      (mapped_part segments writable to (suc k) (to + 1) k writes (omega arith) (omega arith))
      (λ g after copied keeps' same. c g after (copied_up memory after to from k (keeps.bytes from) le copied) keeps'
      (λ r away. same r away ∙ other h3 r 12 _ away (omega arith) (omega arith) ∙ other h2 r 13 _ away (omega arith) (omega arith)
      ∙ other h1 r 11 _ away (omega arith) (omega arith) ∙ other h r 14 _ away (omega arith) (omega arith))))))))))

  -- x12 bytes are left, of which the last is next
  copying_down : (k to from : ℕ) (h : ℕ → ℕ) (memory : Memory) → Keeps text memory → h 0 ≡ 0 → h 10 ≡ to → h 11 ≡ from → h 12 ≡ k → from ≤ to
      → to + k < 2 ^ 32 → (0 < k → code_end ≤ to) → are_mapped segments readable from k ≡ true → are_mapped segments writable to k ≡ true
      → ((g : ℕ → ℕ) (after : Memory) → Copied memory after to from k → Keeps text after → Same h g → Claim n (at g 0x10BFC after input output) before)
      → Claim n (at h 0x10A24 memory input output) before
  copying_down zero to from h memory keeps nil is10 is11 is12 le fits low reads writes c =
      by_routine segments text Claim claim n (at h 0x10A24 memory input output) (at h 0x10BFC memory input output) before (Beq 12 0 (pos 472)) keeps
      runtime.copy.1.1.1.1.1.1.1.1.1.0 refl (let t : eqb (h 12) (h 0) ≡ true = eq-eqb (h 12) (h 0) (is12 ∙ sym nil) in rw t refl)
      (c h memory (copied_none memory to from) keeps (λ r away. refl))
  copying_down (suc k) to from h memory keeps nil is10 is11 is12 le fits low reads writes c =
      let x = memory (from + k) in
      let m = with_byte memory (to + k) x in
      let kept = keeps_byte text memory (to + k) x keeps (omega (arith, low (omega arith))) in
      let h1 = put h 12 k in
      let h2 = put h1 13 (from + k) in
      let h3 = put h2 14 x in
      let h4 = put h3 13 (to + k) in
      by_routine segments text Claim claim n (at h 0x10A24 memory input output) (at h 0x10A28 memory input output) before (Beq 12 0 (pos 472)) keeps
      runtime.copy.1.1.1.1.1.1.1.1.1.0 refl (let t : eqb (h 12) (h 0) ≡ false = ne_eqb (h 12) (h 0) (λ e. omega arith) in rw t refl)
      (puts_inside segments text Claim claim n before h 0x10A28 memory input output keeps refl (Addi 12 12 (negsuc 0)) runtime.copy.1.1.1.1.1.1.1.1.1.1.0
      12 k (plus (h 12) (negsuc 0)) (omega arith) refl (omega (arith, ints))
      (puts_inside segments text Claim claim n before h1 0x10A2C memory input output keeps refl (Add 13 11 12) runtime.copy.1.1.1.1.1.1.1.1.1.1.1.0
      13 (from + k) ((h 11 + k) % 2 ^ 32) (omega arith) refl (omega arith)
      (loads_inside segments text Claim claim n before h2 0x10A30 memory input output keeps refl (Lbu 14 13 (pos 0)) runtime.copy.1.1.1.1.1.1.1.1.1.1.1.1.0
      14 x 1 (plus (from + k) (pos 0)) (from + k) memory (omega arith) refl (omega (arith, ints)) (omega arith)
      (mapped_part segments readable from (suc k) (from + k) 1 reads (omega arith) (omega arith)) refl
      (puts_inside segments text Claim claim n before h3 0x10A34 memory input output keeps refl (Add 13 10 12) runtime.copy.1.1.1.1.1.1.1.1.1.1.1.1.1.0
      13 (to + k) ((h 10 + k) % 2 ^ 32) (omega arith) refl (omega arith)
      (stores_inside segments text Claim claim n before h4 0x10A38 memory input output keeps refl (Sb 13 14 (pos 0)) runtime.copy.1.1.1.1.1.1.1.1.1.1.1.1.1.1.0
      1 (plus (to + k) (pos 0)) (to + k) (λ (z : ℕ). with_byte memory z x) refl (omega (arith, ints)) (omega arith)
      (mapped_part segments writable to (suc k) (to + k) 1 writes (omega arith) (omega arith))
      (by_routine segments text Claim claim n (at h4 0x10A3C m input output) (at h4 0x10A24 m input output) before (Jal 0 (negsuc 23)) kept
      runtime.copy.1.1.1.1.1.1.1.1.1.1.1.1.1.1.1.0 refl refl
      (copying_down k to from h4 m kept nil is10 is11 refl le (omega arith) (λ lt. low (omega arith))
      (mapped_part segments readable from (suc k) from k reads (omega arith) (omega arith))
      (mapped_part segments writable to (suc k) to k writes (omega arith) (omega arith))
      (λ g after copied keeps' same. c g after (copied_down memory after to from k (keeps.bytes (from + k)) le copied) keeps'
      (λ r away. same r away ∙ other h3 r 13 _ away (omega arith) (omega arith) ∙ other h2 r 14 _ away (omega arith) (omega arith)
      ∙ other h1 r 13 _ away (omega arith) (omega arith) ∙ other h r 12 _ away (omega arith) (omega arith))))))))))

  -- x12 bytes from x10 on are those that were from x11 on
  pub copy_works : (f : ℕ → ℕ) (place to from k : ℕ) (memory : Memory) → Keeps text memory → Returns f place → f 10 ≡ to → f 11 ≡ from → f 12 ≡ k
      → to + k < 2 ^ 32 → from + k < 2 ^ 32 → (0 < k → code_end ≤ to) → are_mapped segments readable from k ≡ true → are_mapped segments writable to k ≡ true
      → ((g : ℕ → ℕ) (after : Memory) → Copied memory after to from k → Keeps text after → g 10 ≡ to → Leaves f g
      → Claim n (at g place after input output) before)
      → Claim n (at f copy_entry memory input output) before
  copy_works f place to from k memory keeps back is10 is11 is12 fits fits' low reads writes c = elim (cases_lt from to) [
    | inl lt ↦
        by_routine segments text Claim claim n (at f 0x10A00 memory input output) (at f 0x10A24 memory input output) before (Bltu 11 10 (pos 36)) keeps
        runtime.copy.0 refl (let t : ltb (f 11) (f 10) ≡ true = lt-ltb (f 11) (f 10) (omega arith) in rw t refl)
        (copying_down k to from f memory keeps back.nil is10 is11 is12 (omega arith) fits low reads writes
        (λ g after copied keeps' same. returns g after copied keeps' (λ r away. same r (wider r 10 17 11 15 away (omega arith) (omega arith))) (same 10 (inl (omega arith)) ∙ is10)))
    | inr le ↦
        by_routine segments text Claim claim n (at f 0x10A00 memory input output) (at f 0x10A04 memory input output) before (Bltu 11 10 (pos 36)) keeps
        runtime.copy.0 refl (let t : ltb (f 11) (f 10) ≡ false = le-ltb (f 11) (f 10) (omega arith) in rw t refl)
        (puts_inside segments text Claim claim n before f 0x10A04 memory input output keeps refl (Addi 13 10 (pos 0)) runtime.copy.1.0
        13 to (plus (f 10) (pos 0)) (omega arith) refl (omega (arith, ints))
        (copying_up k to from (put f 13 to) memory keeps back.nil is11 is12 refl le fits' low reads writes
        (λ g after copied keeps' same. returns g after copied keeps' (λ r away. same r (wider r 10 17 11 15 away (omega arith) (omega arith)) ∙ put_other f 13 _ r (λ e. omega arith))
        (same 10 (inl (omega arith)) ∙ is10))))
  ]
    where
      returns : (g : ℕ → ℕ) (after : Memory) → Copied memory after to from k → Keeps text after → Leaves f g → g 10 ≡ to → Claim n (at g 0x10BFC after input output) before
      returns g after copied keeps' leaves is =
          comes_back segments text Claim claim n before g 0x10BFC after input output keeps' runtime.copy_last place (still_returns f g place back leaves) refl
          (c g after copied keeps' is leaves)
