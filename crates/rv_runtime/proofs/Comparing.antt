-- COMPARE.
use Rattle.std.proofs.Common.{◌≡◌, ℕ, zero, suc, ◌+◌, ◌-◌, ◌^◌, ◌<◌, ◌≤◌, ◌≢◌, ◌⊎◌, inl, inr, true, false, eqb, ltb, List, pos, negsuc}
use Rattle.std.proofs.Common.{refl, ap, sym, ◌∙◌, arith, eq-eqb, ne_eqb, lt-ltb, le-ltb}
use Rattle.std.proofs.lemmas.Bool.{cases_eq, cases_order}
use Rattle.std.proofs.lemmas.Int.{ints}
use Rattle.rv_isa.specs.declared.image.Segment.{Segment}
use Rattle.rv_isa.specs.declared.instruction.Inst.TheVariants.{Jal, Beq, Bne, Lbu, Addi, Sub, Sltu}
use Rattle.rv_isa.specs.Arithmetic.{plus, one_if, difference}
use Rattle.rv_isa.specs.Memory.{Memory, readable, are_mapped}
use Rattle.rv_isa.specs.Step.{State}
use Rattle.rv_isa.specs.Events.{MachineEvent}
use Rattle.rv_runtime.specs.Steps.States.{put, at, IsBackward, Keeps}
use Rattle.rv_runtime.proofs.Steps.Ranges.{mapped_part}
use Rattle.rv_runtime.proofs.Steps.Registers.{put_other}
use Rattle.rv_runtime.proofs.Steps.Routines.{by_routine, puts_inside, loads_inside}
use Rattle.rv_runtime.specs.Bytes.{Runtime}
use Rattle.rv_runtime.specs.Effects.{Leaves, Returns, compared}
use Rattle.rv_runtime.specs.Routines.{compare_entry}
use Rattle.rv_runtime.proofs.Returning.{wider, still_returns, comes_back}

-- ---- the first bytes

compared_less : (memory : Memory) (p q k : ℕ) → memory p < memory q → compared memory p q (suc k) ≡ 2 ^ 32 - 1
unfolding compared
compared_less memory p q k lt = rw (lt-ltb _ _ lt) refl

compared_greater : (memory : Memory) (p q k : ℕ) → memory q < memory p → compared memory p q (suc k) ≡ 1
unfolding compared
compared_greater memory p q k lt = (let e : ltb (memory p) (memory q) ≡ false = le-ltb _ _ (omega arith) in rw (e, lt-ltb _ _ lt) refl)

compared_same : (memory : Memory) (p q k : ℕ) → memory p ≡ memory q → compared memory p q (suc k) ≡ compared memory (p + 1) (q + 1) k
unfolding compared
compared_same memory p q k same =
    let e : ltb (memory p) (memory q) ≡ false = le-ltb _ _ (omega arith) in
    let d : ltb (memory q) (memory p) ≡ false = le-ltb _ _ (omega arith) in
    rw (e, d) refl

-- of two bytes that differ
less_first : (x y : ℕ) → x < y → difference (one_if (ltb y x)) (one_if (ltb x y)) ≡ 2 ^ 32 - 1
less_first x y lt = (let e : ltb y x ≡ false = le-ltb _ _ (omega arith) in rw (e, lt-ltb _ _ lt) refl)

greater_first : (x y : ℕ) → y < x → difference (one_if (ltb y x)) (one_if (ltb x y)) ≡ 1
greater_first x y lt = (let e : ltb x y ≡ false = le-ltb _ _ (omega arith) in rw (e, lt-ltb _ _ lt) refl)

differ : (memory : Memory) (p q k : ℕ) → memory p ≢ memory q
    → difference (one_if (ltb (memory q) (memory p))) (one_if (ltb (memory p) (memory q))) ≡ compared memory p q (suc k)
differ memory p q k ne = elim (cases_order (memory p) (memory q)) [
  | inl e ↦ absurd (ne e)
  | inr (inl lt) ↦ less_first _ _ lt ∙ sym (compared_less memory p q k lt)
  | inr (inr lt) ↦ greater_first _ _ lt ∙ sym (compared_greater memory p q k lt)
]

compared_none : (memory : Memory) (p q : ℕ) → 0 ≡ compared memory p q 0
unfolding compared
compared_none memory p q = refl

module _ (segments : List Segment) (text : Memory) (Claim : ℕ → State → List MachineEvent → Type 0) (claim : IsBackward segments Claim)
    (runtime : Runtime segments text) (n : ℕ) (before : List MachineEvent) (memory : Memory) (input output : List ℕ) (keeps : Keeps text memory) where
  abbrev S : (ℕ → ℕ) → ℕ → State
  S h pc = at h pc memory input output

  -- x10 to x14 may have changed
  abbrev Same : (h g : ℕ → ℕ) → Type 0
  Same h g = (r : ℕ) → (r < 10) ⊎ (15 ≤ r) → g r ≡ h r

  other : (h : ℕ → ℕ) (r k v : ℕ) → (r < 10) ⊎ (15 ≤ r) → 10 ≤ k → k < 15 → put h k v r ≡ h r
  other h r k v away low high = put_other h k v r (λ d. omega arith)

  -- the answer is in x12
  answers : (h : ℕ → ℕ) (v : ℕ) → h 12 ≡ v → v < 2 ^ 32
      → ((g : ℕ → ℕ) → g 10 ≡ v → Same h g → Claim n (S g 0x10FFC) before) → Claim n (S h 0x10E2C) before
  answers h v is small c =
      let g = put h 10 v in
      puts_inside segments text Claim claim n before h 0x10E2C memory input output keeps refl (Addi 10 12 (pos 0)) runtime.compare.1.1.1.1.1.1.1.1.1.1.1.0
      10 v (plus (h 12) (pos 0)) (omega arith) refl (omega (arith, ints))
      (by_routine segments text Claim claim n (S g 0x10E30) (S g 0x10FFC) before (Jal 0 (pos 460)) keeps runtime.compare.1.1.1.1.1.1.1.1.1.1.1.1.0 refl refl
      (c g refl (λ r away. other h r 10 _ away (omega arith) (omega arith))))

  -- two bytes that differ, in x13 and x14
  differing : (h : ℕ → ℕ) (x y : ℕ) → h 13 ≡ x → h 14 ≡ y
      → ((g : ℕ → ℕ) → g 10 ≡ difference (one_if (ltb y x)) (one_if (ltb x y)) → Same h g → Claim n (S g 0x10FFC) before) → Claim n (S h 0x10E20) before
  differing h x y is13 is14 c =
      let h1 = put h 10 (one_if (ltb y x)) in
      let h2 = put h1 12 (one_if (ltb x y)) in
      let v = difference (one_if (ltb y x)) (one_if (ltb x y)) in
      let h3 = put h2 12 v in
      puts_inside segments text Claim claim n before h 0x10E20 memory input output keeps refl (Sltu 10 14 13) runtime.compare.1.1.1.1.1.1.1.1.0
      10 (one_if (ltb y x)) (one_if (ltb (h 14) (h 13))) (omega arith) refl
      (ap (λ (z : ℕ). one_if (ltb z (h 13))) is14 ∙ ap (λ (z : ℕ). one_if (ltb y z)) is13)
      (puts_inside segments text Claim claim n before h1 0x10E24 memory input output keeps refl (Sltu 12 13 14) runtime.compare.1.1.1.1.1.1.1.1.1.0
      12 (one_if (ltb x y)) (one_if (ltb (h 13) (h 14))) (omega arith) refl
      (ap (λ (z : ℕ). one_if (ltb z (h 14))) is13 ∙ ap (λ (z : ℕ). one_if (ltb x z)) is14)
      (puts_inside segments text Claim claim n before h2 0x10E28 memory input output keeps refl (Sub 12 10 12) runtime.compare.1.1.1.1.1.1.1.1.1.1.0
      12 v v (omega arith) refl refl
      (answers h3 v refl (omega arith)
      (λ g is same. c g is (λ r away. same r away ∙ other h2 r 12 _ away (omega arith) (omega arith) ∙ other h1 r 12 _ away (omega arith) (omega arith)
      ∙ other h r 10 _ away (omega arith) (omega arith))))))

  -- k bytes from p and from q on
  comparing : (k p q : ℕ) (h : ℕ → ℕ) → h 0 ≡ 0 → h 10 ≡ p → h 11 ≡ q → h 12 ≡ k → p + k < 2 ^ 32 → q + k < 2 ^ 32
      → are_mapped segments readable p k ≡ true → are_mapped segments readable q k ≡ true
      → ((g : ℕ → ℕ) → g 10 ≡ compared memory p q k → Same h g → Claim n (S g 0x10FFC) before) → Claim n (S h 0x10E00) before
  comparing zero p q h nil is10 is11 is12 fit fit' mapped mapped' c =
      by_routine segments text Claim claim n (S h 0x10E00) (S h 0x10E2C) before (Beq 12 0 (pos 44)) keeps runtime.compare.0 refl
      (let t : eqb (h 12) (h 0) ≡ true = eq-eqb (h 12) (h 0) (is12 ∙ sym nil) in rw t refl)
      (answers h 0 is12 (omega arith) (λ g is same. c g (is ∙ compared_none memory p q) same))
  comparing (suc k) p q h nil is10 is11 is12 fit fit' mapped mapped' c =
      let x = memory p in
      let y = memory q in
      let h1 = put h 13 x in
      let h2 = put h1 14 y in
      let h3 = put h2 10 (p + 1) in
      let h4 = put h3 11 (q + 1) in
      let h5 = put h4 12 k in
      by_routine segments text Claim claim n (S h 0x10E00) (S h 0x10E04) before (Beq 12 0 (pos 44)) keeps runtime.compare.0 refl
      (let t : eqb (h 12) (h 0) ≡ false = ne_eqb (h 12) (h 0) (λ e. omega arith) in rw t refl)
      (loads_inside segments text Claim claim n before h 0x10E04 memory input output keeps refl (Lbu 13 10 (pos 0)) runtime.compare.1.0
      13 x 1 (plus (h 10) (pos 0)) p memory (omega arith) refl (omega (arith, ints)) (omega arith)
      (mapped_part segments readable p (suc k) p 1 mapped (omega arith) (omega arith)) refl
      (loads_inside segments text Claim claim n before h1 0x10E08 memory input output keeps refl (Lbu 14 11 (pos 0)) runtime.compare.1.1.0
      14 y 1 (plus (h 11) (pos 0)) q memory (omega arith) refl (omega (arith, ints)) (omega arith)
      (mapped_part segments readable q (suc k) q 1 mapped' (omega arith) (omega arith)) refl
      (elim (cases_eq x y) [
        | inl e ↦
            by_routine segments text Claim claim n (S h2 0x10E0C) (S h2 0x10E10) before (Bne 13 14 (pos 20)) keeps runtime.compare.1.1.1.0 refl
            (let t : eqb x y ≡ true = eq-eqb x y e in rw t refl)
            (puts_inside segments text Claim claim n before h2 0x10E10 memory input output keeps refl (Addi 10 10 (pos 1)) runtime.compare.1.1.1.1.0
            10 (p + 1) (plus (h 10) (pos 1)) (omega arith) refl (omega (arith, ints))
            (puts_inside segments text Claim claim n before h3 0x10E14 memory input output keeps refl (Addi 11 11 (pos 1)) runtime.compare.1.1.1.1.1.0
            11 (q + 1) (plus (h 11) (pos 1)) (omega arith) refl (omega (arith, ints))
            (puts_inside segments text Claim claim n before h4 0x10E18 memory input output keeps refl (Addi 12 12 (negsuc 0)) runtime.compare.1.1.1.1.1.1.0
            12 k (plus (h 12) (negsuc 0)) (omega arith) refl (omega (arith, ints))
            (by_routine segments text Claim claim n (S h5 0x10E1C) (S h5 0x10E00) before (Jal 0 (negsuc 27)) keeps runtime.compare.1.1.1.1.1.1.1.0 refl refl
            (comparing k (p + 1) (q + 1) h5 nil refl refl refl (omega arith) (omega arith)
            (mapped_part segments readable p (suc k) (p + 1) k mapped (omega arith) (omega arith))
            (mapped_part segments readable q (suc k) (q + 1) k mapped' (omega arith) (omega arith))
            (λ g is same. c g (is ∙ sym (compared_same memory p q k e))
            (λ r away. same r away ∙ other h4 r 12 _ away (omega arith) (omega arith) ∙ other h3 r 11 _ away (omega arith) (omega arith)
            ∙ other h2 r 10 _ away (omega arith) (omega arith) ∙ other h1 r 14 _ away (omega arith) (omega arith)
            ∙ other h r 13 _ away (omega arith) (omega arith))))))))
        | inr ne ↦
            by_routine segments text Claim claim n (S h2 0x10E0C) (S h2 0x10E20) before (Bne 13 14 (pos 20)) keeps runtime.compare.1.1.1.0 refl
            (let t : eqb x y ≡ false = ne_eqb x y ne in rw t refl)
            (differing h2 x y refl refl
            (λ g is same. c g (is ∙ differ memory p q k ne)
            (λ r away. same r away ∙ other h1 r 14 _ away (omega arith) (omega arith) ∙ other h r 13 _ away (omega arith) (omega arith))))
      ])))

  -- minus one, 0 or 1, by the first of x12 bytes from x10 and from x11 on that differ; memory is as it was
  pub compare_works : (f : ℕ → ℕ) (place p q k : ℕ) → Returns f place → f 10 ≡ p → f 11 ≡ q → f 12 ≡ k → p + k < 2 ^ 32 → q + k < 2 ^ 32
      → are_mapped segments readable p k ≡ true → are_mapped segments readable q k ≡ true
      → ((g : ℕ → ℕ) → g 10 ≡ compared memory p q k → Leaves f g → Claim n (at g place memory input output) before)
      → Claim n (at f compare_entry memory input output) before
  compare_works f place p q k back is10 is11 is12 fit fit' mapped mapped' c =
      comparing k p q f back.nil is10 is11 is12 fit fit' mapped mapped'
      (λ g is same.
      let leaves : Leaves f g = λ r away. same r (wider r 10 17 10 15 away (omega arith) (omega arith)) in
      comes_back segments text Claim claim n before g 0x10FFC memory input output keeps runtime.compare_last place (still_returns f g place back leaves) refl
      (c g is leaves))
