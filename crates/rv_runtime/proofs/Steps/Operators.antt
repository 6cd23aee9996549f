-- What each instruction is, by the numbers of its registers: an operator, a load, a store, a branch or a jump; and the step of each kind backwards.
use Rattle.std.proofs.Common.{◌≡◌, ℕ, ◌+◌, ◌*◌, ◌/◌, ◌%◌, ◌<◌, ◌≤◌, Bool, true, false, not, eqb, ltb, List, [], Some, ℤ, bit_and, bit_or, bit_xor, refl, ap, sym, ◌∙◌, subst}
use Rattle.std.specs.Int.{w8, w16, cast_signed}
use Rattle.rv_isa.specs.declared.image.Segment.{Segment}
use Rattle.rv_isa.specs.declared.instruction.Inst.{Inst}
use Rattle.rv_isa.specs.declared.instruction.Inst.TheVariants.{Jal, Jalr, Beq, Bne, Blt, Bge, Bltu, Bgeu, Lb, Lh, Lw, Lbu, Lhu, Sb, Sh, Sw, Addi, Slti, Sltiu, Xori, Ori, Andi}
use Rattle.rv_isa.specs.declared.instruction.Inst.TheVariants.{Slli, Srli, Srai, Add, Sub, Sll, Slt, Sltu, Xor, Srl, Sra, Or, And, Mul, Mulh, Mulhsu, Mulhu, Div}
use Rattle.rv_isa.specs.declared.instruction.Inst.TheVariants.{Divu, Rem, Remu}
use Rattle.rv_isa.specs.Arithmetic.{one_if, plus, extended, is_less, sum, difference, product, high_signed, high_mixed, high_unsigned, shifted_left}
use Rattle.rv_isa.specs.Arithmetic.{shifted_right, shifted_right_signed, quotient, quotient_unsigned, remainder, remainder_unsigned}
use Rattle.rv_isa.specs.Memory.{Memory, readable, writable, are_mapped, half_at, word_at, with_byte, with_half, with_word}
use Rattle.rv_isa.specs.Step.{State, register, executed, accesses, writes, stores, branches}
use Rattle.rv_isa.specs.Events.{MachineEvent, accessed, loads_at, stores_at, code_address}
use Rattle.rv_runtime.specs.Steps.States.{put, at, later, IsBackward, Stands, Keeps}
use Rattle.rv_runtime.proofs.Steps.Registers.{register_is}
use Rattle.rv_runtime.proofs.Steps.Steps.{by_put, by_load, by_store, by_taken, by_passed, by_jump, linked}

-- ---- operators on two registers

-- the instruction writes the operator's value of two registers
pub record IsBinary (i : Inst) (r a b : ℕ) (op : ℕ → ℕ → ℕ) : Type 0 where
  pub does : (segments : List Segment) (s : State) → executed segments s i ≡ writes s r (op (register s a) (register s b))
  pub quiet : (segments : List Segment) (s : State) → accessed segments s (Some i) ≡ []

module _ (r a b : ℕ) where
  pub is_add : IsBinary (Add r a b) r a b sum
  is_add = record { does = λ segments s. refl; quiet = λ segments s. refl }

  pub is_sub : IsBinary (Sub r a b) r a b difference
  is_sub = record { does = λ segments s. refl; quiet = λ segments s. refl }

  pub is_mul : IsBinary (Mul r a b) r a b product
  is_mul = record { does = λ segments s. refl; quiet = λ segments s. refl }

  pub is_mulh : IsBinary (Mulh r a b) r a b high_signed
  is_mulh = record { does = λ segments s. refl; quiet = λ segments s. refl }

  pub is_mulhsu : IsBinary (Mulhsu r a b) r a b high_mixed
  is_mulhsu = record { does = λ segments s. refl; quiet = λ segments s. refl }

  pub is_mulhu : IsBinary (Mulhu r a b) r a b high_unsigned
  is_mulhu = record { does = λ segments s. refl; quiet = λ segments s. refl }

  pub is_div : IsBinary (Div r a b) r a b quotient
  is_div = record { does = λ segments s. refl; quiet = λ segments s. refl }

  pub is_divu : IsBinary (Divu r a b) r a b quotient_unsigned
  is_divu = record { does = λ segments s. refl; quiet = λ segments s. refl }

  pub is_rem : IsBinary (Rem r a b) r a b remainder
  is_rem = record { does = λ segments s. refl; quiet = λ segments s. refl }

  pub is_remu : IsBinary (Remu r a b) r a b remainder_unsigned
  is_remu = record { does = λ segments s. refl; quiet = λ segments s. refl }

  pub is_sll : IsBinary (Sll r a b) r a b shifted_left
  is_sll = record { does = λ segments s. refl; quiet = λ segments s. refl }

  pub is_srl : IsBinary (Srl r a b) r a b shifted_right
  is_srl = record { does = λ segments s. refl; quiet = λ segments s. refl }

  pub is_sra : IsBinary (Sra r a b) r a b shifted_right_signed
  is_sra = record { does = λ segments s. refl; quiet = λ segments s. refl }

  pub is_and : IsBinary (And r a b) r a b bit_and
  is_and = record { does = λ segments s. refl; quiet = λ segments s. refl }

  pub is_or : IsBinary (Or r a b) r a b bit_or
  is_or = record { does = λ segments s. refl; quiet = λ segments s. refl }

  pub is_xor : IsBinary (Xor r a b) r a b bit_xor
  is_xor = record { does = λ segments s. refl; quiet = λ segments s. refl }

  pub is_slt : IsBinary (Slt r a b) r a b (λ x y. one_if (is_less x y))
  is_slt = record { does = λ segments s. refl; quiet = λ segments s. refl }

  pub is_sltu : IsBinary (Sltu r a b) r a b (λ x y. one_if (ltb x y))
  is_sltu = record { does = λ segments s. refl; quiet = λ segments s. refl }

-- ---- operators on a register and an immediate

pub record IsUnary (i : Inst) (r a : ℕ) (op : ℕ → ℕ) : Type 0 where
  pub does : (segments : List Segment) (s : State) → executed segments s i ≡ writes s r (op (register s a))
  pub quiet : (segments : List Segment) (s : State) → accessed segments s (Some i) ≡ []

module _ (r a : ℕ) (imm : ℤ) where
  pub is_addi : IsUnary (Addi r a imm) r a (λ x. plus x imm)
  is_addi = record { does = λ segments s. refl; quiet = λ segments s. refl }

  pub is_slti : IsUnary (Slti r a imm) r a (λ x. one_if (is_less x (extended imm)))
  is_slti = record { does = λ segments s. refl; quiet = λ segments s. refl }

  pub is_sltiu : IsUnary (Sltiu r a imm) r a (λ x. one_if (ltb x (extended imm)))
  is_sltiu = record { does = λ segments s. refl; quiet = λ segments s. refl }

  pub is_xori : IsUnary (Xori r a imm) r a (λ x. bit_xor x (extended imm))
  is_xori = record { does = λ segments s. refl; quiet = λ segments s. refl }

  pub is_ori : IsUnary (Ori r a imm) r a (λ x. bit_or x (extended imm))
  is_ori = record { does = λ segments s. refl; quiet = λ segments s. refl }

  pub is_andi : IsUnary (Andi r a imm) r a (λ x. bit_and x (extended imm))
  is_andi = record { does = λ segments s. refl; quiet = λ segments s. refl }

  pub is_slli : IsUnary (Slli r a imm) r a (λ x. shifted_left x (extended imm))
  is_slli = record { does = λ segments s. refl; quiet = λ segments s. refl }

  pub is_srli : IsUnary (Srli r a imm) r a (λ x. shifted_right x (extended imm))
  is_srli = record { does = λ segments s. refl; quiet = λ segments s. refl }

  pub is_srai : IsUnary (Srai r a imm) r a (λ x. shifted_right_signed x (extended imm))
  is_srai = record { does = λ segments s. refl; quiet = λ segments s. refl }

-- ---- loads

-- the instruction loads so many bytes at a distance from a register's value; their value is one of memory and the address
pub record IsLoad (i : Inst) (r a : ℕ) (imm : ℤ) (width : ℕ) (value : Memory → ℕ → ℕ) : Type 0 where
  pub does : (segments : List Segment) (s : State)
      → executed segments s i ≡ accesses segments s readable (plus (register s a) imm) width (writes s r (value s.memory (plus (register s a) imm)))
  pub tells : (segments : List Segment) (s : State) → accessed segments s (Some i) ≡ loads_at segments (plus (register s a) imm) width

module _ (r a : ℕ) (imm : ℤ) where
  pub is_lb : IsLoad (Lb r a imm) r a imm 1 (λ memory p. extended (cast_signed w8 (memory p)))
  is_lb = record { does = λ segments s. refl; tells = λ segments s. refl }

  pub is_lbu : IsLoad (Lbu r a imm) r a imm 1 (λ memory p. memory p)
  is_lbu = record { does = λ segments s. refl; tells = λ segments s. refl }

  pub is_lh : IsLoad (Lh r a imm) r a imm 2 (λ memory p. extended (cast_signed w16 (half_at memory p)))
  is_lh = record { does = λ segments s. refl; tells = λ segments s. refl }

  pub is_lhu : IsLoad (Lhu r a imm) r a imm 2 half_at
  is_lhu = record { does = λ segments s. refl; tells = λ segments s. refl }

  pub is_lw : IsLoad (Lw r a imm) r a imm 4 word_at
  is_lw = record { does = λ segments s. refl; tells = λ segments s. refl }

-- ---- stores

-- the instruction stores the low bytes of register b at a distance from the value of register a
pub record IsStore (i : Inst) (a b : ℕ) (imm : ℤ) (width : ℕ) (stored : Memory → (address value : ℕ) → Memory) : Type 0 where
  pub does : (segments : List Segment) (s : State)
      → executed segments s i ≡ accesses segments s writable (plus (register s a) imm) width (stores s (stored s.memory (plus (register s a) imm) (register s b)))
  pub tells : (segments : List Segment) (s : State) → accessed segments s (Some i) ≡ stores_at segments (plus (register s a) imm) width

module _ (a b : ℕ) (imm : ℤ) where
  pub is_sb : IsStore (Sb a b imm) a b imm 1 with_byte
  is_sb = record { does = λ segments s. refl; tells = λ segments s. refl }

  pub is_sh : IsStore (Sh a b imm) a b imm 2 with_half
  is_sh = record { does = λ segments s. refl; tells = λ segments s. refl }

  pub is_sw : IsStore (Sw a b imm) a b imm 4 with_word
  is_sw = record { does = λ segments s. refl; tells = λ segments s. refl }

-- ---- branches

pub record IsBranch (i : Inst) (a b : ℕ) (test : ℕ → ℕ → Bool) (distance : ℤ) : Type 0 where
  pub does : (segments : List Segment) (s : State) → executed segments s i ≡ branches s (test (register s a) (register s b)) distance
  pub quiet : (segments : List Segment) (s : State) → accessed segments s (Some i) ≡ []

module _ (a b : ℕ) (d : ℤ) where
  pub is_beq : IsBranch (Beq a b d) a b eqb d
  is_beq = record { does = λ segments s. refl; quiet = λ segments s. refl }

  pub is_bne : IsBranch (Bne a b d) a b (λ x y. not (eqb x y)) d
  is_bne = record { does = λ segments s. refl; quiet = λ segments s. refl }

  pub is_blt : IsBranch (Blt a b d) a b is_less d
  is_blt = record { does = λ segments s. refl; quiet = λ segments s. refl }

  pub is_bge : IsBranch (Bge a b d) a b (λ x y. not (is_less x y)) d
  is_bge = record { does = λ segments s. refl; quiet = λ segments s. refl }

  pub is_bltu : IsBranch (Bltu a b d) a b ltb d
  is_bltu = record { does = λ segments s. refl; quiet = λ segments s. refl }

  pub is_bgeu : IsBranch (Bgeu a b d) a b (λ x y. not (ltb x y)) d
  is_bgeu = record { does = λ segments s. refl; quiet = λ segments s. refl }

-- ---- a step of each kind, from code to code, backwards

module _ (segments : List Segment) (text : Memory) (Claim : ℕ → State → List MachineEvent → Type 0) (claim : IsBackward segments Claim) (f : ℕ → ℕ) (pc : ℕ)
    (memory : Memory) (input output : List ℕ) (keeps : Keeps text memory) (le : code_address ≤ pc) (n : ℕ) (before : List MachineEvent) (i : Inst)
    (h : Stands segments text pc i) where
  abbrev s : State
  s = at f pc memory input output

  pub by_binary : (r a b v : ℕ) (op : ℕ → ℕ → ℕ) → IsBinary i r a b op → 0 < r → a < 32 → b < 32 → op (f a) (f b) ≡ v
      → Claim n (at (put f r v) (pc + 4) memory input output) before → Claim n s before
  by_binary r a b v op is low la lb value c =
      by_put segments text Claim claim f pc memory input output keeps le n before i r v (op (register s a) (register s b)) h low (is.does segments s)
      (is.quiet segments s) (ap (λ (x : ℕ). op x (register s b)) (register_is f a la) ∙ ap (op (f a)) (register_is f b lb) ∙ value) c

  pub by_unary : (r a v : ℕ) (op : ℕ → ℕ) → IsUnary i r a op → 0 < r → a < 32 → op (f a) ≡ v
      → Claim n (at (put f r v) (pc + 4) memory input output) before → Claim n s before
  by_unary r a v op is low la value c =
      by_put segments text Claim claim f pc memory input output keeps le n before i r v (op (register s a)) h low (is.does segments s)
      (is.quiet segments s) (ap op (register_is f a la) ∙ value) c

  -- the address is b
  pub by_load_of : (made : List MachineEvent) (r a b width v : ℕ) (imm : ℤ) (value : Memory → ℕ → ℕ) → IsLoad i r a imm width value → 0 < r → a < 32
      → plus (f a) imm ≡ b → b % width ≡ 0 → are_mapped segments readable b width ≡ true → loads_at segments b width ≡ made → value memory b ≡ v
      → Claim n (at (put f r v) (pc + 4) memory input output) (later made before) → Claim n s before
  by_load_of made r a b width v imm value is low la place whole mapped tells same c =
      by_load segments text Claim claim f pc memory input output keeps le n before made i r v width (plus (register s a) imm) b (value memory) h low
      (is.does segments s) (is.tells segments s) (ap (λ (x : ℕ). plus x imm) (register_is f a la) ∙ place) whole mapped tells same c

  -- register q is stored, and the address is b
  pub by_store_of : (made : List MachineEvent) (a q b width : ℕ) (imm : ℤ) (stored : Memory → (address value : ℕ) → Memory) → IsStore i a q imm width stored
      → a < 32 → q < 32 → plus (f a) imm ≡ b → b % width ≡ 0 → are_mapped segments writable b width ≡ true → stores_at segments b width ≡ made
      → Claim n (at f (pc + 4) (stored memory b (f q)) input output) (later made before) → Claim (n + 1) s before
  by_store_of made a q b width imm stored is la lq place whole mapped tells c =
      by_store segments text Claim claim f pc memory input output keeps le n before made i width (plus (register s a) imm) b
      (λ (p : ℕ). stored memory p (register s q)) h (is.does segments s) (is.tells segments s) (ap (λ (x : ℕ). plus x imm) (register_is f a la) ∙ place) whole
      mapped tells
      (subst (λ (v : ℕ). Claim n (at f (pc + 4) (stored memory b v) input output) (later made before)) (sym (register_is f q lq)) c)

  test_is : (a b : ℕ) (test : ℕ → ℕ → Bool) → a < 32 → b < 32 → test (register s a) (register s b) ≡ test (f a) (f b)
  test_is a b test la lb = ap (λ (x : ℕ). test x (register s b)) (register_is f a la) ∙ ap (test (f a)) (register_is f b lb)

  pub by_branch_taken : (a b to : ℕ) (test : ℕ → ℕ → Bool) (d : ℤ) → IsBranch i a b test d → a < 32 → b < 32 → test (f a) (f b) ≡ true
      → plus pc d ≡ to → to % 4 ≡ 0 → code_address ≤ to → Claim n (at f to memory input output) before → Claim (n + 1) s before
  by_branch_taken a b to test d is la lb yes' place whole code c =
      by_taken segments text Claim claim f pc memory input output keeps le n before i (test (register s a) (register s b)) d to h (is.does segments s)
      (is.quiet segments s) (test_is a b test la lb ∙ yes') place whole code c

  pub by_branch_passed : (a b : ℕ) (test : ℕ → ℕ → Bool) (d : ℤ) → IsBranch i a b test d → a < 32 → b < 32 → test (f a) (f b) ≡ false
      → Claim n (at f (pc + 4) memory input output) before → Claim (n + 1) s before
  by_branch_passed a b test d is la lb no' c =
      by_passed segments text Claim claim f pc memory input output keeps le n before i (test (register s a) (register s b)) d h (is.does segments s)
      (is.quiet segments s) (test_is a b test la lb ∙ no') c

-- ---- jumps, with the place behind them in a register or nowhere

module _ (segments : List Segment) (text : Memory) (Claim : ℕ → State → List MachineEvent → Type 0) (claim : IsBackward segments Claim) (f : ℕ → ℕ) (pc : ℕ)
    (memory : Memory) (input output : List ℕ) (keeps : Keeps text memory) (le : code_address ≤ pc) (n : ℕ) (before : List MachineEvent) (to : ℕ) (whole : to % 4 ≡ 0)
    (code : code_address ≤ to) where
  abbrev from : State
  from = at f pc memory input output

  pub by_jal : (d : ℤ) → Stands segments text pc (Jal 0 d) → plus pc d ≡ to → Claim n (at f to memory input output) before → Claim (n + 1) from before
  by_jal d h place c =
      by_jump segments text Claim claim f pc memory input output keeps le n before (Jal 0 d) f (plus pc d) to h refl refl place whole code c

  pub by_jal_linked : (r : ℕ) (d : ℤ) → Stands segments text pc (Jal r d) → 0 < r → plus pc d ≡ to
      → Claim n (at (put f r (pc + 4)) to memory input output) before → Claim (n + 1) from before
  by_jal_linked r d h low place c =
      by_jump segments text Claim claim f pc memory input output keeps le n before (Jal r d) (put f r (pc + 4)) (plus pc d) to h
      (linked segments text Claim claim f pc memory input output keeps le (Jal r d) h r (plus pc d) low) refl place whole code c

  target : (a : ℕ) (imm : ℤ) → a < 32 → plus (f a) imm / 2 * 2 ≡ to → plus (register from a) imm / 2 * 2 ≡ to
  target a imm la place = ap (λ (x : ℕ). plus x imm / 2 * 2) (register_is f a la) ∙ place

  pub by_jalr : (a : ℕ) (imm : ℤ) → Stands segments text pc (Jalr 0 a imm) → a < 32 → plus (f a) imm / 2 * 2 ≡ to
      → Claim n (at f to memory input output) before → Claim (n + 1) from before
  by_jalr a imm h la place c =
      by_jump segments text Claim claim f pc memory input output keeps le n before (Jalr 0 a imm) f (plus (register from a) imm / 2 * 2) to h refl refl
      (target a imm la place) whole code c

  pub by_jalr_linked : (r a : ℕ) (imm : ℤ) → Stands segments text pc (Jalr r a imm) → 0 < r → a < 32 → plus (f a) imm / 2 * 2 ≡ to
      → Claim n (at (put f r (pc + 4)) to memory input output) before → Claim (n + 1) from before
  by_jalr_linked r a imm h low la place c =
      by_jump segments text Claim claim f pc memory input output keeps le n before (Jalr r a imm) (put f r (pc + 4)) (plus (register from a) imm / 2 * 2) to h
      (linked segments text Claim claim f pc memory input output keeps le (Jalr r a imm) h r (plus (register from a) imm / 2 * 2) low) refl
      (target a imm la place) whole code c
