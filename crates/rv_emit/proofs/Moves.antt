-- Stretches of code that bring numbers, addresses and words of memory into registers and back, and jumps to places.
use Rattle.std.proofs.Common.{◌≡◌, ℕ, suc, ◌+◌, ◌-◌, ◌*◌, ◌/◌, ◌%◌, ◌^◌, ◌<◌, ◌≤◌, ◌≢◌, true, eqb, ltb, List, [], ◌∷◌, ◌++◌, length, ℤ, pos, negsuc}
use Rattle.std.proofs.Common.{refl, ap, sym, ◌∙◌, subst, arith, ltb-true, ltb-false, append_assoc}
use Rattle.std.proofs.lemmas.Bool.{cond_both, eqb-true}
use Rattle.std.proofs.lemmas.Int.{ints}
use Rattle.rv_isa.specs.declared.instruction.Inst.{Inst}
use Rattle.rv_isa.specs.declared.instruction.Inst.TheVariants.{Lui, Addi, Add, Lw, Sw}
use Rattle.rv_isa.specs.TwosComplement.{signed}
use Rattle.rv_isa.specs.Memory.{Memory, readable, writable, are_mapped, word_at, with_word}
use Rattle.rv_isa.specs.Arithmetic.{plus, sum}
use Rattle.rv_isa.specs.Step.{State}
use Rattle.rv_isa.specs.Events.{MachineEvent, loads_at, stores_at, code_address}
use Rattle.rv_runtime.specs.Steps.States.{put, at, IsBackward, Stands, Code, Keeps}
use Rattle.rv_runtime.proofs.Steps.Registers.{put_same, put_other, put_again}
use Rattle.rv_runtime.proofs.Steps.Steps.{by_put}
use Rattle.rv_runtime.proofs.Steps.Operators.{is_add, is_addi, is_lw, is_sw, by_binary, by_unary, by_load_of, by_store_of, by_jalr, by_jalr_linked}
use Rattle.rv_code.specs.Code.{a_word}
use Rattle.rv_code.specs.Words.{upper, lower, number_code, place_code, fetch_code, keep_code, address_code, jump_code, call_code}
use Rattle.rv_emit.specs.Grounds.{Ground}

-- ---- the two parts of a number

by_sign : (P : ℤ → Type 0) (n : ℕ) → (n < 2 ^ 11 → P (pos n)) → (2 ^ 11 ≤ n → P (negsuc (2 ^ 12 - suc n))) → P (signed 12 n)
by_sign P n low high = cond_both (ltb n (2 ^ 11)) _ _ P (λ e. low (ltb-true _ _ e)) (λ e. high (ltb-false _ _ e))

pub number_value : (n : ℕ) → plus (upper n * 2 ^ 12) (lower n) ≡ n % 2 ^ 32
number_value n = by_sign (λ z. plus (upper n * 2 ^ 12) z ≡ n % 2 ^ 32) (n % 2 ^ 12) (λ lt. omega (arith, ints)) (λ le. omega (arith, ints))

small_value : (n : ℕ) → upper n ≡ 0 → plus 0 (lower n) ≡ n % 2 ^ 32
small_value n e = by_sign (λ z. plus 0 z ≡ n % 2 ^ 32) (n % 2 ^ 12) (λ lt. omega (arith, ints)) (λ le. omega (arith, ints))

pub far_value : (n a : ℕ) → plus ((upper n * 2 ^ 12 + a) % 2 ^ 32) (lower n) ≡ (a + n) % 2 ^ 32
far_value n a =
    by_sign (λ z. plus ((upper n * 2 ^ 12 + a) % 2 ^ 32) z ≡ (a + n) % 2 ^ 32) (n % 2 ^ 12) (λ lt. omega (arith, ints)) (λ le. omega (arith, ints))

pub near_value : (n a : ℕ) → n < 2048 → plus a (pos n) ≡ (a + n) % 2 ^ 32
near_value n a lt = omega (arith, ints)

-- ---- code in parts

module _ (ground : Ground) where
  open ground use {segments, text}

  pub code_front : (pc : ℕ) (a b : List Inst) → Code segments text pc (a ++ b) → Code segments text pc a
  code_front pc [] b h = tt
  code_front pc (i ∷ a) b h = (h.0, code_front (pc + 4) a b h.1)

  pub code_back : (pc : ℕ) (a b : List Inst) → Code segments text pc (a ++ b) → Code segments text (pc + 4 * length a) b
  code_back pc [] b h = (let e : pc ≡ pc + 4 * 0 = omega arith in subst (λ n. Code segments text n b) e h)
  code_back pc (i ∷ a) b h =
      let e : pc + 4 + 4 * length a ≡ pc + 4 * length (i ∷ a) = omega arith in
      subst (λ n. Code segments text n b) e (code_back (pc + 4) a b h.1)

  -- code of two parts and what follows
  pub parts : (pc : ℕ) (a b c : List Inst) → Code segments text pc ((a ++ b) ++ c) → Code segments text pc a × Code segments text (pc + 4 * length a) (b ++ c)
  parts pc a b c h = (let k = subst (Code segments text pc) (append_assoc a b c) h in (code_front pc a (b ++ c) k, code_back pc a (b ++ c) k))

-- what is to be shown of a state: a claim with so many steps to come, the input, the output and the events so far
pub record Goal (ground : Ground) : Type 1 where
  pub Claim : ℕ → State → List MachineEvent → Type 0
  pub claim : IsBackward ground.segments Claim
  pub n : ℕ
  pub input : List ℕ
  pub output : List ℕ
  pub before : List MachineEvent

module _ (ground : Ground) (goal : Goal ground) where
  open ground use {segments, text}

  abbrev pub Shown : (f : ℕ → ℕ) (pc : ℕ) (memory : Memory) → Type 0
  Shown f pc memory = goal.Claim goal.n (at f pc memory goal.input goal.output) goal.before

  -- the same place, and the same registers
  pub here : (f : ℕ → ℕ) (pc pc' : ℕ) (memory : Memory) → pc' ≡ pc → Shown f pc' memory → Shown f pc memory
  here f pc pc' memory e c = subst (λ z. Shown f z memory) e c

  module _ (f : ℕ → ℕ) (pc : ℕ) (memory : Memory) (keeps : Keeps text memory) (le : code_address ≤ pc) where
    -- one more step, where no fewer need follow
    by_more : goal.Claim (goal.n + 1) (at f pc memory goal.input goal.output) goal.before → Shown f pc memory
    by_more c = goal.claim.fewer goal.n (at f pc memory goal.input goal.output) goal.before c

    pub by_lui : (r hi : ℕ) → Stands segments text pc (Lui r hi) → 0 < r → Shown (put f r (hi * 2 ^ 12)) (pc + 4) memory → Shown f pc memory
    by_lui r hi h low c =
        by_put segments text goal.Claim goal.claim f pc memory goal.input goal.output keeps le goal.n goal.before (Lui r hi) r (hi * 2 ^ 12) (hi * 2 ^ 12) h low refl
        refl refl c

    pub by_addi : (r a v : ℕ) (imm : ℤ) → Stands segments text pc (Addi r a imm) → 0 < r → a < 32 → plus (f a) imm ≡ v
        → Shown (put f r v) (pc + 4) memory → Shown f pc memory
    by_addi r a v imm h low la e c =
        by_unary segments text goal.Claim goal.claim f pc memory goal.input goal.output keeps le goal.n goal.before (Addi r a imm) h r a v (λ x. plus x imm)
        (is_addi r a imm) low la e c

    pub by_add : (r a b v : ℕ) → Stands segments text pc (Add r a b) → 0 < r → a < 32 → b < 32 → sum (f a) (f b) ≡ v
        → Shown (put f r v) (pc + 4) memory → Shown f pc memory
    by_add r a b v h low la lb e c =
        by_binary segments text goal.Claim goal.claim f pc memory goal.input goal.output keeps le goal.n goal.before (Add r a b) h r a b v sum (is_add r a b) low la lb
        e c

    pub by_lw : (r a b : ℕ) (imm : ℤ) → Stands segments text pc (Lw r a imm) → 0 < r → a < 32 → plus (f a) imm ≡ b → b % 4 ≡ 0
        → are_mapped segments readable b 4 ≡ true → loads_at segments b 4 ≡ [] → Shown (put f r (word_at memory b)) (pc + 4) memory → Shown f pc memory
    by_lw r a b imm h low la e whole mapped quiet c =
        by_load_of segments text goal.Claim goal.claim f pc memory goal.input goal.output keeps le goal.n goal.before (Lw r a imm) h [] r a b 4 (word_at memory b) imm
        word_at (is_lw r a imm) low la e whole mapped quiet refl c

    pub by_sw : (a q b v : ℕ) (imm : ℤ) → Stands segments text pc (Sw a q imm) → a < 32 → q < 32 → plus (f a) imm ≡ b → b % 4 ≡ 0
        → are_mapped segments writable b 4 ≡ true → stores_at segments b 4 ≡ [] → f q ≡ v → Shown f (pc + 4) (with_word memory b v) → Shown f pc memory
    by_sw a q b v imm h la lq e whole mapped quiet value c =
        by_more (by_store_of segments text goal.Claim goal.claim f pc memory goal.input goal.output keeps le goal.n goal.before (Sw a q imm) h [] a q b 4 imm with_word
        (is_sw a q imm) la lq e whole mapped quiet (subst (λ z. Shown f (pc + 4) (with_word memory b z)) (sym value) c))

  module _ (f : ℕ → ℕ) (pc : ℕ) (memory : Memory) (keeps : Keeps text memory) (le : code_address ≤ pc) where
    -- a place, in two instructions
    pub by_place : (r x : ℕ) → 0 < r → r < 32 → Code segments text pc (place_code r x) → Shown (put f r (x % 2 ^ 32)) (pc + 4 + 4) memory → Shown f pc memory
    by_place r x low lt code c =
        let hi = upper x * 2 ^ 12 in
        let g = put f r hi in
        by_lui f pc memory keeps le r (upper x) code.0 low
        (by_addi g (pc + 4) memory keeps (omega arith) r r (x % 2 ^ 32) (lower x) code.1.0 low lt
        (ap (λ (z : ℕ). plus z (lower x)) (put_same f r hi r refl) ∙ number_value x)
        (subst (λ h. Shown h (pc + 4 + 4) memory) (sym (put_again f r hi (x % 2 ^ 32))) c))

    -- a number, in one instruction where it is small
    pub by_number : (r x : ℕ) → 0 < r → r < 32 → f 0 ≡ 0 → Code segments text pc (number_code r x)
        → Shown (put f r (x % 2 ^ 32)) (pc + 4 * length (number_code r x)) memory → Shown f pc memory
    by_number r x low lt nil code c =
        cond_both (eqb (upper x) 0) _ _ (λ (is : List Inst). Code segments text pc is → Shown (put f r (x % 2 ^ 32)) (pc + 4 * length is) memory → Shown f pc memory)
        (λ e code c. by_addi f pc memory keeps le r 0 (x % 2 ^ 32) (lower x) code.0 low (omega arith)
        (ap (λ (z : ℕ). plus z (lower x)) nil ∙ small_value x (eqb-true _ _ e)) (here (put f r (x % 2 ^ 32)) (pc + 4) _ memory (omega arith) c))
        (λ e code c. by_place r x low lt code (here (put f r (x % 2 ^ 32)) (pc + 4 + 4) _ memory (omega arith) c))
        code c

    -- a word behind an address in a register
    pub by_fetch : (r base offset a : ℕ) → 0 < r → r < 32 → base < 32 → r ≢ base → Code segments text pc (fetch_code r base offset)
        → (f base + offset) % 2 ^ 32 ≡ a → a % 4 ≡ 0 → are_mapped segments readable a 4 ≡ true → loads_at segments a 4 ≡ []
        → Shown (put f r (word_at memory a)) (pc + 4 * length (fetch_code r base offset)) memory → Shown f pc memory
    by_fetch r base offset a low lt lb ne code is whole mapped quiet c =
        let v = word_at memory a in
        cond_both (ltb offset 2048) _ _ (λ (is : List Inst). Code segments text pc is → Shown (put f r v) (pc + 4 * length is) memory → Shown f pc memory)
        (λ e code c. by_lw f pc memory keeps le r base a (pos offset) code.0 low lb (near_value offset (f base) (ltb-true _ _ e) ∙ is) whole mapped quiet
        (here (put f r v) (pc + 4) _ memory (omega arith) c))
        (λ e code c.
        let hi = upper offset * 2 ^ 12 in
        let g = put f r hi in
        let x = (hi + f base) % 2 ^ 32 in
        let h = put g r x in
        by_lui f pc memory keeps le r (upper offset) code.0 low
        (by_add g (pc + 4) memory keeps (omega arith) r r base x code.1.0 low lt lb
        (ap (λ (z : ℕ). (z + g base) % 2 ^ 32) (put_same f r hi r refl) ∙ ap (λ (z : ℕ). (hi + z) % 2 ^ 32) (put_other f r hi base (λ d. ne (sym d))))
        (by_lw h (pc + 4 + 4) memory keeps (omega arith) r r a (lower offset) code.1.1.0 low lt
        (ap (λ (z : ℕ). plus z (lower offset)) (put_same g r x r refl) ∙ far_value offset (f base) ∙ is) whole mapped quiet
        (subst (λ k. Shown k (pc + 4 + 4 + 4) memory) (sym (put_again g r x v ∙ put_again f r hi v))
        (here (put f r v) (pc + 4 + 4 + 4) _ memory (omega arith) c)))))
        code c

    -- the address itself
    pub by_address : (r base offset a : ℕ) → 0 < r → r < 32 → base < 32 → r ≢ base → Code segments text pc (address_code r base offset)
        → (f base + offset) % 2 ^ 32 ≡ a → Shown (put f r a) (pc + 4 * length (address_code r base offset)) memory → Shown f pc memory
    by_address r base offset a low lt lb ne code is c =
        cond_both (ltb offset 2048) _ _ (λ (is : List Inst). Code segments text pc is → Shown (put f r a) (pc + 4 * length is) memory → Shown f pc memory)
        (λ e code c. by_addi f pc memory keeps le r base a (pos offset) code.0 low lb (near_value offset (f base) (ltb-true _ _ e) ∙ is)
        (here (put f r a) (pc + 4) _ memory (omega arith) c))
        (λ e code c.
        let x = offset % 2 ^ 32 in
        let g = put f r x in
        by_place r offset low lt (code.0, (code.1.0, tt))
        (by_add g (pc + 4 + 4) memory keeps (omega arith) r r base a code.1.1.0 low lt lb
        (ap (λ (z : ℕ). (z + g base) % 2 ^ 32) (put_same f r x r refl) ∙ ap (λ (z : ℕ). (x + z) % 2 ^ 32) (put_other f r x base (λ d. ne (sym d)))
        ∙ (let d : (x + f base) % 2 ^ 32 ≡ (f base + offset) % 2 ^ 32 = omega arith in d) ∙ is)
        (subst (λ k. Shown k (pc + 4 + 4 + 4) memory) (sym (put_again f r x a)) (here (put f r a) (pc + 4 + 4 + 4) _ memory (omega arith) c))))
        code c

    -- a word goes behind an address in a register; x7 may be lost
    pub by_keep : (rs base offset a v : ℕ) → rs < 32 → base < 32 → rs ≢ 7 → base ≢ 7 → Code segments text pc (keep_code a_word rs base offset)
        → (f base + offset) % 2 ^ 32 ≡ a → a % 4 ≡ 0 → are_mapped segments writable a 4 ≡ true → stores_at segments a 4 ≡ [] → f rs ≡ v
        → ((g : ℕ → ℕ) → ((q : ℕ) → q ≢ 7 → g q ≡ f q) → Shown g (pc + 4 * length (keep_code a_word rs base offset)) (with_word memory a v)) → Shown f pc memory
    by_keep rs base offset a v lt lb ne nb code is whole mapped quiet value c =
        cond_both (ltb offset 2048) _ _
        (λ (is : List Inst). Code segments text pc is
        → ((g : ℕ → ℕ) → ((q : ℕ) → q ≢ 7 → g q ≡ f q) → Shown g (pc + 4 * length is) (with_word memory a v)) → Shown f pc memory)
        (λ e code c. by_sw f pc memory keeps le base rs a v (pos offset) code.0 lb lt (near_value offset (f base) (ltb-true _ _ e) ∙ is) whole mapped quiet value
        (here f (pc + 4) _ (with_word memory a v) (omega arith) (c f (λ q d. refl))))
        (λ e code c.
        let hi = upper offset * 2 ^ 12 in
        let g = put f 7 hi in
        let x = (hi + f base) % 2 ^ 32 in
        let h = put g 7 x in
        by_lui f pc memory keeps le 7 (upper offset) code.0 (omega arith)
        (by_add g (pc + 4) memory keeps (omega arith) 7 7 base x code.1.0 (omega arith) (omega arith) lb
        (ap (λ (z : ℕ). (hi + z) % 2 ^ 32) (put_other f 7 hi base nb))
        (by_sw h (pc + 4 + 4) memory keeps (omega arith) 7 rs a v (lower offset) code.1.1.0 (omega arith) lt (far_value offset (f base) ∙ is) whole mapped quiet
        (put_other g 7 x rs ne ∙ put_other f 7 hi rs ne ∙ value)
        (here h (pc + 4 + 4 + 4) _ (with_word memory a v) (omega arith) (c h (λ q d. put_other g 7 x q d ∙ put_other f 7 hi q d))))))
        code c

    -- a jump to a place of code
    pub by_goto : (place : ℕ) → Code segments text pc (jump_code place) → place % 4 ≡ 0 → place < 2 ^ 32 → code_address ≤ place
        → Shown (put f 5 (upper place * 2 ^ 12)) place memory → Shown f pc memory
    by_goto place code whole small inside c =
        let hi = upper place * 2 ^ 12 in
        let g = put f 5 hi in
        by_lui f pc memory keeps le 5 (upper place) code.0 (omega arith)
        (by_more g (pc + 4) memory keeps (omega arith)
        (by_jalr segments text goal.Claim goal.claim g (pc + 4) memory goal.input goal.output keeps (omega arith) goal.n goal.before place whole inside 5 (lower place)
        code.1.0 (omega arith) (ap (λ (z : ℕ). z / 2 * 2) (number_value place) ∙ omega arith) c))

    -- a call of a place of code: x1 has the place behind it
    pub by_call : (place : ℕ) → Code segments text pc (call_code place) → place % 4 ≡ 0 → place < 2 ^ 32 → code_address ≤ place
        → Shown (put f 1 (pc + 4 + 4)) place memory → Shown f pc memory
    by_call place code whole small inside c =
        let hi = upper place * 2 ^ 12 in
        let g = put f 1 hi in
        by_lui f pc memory keeps le 1 (upper place) code.0 (omega arith)
        (by_more g (pc + 4) memory keeps (omega arith)
        (by_jalr_linked segments text goal.Claim goal.claim g (pc + 4) memory goal.input goal.output keeps (omega arith) goal.n goal.before place whole inside 1 1
        (lower place) code.1.0 (omega arith) (omega arith) (ap (λ (z : ℕ). z / 2 * 2) (number_value place) ∙ omega arith)
        (subst (λ h. Shown h place memory) (sym (put_again f 1 hi (pc + 4 + 4))) c)))
