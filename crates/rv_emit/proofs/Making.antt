-- What short stretches of code make of registers, one after the other.
use Rattle.std.proofs.Common.{◌≡◌, ℕ, ◌+◌, ◌*◌, ◌%◌, ◌^◌, ◌<◌, ◌≤◌, Bool, true, false, cond, List, [], ◌∷◌, ◌++◌, length, refl, ◌∙◌, arith}
use Rattle.std.proofs.lemmas.Bool.{cond_both}
use Rattle.rv_isa.specs.declared.instruction.Inst.{Inst}
use Rattle.rv_isa.specs.Memory.{Memory}
use Rattle.rv_isa.specs.Events.{code_address}
use Rattle.rv_runtime.specs.Steps.States.{put, Code, Keeps}
use Rattle.rv_runtime.proofs.Steps.Registers.{put_other}
use Rattle.rv_runtime.proofs.Steps.Operators.{IsBinary, IsUnary, by_binary, by_unary}
use Rattle.rv_code.specs.Words.{number_code}
use Rattle.rv_emit.specs.Grounds.{Ground}
use Rattle.rv_emit.proofs.Moves.{Goal, Shown, here, code_front, code_back, by_number}

-- of such registers the code makes registers of which that holds; x0 and x2 are as they were
abbrev pub Makes : (ground : Ground) → Goal ground → (is : List Inst) (f : ℕ → ℕ) → ((ℕ → ℕ) → Type 0) → Type 0
Makes ground goal is f R = (pc : ℕ) (memory : Memory) → Keeps ground.text memory → code_address ≤ pc → Code ground.segments ground.text pc is
    → ((g : ℕ → ℕ) → R g → g 0 ≡ f 0 → g 2 ≡ f 2 → Shown ground goal g (pc + 4 * length is) memory) → Shown ground goal f pc memory

module _ (ground : Ground) (goal : Goal ground) where
  pub made_by_none : (f : ℕ → ℕ) (R : (ℕ → ℕ) → Type 0) → R f → Makes ground goal [] f R
  made_by_none f R r pc memory keeps le code c = here ground goal f pc (pc + 4 * 0) memory (omega arith) (c f r refl refl)

  pub made_by_unary : (i : Inst) (r a : ℕ) (op : ℕ → ℕ) (f : ℕ → ℕ) (R : (ℕ → ℕ) → Type 0) → IsUnary i r a op → 2 < r → a < 32 → R (put f r (op (f a)))
      → Makes ground goal (i ∷ []) f R
  made_by_unary i r a op f R is low la h pc memory keeps le code c =
      by_unary ground.segments ground.text goal.Claim goal.claim f pc memory goal.input goal.output keeps le goal.n goal.before i code.0 r a (op (f a)) op is
      (omega arith) la refl
      (here ground goal (put f r (op (f a))) (pc + 4) (pc + 4 * 1) memory (omega arith)
      (c (put f r (op (f a))) h (put_other f r (op (f a)) 0 (λ d. omega arith)) (put_other f r (op (f a)) 2 (λ d. omega arith))))

  pub made_by_binary : (i : Inst) (r a b : ℕ) (op : ℕ → ℕ → ℕ) (f : ℕ → ℕ) (R : (ℕ → ℕ) → Type 0) → IsBinary i r a b op → 2 < r → a < 32 → b < 32
      → R (put f r (op (f a) (f b))) → Makes ground goal (i ∷ []) f R
  made_by_binary i r a b op f R is low la lb h pc memory keeps le code c =
      let v = op (f a) (f b) in
      by_binary ground.segments ground.text goal.Claim goal.claim f pc memory goal.input goal.output keeps le goal.n goal.before i code.0 r a b v op is
      (omega arith) la lb refl
      (here ground goal (put f r v) (pc + 4) (pc + 4 * 1) memory (omega arith)
      (c (put f r v) h (put_other f r v 0 (λ d. omega arith)) (put_other f r v 2 (λ d. omega arith))))

  pub made_by_number : (r n : ℕ) (f : ℕ → ℕ) (R : (ℕ → ℕ) → Type 0) → 2 < r → r < 32 → f 0 ≡ 0 → R (put f r (n % 2 ^ 32)) → Makes ground goal (number_code r n) f R
  made_by_number r n f R low lt nil h pc memory keeps le code c =
      let v = n % 2 ^ 32 in
      by_number ground goal f pc memory keeps le r n (omega arith) lt nil code
      (c (put f r v) h (put_other f r v 0 (λ d. omega arith)) (put_other f r v 2 (λ d. omega arith)))

  -- one stretch and another
  pub made_then : (a b : List Inst) (f : ℕ → ℕ) (R Q : (ℕ → ℕ) → Type 0) → Makes ground goal a f R
      → ((g : ℕ → ℕ) → R g → g 0 ≡ f 0 → g 2 ≡ f 2 → Makes ground goal b g Q) → Makes ground goal (a ++ b) f Q
  made_then a b f R Q first second pc memory keeps le code c =
      first pc memory keeps le (code_front ground pc a b code)
      λ g r nil stack. second g r nil stack (pc + 4 * length a) memory keeps (omega arith) (code_back ground pc a b code)
      λ h q nil' stack'. here ground goal h (pc + 4 * length a + 4 * length b) (pc + 4 * length (a ++ b)) memory (behind pc a)
      (c h q (nil' ∙ nil) (stack' ∙ stack))
    where
      behind : (pc : ℕ) (a : List Inst) → pc + 4 * length (a ++ b) ≡ pc + 4 * length a + 4 * length b
      behind pc [] = omega arith
      behind pc (i ∷ a) = (let h = behind pc a in omega (arith, h))

  -- by a test
  pub made_if : (t : Bool) (a b : List Inst) (f : ℕ → ℕ) (R : (ℕ → ℕ) → Type 0) → (t ≡ true → Makes ground goal a f R) → (t ≡ false → Makes ground goal b f R)
      → Makes ground goal (cond t a b) f R
  made_if t a b f R yes' no' = cond_both t a b (λ is. Makes ground goal is f R) yes' no'

  -- less is known of the registers
  pub made_weaker : (is : List Inst) (f : ℕ → ℕ) (R Q : (ℕ → ℕ) → Type 0) → ((g : ℕ → ℕ) → R g → Q g) → Makes ground goal is f R → Makes ground goal is f Q
  made_weaker is f R Q weaker makes pc memory keeps le code c = makes pc memory keeps le code (λ g r nil stack. c g (weaker g r) nil stack)
