-- Single instructions, backwards: what is claimed of the state that follows is claimed of the state before.
use Rattle.std.proofs.Common.{◌≡◌, ℕ, ◌+◌, ◌%◌, ◌^◌, ◌<◌, ◌≤◌, Bool, true, false, cond, eqb, List, [], ◌++◌, ◌&&◌, min, length, take, drop}
use Rattle.std.proofs.Common.{Some, ℤ, refl, ap, ◌∙◌, arith, eq-eqb, ne_eqb, le-leb, append-nil}
use Rattle.rv_isa.specs.declared.image.Segment.{Segment}
use Rattle.rv_isa.specs.declared.instruction.Inst.{Inst}
use Rattle.rv_isa.specs.declared.instruction.Inst.TheVariants.{Ecall, Ebreak}
use Rattle.rv_isa.specs.Encoding.{encoding}
use Rattle.rv_isa.specs.Decoding.{decoded}
use Rattle.rv_isa.specs.Memory.{Memory, writable, readable, are_mapped, word_at, with_bytes, bytes_at}
use Rattle.rv_isa.specs.Arithmetic.{plus}
use Rattle.rv_isa.specs.Step.{State, Stepped, Goes, executed, performed, traps, accesses, writes, jumps, branches, exit_call, write_call, read_call, step, Ends, Exits, Break}
use Rattle.rv_isa.specs.Events.{MachineEvent, step_events, entered, returned, accessed, loads_at, stores_at, is_code, code_address, malloc_entry}
use Rattle.rv_isa.specs.Events.{calloc_entry, free_entry}
use Rattle.rv_isa.proofs.Laws.{decoded_again}
use Rattle.lay_base.specs.declared.faults.TrapKind.TheVariants.{Unmapped, Jump, Call}
use Rattle.rv_runtime.specs.Steps.States.{put, at, later, IsBackward, Stands, Keeps}
use Rattle.rv_runtime.proofs.Steps.Words.{word_same}
use Rattle.rv_runtime.proofs.Steps.Registers.{written}

-- ---- a step is what stands there

module _ (segments : List Segment) (text : Memory) where
  fetched : (memory : Memory) (pc : ℕ) (i : Inst) → Keeps text memory → Stands segments text pc i → word_at memory pc ≡ encoding i
  fetched memory pc i keeps h = word_same text memory pc (λ k lt. keeps.same (pc + k) (omega (arith, h.below))) ∙ h.word

  pub step_is : (s : State) (i : Inst) → Keeps text s.memory → Stands segments text s.pc i → step segments s ≡ executed segments s i
  unfolding step
  step_is s i keeps h =
      ap (λ (b : Bool). cond b (performed segments s (decoded (word_at s.memory s.pc))) (traps s Unmapped)) h.mapped
      ∙ ap (λ (w : ℕ). performed segments s (decoded w)) (fetched s.memory s.pc i keeps h)
      ∙ ap (performed segments s) (decoded_again i h.in_range)

  -- ---- what a step of code makes

  -- a step to code enters no routine
  enters_none : (t : State) → code_address ≤ t.pc → entered t ≡ []
  enters_none t le = rw (ne_eqb t.pc malloc_entry (λ e. omega arith), ne_eqb t.pc calloc_entry (λ e. omega arith), ne_eqb t.pc free_entry (λ e. omega arith)) refl

  code_made : (s t : State) (i : Inst) → Keeps text s.memory → Stands segments text s.pc i → code_address ≤ s.pc
      → step_events segments s t ≡ entered t ++ accessed segments s (Some i)
  code_made s t i keeps h le =
      let c : is_code s.pc ≡ true = le-leb code_address s.pc le in
      ap (λ (b : Bool). cond b (entered t ++ accessed segments s (decoded (word_at s.memory s.pc))) (returned s.pc t)) c
      ∙ ap (λ (w : ℕ). entered t ++ accessed segments s (decoded w)) (fetched s.memory s.pc i keeps h)
      ∙ ap (λ x. entered t ++ accessed segments s x) (decoded_again i h.in_range)

  -- from code to code
  within_made : (s t : State) (i : Inst) (made : List MachineEvent) → Keeps text s.memory → Stands segments text s.pc i → code_address ≤ s.pc
      → code_address ≤ t.pc → accessed segments s (Some i) ≡ made → step_events segments s t ≡ made
  within_made s t i made keeps h le le' e =
      code_made s t i keeps h le ∙ ap (λ (x : List MachineEvent). x ++ accessed segments s (Some i)) (enters_none t le') ∙ e

  -- ---- one instruction, backwards

  module _ (Claim : ℕ → State → List MachineEvent → Type 0) (claim : IsBackward segments Claim) where
    -- any instruction of code that leads to code
    pub by_code : (n : ℕ) (s t : State) (before made : List MachineEvent) (i : Inst) → Keeps text s.memory → Stands segments text s.pc i
        → code_address ≤ s.pc → code_address ≤ t.pc → executed segments s i ≡ Goes t → accessed segments s (Some i) ≡ made
        → Claim n t (later made before) → Claim (n + 1) s before
    by_code n s t before made i keeps h le le' e a c =
        claim.back n s t before made (step_is s i keeps h ∙ e) (within_made s t i made keeps h le le' a) c

    -- a value comes into a register, and the next instruction follows. The two equations hold by computation where the instruction is known
    module _ (f : ℕ → ℕ) (pc : ℕ) (memory : Memory) (input output : List ℕ) (keeps : Keeps text memory) (le : code_address ≤ pc) where
      abbrev s : State
      s = at f pc memory input output

      next : (i : Inst) → Stands segments text pc i → (pc + 4) % 2 ^ 32 ≡ pc + 4
      next i h = omega (arith, h.below)

      -- registers and place by their values
      wrote : (r v w : ℕ) (i : Inst) → Stands segments text pc i → 0 < r → w ≡ v → writes s r w ≡ Goes (at (put f r v) (pc + 4) memory input output)
      wrote r v w i h low same =
          ap (λ (regs : List ℕ). Goes (record s { registers = regs; pc = (pc + 4) % 2 ^ 32 })) (written f r w low)
          ∙ ap (λ (z : ℕ). Goes (at (put f r w) z memory input output)) (next i h)
          ∙ ap (λ (z : ℕ). Goes (at (put f r z) (pc + 4) memory input output)) same

      pub by_put : (n : ℕ) (before : List MachineEvent) (i : Inst) (r v w : ℕ) → Stands segments text pc i → 0 < r
          → executed segments s i ≡ writes s r w → accessed segments s (Some i) ≡ [] → w ≡ v
          → Claim n (at (put f r v) (pc + 4) memory input output) before → Claim n s before
      by_put n before i r v w h low e quiet same c =
          claim.fewer n s before
          (by_code n s (at (put f r v) (pc + 4) memory input output) before [] i keeps h le (omega arith) (e ∙ wrote r v w i h low same) quiet c)

      -- nothing but the place changes
      pub by_nothing : (n : ℕ) (before : List MachineEvent) (i : Inst) → Stands segments text pc i
          → executed segments s i ≡ Goes (at f ((pc + 4) % 2 ^ 32) memory input output) → accessed segments s (Some i) ≡ []
          → Claim n (at f (pc + 4) memory input output) before → Claim (n + 1) s before
      by_nothing n before i h e quiet c =
          by_code n s (at f (pc + 4) memory input output) before [] i keeps h le (omega arith)
          (e ∙ ap (λ (z : ℕ). Goes (at f z memory input output)) (next i h)) quiet c

      -- ---- accesses

      accesses_done : (flag a b k : ℕ) (done : Stepped) → a ≡ b → b % k ≡ 0 → are_mapped segments flag b k ≡ true → accesses segments s flag a k done ≡ done
      accesses_done flag a b k done same whole mapped =
          let e : eqb (a % k) 0 ≡ true = ap (λ (z : ℕ). eqb (z % k) 0) same ∙ eq-eqb (b % k) 0 whole in
          let g : are_mapped segments flag a k ≡ true = ap (λ (z : ℕ). are_mapped segments flag z k) same ∙ mapped in
          rw (e, g) refl

      -- a load: w is what the instruction makes of the address
      pub by_load : (n : ℕ) (before made : List MachineEvent) (i : Inst) (r v k a b : ℕ) (w : ℕ → ℕ) → Stands segments text pc i → 0 < r
          → executed segments s i ≡ accesses segments s readable a k (writes s r (w a))
          → accessed segments s (Some i) ≡ loads_at segments a k → a ≡ b → b % k ≡ 0 → are_mapped segments readable b k ≡ true
          → loads_at segments b k ≡ made → w b ≡ v
          → Claim n (at (put f r v) (pc + 4) memory input output) (later made before) → Claim n s before
      by_load n before made i r v k a b w h low e told same whole mapped tells value c =
          let done = accesses_done readable a b k (writes s r (w a)) same whole mapped in
          claim.fewer n s before
          (by_code n s (at (put f r v) (pc + 4) memory input output) before made i keeps h le (omega arith)
          (e ∙ done ∙ wrote r v (w a) i h low (ap w same ∙ value)) (told ∙ ap (λ (z : ℕ). loads_at segments z k) same ∙ tells) c)

      -- a store: m is what the instruction makes of memory
      pub by_store : (n : ℕ) (before made : List MachineEvent) (i : Inst) (k a b : ℕ) (m : ℕ → Memory) → Stands segments text pc i
          → executed segments s i ≡ accesses segments s writable a k (Goes (at f ((pc + 4) % 2 ^ 32) (m a) input output))
          → accessed segments s (Some i) ≡ stores_at segments a k → a ≡ b → b % k ≡ 0 → are_mapped segments writable b k ≡ true
          → stores_at segments b k ≡ made
          → Claim n (at f (pc + 4) (m b) input output) (later made before) → Claim (n + 1) s before
      by_store n before made i k a b m h e told same whole mapped tells c =
          let done = accesses_done writable a b k (Goes (at f ((pc + 4) % 2 ^ 32) (m a) input output)) same whole mapped in
          by_code n s (at f (pc + 4) (m b) input output) before made i keeps h le (omega arith)
          (e ∙ done ∙ ap (λ (z : ℕ). Goes (at f z (m a) input output)) (next i h) ∙ ap (λ (z : ℕ). Goes (at f (pc + 4) (m z) input output)) same)
          (told ∙ ap (λ (z : ℕ). stores_at segments z k) same ∙ tells) c

      -- ---- jumps

      -- from code to code, the return place in a register or nowhere
      pub by_jump : (n : ℕ) (before : List MachineEvent) (i : Inst) (g : ℕ → ℕ) (a b : ℕ) → Stands segments text pc i
          → executed segments s i ≡ cond (eqb (a % 4) 0) (Goes (at g a memory input output)) (traps s Jump) → accessed segments s (Some i) ≡ []
          → a ≡ b → b % 4 ≡ 0 → code_address ≤ b
          → Claim n (at g b memory input output) before → Claim (n + 1) s before
      by_jump n before i g a b h e quiet same whole code c =
          let t : eqb (a % 4) 0 ≡ true = ap (λ (z : ℕ). eqb (z % 4) 0) same ∙ eq-eqb (b % 4) 0 whole in
          by_code n s (at g b memory input output) before [] i keeps h le code
          (e ∙ ap (λ (x : Bool). cond x (Goes (at g a memory input output)) (traps s Jump)) t ∙ ap (λ (z : ℕ). Goes (at g z memory input output)) same)
          quiet c

      -- from code into a routine of the runtime, which is told
      pub by_enter : (n : ℕ) (before made : List MachineEvent) (i : Inst) (g : ℕ → ℕ) (a b : ℕ) → Stands segments text pc i
          → executed segments s i ≡ cond (eqb (a % 4) 0) (Goes (at g a memory input output)) (traps s Jump) → accessed segments s (Some i) ≡ []
          → a ≡ b → b % 4 ≡ 0 → entered (at g b memory input output) ≡ made
          → Claim n (at g b memory input output) (later made before) → Claim (n + 1) s before
      by_enter n before made i g a b h e quiet same whole told c =
          let t : eqb (a % 4) 0 ≡ true = ap (λ (z : ℕ). eqb (z % 4) 0) same ∙ eq-eqb (b % 4) 0 whole in
          claim.back n s (at g b memory input output) before made
          (step_is s i keeps h ∙ e ∙ ap (λ (x : Bool). cond x (Goes (at g a memory input output)) (traps s Jump)) t
          ∙ ap (λ (z : ℕ). Goes (at g z memory input output)) same)
          (code_made s (at g b memory input output) i keeps h le ∙ ap (λ (x : List MachineEvent). entered (at g b memory input output) ++ x) quiet
          ∙ append-nil (entered (at g b memory input output)) ∙ told)
          c

      -- a register gets the place behind a jump
      pub linked : (i : Inst) → Stands segments text pc i → (r a : ℕ) → 0 < r
          → jumps s r a ≡ cond (eqb (a % 4) 0) (Goes (at (put f r (pc + 4)) a memory input output)) (traps s Jump)
      linked i h r a low =
          ap (λ (regs : List ℕ). cond (eqb (a % 4) 0) (Goes (record s { registers = regs; pc = a })) (traps s Jump)) (written f r ((pc + 4) % 2 ^ 32) low)
          ∙ ap (λ (z : ℕ). cond (eqb (a % 4) 0) (Goes (at (put f r z) a memory input output)) (traps s Jump)) (next i h)

      -- a branch whose test holds
      pub by_taken : (n : ℕ) (before : List MachineEvent) (i : Inst) (test : Bool) (d : ℤ) (b : ℕ) → Stands segments text pc i
          → executed segments s i ≡ branches s test d → accessed segments s (Some i) ≡ [] → test ≡ true → plus pc d ≡ b → b % 4 ≡ 0 → code_address ≤ b
          → Claim n (at f b memory input output) before → Claim (n + 1) s before
      by_taken n before i test d b h e quiet holds same whole code c =
          by_jump n before i f (plus pc d) b h (e ∙ ap (λ (x : Bool). branches s x d) holds) quiet same whole code c

      -- a branch whose test does not hold
      pub by_passed : (n : ℕ) (before : List MachineEvent) (i : Inst) (test : Bool) (d : ℤ) → Stands segments text pc i
          → executed segments s i ≡ branches s test d → accessed segments s (Some i) ≡ [] → test ≡ false
          → Claim n (at f (pc + 4) memory input output) before → Claim (n + 1) s before
      by_passed n before i test d h e quiet fails c = by_nothing n before i h (e ∙ ap (λ (x : Bool). branches s x d) fails) quiet c

      -- ---- calls of the environment, by the number in a7

      abbrev called : (number descriptor : ℕ) → Stepped
      called number descriptor =
          cond (eqb number 93) (exit_call s) (cond (eqb number 64 && eqb descriptor 1) (write_call segments s)
          (cond (eqb number 63 && eqb descriptor 0) (read_call segments s) (traps s Call)))

      abbrev written_at : (a k next : ℕ) → State
      written_at a k next = at (put f 10 k) next memory input (output ++ bytes_at memory a k)

      -- bytes are written: they go to the output, and a0 gets their number
      pub by_write : (n : ℕ) (before : List MachineEvent) (a k : ℕ) → Stands segments text pc Ecall → f 17 ≡ 64 → f 10 ≡ 1 → f 11 ≡ a → f 12 ≡ k
          → are_mapped segments readable a k ≡ true
          → Claim n (at (put f 10 k) (pc + 4) memory input (output ++ bytes_at memory a k)) before → Claim (n + 1) s before
      by_write n before a k h number descriptor from count mapped c =
          by_code n s (written_at a k (pc + 4)) before [] Ecall keeps h le (omega arith)
          (ap (λ (z : ℕ). called z (f 10)) number ∙ ap (called 64) descriptor
          ∙ ap (λ (z : ℕ). cond (are_mapped segments readable z (f 12)) (Goes (written_at z (f 12) ((pc + 4) % 2 ^ 32))) (traps s Unmapped)) from
          ∙ ap (λ (z : ℕ). cond (are_mapped segments readable a z) (Goes (written_at a z ((pc + 4) % 2 ^ 32))) (traps s Unmapped)) count
          ∙ ap (λ (x : Bool). cond x (Goes (written_at a k ((pc + 4) % 2 ^ 32))) (traps s Unmapped)) mapped
          ∙ ap (λ (z : ℕ). Goes (written_at a k z)) (next Ecall h))
          refl c

      abbrev read_at : (a k next : ℕ) → State
      read_at a k next =
          at (put f 10 (min k (length input))) next (with_bytes memory a (take (min k (length input)) input)) (drop (min k (length input)) input) output

      -- bytes are read: the next of the input, at most k, come to a, and a0 gets their number
      pub by_read : (n : ℕ) (before : List MachineEvent) (a k : ℕ) → Stands segments text pc Ecall → f 17 ≡ 63 → f 10 ≡ 0 → f 11 ≡ a → f 12 ≡ k
          → are_mapped segments writable a k ≡ true
          → Claim n (at (put f 10 (min k (length input))) (pc + 4) (with_bytes memory a (take (min k (length input)) input)) (drop (min k (length input)) input) output) before
          → Claim (n + 1) s before
      by_read n before a k h number descriptor to count mapped c =
          by_code n s (read_at a k (pc + 4)) before [] Ecall keeps h le (omega arith)
          (ap (λ (z : ℕ). called z (f 10)) number ∙ ap (called 63) descriptor
          ∙ ap (λ (z : ℕ). cond (are_mapped segments writable z (f 12)) (Goes (read_at z (f 12) ((pc + 4) % 2 ^ 32))) (traps s Unmapped)) to
          ∙ ap (λ (z : ℕ). cond (are_mapped segments writable a z) (Goes (read_at a z ((pc + 4) % 2 ^ 32))) (traps s Unmapped)) count
          ∙ ap (λ (x : Bool). cond x (Goes (read_at a k ((pc + 4) % 2 ^ 32))) (traps s Unmapped)) mapped
          ∙ ap (λ (z : ℕ). Goes (read_at a k z)) (next Ecall h))
          refl c

  -- ---- what ends

  module _ (f : ℕ → ℕ) (pc : ℕ) (memory : Memory) (input output : List ℕ) (keeps : Keeps text memory) where
    abbrev last : State
    last = at f pc memory input output

    -- the program ends with the low byte of a0
    pub exit_ends : Stands segments text pc Ecall → f 17 ≡ 93 → step segments last ≡ Ends (Exits (f 10 % 2 ^ 8))
    exit_ends h number =
        step_is last Ecall keeps h
        ∙ ap (λ (z : ℕ). cond (eqb z 93) (exit_call last) (cond (eqb z 64 && eqb (f 10) 1) (write_call segments last)
        (cond (eqb z 63 && eqb (f 10) 0) (read_call segments last) (traps last Call)))) number

    -- the machine stops at an EBREAK
    pub break_ends : Stands segments text pc Ebreak → step segments last ≡ Ends (Break pc)
    break_ends h = step_is last Ebreak keeps h
