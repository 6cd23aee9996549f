-- Single instructions of the runtime's routines, backwards. What a routine does makes no event but the reply of an allocation, which its last word makes.
use Rattle.std.proofs.Common.{◌≡◌, ℕ, ◌+◌, ◌%◌, ◌^◌, ◌<◌, Bool, true, false, not, ◌||◌, ◌&&◌, cond, eqb, List, [], ◌∷◌, ◌++◌, ℤ}
use Rattle.std.proofs.Common.{refl, ap, ◌∙◌, arith, eq-eqb}
use Rattle.std.proofs.lemmas.Bool.{and_parts, not-true}
use Rattle.rv_isa.specs.declared.image.Segment.{Segment}
use Rattle.rv_isa.specs.declared.instruction.Inst.{Inst}
use Rattle.rv_isa.specs.Arithmetic.{plus}
use Rattle.rv_isa.specs.Decoding.{decoded}
use Rattle.rv_isa.specs.Memory.{Memory, readable, writable, are_mapped, word_at}
use Rattle.rv_isa.specs.Step.{State, register, Stepped, Goes, executed, accesses, writes, branches, traps}
use Rattle.rv_isa.specs.Events.{MachineEvent, Reply, step_events, entered, returned, accessed, is_code, malloc_return, calloc_return}
use Rattle.lay_base.specs.declared.faults.TrapKind.TheVariants.{Jump}
use Rattle.rv_runtime.specs.Steps.States.{put, at, IsBackward, Stands, Keeps}
use Rattle.rv_runtime.proofs.Steps.Registers.{written}
use Rattle.rv_runtime.proofs.Steps.Steps.{step_is}

-- the place lies below compiled code and is no return word of an allocation. Of a place that is written out this holds by computation
abbrev pub is_inside : ℕ → Bool
is_inside pc = not (is_code pc) && not (eqb pc malloc_return || eqb pc calloc_return)

pub inside_made : (segments : List Segment) (s t : State) → is_inside s.pc ≡ true → step_events segments s t ≡ []
inside_made segments s t inside =
    let both = and_parts (not (is_code s.pc)) (not (eqb s.pc malloc_return || eqb s.pc calloc_return)) inside in
    ap (λ (b : Bool). cond b (entered t ++ accessed segments s (decoded (word_at s.memory s.pc))) (returned s.pc t)) (not-true _ both.0)
    ∙ ap (λ (b : Bool). cond (b && is_code t.pc) (Reply (register t 10) ∷ []) []) (not-true _ both.1)

module _ (segments : List Segment) (text : Memory) (Claim : ℕ → State → List MachineEvent → Type 0) (claim : IsBackward segments Claim) where
  -- any step inside
  pub by_routine : (n : ℕ) (s t : State) (before : List MachineEvent) (i : Inst) → Keeps text s.memory → Stands segments text s.pc i → is_inside s.pc ≡ true
      → executed segments s i ≡ Goes t → Claim n t before → Claim n s before
  by_routine n s t before i keeps h inside e c =
      claim.fewer n s before (claim.back n s t before [] (step_is segments text s i keeps h ∙ e) (inside_made segments s t inside) c)

  module _ (n : ℕ) (before : List MachineEvent) (f : ℕ → ℕ) (pc : ℕ) (memory : Memory) (input output : List ℕ) (keeps : Keeps text memory)
      (inside : is_inside pc ≡ true) (i : Inst) (h : Stands segments text pc i) where
    abbrev s : State
    s = at f pc memory input output

    next : (pc + 4) % 2 ^ 32 ≡ pc + 4
    next = omega (arith, h.below)

    put_goes : (r v w : ℕ) → 0 < r → w ≡ v → writes s r w ≡ Goes (at (put f r v) (pc + 4) memory input output)
    put_goes r v w low same =
        ap (λ (regs : List ℕ). Goes (record s { registers = regs; pc = (pc + 4) % 2 ^ 32 })) (written f r w low)
        ∙ ap (λ (z : ℕ). Goes (at (put f r w) z memory input output)) next
        ∙ ap (λ (z : ℕ). Goes (at (put f r z) (pc + 4) memory input output)) same

    -- a value comes into a register
    pub puts_inside : (r v w : ℕ) → 0 < r → executed segments s i ≡ writes s r w → w ≡ v
        → Claim n (at (put f r v) (pc + 4) memory input output) before → Claim n s before
    puts_inside r v w low e same c =
        by_routine n s (at (put f r v) (pc + 4) memory input output) before i keeps h inside (e ∙ put_goes r v w low same) c

    reached : (flag k a b : ℕ) (done : Stepped) → a ≡ b → b % k ≡ 0 → are_mapped segments flag b k ≡ true → accesses segments s flag a k done ≡ done
    reached flag k a b done same whole mapped =
        let e : eqb (a % k) 0 ≡ true = ap (λ (z : ℕ). eqb (z % k) 0) same ∙ eq-eqb (b % k) 0 whole in
        let g : are_mapped segments flag a k ≡ true = ap (λ (z : ℕ). are_mapped segments flag z k) same ∙ mapped in
        rw (e, g) refl

    -- a load at b of k bytes, whose value w gives
    pub loads_inside : (r v k a b : ℕ) (w : ℕ → ℕ) → 0 < r → executed segments s i ≡ accesses segments s readable a k (writes s r (w a)) → a ≡ b → b % k ≡ 0
        → are_mapped segments readable b k ≡ true → w b ≡ v
        → Claim n (at (put f r v) (pc + 4) memory input output) before → Claim n s before
    loads_inside r v k a b w low e same whole mapped value c =
        by_routine n s (at (put f r v) (pc + 4) memory input output) before i keeps h inside
        (e ∙ reached readable k a b (writes s r (w a)) same whole mapped ∙ put_goes r v (w a) low (ap w same ∙ value)) c

    -- a store at b of k bytes, after which memory is m b
    pub stores_inside : (k a b : ℕ) (m : ℕ → Memory)
        → executed segments s i ≡ accesses segments s writable a k (Goes (at f ((pc + 4) % 2 ^ 32) (m a) input output)) → a ≡ b → b % k ≡ 0
        → are_mapped segments writable b k ≡ true → Claim n (at f (pc + 4) (m b) input output) before → Claim n s before
    stores_inside k a b m e same whole mapped c =
        by_routine n s (at f (pc + 4) (m b) input output) before i keeps h inside
        (e ∙ reached writable k a b (Goes (at f ((pc + 4) % 2 ^ 32) (m a) input output)) same whole mapped
        ∙ ap (λ (z : ℕ). Goes (at f z (m a) input output)) next ∙ ap (λ (z : ℕ). Goes (at f (pc + 4) (m z) input output)) same) c

    -- a jump to b, after which the registers are g
    pub jumps_inside : (g : ℕ → ℕ) (a b : ℕ) → executed segments s i ≡ cond (eqb (a % 4) 0) (Goes (at g a memory input output)) (traps s Jump) → a ≡ b
        → b % 4 ≡ 0 → Claim n (at g b memory input output) before → Claim n s before
    jumps_inside g a b e same whole c =
        let t : eqb (a % 4) 0 ≡ true = ap (λ (z : ℕ). eqb (z % 4) 0) same ∙ eq-eqb (b % 4) 0 whole in
        by_routine n s (at g b memory input output) before i keeps h inside
        (e ∙ ap (λ (x : Bool). cond x (Goes (at g a memory input output)) (traps s Jump)) t ∙ ap (λ (z : ℕ). Goes (at g z memory input output)) same) c

    -- a branch that is taken, and one that is not
    pub takes_inside : (test : Bool) (d : ℤ) (b : ℕ) → executed segments s i ≡ branches s test d → test ≡ true → plus pc d ≡ b → b % 4 ≡ 0
        → Claim n (at f b memory input output) before → Claim n s before
    takes_inside test d b e holds same whole c = jumps_inside f (plus pc d) b (e ∙ ap (λ (x : Bool). branches s x d) holds) same whole c

    pub passes_inside : (test : Bool) (d : ℤ) → executed segments s i ≡ branches s test d → test ≡ false
        → Claim n (at f (pc + 4) memory input output) before → Claim n s before
    passes_inside test d e fails c =
        by_routine n s (at f (pc + 4) memory input output) before i keeps h inside
        (e ∙ ap (λ (x : Bool). branches s x d) fails ∙ ap (λ (z : ℕ). Goes (at f z memory input output)) next) c
