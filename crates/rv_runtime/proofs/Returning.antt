-- The last word of a routine.
use Rattle.std.proofs.Common.{◌≡◌, ℕ, ◌*◌, ◌/◌, ◌%◌, ◌^◌, ◌<◌, ◌≤◌, Bool, true, false, ◌||◌, ◌&&◌, cond, eqb, List, [], ◌∷◌, ◌++◌, pos, ◌⊎◌, inl, inr, refl, ap, ◌∙◌}
use Rattle.std.proofs.Common.{arith, eq-eqb, le-leb}
use Rattle.std.proofs.lemmas.Int.{ints}
use Rattle.rv_isa.specs.declared.image.Segment.{Segment}
use Rattle.rv_isa.specs.Arithmetic.{plus}
use Rattle.rv_isa.specs.Decoding.{decoded}
use Rattle.rv_isa.specs.Memory.{Memory, word_at}
use Rattle.rv_isa.specs.Step.{State, Goes, executed}
use Rattle.rv_isa.specs.Events.{MachineEvent, Reply, step_events, entered, returned, accessed, is_code, code_address, malloc_return, calloc_return}
use Rattle.rv_runtime.specs.Steps.States.{at, IsBackward, Stands, Keeps}
use Rattle.rv_runtime.proofs.Steps.Steps.{step_is}
use Rattle.rv_runtime.proofs.Steps.Routines.{is_inside, jumps_inside}
use Rattle.rv_runtime.specs.Routines.{return_code}
use Rattle.rv_runtime.specs.Effects.{Leaves, Returns}

-- a register outside of a range is outside of a smaller one
pub wider : (r low high low' high' : ℕ) → (r < low) ⊎ (high ≤ r) → low ≤ low' → high' ≤ high → (r < low') ⊎ (high' ≤ r)
wider r low high low' high' (inl lt) le le' = inl (omega arith)
wider r low high low' high' (inr ge) le le' = inr (omega arith)

-- x0 and x1 are left as they were
pub still_returns : (f g : ℕ → ℕ) (place : ℕ) → Returns f place → Leaves f g → Returns g place
still_returns f g place h leaves = record {
  nil = leaves 0 (inl (omega arith)) ∙ h.nil;
  link = leaves 1 (inl (omega arith)) ∙ h.link;
  whole = h.whole;
  code = h.code;
  small = h.small;
}

-- the target of a jump through a register
pub target_is : (x place : ℕ) → x ≡ place → place % 4 ≡ 0 → place < 2 ^ 32 → plus x (pos 0) / 2 * 2 ≡ place
target_is x place is whole small = omega (arith, ints)

module _ (segments : List Segment) (text : Memory) (Claim : ℕ → State → List MachineEvent → Type 0) (claim : IsBackward segments Claim) (n : ℕ)
    (before : List MachineEvent) (f : ℕ → ℕ) (pc : ℕ) (memory : Memory) (input output : List ℕ) (keeps : Keeps text memory)
    (h : Stands segments text pc return_code) (place : ℕ) (back : Returns f place) where
  abbrev s : State
  s = at f pc memory input output

  abbrev t : State
  t = at f place memory input output

  -- without an event
  pub comes_back : is_inside pc ≡ true → Claim n (at f place memory input output) before → Claim n (at f pc memory input output) before
  comes_back inside c =
      jumps_inside segments text Claim claim n before f pc memory input output keeps inside return_code h f (plus (f 1) (pos 0) / 2 * 2) place refl
      (target_is (f 1) place back.link back.whole back.small) back.whole c

  goes_back : executed segments s return_code ≡ Goes t
  goes_back =
      let d = target_is (f 1) place back.link back.whole back.small in
      let e : eqb (plus (f 1) (pos 0) / 2 * 2 % 4) 0 ≡ true = ap (λ (z : ℕ). eqb (z % 4) 0) d ∙ eq-eqb (place % 4) 0 back.whole in
      rw e (ap (λ (z : ℕ). Goes (at f z memory input output)) d)

  reply_made : (a : ℕ) → is_code pc ≡ false → (eqb pc malloc_return || eqb pc calloc_return) ≡ true → f 10 ≡ a → step_events segments s t ≡ Reply a ∷ []
  reply_made a low last is =
      ap (λ (b : Bool). cond b (entered t ++ accessed segments s (decoded (word_at memory pc))) (returned pc t)) low
      ∙ ap (λ (b : Bool). cond (b && is_code place) (Reply (f 10) ∷ []) []) last
      ∙ ap (λ (b : Bool). cond b (Reply (f 10) ∷ []) []) (le-leb code_address place back.code)
      ∙ ap (λ (z : ℕ). Reply z ∷ []) is

  -- with the reply of an allocation
  pub replies : (a : ℕ) → is_code pc ≡ false → (eqb pc malloc_return || eqb pc calloc_return) ≡ true → f 10 ≡ a
      → Claim n (at f place memory input output) (Reply a ∷ before) → Claim n (at f pc memory input output) before
  replies a low last is c =
      claim.fewer n s before (claim.back n s t before (Reply a ∷ []) (step_is segments text s return_code keeps h ∙ goes_back) (reply_made a low last is) c)
