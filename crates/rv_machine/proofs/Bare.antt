-- A step and a run depend on the places and the flags of segments alone, not on the bytes they began with.
use Rattle.std.proofs.Common.{◌≡◌, ℕ, zero, suc, ◌+◌, Bool, List, [], ◌∷◌, map, Option, Some, None, refl, ap, ◌∙◌}
use Rattle.std.specs.Prelude.{◌&&◌, ◌||◌, ◌==◌, bit_and}
use Rattle.std.proofs.Math.Path.{fun_ext}
use Rattle.rv_isa.specs.declared.image.Segment.{Segment}
use Rattle.rv_isa.specs.declared.instruction.Inst.{Inst}
use Rattle.rv_isa.specs.declared.instruction.Inst.TheVariants.{Lb, Lh, Lw, Lbu, Lhu, Sb, Sh, Sw, Ecall}
use Rattle.rv_isa.specs.Memory.{is_in, is_mapped, are_mapped, word_at}
use Rattle.rv_isa.specs.Decoding.{decoded}
use Rattle.rv_isa.specs.Step.{State, executed, performed, step}
use Rattle.rv_isa.specs.Run.{Shown, after, run, state_then, state_after}
use Rattle.rv_machine.specs.View.{bare}

-- ---- what is mapped

pub is_mapped_bare : (segments : List Segment) (flag a : ℕ) → is_mapped (map bare segments) flag a ≡ is_mapped segments flag a
is_mapped_bare [] flag a = refl
is_mapped_bare (segment ∷ segments) flag a = ap (λ (b : Bool). (bit_and segment.flags flag == flag && is_in segment a) || b) (is_mapped_bare segments flag a)

pub are_mapped_bare : (segments : List Segment) (flag a n : ℕ) → are_mapped (map bare segments) flag a n ≡ are_mapped segments flag a n
unfolding are_mapped
are_mapped_bare segments flag a zero = refl
are_mapped_bare segments flag a (suc n) = rw (is_mapped_bare segments flag a, are_mapped_bare segments flag (a + 1) n) refl

module _ (segments : List Segment) where
  same_mapped : are_mapped (map bare segments) ≡ are_mapped segments
  same_mapped = fun_ext (λ flag. fun_ext (λ a. fun_ext (λ n. are_mapped_bare segments flag a n)))

  -- ---- one step

  -- only loads, stores and calls ask what is mapped
  executed_bare : (s : State) (i : Inst) → executed (map bare segments) s i ≡ executed segments s i
  executed_bare s (Lb rd rs1 imm) = rw same_mapped refl
  executed_bare s (Lh rd rs1 imm) = rw same_mapped refl
  executed_bare s (Lw rd rs1 imm) = rw same_mapped refl
  executed_bare s (Lbu rd rs1 imm) = rw same_mapped refl
  executed_bare s (Lhu rd rs1 imm) = rw same_mapped refl
  executed_bare s (Sb rs1 rs2 imm) = rw same_mapped refl
  executed_bare s (Sh rs1 rs2 imm) = rw same_mapped refl
  executed_bare s (Sw rs1 rs2 imm) = rw same_mapped refl
  executed_bare s Ecall = rw same_mapped refl
  executed_bare s _ = refl

  performed_bare : (s : State) (i : Option Inst) → performed (map bare segments) s i ≡ performed segments s i
  performed_bare s None = refl
  performed_bare s (Some i) = executed_bare s i

  pub step_bare : (s : State) → step (map bare segments) s ≡ step segments s
  unfolding step
  step_bare s = rw (same_mapped, performed_bare s (decoded (word_at s.memory s.pc))) refl

  -- ---- runs

  pub run_bare : (m : ℕ) (s : State) → run (map bare segments) m s ≡ run segments m s
  unfolding run
  run_bare zero s = refl
  run_bare (suc m) s =
      ap (after (run (map bare segments) m) s) (step_bare s) ∙ ap (λ (next : State → Shown). after next s (step segments s)) (fun_ext (run_bare m))

  pub state_after_bare : (m : ℕ) (s : State) → state_after (map bare segments) m s ≡ state_after segments m s
  unfolding state_after
  state_after_bare zero s = refl
  state_after_bare (suc m) s = ap (state_then (state_after (map bare segments) m) s) (step_bare s)
      ∙ ap (λ (next : State → State). state_then next s (step segments s)) (fun_ext (state_after_bare m))
