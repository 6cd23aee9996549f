-- Calls of the runtime's routines.
use Rattle.std.proofs.Common.{◌≡◌, ℕ, zero, suc, ◌+◌, ◌*◌, ◌/◌, ◌%◌, ◌^◌, ◌<◌, ◌≤◌, List, refl, ap, sym, ◌∙◌, subst, arith}
use Rattle.rv_isa.specs.declared.instruction.Inst.TheVariants.{Jalr}
use Rattle.rv_isa.specs.Arithmetic.{plus}
use Rattle.rv_isa.specs.Events.{MachineEvent, code_address, entered, events, events_then, step_events}
use Rattle.rv_isa.specs.Memory.{Memory}
use Rattle.rv_isa.specs.Run.{state_after, state_then}
use Rattle.rv_isa.specs.Step.{State, Stepped, Goes, Ends, register, step}
use Rattle.rv_runtime.specs.Steps.States.{Code, Keeps, Leads, at, later, put}
use Rattle.rv_runtime.proofs.Steps.Reaching.{later_both}
use Rattle.rv_runtime.proofs.Steps.Registers.{put_again, register_is}
use Rattle.rv_runtime.proofs.Steps.Steps.{by_enter, linked}
use Rattle.rv_code.specs.Words.{call_code, lower, upper}
use Rattle.rv_emit.specs.Grounds.{Ground}
use Rattle.rv_emit.proofs.Moves.{Goal, Shown, by_lui, number_value}

-- ---- what is claimed where some steps lead is claimed before them

module _ (ground : Ground) (goal : Goal ground) where
  open ground use {segments, text}

  steps_back : (k : ℕ) (s : State) (before : List MachineEvent) → goal.Claim goal.n (state_after segments k s) (later (events segments k s) before)
      → goal.Claim goal.n s before
  unfolding state_after events
  steps_back zero s before c = c
  steps_back (suc k) s before c = by_step (step segments s) refl (steps_back k) c
    where
      by_step : (r : Stepped) → step segments s ≡ r
          → ((t : State) (before : List MachineEvent) → goal.Claim goal.n (state_after segments k t) (later (events segments k t) before) → goal.Claim goal.n t before)
          → goal.Claim goal.n (state_then (state_after segments k) s r) (later (events_then (events segments k) segments s r) before) → goal.Claim goal.n s before
      by_step (Goes t) e again c =
          goal.claim.fewer goal.n s before
          (goal.claim.back goal.n s t before (step_events segments s t) e refl
          (again t (later (step_events segments s t) before)
          (subst (goal.Claim goal.n (state_after segments k t)) (later_both (step_events segments s t) (events segments k t) before) c)))
      by_step (Ends standing) e again c = c

  pub leads_back : (s t : State) (made : List MachineEvent) → Leads segments s t made → goal.Claim goal.n t (later made goal.before) → goal.Claim goal.n s goal.before
  leads_back s t made leads c =
      steps_back leads.steps s goal.before
      (subst (λ u. goal.Claim goal.n u (later (events segments leads.steps s) goal.before)) (sym leads.arrives)
      (subst (λ e. goal.Claim goal.n t (later e goal.before)) (sym leads.makes) c))

  -- ---- a call of a routine: x1 has the place behind it, and what it tells stands among the events

  pub by_routine : (f : ℕ → ℕ) (pc : ℕ) (memory : Memory) (place : ℕ) (made : List MachineEvent) → Keeps text memory → code_address ≤ pc
      → Code segments text pc (call_code place) → place % 4 ≡ 0 → place < 2 ^ 32
      → entered (at (put f 1 (pc + 4 + 4)) place memory goal.input goal.output) ≡ made
      → goal.Claim goal.n (at (put f 1 (pc + 4 + 4)) place memory goal.input goal.output) (later made goal.before) → Shown ground goal f pc memory
  by_routine f pc memory place made keeps le code whole small told c =
      let hi = upper place * 2 ^ 12 in
      let g = put f 1 hi in
      let s = at g (pc + 4) memory goal.input goal.output in
      let h = put g 1 (pc + 4 + 4) in
      let to = plus (register s 1) (lower place) / 2 * 2 in
      let same : to ≡ place = ap (λ (x : ℕ). plus x (lower place) / 2 * 2) (register_is g 1 (omega arith)) ∙ ap (λ (z : ℕ). z / 2 * 2) (number_value place) ∙ omega arith in
      by_lui ground goal f pc memory keeps le 1 (upper place) code.0 (omega arith)
      (goal.claim.fewer goal.n s goal.before
      (by_enter segments text goal.Claim goal.claim g (pc + 4) memory goal.input goal.output keeps (omega arith) goal.n goal.before made (Jalr 1 1 (lower place)) h to place
      code.1.0 (linked segments text goal.Claim goal.claim g (pc + 4) memory goal.input goal.output keeps (omega arith) (Jalr 1 1 (lower place)) code.1.0 1 to (omega arith))
      refl same whole
      (subst (λ (k : ℕ → ℕ). entered (at k place memory goal.input goal.output) ≡ made) (sym (put_again f 1 hi (pc + 4 + 4))) told)
      (subst (λ (k : ℕ → ℕ). goal.Claim goal.n (at k place memory goal.input goal.output) (later made goal.before)) (sym (put_again f 1 hi (pc + 4 + 4))) c)))
