-- Each step that does not end the run leaves less of it.
use Rattle.std.proofs.Common.{◌≡◌, sym, ap, ◌∙◌, subst, ◌⊎◌, inl, inr, ℕ}
use Rattle.c_typed.specs.Programs.{program_data}
use Rattle.c_typed.specs.declared.program.Typed.{Typed}
use Rattle.lower_tac.specs.Statements.{lowered}
use Rattle.source_run.specs.Advances.{AdvanceGives}
use Rattle.source_run.specs.Starting.{IsAtStart}
use Rattle.source_run.specs.Streams.{Streams}
use Rattle.source_run.specs.declared.stepping.Advance.{Advance}
use Rattle.source_run.specs.declared.stepping.Advance.TheVariants as A
use Rattle.block_memory.specs.declared.run_worlds.value.Value.{Value}
use Rattle.source_state.specs.declared.ends.Moved.{Moved}
use Rattle.tac_engine.specs.States.{State, Moves}
use Rattle.tac_engine.specs.Steps.{main_called, read_given, stepped}
use Rattle.tac_engine.proofs.Falling.{Onward, OnwardBy, SteadyBy, steady_begins, steady_falls, steady_given}
use Rattle.tac_engine.proofs.Lessening.{IsSteadyAt}
use Rattle.tac_engine.proofs.Same.{code_in}
use Rattle.tac_ir.specs.Code.{Code}
use Rattle.tac_ir.specs.Steady.{AllSteady}

-- ---- the call of `main`

pub steady_begun : (typed : Typed) (turns : ℕ) (s : State) → IsAtStart typed turns s → AllSteady (lowered (program_data typed)).routines
    → (moved : Moved) (new : State) → (moved, new) ≡ main_called s → SteadyBy moved new
steady_begun typed turns s start steady moved new e =
    subst (λ (step : Moves). SteadyBy step.0 step.1) (sym e)
    (steady_begins s (subst (λ (c : Code). AllSteady c.routines) (sym lowers) steady) (ap (λ (s : State). s.callers) start.state))
  where
    lowers : code_in s ≡ lowered (program_data typed)
    lowers = ap code_in start.state ∙ start.lowers

-- ---- a step

module _ (s new : State) (now here : Streams) (h : IsSteadyAt s) where
  by_read : (Onward s (stepped s).1) → (v : Value) → new ≡ read_given v (stepped s).1 → Onward s new
  by_read one v e = subst (λ (u : State). Onward s u) (sym e) (record { steady = steady_given v (stepped s).1 one.steady; less = one.less })

  pub further : (a : Advance) → (a ≡ A.Goes) ⊎ (((byte : ℕ) × (a ≡ A.Wrote byte)) ⊎ (a ≡ A.Read)) → AdvanceGives s new now here a → Onward s new
  further a (inl e) w = let step = rw e at w in subst (λ (m : Moves). OnwardBy m.0 s m.1) step.0 (steady_falls s h)
  further a (inr (inl e)) w = let wrote = rw e.1 at w in subst (λ (m : Moves). OnwardBy m.0 s m.1) wrote.steps (steady_falls s h)
  further a (inr (inr e)) w = let read = rw e at w in
      by_read (subst (λ (m : Moved). OnwardBy m s (stepped s).1) read.steps (steady_falls s h)) read.value read.given
