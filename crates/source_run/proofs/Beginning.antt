-- The call of `main` begins the run.
use Rattle.std.proofs.Common.{◌≡◌, refl, sym, ap, ◌∙◌, subst, ℕ, ◌^◌, ◌<◌, true, List, [], arith}
use Rattle.c_typed.specs.Programs.{ProgramData, program_data}
use Rattle.c_typed.specs.declared.program.Typed.{Typed}
use Rattle.c_meaning.specs.Run.{run_of}
use Rattle.lower_tac.specs.Same.{RunsAreSame}
use Rattle.lower_tac.specs.Statements.{lowered}
use Rattle.source_run.specs.Starting.{IsAtStart, first_core}
use Rattle.source_run.specs.Streams.{Streams}
use Rattle.source_run.proofs.Appending.{appends_none}
use Rattle.source_run.proofs.Reaching.{Comes, FarWith, comes_by}
use Rattle.source_start.proofs.NoCounts.{are_zero}
use Rattle.source_state.specs.Steps.Agreeing.{world, Agrees}
use Rattle.source_state.specs.Steps.Cores.{Core}
use Rattle.source_state.specs.declared.ends.Moved.{Moved}
use Rattle.tac_engine.specs.States.{State, Moves}
use Rattle.tac_engine.specs.Steps.{main_called}
use Rattle.tac_engine.specs.View.{ready}
use Rattle.tac_engine.proofs.Remains.{Within, start_keeps}
use Rattle.tac_ir.specs.Code.{Code, code_of}
use Rattle.tac_ir.specs.Running.{code_run}
use Rattle.tac_ir.specs.declared.step.Routine.{Routine}
use Rattle.tac_ir.specs.declared.step.Tac.{Tac}

agrees_at_start : (p : ProgramData) (turns : ℕ) → turns < 2 ^ 64 → Agrees (first_core p turns) (first_core p turns) []
agrees_at_start p turns few = record {
  few = few;
  live = refl;
  shape = record { entries = refl; begins = refl };
  entries = (are_zero p).entries;
  begins = (are_zero p).begins;
  all_entries = λ f. omega arith;
  all_begins = λ f l. omega arith;
}

module _ (typed : Typed) (turns : ℕ) (few : turns < 2 ^ 64) (same : RunsAreSame) (s : State) (start : IsAtStart typed turns s) where
  abbrev p : ProgramData
  p = program_data typed

  abbrev called : Moves
  called = main_called (ready typed start.code (first_core p turns) start.routine)

  begins : (input : List ℕ) → Comes p turns input called.0 called.1 []
  begins input =
      let covers = same p input turns true in
      comes_by p turns input called.0 called.1 [] [] covers.steps refl
      (start_keeps (run_of p input turns true) typed start.code (first_core p turns) start.routine refl (first_core p turns) covers.steps input []
      (agrees_at_start p turns few)
      (subst (λ (c : Code). Within (run_of p input turns true) covers.steps (code_run p.types c (world (first_core p turns) input []))) (sym start.lowers) covers.is))

  -- the theorem
  pub far_begun : (before : Streams) (moved : Moved) (new : State) → (moved, new) ≡ main_called s → FarWith p turns before before moved new
  far_begun before moved new e = subst (λ (step : Moves). FarWith p turns before before step.0 step.1) (sym (e ∙ ap (λ (s : State). main_called s) start.state)) (record {
    steady = record { reads = refl; writes = refl };
    reached = λ input known. record { calls = []; at = begins input; written = appends_none before.written; left = known };
  })

-- an engine in the room of the start
pub at_start : (typed : Typed) (code : Tac) (turns : ℕ) (core : Core) (g : Routine) (s : State) → core ≡ first_core (program_data typed) turns
    → code_of code ≡ lowered (program_data typed) → s ≡ ready typed code core g → IsAtStart typed turns s
at_start typed code turns core g s first lowers is =
    record { code = code; routine = g; lowers = lowers; state = is ∙ ap (λ (c : Core). ready typed code c g) first }
