-- What is left of a run: from where the engine is, the code comes to the end of the run. Each step keeps that, and an end is that end.
use Rattle.std.proofs.Common.{◌≡◌, refl, ap, sym, subst, ◌∙◌, ℕ, suc, ◌+◌, List, [], ◌∷◌, Some, slice_get, arith}
use Rattle.lay_base.specs.declared.faults.UndefinedKind.TheVariants as K
use Rattle.c_types.specs.Types.{CType}
use Rattle.c_typed.specs.Programs.{program_data}
use Rattle.c_typed.specs.declared.program.Typed.{Typed}
use Rattle.block_memory.specs.RunWorlds.Events.{Event, calls_of}
use Rattle.block_memory.specs.RunWorlds.Worlds.{World, End, undefined as ends_undefined}
use Rattle.block_memory.specs.declared.run_worlds.value.Value.{Value}
use Rattle.c_meaning.specs.Frames.{Frame}
use Rattle.c_meaning.specs.declared.frame.Slot.TheVariants.{ByName as by_name}
use Rattle.source_state.specs.Steps.Agreeing.{world, end_of, Agrees, calls_with, input_behind}
use Rattle.source_state.specs.Steps.Cores.{Core}
use Rattle.source_state.specs.declared.ends.Moved.{Moved}
use Rattle.source_state.specs.declared.ends.Moved.TheVariants.{Goes, Puts, Gets, Over}
use Rattle.source_state.proofs.Steps.Locals.{agrees_framed}
use Rattle.tac_ir.specs.Code.{Code, code_of}
use Rattle.tac_ir.specs.Running as Run
use Rattle.tac_ir.specs.Running.{Next, with_temp, code_run, does, go, no_place}
use Rattle.tac_ir.specs.declared.step.Routine.{Routine}
use Rattle.tac_ir.specs.declared.step.Step.{Step}
use Rattle.tac_ir.specs.declared.step.Tac.{Tac}
use Rattle.tac_engine.specs.States.{State}
use Rattle.tac_engine.specs.Steps.{enacted_next, main_called, read_given, stepped}
use Rattle.tac_engine.specs.View.{ready}
use Rattle.tac_engine.proofs.Alike.{alike}
use Rattle.tac_engine.proofs.CallsSame.{looked_same}
use Rattle.tac_engine.proofs.Same.{Course, types_of, code_in, Same, Shows, follows, going, same_undefined, state_behind}

-- the run from where the engine is, for so many steps
abbrev pub left_of : State → (input : List ℕ) → (trace : List Event) → (steps : ℕ) → End
left_of s input trace n = going s (go (types_of s) (code_in s) n) s.core.frame (world s.core input trace)

-- so many steps, and any more, come to that end
abbrev pub Within : End → (steps : ℕ) → (run : ℕ → End) → Type 0
Within e n run = (more : ℕ) → run (n + more) ≡ e

module _ (e : End) where
  -- it goes on to that end within so many steps, or it is over, and that is the end
  abbrev pub Leads : (steps : ℕ) → Moved → State → (input : List ℕ) → (later : List Event) → Type 0
  Leads n (Over end) new input later = e ≡ end_of end (world new.core input later)
  Leads n moved new input later = Within e n (left_of (state_behind moved input new) (input_behind moved input) later)

  -- a step of the engine, on input and behind a trace
  pub record Keeps (start : Core) (steps : ℕ) (input : List ℕ) (trace : List Event) (moved : Moved) (new : State) : Type 0 where
    pub later : List Event
    pub leads : Leads steps moved new input later
    pub agrees : Agrees start new.core later
    pub calls : calls_of later ≡ calls_with moved (calls_of trace)

  -- ---- it runs the same program

  own : (types : List CType) (code : Code) (n : ℕ) (s : State) (f : Frame) (w : World) → types_of s ≡ types → code_in s ≡ code
      → Within e n (λ k. going s (go types code k) f w) → Within e n (λ k. going s (go (types_of s) (code_in s) k) f w)
  own types code n s f w t c within = subst (λ (code : Code). Within e n (λ k. going s (go (types_of s) code k) f w)) (sym c)
      (subst (λ (types : List CType). Within e n (λ k. going s (go types code k) f w)) (sym t) within)

  leads_by : (types : List CType) (code : Code) (n : ℕ) (moved : Moved) (new : State) (input : List ℕ) (later : List Event)
      → types_of new ≡ types → code_in new ≡ code → Within e n (λ k. follows (go types code k) moved new input later) → Leads n moved new input later
  leads_by types code n (Over end) new input later t c within = sym (within 0)
  leads_by types code n Goes new input later t c within = own types code n new new.core.frame (world new.core input later) t c within
  leads_by types code n (Puts byte) new input later t c within = own types code n new new.core.frame (world new.core input later) t c within
  leads_by types code n Gets new input later t c within =
      let after : State = state_behind Gets input new in own types code n after after.core.frame (world new.core (input_behind Gets input) later) t c within

  keeps_by : (typed : Typed) (code : Tac) (start : Core) (n : ℕ) (run : Next → End) (input : List ℕ) (trace : List Event) (moved : Moved) (new : State)
      → Shows typed code start run input trace moved new → Within e n (λ k. run (go (program_data typed).types (code_of code) k))
      → Keeps start n input trace moved new
  keeps_by typed code start n run input trace moved new shown within = record {
    later = shown.later;
    leads = leads_by (program_data typed).types (code_of code) n moved new input shown.later
        (ap (λ (t : Typed). (program_data t).types) shown.stays.0) (ap code_of shown.stays.1)
        (λ more. sym (shown.does (go (program_data typed).types (code_of code) (n + more))) ∙ within more);
    agrees = shown.agrees;
    calls = shown.calls;
  }

  -- ---- the next step

  module _ (s : State) where
    -- of the steps that are left
    abbrev next_step : List Step → Course
    next_step [] next f w = ends_undefined K.Call no_place w
    next_step (i ∷ more) next f w = does (types_of s) (code_in s) next s.callers s.routine i more f w

    next_same : (more : List Step) → Same s (next_step more) (enacted_next more s)
    next_same [] = record { shows = (same_undefined K.Call no_place s).shows }
    next_same (i ∷ more) = record { shows = (alike (record s { more = more }) i).shows }

    is_next : (more : List Step) (input : List ℕ) (trace : List Event) (n : ℕ)
        → go (types_of s) (code_in s) (suc n) s.callers s.routine more s.core.frame (world s.core input trace)
        ≡ next_step more (go (types_of s) (code_in s) n) s.core.frame (world s.core input trace)
    is_next [] input trace n = refl
    is_next (i ∷ more) input trace n = refl

    -- a step of the engine keeps that the code comes to that end
    pub step_keeps : (start : Core) (n : ℕ) (input : List ℕ) (trace : List Event) → Agrees start s.core trace
        → Within e (suc n) (left_of s input trace) → Keeps start n input trace (stepped s).0 (stepped s).1
    step_keeps start n input trace h within =
        keeps_by s.typed s.code start n (λ next. next_step s.more next s.core.frame (world s.core input trace)) input trace (stepped s).0 (stepped s).1
        ((next_same s.more).shows start input trace h)
        (λ more. sym (is_next s.more input trace (n + more))
        ∙ ap (left_of s input trace) (let one : suc (n + more) ≡ suc n + more = omega arith in one) ∙ within more)

  -- ---- the start

  -- the call of `main` begins the run of the code, where the run has a frame with nothing in it
  pub start_keeps : (typed : Typed) (code : Tac) (core : Core) (g : Routine) → core.frame ≡ [] → (start : Core) (n : ℕ) (input : List ℕ) (trace : List Event)
      → Agrees start core trace → Within e n (code_run (program_data typed).types (code_of code) (world core input trace))
      → Keeps start n input trace (main_called (ready typed code core g)).0 (main_called (ready typed code core g)).1
  start_keeps typed code core g empty start n input trace h within =
      let called : Frame → Next → End = λ f next. Run.calls (program_data typed).types (code_of code) next no_place code.main []
      (slice_get (code_of code).routines code.main) [] f (world core input trace) in
      keeps_by typed code start n (called core.frame) input trace (main_called (ready typed code core g)).0 (main_called (ready typed code core g)).1
      ((looked_same no_place code.main [] [] (ready typed code core g)).shows start input trace h)
      (λ more. ap (λ (f : Frame). called f (go (program_data typed).types (code_of code) (n + more))) empty ∙ within more)

-- what is read changes nothing that is counted
pub given_agrees : (start : Core) (v : Value) (s : State) (trace : List Event) → Agrees start s.core trace → Agrees start (read_given v s).core trace
given_agrees start v s trace h = agrees_framed start s.core (with_temp s.to (by_name (Some v)) s.core.frame) trace h
