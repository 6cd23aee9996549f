-- How far a run has come, and that each step leads further.
use Rattle.std.proofs.Common.{◌≡◌, refl, sym, ap, ◌∙◌, subst, ◌⊎◌, inl, inr, ℕ, suc, ◌+◌, true, List, [], ◌∷◌, ◌++◌, Some, arith}
use Rattle.c_typed.specs.Programs.{ProgramData}
use Rattle.lay_base.specs.Known.{Appends}
use Rattle.block_memory.specs.RunWorlds.Events.{Event, Call, putting, getting, calls_of}
use Rattle.block_memory.specs.RunWorlds.Worlds.{End}
use Rattle.block_memory.specs.declared.run_worlds.value.Value.{Value}
use Rattle.c_meaning.specs.Run.{run_of}
use Rattle.source_run.specs.Advances.{AdvanceGives, Wrote, Read}
use Rattle.source_run.specs.RunGives.{bytes_put, rest_behind}
use Rattle.source_run.specs.Starting.{first_core}
use Rattle.source_run.specs.Streams.{Streams, AreSteady}
use Rattle.source_run.specs.declared.stepping.Advance.{Advance}
use Rattle.source_run.specs.declared.stepping.Advance.TheVariants as A
use Rattle.source_run.proofs.Appending.{appends_more, put_one, put_got, rest_put, rest_got}
use Rattle.source_state.specs.Steps.Agreeing.{world, end_of, Agrees, calls_with, next_in}
use Rattle.source_state.specs.Steps.Cores.{Core}
use Rattle.source_state.specs.declared.ends.Final.{Final}
use Rattle.source_state.specs.declared.ends.Moved.{Moved}
use Rattle.source_state.specs.declared.ends.Moved.TheVariants.{Goes, Puts, Gets, Over}
use Rattle.tac_engine.specs.States.{State, Moves}
use Rattle.tac_engine.specs.Steps.{read_given, stepped}
use Rattle.tac_engine.proofs.Remains.{Keeps, Within, given_agrees, left_of, step_keeps}
use Rattle.tac_engine.proofs.Same.{state_behind}

pub steady_then : (before now here : Streams) → AreSteady before now → AreSteady now here → AreSteady before here
steady_then before now here d e = record { reads = e.reads ∙ d.reads; writes = e.writes ∙ d.writes }

module _ (p : ProgramData) (turns : ℕ) where
  -- ---- the calls tell of the output and of the rest of the input

  module _ (input : List ℕ) where
    abbrev pub whole : End
    whole = run_of p input turns true

    -- from where the engine is, the code comes to the end of the run
    pub record Came (s : State) (calls : List Call) : Type 0 where
      pub trace : List Event
      pub agrees : Agrees (first_core p turns) s.core trace
      pub calls_are : calls_of trace ≡ calls
      pub steps : ℕ
      pub leads : Within whole steps (left_of s (rest_behind calls input) trace)

    -- the run has come to its end, and that core is left
    pub record Ended (end : Final) (c : Core) (calls : List Call) : Type 0 where
      pub trace : List Event
      pub agrees : Agrees (first_core p turns) c trace
      pub calls_are : calls_of trace ≡ calls
      pub is : whole ≡ end_of end (world c (rest_behind calls input) trace)

    -- where a step comes to that, and leaves that state
    abbrev pub Comes : Moved → State → List Call → Type 0
    Comes (Over end) s calls = Ended end s.core calls
    Comes moved s calls = Came (state_behind moved (rest_behind calls input) s) (calls_with moved calls)

    came_on : (s : State) (rest : List ℕ) (all : List Call) (trace : List Event) (n : ℕ) → Agrees (first_core p turns) s.core trace → calls_of trace ≡ all
        → rest ≡ rest_behind all input → Within whole n (left_of s rest trace) → Came s all
    came_on s rest all trace n agrees are same leads = record {
      trace = trace;
      agrees = agrees;
      calls_are = are;
      steps = n;
      leads = subst (λ (r : List ℕ). Within whole n (left_of s r trace)) same leads;
    }

    pub comes_by : (moved : Moved) (new : State) (calls : List Call) (trace : List Event) (n : ℕ) → calls_of trace ≡ calls
        → Keeps whole (first_core p turns) n (rest_behind calls input) trace moved new → Comes moved new calls
    comes_by (Over end) new calls trace n are keeps =
        record { trace = keeps.later; agrees = keeps.agrees; calls_are = keeps.calls ∙ are; is = keeps.leads }
    comes_by Goes new calls trace n are keeps =
        came_on new (rest_behind calls input) calls keeps.later n keeps.agrees (keeps.calls ∙ are) refl keeps.leads
    comes_by (Puts byte) new calls trace n are keeps =
        came_on new (rest_behind calls input) (calls ++ putting byte ∷ []) keeps.later n keeps.agrees
        (keeps.calls ∙ ap (λ all. all ++ putting byte ∷ []) are) (sym (rest_put calls byte input)) keeps.leads
    comes_by Gets new calls trace n are keeps =
        came_on (state_behind Gets (rest_behind calls input) new) _ (calls ++ getting ∷ []) keeps.later n
        (given_agrees (first_core p turns) (next_in (rest_behind calls input)) new keeps.later keeps.agrees)
        (keeps.calls ∙ ap (λ all. all ++ getting ∷ []) are) (sym (rest_got calls input)) keeps.leads

    one_more : (n : ℕ) (run : ℕ → End) → Within whole n run → Within whole (suc n) run
    one_more n run h = λ more. ap run (let one : suc n + more ≡ n + suc more = omega arith in one) ∙ h (suc more)

    comes : (s : State) (calls : List Call) → Came s calls → Comes (stepped s).0 (stepped s).1 calls
    comes s calls came = comes_by (stepped s).0 (stepped s).1 calls came.trace came.steps came.calls_are
        (step_keeps whole s (first_core p turns) came.steps (rest_behind calls input) came.trace came.agrees
        (one_more came.steps (left_of s (rest_behind calls input) came.trace) came.leads))

  -- ---- with the streams

  pub record Reached (before now : Streams) (At : List Call → Type 0) (input : List ℕ) : Type 0 where
    pub calls : List Call
    pub at : At calls
    pub written : Appends before.written now.written (bytes_put calls)
    pub left : now.left ≡ Some (rest_behind calls input)

  pub record Far (before now : Streams) (At : (input : List ℕ) → List Call → Type 0) : Type 0 where
    pub steady : AreSteady before now
    pub reached : (input : List ℕ) → before.left ≡ Some input → Reached before now (At input) input

  -- the run has come to there, and a step comes to that
  abbrev pub FarAt : (before now : Streams) → State → Type 0
  FarAt before now s = Far before now (λ input. Came input s)

  abbrev pub FarWith : (before now : Streams) → Moved → State → Type 0
  FarWith before now moved new = Far before now (λ input. Comes input moved new)

  module _ (before now : Streams) (s : State) (far : FarAt before now s) where
    far_then : FarWith before now (stepped s).0 (stepped s).1
    far_then = record {
      steady = far.steady;
      reached = λ input known. let r = far.reached input known in
          record { calls = r.calls; at = comes input s r.calls r.at; written = r.written; left = r.left };
    }

    pub far_where : (moved : Moved) (new : State) → stepped s ≡ (moved, new) → FarWith before now moved new
    far_where moved new e = subst (λ (step : Moves). FarWith before now step.0 step.1) e far_then

    pub far_get : (stepped s).0 ≡ Gets → FarWith before now Gets (stepped s).1
    far_get e = subst (λ (m : Moved). FarWith before now m (stepped s).1) e far_then

    module _ (here : Streams) (new : State) where
      far_by_put : (byte : ℕ) → Wrote s new now here byte → FarAt before here new
      far_by_put byte w = let far = far_where (Puts byte) new w.steps in record {
        steady = steady_then before now here far.steady w.steady;
        reached = λ input known. let r = far.reached input known in record {
          calls = r.calls ++ putting byte ∷ [];
          at = r.at;
          written = rw (put_one r.calls byte) (appends_more _ _ _ (bytes_put r.calls) (byte ∷ []) r.written w.written);
          left = w.left ∙ r.left ∙ ap Some (sym (rest_put r.calls byte input));
        };
      }

      far_by_get : Read s new now here → FarAt before here new
      far_by_get w = let far = far_get w.steps in record {
        steady = steady_then before now here far.steady w.steady;
        reached = λ input known. let r = far.reached input known in let read = w.reads (rest_behind r.calls input) r.left in record {
          calls = r.calls ++ getting ∷ [];
          at = subst (λ (u : State). Came input u (r.calls ++ getting ∷ []))
              (sym (w.given ∙ ap (λ (v : Value). read_given v (stepped s).1) read.1)) r.at;
          written = rw (put_got r.calls) (w.written ∙ r.written);
          left = read.0 ∙ ap Some (sym (rest_got r.calls input));
        };
      }

      pub goes_further : (a : Advance) → (a ≡ A.Goes) ⊎ (((byte : ℕ) × (a ≡ A.Wrote byte)) ⊎ (a ≡ A.Read)) → AdvanceGives s new now here a → FarAt before here new
      goes_further a (inl e) h = let step = rw e at h in subst (λ (u : Streams). FarAt before u new) (sym step.1) (far_where Goes new step.0)
      goes_further a (inr (inl e)) h = far_by_put e.0 (rw e.1 at h)
      goes_further a (inr (inr e)) h = far_by_get (rw e at h)
