-- Wherever the engine is, the run goes on from there: so the calls so far begin those of the whole run.
use Rattle.std.proofs.Common.{◌≡◌, refl, ap, sym, ◌∙◌, ℕ, zero, suc, List, [], ◌∷◌, ◌++◌}
use Rattle.std.proofs.lemmas.List.{append-nil, append_assoc}
use Rattle.block_memory.specs.RunWorlds.Events.{Event, Call, putting, getting, calls_of}
use Rattle.block_memory.specs.RunWorlds.Worlds.{World, End, world_of}
use Rattle.source_state.specs.Steps.Agreeing.{end_of, world, Agrees, next_in}
use Rattle.source_state.specs.Steps.Cores.{Core}
use Rattle.source_state.specs.declared.ends.Final.{Final}
use Rattle.source_state.specs.declared.ends.Final.TheVariants.{Ends, TurnLimit, Undefined, Room}
use Rattle.source_state.specs.declared.ends.Moved.{Moved}
use Rattle.source_state.specs.declared.ends.Moved.TheVariants.{Goes, Puts, Gets, Over}
use Rattle.tac_engine.specs.States.{State}
use Rattle.tac_engine.specs.Steps.{stepped}
use Rattle.tac_engine.proofs.Remains.{Keeps, Within, given_agrees, left_of, step_keeps}
use Rattle.tac_engine.proofs.Same.{state_behind}

pub at_end : (end : Final) (w : World) → world_of (end_of end w) ≡ w
at_end (Ends status) w = refl
at_end TurnLimit w = refl
at_end (Undefined kind at) w = refl
at_end (Room kind counted) w = refl

module _ (e : End) where
  abbrev pub calls_in : List Call
  calls_in = calls_of (world_of e).trace

  pub record GoesOn (calls : List Call) : Type 0 where
    pub more : List Call
    pub begins : calls_in ≡ calls ++ more

  module _ (start : Core) where
    abbrev Onward : (steps : ℕ) → Type 0
    Onward n = (s : State) (input : List ℕ) (trace : List Event) → Agrees start s.core trace → Within e n (left_of s input trace) → GoesOn (calls_of trace)

    -- some calls behind
    behind : (calls some : List Call) (later : List Event) → calls_of later ≡ calls ++ some → GoesOn (calls_of later) → GoesOn calls
    behind calls some later is h = record {
      more = some ++ h.more;
      begins = h.begins ∙ ap (λ all. all ++ h.more) is ∙ append_assoc calls some h.more;
    }

    one_step : (n : ℕ) (moved : Moved) (new : State) (input : List ℕ) (trace : List Event)
        → Keeps e start n input trace moved new → Onward n → GoesOn (calls_of trace)
    one_step n (Over end) new input trace keeps next = record {
      more = [];
      begins = ap (λ (e : End). calls_of (world_of e).trace) keeps.leads ∙ ap (λ (w : World). calls_of w.trace) (at_end end (world new.core input keeps.later))
          ∙ keeps.calls ∙ sym (append-nil (calls_of trace));
    }
    one_step n Goes new input trace keeps next = behind (calls_of trace) [] keeps.later (keeps.calls ∙ sym (append-nil (calls_of trace)))
        (next new input keeps.later keeps.agrees keeps.leads)
    one_step n (Puts byte) new input trace keeps next = behind (calls_of trace) (putting byte ∷ []) keeps.later keeps.calls
        (next new input keeps.later keeps.agrees keeps.leads)
    one_step n Gets new input trace keeps next = behind (calls_of trace) (getting ∷ []) keeps.later keeps.calls
        (next (state_behind Gets input new) _ keeps.later (given_agrees start (next_in input) new keeps.later keeps.agrees) keeps.leads)

    -- the theorem
    pub goes_on : (n : ℕ) → Onward n
    goes_on zero s input trace h within = record {
      more = [];
      begins = ap (λ (e : End). calls_of (world_of e).trace) (sym (within 0)) ∙ sym (append-nil (calls_of trace));
    }
    goes_on (suc n) s input trace h within = one_step n (stepped s).0 (stepped s).1 input trace (step_keeps e s start n input trace h within) (goes_on n)
