-- That some steps lead to a goal is a claim that a step carries backwards.
use Rattle.std.proofs.Common.{◌≡◌, ℕ, suc, List, [], ◌∷◌, ◌++◌, refl, ap, sym, ◌∙◌, subst}
use Rattle.rv_isa.specs.declared.image.Segment.{Segment}
use Rattle.rv_isa.specs.Step.{State, Goes, step}
use Rattle.rv_isa.specs.Events.{MachineEvent, step_events, events, events_then}
use Rattle.rv_isa.specs.Run.{state_after, state_then}
use Rattle.rv_runtime.specs.Steps.States.{later, IsBackward, Reaches}

pub later_both : (a b before : List MachineEvent) → later (a ++ b) before ≡ later b (later a before)
later_both [] b before = refl
later_both (e ∷ a) b before = later_both a b (e ∷ before)

later_later : (a b c : List MachineEvent) → later (later a b) c ≡ later b (a ++ c)
later_later [] b c = refl
later_later (e ∷ a) b c = later_later a (e ∷ b) c

append_none : (a : List MachineEvent) → a ++ [] ≡ a
append_none [] = refl
append_none (e ∷ a) = ap (λ (x : List MachineEvent). e ∷ x) (append_none a)

-- events in their order are those with the last first, turned round
pub in_order : (a b : List MachineEvent) → later a [] ≡ b → a ≡ later b []
in_order a b h = sym (append_none a) ∙ sym (later_later a [] []) ∙ ap (λ (x : List MachineEvent). later x []) h

module _ (segments : List Segment) (Goal : State → List MachineEvent → Type 0) where
  state_behind : (k : ℕ) (s t : State) → step segments s ≡ Goes t → state_after segments (suc k) s ≡ state_after segments k t
  unfolding state_after
  state_behind k s t e = ap (state_then (state_after segments k) s) e

  events_behind : (k : ℕ) (s t : State) → step segments s ≡ Goes t → events segments (suc k) s ≡ step_events segments s t ++ events segments k t
  unfolding events
  events_behind k s t e = ap (events_then (events segments k) segments s) e

  -- here already
  pub reached : (s : State) (before : List MachineEvent) → Goal s before → Reaches segments Goal s before
  unfolding state_after events
  reached s before h = (0, h)

  -- after one step more
  earlier : (s t : State) (before made : List MachineEvent) → step segments s ≡ Goes t → step_events segments s t ≡ made
      → Reaches segments Goal t (later made before) → Reaches segments Goal s before
  earlier s t before made e tells h =
      let k = h.0 in
      let told : later (events segments (suc k) s) before ≡ later (events segments k t) (later made before) =
      ap (λ (x : List MachineEvent). later x before) (events_behind k s t e ∙ ap (λ (x : List MachineEvent). x ++ events segments k t) tells)
      ∙ later_both made (events segments k t) before in (
        suc k,
        subst (λ (u : State). Goal u (later (events segments (suc k) s) before)) (sym (state_behind k s t e))
            (subst (Goal (state_after segments k t)) (sym told) h.1),
      )

  pub reaching : IsBackward segments (λ n s before. Reaches segments Goal s before)
  reaching = record { back = λ n s t before made e tells h. earlier s t before made e tells h; fewer = λ n s before h. h }
