-- Runs of the machine, and their events, in two parts.
use Rattle.std.proofs.Common.{◌≡◌, ℕ, zero, suc, ◌+◌, ◌⊎◌, inl, inr, List, [], ◌++◌, refl, sym, ap, ◌∙◌, arith}
use Rattle.std.proofs.lemmas.List.{append_assoc}
use Rattle.rv_isa.specs.declared.image.Segment.{Segment}
use Rattle.rv_isa.specs.Step.{State, Standing, Running, Stepped, Goes, Ends, step}
use Rattle.rv_isa.specs.Run.{Shown, shown, after, run, state_then, state_after}
use Rattle.rv_isa.specs.Events.{step_events, events_then, events}

none_before : (k : ℕ) → zero + k ≡ k
none_before k = omega arith

none_after : (m : ℕ) → m + zero ≡ m
none_after m = omega arith

one_before : (m k : ℕ) → suc m + k ≡ suc (m + k)
one_before m k = omega arith

module _ (segments : List Segment) where
  -- ---- the first step, and the rest

  pub run_suc : (m : ℕ) (s : State) → run segments (suc m) s ≡ after (run segments m) s (step segments s)
  unfolding run
  run_suc m s = refl

  pub state_after_suc : (m : ℕ) (s : State) → state_after segments (suc m) s ≡ state_then (state_after segments m) s (step segments s)
  unfolding state_after
  state_after_suc m s = refl

  pub events_suc : (m : ℕ) (s : State) → events segments (suc m) s ≡ events_then (events segments m) segments s (step segments s)
  unfolding events
  events_suc m s = refl

  -- ---- where the first step leads to a state

  pub run_goes : (m : ℕ) (s t : State) → step segments s ≡ Goes t → run segments (suc m) s ≡ run segments m t
  run_goes m s t e = run_suc m s ∙ ap (after (run segments m) s) e

  pub state_after_goes : (m : ℕ) (s t : State) → step segments s ≡ Goes t → state_after segments (suc m) s ≡ state_after segments m t
  state_after_goes m s t e = state_after_suc m s ∙ ap (state_then (state_after segments m) s) e

  pub events_goes : (m : ℕ) (s t : State) → step segments s ≡ Goes t → events segments (suc m) s ≡ step_events segments s t ++ events segments m t
  events_goes m s t e = events_suc m s ∙ ap (events_then (events segments m) segments s) e

  -- ---- where it ends: the state stays, at each later moment

  pub run_ends : (m : ℕ) (s : State) (standing : Standing) → step segments s ≡ Ends standing → run segments (suc m) s ≡ shown standing s
  run_ends m s standing e = run_suc m s ∙ ap (after (run segments m) s) e

  pub state_after_ends : (m : ℕ) (s : State) (standing : Standing) → step segments s ≡ Ends standing → state_after segments m s ≡ s
  unfolding state_after
  state_after_ends zero s standing e = refl
  state_after_ends (suc m) s standing e = ap (state_then (state_after segments m) s) e

  pub events_ends : (m : ℕ) (s : State) (standing : Standing) → step segments s ≡ Ends standing → events segments m s ≡ []
  unfolding events
  events_ends zero s standing e = refl
  events_ends (suc m) s standing e = ap (events_then (events segments m) segments s) e

  -- ---- the state after two parts

  states_by : (m k : ℕ) (s : State) (d : Stepped) → step segments s ≡ d
      → ((t : State) → state_after segments (m + k) t ≡ state_after segments k (state_after segments m t))
      → state_after segments (suc (m + k)) s ≡ state_after segments k (state_after segments (suc m) s)
  states_by m k s (Goes t) e h = state_after_goes (m + k) s t e ∙ h t ∙ ap (state_after segments k) (sym (state_after_goes m s t e))
  states_by m k s (Ends standing) e h = state_after_ends (suc (m + k)) s standing e ∙ sym (state_after_ends k s standing e)
      ∙ ap (state_after segments k) (sym (state_after_ends (suc m) s standing e))

  -- a state that ended stays, and a further step ends it again
  pub states_compose : (m k : ℕ) (s : State) → state_after segments (m + k) s ≡ state_after segments k (state_after segments m s)
  unfolding state_after
  states_compose zero k s = ap (λ n. state_after segments n s) (none_before k)
  states_compose (suc m) k s = ap (λ n. state_after segments n s) (one_before m k) ∙ states_by m k s (step segments s) refl (states_compose m k)

  -- ---- the events of two parts

  events_by : (m k : ℕ) (s : State) (d : Stepped) → step segments s ≡ d
      → ((t : State) → events segments (m + k) t ≡ events segments m t ++ events segments k (state_after segments m t))
      → events segments (suc (m + k)) s ≡ events segments (suc m) s ++ events segments k (state_after segments (suc m) s)
  events_by m k s (Goes t) e h =
      events_goes (m + k) s t e
      ∙ ap (λ x. step_events segments s t ++ x) (h t)
      ∙ sym (append_assoc (step_events segments s t) (events segments m t) (events segments k (state_after segments m t)))
      ∙ ap (λ x. x ++ events segments k (state_after segments m t)) (sym (events_goes m s t e))
      ∙ ap (λ u. events segments (suc m) s ++ events segments k u) (sym (state_after_goes m s t e))
  events_by m k s (Ends standing) e h =
      events_ends (suc (m + k)) s standing e
      ∙ sym (events_ends k s standing e)
      ∙ ap (λ u. events segments k u) (sym (state_after_ends (suc m) s standing e))
      ∙ ap (λ x. x ++ events segments k (state_after segments (suc m) s)) (sym (events_ends (suc m) s standing e))

  pub events_compose : (m k : ℕ) (s : State) → events segments (m + k) s ≡ events segments m s ++ events segments k (state_after segments m s)
  unfolding state_after events
  events_compose zero k s = ap (λ n. events segments n s) (none_before k)
  events_compose (suc m) k s = ap (λ n. events segments n s) (one_before m k) ∙ events_by m k s (step segments s) refl (events_compose m k)

  -- ---- what a run shows after two parts

  -- the output and the input left are those of the state
  shows_by : (m : ℕ) (s : State) (d : Stepped) → step segments s ≡ d
      → ((t : State) → run segments m t ≡ shown (run segments m t).standing (state_after segments m t))
      → run segments (suc m) s ≡ shown (run segments (suc m) s).standing (state_after segments (suc m) s)
  shows_by m s (Goes t) e h =
      run_goes m s t e
      ∙ h t
      ∙ ap (λ x. shown x (state_after segments m t)) (ap (λ (x : Shown). x.standing) (sym (run_goes m s t e)))
      ∙ ap (shown (run segments (suc m) s).standing) (sym (state_after_goes m s t e))
  shows_by m s (Ends standing) e h =
      run_ends m s standing e
      ∙ ap (λ x. shown x s) (ap (λ (x : Shown). x.standing) (sym (run_ends m s standing e)))
      ∙ ap (shown (run segments (suc m) s).standing) (sym (state_after_ends (suc m) s standing e))

  pub run_shows_state : (m : ℕ) (s : State) → run segments m s ≡ shown (run segments m s).standing (state_after segments m s)
  unfolding run state_after
  run_shows_state zero s = refl
  run_shows_state (suc m) s = shows_by m s (step segments s) refl (run_shows_state m)

  -- a state that ended shows its end after each further step
  runs_by : (m k : ℕ) (s : State) (d : Stepped) → step segments s ≡ d
      → ((t : State) → run segments (m + suc k) t ≡ run segments (suc k) (state_after segments m t))
      → run segments (suc (m + suc k)) s ≡ run segments (suc k) (state_after segments (suc m) s)
  runs_by m k s (Goes t) e h = run_goes (m + suc k) s t e ∙ h t ∙ ap (run segments (suc k)) (sym (state_after_goes m s t e))
  runs_by m k s (Ends standing) e h =
      run_ends (m + suc k) s standing e ∙ sym (run_ends k s standing e) ∙ ap (run segments (suc k)) (sym (state_after_ends (suc m) s standing e))

  pub runs_compose : (m k : ℕ) (s : State) → run segments (m + suc k) s ≡ run segments (suc k) (state_after segments m s)
  unfolding state_after
  runs_compose zero k s = ap (λ n. run segments n s) (none_before (suc k))
  runs_compose (suc m) k s = ap (λ n. run segments n s) (one_before m (suc k)) ∙ runs_by m k s (step segments s) refl (runs_compose m k)

  -- so it does after none where it still runs
  pub running_runs_compose : (m k : ℕ) (s : State) → (run segments m s).standing ≡ Running → run segments (m + k) s ≡ run segments k (state_after segments m s)
  unfolding run
  running_runs_compose m zero s r = ap (λ n. run segments n s) (none_after m) ∙ run_shows_state m s ∙ ap (λ x. shown x (state_after segments m s)) r
  running_runs_compose m (suc k) s r = runs_compose m k s

  -- ---- a run that ended

  -- after m steps the machine runs, or it stays so
  abbrev pub Settled : ℕ → State → Type 0
  Settled m s = ((run segments m s).standing ≡ Running) ⊎ ((k : ℕ) → run segments (m + k) s ≡ run segments m s)

  settled_by : (m : ℕ) (s : State) (d : Stepped) → step segments s ≡ d → ((t : State) → Settled m t) → Settled (suc m) s
  settled_by m s (Goes t) e h =
      elim (h t) [
        | inl r ↦ inl (ap (λ (x : Shown). x.standing) (run_goes m s t e) ∙ r)
        | inr f ↦ inr (λ k. ap (λ n. run segments n s) (one_before m k) ∙ run_goes (m + k) s t e ∙ f k ∙ sym (run_goes m s t e))
      ]
  settled_by m s (Ends standing) e h = inr (λ k. ap (λ n. run segments n s) (one_before m k) ∙ run_ends (m + k) s standing e ∙ sym (run_ends m s standing e))

  pub settled : (m : ℕ) (s : State) → Settled m s
  unfolding run
  settled zero s = inl refl
  settled (suc m) s = settled_by m s (step segments s) refl (settled m)

  -- a machine that runs was running at each earlier moment
  pub was_running : (m k : ℕ) (s : State) → (run segments (m + k) s).standing ≡ Running → (run segments m s).standing ≡ Running
  was_running m k s r = elim (settled m s) [
    | inl running ↦ running
    | inr stays ↦ ap (λ (x : Shown). x.standing) (sym (stays k)) ∙ r
  ]
