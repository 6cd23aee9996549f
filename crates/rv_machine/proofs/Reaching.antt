-- How far a run of the machine has come, step by step.
use Rattle.std.proofs.Common.{◌≡◌, ℕ, suc, ◌+◌, ◌<◌, ◌≤◌, true, List, [], ◌++◌, Option, Some, None, refl, sym, ap, ◌∙◌, arith, append_assoc, append-nil}
use Rattle.std.specs.Prelude.{option_map, ◌⊎◌}
use Rattle.std.proofs.Common.{inl, inr}
use Rattle.std.proofs.lemmas.Bool.{cases_lt}
use Rattle.lay_base.specs.Known.{Appends}
use Rattle.rv_isa.specs.declared.image.Segment.{Segment}
use Rattle.rv_isa.specs.Step.{State, Standing, Running, Stepped, Goes, Ends, step}
use Rattle.rv_isa.specs.Run.{Shown, shown, run, state_after}
use Rattle.rv_isa.proofs.Runs.{run_goes, run_ends, state_after_goes, state_after_ends}
use Rattle.rv_machine.specs.Stepping.{with_streams}
use Rattle.rv_machine.specs.Advances.{Streams, Moves, goes}
use Rattle.rv_machine.specs.Runs.{shows}

-- after i steps the machine is in this state, for known input
pub record Reached (places : List Segment) (first : State) (before now : Streams) (input : List ℕ) (i : ℕ) (s : State) : Type 0 where
  pub output : List ℕ
  pub rest : List ℕ
  pub left : now.left ≡ Some rest
  pub written : Appends before.written now.written output
  pub states : (k : ℕ) → state_after places (i + k) (with_streams input [] first) ≡ state_after places k (with_streams rest output s)
  pub runs : (k : ℕ) → run places (i + k) (with_streams input [] first) ≡ run places k (with_streams rest output s)
  pub running : (k : ℕ) → k ≤ i → (run places k (with_streams input [] first)).standing ≡ Running

run_zero : (places : List Segment) (s : State) → run places 0 s ≡ shown Running s
unfolding run
run_zero places s = refl

state_zero : (places : List Segment) (s : State) → state_after places 0 s ≡ s
unfolding state_after
state_zero places s = refl

pub appends_nothing : (old : Option (List ℕ)) → Appends old old []
appends_nothing None = refl
appends_nothing (Some xs) = ap Some (sym (append-nil xs))

appends_more : (a b c : Option (List ℕ)) (x y : List ℕ) → Appends a b x → Appends b c y → Appends a c (x ++ y)
appends_more None b c x y e f = f ∙ ap (option_map (λ bytes. bytes ++ y)) e
appends_more (Some a) b c x y e f = f ∙ ap (option_map (λ bytes. bytes ++ y)) e ∙ ap Some (append_assoc a x y)

-- no step
pub reached_none : (places : List Segment) (first : State) (before : Streams) (input : List ℕ) → before.left ≡ Some input
    → Reached places first before before input 0 first
reached_none places first before input known = record {
  output = [];
  rest = input;
  left = known;
  written = appends_nothing before.written;
  states = λ k. ap (λ (n : ℕ). state_after places n (with_streams input [] first)) (let e : 0 + k ≡ k = omega arith in e);
  runs = λ k. ap (λ (n : ℕ). run places n (with_streams input [] first)) (let e : 0 + k ≡ k = omega arith in e);
  running = λ k le. ap (λ (n : ℕ). (run places n (with_streams input [] first)).standing) (let e : k ≡ 0 = omega arith in e)
      ∙ ap (λ (x : Shown). x.standing) (run_zero places (with_streams input [] first));
}

-- one step more
pub reached_more : (places : List Segment) (first : State) (before now next : Streams) (input : List ℕ) (i : ℕ) (s t : State)
    → Reached places first before now input i s → ((rest : List ℕ) → now.left ≡ Some rest → Moves (step places) s t now next rest)
    → Reached places first before next input (i + 1) t
reached_more places first before now next input i s t r moves =
    let m = moves r.rest r.left in
    let goes : step places (with_streams r.rest r.output s) ≡ Goes (with_streams m.0 (r.output ++ m.1) t) = m.4 r.output in
    let later : (k : ℕ) → run places (i + 1 + k) (with_streams input [] first) ≡ run places k (with_streams m.0 (r.output ++ m.1) t)
    = (λ (k : ℕ). ap (λ (n : ℕ). run places n (with_streams input [] first)) (let e : i + 1 + k ≡ i + suc k = omega arith in e) ∙ r.runs (suc k)
    ∙ run_goes places k (with_streams r.rest r.output s) (with_streams m.0 (r.output ++ m.1) t) goes) in
    record {
      output = r.output ++ m.1;
      rest = m.0;
      left = m.2;
      written = appends_more before.written now.written next.written r.output m.1 r.written m.3;
      states = λ k. ap (λ (n : ℕ). state_after places n (with_streams input [] first)) (let e : i + 1 + k ≡ i + suc k = omega arith in e)
          ∙ r.states (suc k) ∙ state_after_goes places k (with_streams r.rest r.output s) (with_streams m.0 (r.output ++ m.1) t) goes;
      runs = later;
      running = λ k le. by_place k le (cases_lt i k);
    }
  where
    by_place : (k : ℕ) → k ≤ i + 1 → (i < k) ⊎ (k ≤ i) → (run places k (with_streams input [] first)).standing ≡ Running
    by_place k le (inr earlier) = r.running k earlier
    by_place k le (inl last) =
        let m = moves r.rest r.left in
        let goes : step places (with_streams r.rest r.output s) ≡ Goes (with_streams m.0 (r.output ++ m.1) t) = m.4 r.output in
        ap (λ (n : ℕ). (run places n (with_streams input [] first)).standing) (let e : k ≡ i + 1 = omega arith in e)
        ∙ ap (λ (x : Shown). x.standing) (r.runs 1 ∙ run_goes places 0 (with_streams r.rest r.output s) (with_streams m.0 (r.output ++ m.1) t) goes
        ∙ run_zero places (with_streams m.0 (r.output ++ m.1) t))

module _ (places : List Segment) (first : State) (before now : Streams) (input : List ℕ) (i : ℕ) (s : State)
    (r : Reached places first before now input i s) where
  -- what is shown there
  pub reached_shows : run places i (with_streams input [] first) ≡ shows Running r.output r.rest
  reached_shows = ap (λ (n : ℕ). run places n (with_streams input [] first)) (let e : i ≡ i + 0 = omega arith in e) ∙ r.runs 0
      ∙ run_zero places (with_streams r.rest r.output s)

  pub reached_state : state_after places i (with_streams input [] first) ≡ with_streams r.rest r.output s
  reached_state = ap (λ (n : ℕ). state_after places n (with_streams input [] first)) (let e : i ≡ i + 0 = omega arith in e) ∙ r.states 0
      ∙ state_zero places (with_streams r.rest r.output s)

  -- the end comes with the next step
  pub reached_end : (standing : Standing) → step places (with_streams r.rest r.output s) ≡ Ends standing
      → run places (i + 1) (with_streams input [] first) ≡ shows standing r.output r.rest
  reached_end standing e = r.runs 1 ∙ run_ends places 0 (with_streams r.rest r.output s) standing e

  pub reached_end_state : (standing : Standing) → step places (with_streams r.rest r.output s) ≡ Ends standing
      → state_after places (i + 1) (with_streams input [] first) ≡ with_streams r.rest r.output s
  reached_end_state standing e = r.states 1 ∙ state_after_ends places 1 (with_streams r.rest r.output s) standing e

  pub reached_before : (k : ℕ) → k < i + 1 → (run places k (with_streams input [] first)).standing ≡ Running
  reached_before k lt = r.running k (omega arith)

  -- a step that goes on
  pub reached_goes : goes (step places (with_streams r.rest r.output s)) ≡ true → (run places (i + 1) (with_streams input [] first)).standing ≡ Running
  reached_goes e = ap (λ (x : Shown). x.standing) (r.runs 1) ∙ by_step (step places (with_streams r.rest r.output s)) refl e
    where
      by_step : (x : Stepped) → step places (with_streams r.rest r.output s) ≡ x → goes x ≡ true
          → (run places 1 (with_streams r.rest r.output s)).standing ≡ Running
      by_step (Goes t) e going = ap (λ (x : Shown). x.standing) (run_goes places 0 (with_streams r.rest r.output s) t e ∙ run_zero places t)
      by_step (Ends standing) e going = cc
