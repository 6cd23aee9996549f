-- What the steps of a run come to.
use Rattle.std.proofs.Common.{◌≡◌, ℕ, ◌+◌, ◌<◌, List, [], map, Some, refl, sym, ap, ◌∙◌, subst, arith}
use Rattle.std.proofs.Math.Path.{fun_ext}
use Rattle.lay_base.specs.Known.{Rose, Appends}
use Rattle.rv_isa.specs.declared.image.Image.{Image}
use Rattle.rv_isa.specs.declared.image.Segment.{Segment}
use Rattle.rv_isa.specs.Step.{State, Standing, Running, Ends, step, IsAtCall}
use Rattle.rv_isa.specs.Run.{Shown, start, run, state_after}
use Rattle.rv_machine.specs.declared.hart.Hart.{Hart}
use Rattle.rv_machine.specs.declared.machine.Machine.{Machine}
use Rattle.rv_machine.specs.declared.machine.MachineEnd.{MachineEnd}
use Rattle.rv_machine.specs.declared.machine.MachineEnd.TheVariants as E
use Rattle.rv_machine.specs.View.{bare}
use Rattle.rv_machine.specs.Harts.{places_of, state_of}
use Rattle.rv_machine.specs.Stepping.{with_streams}
use Rattle.rv_machine.specs.Advances.{Streams, AreSteady, GoesOn, SameButMemory, ReadsPart, WritesPart, Moves, Stops}
use Rattle.rv_machine.specs.Runs.{ProgramRun, own_run, run_of, IsFresh, Observation, Left, Stopped, Comes, RunGives, observed}
use Rattle.rv_machine.proofs.Bare.{run_bare, state_after_bare}
use Rattle.rv_machine.proofs.Reaching.{Reached, reached_more, reached_shows, reached_state, reached_end, reached_end_state, reached_before, reached_goes}

-- ---- a fresh machine

-- a run from places and a state
abbrev run_from : (places : List Segment) (first : State) → ProgramRun
run_from places first = record {
  shows = λ input m. run places m (with_streams input [] first);
  states = λ input m. state_after places m (with_streams input [] first);
}

from_bare : (image : Image) → run_from (map bare image.segments) (start image []) ≡ run_of image
from_bare image =
    let e : (λ (input : List ℕ) (m : ℕ). run (map bare image.segments) m (start image input))
    ≡ (λ (input : List ℕ) (m : ℕ). run image.segments m (start image input)) =
    fun_ext (λ input. fun_ext (λ m. run_bare image.segments m (start image input))) in
    let f : (λ (input : List ℕ) (m : ℕ). state_after (map bare image.segments) m (start image input))
    ≡ (λ (input : List ℕ) (m : ℕ). state_after image.segments m (start image input)) =
    fun_ext (λ input. fun_ext (λ m. state_after_bare image.segments m (start image input))) in
    ap (λ (x : List ℕ → ℕ → Shown). record { shows = x; states = λ input m. state_after (map bare image.segments) m (start image input) }) e
    ∙ ap (λ (x : List ℕ → ℕ → State). record { shows = λ input m. run image.segments m (start image input); states = x }) f

-- it runs the program of its image
pub fresh_run : (image : Image) (machine : Machine) → IsFresh image machine → own_run machine.hart ≡ run_of image
fresh_run image machine fresh =
    ap (λ (p : List Segment). run_from p (state_of machine.hart)) fresh.places
    ∙ ap (λ (s : State). run_from (map bare image.segments) s) fresh.state
    ∙ from_bare image

-- ---- ends

module _ (hart : Hart) (before now next : Streams) (input : List ℕ) (i : ℕ) (here : Hart)
    (r : Reached (places_of hart) (state_of hart) before now input i (state_of here)) (machine : Machine) where
  -- the program came to an end
  pub left_at_end : (standing : Standing) → Stops (step (places_of hart)) (state_of here) (state_of machine.hart) now next standing
      → machine.steps ≡ i + 1 → Left (own_run hart) before next input standing (observed machine)
  left_at_end standing stops steps =
      let e = stops.2 r.rest r.output in
      let state : state_after (places_of hart) machine.steps (with_streams input [] (state_of hart)) ≡ with_streams r.rest r.output (state_of here)
      = ap (λ (n : ℕ). state_after (places_of hart) n (with_streams input [] (state_of hart))) steps
      ∙ reached_end_state (places_of hart) (state_of hart) before now input i (state_of here) r standing e in
      record {
        output = r.output;
        rest = r.rest;
        came = record {
          shows = ap (λ (n : ℕ). run (places_of hart) n (with_streams input [] (state_of hart))) steps
              ∙ reached_end (places_of hart) (state_of hart) before now input i (state_of here) r standing e;
          before = λ k lt. reached_before (places_of hart) (state_of hart) before now input i (state_of here) r k (omega (arith, lt, steps));
          registers = ap (λ (s : State). s.registers) stops.1 ∙ ap (λ (s : State). s.registers) (sym state);
          pc = ap (λ (s : State). s.pc) stops.1 ∙ ap (λ (s : State). s.pc) (sym state);
        };
        written = subst (λ (s : Streams). Appends before.written s.written r.output) (sym stops.0) r.written;
        left = ap (λ (s : Streams). s.left) stops.0 ∙ r.left;
      }

  -- the program goes on
  pub left_running : machine.hart ≡ here → next ≡ now → machine.steps ≡ i → Left (own_run hart) before next input Running (observed machine)
  left_running same streams steps =
      let state : state_after (places_of hart) machine.steps (with_streams input [] (state_of hart)) ≡ with_streams r.rest r.output (state_of here)
      = ap (λ (n : ℕ). state_after (places_of hart) n (with_streams input [] (state_of hart))) steps
      ∙ reached_state (places_of hart) (state_of hart) before now input i (state_of here) r in
      record {
        output = r.output;
        rest = r.rest;
        came = record {
          shows = ap (λ (n : ℕ). run (places_of hart) n (with_streams input [] (state_of hart))) steps
              ∙ reached_shows (places_of hart) (state_of hart) before now input i (state_of here) r;
          before = λ k lt. reached_before (places_of hart) (state_of hart) before now input i (state_of here) r k (omega (arith, lt, steps));
          registers = ap (λ (h : Hart). h.registers) same ∙ ap (λ (s : State). s.registers) (sym state);
          pc = ap (λ (h : Hart). h.pc) same ∙ ap (λ (s : State). s.pc) (sym state);
        };
        written = subst (λ (s : Streams). Appends before.written s.written r.output) (sym streams) r.written;
        left = ap (λ (s : Streams). s.left) streams ∙ r.left;
      }

  -- a call of the environment failed
  pub stopped : (number : ℕ) (Part : State → (before now : Streams) → Type 0)
      → ((input output : List ℕ) (a b : Streams) → Part (state_of here) a b → Part (with_streams input output (state_of here)) a b)
      → IsAtCall number (state_of here) → GoesOn (step (places_of hart)) (state_of here) → SameButMemory (state_of here) (state_of machine.hart)
      → Part (state_of here) now next → machine.steps ≡ i → Stopped (own_run hart) before next input number Part (observed machine)
  stopped number Part with call goes same part steps =
      let state : state_after (places_of hart) machine.steps (with_streams input [] (state_of hart)) ≡ with_streams r.rest r.output (state_of here)
      = ap (λ (n : ℕ). state_after (places_of hart) n (with_streams input [] (state_of hart))) steps
      ∙ reached_state (places_of hart) (state_of hart) before now input i (state_of here) r in
      record {
        output = r.output;
        rest = r.rest;
        came = record {
          shows = ap (λ (n : ℕ). run (places_of hart) n (with_streams input [] (state_of hart))) steps
              ∙ reached_shows (places_of hart) (state_of hart) before now input i (state_of here) r;
          before = λ k lt. reached_before (places_of hart) (state_of hart) before now input i (state_of here) r k (omega (arith, lt, steps));
          registers = same.registers ∙ ap (λ (s : State). s.registers) (sym state);
          pc = same.pc ∙ ap (λ (s : State). s.pc) (sym state);
        };
        call = subst (IsAtCall number) (sym state) (record { instruction = call.instruction; in_a7 = call.in_a7 });
        goes = ap (λ (n : ℕ). (run (places_of hart) (n + 1) (with_streams input [] (state_of hart))).standing) steps
            ∙ reached_goes (places_of hart) (state_of hart) before now input i (state_of here) r (goes r.rest r.output);
        middle = now;
        written = r.written;
        left = r.left;
        part = subst (λ (s : State). Part s now next) (sym state) (with r.rest r.output now next part);
      }

-- both kinds of parts speak of registers and memory alone
pub reads_part_with : (s : State) (input output : List ℕ) (a b : Streams) → ReadsPart s a b → ReadsPart (with_streams input output s) a b
reads_part_with s input output a b p = p

pub writes_part_with : (s : State) (input output : List ℕ) (a b : Streams) → WritesPart s a b → WritesPart (with_streams input output s) a b
writes_part_with s input output a b p = p

-- ---- counts

-- counts that stood still, and then rose
pub steady_none : (s : Streams) → AreSteady s s
steady_none s = record { read_faults = refl; write_faults = refl }

pub steady_then : (a b c : Streams) → AreSteady a b → AreSteady b c → AreSteady a c
steady_then a b c p q = record { read_faults = q.read_faults ∙ p.read_faults; write_faults = q.write_faults ∙ p.write_faults }

pub steady_same : (a b c : Streams) → AreSteady a b → c ≡ b → AreSteady a c
steady_same a b c p e = subst (AreSteady a) (sym e) p

pub rose_later : (a b c : ℕ) → b ≡ a → Rose b c → Rose a c
rose_later a b c e r = subst (λ (x : ℕ). Rose x c) e r

-- ---- a run, by the step that it ended with

module _ (hart here advanced : Hart) (before now next : Streams) (limit i : ℕ) (machine : Machine) (placed : places_of here ≡ places_of hart)
    (steady : AreSteady before now) (reached : (input : List ℕ) → before.left ≡ Some input
    → Reached (places_of hart) (state_of hart) before now input i (state_of here)) (kept : machine.hart ≡ advanced) where
  pub comes_to : (standing : Standing) → Stops (step (places_of here)) (state_of here) (state_of advanced) now next standing → machine.steps ≡ i + 1
      → i < limit → Comes (own_run hart) limit before next (observed machine) standing
  comes_to standing stops steps lt = (
    omega (arith, steps),
    steady_same before now next steady stops.0,
    λ input known.
        left_at_end hart before now next input i here (reached input known) machine standing (
          stops.0,
          ap state_of kept ∙ stops.1,
          subst (λ (p : List Segment). (input output : List ℕ)
              → step p (with_streams input output (state_of here)) ≡ Ends standing) placed stops.2,
        ) steps,
  )

  same_but_memory : SameButMemory (state_of here) (state_of advanced) → SameButMemory (state_of here) (state_of machine.hart)
  same_but_memory s = record { registers = ap (λ (h : Hart). h.registers) kept ∙ s.registers; pc = ap (λ (h : Hart). h.pc) kept ∙ s.pc }

  pub fails_reading : Rose now.read_faults next.read_faults → SameButMemory (state_of here) (state_of advanced) → IsAtCall 63 (state_of here)
      → GoesOn (step (places_of here)) (state_of here) → ReadsPart (state_of here) now next → machine.steps ≡ i → i < limit
      → RunGives (own_run hart) limit before next (observed machine) E.ReadFault
  fails_reading rose same call goes part steps lt = (
    rose_later before.read_faults now.read_faults next.read_faults steady.read_faults rose,
    omega (arith, steps),
    λ input known. stopped hart before now next input i here (reached input known) machine 63 ReadsPart (reads_part_with (state_of here)) call
        (subst (λ (p : List Segment). GoesOn (step p) (state_of here)) placed goes) (same_but_memory same) part steps,
  )

  pub fails_writing : Rose now.write_faults next.write_faults → SameButMemory (state_of here) (state_of advanced) → IsAtCall 64 (state_of here)
      → GoesOn (step (places_of here)) (state_of here) → WritesPart (state_of here) now next → machine.steps ≡ i → i < limit
      → RunGives (own_run hart) limit before next (observed machine) E.WriteFault
  fails_writing rose same call goes part steps lt = (
    rose_later before.write_faults now.write_faults next.write_faults steady.write_faults rose,
    omega (arith, steps),
    λ input known. stopped hart before now next input i here (reached input known) machine 64 WritesPart (writes_part_with (state_of here)) call
        (subst (λ (p : List Segment). GoesOn (step p) (state_of here)) placed goes) (same_but_memory same) part steps,
  )

-- or that it ended with none
pub runs_still : (hart here : Hart) (before now : Streams) (limit i : ℕ) (machine : Machine) → AreSteady before now
    → ((input : List ℕ) → before.left ≡ Some input → Reached (places_of hart) (state_of hart) before now input i (state_of here))
    → machine.hart ≡ here → machine.steps ≡ limit → i ≡ limit
    → RunGives (own_run hart) limit before now (observed machine) (E.StepLimit limit)
runs_still hart here before now limit i machine steady reached kept steps all =
    (refl, steps, steady, λ input known. left_running hart before now now input i here (reached input known) machine kept refl (steps ∙ sym all))

-- one step more
pub reached_next : (hart here advanced : Hart) (before now next : Streams) (i : ℕ) → places_of here ≡ places_of hart
    → ((input : List ℕ) → before.left ≡ Some input → Reached (places_of hart) (state_of hart) before now input i (state_of here))
    → ((input : List ℕ) → now.left ≡ Some input → Moves (step (places_of here)) (state_of here) (state_of advanced) now next input) → (input : List ℕ)
    → before.left ≡ Some input → Reached (places_of hart) (state_of hart) before next input (i + 1) (state_of advanced)
reached_next hart here advanced before now next i placed reached moves input known =
    reached_more (places_of hart) (state_of hart) before now next input i (state_of here) (state_of advanced) (reached input known)
    (subst (λ (p : List Segment). (input : List ℕ) → now.left ≡ Some input → Moves (step p) (state_of here) (state_of advanced) now next input) placed moves)

-- the run of a fresh machine's own hart is its image's
pub fresh_gives : (image : Image) (machine : Machine) (limit : ℕ) (before now : Streams) (after : Observation) (end : MachineEnd)
    → IsFresh image machine → RunGives (own_run machine.hart) limit before now after end → RunGives (run_of image) limit before now after end
fresh_gives image machine limit before now after end fresh gives =
    subst (λ (r : ProgramRun). RunGives r limit before now after end) (fresh_run image machine fresh) gives
