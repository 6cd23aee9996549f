-- Parts of a run that do what parts without the trace do.
use Rattle.std.proofs.Common.{◌≡◌, refl, ◌∙◌, ℕ, List, Result, Ok, Err}
use Rattle.lay_base.specs.declared.faults.UndefinedKind.{UndefinedKind}
use Rattle.lay_base.specs.declared.place.Place.{Place}
use Rattle.block_memory.specs.Tested.{Tested}
use Rattle.block_memory.specs.RunWorlds.Doing.{Rest, Doing, ◌>>=◌, pure, is_undefined, tested}
use Rattle.block_memory.specs.RunWorlds.Events.{Event, calls_of}
use Rattle.block_memory.specs.RunWorlds.Worlds.{End}
use Rattle.c_meaning.specs.Frames.{Frame}
use Rattle.c_meaning.specs.Outcomes.{Outcome, comes, over, with_rest}
use Rattle.source_state.specs.Steps.Agreeing.{world, end_of, Agrees}
use Rattle.source_state.specs.Steps.Cores.{Core, Does, done, behind, and_then}
use Rattle.source_state.specs.declared.ends.Final.{Final}
use Rattle.source_state.specs.declared.ends.Final.TheVariants.{Undefined}

-- ---- a part with a result

abbrev pub outcome_in : {A : Type 0} → Result A Final → Core → (input : List ℕ) → (trace : List Event) → Outcome Frame A
outcome_in (Ok x) c input trace = comes x c.frame (world c input trace)
outcome_in (Err end) c input trace = over (end_of end (world c input trace))

-- it comes to that, and writes and reads nothing
pub record Gives {A : Type 0} (start : Core) (run : Rest Frame A → End) (input : List ℕ) (trace : List Event) (r : Result A Final) (c : Core) : Type 0 where
  pub later : List Event
  pub does : (rest : Rest Frame A) → run rest ≡ with_rest (outcome_in r c input later) rest
  pub agrees : Agrees start c later
  pub calls : calls_of later ≡ calls_of trace

-- from a core on, whatever the input and the trace are
pub record Part {A : Type 0} (c : Core) (m : Doing Frame A) (d : Does A) : Type 0 where
  pub gives : (start : Core) (input : List ℕ) (trace : List Event) → Agrees start c trace → Gives start (λ rest. m rest c.frame (world c input trace)) input trace d.0 d.1

pub pure_part : {A : Type 0} (x : A) (c : Core) → Part c (pure x) (done x c)
pure_part x c = record { gives = λ start input trace h. record { later = trace; does = λ rest. refl; agrees = h; calls = refl } }

pub undefined_part : {A : Type 0} (kind : UndefinedKind) (at : Place) (c : Core) → Part {A = A} c (is_undefined kind at) (Err (Undefined kind at), c)
undefined_part kind at c = record { gives = λ start input trace h. record { later = trace; does = λ rest. refl; agrees = h; calls = refl } }

-- what memory does, read
abbrev pub reading : {A : Type 0} → Place → Tested A → Core → Does A
reading at (Ok x) c = (Ok x, c)
reading at (Err kind) c = (Err (Undefined kind at), c)

pub tested_part : {A : Type 0} (at : Place) (r : Tested A) (c : Core) → Part c (tested at r) (reading at r c)
tested_part at (Ok x) c = pure_part x c
tested_part at (Err kind) c = undefined_part kind at c

-- one behind the other
joined : {A B : Type 0} {start : Core} {input : List ℕ} {trace : List Event} (c : Core) (m : Doing Frame A) (next : A → Doing Frame B) (next' : A → Core → Does B)
    (r : Result A Final) (c' : Core) → Gives start (λ rest. m rest c.frame (world c input trace)) input trace r c' → ((x : A) (c' : Core) → Part c' (next x) (next' x c'))
    → Gives start (λ rest. (m >>= next) rest c.frame (world c input trace)) input trace (behind r c' next').0 (behind r c' next').1
joined {start = start} {input = input} c m next next' (Ok x) c' first other =
    let second = (other x c').gives start input first.later first.agrees in
    record {
      later = second.later;
      does = λ rest. first.does (λ y. next y rest) ∙ second.does rest;
      agrees = second.agrees;
      calls = second.calls ∙ first.calls;
    }
joined c m next next' (Err end) c' first other = record {
  later = first.later;
  does = λ rest. first.does (λ y. next y rest);
  agrees = first.agrees;
  calls = first.calls;
}

pub bind_part : {A B : Type 0} {c : Core} {m : Doing Frame A} {next : A → Doing Frame B} {d : Does A} {next' : A → Core → Does B}
    → Part c m d → ((x : A) (c' : Core) → Part c' (next x) (next' x c')) → Part c (m >>= next) (and_then d next')
bind_part {c = c} {m = m} {next = next} {d = d} {next' = next'} one other =
    record { gives = λ start input trace h. joined c m next next' d.0 d.1 (one.gives start input trace h) other }
