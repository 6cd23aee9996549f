-- The parts that a step of the engine and a step of the run are both made of.
use Rattle.std.proofs.Common.{◌≡◌, refl, ap, subst, ◌∙◌, ℕ, zero, suc, ◌+◌, Bool, true, false, if◌then◌else◌, List, [], ◌∷◌, Option, Some, None}
use Rattle.std.proofs.Common.{Result, Ok, Err, slice_get}
use Rattle.lay_base.specs.declared.faults.UndefinedKind.{UndefinedKind}
use Rattle.lay_base.specs.declared.faults.UndefinedKind.TheVariants as K
use Rattle.lay_base.specs.declared.place.Place.{Place}
use Rattle.c_types.specs.Types.{CType}
use Rattle.c_typed.specs.Programs.{program_data}
use Rattle.c_typed.specs.declared.program.Typed.{Typed}
use Rattle.memory_words.specs.declared.cell_words.pointer.Ptr.TheVariants as P
use Rattle.block_memory.specs.Tested.{Tested}
use Rattle.block_memory.specs.RunWorlds.Doing.{Doing, tested}
use Rattle.block_memory.specs.RunWorlds.Events.{Event, calls_of}
use Rattle.block_memory.specs.RunWorlds.Worlds.{World, End, undefined as ends_undefined}
use Rattle.block_memory.specs.declared.run_worlds.value.Value.{Value}
use Rattle.block_memory.specs.declared.run_worlds.value.Value.TheVariants.{Word as word, Pointer as pointer}
use Rattle.c_meaning.specs.Frames.{Frame}
use Rattle.c_meaning.specs.declared.frame.Slot.{Slot}
use Rattle.c_meaning.specs.declared.frame.Slot.TheVariants.{ByName as by_name, InBlock as in_block}
use Rattle.source_state.specs.Steps.Agreeing.{world, end_of, Agrees, calls_with, input_behind, next_in}
use Rattle.source_state.specs.Steps.Cores as Cores
use Rattle.source_state.specs.Steps.Cores.{Core, Does}
use Rattle.source_state.specs.declared.ends.Final.{Final}
use Rattle.source_state.specs.declared.ends.Moved.{Moved}
use Rattle.source_state.specs.declared.ends.Moved.TheVariants.{Gets, Over}
use Rattle.source_state.proofs.Steps.Locals.{agrees_framed}
use Rattle.source_state.proofs.Steps.Parts.{Part, Gives, reading as looking}
use Rattle.tac_ir.specs.Code.{Code, code_of}
use Rattle.tac_ir.specs.Running as Run
use Rattle.tac_ir.specs.Running.{Next, with_temp}
use Rattle.tac_ir.specs.declared.step.Operand.{Operand}
use Rattle.tac_ir.specs.declared.step.Operand.TheVariants as O
use Rattle.tac_ir.specs.declared.step.Tac.{Tac}
use Rattle.tac_engine.specs.States.{State, Moves, goes, undefined, with_core, putting, putting_any, held, read, pair, read_row, and_more, with_found, reading}
use Rattle.tac_engine.specs.States.{reading_both}
use Rattle.tac_engine.specs.States.{finding, found, in_core, doing, changing}
use Rattle.tac_engine.specs.Steps.{read_given}

-- ---- the program

abbrev pub types_of : State → List CType
types_of s = (program_data s.typed).types

abbrev pub code_in : State → Code
code_in s = code_of s.code

-- ---- what a run comes to behind a step of the engine

-- with what is read
abbrev pub state_behind : Moved → (input : List ℕ) → State → State
state_behind Gets input s = read_given (next_in input) s
state_behind moved input s = s

-- it goes on from where the engine is
abbrev pub going : State → Next → Frame → World → End
going s next f w = next s.callers s.routine s.more f w

abbrev pub follows : Next → Moved → State → (input : List ℕ) → (later : List Event) → End
follows next (Over end) s input later = end_of end (world s.core input later)
follows next moved s input later =
    going (state_behind moved input s) next (state_behind moved input s).core.frame (world s.core (input_behind moved input) later)

-- a run that stands between two steps, whatever the next ones do
abbrev pub Course : Type 0
Course = Next → Frame → World → End

pub record Shows (typed : Typed) (code : Tac) (start : Core) (run : Next → End) (input : List ℕ) (trace : List Event) (moved : Moved) (new : State) : Type 0 where
  pub later : List Event
  pub does : (next : Next) → run next ≡ follows next moved new input later
  pub agrees : Agrees start new.core later
  pub calls : calls_of later ≡ calls_with moved (calls_of trace)
  -- it runs the same program
  pub stays : (new.typed ≡ typed) × (new.code ≡ code)

-- the run and the step of the engine are the same from there
pub record Same (s : State) (run : Course) (step : Moves) : Type 0 where
  pub shows : (start : Core) (input : List ℕ) (trace : List Event) → Agrees start s.core trace
      → Shows s.typed s.code start (λ next. run next s.core.frame (world s.core input trace)) input trace step.0 step.1

pub same_goes : (s : State) → Same s (going s) (goes s)
same_goes s = record {
  shows = λ start input trace h. record {
    later = trace;
    does = λ next. refl;
    agrees = h;
    calls = refl;
    stays =
        (refl, refl);
  };
}

pub same_undefined : (kind : UndefinedKind) (at : Place) (s : State) → Same s (λ next f w. ends_undefined kind at w) (undefined kind at s)
same_undefined kind at s = record {
  shows = λ start input trace h. record
      { later = trace; does = λ next. refl; agrees = h; calls = refl; stays = (refl, refl) };
}

pub same_any : (t : ℕ) (v : Option Value) (s : State) → Same s (λ next. Run.put_any t v (λ u. going s next)) (putting_any t v s)
same_any t v s = record {
  shows = λ start input trace h. record {
    later = trace;
    does = λ next. refl;
    agrees = agrees_framed start s.core (with_temp t (by_name v) s.core.frame) trace h;
    calls = refl;
    stays = (refl, refl);
  };
}

pub same_put : (t : ℕ) (v : Value) (s : State) → Same s (λ next. Run.put t v (λ u. going s next)) (putting t v s)
same_put t v s = record { shows = (same_any t (Some v) s).shows }

pub same_if : {A : Type 0} {s : State} {one two : Moves} (test : Bool) (m n : Doing Frame A) (k : A → Course)
    → Same s (λ next. m (λ x. k x next)) one → Same s (λ next. n (λ x. k x next)) two
    → Same s (λ next. (if test then m else n) (λ x. k x next)) (if test then one else two)
same_if true m n k h o = record { shows = h.shows }
same_if false m n k h o = record { shows = o.shows }

-- ---- operands

held_same : (kind : UndefinedKind) (at : Place) (o : Option Slot) (s : State) (k : Value → Course) (k' : Value → Moves)
    → ((v : Value) → Same s (k v) (k' v)) → Same s (λ next. Run.held kind at o (λ v. k v next)) (with_found (held kind at o) s k')
held_same kind at (Some (by_name (Some v))) s k k' h = record { shows = (h v).shows }
held_same kind at (Some (in_block (Some b))) s k k' h = record { shows = (h (pointer (P.Block b 0))).shows }
held_same kind at (Some (by_name None)) s k k' h = record { shows = (same_undefined kind at s).shows }
held_same kind at (Some (in_block None)) s k k' h = record { shows = (same_undefined kind at s).shows }
held_same kind at None s k k' h = record { shows = (same_undefined kind at s).shows }

pub same_read : (a : Operand) (s : State) (k : Value → Course) (k' : Value → Moves)
    → ((v : Value) → Same s (k v) (k' v)) → Same s (λ next. Run.read a (λ v. k v next)) (reading a s k')
same_read (O.Word n) s k k' h = record { shows = (h (word n)).shows }
same_read O.Null s k k' h = record { shows = (h (pointer P.Null)).shows }
same_read (O.Function f) s k k' h = record { shows = (h (pointer (P.Function f))).shows }
same_read (O.Object n) s k k' h = record { shows = (h (pointer (P.Block n 0))).shows }
same_read (O.Temp kind t at) s k k' h = record { shows = (held_same kind at (slice_get s.core.frame t) s k k' h).shows }

one_by_one : (v w : Result Value Final) (s : State) (k' : Value → Value → Moves)
    → with_found v s (λ x. with_found w s (λ y. k' x y)) ≡ with_found (pair v w) s (λ both. k' both.0 both.1)
one_by_one (Ok v) (Ok w) s k' = refl
one_by_one (Ok v) (Err end) s k' = refl
one_by_one (Err end) w s k' = refl

pub same_both : (a b : Operand) (s : State) (k : Value → Value → Course) (k' : Value → Value → Moves)
    → ((v w : Value) → Same s (k v w) (k' v w)) → Same s (λ next. Run.read a (λ v. Run.read b (λ w. k v w next))) (reading_both a b s k')
same_both a b s k k' h = subst (λ (step : Moves). Same s (λ next. Run.read a (λ v. Run.read b (λ w. k v w next))) step)
    (one_by_one (read a s.core) (read b s.core) s k')
    (same_read a s (λ v next. Run.read b (λ w. k v w next)) (λ v. reading b s (λ w. k' v w)) (λ v. same_read b s (k v) (k' v) (h v)))

-- arguments
with_more : (v : Value) (r : Result (List Value) Final) (s : State) (k' : List Value → Moves)
    → with_found r s (λ vs. k' (v ∷ vs)) ≡ with_found (and_more (Ok v) r) s k'
with_more v (Ok vs) s k' = refl
with_more v (Err end) s k' = refl

module _ (at : Place) (s : State) where
  row_from : (o : Option Slot) (r : Result (List Value) Final) (rest : Value → Course) (k' : List Value → Moves)
      → ((v : Value) → Same s (rest v) (with_found (and_more (Ok v) r) s k'))
      → Same s (λ next. Run.held K.Call at o (λ v. rest v next)) (with_found (and_more (held K.Call at o) r) s k')
  row_from (Some (by_name (Some v))) r rest k' h = record { shows = (h v).shows }
  row_from (Some (in_block (Some b))) r rest k' h = record { shows = (h (pointer (P.Block b 0))).shows }
  row_from (Some (by_name None)) r rest k' h = record { shows = (same_undefined K.Call at s).shows }
  row_from (Some (in_block None)) r rest k' h = record { shows = (same_undefined K.Call at s).shows }
  row_from None r rest k' h = record { shows = (same_undefined K.Call at s).shows }

  pub same_row : (t n : ℕ) (k : List Value → Course) (k' : List Value → Moves)
      → ((vs : List Value) → Same s (k vs) (k' vs)) → Same s (λ next. Run.read_row at t n (λ vs. k vs next)) (with_found (read_row at t n s.core) s k')
  same_row t zero k k' h = record { shows = (h []).shows }
  same_row t (suc n) k k' h = record {
    shows = (row_from (slice_get s.core.frame t) (read_row at (t + 1) n s.core)
        (λ v next. Run.read_row at (t + 1) n (λ vs. k (v ∷ vs) next)) k'
        (λ v. subst (λ (step : Moves). Same s (λ next. Run.read_row at (t + 1) n (λ vs. k (v ∷ vs) next)) step) (with_more v (read_row at (t + 1) n s.core) s k')
        (same_row (t + 1) n (λ vs. k (v ∷ vs)) (λ vs. k' (v ∷ vs)) (λ vs. h (v ∷ vs))))).shows;
  }

-- ---- behind a part of the run

onwards : {A : Type 0} {start : Core} {input : List ℕ} {trace : List Event} {x : A} (s : State) (c : Core) (m : Doing Frame A) (k : A → Course) (step : Moves)
    (first : Gives start (λ rest. m rest s.core.frame (world s.core input trace)) input trace (Ok x) c)
    → Shows s.typed s.code start (λ next. k x next c.frame (world c input first.later)) input first.later step.0 step.1
    → Shows s.typed s.code start (λ next. m (λ y. k y next) s.core.frame (world s.core input trace)) input trace step.0 step.1
onwards s c m k step first second = record {
  later = second.later;
  does = λ next. first.does (λ y. k y next) ∙ second.does next;
  agrees = second.agrees;
  calls = second.calls ∙ ap (calls_with step.0) first.calls;
  stays = second.stays;
}

stopped : {A : Type 0} {start : Core} {input : List ℕ} {trace : List Event} {end : Final} (s : State) (c : Core) (m : Doing Frame A) (k : A → Course)
    → Gives start (λ rest. m rest s.core.frame (world s.core input trace)) input trace (Err end) c
    → Shows s.typed s.code start (λ next. m (λ y. k y next) s.core.frame (world s.core input trace)) input trace (Over end) (with_core c s)
stopped s c m k first = record {
  later = first.later;
  does = λ next. first.does (λ y. k y next);
  agrees = first.agrees;
  calls = first.calls;
  stays = (refl, refl);
}

in_core_shows : {A : Type 0} {start : Core} {input : List ℕ} {trace : List Event} (s : State) (m : Doing Frame A) (k : A → Course) (k' : A → State → Moves)
    (r : Result A Final) (c : Core) → Gives start (λ rest. m rest s.core.frame (world s.core input trace)) input trace r c
    → ((x : A) (c : Core) → Same (with_core c s) (k x) (k' x (with_core c s)))
    → Shows s.typed s.code start (λ next. m (λ y. k y next) s.core.frame (world s.core input trace)) input trace (in_core r c s k').0 (in_core r c s k').1
in_core_shows {start = start} {input = input} s m k k' (Ok x) c first other =
    onwards s c m k (k' x (with_core c s)) first ((other x c).shows start input first.later first.agrees)
in_core_shows s m k k' (Err end) c first other = stopped s c m k first

pub same_doing : {A : Type 0} {s : State} {m : Doing Frame A} {d : Does A} (k : A → Course) (k' : A → State → Moves)
    → Part s.core m d → ((x : A) (c : Core) → Same (with_core c s) (k x) (k' x (with_core c s))) → Same s (λ next. m (λ x. k x next)) (doing d s k')
same_doing {s = s} {m = m} {d = d} k k' one other =
    record { shows = λ start input trace h. in_core_shows s m k k' d.0 d.1 (one.gives start input trace h) other }

finding_shows : {A : Type 0} {start : Core} {input : List ℕ} {trace : List Event} (s : State) (at : Place) (m : Doing Frame A) (k : A → Course) (k' : A → Moves)
    (r : Tested A) → Gives start (λ rest. m rest s.core.frame (world s.core input trace)) input trace (looking at r s.core).0 (looking at r s.core).1
    → ((x : A) → Same s (k x) (k' x))
    → Shows s.typed s.code start (λ next. m (λ y. k y next) s.core.frame (world s.core input trace)) input trace (finding at r s k').0 (finding at r s k').1
finding_shows {start = start} {input = input} s at m k k' (Ok x) first other =
    onwards s s.core m k (k' x) first ((other x).shows start input first.later first.agrees)
finding_shows s at m k k' (Err kind) first other = stopped s s.core m k first

-- found, where nothing but the trace changes
pub same_looking : {A : Type 0} {s : State} {m : Doing Frame A} (at : Place) (r : Tested A) (k : A → Course) (k' : A → Moves)
    → Part s.core m (looking at r s.core) → ((x : A) → Same s (k x) (k' x)) → Same s (λ next. m (λ x. k x next)) (finding at r s k')
same_looking {s = s} {m = m} at r k k' one other =
    record { shows = λ start input trace h. finding_shows s at m k k' r (one.gives start input trace h) other }

pub same_finding : {A : Type 0} (at : Place) (r : Tested A) (s : State) (k : A → Course) (k' : A → Moves)
    → ((x : A) → Same s (k x) (k' x)) → Same s (λ next. tested at r (λ x. k x next)) (finding at r s k')
same_finding at (Ok x) s k k' other = record { shows = (other x).shows }
same_finding at (Err kind) s k k' other = record { shows = (same_undefined kind at s).shows }

pub same_found : (t : ℕ) (at : Place) (r : Tested Value) (s : State) → Same s (λ next. tested at r (λ v. Run.put t v (λ u. going s next))) (found t at r s)
same_found t at r s = same_finding at r s (λ v next. Run.put t v (λ u. going s next)) (λ v. putting t v s) (λ v. same_put t v s)

changing_shows : {start : Core} {input : List ℕ} {trace : List Event} (s : State) (at : Place) (m : Doing Frame (Unit {0})) (k : Course) (k' : State → Moves)
    (r : Tested Core) → Gives start (λ rest. m rest s.core.frame (world s.core input trace)) input trace (Cores.tested at r s.core).0
    (Cores.tested at r s.core).1
    → ((c : Core) → Same (with_core c s) k (k' (with_core c s)))
    → Shows s.typed s.code start (λ next. m (λ u. k next) s.core.frame (world s.core input trace)) input trace (changing at r s k').0 (changing at r s k').1
changing_shows {start = start} {input = input} s at m k k' (Ok c) first other =
    onwards s c m (λ u. k) (k' (with_core c s)) first ((other c).shows start input first.later first.agrees)
changing_shows s at m k k' (Err kind) first other = stopped s s.core m (λ u. k) first

pub same_changing : {s : State} {m : Doing Frame (Unit {0})} (at : Place) (r : Tested Core) (k : Course) (k' : State → Moves)
    → Part s.core m (Cores.tested at r s.core) → ((c : Core) → Same (with_core c s) k (k' (with_core c s))) → Same s (λ next. m (λ u. k next))
    (changing at r s k')
same_changing {s = s} {m = m} at r k k' one other =
    record { shows = λ start input trace h. changing_shows s at m k k' r (one.gives start input trace h) other }
