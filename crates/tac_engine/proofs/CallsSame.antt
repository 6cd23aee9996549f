-- Calls and returns are the same.
use Rattle.std.proofs.Common.{◌≡◌, refl, ap, sym, subst, ◌∙◌, ℕ, ◌+◌, Bool, true, false, if◌then◌else◌, List, [], ◌∷◌, map, reverse}
use Rattle.std.proofs.Common.{Option, Some, None, slice_get}
use Rattle.std.specs.Option.{option_map}
use Rattle.std.proofs.lemmas.List.{reverse-reverse}
use Rattle.std.proofs.lemmas.Option.{slice_get-map}
use Rattle.lay_base.specs.declared.faults.UndefinedKind.TheVariants as K
use Rattle.lay_base.specs.declared.place.Place.{Place}
use Rattle.c_types.specs.Sameness.{same_type}
use Rattle.c_types.specs.Types.{CType, pointer as pointer_to}
use Rattle.c_typed.specs.Programs.{program_data}
use Rattle.memory_words.specs.declared.cell_words.pointer.Ptr.{Ptr}
use Rattle.memory_words.specs.declared.cell_words.pointer.Ptr.TheVariants as P
use Rattle.block_memory.specs.declared.kinds.BlockKind.TheVariants as Kind
use Rattle.block_memory.specs.RunWorlds.Doing.{◌>>=◌, ◌>>◌, enter, less_deep}
use Rattle.block_memory.specs.RunWorlds.Events.{left}
use Rattle.block_memory.specs.RunWorlds.Worlds.{World, undefined as ends_undefined}
use Rattle.block_memory.specs.declared.run_worlds.value.Value.{Value}
use Rattle.block_memory.specs.declared.run_worlds.value.Value.TheVariants.{Word as word, Pointer as pointer}
use Rattle.c_meaning.specs.Frames.{Frame, slot_now}
use Rattle.c_meaning.specs.Program.{type_at}
use Rattle.c_meaning.specs.Run.{end_by}
use Rattle.c_meaning.specs.declared.frame.Slot.{Slot}
use Rattle.c_meaning.specs.declared.frame.Slot.TheVariants.{ByName as by_name, InBlock as in_block}
use Rattle.source_state.specs.Steps.Agreeing.{world, end_of}
use Rattle.source_state.specs.Steps.Calls.{received}
use Rattle.source_state.specs.Steps.Cores.{Core, done}
use Rattle.source_state.specs.Steps.Locals.{slot, end_slot, finish, begin_as}
use Rattle.source_state.proofs.Steps.Calls.{agrees_left, enter_part}
use Rattle.source_state.proofs.Steps.Locals.{agrees_framed, with_slot_part, end_all_part}
use Rattle.source_state.proofs.Steps.Memories.{end_part, make_part, store_part}
use Rattle.source_state.proofs.Steps.Parts.{Part, pure_part, bind_part}
use Rattle.tac_ir.specs.Code.{RoutineData, data_of}
use Rattle.tac_ir.specs.Running as Run
use Rattle.tac_ir.specs.Running.{Caller, empty_slot, type_in, with_temp}
use Rattle.tac_ir.specs.declared.step.Parameter.{Parameter}
use Rattle.tac_ir.specs.declared.step.Routine.{Routine}
use Rattle.tac_ir.specs.declared.step.Step.{Step}
use Rattle.tac_engine.specs.States.{State, Moves, doing, goes, with_core}
use Rattle.tac_engine.specs.Steps.{called, calls, calls_through, calls_typed, final_by, framed, gave_back, receive, receive_one, returned, started, waiting}
use Rattle.tac_engine.proofs.Same.{Course, types_of, code_in, Same, Shows, going, same_doing, same_goes, same_undefined}

-- ---- blocks of locals

end_slot_part : (x : ℕ) (o : Option Slot) (c : Core) → Part c (Run.end_slot x o) (done tt (end_slot x o c))
end_slot_part x (Some (in_block (Some b))) c = bind_part (end_part b c) (λ u d. with_slot_part x (in_block None) d)
end_slot_part x (Some (in_block None)) c = pure_part tt c
end_slot_part x (Some (by_name v)) c = pure_part tt c
end_slot_part x None c = pure_part tt c

pub finish_part : (x : ℕ) (c : Core) → Part c (slot_now x >>= Run.end_slot x) (done tt (finish x c))
finish_part x c = record { gives = (end_slot_part x (slot c x) c).gives }

pub begin_part : (x : ℕ) (block : Bool) (size : ℕ) (c : Core) → Part c (Run.begin x block size) (begin_as x block size c)
begin_part x true size c = bind_part (bind_part (finish_part x c) (λ u d. make_part size Kind.Local d)) (λ b d. with_slot_part x (in_block (Some b)) d)
begin_part x false size c = with_slot_part x (by_name None) c

-- ---- arguments

received_part : (at : Place) (x : ℕ) (r : Parameter) (v : Value) (o : Option Slot) (c : Core) → Part c (Run.received at x r v o) (received at x r.access v o c)
received_part at x r v (Some (in_block (Some b))) c = store_part at (P.Block b 0) r.access v c
received_part at x r v (Some (in_block None)) c = with_slot_part x (by_name (Some v)) c
received_part at x r v (Some (by_name w)) c = with_slot_part x (by_name (Some v)) c
received_part at x r v None c = with_slot_part x (by_name (Some v)) c

into_slot_part : (at : Place) (x : ℕ) (r : Parameter) (v : Value) (c : Core) → Part c (slot_now x >>= Run.received at x r v)
    (received at x r.access v (slot c x) c)
into_slot_part at x r v c = record { gives = (received_part at x r v (slot c x) c).gives }

receive_one_part : (at : Place) (x : ℕ) (r : Parameter) (v : Value) (c : Core)
    → Part c (Run.begin x r.block r.size >> (slot_now x >>= Run.received at x r v)) (receive_one at x r v c)
receive_one_part at x r v c = bind_part (begin_part x r.block r.size c) (λ u d. into_slot_part at x r v d)

receive_part : (at : Place) (x : ℕ) (parameters : List Parameter) (values : List Value) (c : Core)
    → Part c (Run.receive at x parameters values) (receive at x parameters values c)
receive_part at x [] values c = pure_part tt c
receive_part at x (r ∷ more) [] c = pure_part tt c
receive_part at x (r ∷ more) (v ∷ rest) c = bind_part (receive_one_part at x r v c) (λ u d. receive_part at (x + 1) more rest d)

-- ---- a function begins

nothing_is : (i : Step) (more : List Step) → [] ≡ i ∷ more → ⊥
nothing_is i more e = cc

module _ (at : Place) (callers : List Caller) (g : Routine) (all : List Value) (s : State) where
  abbrev begun : Moves
  begun = doing (receive at 0 g.parameters all (framed callers g s).core) (framed callers g s) (λ u s. goes s)

  begun_same : Same (framed callers g s) (λ next. Run.receive at 0 g.parameters all (λ u. going (framed callers g s) next)) begun
  begun_same = same_doing {s = framed callers g s} (λ u. going (framed callers g s)) (λ u s. goes s)
      (receive_part at 0 g.parameters all (framed callers g s).core)
      (λ u c. record { shows = (same_goes (with_core c (framed callers g s))).shows })

  -- in its own frame
  inside_same : (whole : List Step) → reverse g.code ≡ whole
      → Same s (λ next f w. Run.receive at 0 g.parameters all (λ u f. next callers (data_of g) whole f) (map empty_slot g.locals) w) begun
  inside_same whole e = record {
    shows = λ start input trace h.
        subst (λ (m : List Step). Shows s.typed s.code start
        (λ next. Run.receive at 0 g.parameters all (λ u f. next callers (data_of g) m f) (map empty_slot g.locals) (world s.core input trace)) input trace
        begun.0 begun.1) e
        (begun_same.shows start input trace (agrees_framed start s.core (map empty_slot g.locals) trace h));
  }

  started_same : (code whole : List Step) → g.code ≡ code → reverse g.code ≡ whole
      → Same s (λ next f w. Run.body (types_of s) (code_in s) next at callers (data_of g) whole all w) (started at callers g code all s)
  started_same [] [] e f = record { shows = (same_undefined K.Call at s).shows }
  started_same [] (i ∷ more) e f = absurd (nothing_is i more (ap (λ (l : List Step). reverse l) (sym e) ∙ f))
  started_same (i ∷ more) [] e f = absurd (nothing_is i more (sym (ap (λ (l : List Step). reverse l) f) ∙ reverse-reverse g.code ∙ e))
  started_same (i ∷ more) (j ∷ rest) e f = record { shows = (inside_same (j ∷ rest) f).shows }

-- ---- calls

called_same : (at : Place) (f : ℕ) (callers : List Caller) (o : Option Routine) (all : List Value) (s : State)
    → Same s (λ next own w. Run.calls (types_of s) (code_in s) next at f callers (option_map data_of o) all own w) (called at f callers o all s)
called_same at f callers None all s = record { shows = (same_undefined K.Call at s).shows }
called_same at f callers (Some g) all s =
    same_doing {s = s} {m = enter f} (λ u next own w. Run.body (types_of s) (code_in s) next at callers (data_of g) (reverse g.code) all w)
    (λ u s. started at callers g g.code all s) (enter_part f s.core)
    (λ u c. record { shows = (started_same at callers g all (with_core c s) g.code (reverse g.code) refl refl).shows })

pub looked_same : (at : Place) (f : ℕ) (callers : List Caller) (all : List Value) (s : State)
    → Same s (λ next own w. Run.calls (types_of s) (code_in s) next at f callers (slice_get (code_in s).routines f) all own w)
    (called at f callers (slice_get s.code.routines f) all s)
looked_same at f callers all s = subst
    (λ (o : Option RoutineData). Same s (λ next own w. Run.calls (types_of s) (code_in s) next at f callers o all own w)
    (called at f callers (slice_get s.code.routines f) all s))
    (sym (slice_get-map data_of s.code.routines f)) (called_same at f callers (slice_get s.code.routines f) all s)

module _ (t : ℕ) (at : Place) (all : List Value) (s : State) where
  -- the call that waits, with the frame that it has
  abbrev one : Frame → List Caller
  one own = record { to = t; routine = s.routine; more = s.more; frame = own } ∷ s.callers

  pub calls_same : (f : ℕ)
      → Same s (λ next own w. Run.calls (types_of s) (code_in s) next at f (one own) (slice_get (code_in s).routines f) all own w)
      (calls (Some t) at f all s)
  calls_same f = record { shows = (looked_same at f (waiting (Some t) s) all s).shows }

  if_same : {run other : Course} {m n : Moves} (test : Bool) → Same s run m → Same s other n
      → Same s (λ next own w. if test then run next own w else other next own w) (if test then m else n)
  if_same true h o = record { shows = h.shows }
  if_same false h o = record { shows = o.shows }

  typed_same : (type : CType) (f : ℕ) (o : Option Routine) → o ≡ slice_get s.code.routines f
      → Same s (λ next own w. Run.calls_typed (types_of s) (code_in s) next at type f (one own) (option_map data_of o) all own w)
      (calls_typed t at type f o all s)
  typed_same type f None is = record { shows = (same_undefined K.Call at s).shows }
  typed_same type f (Some g) is =
      if_same {run = λ next own w. Run.calls (types_of s) (code_in s) next at f (one own) (Some (data_of g)) all own w}
      {other = λ next own w. ends_undefined K.Call at w} (same_type type (pointer_to (type_at (program_data s.typed) g.ty)))
      (record {
        shows = (subst
            (λ (o : Option Routine). Same s (λ next own w. Run.calls (types_of s) (code_in s) next at f (waiting (Some t) s) (Some (data_of g)) all own w)
            (called at f (waiting (Some t) s) o all s)) is (called_same at f (waiting (Some t) s) (Some g) all s)).shows;
      })
      (same_undefined K.Call at s)

  pub calls_through_same : (type : ℕ) (q : Ptr)
      → Same s (λ next own w. Run.calls_through (types_of s) (code_in s) next at (type_in (types_of s) type) q (one own) all own w)
      (calls_through t at type q all s)
  calls_through_same type P.Null = record { shows = (same_undefined K.Call at s).shows }
  calls_through_same type (P.Block b n) = record { shows = (same_undefined K.Call at s).shows }
  calls_through_same type (P.Function f) = record {
    shows = (subst
        (λ (o : Option RoutineData). Same s
        (λ next own w. Run.calls_typed (types_of s) (code_in s) next at (type_at (program_data s.typed) type) f (one own) o all own w)
        (calls_typed t at (type_at (program_data s.typed) type) f (slice_get s.code.routines f) all s))
        (sym (slice_get-map data_of s.code.routines f)) (typed_same (type_at (program_data s.typed) type) f (slice_get s.code.routines f) refl)).shows;
  }

-- ---- returns

final_is : (at : Place) (v : Option Value) (w : World) → end_by at v w ≡ end_of (final_by at v) w
final_is at None w = refl
final_is at (Some (word n)) w = refl
final_is at (Some (pointer q)) w = refl

abbrev out_of : World → World
out_of w = record w { depth = less_deep w.depth; trace = left ∷ w.trace }

gave_back_same : (v : Option Value) (callers : List Caller) (s : State)
    → Same s (λ next own w. Run.returns (types_of s) (code_in s) next callers v (out_of w)) (gave_back v callers s)
gave_back_same v [] s = record {
  shows = λ start input trace h. record {
    later = left ∷ trace;
    does = λ next. final_is s.code.place v (out_of (world s.core input trace));
    agrees = agrees_left start s.core.frame s.core trace h;
    calls = refl;
    stays = (refl, refl);
  };
}
gave_back_same v (one ∷ callers) s = record {
  shows = λ start input trace h. record {
    later = left ∷ trace;
    does = λ next. refl;
    agrees = agrees_left start (with_temp one.to (by_name v) one.frame) s.core trace h;
    calls = refl;
    stays = (refl, refl);
  };
}

-- behind the ends of its locals
pub returned_same : (v : Option Value) (callers : List Caller) (s : State)
    → Same s (λ next. Run.leaves (λ u own w. Run.returns (types_of s) (code_in s) next callers v w)) (returned v callers s)
returned_same v callers s = record {
  shows = (same_doing {s = s} (λ u next own w. Run.returns (types_of s) (code_in s) next callers v (out_of w)) (λ u s. gave_back v callers s)
      (end_all_part s.core) (λ u c. record { shows = (gave_back_same v callers (with_core c s)).shows })).shows;
}
