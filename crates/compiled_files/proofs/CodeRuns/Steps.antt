-- To what each step leads.
use Rattle.std.proofs.Common.{◌≡◌, refl, ap, ◌∙◌, ℕ, zero, suc, ◌+◌, ◌==◌, Bool, true, false, not, ◌&&◌, nat_lt, if◌then◌else◌, List, [], ◌∷◌, map, replicate, drop, get_or, Option, Some, None, slice_get, pos, arith}
use Rattle.std.specs.Prelude.{◌*ℤ◌, ◌+ℤ◌}
use Rattle.lay_base.specs.declared.faults.RoomKind.TheVariants.{Depth}
use Rattle.lay_base.specs.declared.faults.UndefinedKind.TheVariants as K
use Rattle.lay_base.specs.declared.place.Place.{Place}
use Rattle.c_types.specs.Sameness.{same_type}
use Rattle.c_types.specs.Types.{CType, integer, pointer as pointer_to}
use Rattle.c_typed.specs.Conversions.{number_of}
use Rattle.memory_words.specs.declared.cell_words.cell.Cell.TheVariants.{Byte}
use Rattle.memory_words.specs.declared.cell_words.pointer.Ptr.{Ptr}
use Rattle.memory_words.specs.declared.cell_words.pointer.Ptr.TheVariants as P
use Rattle.block_memory.specs.RunWorlds.Doing.{Doing, turn_of, less_deep, descend}
use Rattle.block_memory.specs.RunWorlds.Events.{entered, left, began}
use Rattle.block_memory.specs.RunWorlds.Operators.{converted, null_or_pointer, is_true, flag, unary, binary, moved_from, distance, compared, updated}
use Rattle.block_memory.specs.RunWorlds.Scalars.{as_word, pointer_of}
use Rattle.block_memory.specs.RunWorlds.Worlds.{World, End, goes_on, undefined, out_of_room, greatest_depth, world_of}
use Rattle.block_memory.specs.declared.run_worlds.value.Value.{Value}
use Rattle.block_memory.specs.declared.run_worlds.value.Value.TheVariants.{Word as word, Pointer as pointer}
use Rattle.c_meaning.specs.Frames.{Frame}
use Rattle.c_meaning.specs.Outcomes.{Outcome, comes, over as ends_run, with_rest}
use Rattle.c_meaning.specs.Run.{end_by}
use Rattle.c_meaning.specs.declared.frame.Slot.TheVariants.{ByName as by_name}
use Rattle.c_meaning.specs.declared.frame.Spot.TheVariants.{Placed as placed}
use Rattle.tac_ir.specs.Code.{Code, RoutineData, led}
use Rattle.tac_ir.specs.Running.{with_temp, no_place, Caller, Next, address, type_of_sort, as_number, type_in, value_in, empty_slot, returns, body, calls, calls_typed, calls_through, does}
use Rattle.tac_ir.specs.declared.step.Step.{Step}
use Rattle.tac_ir.specs.declared.step.Step.TheVariants as S
use Rattle.compiled_files.specs.CodeRuns.Active.{active, AreOf, HasActive}
use Rattle.compiled_files.specs.CodeRuns.Growth.{Onward}
use Rattle.compiled_files.specs.CodeRuns.Leading.{Leads, KeepsActive, MakesActive}
use Rattle.compiled_files.specs.CodeRuns.Moments.{Moved, to, over}
use Rattle.compiled_files.proofs.CodeRuns.Adding.{onward_same, onward_then, still_then, Still, IsStill, Adds, by_pure, by_bind, by_tested, by_memory}
use Rattle.compiled_files.proofs.CodeRuns.Library.{by_load, by_store, by_allocated, by_library, by_assign_record}
use Rattle.compiled_files.proofs.CodeRuns.Parts.{by_own, by_slot_now, by_put_any, by_put, by_read, by_read_any, by_read_row, by_inside, by_written, by_end_slot, by_begin, by_emptied, by_end_all, by_receive}
use Rattle.compiled_files.proofs.CodeRuns.Parts.{by_part_of, by_element_of, by_field_through}

-- ---- where parts lead

-- from an earlier world
ahead : {w v : World} {Holds : Moved → Type 0} {run : Next → End} → Onward w v → Leads v Holds run → Leads w Holds run
ahead h one = record { moved = one.moved; is = one.is; onward = onward_then h one.onward; holds = one.holds }

-- with less known of where it leads
weaker : {w : World} {Holds Other : Moved → Type 0} {run : Next → End} → Leads w Holds run → ((m : Moved) → Holds m → Other m) → Leads w Other run
weaker one h = record { moved = one.moved; is = one.is; onward = one.onward; holds = h one.moved one.holds }

-- after an operation
joined : {A : Type 0} {m : Doing Frame A} {f : Frame} {w : World} {Holds : Moved → Type 0} {run : Next → A → Frame → World → End} → Adds A m f w
    → ((e : End) → Holds (over e)) → ((x : A) (g : Frame) (v : World) → Still w v → Leads v Holds (λ next. run next x g v))
    → Leads w Holds (λ next. m (run next) f w)
joined {A} {m} {f} {w} {Holds} {run} one ending other = by_outcome one.outcome one.is one.still
  where
    by_outcome : (o : Outcome Frame A) → ((rest : A → Frame → World → End) → m rest f w ≡ with_rest o rest) → IsStill w o
        → Leads w Holds (λ next. m (run next) f w)
    by_outcome (comes x g v) is still = let behind = other x g v still in record {
      moved = behind.moved;
      is = λ next. is (run next) ∙ behind.is next;
      onward = onward_then still.onward behind.onward;
      holds = behind.holds;
    }
    by_outcome (ends_run e) is still = record { moved = over e; is = λ next. is (run next); onward = still; holds = ending e }

-- to the end
ends : {w : World} {Holds : Moved → Type 0} (e : End) → Onward w (world_of e) → Holds (over e) → Leads w Holds (λ next. e)
ends e h holds = record { moved = over e; is = λ next. refl; onward = h; holds = holds }

module _ (c : Code) where
  -- the function goes on after an operation
  plain : {A : Type 0} {m : Doing Frame A} {f : Frame} {w : World} (cs : List Caller) (g : RoutineData) (code : A → List Step) → Adds A m f w
      → Leads w (KeepsActive c cs g w.trace) (λ next. m (λ x. next cs g (code x)) f w)
  plain {w = w} cs g code one = joined one (λ e number numbers h. tt) (λ x h v still. record {
    moved = to (record { callers = cs; routine = g; more = code x; frame = h; world = v });
    is = λ next. refl;
    onward = onward_same v;
    holds = λ number numbers a. (number, numbers, record { runs = a.runs; wait = a.wait; are_active = still.active ∙ a.are_active });
  })

  -- ---- functions are left

  ended : (v : Option Value) (w : World) → Onward w (world_of (end_by c.place v w))
  ended None w = onward_same w
  ended (Some (word n)) w = onward_same w
  ended (Some (pointer q)) w = onward_same w

  module _ (types : List CType) where
    pub returns_lead : (cs : List Caller) (v : Option Value) (w : World) → Leads w (MakesActive c cs w.trace) (λ next. returns types c next cs v w)
    returns_lead [] v w = ends (end_by c.place v w) (ended v w) (λ numbers are h. tt)
    returns_lead (one ∷ callers) v w = record {
      moved = to (record { callers = callers; routine = one.routine; more = one.more; frame = with_temp one.to (by_name v) one.frame; world = w });
      is = λ next. refl;
      onward = onward_same w;
      holds = by_numbers;
    }
      where
        by_numbers : (numbers : List ℕ) → AreOf c numbers (one ∷ callers) → active w.trace ≡ numbers
            → HasActive c (to (record { callers = callers; routine = one.routine; more = one.more; frame = with_temp one.to (by_name v) one.frame; world = w }))
        by_numbers [] are h = absurd are
        by_numbers (k ∷ numbers) are h = (k, numbers, record { runs = are.0; wait = are.1; are_active = h })

    abbrev left_world : World → World
    left_world w = record w { depth = less_deep w.depth; trace = left ∷ w.trace }

    -- after an operation by whose result the function is left
    leaves_lead : {m : Doing Frame (Option Value)} {f : Frame} {w : World} (cs : List Caller) (g : RoutineData) → Adds (Option Value) m f w
        → Leads w (KeepsActive c cs g w.trace) (λ next. m (λ v own u. returns types c next cs v (left_world u)) f w)
    leaves_lead {w = w} cs g one = joined one (λ e number numbers h. tt) (λ v own u still.
        ahead (record { trace = (left ∷ [], refl); blocks = omega arith })
        (weaker (returns_lead cs v (left_world u))
        (λ m makes number numbers a. makes numbers a.wait (ap (drop 1) (still.active ∙ a.are_active)))))

    -- ---- functions are entered

    pub body_leads : (at : Place) (cs : List Caller) (g : RoutineData) (code : List Step) (all : List Value) (w : World)
        → Leads w (KeepsActive c cs g w.trace) (λ next. body types c next at cs g code all w)
    body_leads at cs g [] all w = ends (undefined K.Call at w) (onward_same w) (λ number numbers h. tt)
    body_leads at cs g (s ∷ more) all w = plain cs g (λ u. s ∷ more) (by_receive at 0 g.parameters all (map empty_slot g.locals) w)

    limited : {w : World} {Holds : Moved → Type 0} {run : Next → End} (test : Bool) (e : End) → Onward w (world_of e) → Holds (over e) → Leads w Holds run
        → Leads w Holds (λ next. if test then e else run next)
    limited true e h holds one = ends e h holds
    limited false e h holds one = one

    entered_leads : (t : ℕ) (at : Place) (f : ℕ) (cs : List Caller) (g : RoutineData) (all : List Value) (own : Frame) (w : World)
        → slice_get c.routines f ≡ Some g
        → Leads w (MakesActive c cs w.trace) (λ next. turn_of t (λ u. descend f (λ x o v. body types c next at cs g g.code all v)) own w)
    entered_leads zero at f cs g all own w is = ends (goes_on w) (onward_same w) (λ numbers are h. tt)
    entered_leads (suc t) at f cs g all own w is =
        limited (w.is_limited && nat_lt greatest_depth (w.depth + 1)) (out_of_room Depth (w.depth + 1) (record w { turns = t }))
        (record { trace = ([], refl); blocks = omega arith }) (λ numbers are h. tt)
        (ahead (record { trace = (entered f ∷ [], refl); blocks = omega arith })
        (weaker (body_leads at cs g g.code all (record w { turns = t; depth = w.depth + 1; trace = entered f ∷ w.trace }))
        (λ m keeps numbers are h. keeps f numbers (record { runs = is; wait = are; are_active = ap (λ all. f ∷ all) h }))))

    pub calls_lead : (at : Place) (f : ℕ) (cs : List Caller) (o : Option RoutineData) (all : List Value) (own : Frame) (w : World)
        → slice_get c.routines f ≡ o → Leads w (MakesActive c cs w.trace) (λ next. calls types c next at f cs o all own w)
    calls_lead at f cs None all own w is = ends (undefined K.Call at w) (onward_same w) (λ numbers are h. tt)
    calls_lead at f cs (Some g) all own w is = entered_leads w.turns at f cs g all own w is

    typed_if : (test : Bool) (at : Place) (f : ℕ) (cs : List Caller) (g : RoutineData) (all : List Value) (own : Frame) (w : World)
        → slice_get c.routines f ≡ Some g
        → Leads w (MakesActive c cs w.trace) (λ next. if test then calls types c next at f cs (Some g) all own w else undefined K.Call at w)
    typed_if true at f cs g all own w is = calls_lead at f cs (Some g) all own w is
    typed_if false at f cs g all own w is = ends (undefined K.Call at w) (onward_same w) (λ numbers are h. tt)

    typed_lead : (at : Place) (t : CType) (f : ℕ) (cs : List Caller) (o : Option RoutineData) (all : List Value) (own : Frame) (w : World)
        → slice_get c.routines f ≡ o → Leads w (MakesActive c cs w.trace) (λ next. calls_typed types c next at t f cs o all own w)
    typed_lead at t f cs None all own w is = ends (undefined K.Call at w) (onward_same w) (λ numbers are h. tt)
    typed_lead at t f cs (Some g) all own w is = typed_if (same_type t (pointer_to (type_in types g.ty))) at f cs g all own w is

    through_lead : (at : Place) (t : CType) (q : Ptr) (cs : List Caller) (all : List Value) (own : Frame) (w : World)
        → Leads w (MakesActive c cs w.trace) (λ next. calls_through types c next at t q cs all own w)
    through_lead at t (P.Function f) cs all own w = typed_lead at t f cs (slice_get c.routines f) all own w refl
    through_lead at t P.Null cs all own w = ends (undefined K.Call at w) (onward_same w) (λ numbers are h. tt)
    through_lead at t (P.Block b by) cs all own w = ends (undefined K.Call at w) (onward_same w) (λ numbers are h. tt)

    -- the function that calls waits
    waits : {cs : List Caller} {g : RoutineData} {w v : World} (t : ℕ) (more : List Step) (own : Frame) → Still w v → (m : Moved)
        → MakesActive c (record { to = t; routine = g; more = more; frame = own } ∷ cs) v.trace m → KeepsActive c cs g w.trace m
    waits t more own still m makes number numbers a = makes (number ∷ numbers) (a.runs, a.wait) (still.active ∙ a.are_active)

    turned : (t f l : ℕ) (own : Frame) (w : World) (cs : List Caller) (g : RoutineData) (more : List Step)
        → Leads w (KeepsActive c cs g w.trace) (λ next. turn_of t (λ u o v. next cs g more o (record v { trace = began f l ∷ v.trace })) own w)
    turned zero f l own w cs g more = ends (goes_on w) (onward_same w) (λ number numbers h. tt)
    turned (suc t) f l own w cs g more = record {
      moved = to (record { callers = cs; routine = g; more = more; frame = own; world = record w { turns = t; trace = began f l ∷ w.trace } });
      is = λ next. refl;
      onward = record { trace = (began f l ∷ [], refl); blocks = omega arith };
      holds = λ number numbers a. (number, numbers, record { runs = a.runs; wait = a.wait; are_active = a.are_active });
    }

    -- ---- each step

    module _ (cs : List Caller) (g : RoutineData) where
      abbrev Stepped : Step → List Step → Frame → World → Type 0
      Stepped s more f w = Leads w (KeepsActive c cs g w.trace) (λ next. does types c next cs g s more f w)

      pub step_leads : (s : Step) (more : List Step) (f : Frame) (w : World) → Stepped s more f w
      step_leads (S.Set t a) more f w = plain cs g (λ u. more) (by_bind (by_read a f w) (by_put t))
      step_leads (S.Clear t) more f w = plain cs g (λ u. more) (by_put_any t None f w)
      step_leads (S.Unary t at op a) more f w =
          plain cs g (λ u. more) (by_bind (by_bind (by_read a f w) (λ v. by_tested at (unary op v))) (by_put t))
      step_leads (S.Not t a) more f w = plain cs g (λ u. more) (by_bind (by_read a f w) (λ v. by_put t (flag (not (is_true v)))))
      step_leads (S.Convert t at kind a) more f w =
          plain cs g (λ u. more) (by_bind (by_bind (by_read a f w) (λ v. by_tested at (converted (integer kind) v))) (by_put t))
      step_leads (S.AsPointer t at a) more f w =
          plain cs g (λ u. more) (by_bind (by_bind (by_read a f w) (λ v. by_tested at (null_or_pointer v))) (by_put t))
      step_leads (S.Number t at a) more f w = plain cs g (λ u. more) (by_bind (by_bind (by_read a f w) (λ v. by_tested at (as_number v))) (by_put t))
      step_leads (S.Binary t at op kind right a b) more f w =
          plain cs g (λ u. more) (by_bind (by_read a f w) (λ x h v. by_bind (by_read b h v) (λ y i u. by_bind (by_tested at (binary op kind x right y) i u) (by_put t))))
      step_leads (S.Compare t at op kind a b) more f w =
          plain cs g (λ u. more) (by_bind (by_read a f w) (λ x h v. by_bind (by_read b h v) (λ y i u. by_bind (by_memory i u)
          (λ m j s. by_bind (by_tested at (compared op m kind x y) j s) (by_put t)))))
      step_leads (S.Move t at op size first kind a b) more f w =
          plain cs g (λ u. more) (by_bind (by_read a f w) (λ x h v. by_bind (by_read b h v) (λ y i u. by_bind (by_memory i u)
          (λ m j s. by_bind (by_tested at (moved_from first m op size kind x y) j s) (by_put t)))))
      step_leads (S.Distance t at size a b) more f w =
          plain cs g (λ u. more) (by_bind (by_read a f w) (λ x h v. by_bind (by_read b h v) (λ y i u. by_bind (by_tested at (distance size x y) i u) (by_put t))))
      step_leads (S.Update t at op size sort right a b) more f w =
          plain cs g (λ u. more) (by_bind (by_read b f w) (λ y h v. by_bind (by_read a h v) (λ x i u. by_bind (by_memory i u)
          (λ m j s. by_bind (by_tested at (updated m op size (type_of_sort sort) x (integer right) y) j s) (by_put t)))))
      step_leads (S.Field t at by a) more f w =
          plain cs g (λ u. more) (by_bind (by_read a f w) (λ x h v. by_bind (by_field_through at (pointer_of x) (pos by) h v) (λ s. by_put t (address s))))
      step_leads (S.ElementField t at size kind by a b) more f w =
          plain cs g (λ u. more) (by_bind (by_read a f w) (λ x h v. by_bind (by_read b h v) (λ y i u. by_bind (by_tested at (as_word y) i u)
          (λ n j s. by_bind (by_field_through at (pointer_of x) (number_of kind n *ℤ pos size +ℤ pos by) j s) (λ p. by_put t (address p))))))
      step_leads (S.Element t at n size addressed kind a b) more f w =
          plain cs g (λ u. more) (by_bind (by_read a f w) (λ x h v. by_bind (by_read b h v) (λ y i u. by_bind (by_tested at (as_word y) i u)
          (λ k j s. by_bind (by_element_of at n size addressed (placed (pointer_of x)) (number_of kind k) j s) (λ p. by_put t (address p))))))
      step_leads (S.Part t at by a) more f w =
          plain cs g (λ u. more) (by_bind (by_read a f w) (λ x h v. by_bind (by_part_of at (pos by) (placed (pointer_of x)) h v) (λ s. by_put t (address s))))
      step_leads (S.Inside t at x by) more f w = plain cs g (λ u. more) (by_bind (by_bind (by_slot_now x f w) (by_inside at by)) (by_put t))
      step_leads (S.Load t at access a) more f w =
          plain cs g (λ u. more) (by_bind (by_read a f w) (λ q h v. by_bind (by_load at (pointer_of q) access h v) (by_put t)))
      step_leads (S.Store at access a b) more f w =
          plain cs g (λ u. more) (by_bind (by_read a f w) (λ q h v. by_bind (by_read b h v) (by_store at (pointer_of q) access)))
      step_leads (S.CopyRecord at size a b) more f w =
          plain cs g (λ u. more) (by_bind (by_read a f w) (λ q h v. by_bind (by_read b h v) (λ r. by_assign_record at size (pointer_of q) (pointer_of r))))
      step_leads (S.Jump target) more f w = plain cs g (λ u. led g target) (by_pure {A = Unit {0}} tt f w)
      step_leads (S.Branch when a target) more f w =
          plain cs g (λ v. if (if is_true v then when else not when) then led g target else more) (by_read a f w)
      step_leads (S.Test at op kind when a b target) more f w =
          plain cs g (λ v. if (if is_true v then when else not when) then led g target else more)
          (by_bind (by_read a f w) (λ x h v. by_bind (by_read b h v) (λ y i u. by_bind (by_memory i u) (λ m. by_tested at (compared op m kind x y)))))
      step_leads (S.Case n a target) more f w =
          plain cs g (λ v. if n == v then led g target else more) (by_bind (by_read a f w) (λ v. by_tested no_place (as_word v)))
      step_leads (S.Call t at k all) more f w =
          joined (by_read_row at all.first all.count f w) (λ e number numbers h. tt) (λ vs own v still.
          weaker (calls_lead at k (record { to = t; routine = g; more = more; frame = own } ∷ cs) (slice_get c.routines k) vs own v refl) (waits t more own still))
      step_leads (S.CallThrough t at ty a all) more f w =
          joined (by_read a f w) (λ e number numbers h. tt) (λ q h v one.
          joined (by_read_row at all.first all.count h v) (λ e number numbers h. tt) (λ vs own u other.
          weaker (through_lead at (type_in types ty) (pointer_of q) (record { to = t; routine = g; more = more; frame = own } ∷ cs) vs own u)
          (waits t more own (still_then one other))))
      step_leads (S.Library t at which all) more f w =
          plain cs g (λ u. more) (by_bind (by_bind (by_read_row at all.first all.count f w) (by_library at which)) (by_put_any t))
      step_leads (S.Allocate t at r size zeroed a) more f w =
          plain cs g (λ u. more) (by_bind (by_bind (by_read a f w) (λ v. by_allocated at r size v zeroed)) (by_put t))
      step_leads (S.Begin x size) more f w = plain cs g (λ u. more) (by_begin x true size f w)
      step_leads (S.End x) more f w = plain cs g (λ u. more) (by_bind (by_slot_now x f w) (by_end_slot x))
      step_leads (S.Forget x size) more f w = plain cs g (λ u. more) (by_bind (by_slot_now x f w) (by_emptied x size))
      step_leads (S.Zeros x size) more f w = plain cs g (λ u. more) (by_bind (by_slot_now x f w) (by_written 0 (replicate size (Byte 0))))
      step_leads (S.Text x by n) more f w =
          plain cs g (λ u. more) (by_bind (by_slot_now x f w) (by_written by (map Byte (get_or g.texts n []))))
      step_leads (S.Began k l) more f w = turned w.turns k l f w cs g more
      step_leads (S.Return a) more f w =
          leaves_lead cs g (by_bind (by_read_any a f w) (λ v h u. by_bind (by_bind (by_own (λ all. all) (λ all. all) h u) by_end_all) (λ x. by_pure v)))
      step_leads (S.ReturnHeld t) more f w =
          leaves_lead cs g (by_bind (by_slot_now t f w) (λ s h u. by_bind (by_bind (by_own (λ all. all) (λ all. all) h u) by_end_all) (λ x. by_pure (value_in s))))
      step_leads (S.Fail kind at) more f w = ends (undefined kind at w) (onward_same w) (λ number numbers h. tt)
