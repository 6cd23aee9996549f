-- What each step of the code makes of the engine.
use Rattle.std.specs.Prelude.{ℕ, ◌+◌, ◌*◌, ◌==◌, ◌%◌, ◌^◌, ◌*ℤ◌, ◌+ℤ◌, pos, Bool, true, false, not, if◌then◌else◌, nat_lt, List, [], ◌∷◌, map, Option, Some}
use Rattle.std.specs.Prelude.{None}
use Rattle.std.specs.Prelude.{get_or, slice_get}
use Rattle.lay_base.specs.declared.faults.UndefinedKind.TheVariants as K
use Rattle.lay_base.specs.declared.place.Place.{Place}
use Rattle.c_types.specs.Sameness.{same_type}
use Rattle.c_types.specs.Types.{CType, integer, pointer as pointer_to}
use Rattle.c_typed.specs.Conversions.{number_of}
use Rattle.c_typed.specs.Programs.{program_data}
use Rattle.c_typed.specs.declared.operators.LibraryFunction.{LibraryFunction}
use Rattle.c_typed.specs.declared.operators.LibraryFunction.TheVariants as L
use Rattle.memory_words.specs.declared.cell_words.pointer.Ptr.{Ptr}
use Rattle.memory_words.specs.declared.cell_words.pointer.Ptr.TheVariants as P
use Rattle.block_memory.specs.RunWorlds.Operators.{converted, null_or_pointer, is_true, flag, unary, binary, moved_from, distance, compared, updated}
use Rattle.block_memory.specs.RunWorlds.Scalars.{pointer_of, load_in, store_in}
use Rattle.block_memory.specs.declared.run_worlds.value.Value.{Value}
use Rattle.block_memory.specs.declared.run_worlds.value.Value.TheVariants.{Word as word, Pointer as pointer}
use Rattle.c_meaning.specs.Program.{type_at}
use Rattle.c_meaning.specs.declared.frame.Slot.{Slot}
use Rattle.c_meaning.specs.declared.frame.Slot.TheVariants.{ByName as by_name, InBlock as in_block}
use Rattle.c_meaning.specs.declared.frame.Spot.TheVariants.{Placed as placed}
use Rattle.source_state.specs.Steps.Calls.{begun, enter, leave, received}
use Rattle.source_state.specs.Steps.Cores.{Core, Does, and_then, done}
use Rattle.source_state.specs.Steps.Locals.{slot, begin_as, finish, emptied, end_all}
use Rattle.source_state.specs.Steps.Memories.{allocate, changed, compare, copy, copy_record, fill, free, with_text, zeroed}
use Rattle.source_state.specs.declared.ends.Final.{Final}
use Rattle.source_state.specs.declared.ends.Final.TheVariants.{Ends, Undefined}
use Rattle.source_state.specs.declared.ends.Moved.TheVariants.{Puts, Gets, Over}
use Rattle.tac_ir.specs.Code.{data_of}
use Rattle.tac_ir.specs.Running.{Caller, as_number, empty_slot, no_place, type_of_sort, value_in}
use Rattle.tac_ir.specs.declared.step.Parameter.{Parameter}
use Rattle.tac_ir.specs.declared.step.Routine.{Routine}
use Rattle.tac_ir.specs.declared.step.Step.{Step}
use Rattle.tac_ir.specs.declared.step.Step.TheVariants as S
use Rattle.tac_engine.specs.States.{State, Moves, goes, undefined, with_core, putting, putting_any, given, put_slot, read_row, with_found, reading}
use Rattle.tac_engine.specs.States.{reading_both, finding, found, number, address}
use Rattle.tac_engine.specs.States.{doing, changing, jumped, jumps_if, through, part, element}

-- ---- blocks of locals

-- so many bytes behind the beginning of a block
abbrev pub inside : (t : ℕ) → Place → (offset : ℕ) → Option Slot → State → Moves
inside t at by (Some (in_block (Some b))) s = putting t (pointer (P.Block b by)) s
inside t at by o s = undefined K.Dead at s

-- bytes stand there, where the block has begun
abbrev pub written : (change : (b : ℕ) → Core → Core) → Option Slot → State → Moves
written change (Some (in_block (Some b))) s = goes (with_core (change b s.core) s)
written change o s = goes s

-- ---- calls

abbrev pub receive_one : Place → (x : ℕ) → Parameter → Value → Core → Does (Unit {0})
receive_one at x r v c = and_then (begin_as x r.block r.size c) (λ u c. received at x r.access v (slot c x) c)

abbrev pub receive : Place → (x : ℕ) → List Parameter → List Value → Core → Does (Unit {0})
receive at x (r ∷ more) (v ∷ rest) c = and_then (receive_one at x r v c) (λ u c. receive at (x + 1) more rest c)
receive at x parameters values c = done tt c

-- in a function, at its begin
abbrev pub framed : List Caller → Routine → State → State
framed callers g s = record s {
  callers = callers;
  routine = data_of g;
  more = (data_of g).code;
  core = record (s.core) { frame = map empty_slot g.locals };
}

abbrev pub started : Place → List Caller → Routine → List Step → List Value → State → Moves
started at callers g [] all s = undefined K.Call at s
started at callers g code all s = doing (receive at 0 g.parameters all (framed callers g s).core) (framed callers g s) (λ u s. goes s)

abbrev pub called : Place → (f : ℕ) → List Caller → Option Routine → List Value → State → Moves
called at f callers None all s = undefined K.Call at s
called at f callers (Some g) all s = doing (enter f s.core) s (λ u s. started at callers g g.code all s)

-- the callers, where a step calls that leaves its result in a temporary. None waits for `main`
abbrev pub waiting : Option ℕ → State → List Caller
waiting (Some t) s = record { to = t; routine = s.routine; more = s.more; frame = s.core.frame } ∷ s.callers
waiting None s = s.callers

abbrev pub calls : Option ℕ → Place → (f : ℕ) → List Value → State → Moves
calls t at f all s = called at f (waiting t s) (slice_get s.code.routines f) all s

-- a function of that type
abbrev pub calls_typed : (t : ℕ) → Place → CType → (f : ℕ) → Option Routine → List Value → State → Moves
calls_typed t at type f None all s = undefined K.Call at s
calls_typed t at type f (Some g) all s =
    if same_type type (pointer_to (type_at (program_data s.typed) g.ty)) then calls (Some t) at f all s else undefined K.Call at s

abbrev pub calls_through : (t : ℕ) → Place → (type : ℕ) → Ptr → List Value → State → Moves
calls_through t at type (P.Function f) all s = calls_typed t at (type_at (program_data s.typed) type) f (slice_get s.code.routines f) all s
calls_through t at type q all s = undefined K.Call at s

-- how the run ends where `main`, at that place, gives that: of a number, the low byte (own)
abbrev pub final_by : Place → Option Value → Final
final_by at None = Undefined K.NoValue at
final_by at (Some (word v)) = Ends (v % 2 ^ 8)
final_by at (Some (pointer q)) = Undefined K.Pointer at

-- back in the frame of its caller
abbrev pub gave_back : Option Value → List Caller → State → Moves
gave_back v [] s = (Over (final_by s.code.place v), with_core (leave s.core.frame s.core) s)
gave_back v (one ∷ callers) s = goes (record s {
  callers = callers;
  routine = one.routine;
  more = one.more;
  core = put_slot one.to (by_name v) (leave one.frame s.core);
})

-- what of its locals has begun ends first
abbrev pub returned : Option Value → List Caller → State → Moves
returned v callers s = gave_back v callers (with_core (end_all s.core.frame s.core) s)

-- ---- the library. Its arguments are tested in their order; what is written or read outside is left to the run

abbrev pub made : (t : ℕ) → (size : ℕ) → (zero : Bool) → State → Moves
made t size zero s = doing (allocate size zero s.core) s (λ v s. putting t v s)

abbrev pub copied : (t : ℕ) → Place → (to from count : Value) → (overlap : Bool) → State → Moves
copied t at v w x overlap s = address at v s (λ p. address at w s (λ q. number at x s (λ n.
    changing at (copy p q n overlap s.core) s (λ s. putting t (pointer p) s))))

abbrev pub library : (t : ℕ) → Place → LibraryFunction → List Value → State → Moves
library t at L.Malloc (v ∷ []) s = number at v s (λ n. made t n false s)
library t at L.Calloc (v ∷ w ∷ []) s = number at v s (λ n. number at w s (λ k. made t (n * k) true s))
library t at L.Free (v ∷ []) s = address at v s (λ p. changing at (free p s.core) s (λ s. putting_any t None s))
library t at L.Memcpy (v ∷ w ∷ x ∷ []) s = copied t at v w x false s
library t at L.Memmove (v ∷ w ∷ x ∷ []) s = copied t at v w x true s
library t at L.Memset (v ∷ w ∷ x ∷ []) s = address at v s (λ p. number at w s (λ byte. number at x s (λ n.
    changing at (fill p byte n s.core) s (λ s. putting t (pointer p) s))))
library t at L.Memcmp (v ∷ w ∷ x ∷ []) s = address at v s (λ p. address at w s (λ q. number at x s (λ n. found t at (compare p q n s.core) s)))
library t at L.Putchar (v ∷ []) s = number at v s (λ n. (Puts (n % 2 ^ 8), given t (Some (word (n % 2 ^ 8))) s))
library t at L.Getchar [] s = (Gets, record s { to = t })
library t at L.Exit (v ∷ []) s = number at v s (λ n. (Over (Ends (n % 2 ^ 8)), s))
library t at which all s = undefined K.Call at s

-- so many records
abbrev pub allocated : (t : ℕ) → Place → (size count : ℕ) → (zero : Bool) → State → Moves
allocated t at size count zero s =
    if nat_lt (count * size) (2 ^ 28) then made t (count * size) zero s else undefined K.Huge at s

-- ---- the steps

abbrev pub enacted : Step → State → Moves
enacted (S.Set t a) s = reading a s (λ v. putting t v s)
enacted (S.Clear t) s = putting_any t None s
enacted (S.Unary t at op a) s = reading a s (λ v. found t at (unary op v) s)
enacted (S.Not t a) s = reading a s (λ v. putting t (flag (not (is_true v))) s)
enacted (S.Convert t at kind a) s = reading a s (λ v. found t at (converted (integer kind) v) s)
enacted (S.AsPointer t at a) s = reading a s (λ v. found t at (null_or_pointer v) s)
enacted (S.Number t at a) s = reading a s (λ v. found t at (as_number v) s)
enacted (S.Binary t at op kind right a b) s = reading_both a b s (λ v w. found t at (binary op kind v right w) s)
enacted (S.Compare t at op kind a b) s = reading_both a b s (λ v w. found t at (compared op s.core.memory kind v w) s)
enacted (S.Move t at op size left kind a b) s = reading_both a b s (λ v w. found t at (moved_from left s.core.memory op size kind v w) s)
enacted (S.Distance t at size a b) s = reading_both a b s (λ v w. found t at (distance size v w) s)
enacted (S.Update t at op size sort right a b) s =
    reading_both b a s (λ w v. found t at (updated s.core.memory op size (type_of_sort sort) v (integer right) w) s)
enacted (S.Field t at by a) s = reading a s (λ v. through t at v (pos by) s)
enacted (S.ElementField t at size kind by a b) s =
    reading_both a b s (λ v w. number at w s (λ n. through t at v (number_of kind n *ℤ pos size +ℤ pos by) s))
enacted (S.Element t at n size addressed kind a b) s =
    reading_both a b s (λ v w. number at w s (λ i. element t at n addressed size (number_of kind i) v s))
enacted (S.Part t at by a) s = reading a s (λ v. part t at (pos by) v s)
enacted (S.Inside t at x by) s = inside t at by (slot s.core x) s
enacted (S.Load t at access a) s = reading a s (λ q. found t at (load_in s.core.memory (pointer_of q) access) s)
enacted (S.Store at access a b) s =
    reading_both a b s (λ q v. changing at (changed (store_in s.core.memory (pointer_of q) access v) s.core) s (λ s. goes s))
enacted (S.CopyRecord at size a b) s =
    reading_both a b s (λ q r. changing at (copy_record size (placed (pointer_of q)) (placed (pointer_of r)) s.core) s (λ s. goes s))
enacted (S.Jump to) s = goes (jumped to s)
enacted (S.Branch when a to) s = reading a s (λ v. jumps_if when to v s)
enacted (S.Test at op kind when a b to) s =
    reading_both a b s (λ v w. finding at (compared op s.core.memory kind v w) s (λ z. jumps_if when to z s))
enacted (S.Case n a to) s = reading a s (λ v. number no_place v s (λ k. if n == k then goes (jumped to s) else goes s))
enacted (S.Call t at f all) s = with_found (read_row at all.first all.count s.core) s (λ vs. calls (Some t) at f vs s)
enacted (S.CallThrough t at type a all) s =
    reading a s (λ v. with_found (read_row at all.first all.count s.core) s (λ vs. calls_through t at type (pointer_of v) vs s))
enacted (S.Library t at which all) s = with_found (read_row at all.first all.count s.core) s (λ vs. library t at which vs s)
enacted (S.Allocate t at r size zero a) s = reading a s (λ v. number at v s (λ n. allocated t at size n zero s))
enacted (S.Begin x size) s = doing (begin_as x true size s.core) s (λ u s. goes s)
enacted (S.End x) s = goes (with_core (finish x s.core) s)
enacted (S.Forget x size) s = goes (with_core (emptied x size (slot s.core x) s.core) s)
enacted (S.Zeros x size) s = written (λ b c. zeroed true b size c) (slot s.core x) s
enacted (S.Text x by n) s = written (λ b c. with_text b by (get_or s.routine.texts n []) c) (slot s.core x) s
enacted (S.Began g l) s = doing (begun g l s.core) s (λ u s. goes s)
enacted (S.Return None) s = returned None s.callers s
enacted (S.Return (Some a)) s = reading a s (λ v. returned (Some v) s.callers s)
enacted (S.ReturnHeld t) s = returned (value_in (slot s.core t)) s.callers s
enacted (S.Fail kind at) s = undefined kind at s

-- the next step, of those that are left
abbrev pub enacted_next : List Step → State → Moves
enacted_next [] s = undefined K.Call no_place s
enacted_next (i ∷ more) s = enacted i (record s { more = more })

abbrev pub stepped : State → Moves
stepped s = enacted_next s.more s

-- `main` is called at the start, with no arguments
abbrev pub main_called : State → Moves
main_called s = calls None no_place s.code.main [] s

-- what is read is given to the step that asked for it
abbrev pub read_given : Value → State → State
read_given v s = given s.to (Some v) s
