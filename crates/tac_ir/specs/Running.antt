-- What three-address code does to the world: its run for a number of steps that is large enough. The world, frames, calls and the library are the source's.
use Rattle.std.specs.Prelude.{ℕ, zero, suc, ◌+◌, ◌==◌, ◌*ℤ◌, ◌+ℤ◌, pos, Bool, true, false, not, if◌then◌else◌, List, [], ◌∷◌, map, replicate, Option, Some, Ok}
use Rattle.std.specs.Prelude.{None, get_or, slice_get, unwrap_or}
use Rattle.lay_base.specs.declared.faults.UndefinedKind.{UndefinedKind}
use Rattle.lay_base.specs.declared.faults.UndefinedKind.TheVariants as K
use Rattle.lay_base.specs.declared.place.Place.{Place}
use Rattle.c_types.specs.Sameness.{same_type}
use Rattle.c_types.specs.Types.{CType, integer, void, pointer as pointer_to}
use Rattle.c_typed.specs.Conversions.{number_of}
use Rattle.memory_words.specs.declared.cell_words.cell.Cell.{Cell}
use Rattle.memory_words.specs.declared.cell_words.cell.Cell.TheVariants.{Byte, Empty}
use Rattle.memory_words.specs.declared.cell_words.pointer.Ptr.{Ptr}
use Rattle.memory_words.specs.declared.cell_words.pointer.Ptr.TheVariants as P
use Rattle.block_memory.specs.Blocks.{with_cells}
use Rattle.block_memory.specs.declared.kinds.BlockKind.TheVariants as Kind
use Rattle.block_memory.specs.Tested.{Tested}
use Rattle.block_memory.specs.Tested as Tests
use Rattle.block_memory.specs.RunWorlds.Doing.{Doing, ◌>>=◌, ◌>>◌, pure, is_undefined, tested, memory_now, with_memory, make, end, turn, note, enter, leave}
use Rattle.block_memory.specs.RunWorlds.Events.{began}
use Rattle.block_memory.specs.RunWorlds.LibraryCalls.{library, allocated, assign_record}
use Rattle.block_memory.specs.RunWorlds.Operators.{converted, null_or_pointer, is_true, flag, unary, binary, moved_from, distance, compared, updated}
use Rattle.block_memory.specs.RunWorlds.Scalars.{as_word, pointer_of, load, store}
use Rattle.block_memory.specs.RunWorlds.Worlds.{World, End, undefined}
use Rattle.block_memory.specs.declared.run_worlds.value.Value.{Value}
use Rattle.block_memory.specs.declared.run_worlds.value.Value.TheVariants.{Word as word, Pointer as pointer}
use Rattle.c_meaning.specs.Expressions.{element_of, field_through, part_of}
use Rattle.c_meaning.specs.Frames.{Frame, with_slot, slot_now, frame_now, end_all}
use Rattle.c_meaning.specs.Run.{end_by}
use Rattle.c_meaning.specs.declared.frame.Slot.{Slot}
use Rattle.c_meaning.specs.declared.frame.Slot.TheVariants.{ByName as by_name, InBlock as in_block}
use Rattle.c_meaning.specs.declared.frame.Spot.{Spot}
use Rattle.c_meaning.specs.declared.frame.Spot.TheVariants.{Kept as kept, Placed as placed}
use Rattle.tac_ir.specs.Code.{Code, RoutineData, led}
use Rattle.tac_ir.specs.declared.step.Operand.{Operand}
use Rattle.tac_ir.specs.declared.step.Operand.TheVariants as O
use Rattle.tac_ir.specs.declared.step.Parameter.{Parameter}
use Rattle.tac_ir.specs.declared.step.Sort.{Sort}
use Rattle.tac_ir.specs.declared.step.Sort.TheVariants as Sorts
use Rattle.tac_ir.specs.declared.step.Step.{Step}
use Rattle.tac_ir.specs.declared.step.Step.TheVariants as S

abbrev pub no_place : Place
no_place = record { file = 0; at = 0 }

-- ---- temporaries. A frame has the locals first, as the source has them; a temporary past its end is made

abbrev pub with_temp : (t : ℕ) → Slot → Frame → Frame
with_temp zero s [] = s ∷ []
with_temp zero s (o ∷ f) = s ∷ f
with_temp (suc t) s [] = by_name None ∷ with_temp t s []
with_temp (suc t) s (o ∷ f) = o ∷ with_temp t s f

abbrev pub put_any : (t : ℕ) → Option Value → Doing Frame (Unit {0})
put_any t v = λ rest f w. rest tt (with_temp t (by_name v) f) w

abbrev pub put : (t : ℕ) → Value → Doing Frame (Unit {0})
put t v = put_any t (Some v)

-- a local that lies in a block is read as the block's address
abbrev pub held : UndefinedKind → Place → Option Slot → Doing Frame Value
held kind at (Some (by_name (Some v))) = pure v
held kind at (Some (in_block (Some b))) = pure (pointer (P.Block b 0))
held kind at s = is_undefined kind at

abbrev pub value_in : Option Slot → Option Value
value_in (Some (by_name v)) = v
value_in s = None

abbrev pub read : Operand → Doing Frame Value
read (O.Word n) = pure (word n)
read O.Null = pure (pointer P.Null)
read (O.Function f) = pure (pointer (P.Function f))
read (O.Object n) = pure (pointer (P.Block n 0))
read (O.Temp kind t at) = slot_now t >>= held kind at

abbrev pub read_any : Option Operand → Doing Frame (Option Value)
read_any None = pure None
read_any (Some a) = read a >>= λ v. pure (Some v)

abbrev pub read_row : Place → (first count : ℕ) → Doing Frame (List Value)
read_row at t zero = pure []
read_row at t (suc n) = slot_now t >>= held K.Call at >>= λ v. read_row at (t + 1) n >>= λ vs. pure (v ∷ vs)

-- ---- blocks of locals

abbrev pub inside : Place → (offset : ℕ) → Option Slot → Doing Frame Value
inside at by (Some (in_block (Some b))) = pure (pointer (P.Block b by))
inside at by s = is_undefined K.Dead at

-- bytes stand there, where the block has begun
abbrev pub written : (offset : ℕ) → List Cell → Option Slot → Doing Frame (Unit {0})
written by cells (Some (in_block (Some b))) = memory_now >>= λ m. with_memory (with_cells m b by cells)
written by cells s = pure tt

abbrev pub end_slot : (local : ℕ) → Option Slot → Doing Frame (Unit {0})
end_slot x (Some (in_block (Some b))) = end b >> with_slot x (in_block None)
end_slot x s = pure tt

-- a block that has begun ends before it begins anew
abbrev pub begin : (local : ℕ) → (block : Bool) → (size : ℕ) → Doing Frame (Unit {0})
begin x true size = (slot_now x >>= end_slot x) >> make size Kind.Local >>= λ b. with_slot x (in_block (Some b))
begin x false size = with_slot x (by_name None)

-- it holds again what a block or a name holds at first
abbrev pub emptied : (local size : ℕ) → Option Slot → Doing Frame (Unit {0})
emptied x size (Some (in_block (Some b))) = memory_now >>= λ m. with_memory (with_cells m b 0 (replicate size Empty))
emptied x size (Some (by_name v)) = with_slot x (by_name None)
emptied x size s = pure tt

-- ---- functions

abbrev pub empty_slot : Bool → Slot
empty_slot true = in_block None
empty_slot false = by_name None

abbrev pub received : Place → (x : ℕ) → Parameter → Value → Option Slot → Doing Frame (Unit {0})
received at x r v (Some (in_block (Some b))) = store at (P.Block b 0) r.access v
received at x r v s = with_slot x (by_name (Some v))

abbrev pub receive : Place → (x : ℕ) → List Parameter → List Value → Doing Frame (Unit {0})
receive at x (r ∷ more) (v ∷ rest) = begin x r.block r.size >> (slot_now x >>= received at x r v) >> receive at (x + 1) more rest
receive at x parameters values = pure tt

-- a call that waits for its result
pub record Caller : Type 0 where
  pub to : ℕ
  pub routine : RoutineData
  pub more : List Step
  pub frame : Frame

-- ---- values

abbrev pub address : Spot → Value
address (placed q) = pointer q
address (kept x) = pointer P.Null

abbrev pub type_of_sort : Sort → CType
type_of_sort (Sorts.Number kind) = integer kind
type_of_sort Sorts.Pointer = pointer_to void

abbrev pub as_number : Value → Tested Value
as_number v = Tests.◌>>=◌ (as_word v) (λ n. Ok (word n))

-- a function is left, with its locals
abbrev pub leaves : Doing Frame (Unit {0})
leaves = frame_now >>= end_all >> leave

-- a type of the program by its number
abbrev pub type_in : List CType → (type : ℕ) → CType
type_in types n = unwrap_or (slice_get types n) void

-- ---- one step, where a run goes on so

abbrev pub Next : Type 0
Next = List Caller → RoutineData → (more : List Step) → Frame → World → End

-- a pointer type keeps its number, so code speaks of a program's types
module _ (types : List CType) (c : Code) (next : Next) where
  abbrev pub returns : List Caller → Option Value → World → End
  returns [] v w = end_by c.place v w
  returns (one ∷ callers) v w = next callers one.routine one.more (with_temp one.to (by_name v) one.frame) w

  abbrev pub body : Place → List Caller → RoutineData → List Step → List Value → World → End
  body at callers g [] all w = undefined K.Call at w
  body at callers g (s ∷ more) all w = receive at 0 g.parameters all (λ u f. next callers g (s ∷ more) f) (map empty_slot g.locals) w

  abbrev pub calls : Place → (f : ℕ) → List Caller → Option RoutineData → List Value → Frame → World → End
  calls at f callers None all own w = undefined K.Call at w
  calls at f callers (Some g) all own w = enter f (λ u own w. body at callers g g.code all w) own w

  -- a function of that type
  abbrev pub calls_typed : Place → CType → (f : ℕ) → List Caller → Option RoutineData → List Value → Frame → World → End
  calls_typed at t f callers None all own w = undefined K.Call at w
  calls_typed at t f callers (Some g) all own w =
      if same_type t (pointer_to (type_in types g.ty)) then calls at f callers (Some g) all own w else undefined K.Call at w

  abbrev pub calls_through : Place → CType → Ptr → List Caller → List Value → Frame → World → End
  calls_through at t (P.Function f) callers all own w = calls_typed at t f callers (slice_get c.routines f) all own w
  calls_through at t q callers all own w = undefined K.Call at w

  abbrev pub does : List Caller → RoutineData → Step → (more : List Step) → Frame → World → End
  does cs g (S.Set t a) more = (read a >>= put t) (λ u. next cs g more)
  does cs g (S.Clear t) more = put_any t None (λ u. next cs g more)
  does cs g (S.Unary t at op a) more = (read a >>= λ v. tested at (unary op v) >>= put t) (λ u. next cs g more)
  does cs g (S.Not t a) more = (read a >>= λ v. put t (flag (not (is_true v)))) (λ u. next cs g more)
  does cs g (S.Convert t at kind a) more = (read a >>= λ v. tested at (converted (integer kind) v) >>= put t) (λ u. next cs g more)
  does cs g (S.AsPointer t at a) more = (read a >>= λ v. tested at (null_or_pointer v) >>= put t) (λ u. next cs g more)
  does cs g (S.Number t at a) more = (read a >>= λ v. tested at (as_number v) >>= put t) (λ u. next cs g more)
  does cs g (S.Binary t at op kind right a b) more =
      (read a >>= λ v. read b >>= λ w. tested at (binary op kind v right w) >>= put t) (λ u. next cs g more)
  does cs g (S.Compare t at op kind a b) more =
      (read a >>= λ v. read b >>= λ w. memory_now >>= λ m. tested at (compared op m kind v w) >>= put t) (λ u. next cs g more)
  does cs g (S.Move t at op size left kind a b) more =
      (read a >>= λ v. read b >>= λ w. memory_now >>= λ m. tested at (moved_from left m op size kind v w) >>= put t) (λ u. next cs g more)
  does cs g (S.Distance t at size a b) more =
      (read a >>= λ v. read b >>= λ w. tested at (distance size v w) >>= put t) (λ u. next cs g more)
  does cs g (S.Update t at op size sort right a b) more =
      (read b >>= λ w. read a >>= λ v. memory_now >>= λ m. tested at (updated m op size (type_of_sort sort) v (integer right) w) >>= put t)
      (λ u. next cs g more)
  does cs g (S.Field t at by a) more = (read a >>= λ v. field_through at (pointer_of v) (pos by) >>= λ s. put t (address s)) (λ u. next cs g more)
  does cs g (S.ElementField t at size kind by a b) more =
      (read a >>= λ v. read b >>= λ w. tested at (as_word w) >>= λ n. field_through at (pointer_of v) (number_of kind n *ℤ pos size +ℤ pos by)
      >>= λ s. put t (address s))
      (λ u. next cs g more)
  does cs g (S.Element t at n size addressed kind a b) more =
      (read a >>= λ v. read b >>= λ w. tested at (as_word w) >>= λ i. element_of at n size addressed (placed (pointer_of v)) (number_of kind i)
      >>= λ s. put t (address s))
      (λ u. next cs g more)
  does cs g (S.Part t at by a) more = (read a >>= λ v. part_of at (pos by) (placed (pointer_of v)) >>= λ s. put t (address s)) (λ u. next cs g more)
  does cs g (S.Inside t at x by) more = (slot_now x >>= inside at by >>= put t) (λ u. next cs g more)
  does cs g (S.Load t at access a) more = (read a >>= λ q. load at (pointer_of q) access >>= put t) (λ u. next cs g more)
  does cs g (S.Store at access a b) more = (read a >>= λ q. read b >>= λ v. store at (pointer_of q) access v) (λ u. next cs g more)
  does cs g (S.CopyRecord at size a b) more =
      (read a >>= λ q. read b >>= λ r. assign_record at size (pointer_of q) (pointer_of r)) (λ u. next cs g more)
  does cs g (S.Jump to) more = next cs g (led g to)
  does cs g (S.Branch when a to) more = read a (λ v. next cs g (if (if is_true v then when else not when) then led g to else more))
  does cs g (S.Test at op kind when a b to) more = (read a >>= λ v. read b >>= λ w. memory_now >>= λ m. tested at (compared op m kind v w))
      (λ v. next cs g (if (if is_true v then when else not when) then led g to else more))
  does cs g (S.Case n a to) more = (read a >>= λ v. tested no_place (as_word v)) (λ v. next cs g (if n == v then led g to else more))
  does cs g (S.Call t at f all) more = read_row at all.first all.count
      (λ vs own. calls at f (record { to = t; routine = g; more = more; frame = own } ∷ cs) (slice_get c.routines f) vs own)
  does cs g (S.CallThrough t at ty a all) more = read a (λ v. read_row at all.first all.count
      (λ vs own. calls_through at (type_in types ty) (pointer_of v) (record { to = t; routine = g; more = more; frame = own } ∷ cs) vs own))
  does cs g (S.Library t at which all) more = (read_row at all.first all.count >>= λ vs. library at which vs >>= put_any t) (λ u. next cs g more)
  does cs g (S.Allocate t at r size zeroed a) more =
      (read a >>= λ v. allocated at r size v zeroed >>= put t) (λ u. next cs g more)
  does cs g (S.Begin x size) more = begin x true size (λ u. next cs g more)
  does cs g (S.End x) more = (slot_now x >>= end_slot x) (λ u. next cs g more)
  does cs g (S.Forget x size) more = (slot_now x >>= emptied x size) (λ u. next cs g more)
  does cs g (S.Zeros x size) more = (slot_now x >>= written 0 (replicate size (Byte 0))) (λ u. next cs g more)
  does cs g (S.Text x by n) more = (slot_now x >>= written by (map Byte (get_or g.texts n []))) (λ u. next cs g more)
  does cs g (S.Began f l) more = (turn >> note (began f l)) (λ u. next cs g more)
  does cs g (S.Return a) more = (read_any a >>= λ v. leaves >> pure v) (λ v own w. returns cs v w)
  does cs g (S.ReturnHeld t) more = (slot_now t >>= λ s. leaves >> pure (value_in s)) (λ v own w. returns cs v w)
  does cs g (S.Fail kind at) more = is_undefined kind at (λ (u : Unit {0}). next cs g more)

-- ---- so many steps. Where they are too few it is as if the run were undefined, so no other end is ever mistaken for a want of steps

module _ (types : List CType) (c : Code) where
  abbrev pub go : (steps : ℕ) → Next
  go zero cs g more f w = undefined K.Call no_place w
  go (suc n) cs g [] f w = undefined K.Call no_place w
  go (suc n) cs g (s ∷ more) f w = does types c (go n) cs g s more f w

  abbrev pub code_run : World → (steps : ℕ) → End
  code_run w n = calls types c (go n) no_place c.main [] (slice_get c.routines c.main) [] [] w
