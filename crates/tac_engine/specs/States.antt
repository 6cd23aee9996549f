-- The engine between two steps, and the parts of which its steps are made.
use Rattle.std.specs.Prelude.{ℕ, zero, suc, ◌+◌, ◌*ℤ◌, ℤ, pos, Bool, not, if◌then◌else◌, List, [], ◌∷◌, Option, Some, Result, Ok, Err}
use Rattle.lay_base.specs.declared.faults.UndefinedKind.{UndefinedKind}
use Rattle.lay_base.specs.declared.faults.UndefinedKind.TheVariants as K
use Rattle.lay_base.specs.declared.place.Place.{Place}
use Rattle.c_typed.specs.declared.program.Typed.{Typed}
use Rattle.memory_words.specs.declared.cell_words.pointer.Ptr.{Ptr}
use Rattle.memory_words.specs.declared.cell_words.pointer.Ptr.TheVariants as P
use Rattle.block_memory.specs.Tested.{Tested}
use Rattle.block_memory.specs.RunWorlds.Operators.{is_true}
use Rattle.block_memory.specs.RunWorlds.Scalars.{as_word, as_pointer, pointer_of}
use Rattle.block_memory.specs.declared.run_worlds.value.Value.{Value}
use Rattle.block_memory.specs.declared.run_worlds.value.Value.TheVariants.{Word as word, Pointer as pointer}
use Rattle.c_meaning.specs.Expressions.{field_in, is_subscript, part_in}
use Rattle.c_meaning.specs.declared.frame.Slot.{Slot}
use Rattle.c_meaning.specs.declared.frame.Slot.TheVariants.{ByName as by_name, InBlock as in_block}
use Rattle.source_state.specs.Steps.Cores.{Core, Does}
use Rattle.source_state.specs.Steps.Locals.{slot}
use Rattle.source_state.specs.declared.ends.Final.{Final}
use Rattle.source_state.specs.declared.ends.Final.TheVariants.{Undefined}
use Rattle.source_state.specs.declared.ends.Moved.{Moved}
use Rattle.source_state.specs.declared.ends.Moved.TheVariants.{Goes, Over}
use Rattle.tac_ir.specs.Code.{RoutineData, led}
use Rattle.tac_ir.specs.Running.{Caller, with_temp}
use Rattle.tac_ir.specs.declared.step.Operand.{Operand}
use Rattle.tac_ir.specs.declared.step.Operand.TheVariants as O
use Rattle.tac_ir.specs.declared.step.Step.{Step}
use Rattle.tac_ir.specs.declared.step.Tac.{Tac}
use Rattle.tac_ir.specs.declared.step.Target.{Target}

pub record State : Type 0 where
  -- what it runs, and the program whose types its code speaks of
  pub typed : Typed
  pub code : Tac
  -- the calls that wait, the last first
  pub callers : List Caller
  -- the function that runs, and its steps that are left
  pub routine : RoutineData
  pub more : List Step
  -- the temporary that takes what `getchar` gives
  pub to : ℕ
  pub core : Core

-- what a step comes to, and the engine behind it
abbrev pub Moves : Type 0
Moves = Moved × State

abbrev pub goes : State → Moves
goes s = (Goes, s)

abbrev pub undefined : UndefinedKind → Place → State → Moves
undefined kind at s = (Over (Undefined kind at), s)

abbrev pub with_core : Core → State → State
with_core c s = record s { core = c }

-- ---- temporaries

abbrev pub put_slot : (t : ℕ) → Slot → Core → Core
put_slot t o c = record c { frame = with_temp t o c.frame }

abbrev pub given : (t : ℕ) → Option Value → State → State
given t v s = with_core (put_slot t (by_name v) s.core) s

abbrev pub putting_any : (t : ℕ) → Option Value → State → Moves
putting_any t v s = goes (given t v s)

abbrev pub putting : (t : ℕ) → Value → State → Moves
putting t v s = putting_any t (Some v) s

abbrev pub held : UndefinedKind → Place → Option Slot → Result Value Final
held kind at (Some (by_name (Some v))) = Ok v
held kind at (Some (in_block (Some b))) = Ok (pointer (P.Block b 0))
held kind at o = Err (Undefined kind at)

abbrev pub read : Operand → Core → Result Value Final
read (O.Word n) c = Ok (word n)
read O.Null c = Ok (pointer P.Null)
read (O.Function f) c = Ok (pointer (P.Function f))
read (O.Object n) c = Ok (pointer (P.Block n 0))
read (O.Temp kind t at) c = held kind at (slot c t)

-- the left one first
abbrev pub pair : Result Value Final → Result Value Final → Result (Value × Value) Final
pair (Ok v) (Ok w) = Ok (v, w)
pair (Ok v) (Err end) = Err end
pair (Err end) w = Err end

abbrev pub read_both : (a b : Operand) → Core → Result (Value × Value) Final
read_both a b c = pair (read a c) (read b c)

abbrev pub and_more : Result Value Final → Result (List Value) Final → Result (List Value) Final
and_more (Ok v) (Ok vs) = Ok (v ∷ vs)
and_more (Ok v) (Err end) = Err end
and_more (Err end) vs = Err end

-- the arguments of a call
abbrev pub read_row : Place → (first count : ℕ) → Core → Result (List Value) Final
read_row at t zero c = Ok []
read_row at t (suc n) c = and_more (held K.Call at (slot c t)) (read_row at (t + 1) n c)

-- ---- one thing after another

-- what is found, or the end of the run
abbrev pub with_found : {A : Type 0} → Result A Final → State → (A → Moves) → Moves
with_found (Ok x) s next = next x
with_found (Err end) s next = (Over end, s)

abbrev pub reading : Operand → State → (Value → Moves) → Moves
reading a s next = with_found (read a s.core) s next

abbrev pub reading_both : (a b : Operand) → State → (Value → Value → Moves) → Moves
reading_both a b s next = with_found (read_both a b s.core) s (λ both. next both.0 both.1)

abbrev pub finding : {A : Type 0} → Place → Tested A → State → (A → Moves) → Moves
finding at (Ok x) s next = next x
finding at (Err kind) s next = undefined kind at s

abbrev pub found : (t : ℕ) → Place → Tested Value → State → Moves
found t at r s = finding at r s (λ v. putting t v s)

-- a value that has to be a number, or a pointer
abbrev pub number : Place → Value → State → (ℕ → Moves) → Moves
number at v s next = finding at (as_word v) s next

abbrev pub address : Place → Value → State → (Ptr → Moves) → Moves
address at v s next = finding at (as_pointer v) s next

abbrev pub in_core : {A : Type 0} → Result A Final → Core → State → (A → State → Moves) → Moves
in_core (Ok x) c s next = next x (with_core c s)
in_core (Err end) c s next = (Over end, with_core c s)

abbrev pub doing : {A : Type 0} → Does A → State → (A → State → Moves) → Moves
doing d s next = in_core d.0 d.1 s next

abbrev pub changing : Place → Tested Core → State → (State → Moves) → Moves
changing at (Ok c) s next = next (with_core c s)
changing at (Err kind) s next = undefined kind at s

-- ---- jumps

abbrev pub jumped : Target → State → State
jumped to s = record s { more = led s.routine to }

-- where a value is true, or where it is not
abbrev pub jumps_if : Bool → Target → Value → State → Moves
jumps_if when to v s = if (if is_true v then when else not when) then goes (jumped to s) else goes s

-- ---- places in memory

-- the way to a field through a pointer
abbrev pub through : (t : ℕ) → Place → Value → (by : ℤ) → State → Moves
through t at v by s = finding at (field_in s.core.memory (pointer_of v) by) s (λ q. putting t (pointer q) s)

-- so many bytes behind a place
abbrev pub part : (t : ℕ) → Place → (by : ℤ) → Value → State → Moves
part t at by v s = finding at (part_in s.core.memory (pointer_of v) by) s (λ q. putting t (pointer q) s)

abbrev pub element : (t : ℕ) → Place → (length : ℕ) → (addressed : Bool) → (size : ℕ) → (i : ℤ) → Value → State → Moves
element t at n addressed size i v s = if is_subscript n addressed i then part t at (i *ℤ pos size) v s else undefined K.Subscript at s
