-- What a program does (C99 5.1.2.2, 6.9.1): its calls, its run for an input and a number of turns, and what is read off it.
use Rattle.std.specs.Prelude.{ℕ, zero, suc, ◌+◌, ◌%◌, ◌^◌, ◌==◌, Bool, true, false, if◌then◌else◌, List, [], ◌∷◌, length, Option, Some, None, slice_get}
use Rattle.lay_base.specs.declared.faults.RoomKind.{RoomKind}
use Rattle.lay_base.specs.declared.faults.UndefinedKind.{UndefinedKind}
use Rattle.lay_base.specs.declared.faults.UndefinedKind.TheVariants as K
use Rattle.lay_base.specs.declared.place.Place.{Place}
use Rattle.c_typed.specs.declared.program.Local.{Local}
use Rattle.c_typed.specs.Trees.{Statement}
use Rattle.c_typed.specs.Programs.{ProgramData, FunctionData}
use Rattle.memory_words.specs.declared.cell_words.pointer.Ptr.TheVariants as P
use Rattle.block_memory.specs.RunWorlds.Doing.{Doing, ◌>>=◌, ◌>>◌, pure, is_undefined, enter, leave, apart}
use Rattle.block_memory.specs.RunWorlds.Events.{Event, output_of}
use Rattle.block_memory.specs.RunWorlds.Scalars.{store}
use Rattle.block_memory.specs.declared.run_worlds.value.Value.{Value}
use Rattle.block_memory.specs.declared.run_worlds.value.Value.TheVariants.{Word as word, Pointer as pointer}
use Rattle.block_memory.specs.RunWorlds.Worlds.{World, End, ends, goes_on, undefined, out_of_room, world_of}
use Rattle.block_memory.specs.RunWorlds.Ways.{no_more}
use Rattle.block_memory.specs.declared.run_worlds.way.Way.{Way}
use Rattle.block_memory.specs.declared.run_worlds.way.Way.TheVariants.{ByReturn as by_return}
use Rattle.c_meaning.specs.Frames.{Frame, frame_of, begin, finish_all, with_slot, slot_now, frame_now, end_all}
use Rattle.c_meaning.specs.declared.frame.Slot.{Slot}
use Rattle.c_meaning.specs.declared.frame.Slot.TheVariants.{ByName as by_name, InBlock as in_block}
use Rattle.c_meaning.specs.Program.{access_at, all_locals, initial_memory}
use Rattle.c_meaning.specs.Statements.{execute}

-- ---- calls

-- the numbers of the parameters, which come first among the locals
abbrev pub numbers_from : (k count : ℕ) → List ℕ
numbers_from k zero = []
numbers_from k (suc n) = k ∷ numbers_from (k + 1) n

abbrev pub numbers : (count : ℕ) → List ℕ
numbers count = numbers_from 0 count

-- of what `main` gives, the low byte: the status is a use of that value (own). No `main` that is well typed gives none, or a pointer
abbrev pub end_by : Place → Option Value → World → End
end_by place None w = undefined K.NoValue place w
end_by place (Some (word v)) w = ends (v % 2 ^ 8) w
end_by place (Some (pointer q)) w = undefined K.Pointer place w

module _ (p : ProgramData) where
  -- a parameter begins as the local that it is, with its argument (6.9.1)
  abbrev pub received : Place → (x type : ℕ) → Value → Option Slot → Doing Frame (Unit {0})
  received place x type v (Some (in_block (Some b))) = store place (P.Block b 0) (access_at p type) v
  received place x type v s = with_slot x (by_name (Some v))

  abbrev pub receive : Place → (x : ℕ) → List Local → List Value → Doing Frame (Unit {0})
  receive place x (l ∷ more) (v ∷ rest) =
      begin p x (Some l) >> (slot_now x >>= received place x l.ty v) >> receive place (x + 1) more rest
  receive place x locals values = pure tt

  -- what a call of that function gives; reaching the end of `main` returns 0 (5.1.2.2.3)
  abbrev pub result_of : (f : ℕ) → Way → Option Value
  result_of f (by_return v) = v
  result_of f way = if f == p.main then Some (word 0) else None

  -- what a function does that has its arguments, where calls do so
  abbrev pub body_of : (call : Place → (f : ℕ) → List Value → Doing Frame (Option Value)) → (n : ℕ) → Place → (f : ℕ) → List Value → FunctionData
      → Option (Statement ℕ) → Doing Frame (Option Value)
  body_of call n place f values g None = is_undefined K.Call place
  body_of call n place f values g (Some body) = do
    a ← receive place 0 g.parameters values
    way ← execute p call f (all_locals g) n 0 body
    b ← finish_all p (numbers (length g.parameters))
    pure (result_of f way)

  -- an object lives no longer than its function (6.2.4)
  abbrev pub ending : {A : Type 0} → Doing Frame A → Doing Frame A
  ending body = body >>= λ v. frame_now >>= end_all >> pure v

  abbrev pub function_of : (call : Place → (f : ℕ) → List Value → Doing Frame (Option Value)) → (n : ℕ) → Place → (f : ℕ) → List Value
      → Option FunctionData → Doing Frame (Option Value)
  function_of call n place f values None = is_undefined K.Call place
  function_of call n place f values (Some g) = do
    a ← enter f
    v ← apart (frame_of p g) (ending (body_of call n place f values g g.body))
    b ← leave
    pure v

  -- a call; n is no less than the turns that are left
  abbrev pub called : (n : ℕ) → Place → (f : ℕ) → List Value → Doing Frame (Option Value)
  called zero place f values = no_more
  called (suc n) place f values = function_of (called n) n place f values (slice_get p.functions f)

  -- ---- the run

  abbrev pub start : (input : List ℕ) → (turns : ℕ) → (limited : Bool) → World
  start input n limited = record { turns = n; memory = initial_memory p; input = input; trace = []; depth = 0; is_limited = limited }

  abbrev pub no_place : Place
  no_place = record { file = 0; at = 0 }

  -- where `main` is; without one the run has ended before
  abbrev pub place_of : Option FunctionData → Place
  place_of None = no_place
  place_of (Some g) = g.place

  abbrev pub main_place : Place
  main_place = place_of (slice_get p.functions p.main)

  abbrev pub run_of : (input : List ℕ) → (turns : ℕ) → (limited : Bool) → End
  run_of input n limited = called (n + 1) no_place p.main [] (λ v f w. end_by main_place v w) [] (start input n limited)

-- ---- what is seen of it: each with the output so far and the rest of the input

pub data RunEnd : Type 0 where
  ended : (output : List ℕ) → (status : ℕ) → (rest : List ℕ) → RunEnd
  went_on : (output rest : List ℕ) → RunEnd
  was_undefined : (kind : UndefinedKind) → (place : Place) → (output rest : List ℕ) → RunEnd
  no_room : (kind : RoomKind) → (counted : ℕ) → (output rest : List ℕ) → RunEnd

abbrev pub seen : End → RunEnd
seen (ends status w) = ended (output_of w.trace) status w.input
seen (goes_on w) = went_on (output_of w.trace) w.input
seen (undefined kind place w) = was_undefined kind place (output_of w.trace) w.input
seen (out_of_room kind counted w) = no_room kind counted (output_of w.trace) w.input

-- where at most so many turns begin
abbrev pub run : ProgramData → (input : List ℕ) → (turns : ℕ) → RunEnd
run p input n = seen (run_of p input n false)

-- within the room of the interpreter
abbrev pub kept : ProgramData → (input : List ℕ) → (turns : ℕ) → RunEnd
kept p input n = seen (run_of p input n true)

-- what is told of that run
abbrev pub trace_of : ProgramData → (input : List ℕ) → (turns : ℕ) → List Event
trace_of p input turns = (world_of (run_of p input turns true)).trace
