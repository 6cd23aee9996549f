-- The locals of a function that runs (C99 6.2.4): a number or a pointer whose address is never taken is kept by its name, any other in a block.
use Rattle.std.specs.Prelude.{ℕ, Bool, true, false, List, [], ◌∷◌, map, replicate, Option, Some, None, slice_get, slice_set}
use Rattle.lay_base.specs.declared.faults.UndefinedKind.TheVariants as K
use Rattle.lay_base.specs.declared.place.Place.{Place}
use Rattle.c_typed.specs.declared.program.Local.{Local}
use Rattle.c_typed.specs.Programs.{ProgramData, FunctionData}
use Rattle.memory_words.specs.declared.cell_words.cell.Cell.TheVariants.{Empty}
use Rattle.block_memory.specs.declared.kinds.BlockKind.TheVariants as Kind
use Rattle.memory_words.specs.declared.cell_words.pointer.Ptr.TheVariants as P
use Rattle.block_memory.specs.Blocks.{with_cells}
use Rattle.block_memory.specs.RunWorlds.Doing.{Doing, ◌>>=◌, ◌>>◌, pure, is_undefined, memory_now, with_memory, make, end}
use Rattle.block_memory.specs.RunWorlds.Scalars.{load, store}
use Rattle.block_memory.specs.declared.run_worlds.value.Value.{Value}
use Rattle.c_meaning.specs.declared.frame.Slot.{Slot}
use Rattle.c_meaning.specs.declared.frame.Slot.TheVariants.{ByName as by_name, InBlock as in_block}
use Rattle.c_meaning.specs.declared.frame.Spot.{Spot}
use Rattle.c_meaning.specs.declared.frame.Spot.TheVariants.{Kept as kept, Placed as placed}
use Rattle.c_meaning.specs.Program.{access_at, size_at, all_locals}

abbrev pub Frame : Type 0
Frame = List Slot

-- ---- the frame

abbrev pub with_slot : (local : ℕ) → Slot → Doing Frame (Unit {0})
with_slot x s = λ rest f w. rest tt (slice_set f x s) w

abbrev pub slot_now : (local : ℕ) → Doing Frame (Option Slot)
slot_now x = λ rest f w. rest (slice_get f x) f w

-- outside of its scope it is no place
abbrev pub spot_of : Place → (local : ℕ) → Option Slot → Doing Frame Spot
spot_of place x (Some (by_name v)) = pure (kept x)
spot_of place x (Some (in_block (Some b))) = pure (placed (P.Block b 0))
spot_of place x s = is_undefined K.Dead place

abbrev pub local_spot : Place → (local : ℕ) → Doing Frame Spot
local_spot place x = slot_now x >>= spot_of place x

abbrev pub frame_now : Doing Frame Frame
frame_now = λ rest f w. rest f f w

-- what of its locals has begun ends with a function, the first one first
abbrev pub end_of : Slot → Doing Frame (Unit {0})
end_of (in_block (Some b)) = end b
end_of s = pure tt

abbrev pub end_all : Frame → Doing Frame (Unit {0})
end_all [] = pure tt
end_all (s ∷ more) = end_of s >> end_all more

-- ---- values of a type by its number

module _ (p : ProgramData) where
  -- nothing was stored
  abbrev pub known : Place → Option Slot → Doing Frame Value
  known place (Some (by_name (Some v))) = pure v
  known place s = is_undefined K.Empty place

  abbrev pub fetch : Place → Spot → (type : ℕ) → Doing Frame Value
  fetch place (kept x) type = slot_now x >>= known place
  fetch place (placed q) type = load place q (access_at p type)

  abbrev pub put : Place → Spot → (type : ℕ) → Value → Doing Frame (Unit {0})
  put place (kept x) type v = with_slot x (by_name (Some v))
  put place (placed q) type v = store place q (access_at p type) v

  -- ---- scopes: a compound statement's locals are made, with nothing stored, when it is entered, and end when it is left

  abbrev pub empty_by : (block : Bool) → Slot
  empty_by true = in_block None
  empty_by false = by_name None

  abbrev pub empty_slot : Local → Slot
  empty_slot x = empty_by x.block

  -- the object ends, where it has begun
  abbrev pub end_slot : (local : ℕ) → Option Slot → Doing Frame (Unit {0})
  end_slot x (Some (in_block (Some b))) = end b >> with_slot x (in_block None)
  end_slot x s = pure tt

  abbrev pub finish : (local : ℕ) → Doing Frame (Unit {0})
  finish x = slot_now x >>= end_slot x

  -- one that has begun ends before it begins anew
  abbrev pub begin_by : (local size : ℕ) → (block : Bool) → Doing Frame (Unit {0})
  begin_by x size true = finish x >> make size Kind.Local >>= λ b. with_slot x (in_block (Some b))
  begin_by x size false = with_slot x (by_name None)

  abbrev pub begin : (local : ℕ) → Option Local → Doing Frame (Unit {0})
  begin x None = pure tt
  begin x (Some l) = begin_by x (size_at p l.ty) l.block

  abbrev pub begin_all : List Local → (numbers : List ℕ) → Doing Frame (Unit {0})
  begin_all locals [] = pure tt
  begin_all locals (x ∷ more) = begin x (slice_get locals x) >> begin_all locals more

  abbrev pub finish_all : (numbers : List ℕ) → Doing Frame (Unit {0})
  finish_all [] = pure tt
  finish_all (x ∷ more) = finish x >> finish_all more

  -- in whatever way it is left
  abbrev pub scoped : {A : Type 0} → List Local → (numbers : List ℕ) → Doing Frame A → Doing Frame A
  scoped locals numbers body = do
    a ← begin_all locals numbers
    x ← body
    b ← finish_all numbers
    pure x

  -- where a declaration without an initializer is reached, the object is empty again
  abbrev pub emptied : (local type : ℕ) → Option Slot → Doing Frame (Unit {0})
  emptied x type (Some (in_block (Some b))) = memory_now >>= λ m. with_memory (with_cells m b 0 (replicate (size_at p type) Empty))
  emptied x type (Some (by_name v)) = with_slot x (by_name None)
  emptied x type s = pure tt

  abbrev pub frame_of : FunctionData → Frame
  frame_of g = map empty_slot (all_locals g)
