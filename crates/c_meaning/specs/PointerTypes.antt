-- The typing fact of pointers, of a set of records that is given as a predicate on their numbers: a pointer to one of these records, and no other
-- pointer, names the blocks that were allocated for it; their padding holds nothing; and no load reads padding.
use Rattle.std.specs.Prelude.{◌≡◌, ℕ, ◌+◌, ◌*◌, ◌<◌, ◌≤◌, List, [], ◌∷◌, length, Some, slice_get}
use Rattle.std.specs.List.{All}
use Rattle.c_types.specs.Types.{pointer, structure}
use Rattle.c_typed.specs.declared.program.Local.{Local}
use Rattle.c_typed.specs.Programs.{ProgramData}
use Rattle.memory_words.specs.declared.cell_words.cell.Cell.{Cell}
use Rattle.memory_words.specs.declared.cell_words.cell.Cell.TheVariants.{Empty, Byte, Fragment}
use Rattle.memory_words.specs.declared.cell_words.pointer.Ptr.{Ptr}
use Rattle.memory_words.specs.declared.cell_words.pointer.Ptr.TheVariants as P
use Rattle.block_memory.specs.Blocks.{Memory, block, cells_in, size}
use Rattle.block_memory.specs.RunWorlds.Events.{Event, loaded}
use Rattle.block_memory.specs.RunWorlds.Worlds.{World}
use Rattle.block_memory.specs.declared.run_worlds.value.Value.TheVariants.{Pointer as pointer_value}
use Rattle.c_meaning.specs.Frames.{Frame}
use Rattle.c_meaning.specs.declared.frame.Slot.TheVariants.{ByName as by_name}
use Rattle.c_meaning.specs.Program.{type_at}
use Rattle.c_meaning.specs.Allocations.{HasElements, IsAsTold, LiesInField, Made, byte_of_record, made_for, record_size}

-- a set of records
abbrev pub Records : Type 1
Records = (r : ℕ) → Type 0

-- ---- one pointer

-- the type of that number is `T *`, T being record r
abbrev pub IsPointerTo : ProgramData → (type r : ℕ) → Type 0
IsPointerTo p type r = type_at p type ≡ pointer (structure r)

-- an element of a block that was allocated for that record, or one past its last
pub record IsElement (p : ProgramData) (made : Made) (m : Memory) (r b at : ℕ) : Type 0 where
  pub allocated : made_for made b ≡ Some r
  pub index : ℕ
  pub begins : at ≡ index * record_size p r
  pub within : at ≤ size m b

abbrev pub PointsToElement : ProgramData → Made → Memory → (r : ℕ) → Ptr → Type 0
PointsToElement p made m r P.Null = Unit {0}
PointsToElement p made m r (P.Block b at) = IsElement p made m r b at
PointsToElement p made m r (P.Function f) = ⊥

-- a block that is there and was allocated for none of the records. One that is not there yet might still be allocated for one of them
pub record IsElsewhere (among : Records) (made : Made) (m : Memory) (b : ℕ) : Type 0 where
  pub is_there : b < length m
  pub for_none : (r : ℕ) → among r → made_for made b ≡ Some r → ⊥

abbrev pub PointsElsewhere : Records → Made → Memory → Ptr → Type 0
PointsElsewhere among made m (P.Block b at) = IsElsewhere among made m b
PointsElsewhere among made m q = Unit {0}

-- what a pointer of the type with that number may point to. The argument of `free` is a `void *` and, during that call, excepted.
pub record MayPoint (p : ProgramData) (among : Records) (made : Made) (m : Memory) (type : ℕ) (q : Ptr) : Type 0 where
  pub to_record : (r : ℕ) → among r → IsPointerTo p type r → PointsToElement p made m r q
  pub to_other : ((r : ℕ) → among r → IsPointerTo p type r → ⊥) → PointsElsewhere among made m q

-- ---- memory

abbrev pub IsTypedCell : ProgramData → Records → Made → Memory → Cell → Type 0
IsTypedCell p among made m (Fragment type q k) = MayPoint p among made m type q
IsTypedCell p among made m c = Unit {0}

-- what padding holds: nothing that was stored or, as after `calloc`, zero
abbrev pub IsClear : Cell → Type 0
IsClear Empty = Unit {0}
IsClear (Byte x) = x ≡ 0
IsClear (Fragment type q k) = ⊥

pub record PointersAreTyped (p : ProgramData) (among : Records) (made : Made) (m : Memory) : Type 0 where
  pub each : length made ≡ length m
  pub whole : (b r : ℕ) → among r → made_for made b ≡ Some r → HasElements p r (block m b)
  pub pointers : All (λ one. All (IsTypedCell p among made m) (cells_in one.contents)) m
  pub padding : (b r at : ℕ) (c : Cell) → among r → made_for made b ≡ Some r → slice_get (cells_in (block m b).contents) at ≡ Some c
      → (LiesInField p r (byte_of_record p r at) → ⊥) → IsClear c

-- ---- accesses: each byte of a load from such a block lies in a field

abbrev pub LiesInFields : ProgramData → Records → Made → (b at width : ℕ) → Type 0
LiesInFields p among made b at width = (r k : ℕ) → among r → made_for made b ≡ Some r → k < width → LiesInField p r (byte_of_record p r (at + k))

abbrev pub LoadsReadFields : ProgramData → Records → Made → List Event → Type 0
LoadsReadFields p among made [] = Unit {0}
LoadsReadFields p among made (loaded b at width ∷ before) = LiesInFields p among made b at width × LoadsReadFields p among made before
LoadsReadFields p among made (event ∷ before) = LoadsReadFields p among made before

-- ---- a state between two steps

-- the pointers that a function keeps by name, among its locals
abbrev pub LocalsAreTyped : ProgramData → Records → Made → Memory → List Local → Frame → Type 0
LocalsAreTyped p among made m locals f = (x : ℕ) (l : Local) (q : Ptr) → slice_get locals x ≡ Some l
    → slice_get f x ≡ Some (by_name (Some (pointer_value q))) → MayPoint p among made m l.ty q

pub record IsTypedWorld (p : ProgramData) (among : Records) (w : World) : Type 0 where
  pub made : Made
  pub told : IsAsTold w.trace made
  pub memory : PointersAreTyped p among made w.memory
  pub loads : LoadsReadFields p among made w.trace
