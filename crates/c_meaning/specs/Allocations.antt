-- Which blocks were made by a recognised allocation (own): one of so many elements of a record.
use Rattle.std.specs.Prelude.{◌≡◌, ℕ, ◌+◌, ◌*◌, ◌%◌, ◌<◌, ◌≤◌, ◌==◌, if◌then◌else◌, List, [], ◌∷◌, Option, Some, None, option_map, slice_get, unwrap_or}
use Rattle.c_types.specs.Layouts.{offset_of, size_of}
use Rattle.c_types.specs.Types.{CType, structure}
use Rattle.c_typed.specs.Programs.{ProgramData}
use Rattle.c_typed.specs.Typed.{field_type}
use Rattle.block_memory.specs.declared.kinds.BlockKind.TheVariants.{Heap}
use Rattle.block_memory.specs.Blocks.{Block, size_in}
use Rattle.block_memory.specs.RunWorlds.Events.{Event, allocated}

-- for each block, in the order of their making, the record that a recognised allocation made it for, by its number; none for any other block
abbrev pub Made : Type 0
Made = List (Option ℕ)

abbrev pub made_for : Made → (b : ℕ) → Option ℕ
made_for made b = unwrap_or (slice_get made b) None

-- the same as the trace of a run tells it
abbrev pub allocated_for : List Event → (b : ℕ) → Option ℕ
allocated_for [] b = None
allocated_for (allocated c elements size ∷ before) b = if c == b then option_map (λ e. e.0) elements else allocated_for before b
allocated_for (event ∷ before) b = allocated_for before b

abbrev pub IsAsTold : List Event → Made → Type 0
IsAsTold trace made = (b : ℕ) → made_for made b ≡ allocated_for trace b

-- ---- records, by their numbers

-- in bytes
abbrev pub record_size : ProgramData → (r : ℕ) → ℕ
record_size p r = size_of p.records (structure r)

-- at that byte of a record lies a declared field; at all others lies padding (C99 6.7.2.1)
pub record LiesInField (p : ProgramData) (r at : ℕ) : Type 0 where
  pub field : ℕ
  pub type : CType
  pub declared : field_type p.records r field ≡ Some type
  pub from : offset_of p.records r field ≤ at
  pub to : at < offset_of p.records r field + size_of p.records type

-- in a block of such records one stands behind another
abbrev pub byte_of_record : ProgramData → (r at : ℕ) → ℕ
byte_of_record p r at = at % record_size p r

-- an allocation of so many whole records, whether it lives or not
pub record HasElements (p : ProgramData) (r : ℕ) (block : Block) : Type 0 where
  pub heap : block.kind ≡ Heap
  pub count : ℕ
  pub whole : size_in block.contents ≡ count * record_size p r
