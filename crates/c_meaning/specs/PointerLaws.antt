-- What is done to memory keeps the typing fact of pointers: a block is made, stored to, loaded from, copied to, cleared, and ended.
use Rattle.std.specs.Prelude.{◌≡◌, ℕ, ◌+◌, ◌*◌, ◌<◌, ◌≤◌, List, [], ◌∷◌, ◌++◌, length, replicate, Bool, Option, Some, IfOk, option_map, slice_get}
use Rattle.c_typed.specs.Programs.{ProgramData}
use Rattle.memory_words.specs.declared.cell_words.cell.Cell.{Cell}
use Rattle.memory_words.specs.declared.cell_words.cell.Cell.TheVariants.{Empty, Byte}
use Rattle.memory_words.specs.declared.cell_words.pointer.Ptr.{Ptr}
use Rattle.memory_words.specs.declared.cell_words.pointer.Ptr.TheVariants as P
use Rattle.block_memory.specs.declared.kinds.Access.{Access}
use Rattle.block_memory.specs.declared.kinds.Access.TheVariants.{Number, Pointer}
use Rattle.block_memory.specs.declared.kinds.BlockKind.{BlockKind}
use Rattle.block_memory.specs.Blocks.{Memory, block, cells_in, living, size, with_cells}
use Rattle.block_memory.specs.Lifetimes.{with_block, with_end, free}
use Rattle.block_memory.specs.Ranges.{copy}
use Rattle.block_memory.specs.RunWorlds.Events.{Event, allocated}
use Rattle.block_memory.specs.RunWorlds.Scalars.{load_in, store_in, pointer_of, width_of}
use Rattle.block_memory.specs.declared.run_worlds.value.Value.{Value}
use Rattle.c_meaning.specs.Allocations.{HasElements, IsAsTold, LiesInField, Made, byte_of_record, made_for, record_size}
use Rattle.c_meaning.specs.PointerTypes.{IsClear, IsPointerTo, LiesInFields, MayPoint, PointersAreTyped, Records}

module _ (p : ProgramData) (among : Records) where
  -- the fact holds of the memory that comes, and what a pointer that is kept elsewhere might point to, it still may
  pub record StaysTyped (made : Made) (m : Memory) (later : Made) (n : Memory) : Type 0 where
    pub memory : PointersAreTyped p among later n
    pub kept : (type : ℕ) (q : Ptr) → MayPoint p among made m type q → MayPoint p among later n type q

  -- a value that is loaded or stored
  abbrev pub IsTypedValue : Made → Memory → Access → Value → Type 0
  IsTypedValue made m (Number kind) v = Unit {0}
  IsTypedValue made m (Pointer type) v = MayPoint p among made m type (pointer_of v)

  -- for elements of one of the records, where it is made for them
  abbrev pub IsMadeFor : (size : ℕ) → BlockKind → Option ℕ → Type 0
  IsMadeFor size kind record_made = (r : ℕ) → among r → record_made ≡ Some r → HasElements p r (record { kind = kind; contents = living (replicate size Empty) })

  -- the type of the pointer to a new block
  pub record IsTypeOf (type : ℕ) (record_made : Option ℕ) : Type 0 where
    pub of_record : (r : ℕ) → among r → IsPointerTo p type r → record_made ≡ Some r
    pub of_other : ((r : ℕ) → among r → IsPointerTo p type r → ⊥) → (r : ℕ) → among r → record_made ≡ Some r → ⊥

  -- what is copied into padding is clear
  abbrev pub CopiesClear : Made → Memory → (to from : Ptr) → (count : ℕ) → Type 0
  CopiesClear made m (P.Block b at) (P.Block c start) count = (r k : ℕ) (cell : Cell) → among r → made_for made b ≡ Some r → k < count
      → (LiesInField p r (byte_of_record p r (at + k)) → ⊥) → slice_get (cells_in (block m c).contents) (start + k) ≡ Some cell → IsClear cell
  CopiesClear made m to from count = Unit {0}

  pub record OperationsKeepTypes (made : Made) (m : Memory) : Type 0 where
    -- a block, of any kind
    pub by_making : (size : ℕ) (kind : BlockKind) (record_made : Option ℕ) → IsMadeFor size kind record_made
        → StaysTyped made m (made ++ record_made ∷ []) (with_block m size kind)
    pub new_block : (size : ℕ) (kind : BlockKind) (record_made : Option ℕ) (type : ℕ) → IsTypeOf type record_made
        → MayPoint p among (made ++ record_made ∷ []) (with_block m size kind) type (P.Block (length m) 0)
    pub as_told : (trace : List Event) (elements : Option (ℕ × ℕ)) (size : ℕ) → IsAsTold trace made
        → IsAsTold (allocated (length m) elements size ∷ trace) (made ++ option_map (λ e. e.0) elements ∷ [])
    pub by_storing : (b at : ℕ) (access : Access) (v : Value) → IsTypedValue made m access v → LiesInFields p among made b at (width_of access)
        → IfOk (store_in m (P.Block b at) access v) (λ n. StaysTyped made m made n)
    pub by_loading : (q : Ptr) (access : Access) → IfOk (load_in m q access) (λ v. IsTypedValue made m access v)
    pub by_copying : (to from : Ptr) (count : ℕ) (overlap : Bool) → CopiesClear made m to from count
        → IfOk (copy m to from count overlap) (λ n. StaysTyped made m made n)
    -- as where elements of a record are copied to others of it, from one on to one on
    pub whole_elements : (r b c i j count : ℕ) → among r → made_for made b ≡ Some r → made_for made c ≡ Some r
        → CopiesClear made m (P.Block b (i * record_size p r)) (P.Block c (j * record_size p r)) count
    -- an allocation that is cleared
    pub by_clearing : (b count : ℕ) → count ≤ size m b → StaysTyped made m made (with_cells m b 0 (replicate count (Byte 0)))
    pub by_ending : (b : ℕ) → StaysTyped made m made (with_end m b)
    pub by_freeing : (q : Ptr) → IfOk (free m q) (λ n. StaysTyped made m made n)
