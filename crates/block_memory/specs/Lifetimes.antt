-- When blocks begin and end (C99 6.2.4, 7.20.3).
use Rattle.std.specs.Prelude.{ℕ, zero, suc, Bool, true, false, ◌&&◌, if◌then◌else◌, [], ◌∷◌, ◌++◌, replicate, slice_set, Ok, Err}
use Rattle.lay_base.specs.declared.faults.UndefinedKind.TheVariants.{Free}
use Rattle.memory_words.specs.declared.cell_words.cell.Cell.TheVariants.{Empty}
use Rattle.block_memory.specs.declared.kinds.BlockKind.{BlockKind}
use Rattle.block_memory.specs.declared.kinds.BlockKind.TheVariants.{Heap}
use Rattle.memory_words.specs.declared.cell_words.pointer.Ptr.{Ptr}
use Rattle.memory_words.specs.declared.cell_words.pointer.Ptr.TheVariants as P
use Rattle.block_memory.specs.Blocks.{Memory, living, ended, kind, is_live, size}
use Rattle.block_memory.specs.Tested.{Tested}

-- a new block holds nothing that was stored; its number is that of the blocks before it
abbrev pub with_block : Memory → (size : ℕ) → BlockKind → Memory
with_block m size kind = m ++ record { kind = kind; contents = living (replicate size Empty) } ∷ []

-- the lifetime of a block ends
abbrev pub with_end : Memory → ℕ → Memory
with_end m b = slice_set m b (record { kind = kind m b; contents = ended (size m b) })

abbrev pub is_heap : BlockKind → Bool
is_heap Heap = true
is_heap kind = false

-- `free` ends an allocation, and of a null pointer does nothing; any pointer but one to the beginning of a live allocation is undefined
-- (7.20.3.2)
abbrev pub free : Memory → Ptr → Tested Memory
free m P.Null = Ok m
free m (P.Block b zero) = if is_live m b && is_heap (kind m b) then Ok (with_end m b) else Err Free
free m (P.Block b (suc at)) = Err Free
free m (P.Function f) = Err Free
