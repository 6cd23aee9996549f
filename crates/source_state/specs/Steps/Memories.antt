-- What is done to memory, with the count of the bytes that live.
use Rattle.std.specs.Prelude.{ℕ, ◌+◌, ◌-◌, ◌%◌, ◌^◌, Bool, true, false, nat_lt, if◌then◌else◌, List, map, length, replicate, Ok, Err}
use Rattle.std.specs.Int.{w32, cast_unsigned}
use Rattle.lay_base.specs.declared.faults.RoomKind.TheVariants.{Live}
use Rattle.lay_base.specs.declared.faults.UndefinedKind.TheVariants.{Dead}
use Rattle.memory_words.specs.declared.cell_words.cell.Cell.{Cell}
use Rattle.memory_words.specs.declared.cell_words.cell.Cell.TheVariants.{Byte}
use Rattle.block_memory.specs.declared.kinds.BlockKind.{BlockKind}
use Rattle.block_memory.specs.declared.kinds.BlockKind.TheVariants.{Heap}
use Rattle.memory_words.specs.declared.cell_words.pointer.Ptr.{Ptr}
use Rattle.memory_words.specs.declared.cell_words.pointer.Ptr.TheVariants as P
use Rattle.block_memory.specs.Blocks.{Memory, is_live, size, with_cells}
use Rattle.block_memory.specs.Lifetimes as Lifetimes
use Rattle.block_memory.specs.Lifetimes.{with_block, with_end}
use Rattle.block_memory.specs.Ranges as Ranges
use Rattle.block_memory.specs.Tested.{Tested, ◌>>=◌}
use Rattle.block_memory.specs.declared.run_worlds.value.Value.{Value}
use Rattle.block_memory.specs.declared.run_worlds.value.Value.TheVariants.{Word, Pointer}
use Rattle.block_memory.specs.RunWorlds.Worlds.{greatest_live}
use Rattle.block_memory.specs.RunWorlds.LibraryCalls.{is_same_place}
use Rattle.c_meaning.specs.declared.frame.Spot.{Spot}
use Rattle.c_meaning.specs.declared.frame.Spot.TheVariants.{Placed}
use Rattle.source_state.specs.Steps.Cores.{Core, Does, and_then, done}
use Rattle.source_state.specs.declared.ends.Final.TheVariants.{Room}

abbrev pub with_memory : Memory → Core → Core
with_memory m c = record c { memory = m }

abbrev pub changed : Tested Memory → Core → Tested Core
changed r c = r >>= λ m. Ok (with_memory m c)

-- the bytes that live in a block
abbrev pub living_size : Memory → (block : ℕ) → ℕ
living_size m b = if is_live m b then size m b else 0

-- cells are put into a block without a test. Where all lie within it, as many bytes live as before
abbrev pub put_cells : (block offset : ℕ) → List Cell → Core → Core
put_cells b at cells c = record c {
  memory = with_cells c.memory b at cells;
  live = c.live + living_size (with_cells c.memory b at cells) b - living_size c.memory b;
}

-- ---- blocks begin and end

-- a new block, by its number
abbrev pub make : (size : ℕ) → BlockKind → Core → Does ℕ
make size kind c =
    if nat_lt greatest_live (c.live + size) then (Err (Room Live (c.live + size)), c)
    else (Ok (length c.memory), record c { memory = with_block c.memory size kind; live = c.live + size })

abbrev pub end : (block : ℕ) → Core → Core
end b c = record c { memory = with_end c.memory b; live = c.live - living_size c.memory b }

abbrev pub freed_size : Memory → Ptr → ℕ
freed_size m (P.Block b at) = living_size m b
freed_size m p = 0

abbrev pub free : Ptr → Core → Tested Core
free p c = Lifetimes.free c.memory p >>= λ m. Ok (record c { memory = m; live = c.live - freed_size c.memory p })

-- ---- allocations

abbrev pub zeroed : Bool → (block size : ℕ) → Core → Core
zeroed false b size c = c
zeroed true b size c = put_cells b 0 (replicate size (Byte 0)) c

abbrev pub allocate : (size : ℕ) → (zero : Bool) → Core → Does Value
allocate size zero c = and_then (make size Heap c) (λ b c. done (Pointer (P.Block b 0)) (zeroed zero b size c))

-- ---- ranges of bytes

abbrev pub copy : (to from : Ptr) → (count : ℕ) → (overlap : Bool) → Core → Tested Core
copy to from count overlap c = changed (Ranges.copy c.memory to from count overlap) c

abbrev pub fill : (to : Ptr) → (byte count : ℕ) → Core → Tested Core
fill to byte count c = changed (Ranges.fill c.memory to (byte % 2 ^ 8) count) c

abbrev pub compare : (p q : Ptr) → (count : ℕ) → Core → Tested Value
compare p q count c = Ranges.compare c.memory p q count >>= λ z. Ok (Word (cast_unsigned w32 z))

abbrev pub copy_record : (size : ℕ) → (to from : Spot) → Core → Tested Core
copy_record size (Placed q) (Placed r) c = copy q r size (is_same_place q r) c
copy_record size to from c = Err Dead

-- a part of a block becomes those bytes
abbrev pub with_text : (block offset : ℕ) → List ℕ → Core → Core
with_text b offset bytes c = put_cells b offset (map Byte bytes) c
