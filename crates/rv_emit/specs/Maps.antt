-- Where blocks stand in the machine's memory, and which numbers stand for values and cells.
use Rattle.std.specs.Prelude.{◌≡◌, ◌≢◌, ℕ, ◌+◌, ◌*◌, ◌/◌, ◌%◌, ◌^◌, ◌≤◌, List, [], length, Option, Some, slice_get, slice_index}
use Rattle.memory_words.specs.declared.cell_words.cell.Cell.{Cell}
use Rattle.memory_words.specs.declared.cell_words.cell.Cell.TheVariants as C
use Rattle.memory_words.specs.declared.cell_words.pointer.Ptr.{Ptr}
use Rattle.memory_words.specs.declared.cell_words.pointer.Ptr.TheVariants as P
use Rattle.block_memory.specs.declared.kinds.BlockKind.{BlockKind}
use Rattle.block_memory.specs.declared.kinds.BlockKind.TheVariants.{Local, Heap}
use Rattle.block_memory.specs.Blocks.{Memory, block, cells_in, kind, size}
use Rattle.block_memory.specs.declared.run_worlds.value.Value.{Value}
use Rattle.block_memory.specs.declared.run_worlds.value.Value.TheVariants.{Word as word, Pointer as pointer}
use Rattle.rv_isa.specs.Memory as M
use Rattle.rv_code.specs.declared.layout.Places.{Places}
use Rattle.tac_ir.specs.Code.{Code, RoutineData}

-- the bytes of a block: from which address on, and how many
pub record Extent : Type 0 where
  pub at : ℕ
  pub size : ℕ

-- of each block by its number. The list grows where a block begins, and stays where one ends
abbrev pub Extents : Type 0
Extents = List Extent

-- where the parts of the address space end
pub record Room : Type 0 where
  pub data_end : ℕ
  pub stack_end : ℕ
  pub heap_end : ℕ

-- the cell of a live block, where there is one
abbrev pub cell_of : Memory → (b i : ℕ) → Option Cell
cell_of m b i = slice_get (cells_in (block m b).contents) i

-- a function that has a body
abbrev pub HasBody : Code → (f : ℕ) → Type 0
HasBody c f = (g : RoutineData) × (slice_get c.routines f ≡ Some g) × (g.code ≢ [])

-- the k-th byte of a number, the lowest first
abbrev pub byte_of : (x k : ℕ) → ℕ
byte_of x k = x / 2 ^ (8 * k) % 2 ^ 8

-- in the part of the address space that is for blocks of that kind; the runtime's own data stand in front of the program's
abbrev pub Within : Room → BlockKind → Extent → Type 0
Within room Local e = (0x10000000 ≤ e.at) × (e.at + e.size ≤ room.stack_end)
Within room Heap e = (0x20000000 ≤ e.at) × (e.at + e.size ≤ room.heap_end)
Within room k e = (0x08000100 ≤ e.at) × (e.at + e.size ≤ room.data_end)

pub record IsPlaced (room : Room) (m : Memory) (b : ℕ) (e : Extent) : Type 0 where
  pub sized : size m b ≡ e.size
  pub whole : e.at % 4 ≡ 0
  pub within : Within room (kind m b) e

module _ (c : Code) (p : Places) where
  -- a number stands for a pointer: into its block, or one past its end
  abbrev pub Points : Extents → Ptr → ℕ → Type 0
  Points blocks P.Null x = x ≡ 0
  Points blocks (P.Block b at) x = (e : Extent) × (slice_get blocks b ≡ Some e) × (at ≤ e.size) × (x ≡ e.at + at)
  Points blocks (P.Function f) x = HasBody c f × (x ≡ slice_index p.entries f)

  abbrev pub Means : Extents → Value → ℕ → Type 0
  Means blocks (word n) x = x ≡ n
  Means blocks (pointer q) x = Points blocks q x

  -- a byte of memory shows a cell
  abbrev pub Shows : Extents → Cell → (byte : ℕ) → Type 0
  Shows blocks C.Empty byte = Unit {0}
  Shows blocks (C.Byte x) byte = byte ≡ x
  Shows blocks (C.Fragment type q k) byte = (x : ℕ) × Points blocks q x × (byte ≡ byte_of x k)

  -- Memory of blocks as memory of bytes. Who owns an address tells live blocks apart from each other and from all else: words of frames, what is not
  -- used, the data of the runtime
  pub record Flat (room : Room) (blocks : Extents) (owner : ℕ → Option ℕ) (m : Memory) (bytes : M.Memory) : Type 0 where
    -- each block has its bytes
    pub long : length blocks ≡ length m
    pub placed : (b : ℕ) (e : Extent) → slice_get blocks b ≡ Some e → IsPlaced room m b e
    -- each cell of a live block has its byte, which the block owns
    pub shows : (b i : ℕ) (e : Extent) (cell : Cell) → slice_get blocks b ≡ Some e → cell_of m b i ≡ Some cell → Shows blocks cell (bytes (e.at + i))
    pub owned : (b i : ℕ) (e : Extent) (cell : Cell) → slice_get blocks b ≡ Some e → cell_of m b i ≡ Some cell → owner (e.at + i) ≡ Some b
