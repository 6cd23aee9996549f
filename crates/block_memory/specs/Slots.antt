-- What is kept of each block: whether it lives, and where its cells lie.
use Rattle.std.specs.Prelude.{◌≡◌, ℕ, zero, suc, ◌+◌, ◌*◌, ◌/◌, ◌%◌, ◌==◌, ◌<◌, ◌≤◌, ◌^◌, Bool, true, false, ◌&&◌, nat_lt, List, length, map, slice_index_or}
use Rattle.memory_words.specs.declared.cell_words.cell.Cell.{Cell}
use Rattle.block_memory.specs.declared.kinds.BlockKind.{BlockKind}
use Rattle.block_memory.specs.declared.kinds.BlockKind.TheVariants.{Global, Text, Local, Heap}
use Rattle.block_memory.specs.declared.slot.CompactSlot.{CompactSlot}
use Rattle.block_memory.specs.declared.slot.Slot.{Slot}
use Rattle.block_memory.specs.Blocks.{Block, Contents, Memory, living, ended}
use Rattle.block_memory.specs.Cells.{range}

-- ---- slots

-- past the last one there is none, which is as one that has ended
abbrev pub no_slot : Slot
no_slot = record { kind = Local; live = false; start = 0; size = 0 }

abbrev pub slot_at : List Slot → ℕ → Slot
slot_at slots b = slice_index_or slots b no_slot

-- how many words a block of so many cells takes
abbrev pub words_for : (size : ℕ) → ℕ
words_for size = (size + 3) / 4

-- the word behind those of a block
abbrev pub end_of : Slot → ℕ
end_of slot = slot.start + words_for slot.size

-- a live block that has cells
abbrev pub holds : Slot → Bool
holds slot = slot.live && nat_lt 0 slot.size

-- ---- a slot in eight bytes

abbrev pub kind_of : (code : ℕ) → BlockKind
kind_of zero = Global
kind_of (suc zero) = Text
kind_of (suc (suc zero)) = Local
kind_of (suc (suc (suc code))) = Heap

-- two bits for the kind, one for whether it lives, and the rest for its first word
abbrev pub expanded : CompactSlot → Slot
expanded p = record { kind = kind_of (p.word % 4); live = p.word / 4 % 2 == 1; start = p.word / 8; size = p.size }

-- ---- the memory

abbrev pub contents_in : List Cell → (live : Bool) → (start size : ℕ) → Contents
contents_in cells true start size = living (range cells (4 * start) size)
contents_in cells false start size = ended size

abbrev pub block_in : List Cell → Slot → Block
block_in cells slot = record { kind = slot.kind; contents = contents_in cells slot.live slot.start slot.size }

abbrev pub memory_in : List Slot → List Cell → Memory
memory_in slots cells = map (block_in cells) slots

-- what always holds: the cells of live blocks are there, apart from each other, in the order of the blocks, and before the first free word
pub record IsSound (slots : List Slot) (cells : List Cell) (free : ℕ) : Type 0 where
  pub small : free < 2 ^ 29
  pub within : 4 * free ≤ length cells
  pub there : (b : ℕ) → (slot_at slots b).live ≡ true → 4 * (slot_at slots b).start + (slot_at slots b).size ≤ length cells
  pub ends : (b : ℕ) → holds (slot_at slots b) ≡ true → end_of (slot_at slots b) ≤ free
  pub apart : (b c : ℕ) → b < c → holds (slot_at slots b) ≡ true → holds (slot_at slots c) ≡ true → end_of (slot_at slots b) ≤ (slot_at slots c).start
