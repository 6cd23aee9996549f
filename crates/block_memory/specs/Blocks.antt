-- Memory as blocks of cells (C99 6.2.4, 6.2.6.1).
use Rattle.std.specs.Prelude.{ℕ, ◌+◌, Bool, true, false, List, [], ◌++◌, length, take, drop, slice_get, slice_set, unwrap_or}
use Rattle.memory_words.specs.declared.cell_words.cell.Cell.{Cell}
use Rattle.block_memory.specs.declared.kinds.BlockKind.{BlockKind}
use Rattle.block_memory.specs.declared.kinds.BlockKind.TheVariants.{Local}

pub data Contents : Type 0 where
  -- a cell for each byte
  living : (cells : List Cell) → Contents
  -- a block whose lifetime has ended keeps its size
  ended : (size : ℕ) → Contents

pub record Block : Type 0 where
  pub kind : BlockKind
  pub contents : Contents

-- blocks are numbered in the order of their making, and no number is used again
abbrev pub Memory : Type 0
Memory = List Block

-- ---- what a block is

abbrev pub lives_in : Contents → Bool
lives_in (living cells) = true
lives_in (ended size) = false

abbrev pub size_in : Contents → ℕ
size_in (living cells) = length cells
size_in (ended size) = size

abbrev pub cells_in : Contents → List Cell
cells_in (living cells) = cells
cells_in (ended size) = []

-- past the last one there is none, which is as one that has ended
abbrev pub block : Memory → ℕ → Block
block m b = unwrap_or (slice_get m b) (record { kind = Local; contents = ended 0 })

abbrev pub kind : Memory → ℕ → BlockKind
kind m b = (block m b).kind

abbrev pub is_live : Memory → ℕ → Bool
is_live m b = lives_in (block m b).contents

-- in bytes
abbrev pub size : Memory → ℕ → ℕ
size m b = size_in (block m b).contents

-- ---- cells in a row

-- so many from an offset on
abbrev pub cells : Memory → (b at count : ℕ) → List Cell
cells m b at count = take count (drop at (cells_in (block m b).contents))

-- with others from an offset on
abbrev pub overwritten : Contents → (at : ℕ) → List Cell → Contents
overwritten (living all) at new = living (take at all ++ new ++ drop (at + length new) all)
overwritten (ended size) at new = ended size

abbrev pub with_cells : Memory → (b at : ℕ) → List Cell → Memory
with_cells m b at new = slice_set m b (record { kind = kind m b; contents = overwritten (block m b).contents at new })
