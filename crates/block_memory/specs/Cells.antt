-- Cells behind one another.
use Rattle.std.specs.Prelude.{◌≡◌, ℕ, ◌+◌, ◌*◌, ◌<◌, ◌≤◌, List, [], ◌∷◌, ◌++◌, length, take, drop, slice_index_or}
use Rattle.memory_words.specs.declared.cell_words.cell.Cell.{Cell}
use Rattle.memory_words.specs.declared.cell_words.cell.Cell.TheVariants.{Empty}
use Rattle.memory_words.specs.declared.cell_words.word.Four.{Four}

-- all cells of groups of four
abbrev pub flat : List Four → List Cell
flat [] = []
flat (four ∷ more) = four.a ∷ four.b ∷ four.c ∷ four.d ∷ flat more

-- past the last one there is none, which is as one that holds nothing
abbrev pub cell_at : List Cell → ℕ → Cell
cell_at all i = slice_index_or all i Empty

-- so many from an offset on
abbrev pub range : List Cell → (at count : ℕ) → List Cell
range all at count = take count (drop at all)

-- the cells with others from an offset on
abbrev pub over : List Cell → (at : ℕ) → List Cell → List Cell
over all at new = take at all ++ new ++ drop (at + length new) all

-- so many groups are moved down, and what lies before and behind is as it was; what is left where they were is any
pub record IsShifted (old new : List Cell) (from to count : ℕ) : Type 0 where
  pub long : length new ≡ length old
  pub before : (n : ℕ) → n < 4 * to → cell_at new n ≡ cell_at old n
  pub moved : (n : ℕ) → n < 4 * count → cell_at new (4 * to + n) ≡ cell_at old (4 * from + n)
  pub behind : (n : ℕ) → 4 * (from + count) ≤ n → cell_at new n ≡ cell_at old n
