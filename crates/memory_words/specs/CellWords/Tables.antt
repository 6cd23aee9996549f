-- Words with their tables.
use Rattle.std.specs.Prelude.{◌≡◌, ℕ, ◌<◌, ◌≤◌, ◌^◌, false, List, Option, length, map, slice_set}
use Rattle.memory_words.specs.declared.cell_words.packed.Packed.{Packed}
use Rattle.memory_words.specs.declared.cell_words.table.Table.{Table}
use Rattle.memory_words.specs.declared.cell_words.word.Four.{Four}
use Rattle.memory_words.specs.declared.cell_words.word.Word.{Word}
use Rattle.memory_words.specs.CellWords.Words.{IsTable, four_at, four_of, four_of_group, four_of_pointer, is_tabled, group_place, nothing, pointer_place}
use Rattle.memory_words.specs.CellWords.Words.{word_at}

-- each place has its value, and there is room for so many
pub record HasRoom {A : Type 0} (n : ℕ) (table : Table A) : Type 0 where
  pub even : length table.values.items ≡ length table.owners.items
  pub values : n ≤ table.values.room
  pub owners : n ≤ table.owners.room

-- the cells of a word, and of all of them
abbrev pub cells_in : Packed → Word → Four
cells_in p = four_of (map four_of_pointer p.pointers.values.items) (map four_of_group p.groups.values.items)

abbrev pub fours_in : Packed → List Four
fours_in p = map (cells_in p) p.words.items

-- a table of words, with room for all of them
pub record IsRoomyTable {A : Type 0} (place : Word → Option ℕ) (words : List Word) (table : Table A) : Type 0 where
  pub owned : IsTable place words table.owners.items
  pub room : HasRoom (length words) table

-- what always holds
pub record IsPacked (p : Packed) : Type 0 where
  pub few : length p.words.items < 2 ^ 32
  pub pointers : IsRoomyTable pointer_place p.words.items p.pointers
  pub groups : IsRoomyTable group_place p.words.items p.groups

-- four cells came in place of a word's
pub record IsPut (i : ℕ) (f : Four) (old new : Packed) : Type 0 where
  pub packed : IsPacked new
  pub is : fours_in new ≡ slice_set (fours_in old) i f

-- a word stands in no table any more, and the others are as they were
pub record IsReleased (i : ℕ) (old new : Packed) : Type 0 where
  pub packed : IsPacked new
  pub long : length new.words.items ≡ length old.words.items
  pub plain : is_tabled (word_at new.words.items i) ≡ false
  pub same : (f : Four) → slice_set (fours_in new) i f ≡ slice_set (fours_in old) i f

-- a word moved in place of another one, and left nothing
pub record IsCarried (from to : ℕ) (old new : Packed) : Type 0 where
  pub packed : IsPacked new
  pub is : fours_in new ≡ slice_set (slice_set (fours_in old) to (four_at (fours_in old) from)) from nothing
