-- How the machine keeps its memory: all segments' bytes in one list, and a row for each segment that
-- says where among the bytes it stands.
use Rattle.std.specs.Prelude.{◌≡◌, ℕ, ◌+◌, ◌-◌, ◌/◌, ◌%◌, ◌^◌, ◌<◌, ◌≤◌, ◌==◌, true, Bool, if◌then◌else◌, List, [], ◌∷◌, map, slice_index, slice_set}
use Rattle.std.specs.Prelude.{All, Option, Some, None, bit_and}
use Rattle.rv_isa.specs.declared.image.Segment.{Segment}
use Rattle.rv_isa.specs.Memory.{Memory, is_in, are_mapped}
use Rattle.rv_machine.specs.declared.rows.Row.{Row}

-- ---- what rows stand for

-- the segment of a row, without the bytes that it began with
abbrev pub segment_of : Row → Segment
segment_of row = record { at = row.at; size = row.size; flags = row.flags; bytes = [] }

abbrev pub segments_of : List Row → List Segment
segments_of rows = map segment_of rows

abbrev pub holds : Row → (address : ℕ) → Bool
holds row address = is_in (segment_of row) address

abbrev pub allows : Row → (flag : ℕ) → Bool
allows row flag = bit_and row.flags flag == flag

-- the first row that has the address
abbrev pub row_at : List Row → (address : ℕ) → Option Row
row_at [] address = None
row_at (row ∷ rows) address = if holds row address then Some row else row_at rows address

-- the place of an address among the bytes
abbrev pub place_in : Row → (address : ℕ) → ℕ
place_in row address = row.start + (address - row.at)

abbrev pub byte_in : List ℕ → Option Row → (address : ℕ) → ℕ
byte_in bytes None address = 0
byte_in bytes (Some row) address = slice_index bytes (place_in row address)

abbrev pub memory_of : List Row → List ℕ → Memory
memory_of rows bytes address = byte_in bytes (row_at rows address) address

-- ---- what holds of the rows of a machine

-- the row is among the rows, where it has any address: each of its addresses is found in it, and stands
-- within so many bytes
pub record Serves (rows : List Row) (size : ℕ) (row : Row) : Type 0 where
  pub end : row.at + row.size ≤ 2 ^ 32
  pub place : row.start + row.size ≤ size
  pub found : (address : ℕ) → holds row address ≡ true → row_at rows address ≡ Some row

-- at each address of the row begins a word whose bytes may all be used so: where the row has any address,
-- it serves with three addresses more
pub record Begins (rows : List Row) (size flag : ℕ) (row : Row) : Type 0 where
  pub end : row.at + row.size ≤ 2 ^ 32
  pub place : row.start + row.size ≤ size
  pub serves : 0 < row.size → Serves rows size (record row { size = row.size + 3 })
  pub allowed : 0 < row.size → allows row flag ≡ true

-- each row serves, and no two addresses have one place
pub record AreSound (rows : List Row) (size : ℕ) : Type 0 where
  pub serve : All (Serves rows size) rows
  pub apart : (a b : ℕ) (r s : Row) → row_at rows a ≡ Some r → row_at rows b ≡ Some s → place_in r a ≡ place_in s b → a ≡ b

-- ---- a place that was found

-- the row has all bytes from an address on, allows the use, and the first stands at this place
pub record Covers (row : Row) (flag address width place : ℕ) : Type 0 where
  pub allowed : allows row flag ≡ true
  pub low : row.at ≤ address
  pub high : address + width ≤ row.at + row.size
  pub is_place : place ≡ place_in row address

-- bytes from an address on stand from this place on, one after the other, and may be used so
pub record IsFound (rows : List Row) (size flag address width place : ℕ) : Type 0 where
  pub within : place + width ≤ size
  pub mapped : are_mapped (segments_of rows) flag address width ≡ true
  pub at : (k : ℕ) → k < width → (r : Row) × (row_at rows (address + k) ≡ Some r) × (place_in r (address + k) ≡ place + k)

-- ---- bytes that are put at a place, the lowest first

abbrev pub half_put : List ℕ → (place value : ℕ) → List ℕ
half_put bytes place value = slice_set (slice_set bytes place (value % 2 ^ 8)) (place + 1) (value / 2 ^ 8 % 2 ^ 8)

abbrev pub word_put : List ℕ → (place value : ℕ) → List ℕ
word_put bytes place value = slice_set (slice_set (half_put bytes place value) (place + 2) (value / 2 ^ 16 % 2 ^ 8)) (place + 3) (value / 2 ^ 24)
