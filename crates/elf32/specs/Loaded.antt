-- The image that the bytes of an ELF file load as, or the first field that the loader refuses.
use Rattle.std.specs.Prelude.{ℕ, ◌+◌, ◌*◌, ◌%◌, ◌^◌, min, max, nat_lt, ◌==◌, ◌&&◌, ◌||◌, Bool, not, List, [], ◌∷◌, ◌++◌, map, take, drop, length}
use Rattle.std.specs.Prelude.{slice_index, sum_by, if◌then◌else◌, Option, Some, None, Result, Ok, Err}
use Rattle.std.specs.List.{list_any}
use Rattle.lay_base.specs.declared.faults.ElfField.{ElfField}
use Rattle.lay_base.specs.declared.faults.ElfField.TheVariants.{Length, Magic, Class, Data, Ident, Kind, Machine, Version, HeaderSize, Headers}
use Rattle.lay_base.specs.declared.faults.ElfField.TheVariants.{Loads, FileRange, Sizes, Address, Overlap, Total, Entry}
use Rattle.rv_isa.specs.declared.image.Image.{Image}
use Rattle.rv_isa.specs.declared.image.Segment.{Segment}
use Rattle.elf32.specs.declared.header.ProgramHeader.{ProgramHeader}
use Rattle.elf32.specs.Header.{half_at, word_at, magic, entry, headers_offset, header_size, header_count, loadable}

-- ---- tests, in their order

-- a test of a field: does it refuse, and with which number
pub record Test : Type 0 where
  pub field : ElfField
  pub refuses : Bool
  pub found : ℕ

abbrev pub test : ElfField → Bool → ℕ → Test
test field refuses found = record { field = field; refuses = refuses; found = found }

-- the field is to have one number
abbrev pub wants : ElfField → (wanted found : ℕ) → Test
wants field wanted found = test field (not (found == wanted)) found

-- the number of bytes, and what the file header says of the kind of file
abbrev pub file_tests : List ℕ → List Test
file_tests bytes =
    test Length (nat_lt (length bytes) 52) (length bytes)
    ∷ wants Magic magic (word_at bytes 0)
    ∷ wants Class 1 (slice_index bytes 4)
    ∷ wants Data 1 (slice_index bytes 5)
    ∷ wants Ident 1 (slice_index bytes 6)
    ∷ wants Kind 2 (half_at bytes 16)
    ∷ wants Machine 243 (half_at bytes 18)
    ∷ wants Version 1 (word_at bytes 20)
    ∷ test HeaderSize (not (header_count bytes == 0) && not (header_size bytes == 32)) (header_size bytes)
    ∷ test Headers (nat_lt (length bytes) (headers_offset bytes + 32 * header_count bytes)) (headers_offset bytes)
    ∷ test Loads (length (loadable bytes) == 0 || nat_lt 16 (length (loadable bytes))) (length (loadable bytes))
    ∷ []

-- both segments have some address
abbrev pub meets : ProgramHeader → ProgramHeader → Bool
meets a b = nat_lt (max a.address b.address) (min (a.address + a.memory_size) (b.address + b.memory_size))

-- of a segment with those that stand before it
abbrev pub segment_tests : (file_length : ℕ) → (earlier : List ProgramHeader) → ProgramHeader → List Test
segment_tests file_length earlier h =
    test FileRange (nat_lt file_length (h.offset + h.file_size)) h.offset
    ∷ test Sizes (nat_lt h.memory_size h.file_size) h.memory_size
    ∷ test Address (nat_lt (2 ^ 32) (h.address + h.memory_size)) h.address
    ∷ test Overlap (list_any (meets h) earlier) h.address
    ∷ []

-- of all segments, one after the other
abbrev pub segments_tests : (file_length : ℕ) → (earlier later : List ProgramHeader) → List Test
segments_tests file_length earlier [] = []
segments_tests file_length earlier (h ∷ hs) = segment_tests file_length earlier h ++ segments_tests file_length (earlier ++ h ∷ []) hs

-- the greatest sum of memory sizes: 1280 MiB
abbrev pub greatest_total : ℕ
greatest_total = 1342177280

abbrev pub total : List ℕ → ℕ
total bytes = sum_by (λ h. h.memory_size) (loadable bytes)

abbrev pub last_tests : List ℕ → List Test
last_tests bytes = test Total (nat_lt greatest_total (total bytes)) (total bytes) ∷ test Entry (not (entry bytes % 4 == 0)) (entry bytes) ∷ []

abbrev pub tests : List ℕ → List Test
tests bytes = file_tests bytes ++ (segments_tests (length bytes) [] (loadable bytes) ++ last_tests bytes)

-- the first that refuses
abbrev pub first_refusal : List Test → Option Test
first_refusal [] = None
first_refusal (t ∷ ts) = if t.refuses then Some t else first_refusal ts

-- ---- the image

-- a segment has its bytes of the file; its flags are the low byte of the header's
abbrev pub segment_of : List ℕ → ProgramHeader → Segment
segment_of bytes h = record { at = h.address; size = h.memory_size; flags = h.flags % 2 ^ 8; bytes = take h.file_size (drop h.offset bytes) }

abbrev pub image_of : List ℕ → Image
image_of bytes = record { entry = entry bytes; segments = map (segment_of bytes) (loadable bytes) }

-- a refused field with the number that was found there
abbrev pub unless_refused : Option Test → Image → Result Image (ElfField × ℕ)
unless_refused None image = Ok image
unless_refused (Some t) image = Err (t.field, t.found)

unfoldable pub loaded : List ℕ → Result Image (ElfField × ℕ)
loaded bytes = unless_refused (first_refusal (tests bytes)) (image_of bytes)
