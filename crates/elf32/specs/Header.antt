-- The header of an ELF32 file and its program headers, where they stand in the bytes
-- (System V ABI, ELF Header and Program Header; all numbers little-endian).
use Rattle.std.specs.Prelude.{ℕ, zero, suc, ◌+◌, ◌*◌, ◌^◌, ◌==◌, List, [], ◌∷◌, slice_index, filter}
use Rattle.elf32.specs.declared.header.ProgramHeader.{ProgramHeader}

-- numbers of two and of four bytes
abbrev pub half_at : List ℕ → ℕ → ℕ
half_at bytes i = slice_index bytes i + 2 ^ 8 * slice_index bytes (i + 1)

abbrev pub word_at : List ℕ → ℕ → ℕ
word_at bytes i = slice_index bytes i + 2 ^ 8 * slice_index bytes (i + 1) + 2 ^ 16 * slice_index bytes (i + 2) + 2 ^ 24 * slice_index bytes (i + 3)

-- ---- the file header

-- the ELF magic number: 7F 45 4C 46
abbrev pub magic : ℕ
magic = 0x464C457F

abbrev pub entry : List ℕ → ℕ
entry bytes = word_at bytes 24

-- where the program headers stand, how long each is, and how many there are
abbrev pub headers_offset : List ℕ → ℕ
headers_offset bytes = word_at bytes 28

abbrev pub header_size : List ℕ → ℕ
header_size bytes = half_at bytes 42

abbrev pub header_count : List ℕ → ℕ
header_count bytes = half_at bytes 44

-- ---- program headers

-- of the 32 bytes from a place on, the fields that a loader reads: `ProgramHeader` of src/header.rt
abbrev pub header_at : List ℕ → ℕ → ProgramHeader
header_at bytes i = record {
  kind = word_at bytes i;
  offset = word_at bytes (i + 4);
  address = word_at bytes (i + 8);
  file_size = word_at bytes (i + 16);
  memory_size = word_at bytes (i + 20);
  flags = word_at bytes (i + 24);
}

-- so many headers from a place on, each of 32 bytes
abbrev pub headers_from : List ℕ → (at count : ℕ) → List ProgramHeader
headers_from bytes at zero = []
headers_from bytes at (suc n) = header_at bytes at ∷ headers_from bytes (at + 32) n

-- the headers of segments that are to be loaded
abbrev pub loadable : List ℕ → List ProgramHeader
loadable bytes = filter (λ h. h.kind == 1) (headers_from bytes (headers_offset bytes) (header_count bytes))
