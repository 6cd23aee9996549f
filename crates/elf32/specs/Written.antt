-- The file that is written for an image of four segments: text, data, stack and heap.
use Rattle.std.specs.Prelude.{◌≡◌, ℕ, ◌+◌, ◌-◌, ◌*◌, ◌/◌, ◌%◌, ◌^◌, ◌≤◌, List, [], ◌∷◌, ◌++◌, length, replicate}
use Rattle.std.specs.Int.{w16, w32, to_le_bytes}
use Rattle.rv_isa.specs.declared.image.Image.{Image}
use Rattle.rv_isa.specs.declared.image.Segment.{Segment}

-- ---- the memory map

abbrev pub text_address : ℕ
text_address = 0x00010000

abbrev pub data_address : ℕ
data_address = 0x08000000

abbrev pub stack_address : ℕ
stack_address = 0x10000000

abbrev pub heap_address : ℕ
heap_address = 0x20000000

-- a segment whose bytes are all in the file
pub record IsFull (s : Segment) (address flags least most : ℕ) : Type 0 where
  pub is_at : s.at ≡ address
  pub has_flags : s.flags ≡ flags
  pub size : s.size ≡ length s.bytes
  pub at_least : least ≤ length s.bytes
  pub at_most : length s.bytes ≤ most

-- a segment of whole MiB, to be read and written, all zero
pub record IsRoom (s : Segment) (address most_mib : ℕ) : Type 0 where
  pub is_at : s.at ≡ address
  pub has_flags : s.flags ≡ 6
  pub bytes : s.bytes ≡ []
  pub mib : ℕ
  pub size : s.size ≡ mib * 2 ^ 20
  pub at_least : 1 ≤ mib
  pub at_most : mib ≤ most_mib

-- text, data, stack and heap at their places
pub record AreInPlace (text globals stack heap : Segment) : Type 0 where
  pub text_full : IsFull text text_address 5 0x1000 0x04001000
  pub globals_full : IsFull globals data_address 6 256 0x02000100
  pub globals_whole : length globals.bytes % 16 ≡ 0
  pub stack_room : IsRoom stack stack_address 128
  pub heap_room : IsRoom heap heap_address 1024

abbrev pub AreFourSegments : List Segment → Type 0
AreFourSegments (text ∷ globals ∷ stack ∷ heap ∷ []) = AreInPlace text globals stack heap
AreFourSegments _ = ⊥

-- an image that can be written: its entry and four segments at their places
pub record IsWritable (image : Image) : Type 0 where
  pub entry : image.entry ≡ text_address
  pub segments : AreFourSegments image.segments

-- ---- the bytes

abbrev pub half : ℕ → List ℕ
half n = to_le_bytes w16 n

abbrev pub word : ℕ → List ℕ
word n = to_le_bytes w32 n

-- the next multiple of 0x1000
abbrev pub page_up : ℕ → ℕ
page_up n = (n + 0xFFF) / 0x1000 * 0x1000

unfoldable pub zeros : ℕ → List ℕ
zeros n = replicate n 0

-- 7F 45 4C 46, 32 bits, little-endian, version 1, and nine zeros; an executable for RISC-V, whose
-- program headers stand after this header; no sections and no flags
abbrev pub file_header : (entry headers : ℕ) → List ℕ
file_header entry headers =
    0x7F ∷ 0x45 ∷ 0x4C ∷ 0x46 ∷ 1 ∷ 1 ∷ 1 ∷ 0 ∷ 0 ∷ 0 ∷ 0 ∷ 0 ∷ 0 ∷ 0 ∷ 0 ∷ 0
    ∷ (half 2 ++ (half 243 ++ (word 1 ++ (word entry ++ (word 52 ++ (word 0 ++ (word 0
    ++ (half 52 ++ (half 32 ++ (half headers ++ (half 0 ++ (half 0 ++ half 0))))))))))))

-- loadable; the physical address is the address, and the alignment 0x1000
abbrev pub program_header : (offset file_size : ℕ) → Segment → List ℕ
program_header offset file_size s =
    word 1 ++ (word offset ++ (word s.at ++ (word s.at ++ (word file_size ++ (word s.size ++ (word s.flags ++ word 0x1000))))))

-- text stands at 0x1000, data at the next multiple of 0x1000 after it; the file ends with the data
abbrev pub data_offset : Segment → ℕ
data_offset text = 0x1000 + page_up (length text.bytes)

abbrev pub four_headers : (text globals stack heap : Segment) → List ℕ
four_headers text globals stack heap =
    program_header 0x1000 (length text.bytes) text
    ++ (program_header (data_offset text) (length globals.bytes) globals ++ (program_header 0 0 stack ++ program_header 0 0 heap))

abbrev pub file_of : (entry : ℕ) → List Segment → List ℕ
file_of entry (text ∷ globals ∷ stack ∷ heap ∷ []) =
    file_header entry 4
    ++ (four_headers text globals stack heap
    ++ (zeros (0x1000 - 180)
    ++ (text.bytes ++ (zeros (page_up (length text.bytes) - length text.bytes) ++ globals.bytes))))
file_of entry _ = []

-- the file of an image that can be written
abbrev pub elf_file : Image → List ℕ
elf_file image = file_of image.entry image.segments
