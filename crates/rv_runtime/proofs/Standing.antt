-- The bytes of the runtime stand in memory as its routines.
use Rattle.std.proofs.Common.{◌≡◌, ℕ, ◌+◌, ◌-◌, ◌*◌, ◌^◌, ◌<◌, ◌≤◌, true, List, [], ◌∷◌, ◌++◌, length, slice_index, refl, ap, ◌∙◌, arith, length-append}
use Rattle.std.proofs.Common.{get_or-append-add}
use Rattle.std.proofs.lemmas.Int.{ints}
use Rattle.std.proofs.lemmas.List.{get_or_append_left, length-replicate}
use Rattle.std.specs.Int.{w32, to_le_bytes}
use Rattle.std.specs.List.{AllByRecursion}
use Rattle.rv_isa.specs.declared.image.Segment.{Segment}
use Rattle.rv_isa.specs.declared.instruction.Inst.{Inst}
use Rattle.rv_isa.specs.Encoding.{encoding, IsInRange}
use Rattle.rv_isa.specs.Memory.{Memory, executable, readable, writable, are_mapped, word_at}
use Rattle.rv_isa.specs.Events.{heap_start}
use Rattle.rv_isa.proofs.Laws.{encoding_fits}
use Rattle.rv_runtime.specs.Steps.States.{Code, Stands}
use Rattle.rv_runtime.proofs.Steps.Ranges.{mapped_part}
use Rattle.rv_runtime.specs.Bytes.{zeros, bytes_of, open_page, page, words_of, runtime_bytes, data_bytes, Holds, Runtime}
use Rattle.rv_runtime.specs.Effects.{Heap}
use Rattle.rv_runtime.specs.Routines.{return_code, start_entry, start_code, exit_code, malloc_code, calloc_code, free_code, copy_code, fill_code, compare_code}
use Rattle.rv_runtime.specs.Routines.{data_place}

-- ---- parts of what stands

pub holds_front : (memory : Memory) (at : ℕ) (a b : List ℕ) → Holds memory at (a ++ b) → Holds memory at a
holds_front memory at a b h = record { by = λ k lt. h.by k (omega (arith, length-append a b)) ∙ get_or_append_left a b 0 k lt }

-- the rest stands behind n bytes
pub holds_back : (memory : Memory) (at n : ℕ) (a b : List ℕ) → length a ≡ n → Holds memory at (a ++ b) → Holds memory (at + n) b
holds_back memory at n a b size h = record {
  by = λ k lt.
      let e : at + n + k ≡ at + (length a + k) = omega arith in
      ap memory e ∙ h.by (length a + k) (omega (arith, length-append a b)) ∙ get_or-append-add a b k 0;
}

-- the bytes of a number make it again
joined_bytes : (n b0 b1 b2 b3 : ℕ) → n < 2 ^ 32 → b0 ≡ slice_index (to_le_bytes w32 n) 0 → b1 ≡ slice_index (to_le_bytes w32 n) 1
    → b2 ≡ slice_index (to_le_bytes w32 n) 2 → b3 ≡ slice_index (to_le_bytes w32 n) 3 → b0 + 2 ^ 8 * b1 + 2 ^ 16 * b2 + 2 ^ 24 * b3 ≡ n
joined_bytes n b0 b1 b2 b3 lt e0 e1 e2 e3 = omega arith

holds_word : (memory : Memory) (at n : ℕ) → n < 2 ^ 32 → Holds memory at (to_le_bytes w32 n) → word_at memory at ≡ n
holds_word memory at n lt h =
    let z : at ≡ at + 0 = omega arith in
    joined_bytes n _ _ _ _ lt (ap memory z ∙ h.by 0 (omega arith)) (h.by 1 (omega arith)) (h.by 2 (omega arith)) (h.by 3 (omega arith))

-- ---- code

bytes_length : (words : List ℕ) → length (bytes_of words) ≡ 4 * length words
bytes_length [] = refl
bytes_length (w ∷ words) = (let h = bytes_length words in omega (arith, length-append (to_le_bytes w32 w) (bytes_of words)))

words_length : (code : List Inst) → length (words_of code) ≡ length code
words_length [] = refl
words_length (i ∷ code) = (let h = words_length code in omega arith)

zeros_length : (n : ℕ) → length (zeros n) ≡ n
unfolding zeros
zeros_length n = length-replicate n 0

open_page_length : (words : List ℕ) → length words ≤ 128 → length (open_page words) ≡ 512
unfolding open_page
open_page_length words le =
    omega (arith, length-append (bytes_of words) (zeros (512 - 4 * length words)), bytes_length words, zeros_length (512 - 4 * length words))

page_length : (words : List ℕ) → length words ≤ 127 → length (page words) ≡ 512
unfolding page
page_length words le =
    omega (
      arith,
      length-append (bytes_of words) (zeros (508 - 4 * length words) ++ bytes_of (encoding return_code ∷ [])),
      length-append (zeros (508 - 4 * length words)) (bytes_of (encoding return_code ∷ [])),
      bytes_length words,
      zeros_length (508 - 4 * length words),
    )

module _ (segments : List Segment) (text : Memory) (mapped : are_mapped segments executable start_entry 0x1000 ≡ true) where
  one_stands : (pc : ℕ) (i : Inst) → start_entry ≤ pc → pc + 4 ≤ 0x11000 → IsInRange i → Holds text pc (to_le_bytes w32 (encoding i))
      → Stands segments text pc i
  one_stands pc i low high range h = record {
    mapped = mapped_part segments executable start_entry 0x1000 pc 4 mapped low high;
    below = omega arith;
    word = holds_word text pc (encoding i) (encoding_fits i range) h;
    in_range = range;
  }

  pub code_stands : (pc : ℕ) (code : List Inst) → start_entry ≤ pc → pc + 4 * length code ≤ 0x11000 → AllByRecursion IsInRange code
      → Holds text pc (bytes_of (words_of code)) → Code segments text pc code
  code_stands pc [] low high range h = tt
  code_stands pc (i ∷ code) low high range h =
      let w = to_le_bytes w32 (encoding i) in
      let rest : Holds text (pc + 4) (bytes_of (words_of code)) = holds_back text pc 4 w (bytes_of (words_of code)) refl h in (
        one_stands pc i low (omega arith) range.0 (holds_front text pc w (bytes_of (words_of code)) h),
        code_stands (pc + 4) code (omega arith) (omega arith) range.1 rest,
      )

  -- a routine that has no last word
  open_stands : (pc : ℕ) (code : List Inst) → start_entry ≤ pc → pc + 512 ≤ 0x11000 → length code ≤ 127 → AllByRecursion IsInRange code
      → Holds text pc (open_page (words_of code)) → Code segments text pc code
  unfolding open_page
  open_stands pc code low high few range h =
      code_stands pc code low (omega arith) range (holds_front text pc (bytes_of (words_of code)) (zeros (512 - 4 * length (words_of code))) h)

  -- a routine, and its last word
  page_stands : (pc : ℕ) (code : List Inst) → start_entry ≤ pc → pc + 512 ≤ 0x11000 → length code ≤ 127 → AllByRecursion IsInRange code
      → Holds text pc (page (words_of code)) → Code segments text pc code × Stands segments text (pc + 508) return_code
  unfolding page
  page_stands pc code low high few range h =
      let words = words_of code in
      let last = bytes_of (encoding return_code ∷ []) in
      let gap = zeros (508 - 4 * length words) in
      let behind : Holds text (pc + 4 * length words) (gap ++ last) =
      holds_back text pc (4 * length words) (bytes_of words) (gap ++ last) (bytes_length words) h in
      let at : pc + 4 * length words + (508 - 4 * length words) ≡ pc + 508 = omega (arith, words_length code) in
      let end : Holds text (pc + 4 * length words + (508 - 4 * length words)) last =
      holds_back text (pc + 4 * length words) (508 - 4 * length words) gap last (zeros_length (508 - 4 * length words)) behind in (
        code_stands pc code low (omega arith) range (holds_front text pc (bytes_of words) (gap ++ last) h),
        one_stands (pc + 508) return_code (omega arith) (omega arith) (omega (arith, ints)) (rw at at end),
      )

-- ---- the fields of instructions

start_in_range : AllByRecursion IsInRange start_code
start_in_range = omega (arith, ints)

exit_in_range : AllByRecursion IsInRange exit_code
exit_in_range = omega (arith, ints)

malloc_in_range : AllByRecursion IsInRange malloc_code
malloc_in_range = omega (arith, ints)

calloc_in_range : AllByRecursion IsInRange calloc_code
calloc_in_range = omega (arith, ints)

free_in_range : AllByRecursion IsInRange free_code
free_in_range = omega (arith, ints)

copy_in_range : AllByRecursion IsInRange copy_code
copy_in_range = omega (arith, ints)

fill_in_range : AllByRecursion IsInRange fill_code
fill_in_range = omega (arith, ints)

compare_in_range : AllByRecursion IsInRange compare_code
compare_in_range = omega (arith, ints)

-- ---- all routines

-- each is behind the bytes of those before it
open_back : (memory : Memory) (at : ℕ) (words rest : List ℕ) → length words ≤ 128 → Holds memory at (open_page words ++ rest) → Holds memory (at + 512) rest
open_back memory at words rest le h = holds_back memory at 512 (open_page words) rest (open_page_length words le) h

page_back : (memory : Memory) (at : ℕ) (words rest : List ℕ) → length words ≤ 127 → Holds memory at (page words ++ rest) → Holds memory (at + 512) rest
page_back memory at words rest le h = holds_back memory at 512 (page words) rest (page_length words le) h

abbrev from_compare : List ℕ
from_compare = page (words_of compare_code)

abbrev from_fill : List ℕ
from_fill = page (words_of fill_code) ++ from_compare

abbrev from_copy : List ℕ
from_copy = page (words_of copy_code) ++ from_fill

abbrev from_free : List ℕ
from_free = page (words_of free_code) ++ from_copy

abbrev from_calloc : List ℕ
from_calloc = page (words_of calloc_code) ++ from_free

abbrev from_malloc : List ℕ
from_malloc = page (words_of malloc_code) ++ from_calloc

abbrev from_exit : List ℕ
from_exit = open_page (words_of exit_code) ++ from_malloc

-- where the runtime's bytes stand in a text that is executable, its routines stand
pub runtime_stands : (segments : List Segment) (text : Memory) → are_mapped segments executable start_entry 0x1000 ≡ true
    → Holds text start_entry runtime_bytes → Runtime segments text
runtime_stands segments text mapped h =
    let h1 : Holds text 0x10200 from_exit = open_back text start_entry (words_of start_code) from_exit (omega arith) h in
    let h2 : Holds text 0x10400 from_malloc = open_back text 0x10200 (words_of exit_code) from_malloc (omega arith) h1 in
    let h3 : Holds text 0x10600 from_calloc = page_back text 0x10400 (words_of malloc_code) from_calloc (omega arith) h2 in
    let h4 : Holds text 0x10800 from_free = page_back text 0x10600 (words_of calloc_code) from_free (omega arith) h3 in
    let h5 : Holds text 0x10A00 from_copy = page_back text 0x10800 (words_of free_code) from_copy (omega arith) h4 in
    let h6 : Holds text 0x10C00 from_fill = page_back text 0x10A00 (words_of copy_code) from_fill (omega arith) h5 in
    let h7 : Holds text 0x10E00 from_compare = page_back text 0x10C00 (words_of fill_code) from_compare (omega arith) h6 in
    let start = holds_front text start_entry (open_page (words_of start_code)) from_exit h in
    let exit = holds_front text 0x10200 (open_page (words_of exit_code)) from_malloc h1 in
    let malloc = holds_front text 0x10400 (page (words_of malloc_code)) from_calloc h2 in
    let calloc = holds_front text 0x10600 (page (words_of calloc_code)) from_free h3 in
    let free = holds_front text 0x10800 (page (words_of free_code)) from_copy h4 in
    let copy = holds_front text 0x10A00 (page (words_of copy_code)) from_fill h5 in
    let fill = holds_front text 0x10C00 (page (words_of fill_code)) from_compare h6 in
    let both1 = page_stands segments text mapped 0x10400 malloc_code (omega arith) (omega arith) (omega arith) malloc_in_range malloc in
    let both2 = page_stands segments text mapped 0x10600 calloc_code (omega arith) (omega arith) (omega arith) calloc_in_range calloc in
    let both3 = page_stands segments text mapped 0x10800 free_code (omega arith) (omega arith) (omega arith) free_in_range free in
    let both4 = page_stands segments text mapped 0x10A00 copy_code (omega arith) (omega arith) (omega arith) copy_in_range copy in
    let both5 = page_stands segments text mapped 0x10C00 fill_code (omega arith) (omega arith) (omega arith) fill_in_range fill in
    let both6 = page_stands segments text mapped 0x10E00 compare_code (omega arith) (omega arith) (omega arith) compare_in_range h7 in
    record {
      start = open_stands segments text mapped start_entry start_code (omega arith) (omega arith) (omega arith) start_in_range start;
      exit = open_stands segments text mapped 0x10200 exit_code (omega arith) (omega arith) (omega arith) exit_in_range exit;
      malloc = both1.0;
      malloc_last = both1.1;
      calloc = both2.0;
      calloc_last = both2.1;
      free = both3.0;
      free_last = both3.1;
      copy = both4.0;
      copy_last = both4.1;
      fill = both5.0;
      fill_last = both5.1;
      compare = both6.0;
      compare_last = both6.1;
    }

-- ---- the runtime's own data

pub heap_begins : (segments : List Segment) (memory : Memory) (end : ℕ) → end ≤ 2 ^ 31 → are_mapped segments readable data_place 8 ≡ true
    → are_mapped segments writable data_place 4 ≡ true → Holds memory data_place (data_bytes end) → Heap segments memory heap_start end
unfolding data_bytes
heap_begins segments memory end small reads writes h =
    let first = to_le_bytes w32 heap_start in
    let second = to_le_bytes w32 end in
    let rest : Holds memory (data_place + 4) (second ++ zeros 248) = holds_back memory data_place 4 first (second ++ zeros 248) refl h in
    record {
      begins = holds_word memory data_place heap_start (omega arith) (holds_front memory data_place first (second ++ zeros 248) h);
      limit = holds_word memory (data_place + 4) end (omega arith) (holds_front memory (data_place + 4) second (zeros 248) rest);
      whole = refl;
      low = omega arith;
      small = small;
      reads = reads;
      writes = writes;
    }
