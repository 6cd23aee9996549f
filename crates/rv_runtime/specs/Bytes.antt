-- The bytes of the runtime, from the start's address on: each routine at its place, and zeros elsewhere.
use Rattle.std.specs.Prelude.{◌≡◌, ℕ, ◌+◌, ◌-◌, ◌*◌, ◌<◌, List, [], ◌∷◌, ◌++◌, length, map, replicate, slice_index}
use Rattle.std.specs.Int.{w32, to_le_bytes}
use Rattle.rv_isa.specs.declared.image.Segment.{Segment}
use Rattle.rv_isa.specs.declared.instruction.Inst.{Inst}
use Rattle.rv_isa.specs.Encoding.{encoding}
use Rattle.rv_isa.specs.Events.{malloc_entry, malloc_return, calloc_entry, calloc_return, free_entry, heap_start}
use Rattle.rv_isa.specs.Memory.{Memory}
use Rattle.rv_runtime.specs.Steps.States.{Code, Stands}
use Rattle.rv_runtime.specs.Routines.{start_entry, exit_entry, free_return, copy_entry, copy_return, fill_entry, fill_return, compare_entry, compare_return}
use Rattle.rv_runtime.specs.Routines.{return_code, start_code, exit_code, malloc_code, calloc_code, free_code, copy_code, fill_code, compare_code}

-- ---- in the file

unfoldable pub zeros : ℕ → List ℕ
zeros n = replicate n 0

-- the bytes of words, the lowest of each first
abbrev pub bytes_of : List ℕ → List ℕ
bytes_of [] = []
bytes_of (w ∷ words) = to_le_bytes w32 w ++ bytes_of words

-- 512 bytes: words, and zeros behind them
unfoldable pub open_page : List ℕ → List ℕ
open_page words = bytes_of words ++ zeros (512 - 4 * length words)

-- 512 bytes: words, zeros, and the word that returns
unfoldable pub page : List ℕ → List ℕ
page words = bytes_of words ++ (zeros (508 - 4 * length words) ++ bytes_of (encoding return_code ∷ []))

abbrev pub words_of : List Inst → List ℕ
words_of = map encoding

abbrev pub runtime_bytes : List ℕ
runtime_bytes =
    open_page (words_of start_code)
    ++ (open_page (words_of exit_code)
    ++ (page (words_of malloc_code)
    ++ (page (words_of calloc_code)
    ++ (page (words_of free_code) ++ (page (words_of copy_code) ++ (page (words_of fill_code) ++ page (words_of compare_code)))))))

-- the runtime's own data, 256 bytes: where the unused heap begins, where the heap ends, and zeros
unfoldable pub data_bytes : (end : ℕ) → List ℕ
data_bytes end = to_le_bytes w32 heap_start ++ (to_le_bytes w32 end ++ zeros 248)

-- ---- in memory

-- the bytes stand in memory from an address on
pub record Holds (memory : Memory) (at : ℕ) (bytes : List ℕ) : Type 0 where
  pub by : (k : ℕ) → k < length bytes → memory (at + k) ≡ slice_index bytes k

-- the routines stand in the text
pub record Runtime (segments : List Segment) (text : Memory) : Type 0 where
  pub start : Code segments text start_entry start_code
  pub exit : Code segments text exit_entry exit_code
  pub malloc : Code segments text malloc_entry malloc_code
  pub malloc_last : Stands segments text malloc_return return_code
  pub calloc : Code segments text calloc_entry calloc_code
  pub calloc_last : Stands segments text calloc_return return_code
  pub free : Code segments text free_entry free_code
  pub free_last : Stands segments text free_return return_code
  pub copy : Code segments text copy_entry copy_code
  pub copy_last : Stands segments text copy_return return_code
  pub fill : Code segments text fill_entry fill_code
  pub fill_last : Stands segments text fill_return return_code
  pub compare : Code segments text compare_entry compare_code
  pub compare_last : Stands segments text compare_return return_code
