-- What cells hold, cell by cell.
use Rattle.std.specs.Prelude.{ℕ, zero, suc, ◌+◌, ◌*◌, Bool, true, false, Ok, Err, List, take, drop, option_map, nat_lt, if◌then◌else◌, ℤ, pos, negsuc}
use Rattle.lay_base.specs.declared.faults.UndefinedKind.TheVariants as K
use Rattle.c_types.specs.declared.ty.IntKind.{IntKind}
use Rattle.c_types.specs.IntKinds.{width}
use Rattle.memory_words.specs.declared.cell_words.cell.Cell.{Cell}
use Rattle.memory_words.specs.declared.cell_words.cell.Cell.TheVariants.{Empty, Byte, Fragment}
use Rattle.memory_words.specs.declared.cell_words.pointer.Ptr.{Ptr}
use Rattle.memory_words.specs.declared.cell_words.pointer.Ptr.TheVariants as P
use Rattle.block_memory.specs.Held.{number_in, pointer_in, word_of, held}
use Rattle.block_memory.specs.Ranges.{byte_in}
use Rattle.block_memory.specs.Tested.{Tested, ◌>>=◌}

-- a byte, and the number in the cells behind it
abbrev pub digit_before : Cell → Tested ℕ → Tested ℕ
digit_before Empty rest = Err K.Empty
digit_before (Byte x) (Ok v) = Ok (x + 256 * v)
digit_before (Byte x) (Err kind) = Err kind
digit_before (Fragment type p k) (Ok v) = Err K.Pointer
digit_before (Fragment type p k) (Err kind) = Err kind

-- the number in cells from an offset on
abbrev pub number_at : List Cell → (at : ℕ) → IntKind → Tested ℕ
number_at all at kind = held (take (width kind) (drop at all)) (option_map (word_of kind) (number_in (take (width kind) (drop at all))))

-- the pointer in cells from an offset on
abbrev pub pointer_at : List Cell → (at type : ℕ) → Tested Ptr
pointer_at all at type = held (take 4 (drop at all)) (pointer_in type (take 4 (drop at all)))

-- a number of a type as its word
abbrev pub valued : IntKind → Tested ℕ → Tested ℕ
valued kind (Ok v) = Ok (word_of kind v)
valued kind (Err fault) = Err fault

-- a number as a pointer
abbrev pub as_pointer : Tested ℕ → Tested Ptr
as_pointer (Ok zero) = Ok P.Null
as_pointer (Ok (suc v)) = Err K.Pointer
as_pointer (Err fault) = Err fault

-- ---- bytes that are compared

-- how two cells compare
abbrev pub compared : Cell → Cell → Tested ℤ
compared c d = do
  x ← byte_in c
  y ← byte_in d
  if nat_lt x y then Ok (negsuc 0) else if nat_lt y x then Ok (pos 1) else Ok (pos 0)

-- they are one byte
abbrev pub is_zero : Tested ℤ → Bool
is_zero (Ok (pos zero)) = true
is_zero difference = false
