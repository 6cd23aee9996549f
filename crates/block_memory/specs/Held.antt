-- What cells hold (C99 6.2.6.1, 6.3.2.3): a number as its bytes, the least first (own), a pointer as four fragments.
use Rattle.std.specs.Prelude.{ℕ, zero, suc, ◌+◌, ◌-◌, ◌*◌, ◌/◌, ◌%◌, ◌^◌, Bool, true, false, nat_le, if◌then◌else◌, List, [], ◌∷◌, map}
use Rattle.std.specs.Prelude.{Option, Some, None, Ok, Err}
use Rattle.std.specs.List.{list_any}
use Rattle.std.specs.Option.{option_map}
use Rattle.lay_base.specs.declared.faults.UndefinedKind.TheVariants as K
use Rattle.c_types.specs.declared.ty.IntKind.{IntKind}
use Rattle.c_types.specs.IntKinds.{greatest, width}
use Rattle.memory_words.specs.declared.cell_words.cell.Cell.{Cell}
use Rattle.memory_words.specs.declared.cell_words.cell.Cell.TheVariants.{Empty, Byte, Fragment}
use Rattle.memory_words.specs.declared.cell_words.pointer.Ptr.{Ptr}
use Rattle.memory_words.specs.declared.cell_words.pointer.Ptr.TheVariants as P
use Rattle.memory_words.specs.CellWords.Fragments.{are_fragments}
use Rattle.block_memory.specs.Tested.{Tested}

-- ---- numbers

abbrev pub bytes_of : (count v : ℕ) → List Cell
bytes_of zero v = []
bytes_of (suc count) v = Byte (v % 256) ∷ bytes_of count (v / 256)

-- where all are bytes
abbrev pub number_in : List Cell → Option ℕ
number_in [] = Some 0
number_in (Byte x ∷ more) = option_map (λ v. x + 256 * v) (number_in more)
number_in (c ∷ more) = None

-- the 32 bits that stand for a number in two's complement: past its type's greatest value it is negative
abbrev pub word_of : IntKind → (v : ℕ) → ℕ
word_of kind v = if nat_le v (greatest kind) then v else v + (2 ^ 32 - 2 ^ (8 * width kind))

-- ---- pointers

abbrev pub fragments_of : (type : ℕ) → Ptr → List Cell
fragments_of type p = map (λ k. Fragment type p k) (0 ∷ 1 ∷ 2 ∷ 3 ∷ [])

-- zero bytes are a null pointer (own)
abbrev pub null_in : Option ℕ → Option Ptr
null_in (Some zero) = Some P.Null
null_in v = None

-- the pointer that four cells hold, of a pointer type
abbrev pub pointer_in : (type : ℕ) → List Cell → Option Ptr
pointer_in type (Fragment t p k ∷ more) = if are_fragments type p 0 (Fragment t p k ∷ more) then Some p else None
pointer_in type all = null_in (number_in all)

-- ---- what is loaded

abbrev pub is_empty : Cell → Bool
is_empty Empty = true
is_empty c = false

abbrev pub or_pointer : {A : Type 0} → Option A → Tested A
or_pointer (Some x) = Ok x
or_pointer None = Err K.Pointer

-- all were stored, and hold such a value
abbrev pub held : {A : Type 0} → List Cell → Option A → Tested A
held all value = if list_any is_empty all then Err K.Empty else or_pointer value
