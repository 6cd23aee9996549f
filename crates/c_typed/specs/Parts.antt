-- The parts of objects: elements of arrays and fields of records, by their first byte (C99 6.2.5, 6.7.2.1).
use Rattle.std.specs.Prelude.{◌≡◌, ℕ, ◌+◌, ◌*◌, ◌<◌, List, Some}
use Rattle.c_types.specs.Types.{CType, array, structure, Record}
use Rattle.c_types.specs.Layouts.{size_of, offset_of}
use Rattle.c_typed.specs.Typed.{field_type}

-- at that byte of an object of the first type lies a part of the second
pub data IsPart (records : List Record) : CType → ℕ → CType → Type 0 where
  itself : (t : CType) → IsPart records t 0 t
  of_element : (t u : CType) → (n k at : ℕ) → k < n → IsPart records t at u → IsPart records (array t n) (k * size_of records t + at) u
  of_field : (t u : CType) → (r field at : ℕ) → field_type records r field ≡ Some t → IsPart records t at u
      → IsPart records (structure r) (offset_of records r field + at) u
