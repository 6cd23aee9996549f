-- What follows from the definitions of sizes, alignments and offsets.
use Rattle.std.specs.Prelude.{◌≡◌, ℕ, ◌+◌, ◌%◌, ◌<◌, ◌≤◌, ◌⊎◌, IsSomeAnd, IsTrue, List, [], ◌∷◌, ◌++◌, length, slice_get, Some}
use Rattle.c_types.specs.Layouts.{align_of, offset_of, size_of, size_of_record}
use Rattle.c_types.specs.Objects.{is_object}
use Rattle.c_types.specs.Types.{CType, structure, Record, field_types}

-- the field with a number, of the record with a number, is of that type
abbrev pub IsField : List Record → (number field : ℕ) → CType → Type 0
IsField records number field t = IsSomeAnd (slice_get records number) (λ r. slice_get (field_types r) field ≡ Some t)

-- fields lie in their record, in declared order, and do not overlap; where the record is aligned, they are
pub record FieldsLieApart (records : List Record) : Type 0 where
  pub aligned : (number field : ℕ) (t : CType) → IsField records number field t → offset_of records number field % align_of records t ≡ 0
  pub divides : (number field : ℕ) (t : CType) → IsField records number field t → align_of records (structure number) % align_of records t ≡ 0
  pub within : (number field : ℕ) (t : CType) → IsField records number field t
      → offset_of records number field + size_of records t ≤ size_of records (structure number)
  pub apart : (number field later : ℕ) (t u : CType) → IsField records number field t → IsField records number later u → field < later
      → offset_of records number field + size_of records t ≤ offset_of records number later

-- the elements of an array of aligned objects are aligned
pub record SizesAreMultiples (records : List Record) : Type 0 where
  pub one_of : (t : CType) → (align_of records t ≡ 1) ⊎ (align_of records t ≡ 2) ⊎ (align_of records t ≡ 4)
  pub multiple : (t : CType) → size_of records t % align_of records t ≡ 0

-- more records change nothing for the types that are complete
pub record LayoutsStay (records more : List Record) : Type 0 where
  pub objects : (t : CType) → IsTrue (is_object (length records) t) → IsTrue (is_object (length (records ++ more)) t)
  pub sizes : (t : CType) → IsTrue (is_object (length records) t) → size_of (records ++ more) t ≡ size_of records t
  pub alignments : (t : CType) → IsTrue (is_object (length records) t) → align_of (records ++ more) t ≡ align_of records t
  pub offsets : (number field : ℕ) → number < length records → offset_of (records ++ more) number field ≡ offset_of records number field

-- a record has the size with which it is added
abbrev pub HasItsSize : List Record → Record → Type 0
HasItsSize records r = size_of (records ++ r ∷ []) (structure (length records)) ≡ size_of_record records r
