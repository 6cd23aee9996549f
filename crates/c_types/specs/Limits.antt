-- Which lists of records there are, and how large a type may be.
use Rattle.std.specs.Prelude.{◌≡◌, ℕ, ◌≤◌, ◌^◌, IsTrue, List, All, EachIndex, nat_le, slice_get, Option, Some}
use Rattle.std.specs.Bool.{then_some}
use Rattle.c_types.specs.Layouts.{size_of}
use Rattle.c_types.specs.Objects.{is_object}
use Rattle.c_types.specs.Types.{structure, Record, field_types}

-- the greatest size of a type, in bytes (own)
abbrev pub greatest_size : ℕ
greatest_size = 2 ^ 24

-- a size, where it does not pass the greatest
abbrev pub size_if_small : ℕ → Option ℕ
size_if_small size = then_some (nat_le size greatest_size) size

-- the fields of each record are objects (6.7.2.1), where only the records before it are complete: so no record is inside itself
abbrev pub AreComplete : List Record → Type 0
AreComplete records = (number : ℕ) (r : Record) → slice_get records number ≡ Some r → All (λ t. IsTrue (is_object number t)) (field_types r)

-- no record is larger than a type may be
abbrev pub AreSmall : List Record → Type 0
AreSmall records = EachIndex records (λ number. size_of records (structure number) ≤ greatest_size)
