-- What is kept of each type of a program, by its number.
use Rattle.std.specs.Prelude.{◌≡◌, ℕ, zero, suc, ◌≤◌, List, [], ◌∷◌, ◌++◌, length, Option, Some, None}
use Rattle.c_types.specs.Layouts.{size_of}
use Rattle.c_types.specs.Limits.{greatest_size}
use Rattle.c_types.specs.Types.{CType, void}
use Rattle.c_types.specs.Views.{type_of}
use Rattle.c_types.specs.declared.ty.Ty.{Ty}
use Rattle.c_typed.specs.Constants.{kind_of}
use Rattle.c_typed.specs.Programs.{ProgramData}
use Rattle.c_meaning.specs.Program.{type_at, access_of, element_size, length_of}
use Rattle.source_values.specs.declared.row.TypeRow.{TypeRow}
use Rattle.source_values.specs.Sorts.{sort_of}

-- what is kept of a type with that number
abbrev pub row_for : ProgramData → CType → (number : ℕ) → TypeRow
row_for p t n = record {
  sort = sort_of t;
  access = access_of t n;
  size = size_of p.records t;
  element = element_size p t;
  length = length_of t;
  kind = kind_of t;
}

abbrev pub row_of : ProgramData → (type : ℕ) → TypeRow
row_of p n = row_for p (type_at p n) n

-- neither a value of the type nor an element of it passes the greatest size, and its elements are no more than that
pub record IsSmall (row : TypeRow) : Type 0 where
  pub size : row.size ≤ greatest_size
  pub element : row.element ≤ greatest_size
  pub length : row.length ≤ greatest_size

-- so it is for each type of a program
abbrev pub TypesAreSmall : ProgramData → Type 0
TypesAreSmall p = (type : ℕ) → IsSmall (row_of p type)

-- ---- the table

-- the rows of the first types
abbrev pub rows_of : ProgramData → (count : ℕ) → List TypeRow
rows_of p zero = []
rows_of p (suc n) = rows_of p n ++ row_of p n ∷ []

pub record AreRows (p : ProgramData) (rows : List TypeRow) : Type 0 where
  pub all : rows ≡ rows_of p (length p.types)
  pub small : TypesAreSmall p

-- ---- a look-up of a type by its number, which is `void` past the end

abbrev pub type_if_any : Option Ty → CType
type_if_any None = void
type_if_any (Some t) = type_of t
