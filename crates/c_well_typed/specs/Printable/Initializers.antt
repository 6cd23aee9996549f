-- Initializers that a C text can have (C99 6.7.8): braces stand round the parts of every array and structure (own) and name them from the first
-- on, so that a part without a value has none after it.
use Rattle.std.specs.Prelude.{◌≡◌, ℕ, ◌+◌, ◌≤◌, ◌<◌, true, List, [], ◌∷◌, ◌++◌, All, length, Option, Some, None, slice_get, ◌⊎◌}
use Rattle.c_types.specs.declared.ty.IntKind.{IntKind}
use Rattle.c_types.specs.declared.ty.IntKind.TheVariants.{Char}
use Rattle.c_types.specs.IntKinds.{width}
use Rattle.c_types.specs.Types.{CType, integer, pointer, array, structure, Field, Record}
use Rattle.c_types.specs.Layouts.{size_of, offset_of}
use Rattle.c_typed.specs.declared.program.Initial.{Initial}
use Rattle.c_typed.specs.declared.program.InitialValue.{InitialValue}
use Rattle.c_typed.specs.declared.program.InitialValue.TheVariants as V
use Rattle.c_typed.specs.Trees as Trees
use Rattle.c_typed.specs.Trees.{PartValue, Part, Initializer}
use Rattle.c_typed.specs.Conversions.{is_scalar, is_record}
use Rattle.c_well_typed.specs.Printable.Expressions.{IsPrintable, IsPrintablePath}

-- the bytes that a string literal gives to an array of so many characters: the zero at its end is left out where there is no room for it
abbrev pub IsText : (n : ℕ) → List ℕ → Type 0
IsText n bytes = All (λ b. b < 256) bytes × ((length bytes ≡ n) ⊎ ((front : List ℕ) × (bytes ≡ front ++ 0 ∷ []) × (length bytes ≤ n)))

-- What braces name of an object. `Names t at all` says that what stands at byte `at` for an object of type t without braces, or for a number
-- in an array of characters by a string literal, is that list.
module _ {A : Type 0} (records : List Record) (Names : CType → ℕ → List A → Type 0) where
  mutual
    -- the object of that type which begins at that byte
    pub data IsNamed : CType → ℕ → List A → Type 0 where
      by_value : (t : CType) → (at : ℕ) → (all : List A) → Names t at all → IsNamed t at all
      by_elements : (t : CType) → (n at : ℕ) → (all : List A) → AreElements t (n + 1) at all → IsNamed (array t (n + 1)) at all
      by_fields : (r at : ℕ) → (rec : Record) → (f : Field) → (more : List Field) → (all : List A) → slice_get records r ≡ Some rec
          → rec.fields ≡ f ∷ more → AreFields r 0 rec.fields at all → IsNamed (structure r) at all

    -- the first of so many elements, and those after it
    pub data AreElements : CType → (left : ℕ) → ℕ → List A → Type 0 where
      one_element : (t : CType) → (n at : ℕ) → (own : List A) → IsNamed t at own → AreElements t (n + 1) at own
      and_elements : (t : CType) → (n at : ℕ) → (own more : List A) → IsNamed t at own → AreElements t n (at + size_of records t) more
          → AreElements t (n + 1) at (own ++ more)

    -- the first of some fields of a record, by its number, and those after it
    pub data AreFields : (r k : ℕ) → List Field → ℕ → List A → Type 0 where
      one_field : (r k at : ℕ) → (f : Field) → (more : List Field) → (own : List A) → IsNamed f.ty (at + offset_of records r k) own
          → AreFields r k (f ∷ more) at own
      and_fields : (r k at : ℕ) → (f : Field) → (more : List Field) → (own rest : List A) → IsNamed f.ty (at + offset_of records r k) own
          → AreFields r (k + 1) more at rest → AreFields r k (f ∷ more) at (own ++ rest)

-- ---- of locals

-- a number or a pointer by an expression, a record by another, an array of characters by a text
abbrev pub IsValue : CType → PartValue CType → Type 0
IsValue t (Trees.value e) = (is_scalar t ≡ true) × IsPrintable e
IsValue t (Trees.record_of p) = (is_record t ≡ true) × IsPrintablePath p
IsValue t (Trees.text bytes) = (kind : IntKind) × (n : ℕ) × (t ≡ array (integer kind) n) × (width kind ≡ 1) × IsText n bytes

abbrev pub IsPart : CType → ℕ → List (Part CType) → Type 0
IsPart t at (part ∷ []) = (part.offset ≡ at) × IsValue t part.value
IsPart t at all = ⊥

abbrev pub IsPrintableInitializer : List Record → CType → Option (Initializer CType) → Type 0
IsPrintableInitializer records t None = Unit {0}
IsPrintableInitializer records t (Some (Trees.whole e)) = IsPrintable e
IsPrintableInitializer records t (Some (Trees.whole_record p)) = IsPrintablePath p
IsPrintableInitializer records t (Some (Trees.parts all)) = IsNamed records IsPart t 0 all

-- ---- of objects, by what they hold at first

abbrev pub of_text : ℕ → List ℕ → List Initial
of_text at [] = []
of_text at (v ∷ more) = record { offset = at; value = V.Number Char v } ∷ of_text (at + 1) more

-- a null pointer is what lies there without a value
abbrev pub IsStored : CType → ℕ → List Initial → Type 0
IsStored (integer kind) at all = (v : ℕ) × (all ≡ record { offset = at; value = V.Number kind v } ∷ [])
IsStored (pointer t) at all = (all ≡ []) ⊎ ((value : InitialValue) × (all ≡ record { offset = at; value = value } ∷ []))
IsStored (array (integer kind) n) at all = (bytes : List ℕ) × (width kind ≡ 1) × IsText n bytes × (all ≡ of_text at bytes)
IsStored t at all = ⊥

-- one without an initializer holds nothing at first
abbrev pub IsPrintableInitial : List Record → CType → List Initial → Type 0
IsPrintableInitial records t all = (all ≡ []) ⊎ IsNamed records IsStored t 0 all
