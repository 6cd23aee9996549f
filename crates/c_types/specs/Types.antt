-- Types as plain data (C99 6.2.5), and records, which are structures: a structure type has the number of its record.
use Rattle.std.specs.Prelude.{ℕ, List, map}
use Rattle.lay_base.specs.declared.place.Place.{Place}
use Rattle.c_types.specs.declared.ty.IntKind.{IntKind}

mutual
  -- a type
  pub data CType : Type 0 where
    void : CType
    integer : (kind : IntKind) → CType
    pointer : (to : CType) → CType
    array : (element : CType) → (length : ℕ) → CType
    function : (result : CType) → (parameters : CTypes) → CType
    -- a structure type, by the number of its record in a list
    structure : (number : ℕ) → CType

  pub data CTypes : Type 0 where
    no_types : CTypes
    and_type : (t : CType) → (more : CTypes) → CTypes

-- a field, which is a member of a structure (6.7.2.1), with the place of its declarator
pub record Field : Type 0 where
  pub name : List ℕ
  pub ty : CType
  pub place : Place

-- a record, which is a structure, with its fields in declared order
pub record Record : Type 0 where
  pub tag : List ℕ
  pub place : Place
  pub fields : List Field

-- their types
abbrev pub field_types : Record → List CType
field_types r = map (λ f. f.ty) r.fields
