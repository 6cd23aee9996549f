-- Types and records with other numbers of records.
use Rattle.std.specs.Prelude.{ℕ, map}
use Rattle.c_types.specs.Types.{CType, CTypes, void, integer, pointer, array, function, structure, no_types, and_type, Field, Record}

module _ (number : ℕ → ℕ) where
  abbrev mutual
    pub renumbered : CType → CType
    renumbered void = void
    renumbered (integer kind) = integer kind
    renumbered (pointer t) = pointer (renumbered t)
    renumbered (array t n) = array (renumbered t) n
    renumbered (function t all) = function (renumbered t) (all_renumbered all)
    renumbered (structure r) = structure (number r)

    pub all_renumbered : CTypes → CTypes
    all_renumbered no_types = no_types
    all_renumbered (and_type t more) = and_type (renumbered t) (all_renumbered more)

  abbrev pub field_in : Field → Field
  field_in f = record { name = f.name; ty = renumbered f.ty; place = f.place }

  abbrev pub record_in : Record → Record
  record_in r = record { tag = r.tag; place = r.place; fields = map field_in r.fields }
