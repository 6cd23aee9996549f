-- What a type, a field and a record of the program stand for.
use Rattle.std.specs.Prelude.{List, [], ◌∷◌, map}
use Rattle.c_types.specs.declared.ty.Ty.{Ty, fold-Ty}
use Rattle.c_types.specs.declared.ty.Ty.TheOpen as T
use Rattle.c_types.specs.declared.record.Field.{Field}
use Rattle.c_types.specs.declared.record.Record.{Record}
use Rattle.c_types.specs.Types
use Rattle.c_types.specs.Types.{CType, CTypes, void, integer, pointer, array, function, structure, no_types, and_type}

abbrev pub listed : List CType → CTypes
listed [] = no_types
listed (t ∷ more) = and_type t (listed more)

abbrev pub type_layer : T.Ty-F CType → CType
type_layer T.Void = void
type_layer (T.Int kind) = integer kind
type_layer (T.Pointer t) = pointer t
type_layer (T.Array t n) = array t n
type_layer (T.Function t all) = function t (listed all)
type_layer (T.Record number) = structure number

abbrev pub type_of : Ty → CType
type_of = fold-Ty CType type_layer

abbrev pub types_of : List Ty → CTypes
types_of all = listed (map type_of all)

abbrev pub field_of : Field → Types.Field
field_of f = record { name = f.name; ty = type_of f.ty; place = f.place }

abbrev pub types_of_fields : List Field → List CType
types_of_fields fields = map (λ f. f.ty) (map field_of fields)

abbrev pub record_of : Record → Types.Record
record_of r = record { tag = r.tag; place = r.place; fields = map field_of r.fields }

abbrev pub records_of : List Record → List Types.Record
records_of = map record_of
