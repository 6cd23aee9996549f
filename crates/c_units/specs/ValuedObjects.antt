-- Objects with the values that they hold at first.
use Rattle.std.specs.Prelude.{ℕ, Bool, List, Option, is_some}
use Rattle.std.specs.Option.{option_map}
use Rattle.lay_base.specs.declared.place.Place.{Place}
use Rattle.c_types.specs.Types.{CType}
use Rattle.c_types.specs.declared.record.Record.{Record}
use Rattle.c_annotated.specs.FileViews.{object_of}
use Rattle.c_annotated.specs.declared.file.Object.{Object}
use Rattle.c_typed.specs.Trees as Trees
use Rattle.c_typed.specs.Mapped.{mapped_initializer, of_types}
use Rattle.c_erasure.specs.Scopes.{AnObject}
use Rattle.c_erasure.specs.Units.{Stores, of_initializer}
use Rattle.c_initial_values.specs.Values.{scope_with, stores_in}
use Rattle.c_units.specs.declared.objects.Valued.{Valued}

pub record ValuedObject : Type 0 where
  pub name : List ℕ
  pub place : Place
  pub ty : CType
  pub is_linked : Bool
  pub is_text : Bool
  pub initial : Option (List Stores)

abbrev pub valued_of : Valued → ValuedObject
valued_of o =
    let object = object_of o.object.now in
    record {
      name = object.name;
      place = object.place;
      ty = object.ty;
      is_linked = object.is_linked;
      is_text = is_some object.literal;
      initial = option_map stores_in o.initial;
    }

-- an object in whose tree allocations are recognised, by what an initializer stores
abbrev pub valued : (Trees.Initializer CType → List Stores) → AnObject → ValuedObject
valued stores o = record {
  name = o.name;
  place = o.place;
  ty = o.ty;
  is_linked = o.is_linked;
  is_text = is_some o.literal;
  initial = option_map (λ i. stores (mapped_initializer (of_types (λ t. t.ty)) i)) o.initial;
}

-- by what initializers of a file with those records and types of objects store
abbrev pub valued_with : List Record → List Object → AnObject → ValuedObject
valued_with records objects = valued (of_initializer (scope_with records objects))
