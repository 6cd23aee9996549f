-- What a file gives, step by step as it is made: by the list of all types, and with numbered functions.
use Rattle.std.specs.Prelude.{ℕ, List, [], ◌++◌, flat_map, map}
use Rattle.c_types.specs.Types.{CType}
use Rattle.c_erasure.specs.Scopes.{AFunction, AMention}
use Rattle.c_erasure.specs.Units.{new_among}
use Rattle.c_units.specs.CollectedTypes.{function_types, object_types}
use Rattle.c_units.specs.NumberedParts.{function_in, mention_in, object_in}
use Rattle.c_units.specs.UnitWith.{GivenParts}
use Rattle.c_units.specs.ValuedObjects.{ValuedObject}

abbrev pub all_types : List ValuedObject → List AFunction → List AMention → List CType
all_types objects functions mentions = flat_map object_types objects ++ (flat_map function_types functions ++ map (λ m. m.ty) mentions)

abbrev pub numbered : List CType → ℕ → List ValuedObject → List AFunction → List AMention → GivenParts
numbered all file os gs ms = record {
  types = all;
  objects = map (object_in all) os;
  functions = map (function_in all) gs;
  mentions = map (mention_in all file) ms;
}

abbrev pub given : ℕ → List ValuedObject → List AFunction → List AMention → GivenParts
given file os gs ms = numbered (new_among [] (all_types os gs ms)) file os gs ms
