-- The types of a file in the order in which a unit has them.
use Rattle.std.specs.Prelude.{List, [], ◌∷◌, ◌++◌, Option, Some, None, flat_map, map}
use Rattle.c_types.specs.Types.{CType}
use Rattle.c_typed.specs.Walk.{types_in_statement}
use Rattle.c_erasure.specs.Scopes.{AFunction, AMention}
use Rattle.c_erasure.specs.Units.{Stores, if_any, type_if_pointer}
use Rattle.c_units.specs.RecognisedParts.{recognised_function}
use Rattle.c_units.specs.SizeOperands.{given_mentions}
use Rattle.c_units.specs.ValuedObjects.{ValuedObject}

abbrev pub stored_types : Option (List Stores) → List CType
stored_types None = []
stored_types (Some stores) = flat_map type_if_pointer stores

abbrev pub object_types : ValuedObject → List CType
object_types o = o.ty ∷ stored_types o.initial

abbrev pub function_types : AFunction → List CType
function_types g = g.ty ∷ (map (λ l. l.ty) g.parameters ++ (map (λ l. l.ty) g.locals
    ++ flat_map (λ s. map (λ t. t.ty) (types_in_statement s)) (if_any g.body)))

-- those of functions that are not yet recognised, and of mentions
abbrev pub given_types : List AFunction → List AMention → List AMention → List CType
given_types functions mentions others =
    flat_map function_types (map recognised_function functions) ++ map (λ m. m.ty) (given_mentions functions mentions others)
