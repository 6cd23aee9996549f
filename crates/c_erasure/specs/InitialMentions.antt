-- Of which types the initializer of an object speaks that is made before the program starts: those of functions whose names stand there, those
-- before and after conversions of pointers, and records of which a path takes a field.
use Rattle.std.specs.Prelude.{Bool, true, false, not, ◌&&◌, if◌then◌else◌, List, [], ◌∷◌, ◌++◌, flat_map, Option, Some, None}
use Rattle.lay_base.specs.declared.place.Place.{Place}
use Rattle.c_types.specs.Types.{CType, structure}
use Rattle.c_types.specs.Sameness.{same_type}
use Rattle.c_typed.specs.declared.program.MentionKind.{MentionKind}
use Rattle.c_typed.specs.declared.program.MentionKind.TheVariants.{Used, From, To, Field}
use Rattle.c_typed.specs.Trees as Trees
use Rattle.c_typed.specs.Conversions.{is_pointer}
use Rattle.c_erasure.specs.Scopes.{AMention}

abbrev pub mention : MentionKind → CType → Place → AMention
mention kind t at = record { kind = kind; ty = t; at = at.at }

abbrev pub is_null_node : {T : Type 0} → Trees.Expression T → Bool
is_null_node (Trees.expression t at Trees.null) = true
is_null_node e = false

abbrev pub ty : Trees.Expression CType → CType
ty (Trees.expression t at node) = t

abbrev pub place : Trees.Expression CType → Place
place (Trees.expression t at node) = at

-- a conversion between two pointer types, other than one from null, with the place of what is converted
abbrev pub of_conversion : CType → Trees.Expression CType → List AMention
of_conversion t e = if is_pointer t && is_pointer (ty e) && not (same_type t (ty e)) && not (is_null_node e)
    then mention From (ty e) (place e) ∷ mention To t (place e) ∷ []
    else []

-- over a tree in which allocations and null pointers are recognised
abbrev mutual
  pub told : Trees.Expression CType → List AMention
  told (Trees.expression t at node) = told_by_node t at node

  pub told_by_node : CType → Place → Trees.Node CType → List AMention
  told_by_node t at (Trees.function_name f) = mention Used t at ∷ []
  told_by_node t at (Trees.load p) = told_by_path p
  told_by_node t at (Trees.address_of p) = told_by_path p
  told_by_node t at (Trees.decay p) = told_by_path p
  told_by_node t at (Trees.convert e written) = told e ++ of_conversion t e
  told_by_node t at (Trees.unary op x) = told x
  told_by_node t at (Trees.binary op x y) = told x ++ told y
  told_by_node t at (Trees.compare op x y) = told x ++ told y
  told_by_node t at (Trees.pointer_add op x y) = told x ++ told y
  told_by_node t at (Trees.pointer_difference x y) = told x ++ told y
  told_by_node t at (Trees.both x y) = told x ++ told y
  told_by_node t at (Trees.either x y) = told x ++ told y
  told_by_node t at (Trees.not x) = told x
  told_by_node t at (Trees.choose x y z) = told x ++ told y ++ told z
  told_by_node t at node = []

  pub told_by_path : Trees.Path CType → List AMention
  told_by_path (Trees.path t at step) = told_by_step at step

  pub told_by_step : Place → Trees.PathNode CType → List AMention
  told_by_step at (Trees.local n) = []
  told_by_step at (Trees.object n) = []
  told_by_step at (Trees.deref e) = told e
  told_by_step at (Trees.index e i) = told e ++ told i
  told_by_step at (Trees.member p r field) = told_by_path p ++ mention Field (structure r) at ∷ []
  told_by_step at (Trees.element p i) = told_by_path p ++ told i

abbrev pub told_by_value : Trees.PartValue CType → List AMention
told_by_value (Trees.value e) = told e
told_by_value (Trees.record_of p) = told_by_path p
told_by_value (Trees.text bytes) = []

abbrev pub told_by_initial : Option (Trees.Initializer CType) → List AMention
told_by_initial None = []
told_by_initial (Some (Trees.whole e)) = told e
told_by_initial (Some (Trees.whole_record p)) = told_by_path p
told_by_initial (Some (Trees.parts all)) = flat_map (λ part. told_by_value part.value) all
