-- Where each place in the initializer of an object is so, those of the types of which it speaks are.
use Rattle.std.proofs.Common.{ℕ, Bool, true, false, cond, List, [], ◌∷◌, ◌++◌, Some, None, flat_map}
use Rattle.std.specs.Prelude.{Option, not, ◌&&◌}
use Rattle.std.specs.List.{AllByRecursion}
use Rattle.lay_base.specs.declared.place.Place.{Place}
use Rattle.c_types.specs.Sameness.{same_type}
use Rattle.c_types.specs.Types.{CType}
use Rattle.c_typed.specs.Conversions.{is_pointer}
use Rattle.c_typed.specs.Trees as Trees
use Rattle.c_erasure.specs.InitialMentions.{is_null_node, place, ty, of_conversion, told, told_by_node, told_by_path, told_by_step, told_by_value}
use Rattle.c_erasure.specs.InitialMentions.{told_by_initial}
use Rattle.c_erasure.specs.Scopes.{AMention}
use Rattle.c_well_typed.proofs.GapPlaces.Everywhere.{both}
use Rattle.c_undefined_places.specs.Placed.{IsPlaced, IsPlacedNode, IsPlacedPath, IsPlacedStep, IsPlacedValue, ArePlacedParts, IsPlacedInitial}

-- the byte of a place
abbrev pub ByByte : (ℕ → Type 0) → Place → Type 0
ByByte P place = P place.at

module _ (P : ℕ → Type 0) where
  pub record Have (all : List AMention) : Type 0 where
    pub each : AllByRecursion (λ m. P m.at) all

  none : Have []
  none = record { each = tt }

  and : {a b : List AMention} → Have a → Have b → Have (a ++ b)
  and {a} {b} p q = record { each = both (λ (m : AMention). P m.at) a b p.each q.each }

  own_place : (e : Trees.Expression CType) → IsPlaced (ByByte P) e → P (place e).at
  own_place (Trees.expression t at node) h = h.0

  if_so : (c : Bool) (all : List AMention) → Have all → Have (cond c all [])
  if_so true all h = h
  if_so false all h = none

  by_conversion : (t : CType) (e : Trees.Expression CType) → IsPlaced (ByByte P) e → Have (of_conversion t e)
  by_conversion t e h =
      if_so (is_pointer t && is_pointer (ty e) && not (same_type t (ty e)) && not (is_null_node e)) _
      (record { each = (own_place e h, (own_place e h, tt)) })

  mutual
    by_expression : (e : Trees.Expression CType) → IsPlaced (ByByte P) e → Have (told e)
    by_expression (Trees.expression t at node) h = by_node t at node h.0 h.1

    by_node : (t : CType) (at : Place) (node : Trees.Node CType) → P at.at → IsPlacedNode (ByByte P) node → Have (told_by_node t at node)
    by_node t at (Trees.function_name f) p h = record { each = (p, tt) }
    by_node t at (Trees.load q) p h = by_path q h
    by_node t at (Trees.address_of q) p h = by_path q h
    by_node t at (Trees.decay q) p h = by_path q h
    by_node t at (Trees.convert e written) p h = and (by_expression e h) (by_conversion t e h)
    by_node t at (Trees.unary op x) p h = by_expression x h
    by_node t at (Trees.binary op x y) p h = and (by_expression x h.0) (by_expression y h.1)
    by_node t at (Trees.compare op x y) p h = and (by_expression x h.0) (by_expression y h.1)
    by_node t at (Trees.pointer_add op x y) p h = and (by_expression x h.0) (by_expression y h.1)
    by_node t at (Trees.pointer_difference x y) p h = and (by_expression x h.0) (by_expression y h.1)
    by_node t at (Trees.both x y) p h = and (by_expression x h.0) (by_expression y h.1)
    by_node t at (Trees.either x y) p h = and (by_expression x h.0) (by_expression y h.1)
    by_node t at (Trees.not x) p h = by_expression x h
    by_node t at (Trees.choose x y z) p h = and (and (by_expression x h.0) (by_expression y h.1)) (by_expression z h.2)
    by_node t at node p h = none

    by_path : (q : Trees.Path CType) → IsPlacedPath (ByByte P) q → Have (told_by_path q)
    by_path (Trees.path t at step) h = by_step at step h.0 h.1

    by_step : (at : Place) (step : Trees.PathNode CType) → P at.at → IsPlacedStep (ByByte P) step → Have (told_by_step at step)
    by_step at (Trees.local n) p h = none
    by_step at (Trees.object n) p h = none
    by_step at (Trees.deref e) p h = by_expression e h
    by_step at (Trees.index e i) p h = and (by_expression e h.0) (by_expression i h.1)
    by_step at (Trees.member q r field) p h = and (by_path q h) (record { each = (p, tt) })
    by_step at (Trees.element q i) p h = and (by_path q h.0) (by_expression i h.1)

  by_value : (v : Trees.PartValue CType) → IsPlacedValue (ByByte P) v → Have (told_by_value v)
  by_value (Trees.value e) h = by_expression e h
  by_value (Trees.record_of q) h = by_path q h
  by_value (Trees.text bytes) h = none

  by_parts : (all : List (Trees.Part CType)) → ArePlacedParts (ByByte P) all → Have (flat_map (λ part. told_by_value part.value) all)
  by_parts [] h = none
  by_parts (part ∷ more) h = and (by_value part.value h.0) (by_parts more h.1)

  pub by_initial : (i : Option (Trees.Initializer CType)) → IsPlacedInitial (ByByte P) i → Have (told_by_initial i)
  by_initial None h = none
  by_initial (Some (Trees.whole e)) h = by_expression e h
  by_initial (Some (Trees.whole_record q)) h = by_path q h
  by_initial (Some (Trees.parts all)) h = by_parts all h
