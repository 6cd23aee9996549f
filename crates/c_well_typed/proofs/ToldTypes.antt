-- The types of which the initializer of an object speaks that is made before the program starts, where allocations and null pointers are recognised: none is
-- an array (C99 6.7.8).
use Rattle.std.proofs.Common.{◌≡◌, ℕ, Bool, true, false, refl, sym, subst, cond, List, [], ◌∷◌, ◌++◌, map, flat_map}
use Rattle.std.proofs.lemmas.Bool.{and_parts}
use Rattle.std.proofs.lemmas.List.Elements.{recursion_from_All}
use Rattle.std.specs.Prelude.{not, ◌&&◌, Option, Some, None}
use Rattle.std.specs.List.{AllByRecursion}
use Rattle.lay_base.specs.declared.place.Place.{Place}
use Rattle.c_types.specs.Sameness.{same_type}
use Rattle.c_types.specs.Types.{CType, pointer, structure}
use Rattle.c_typed.specs.declared.program.MentionKind.TheVariants.{From, To, Field}
use Rattle.c_typed.specs.Trees as Trees
use Rattle.c_typed.specs.Conversions.{is_pointer}
use Rattle.c_typed.specs.Mapped.{of_types, mapped_node}
use Rattle.c_typed.specs.Typed.{Declared, IsTyped, IsTypedNode, IsTypedPath, IsTypedStep}
use Rattle.c_typed.specs.TypedStatements.{IsTypedValue, IsTypedPart}
use Rattle.c_erasure.specs.Erasure.{typed}
use Rattle.c_erasure.specs.Files.{IsTypedObject}
use Rattle.c_erasure.specs.InitialMentions.{mention, is_null_node, place, ty, of_conversion, told, told_by_node, told_by_path, told_by_step, told_by_value}
use Rattle.c_erasure.specs.InitialMentions.{told_by_initial}
use Rattle.c_erasure.specs.Noted.{Noted, Expression, Path, Node, PathNode}
use Rattle.c_erasure.specs.Recognised.{allocation, or_converted, is_null_constant, converted, recognised, recognised_node, recognised_path, recognised_step}
use Rattle.c_erasure.specs.Scopes.{AMention, FileScope, at_file_scope, declared}
use Rattle.c_erasure.specs.Units.{recognised_value, recognised_part, typed_initializer}
use Rattle.c_well_typed.proofs.MadeNodes.{HasWhole}
use Rattle.c_well_typed.proofs.Recognised.{typed_path, typed_step}
use Rattle.c_well_typed.proofs.RecognisedStatements.{typed_value, typed_part}

module _ (count : ℕ) where
  abbrev pub AreTold : List AMention → Type 0
  AreTold all = AllByRecursion (λ (m : AMention). HasWhole count m.ty) all

  joined : (a b : List AMention) → AreTold a → AreTold b → AreTold (a ++ b)
  joined [] b h k = k
  joined (m ∷ a) b h k = (h.0, joined a b h.1 k)

  pointer_whole : (t : CType) → is_pointer t ≡ true → HasWhole count t
  pointer_whole (pointer t) h = tt
  pointer_whole t h = cc

  conversion_told : (t : CType) (e : Trees.Expression CType) → AreTold (of_conversion t e)
  conversion_told t e = by_test (is_pointer t && is_pointer (ty e) && not (same_type t (ty e)) && not (is_null_node e)) refl
    where
      by_test : (b : Bool) → (is_pointer t && is_pointer (ty e) && not (same_type t (ty e)) && not (is_null_node e)) ≡ b
          → AreTold (cond b (mention From (ty e) (place e) ∷ mention To t (place e) ∷ []) [])
      by_test true h =
          let x = and_parts (is_pointer t && is_pointer (ty e) && not (same_type t (ty e))) (not (is_null_node e)) h in
          let y = and_parts (is_pointer t && is_pointer (ty e)) (not (same_type t (ty e))) x.0 in
          let z = and_parts (is_pointer t) (is_pointer (ty e)) y.0 in
          (pointer_whole (ty e) z.1, (pointer_whole t z.0, tt))
      by_test false h = tt

  abbrev typed_node : Node → Trees.Node CType
  typed_node = mapped_node (of_types (λ (t : Noted). t.ty))

  -- ---- conversions that are null pointers or allocations tell nothing

  abbrev OfNode : CType → Place → Node → Type 0
  OfNode t at node = AreTold (told_by_node t at (typed_node node))

  null_or : (t : CType) (at : Place) (b : Bool) (node : Node) → OfNode t at node → OfNode t at (cond b Trees.null node)
  null_or t at true node h = tt
  null_or t at false node h = h

  still_converted : (t : CType) (at : Place) (e : Expression) (written : Bool) → AreTold (told (typed e)) → OfNode t at (Trees.convert e written)
  still_converted t at e written h = joined (told (typed e)) (of_conversion t (typed e)) h (conversion_told t (typed e))

  allocated_or : (t : CType) (at : Place) (r : ℕ) (a : Option (Trees.OptionalExpression Noted × Bool)) (e : Expression) (written : Bool)
      → AreTold (told (typed e)) → OfNode t at (or_converted r a e written)
  allocated_or t at r None e written h = still_converted t at e written h
  allocated_or t at r (Some a) e written h = tt

  converted_told : (t own : CType) (at : Place) (e : Expression) (written : Bool) → AreTold (told (typed e)) → OfNode own at (converted t e written)
  converted_told (pointer (structure r)) own at e written h =
      null_or own at (is_null_constant e) (or_converted r (allocation r e) e written) (allocated_or own at r (allocation r e) e written h)
  converted_told (pointer t) own at e written h = null_or own at (is_null_constant e) (Trees.convert e written) (still_converted own at e written h)
  converted_told t own at e written h = still_converted own at e written h

  module _ (d : Declared) where
    abbrev Of : Expression → Type 0
    Of e = AreTold (told (typed (recognised e)))

    two : (x y : Expression) → Of x → Of y → AreTold (told (typed (recognised x)) ++ told (typed (recognised y)))
    two x y h k = joined (told (typed (recognised x))) (told (typed (recognised y))) h k

    mutual
      expression_told : (e : Expression) → IsTyped d (typed e) → Of e
      expression_told (Trees.expression t at node) h = node_told t at node h

      node_told : (t : Noted) (at : Place) (node : Node) → IsTypedNode d t.ty at (typed_node node) → OfNode t.ty at (recognised_node t node)
      node_told t at (Trees.constant v) h = tt
      node_told t at Trees.null h = tt
      node_told t at (Trees.function_name g) h = (subst (HasWhole count) (sym h.2) tt, tt)
      node_told t at (Trees.load p) h = path_told p h.0
      node_told t at (Trees.address_of p) h = path_told p h.0
      node_told t at (Trees.decay p) h = path_told p h.0
      node_told t at (Trees.convert e false) h = converted_told t.ty t.ty at (recognised e) false (expression_told e h.0)
      node_told t at (Trees.convert e true) h = converted_told t.ty t.ty at (recognised e) true (expression_told e h.0)
      node_told t at (Trees.unary op x) h = expression_told x h.0
      node_told t at (Trees.binary op x y) h = two x y (expression_told x h.0) (expression_told y h.1)
      node_told t at (Trees.compare op x y) h = two x y (expression_told x h.0) (expression_told y h.1)
      node_told t at (Trees.pointer_add op x y) h = two x y (expression_told x h.0) (expression_told y h.1)
      node_told t at (Trees.pointer_difference x y) h = two x y (expression_told x h.0) (expression_told y h.1)
      node_told t at (Trees.both x y) h = two x y (expression_told x h.0) (expression_told y h.1)
      node_told t at (Trees.either x y) h = two x y (expression_told x h.0) (expression_told y h.1)
      node_told t at (Trees.not x) h = expression_told x h.0
      node_told t at (Trees.choose x y z) h =
          joined (told (typed (recognised x)) ++ told (typed (recognised y))) (told (typed (recognised z)))
          (two x y (expression_told x h.0) (expression_told y h.1)) (expression_told z h.2)
      node_told t at (Trees.comma x y) h = tt
      node_told t at (Trees.assign p x) h = tt
      node_told t at (Trees.assign_op op p x) h = tt
      node_told t at (Trees.step op before p) h = tt
      node_told t at (Trees.copy_record to from) h = tt
      node_told t at (Trees.call g all) h = tt
      node_told t at (Trees.call_through e all) h = tt
      node_told t at (Trees.library which all) h = tt
      node_told t at (Trees.allocate r n zeroed) h = tt

      path_told : (p : Path) → IsTypedPath d (typed_path p) → AreTold (told_by_path (typed_path (recognised_path p)))
      path_told (Trees.path t at step) h = step_told t.ty at step h

      step_told : (t : CType) (at : Place) (step : PathNode) → IsTypedStep d t at (typed_step step)
          → AreTold (told_by_step at (typed_step (recognised_step step)))
      step_told t at (Trees.local n) h = tt
      step_told t at (Trees.object n) h = tt
      step_told t at (Trees.deref e) h = expression_told e h.0
      step_told t at (Trees.index e i) h = two e i (expression_told e h.0) (expression_told i h.1)
      step_told t at (Trees.member p r field) h =
          joined (told_by_path (typed_path (recognised_path p))) (mention Field (structure r) at ∷ []) (path_told p h.0) (tt, tt)
      step_told t at (Trees.element p i) h =
          joined (told_by_path (typed_path (recognised_path p))) (told (typed (recognised i))) (path_told p h.0) (expression_told i h.1)

    -- ---- initializers

    value_told : (t : CType) (v : Trees.PartValue Noted) → IsTypedValue d t (typed_value v) → AreTold (told_by_value (typed_value (recognised_value v)))
    value_told t (Trees.value e) h = expression_told e h.0
    value_told t (Trees.record_of p) h = path_told p h.1
    value_told t (Trees.text bytes) h = tt

    parts_told : (t : CType) (all : List (Trees.Part Noted)) → AllByRecursion (IsTypedPart d t) (map typed_part all)
        → AreTold (flat_map (λ part. told_by_value part.value) (map typed_part (map recognised_part all)))
    parts_told t [] h = tt
    parts_told t (part ∷ all) h =
        joined (told_by_value (typed_value (recognised_value part.value)))
        (flat_map (λ part. told_by_value part.value) (map typed_part (map recognised_part all))) (value_told h.0.0 part.value h.0.2) (parts_told t all h.1)

-- one that names nothing of the object tells nothing
pub initial_told : (count : ℕ) (f : FileScope) (t : CType) (i : Trees.Initializer Noted) → IsTypedObject f t i
    → AreTold count (told_by_initial (Some (typed_initializer i)))
initial_told count f t (Trees.whole e) h = value_told count (declared (at_file_scope f)) t (Trees.value e) h
initial_told count f t (Trees.whole_record p) h = value_told count (declared (at_file_scope f)) t (Trees.record_of p) h
initial_told count f t (Trees.parts []) h = tt
initial_told count f t (Trees.parts (part ∷ all)) h =
    parts_told count (declared (at_file_scope f)) t (part ∷ all)
    (recursion_from_All (IsTypedPart (declared (at_file_scope f)) t) (map typed_part (part ∷ all)) h.1)
