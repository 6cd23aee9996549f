-- What holds of the types at the nodes of an initializer holds of the types of which the file speaks for it, and of those that its values have
-- (C99 6.7.8).
use Rattle.std.proofs.Common.{ℕ, ◌+◌, Bool, true, false, cond, List, [], ◌∷◌, ◌++◌, map, flat_map}
use Rattle.std.specs.Prelude.{not, ◌&&◌, Option, Some, None}
use Rattle.std.specs.List.{AllByRecursion}
use Rattle.lay_base.specs.declared.place.Place.{Place}
use Rattle.c_types.specs.Sameness.{same_type}
use Rattle.c_types.specs.Types.{CType, structure}
use Rattle.c_typed.specs.declared.program.MentionKind.TheVariants.{From, To, Field}
use Rattle.c_typed.specs.Constants.{ty}
use Rattle.c_typed.specs.Conversions.{is_pointer}
use Rattle.c_typed.specs.InitialValues.{InitialValue, a_number, a_null, an_address, a_function}
use Rattle.c_typed.specs.Mapped.{of_types, mapped_node}
use Rattle.c_typed.specs.Trees as Trees
use Rattle.c_typed.specs.Walk.{types_in, types_in_node, types_in_path, types_in_step, types_in_value, types_in_initializer}
use Rattle.c_erasure.specs.Erasure.{typed}
use Rattle.c_erasure.specs.InitialMentions as Mentions
use Rattle.c_erasure.specs.InitialMentions.{mention, is_null_node, of_conversion, told, told_by_node, told_by_path, told_by_step, told_by_value}
use Rattle.c_erasure.specs.InitialMentions.{told_by_initial}
use Rattle.c_erasure.specs.Noted.{Noted, Expression, Path, Node, PathNode}
use Rattle.c_erasure.specs.Scopes.{AMention, FileScope}
use Rattle.c_erasure.specs.Units.{Stores, of_text, stored, of_value, of_part, of_initializer, type_if_pointer}
use Rattle.c_well_typed.proofs.MadeNodes.{AreWhole}
use Rattle.c_well_typed.proofs.Numbers.{two_parts}
use Rattle.c_well_typed.proofs.Recognised.{typed_path, typed_step}
use Rattle.c_well_typed.proofs.RecognisedStatements.{typed_value, typed_part, typed_initial}

module _ (H : CType → Type 0) (of_structure : (r : ℕ) → H (structure r)) where
  abbrev A : List Noted → Type 0
  A = AreWhole H

  abbrev pub AreTold : List AMention → Type 0
  AreTold all = AllByRecursion (λ (m : AMention). H m.ty) all

  abbrev typed_node : Node → Trees.Node CType
  typed_node = mapped_node (of_types (λ (t : Noted). t.ty))

  split : (a b : List Noted) → A (a ++ b) → A a × A b
  split a b h = two_parts (λ (t : Noted). H t.ty) a b h

  both : (a b : List AMention) → AreTold a → AreTold b → AreTold (a ++ b)
  both [] b h k = k
  both (m ∷ a) b h k = (h.0, both a b h.1 k)

  own_type : (e : Expression) → A (types_in e) → H (ty (typed e))
  own_type (Trees.expression t at node) h = (split (types_in_node node) (t ∷ []) h).1.0

  -- ---- what is told

  conversion_told : (t : CType) (e : Trees.Expression CType) → H t → H (Mentions.ty e) → AreTold (of_conversion t e)
  conversion_told t e h k = by_test (is_pointer t && is_pointer (Mentions.ty e) && not (same_type t (Mentions.ty e)) && not (is_null_node e))
    where
      by_test : (b : Bool) → AreTold (cond b (mention From (Mentions.ty e) (Mentions.place e) ∷ mention To t (Mentions.place e) ∷ []) [])
      by_test true = (k, (h, tt))
      by_test false = tt

  same_type_of : (e : Expression) → H (ty (typed e)) → H (Mentions.ty (typed e))
  same_type_of (Trees.expression t at node) h = h

  two : (x y : Expression) → (A (types_in x) → AreTold (told (typed x))) → (A (types_in y) → AreTold (told (typed y))) → A (types_in x ++ types_in y)
      → AreTold (told (typed x) ++ told (typed y))
  two x y f g h = let s = split (types_in x) (types_in y) h in both (told (typed x)) (told (typed y)) (f s.0) (g s.1)

  mutual
    expression_told : (e : Expression) → A (types_in e) → AreTold (told (typed e))
    expression_told (Trees.expression t at node) h =
        let s = split (types_in_node node) (t ∷ []) h in node_told t.ty at node s.0 s.1.0

    node_told : (t : CType) (at : Place) (node : Node) → A (types_in_node node) → H t → AreTold (told_by_node t at (typed_node node))
    node_told t at (Trees.constant v) h k = tt
    node_told t at Trees.null h k = tt
    node_told t at (Trees.function_name g) h k = (k, tt)
    node_told t at (Trees.load p) h k = path_told p h
    node_told t at (Trees.address_of p) h k = path_told p h
    node_told t at (Trees.decay p) h k = path_told p h
    node_told t at (Trees.convert e written) h k =
        both (told (typed e)) (of_conversion t (typed e)) (expression_told e h) (conversion_told t (typed e) k (same_type_of e (own_type e h)))
    node_told t at (Trees.unary op x) h k = expression_told x h
    node_told t at (Trees.binary op x y) h k = two x y (expression_told x) (expression_told y) h
    node_told t at (Trees.compare op x y) h k = two x y (expression_told x) (expression_told y) h
    node_told t at (Trees.pointer_add op x y) h k = two x y (expression_told x) (expression_told y) h
    node_told t at (Trees.pointer_difference x y) h k = two x y (expression_told x) (expression_told y) h
    node_told t at (Trees.both x y) h k = two x y (expression_told x) (expression_told y) h
    node_told t at (Trees.either x y) h k = two x y (expression_told x) (expression_told y) h
    node_told t at (Trees.not x) h k = expression_told x h
    node_told t at (Trees.choose x y z) h k =
        let s = split (types_in x ++ types_in y) (types_in z) h in
        both (told (typed x) ++ told (typed y)) (told (typed z)) (two x y (expression_told x) (expression_told y) s.0) (expression_told z s.1)
    node_told t at (Trees.comma x y) h k = tt
    node_told t at (Trees.assign p x) h k = tt
    node_told t at (Trees.assign_op op p x) h k = tt
    node_told t at (Trees.step op before p) h k = tt
    node_told t at (Trees.copy_record to from) h k = tt
    node_told t at (Trees.call g all) h k = tt
    node_told t at (Trees.call_through e all) h k = tt
    node_told t at (Trees.library which all) h k = tt
    node_told t at (Trees.allocate r n zeroed) h k = tt

    path_told : (p : Path) → A (types_in_path p) → AreTold (told_by_path (typed_path p))
    path_told (Trees.path t at step) h = step_told at step (split (types_in_step step) (t ∷ []) h).0

    step_told : (at : Place) (step : PathNode) → A (types_in_step step) → AreTold (told_by_step at (typed_step step))
    step_told at (Trees.local n) h = tt
    step_told at (Trees.object n) h = tt
    step_told at (Trees.deref e) h = expression_told e h
    step_told at (Trees.index e i) h = two e i (expression_told e) (expression_told i) h
    step_told at (Trees.member p r field) h =
        both (told_by_path (typed_path p)) (mention Field (structure r) at ∷ []) (path_told p h) (of_structure r, tt)
    step_told at (Trees.element p i) h =
        let s = split (types_in_path p) (types_in i) h in both (told_by_path (typed_path p)) (told (typed i)) (path_told p s.0) (expression_told i s.1)

  value_told : (v : Trees.PartValue Noted) → A (types_in_value v) → AreTold (told_by_value (typed_value v))
  value_told (Trees.value e) h = expression_told e h
  value_told (Trees.record_of p) h = path_told p h
  value_told (Trees.text bytes) h = tt

  abbrev in_parts : List (Trees.Part Noted) → List Noted
  in_parts all = flat_map (λ part. types_in_value part.value) all

  parts_told : (all : List (Trees.Part Noted)) → A (in_parts all) → AreTold (flat_map (λ part. told_by_value part.value) (map typed_part all))
  parts_told [] h = tt
  parts_told (part ∷ all) h =
      let s = split (types_in_value part.value) (in_parts all) h in
      both (told_by_value (typed_value part.value)) (flat_map (λ part. told_by_value part.value) (map typed_part all)) (value_told part.value s.0) (parts_told all s.1)

  pub initial_told : (i : Trees.Initializer Noted) → A (types_in_initializer i) → AreTold (told_by_initial (Some (typed_initial i)))
  initial_told (Trees.whole e) h = expression_told e h
  initial_told (Trees.whole_record p) h = path_told p h
  initial_told (Trees.parts all) h = parts_told all h

  -- ---- the types of values

  abbrev B : List CType → Type 0
  B types = AllByRecursion H types

  more : (a b : List CType) → B a → B b → B (a ++ b)
  more [] b h k = k
  more (t ∷ a) b h k = (h.0, more a b h.1 k)

  flat_more : (a b : List Stores) → B (flat_map type_if_pointer a) → B (flat_map type_if_pointer b) → B (flat_map type_if_pointer (a ++ b))
  flat_more [] b h k = k
  flat_more (s ∷ a) b h k =
      let p = two_parts H (type_if_pointer s) (flat_map type_if_pointer a) h in
      more (type_if_pointer s) (flat_map type_if_pointer (a ++ b)) p.0 (flat_more a b p.1 k)

  store_type : (at : ℕ) (t : CType) (v : InitialValue) → H t → B (type_if_pointer (at, t, v))
  store_type at t v h = by_test (is_pointer t)
    where
      by_test : (b : Bool) → B (cond b (t ∷ []) [])
      by_test true = (h, tt)
      by_test false = tt

  stored_types : (t : CType) (at : ℕ) (o : Option InitialValue) → H t → B (flat_map type_if_pointer (stored t at o))
  stored_types t at None h = tt
  stored_types t at (Some (a_number kind v)) h = more (type_if_pointer (at, t, a_number kind v)) [] (store_type at t (a_number kind v) h) tt
  stored_types t at (Some a_null) h = tt
  stored_types t at (Some (an_address a)) h = more (type_if_pointer (at, t, an_address a)) [] (store_type at t (an_address a) h) tt
  stored_types t at (Some (a_function g)) h = more (type_if_pointer (at, t, a_function g)) [] (store_type at t (a_function g) h) tt

  text_types : (at : ℕ) (bytes : List ℕ) → B (flat_map type_if_pointer (of_text at bytes))
  text_types at [] = tt
  text_types at (v ∷ bytes) = text_types (at + 1) bytes

  module _ (f : FileScope) where
    value_types : (at : ℕ) (v : Trees.PartValue Noted) → A (types_in_value v) → B (flat_map type_if_pointer (of_value f at (typed_value v)))
    value_types at (Trees.value e) h = stored_types (ty (typed e)) at _ (own_type e h)
    value_types at (Trees.record_of p) h = tt
    value_types at (Trees.text bytes) h = text_types at bytes

    parts_types : (all : List (Trees.Part Noted)) → A (in_parts all) → B (flat_map type_if_pointer (flat_map (of_part f) (map typed_part all)))
    parts_types [] h = tt
    parts_types (part ∷ all) h =
        let s = split (types_in_value part.value) (in_parts all) h in
        flat_more (of_part f (typed_part part)) (flat_map (of_part f) (map typed_part all)) (value_types part.offset part.value s.0) (parts_types all s.1)

    pub initializer_types : (i : Trees.Initializer Noted) → A (types_in_initializer i) → B (flat_map type_if_pointer (of_initializer f (typed_initial i)))
    initializer_types (Trees.whole e) h = stored_types (ty (typed e)) 0 _ (own_type e h)
    initializer_types (Trees.whole_record p) h = tt
    initializer_types (Trees.parts all) h = parts_types all h
