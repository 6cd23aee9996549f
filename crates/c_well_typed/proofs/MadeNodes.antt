-- The types of the nodes of a typed tree (C99 6.5) are such that functions and arrays can have them (`IsWellMade`), since it is so of the types of names,
-- casts, null pointers, functions and fields; so what holds of all such types holds of them.
use Rattle.std.proofs.Common.{◌≡◌, ℕ, true, false, sym, subst, List, [], ◌∷◌, ◌++◌, inl, inr}
use Rattle.std.proofs.lemmas.Bool.{and_parts}
use Rattle.std.specs.Prelude.{Some, slice_get, nat_lt}
use Rattle.std.specs.List.{AllByRecursion}
use Rattle.lay_base.specs.declared.place.Place.{Place}
use Rattle.c_types.specs.Objects.{is_object}
use Rattle.c_types.specs.declared.ty.IntKind.TheVariants.{UInt}
use Rattle.c_types.specs.Types.{CType, CTypes, integer, pointer, array, function, no_types, and_type}
use Rattle.c_typed.specs.declared.operators.LibraryFunction.{LibraryFunction}
use Rattle.c_typed.specs.declared.operators.PointerOp.{PointerOp}
use Rattle.c_typed.specs.declared.operators.PointerOp.TheVariants as P
use Rattle.c_typed.specs.Trees as Trees
use Rattle.c_typed.specs.Conversions.{is_integer, is_scalar}
use Rattle.c_typed.specs.Constants.{ty, is_null}
use Rattle.c_typed.specs.Fits.{library_type}
use Rattle.c_typed.specs.Mapped.{of_types, mapped_node}
use Rattle.c_typed.specs.Typed.{Declared, path_ty, bare, is_bare, bare_ty, field_type, IsMoved, IsMove, IsTyped, IsTypedNode, AreArguments, IsCount}
use Rattle.c_typed.specs.Typed.{IsTypedPath, IsTypedStep}
use Rattle.c_typed.specs.Mapped.{mapped_if_any}
use Rattle.c_typed.specs.Walk.{types_in, types_in_node, types_in_path, types_in_step, types_in_all, types_in_optional}
use Rattle.c_erasure.specs.Erasure.{typed}
use Rattle.c_erasure.specs.Noted.{Noted, Expression, Path, Node, PathNode}
use Rattle.c_well_typed.proofs.Allocations.{bare_itself}
use Rattle.c_well_typed.proofs.Fitting.{promoting_is, on_numbers_is}
use Rattle.c_well_typed.proofs.Monotone.{moved_number, updated_number}
use Rattle.c_well_typed.proofs.Recognised.{typed_path, typed_step, typed_all}
use Rattle.c_well_typed.proofs.WellMade.{IsMade, AreMade, IsWellMade, integer_made, pointed_made, decayed_made, element_made, comparing_made, choosing_made}
use Rattle.c_well_typed.proofs.WellMade.{library_made}
use Rattle.c_well_typed.proofs.Leaves.{HasMadeLeaves, InNode, InPath, InStep, InAll, InCount}

-- the elements of an array are complete
abbrev pub HasWhole : ℕ → CType → Type 0
HasWhole count (array t n) = is_object count t ≡ true
HasWhole count t = Unit {0}

pub made_whole : (count : ℕ) (t : CType) → IsWellMade count t → HasWhole count t
made_whole count (array t n) h = h.1
made_whole count t h = tt

pub object_whole : (count : ℕ) (t : CType) → is_object count t ≡ true → HasWhole count t
object_whole count (array t n) h = (and_parts (nat_lt 0 n) (is_object count t) h).1
object_whole count t h = tt

pub scalar_whole : (count : ℕ) (t : CType) → is_scalar t ≡ true → HasWhole count t
scalar_whole count (array t n) h = cc
scalar_whole count t h = tt

abbrev pub AreWhole : (CType → Type 0) → List Noted → Type 0
AreWhole H types = AllByRecursion (λ t. H t.ty) types

pub joined : (H : CType → Type 0) (a b : List Noted) → AreWhole H a → AreWhole H b → AreWhole H (a ++ b)
joined H [] b h k = k
joined H (t ∷ a) b h k = (h.0, joined H a b h.1 k)

module _ (d : Declared) (IsElement : CType → Type 0) (functions : (n : ℕ) (t : CType) → slice_get d.functions n ≡ Some t → IsMade IsElement t)
    (fields : (r k : ℕ) (t : CType) → field_type d.records r k ≡ Some t → IsMade IsElement t) where
  abbrev W : CType → Type 0
  W = IsMade IsElement

  abbrev typed_node : Node → Trees.Node CType
  typed_node = mapped_node (of_types (λ (t : Noted). t.ty))

  -- what is not converted
  own : (e : Expression) → is_bare (typed e) ≡ true → W (bare_ty (typed e)) → W (ty (typed e))
  own e b m = subst (λ x. W (ty x)) (bare_itself (typed e) b) m

  moved : (n : ℕ) (x y : Expression) (t : CType) → IsMoved n (typed x) (typed y) t → W (bare_ty (typed x)) → W t × W (ty (typed x)) × W (ty (typed y))
  moved n x y t h m =
      let p = own x h.0 m in
      (subst W (sym h.2) p, p, integer_made IsElement (ty (typed y)) (moved_number n (ty (typed x)) (bare_ty (typed y)) (ty (typed y)) h.1))

  move : (op : PointerOp) (n : ℕ) (x y : Expression) (t : CType) → IsMove op n (typed x) (typed y) t → W (bare_ty (typed x)) → W (bare_ty (typed y))
      → W t × W (ty (typed x)) × W (ty (typed y))
  move P.Add n x y t (inl h) a b = moved n x y t h a
  move P.Add n x y t (inr h) a b = let r = moved n y x t h b in (r.0, r.2, r.1)
  move P.Subtract n x y t h a b = moved n x y t h a

  called : (e : Expression) (t : CType) (parameters : CTypes) → ty (typed e) ≡ pointer (function t parameters) → W (ty (typed e)) → W (function t parameters)
  called e t parameters h m = subst W h m

  of_library : (which : LibraryFunction) (t : CType) (parameters : CTypes) → library_type which ≡ function t parameters → W (function t parameters)
  of_library which t parameters h = subst W h (library_made IsElement which)

  -- ---- the types of expressions, without their conversions, and of paths

  mutual
    pub made : (e : Expression) → IsTyped d (typed e) → HasMadeLeaves W W e → W (bare_ty (typed e))
    made (Trees.expression t at (Trees.constant v)) h l = subst W (sym h.1) tt
    made (Trees.expression t at Trees.null) h l = l
    made (Trees.expression t at (Trees.function_name g)) h l = l
    made (Trees.expression t at (Trees.load p)) h l = subst W (sym h.2) (path_made p h.0 l)
    made (Trees.expression t at (Trees.address_of p)) h l = subst W (sym h.1) (path_made p h.0 l)
    made (Trees.expression t at (Trees.decay p)) h l = decayed_made IsElement (path_ty (typed_path p)) t.ty h.1 (path_made p h.0 l)
    made (Trees.expression t at (Trees.convert e false)) h l = own e h.1 (made e h.0 l)
    made (Trees.expression t at (Trees.convert e true)) h l = l.0
    made (Trees.expression t at (Trees.unary op x)) h l = integer_made IsElement t.ty (promoting_is (bare_ty (typed x)) t.ty h.1).1
    made (Trees.expression t at (Trees.binary op x y)) h l =
        integer_made IsElement t.ty (on_numbers_is op (bare_ty (typed x)) (bare_ty (typed y)) t.ty (ty (typed y)) h.2).2
    made (Trees.expression t at (Trees.compare op x y)) h l = subst W (sym h.4) tt
    made (Trees.expression t at (Trees.pointer_add op x y)) h l = (move op (d.complete at.at) x y t.ty h.2 (made x h.0 l.0) (made y h.1 l.1)).0
    made (Trees.expression t at (Trees.pointer_difference x y)) h l = subst W (sym h.5) tt
    made (Trees.expression t at (Trees.both x y)) h l = subst W (sym h.4) tt
    made (Trees.expression t at (Trees.either x y)) h l = subst W (sym h.4) tt
    made (Trees.expression t at (Trees.not x)) h l = subst W (sym h.2) tt
    made (Trees.expression t at (Trees.choose x y z)) h l = choosing_made IsElement (bare_ty (typed y)) (is_null (bare (typed y))) (bare_ty (typed z)) (is_null (bare (typed z))) t.ty (made y h.1 l.1) (made z h.2 l.2) h.4
    made (Trees.expression t at (Trees.comma x y)) h l = subst W (sym h.4) (own y h.3 (made y h.1 l.1))
    made (Trees.expression t at (Trees.assign p x)) h l = subst W (sym h.3) (path_made p h.0 l.0)
    made (Trees.expression t at (Trees.assign_op op p x)) h l = subst W (sym h.2) (path_made p h.0 l.0)
    made (Trees.expression t at (Trees.step op before p)) h l = subst W (sym h.1) (path_made p h.0 l)
    made (Trees.expression t at (Trees.copy_record to from)) h l = subst W (sym h.2) tt
    made (Trees.expression t at (Trees.call g all)) h l = (functions g (function t.ty h.0) h.1).1
    made (Trees.expression t at (Trees.call_through e all)) h l = (called e t.ty h.0 h.3 (own e h.2 (made e h.1 l.0))).1
    made (Trees.expression t at (Trees.library which all)) h l = (of_library which t.ty h.0 h.1).1
    made (Trees.expression t at (Trees.allocate r n zeroed)) h l = subst W (sym h.0) tt

    pub path_made : (p : Path) → IsTypedPath d (typed_path p) → InPath W W p → W (path_ty (typed_path p))
    path_made (Trees.path t at (Trees.local n)) h l = l
    path_made (Trees.path t at (Trees.object n)) h l = l
    path_made (Trees.path t at (Trees.deref e)) h l = pointed_made IsElement (ty (typed e)) t.ty h.2 (own e h.1 (made e h.0 l))
    path_made (Trees.path t at (Trees.index e i)) h l = pointed_made IsElement (ty (typed e)) t.ty h.5 (own e h.2 (made e h.0 l.0))
    path_made (Trees.path t at (Trees.member p r field)) h l = fields r field t.ty h.2
    path_made (Trees.path t at (Trees.element p i)) h l = element_made IsElement (path_ty (typed_path p)) t.ty h.3 (path_made p h.0 l.0)

  -- ---- all types of a tree, where its own has what all such types have

  module _ (H : CType → Type 0) (of_made : (t : CType) → W t → H t) where
    abbrev A : List Noted → Type 0
    A = AreWhole H

    pub bare_whole : (e : Expression) → is_bare (typed e) ≡ true → IsTyped d (typed e) → HasMadeLeaves W W e → H (ty (typed e))
    bare_whole e b h l = of_made (ty (typed e)) (own e b (made e h l))

    pub number_whole : (t : CType) → is_integer t ≡ true → H t
    number_whole t i = of_made t (integer_made IsElement t i)

    two : (x y : Expression) → A (types_in x) → A (types_in y) → A (types_in x ++ types_in y)
    two x y a b = joined H (types_in x) (types_in y) a b

    mutual
      pub all_whole : (e : Expression) → IsTyped d (typed e) → HasMadeLeaves W W e → H (ty (typed e)) → A (types_in e)
      all_whole (Trees.expression t at node) h l m = joined H (types_in_node node) (t ∷ []) (node_whole t.ty at node h l) (m, tt)

      node_whole : (t : CType) (at : Place) (node : Node) → IsTypedNode d t at (typed_node node) → InNode W W t node → A (types_in_node node)
      node_whole t at (Trees.constant v) h l = tt
      node_whole t at Trees.null h l = tt
      node_whole t at (Trees.function_name g) h l = tt
      node_whole t at (Trees.load p) h l = path_whole p h.0 l
      node_whole t at (Trees.address_of p) h l = path_whole p h.0 l
      node_whole t at (Trees.decay p) h l = path_whole p h.0 l
      node_whole t at (Trees.convert e false) h l = all_whole e h.0 l (bare_whole e h.1 h.0 l)
      node_whole t at (Trees.convert e true) h l = all_whole e h.0 l.1 (bare_whole e h.1 h.0 l.1)
      node_whole t at (Trees.unary op x) h l =
          all_whole x h.0 l (number_whole (ty (typed x)) (subst (λ t. is_integer t ≡ true) (sym h.2) (promoting_is (bare_ty (typed x)) t h.1).1))
      node_whole t at (Trees.binary op x y) h l =
          let i = on_numbers_is op (bare_ty (typed x)) (bare_ty (typed y)) t (ty (typed y)) h.2 in
          two x y (all_whole x h.0 l.0 (number_whole (ty (typed x)) (subst (λ t. is_integer t ≡ true) (sym h.3) i.2)))
          (all_whole y h.1 l.1 (number_whole (ty (typed y)) i.3))
      node_whole t at (Trees.compare op x y) h l =
          let m = of_made (ty (typed x)) (comparing_made IsElement op (bare_ty (typed x)) (is_null (bare (typed x))) (bare_ty (typed y)) (is_null (bare (typed y))) (ty (typed x)) (made x h.0 l.0) (made y h.1 l.1) h.2) in
          two x y (all_whole x h.0 l.0 m) (all_whole y h.1 l.1 (subst H (sym h.3) m))
      node_whole t at (Trees.pointer_add op x y) h l =
          let m = move op (d.complete at.at) x y t h.2 (made x h.0 l.0) (made y h.1 l.1) in
          two x y (all_whole x h.0 l.0 (of_made (ty (typed x)) m.1)) (all_whole y h.1 l.1 (of_made (ty (typed y)) m.2))
      node_whole t at (Trees.pointer_difference x y) h l = two x y (all_whole x h.0 l.0 (bare_whole x h.2 h.0 l.0)) (all_whole y h.1 l.1 (bare_whole y h.3 h.1 l.1))
      node_whole t at (Trees.both x y) h l = two x y (all_whole x h.0 l.0 (bare_whole x h.2.0 h.0 l.0)) (all_whole y h.1 l.1 (bare_whole y h.3.0 h.1 l.1))
      node_whole t at (Trees.either x y) h l = two x y (all_whole x h.0 l.0 (bare_whole x h.2.0 h.0 l.0)) (all_whole y h.1 l.1 (bare_whole y h.3.0 h.1 l.1))
      node_whole t at (Trees.not x) h l = all_whole x h.0 l (bare_whole x h.1.0 h.0 l)
      node_whole t at (Trees.choose x y z) h l =
          let m = of_made t (choosing_made IsElement (bare_ty (typed y)) (is_null (bare (typed y))) (bare_ty (typed z)) (is_null (bare (typed z))) t (made y h.1 l.1) (made z h.2 l.2) h.4) in
          joined H (types_in x ++ types_in y) (types_in z)
          (two x y (all_whole x h.0 l.0 (bare_whole x h.3.0 h.0 l.0)) (all_whole y h.1 l.1 (subst H (sym h.5) m)))
          (all_whole z h.2 l.2 (subst H (sym h.6) m))
      node_whole t at (Trees.comma x y) h l = two x y (all_whole x h.0 l.0 (bare_whole x h.2 h.0 l.0)) (all_whole y h.1 l.1 (bare_whole y h.3 h.1 l.1))
      node_whole t at (Trees.assign p x) h l =
          joined H (types_in_path p) (types_in x) (path_whole p h.0 l.0)
          (all_whole x h.1 l.1 (of_made (ty (typed x)) (subst W (sym h.4.1) (subst W (sym h.3) (path_made p h.0 l.0)))))
      node_whole t at (Trees.assign_op op p x) h l =
          joined H (types_in_path p) (types_in x) (path_whole p h.0 l.0)
          (all_whole x h.1 l.1 (number_whole (ty (typed x)) (updated_number (d.complete at.at) op t (bare_ty (typed x)) (ty (typed x)) h.3)))
      node_whole t at (Trees.step op before p) h l = path_whole p h.0 l
      node_whole t at (Trees.copy_record to from) h l =
          joined H (types_in_path to) (types_in_path from) (path_whole to h.0 l.0) (path_whole from h.1 l.1)
      node_whole t at (Trees.call g all) h l = arguments_whole h.0 all h.2 (functions g (function t h.0) h.1).2 l
      node_whole t at (Trees.call_through e all) h l =
          joined H (types_in e) (types_in_all all) (all_whole e h.1 l.0 (bare_whole e h.2 h.1 l.0))
          (arguments_whole h.0 all h.4 (called e t h.0 h.3 (own e h.2 (made e h.1 l.0))).2 l.1)
      node_whole t at (Trees.library which all) h l = arguments_whole h.0 all h.2 (of_library which t h.0 h.1).2 l
      node_whole t at (Trees.allocate r n zeroed) h l = count_whole n h.2 l

      arguments_whole : (parameters : CTypes) (all : Trees.Expressions Noted) → AreArguments d parameters (typed_all all) → AreMade IsElement parameters
          → InAll W W all → A (types_in_all all)
      arguments_whole no_types Trees.no_expressions h m l = tt
      arguments_whole no_types (Trees.and_expression x all) h m l = absurd h
      arguments_whole (and_type t more) Trees.no_expressions h m l = absurd h
      arguments_whole (and_type t more) (Trees.and_expression x all) h m l =
          joined H (types_in x) (types_in_all all) (all_whole x h.0 l.0 (subst H (sym h.1.1) (of_made t m.1)))
          (arguments_whole more all h.2 m.2 l.1)

      count_whole : (n : Trees.OptionalExpression Noted) → IsCount d (mapped_if_any (of_types (λ (t : Noted). t.ty)) n) → InCount W W n → A (types_in_optional n)
      count_whole Trees.no_expression h l = tt
      count_whole (Trees.some_expression x) h l = all_whole x h.0 l (subst H (sym h.1.1) (of_made (integer UInt) tt))

      pub path_whole : (p : Path) → IsTypedPath d (typed_path p) → InPath W W p → A (types_in_path p)
      path_whole (Trees.path t at step) h l =
          joined H (types_in_step step) (t ∷ []) (step_whole t.ty at step h l) (of_made t.ty (path_made (Trees.path t at step) h l), tt)

      step_whole : (t : CType) (at : Place) (step : PathNode) → IsTypedStep d t at (typed_step step) → InStep W W t step → A (types_in_step step)
      step_whole t at (Trees.local n) h l = tt
      step_whole t at (Trees.object n) h l = tt
      step_whole t at (Trees.deref e) h l = all_whole e h.0 l (bare_whole e h.1 h.0 l)
      step_whole t at (Trees.index e i) h l =
          two e i (all_whole e h.0 l.0 (bare_whole e h.2 h.0 l.0)) (all_whole i h.1 l.1 (number_whole (ty (typed i)) (promoting_is (bare_ty (typed i)) (ty (typed i)) h.4).1))
      step_whole t at (Trees.member p r field) h l = path_whole p h.0 l
      step_whole t at (Trees.element p i) h l =
          joined H (types_in_path p) (types_in i) (path_whole p h.0 l.0)
          (all_whole i h.1 l.1 (number_whole (ty (typed i)) (promoting_is (bare_ty (typed i)) (ty (typed i)) h.2).1))
