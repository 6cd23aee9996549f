-- What is made of the parts of an expression has types within the limits, where its parts have (C99 6.5).
use Rattle.std.proofs.Common.{◌≡◌, ℕ, zero, suc, ◌+◌, Bool, true, false, refl, subst, cond, List, [], ◌∷◌, arith}
use Rattle.std.proofs.lemmas.Bool.{ltb-true}
use Rattle.std.specs.Prelude.{◌&&◌, not, Option, Some, None, Ok, Err, slice_get, nat_le, nat_lt}
use Rattle.std.specs.List.{AllByRecursion}
use Rattle.std.specs.Str.{bytes_eq}
use Rattle.lay_base.specs.declared.place.Place.{Place}
use Rattle.lay_base.specs.declared.faults.Rule.TheVariants as R
use Rattle.c_types.specs.declared.ty.IntKind.TheVariants.{Int, UInt}
use Rattle.c_types.specs.Layouts.{size_of}
use Rattle.c_types.specs.Objects.{is_object, parts}
use Rattle.c_types.specs.Sameness.{same_type}
use Rattle.c_types.specs.Types.{CType, CTypes, void, integer, pointer, array, function, structure, Field, Record}
use Rattle.c_typed.specs.declared.operators.BinaryOp.{BinaryOp}
use Rattle.c_typed.specs.declared.operators.BinaryOp.TheVariants as B
use Rattle.c_typed.specs.declared.operators.CompareOp.{CompareOp}
use Rattle.c_typed.specs.declared.operators.CompareOp.TheVariants.{Equal, NotEqual}
use Rattle.c_typed.specs.declared.operators.LibraryFunction.{LibraryFunction}
use Rattle.c_typed.specs.declared.operators.LibraryFunction.TheVariants as L
use Rattle.c_typed.specs.declared.operators.PointerOp.{PointerOp}
use Rattle.c_typed.specs.declared.operators.StepOp.{StepOp}
use Rattle.c_typed.specs.declared.operators.UnaryOp.{UnaryOp}
use Rattle.c_typed.specs.Conversions.{is_integer, is_scalar, is_function, promoted_kind, common_kind, promoted}
use Rattle.c_typed.specs.Fits.{assigns, casts, is_void_and_object, library_type, met, meeting, ordered, compared}
use Rattle.c_typed.specs.Rules.{promoting, arithmetic, is_shift, on_numbers, comparing, both_void, choosing, moving, points_to_object, differing, is_move}
use Rattle.c_typed.specs.Rules.{updating, is_stepped}
use Rattle.c_typed.specs.Rules as Rules
use Rattle.c_typed.specs.Trees as Typed
use Rattle.c_erasure.specs.Broken.{Fault, ill_typed, called_type, pointed_type, too_big, misplaced}
use Rattle.c_erasure.specs.Noted.{Noted, Expression, Path, Node, Thing, an_object, a_value, a_function, a_function_at, a_library_function}
use Rattle.c_erasure.specs.Noted.{value, way, type_of, type_of_path, object_value, value_of}
use Rattle.c_erasure.specs.Operators.{Kind, computes, compares, all_of, any_of}
use Rattle.c_erasure.specs.Scopes.{Entity, typedef, enumerator, a_local, a_parameter}
use Rattle.c_erasure.specs.Scopes as Scopes
use Rattle.c_erasure.specs.Checking.Answers.{refused}
use Rattle.c_erasure.specs.Checking.Nodes as Nodes
use Rattle.c_erasure.specs.Checking.Nodes.{null, converted, valued, worth, named_in, promoted_value, element_to, index_to, turned_to, index_in, array_of_type}
use Rattle.c_erasure.specs.Checking.Nodes.{array_of}
use Rattle.c_erasure.specs.Checking.Nodes.{element_in, signature_of, signature_in, argument_in, call_through, call_in, field_from, field_in, member_to}
use Rattle.c_erasure.specs.Checking.Nodes.{member_of_type, dot_in}
use Rattle.c_erasure.specs.Checking.Nodes.{arrow_to, arrow_in, step_in, address_in, pointed_to, deref_in, unary_in, not_in, size_node, measured_type}
use Rattle.c_erasure.specs.Checking.Nodes.{of_limited_size}
use Rattle.c_erasure.specs.Checking.Nodes.{is_complete, sized_or, sized_type, measured_of, measured_in, cast_in, number_node, forward_node, backward_node}
use Rattle.c_erasure.specs.Checking.Nodes.{added_in, subtracted_in}
use Rattle.c_erasure.specs.Checking.Nodes.{on_pointers, computed_in, compare_node, compared_in, tested_in, binary_in, tested, choice_node, chosen_in, Target}
use Rattle.c_erasure.specs.Checking.Nodes.{scalar_at, record_at}
use Rattle.c_erasure.specs.Checking.Nodes.{target_of_type, target_in, path_of, assigned_in, copied_in, update_node, updated_in, comma_in}
use Rattle.c_checking_laws.proofs.Results.{given, chosen, only_if, by_option}
use Rattle.c_checking_units.proofs.TypeLimits.Types.{IsWithin, AreWithin, void_within, number_within, void_pointer_within, pointed_within, element_within}
use Rattle.c_checking_units.proofs.TypeLimits.Types.{decayed_within}
use Rattle.c_checking_units.proofs.TypeLimits.Types.{result_within, parameters_within, pointer_within}
use Rattle.c_checking_units.proofs.TypeLimits.Trees.{Each, EachInNode, EachInPath, EachOfAll}

some_is : {A : Type 0} (x y : A) → Some x ≡ Some y → x ≡ y
some_is x y h = cc

module _ (records : List Record) where
  abbrev pub W : CType → Type 0
  W t = IsWithin records t

  abbrev pub EachValue : Expression → Type 0
  EachValue e = Each W e

  abbrev pub EachPath : Path → Type 0
  EachPath p = EachInPath W p

  abbrev pub IsThing : Thing → Type 0
  IsThing (an_object p) = EachPath p
  IsThing (a_value e) = EachValue e
  IsThing (a_function at f t) = W t × W (pointer t)
  IsThing (a_function_at e) = EachValue e
  IsThing (a_library_function at which) = Unit {0}

  abbrev pub IsEntity : Entity → Type 0
  IsEntity (typedef t) = W t
  IsEntity (enumerator v) = Unit {0}
  IsEntity (Scopes.an_object n t) = W t
  IsEntity (Scopes.a_function n t) = W t × W (pointer t)
  IsEntity (Scopes.a_library_function which) = Unit {0}
  IsEntity (a_local n t) = W t
  IsEntity (a_parameter t) = W t × W (pointer t)

  abbrev pub IsEntityIfAny : Option Entity → Type 0
  IsEntityIfAny None = Unit {0}
  IsEntityIfAny (Some e) = IsEntity e

  abbrev pub AreFields : List Field → Type 0
  AreFields all = AllByRecursion (λ (f : Field). W f.ty) all

  abbrev pub AreRecords : List Record → Type 0
  AreRecords all = AllByRecursion (λ (r : Record). AreFields r.fields) all

  abbrev AnyIs : Option CType → Type 0
  AnyIs None = Unit {0}
  AnyIs (Some t) = W t

  any_at : (o : Option CType) (t : CType) → o ≡ Some t → AnyIs o → W t
  any_at (Some s) t h k = subst W (some_is s t h) k
  any_at None t h k = cc

  pub type_within : (e : Expression) → EachValue e → W (type_of e)
  type_within (Typed.expression t at node) h = h.1

  pub path_within : (p : Path) → EachPath p → W (type_of_path p)
  path_within (Typed.path t at step) h = h.1

  -- ---- values

  pub worth_is : (at : ℕ) (th : Thing) (e : Expression) → worth at th ≡ Ok e → IsThing th → EachValue e
  unfolding worth
  worth_is at (an_object p) e h k = by_type (type_of_path p) (path_within p k) h
    where
      by_type : (t : CType) → W t → valued at (an_object p) (object_value p t) ≡ Ok e → EachValue e
      by_type (integer kind) w h = given EachValue _ e h (k, w)
      by_type (pointer t) w h = given EachValue _ e h (k, w)
      by_type (array t n) w h = given EachValue _ e h (k, decayed_within records t n w)
      by_type t w h = cc
  worth_is at (a_value x) e h k = given EachValue x e h k
  worth_is at (a_function from f t) e h k = given EachValue _ e h (tt, k.1)
  worth_is at (a_function_at x) e h k = given EachValue x e h k
  worth_is at (a_library_function from which) e h k = cc

  pub converted_is : (t : CType) (x : Expression) → W t → EachValue x → EachValue (converted t x)
  converted_is t x w k = by_same (same_type (type_of x) t)
    where
      by_same : (b : Bool) → EachValue (cond b x (value t (Nodes.place_of x) (Typed.convert x false)))
      by_same true = k
      by_same false = (k, w)

  promoted_within : (t : CType) → W t → W (promoted t)
  promoted_within (integer kind) w = number_within records (promoted_kind kind)
  promoted_within void w = w
  promoted_within (pointer t) w = w
  promoted_within (array t n) w = w
  promoted_within (function t all) w = w
  promoted_within (structure r) w = w

  promoted_is : (x : Expression) → EachValue x → EachValue (promoted_value x)
  promoted_is x k = converted_is (promoted (type_of x)) x (promoted_within (type_of x) (type_within x k)) k

  pub named_is : (at : Place) (x : List ℕ) (o : Option Entity) (th : Thing) → named_in at x o ≡ Ok th → IsEntityIfAny o → IsThing th
  unfolding named_in
  named_is at x None th h k = cc
  named_is at x (Some (typedef t)) th h k = cc
  named_is at x (Some (enumerator v)) th h k = given IsThing _ th h (tt, number_within records Int)
  named_is at x (Some (Scopes.an_object n t)) th h k = given IsThing _ th h (tt, k)
  named_is at x (Some (Scopes.a_function f t)) th h k = given IsThing _ th h k
  named_is at x (Some (Scopes.a_library_function which)) th h k = given IsThing _ th h tt
  named_is at x (Some (a_local n t)) th h k = given IsThing _ th h (tt, k)
  named_is at x (Some (a_parameter t)) th h k = given IsThing _ th h ((tt, k.1), k.0)

  -- ---- subscripts

  abbrev pub IsArray : Option (Path × CType) → Type 0
  IsArray None = Unit {0}
  IsArray (Some a) = EachPath a.0 × W a.1

  pub array_is : (th : Thing) → IsThing th → IsArray (array_of th)
  unfolding array_of
  array_is (an_object p) k = by_type (type_of_path p) (path_within p k)
    where
      by_type : (t : CType) → W t → IsArray (array_of_type p t)
      by_type (array t n) w = (k, element_within records t n w)
      by_type void w = tt
      by_type (integer kind) w = tt
      by_type (pointer t) w = tt
      by_type (function t all) w = tt
      by_type (structure r) w = tt
  array_is (a_value e) k = tt
  array_is (a_function at f t) k = tt
  array_is (a_function_at e) k = tt
  array_is (a_library_function at which) k = tt

  pub element_is : (left : ℕ) (at : Place) (a : Path × CType) (i : Expression) (th : Thing) → element_in left at a i ≡ Ok th → EachPath a.0 → W a.1
      → EachValue i → IsThing th
  unfolding element_in
  element_is left at a i th h p w k =
      let o = only_if (is_integer (type_of i)) _ _ _ th h in
      given IsThing _ th o.1 ((p, promoted_is i k), w)

  indexed_is : (at : Place) (e i : Expression) (t : CType) (th : Thing) → index_to at e i t ≡ Ok th → EachValue e → W t → EachValue i → IsThing th
  indexed_is at e i (pointer t) th h k w l = given IsThing _ th h ((k, promoted_is i l), pointed_within records t w)
  indexed_is at e i t th h k w l = cc

  turned_is : (at : Place) (i e : Expression) (t : CType) (th : Thing) → turned_to at i e t ≡ Ok th → EachValue i → EachValue e → W t → IsThing th
  turned_is at i e (pointer t) th h k l w = given IsThing _ th h (((promoted_is i k, l), w), pointed_within records t w)
  turned_is at i e t th h k l w = cc

  pub index_is : (count left : ℕ) (at : Place) (x y : Expression) (th : Thing) → index_in count left at x y ≡ Ok th → EachValue x → EachValue y → IsThing th
  unfolding index_in
  index_is count left at x y th h k l =
      let turned = is_integer (type_of x) && points_to_object count (type_of y) in
      chosen (points_to_object count (type_of x) && is_integer (type_of y)) (index_to at x y (type_of x))
      (cond turned (turned_to at x y (type_of y)) (refused R.Operands left)) th (IsThing th) h
      (λ b h. indexed_is at x y (type_of x) th h k (type_within x k) l)
      (λ b h. let o = only_if turned (turned_to at x y (type_of y)) R.Operands left th h in turned_is at x y (type_of y) th o.1 k l (type_within y l))

  -- ---- calls

  library_within : (which : LibraryFunction) → W (library_type which)
  library_within L.Malloc = record { arrays = (tt, (tt, tt)); parts = omega arith }
  library_within L.Calloc = record { arrays = (tt, (tt, (tt, tt))); parts = omega arith }
  library_within L.Free = record { arrays = (tt, (tt, tt)); parts = omega arith }
  library_within L.Memcpy = record { arrays = (tt, (tt, (tt, (tt, tt)))); parts = omega arith }
  library_within L.Memmove = record { arrays = (tt, (tt, (tt, (tt, tt)))); parts = omega arith }
  library_within L.Memset = record { arrays = (tt, (tt, (tt, (tt, tt)))); parts = omega arith }
  library_within L.Memcmp = record { arrays = (tt, (tt, (tt, (tt, tt)))); parts = omega arith }
  library_within L.Putchar = record { arrays = (tt, (tt, tt)); parts = omega arith }
  library_within L.Getchar = record { arrays = (tt, tt); parts = omega arith }
  library_within L.Exit = record { arrays = (tt, (tt, tt)); parts = omega arith }

  pointed_any : (t : CType) → W t → AnyIs (pointed_type t)
  pointed_any (pointer t) w = pointed_within records t w
  pointed_any void w = tt
  pointed_any (integer kind) w = tt
  pointed_any (array t n) w = tt
  pointed_any (function t all) w = tt
  pointed_any (structure r) w = tt

  called_any : (th : Thing) → IsThing th → AnyIs (called_type th)
  called_any (an_object p) k = pointed_any (type_of_path p) (path_within p k)
  called_any (a_value e) k = pointed_any (type_of e) (type_within e k)
  called_any (a_function at f t) k = k.0
  called_any (a_function_at e) k = pointed_any (type_of e) (type_within e k)
  called_any (a_library_function at which) k = library_within which

  abbrev IsSignature : CTypes × CType → Type 0
  IsSignature s = AreWithin records s.0 × W s.1

  signature_any : (at : ℕ) (o : Option CType) (s : CTypes × CType) → signature_of at o ≡ Ok s → AnyIs o → IsSignature s
  signature_any at (Some (function t all)) s h w = given IsSignature (all, t) s h (parameters_within records t all w, result_within records t all w)
  signature_any at None s h w = cc
  signature_any at (Some t) s h w = cc

  pub signature_is : (at : ℕ) (th : Thing) (s : CTypes × CType) → signature_in at th ≡ Ok s → IsThing th → IsSignature s
  unfolding signature_in
  signature_is at th s h k = signature_any at (called_type th) s h (called_any th k)

  pub argument_is : (at : ℕ) (t : CType) (x y : Expression) → argument_in at t x ≡ Ok y → W t → EachValue x → EachValue y
  unfolding argument_in
  argument_is at t x y h w k =
      let o = only_if (assigns (type_of x) (null x) t) _ _ _ y h in
      given EachValue (converted t x) y o.1 (converted_is t x w k)

  through_is : (t : CType) (at : Place) (all : Typed.Expressions Noted) (o : Option Expression) (th : Thing) → call_through t at all o ≡ Ok th → W t
      → EachOfAll W all → ((e : Expression) → o ≡ Some e → EachValue e) → IsThing th
  through_is t at all (Some e) th h w l k = given IsThing _ th h ((k e refl, l), w)
  through_is t at all None th h w l k = cc

  value_is : (th : Thing) (e : Expression) → value_of th ≡ Some e → IsThing th → EachValue e
  value_is (an_object p) e h k = by_type (type_of_path p) (path_within p k) h
    where
      by_type : (t : CType) → W t → object_value p t ≡ Some e → EachValue e
      by_type (integer kind) w h = subst EachValue (some_is _ e h) (k, w)
      by_type (pointer t) w h = subst EachValue (some_is _ e h) (k, w)
      by_type (array t n) w h = subst EachValue (some_is _ e h) (k, decayed_within records t n w)
      by_type t w h = cc
  value_is (a_value x) e h k = subst EachValue (some_is x e h) k
  value_is (a_function at f t) e h k = subst EachValue (some_is _ e h) (tt, k.1)
  value_is (a_function_at x) e h k = subst EachValue (some_is x e h) k
  value_is (a_library_function at which) e h k = cc

  pub call_is : (at : Place) (g : Thing) (t : CType) (all : Typed.Expressions Noted) (th : Thing) → call_in at g t all ≡ Ok th → IsThing g → W t
      → EachOfAll W all → IsThing th
  unfolding call_in
  call_is at (a_function from f s) t all th h k w l = given IsThing _ th h (l, w)
  call_is at (a_library_function from which) t all th h k w l = given IsThing _ th h (l, w)
  call_is at (an_object p) t all th h k w l = through_is t at all (value_of (an_object p)) th h w l (λ e i. value_is (an_object p) e i k)
  call_is at (a_value x) t all th h k w l = through_is t at all (value_of (a_value x)) th h w l (λ e i. value_is (a_value x) e i k)
  call_is at (a_function_at x) t all th h k w l = through_is t at all (value_of (a_function_at x)) th h w l (λ e i. value_is (a_function_at x) e i k)

  -- ---- members

  abbrev IsMember : Option (ℕ × CType) → Type 0
  IsMember None = Unit {0}
  IsMember (Some f) = W f.1

  field_from_is : (k : ℕ) (all : List Field) (x : List ℕ) → AreFields all → IsMember (field_from k all x)
  field_from_is k [] x h = tt
  field_from_is k (f ∷ more) x h = by_name (bytes_eq f.name x) (field_from_is (k + 1) more x h.1)
    where
      by_name : (b : Bool) → IsMember (field_from (k + 1) more x) → IsMember (cond b (Some (k, f.ty)) (field_from (k + 1) more x))
      by_name true w = h.0
      by_name false w = w

  field_is : (all : List Record) (r : ℕ) (x : List ℕ) → AreRecords all → IsMember (field_in (slice_get all r) x)
  field_is [] r x h = tt
  field_is (rec ∷ all) zero x h = field_from_is 0 rec.fields x h.0
  field_is (rec ∷ all) (suc r) x h = field_is all r x h.1

  member_is : (named : ℕ) (at : Place) (p : Path) (r : ℕ) (o : Option (ℕ × CType)) (th : Thing) → member_to named at p r o ≡ Ok th → EachPath p → IsMember o
      → IsThing th
  member_is named at p r None th h k w = cc
  member_is named at p r (Some f) th h k w = given IsThing _ th h (k, w)

  of_type_is : (all : List Record) (count named : ℕ) (at : Place) (p : Path) (t : CType) (x : List ℕ) (th : Thing)
      → member_of_type all count named at p t x ≡ Ok th → AreRecords all → EachPath p → IsThing th
  of_type_is all count named at p (structure r) x th h f k =
      let o = only_if (is_object count (structure r)) _ _ _ th h in
      member_is named at p r (field_in (slice_get all r) x) th o.1 k (field_is all r x f)
  of_type_is all count named at p t x th h f k = cc

  pub dot_is : (all : List Record) (count named : ℕ) (at : Place) (base : Thing) (x : List ℕ) (th : Thing) → dot_in all count named at base x ≡ Ok th
      → AreRecords all → IsThing base → IsThing th
  unfolding dot_in
  dot_is all count named at (an_object p) x th h f k = of_type_is all count named at p (type_of_path p) x th h f k
  dot_is all count named at base x th h f k = cc

  arrow_to_is : (all : List Record) (count named : ℕ) (at : Place) (e : Expression) (t : CType) (x : List ℕ) (th : Thing)
      → arrow_to all count named at e t x ≡ Ok th → AreRecords all → EachValue e → W t → IsThing th
  arrow_to_is all count named at e (pointer t) x th h f k w =
      of_type_is all count named at (way t at (Typed.deref e)) t x th h f (k, pointed_within records t w)
  arrow_to_is all count named at e t x th h f k w = cc

  pub arrow_is : (all : List Record) (count named : ℕ) (at : Place) (e : Expression) (x : List ℕ) (th : Thing) → arrow_in all count named at e x ≡ Ok th
      → AreRecords all → EachValue e → IsThing th
  unfolding arrow_in
  arrow_is all count named at e x th h f k = arrow_to_is all count named at e (type_of e) x th h f k (type_within e k)

  -- ---- unary operators

  pub step_is : (count from op_at : ℕ) (at : Place) (op : StepOp) (before : Bool) (base th : Thing) → step_in count from op_at at op before base ≡ Ok th
      → IsThing base → IsThing th
  unfolding step_in
  step_is count from op_at at op before (an_object p) th h k =
      let o = only_if (is_stepped count (type_of_path p)) _ _ _ th h in
      given IsThing _ th o.1 (k, path_within p k)
  step_is count from op_at at op before base th h k = cc

  pub address_is : (from : ℕ) (at : Place) (base th : Thing) → address_in from at base ≡ Ok th → IsThing base → IsThing th
  unfolding address_in
  address_is from at (an_object p) th h k =
      chosen (nat_lt (parts (type_of_path p)) 1024) _ _ th (IsThing th) h
      (λ b h. given IsThing _ th h (k, pointer_within records (type_of_path p) (path_within p k) (ltb-true (parts (type_of_path p)) 1024 b)))
      (λ b h. cc)
  address_is from at (a_function g_at g t) th h k = given IsThing _ th h (tt, k.1)
  address_is from at (a_function_at e) th h k = given IsThing _ th h k
  address_is from at (a_value e) th h k = cc
  address_is from at (a_library_function g_at which) th h k = cc

  pointed_is : (count : ℕ) (at : Place) (e : Expression) (t : CType) (th : Thing) → pointed_to count at e t ≡ Ok th → EachValue e → W t → IsThing th
  pointed_is count at e (pointer t) th h k w =
      chosen (is_function t) _ _ th (IsThing th) h
      (λ b h. given IsThing _ th h k)
      (λ b h. let o = only_if (is_object count t) _ _ _ th h in given IsThing _ th o.1 (k, pointed_within records t w))
  pointed_is count at e t th h k w = cc

  pub deref_is : (count : ℕ) (at : Place) (e : Expression) (th : Thing) → deref_in count at e ≡ Ok th → EachValue e → IsThing th
  unfolding deref_in
  deref_is count at e th h k = pointed_is count at e (type_of e) th h k (type_within e k)

  pub unary_is : (at : Place) (op : UnaryOp) (x : Expression) (th : Thing) → unary_in at op x ≡ Ok th → EachValue x → IsThing th
  unfolding unary_in
  unary_is at op x th h k =
      let o = only_if (is_integer (type_of x)) _ _ _ th h in
      given IsThing _ th o.1 (promoted_is x k, promoted_within (type_of x) (type_within x k))

  pub not_is : (at : Place) (x : Expression) (th : Thing) → not_in at x ≡ Ok th → EachValue x → IsThing th
  unfolding not_in
  not_is at x th h k =
      let o = only_if (is_scalar (type_of x)) _ _ _ th h in
      given IsThing _ th o.1 (k, number_within records Int)

  -- ---- `sizeof` and casts

  pub size_is : (all : List Record) (at : Place) (t : CType) → IsThing (size_node all at t)
  size_is all at t = (tt, number_within records UInt)

  sized_or_is : (all : List Record) (count at : ℕ) (sizeless : Fault) (t u : CType) → sized_or all count at sizeless t ≡ Ok u → W t → W u
  sized_or_is all count at sizeless t u h w =
      chosen (is_complete all count t) (of_limited_size all at t) (Err sizeless) u (W u) h
      (λ b h. chosen (nat_le (size_of all t) 16777216) (Ok t) (Err (too_big at)) u (W u) h (λ b h. given W t u h w) (λ b h. cc)) (λ b h. cc)

  pub sized_is : (all : List Record) (count at : ℕ) (t u : CType) → sized_type all count at t ≡ Ok u → W t → W u
  unfolding sized_type
  sized_is all count at t u h w = sized_or_is all count at (ill_typed R.Incomplete at) t u h w

  measured_of_is : (all : List Record) (count at : ℕ) (sizeless : Fault) (o : Option CType) (u : CType) → measured_of all count at sizeless o ≡ Ok u
      → AnyIs o → W u
  measured_of_is all count at sizeless None u h w = cc
  measured_of_is all count at sizeless (Some t) u h w = sized_or_is all count at sizeless t u h w

  measured_any : (th : Thing) → IsThing th → AnyIs (measured_type th)
  unfolding measured_type
  measured_any (an_object p) k = path_within p k
  measured_any (a_value e) k = type_within e k
  measured_any (a_function at f t) k = tt
  measured_any (a_function_at e) k = tt
  measured_any (a_library_function at which) k = tt

  pub measured_is : (all : List Record) (count at from : ℕ) (th : Thing) (u : CType) → measured_in all count at from th ≡ Ok u → IsThing th → W u
  unfolding measured_in
  measured_is all count at from th u h k = measured_of_is all count at (misplaced th R.Incomplete at from) (measured_type th) u h (measured_any th k)

  pub cast_is : (at : Place) (t : CType) (x : Expression) (th : Thing) → cast_in at t x ≡ Ok th → W t → EachValue x → IsThing th
  unfolding cast_in
  cast_is at t x th h w k =
      let o = only_if (casts (type_of x) (null x) t) _ _ _ th h in
      given IsThing _ th o.1 (k, w)

  -- ---- the types that rules give

  promoting_any : (t : CType) → AnyIs (promoting t)
  promoting_any (integer kind) = number_within records (promoted_kind kind)
  promoting_any void = tt
  promoting_any (pointer t) = tt
  promoting_any (array t n) = tt
  promoting_any (function t all) = tt
  promoting_any (structure r) = tt

  arithmetic_any : (s t : CType) → AnyIs (arithmetic s t)
  arithmetic_any (integer k) (integer l) = number_within records (common_kind k l)
  arithmetic_any (integer k) void = tt
  arithmetic_any (integer k) (pointer t) = tt
  arithmetic_any (integer k) (array t n) = tt
  arithmetic_any (integer k) (function t all) = tt
  arithmetic_any (integer k) (structure r) = tt
  arithmetic_any void t = tt
  arithmetic_any (pointer s) t = tt
  arithmetic_any (array s n) t = tt
  arithmetic_any (function s all) t = tt
  arithmetic_any (structure r) t = tt

  abbrev AreBoth : Option (CType × CType) → Type 0
  AreBoth None = Unit {0}
  AreBoth (Some t) = W t.0 × W t.1

  shifting_both : (s t : Option CType) → AnyIs s → AnyIs t → AreBoth (Rules.shifting s t)
  shifting_both (Some s) (Some t) h k = (h, k)
  shifting_both None t h k = tt
  shifting_both (Some s) None h k = tt

  twice_both : (t : Option CType) → AnyIs t → AreBoth (Rules.twice t)
  twice_both None h = tt
  twice_both (Some t) h = (h, h)

  numbers_both : (op : BinaryOp) (s t : CType) → AreBoth (on_numbers op s t)
  numbers_both op s t = by_shift (is_shift op)
    where
      by_shift : (b : Bool) → AreBoth (cond b (Rules.shifting (promoting s) (promoting t)) (Rules.twice (arithmetic s t)))
      by_shift true = shifting_both (promoting s) (promoting t) (promoting_any s) (promoting_any t)
      by_shift false = twice_both (arithmetic s t) (arithmetic_any s t)

  or_any : (a b : Option CType) → AnyIs a → AnyIs b → AnyIs (Rules.or_else a b)
  or_any None b h k = k
  or_any (Some t) b h k = h

  met_any : (s : CType) (n : Bool) (t : CType) (m : Bool) → W (pointer s) → W (pointer t) → AnyIs (met s n t m)
  met_any s n t m v w = by_tests (same_type s t) n m (is_void_and_object s t)
    where
      by_tests : (a b c d : Bool) → AnyIs (cond a (Some (pointer s)) (cond b (Some (pointer t)) (cond c (Some (pointer s)) (cond d (Some (pointer void)) None))))
      by_tests true b c d = v
      by_tests false true c d = w
      by_tests false false true d = v
      by_tests false false false true = void_pointer_within records
      by_tests false false false false = tt

  meeting_any : (s : CType) (n : Bool) (t : CType) (m : Bool) → W s → W t → AnyIs (meeting s n t m)
  meeting_any (pointer s) n (pointer t) m v w = met_any s n t m v w
  meeting_any (pointer s) n (integer l) true v w = v
  meeting_any (pointer s) n (integer l) false v w = tt
  meeting_any (pointer s) n void m v w = tt
  meeting_any (pointer s) n (array t l) m v w = tt
  meeting_any (pointer s) n (function t all) m v w = tt
  meeting_any (pointer s) n (structure r) m v w = tt
  meeting_any (integer k) true (pointer t) m v w = w
  meeting_any (integer k) true void m v w = tt
  meeting_any (integer k) true (integer l) m v w = tt
  meeting_any (integer k) true (array t l) m v w = tt
  meeting_any (integer k) true (function t all) m v w = tt
  meeting_any (integer k) true (structure r) m v w = tt
  meeting_any (integer k) false t m v w = tt
  meeting_any void n t m v w = tt
  meeting_any (array s l) n t m v w = tt
  meeting_any (function s all) n t m v w = tt
  meeting_any (structure r) n t m v w = tt

  ordered_any : (s t : CType) → W s → AnyIs (ordered s t)
  ordered_any (pointer s) (pointer t) v = by_test (not (is_function s) && same_type s t)
    where
      by_test : (b : Bool) → AnyIs (cond b (Some (pointer s)) None)
      by_test true = v
      by_test false = tt
  ordered_any (pointer s) void v = tt
  ordered_any (pointer s) (integer k) v = tt
  ordered_any (pointer s) (array t n) v = tt
  ordered_any (pointer s) (function t all) v = tt
  ordered_any (pointer s) (structure r) v = tt
  ordered_any void t v = tt
  ordered_any (integer k) t v = tt
  ordered_any (array s n) t v = tt
  ordered_any (function s all) t v = tt
  ordered_any (structure r) t v = tt

  compared_any : (op : CompareOp) (s : CType) (n : Bool) (t : CType) (m : Bool) → W s → W t → AnyIs (compared op s n t m)
  compared_any Equal s n t m v w = meeting_any s n t m v w
  compared_any NotEqual s n t m v w = meeting_any s n t m v w
  compared_any op s n t m v w = ordered_any s t v

  both_void_any : (s t : CType) → AnyIs (both_void s t)
  both_void_any void void = void_within records
  both_void_any void (integer k) = tt
  both_void_any void (pointer t) = tt
  both_void_any void (array t n) = tt
  both_void_any void (function t all) = tt
  both_void_any void (structure r) = tt
  both_void_any (integer k) t = tt
  both_void_any (pointer s) t = tt
  both_void_any (array s n) t = tt
  both_void_any (function s all) t = tt
  both_void_any (structure r) t = tt

  moving_any : (count : ℕ) (p t : CType) → AnyIs (moving count p t)
  moving_any count p t = by_test (points_to_object count p)
    where
      by_test : (b : Bool) → AnyIs (cond b (promoting t) None)
      by_test true = promoting_any t
      by_test false = tt

  choose_any : (b : Bool) (o p : Option CType) → AnyIs o → AnyIs p → AnyIs (cond b o p)
  choose_any true o p h k = h
  choose_any false o p h k = k

  moved_any : (count : ℕ) (op : BinaryOp) (p t : CType) → AnyIs (cond (is_move op) (moving count p t) None)
  moved_any count op p t = choose_any (is_move op) (moving count p t) None (moving_any count p t) tt

  updating_any : (count : ℕ) (op : BinaryOp) (p t : CType) → AnyIs (updating count op p t)
  updating_any count op (integer kind) t =
      choose_any (is_shift op) (promoting t) (arithmetic (integer kind) t) (promoting_any t) (arithmetic_any (integer kind) t)
  updating_any count op void t = moved_any count op void t
  updating_any count op (pointer p) t = moved_any count op (pointer p) t
  updating_any count op (array p n) t = moved_any count op (array p n) t
  updating_any count op (function p all) t = moved_any count op (function p all) t
  updating_any count op (structure r) t = moved_any count op (structure r) t

  -- ---- binary operators

  module _ (x y : Expression) (k : EachValue x) (l : EachValue y) where
    forward_is : (at : Place) (op : PointerOp) (w : CType) (th : Thing) → forward_node at op x y w ≡ Ok th → W w → IsThing th
    forward_is at op w th h v = given IsThing _ th h ((k, converted_is w y v l), type_within x k)

    backward_is : (at : Place) (w : CType) (th : Thing) → backward_node at x y w ≡ Ok th → W w → IsThing th
    backward_is at w th h v = given IsThing _ th h ((converted_is w x v k, l), type_within y l)

    moved_by : (count : ℕ) (s t w : CType) → moving count s t ≡ Some w → W w
    moved_by count s t w e = any_at (moving count s t) w e (moving_any count s t)

    added_is : (count op_at : ℕ) (at : Place) (th : Thing) → added_in count op_at at x y ≡ Ok th → IsThing th
    added_is count op_at at th h =
        by_option (moving count (type_of x) (type_of y)) _ _ th (IsThing th) h
        (λ w e h. forward_is at _ w th h (moved_by count (type_of x) (type_of y) w e))
        (λ e h. by_option (moving count (type_of y) (type_of x)) _ _ th (IsThing th) h
        (λ w e h. backward_is at w th h (moved_by count (type_of y) (type_of x) w e)) (λ e h. cc))

    subtracted_is : (count op_at : ℕ) (at : Place) (th : Thing) → subtracted_in count op_at at x y ≡ Ok th → IsThing th
    subtracted_is count op_at at th h =
        by_option (moving count (type_of x) (type_of y)) _ _ th (IsThing th) h
        (λ w e h. forward_is at _ w th h (moved_by count (type_of x) (type_of y) w e))
        (λ e h. let o = only_if (differing count (type_of x) (type_of y)) _ _ _ th h in given IsThing _ th o.1 ((k, l), number_within records Int))

    on_pointers_is : (count op_at : ℕ) (at : Place) (op : BinaryOp) (th : Thing) → on_pointers count op_at at op x y ≡ Ok th → IsThing th
    on_pointers_is count op_at at B.Add th h = added_is count op_at at th h
    on_pointers_is count op_at at B.Subtract th h = subtracted_is count op_at at th h
    on_pointers_is count op_at at op th h = cc

    both_at : (o : Option (CType × CType)) (t : CType × CType) → o ≡ Some t → AreBoth o → W t.0 × W t.1
    both_at (Some s) t e h = subst (λ (t : CType × CType). W t.0 × W t.1) (some_is s t e) h
    both_at None t e h = cc

    computed_is : (count op_at : ℕ) (at : Place) (op : BinaryOp) (th : Thing) → computed_in count op_at at op x y ≡ Ok th → IsThing th
    unfolding computed_in
    computed_is count op_at at op th h =
        by_option (on_numbers op (type_of x) (type_of y)) _ _ th (IsThing th) h
        (λ t e h.
        let w = both_at (on_numbers op (type_of x) (type_of y)) t e (numbers_both op (type_of x) (type_of y)) in
        given IsThing _ th h ((converted_is t.0 x w.0 k, converted_is t.1 y w.1 l), w.0))
        (λ e h. on_pointers_is count op_at at op th h)

    compared_is : (op_at : ℕ) (at : Place) (op : CompareOp) (th : Thing) → compared_in op_at at op x y ≡ Ok th → IsThing th
    unfolding compared_in
    compared_is op_at at op th h =
        let o = comparing op (type_of x) (null x) (type_of y) (null y) in
        by_option o _ _ th (IsThing th) h
        (λ t e h.
        let w = any_at o t e (or_any (arithmetic (type_of x) (type_of y)) (compared op (type_of x) (null x) (type_of y) (null y))
        (arithmetic_any (type_of x) (type_of y)) (compared_any op (type_of x) (null x) (type_of y) (null y) (type_within x k) (type_within y l))) in
        given IsThing _ th h ((converted_is t x w k, converted_is t y w l), number_within records Int))
        (λ e h. cc)

    tested_both : (op_at : ℕ) (at : Place) (node : Node) (th : Thing) → tested_in op_at at node x y ≡ Ok th
        → EachInNode W node → IsThing th
    unfolding tested_in
    tested_both op_at at node th h n =
        let o = only_if (is_scalar (type_of x) && is_scalar (type_of y)) _ _ _ th h in
        given IsThing _ th o.1 (n, number_within records Int)

    pub binary_is : (count op_at : ℕ) (at : Place) (kind : Kind) (th : Thing) → binary_in count op_at at kind x y ≡ Ok th → IsThing th
    binary_is count op_at at (computes op) th h = computed_is count op_at at op th h
    binary_is count op_at at (compares op) th h = compared_is op_at at op th h
    binary_is count op_at at all_of th h = tested_both op_at at (Typed.both x y) th h (k, l)
    binary_is count op_at at any_of th h = tested_both op_at at (Typed.either x y) th h (k, l)

    pub comma_is : (at : Place) (th : Thing) → comma_in at x y ≡ Ok th → IsThing th
    unfolding comma_in
    comma_is at th h = given IsThing _ th h ((k, l), type_within y l)

  -- ---- `?:` and assignments

  pub tested_is : (at : ℕ) (x y : Expression) → tested at x ≡ Ok y → EachValue x → EachValue y
  unfolding tested
  tested_is at x y h k = let o = only_if (is_scalar (type_of x)) _ _ _ y h in given EachValue x y o.1 k

  pub chosen_is : (colon : ℕ) (at : Place) (x y z : Expression) (th : Thing) → chosen_in colon at x y z ≡ Ok th → EachValue x → EachValue y → EachValue z
      → IsThing th
  unfolding chosen_in
  chosen_is colon at x y z th h k l m =
      let s = type_of y in
      let t = type_of z in
      let o = choosing s (null y) t (null z) in
      by_option o _ _ th (IsThing th) h
      (λ u e h.
      let w = any_at o u e (or_any (arithmetic s t) (Rules.or_else (meeting s (null y) t (null z)) (both_void s t)) (arithmetic_any s t)
      (or_any (meeting s (null y) t (null z)) (both_void s t) (meeting_any s (null y) t (null z) (type_within y l) (type_within z m)) (both_void_any s t))) in
      given IsThing _ th h ((k, converted_is u y w l, converted_is u z w m), w))
      (λ e h. cc)

  pub target_is : (from : ℕ) (th : Thing) (t : Target) → target_in from th ≡ Ok t → IsThing th → EachPath (path_of t)
  unfolding target_in
  target_is from (an_object p) t h k = by_type (type_of_path p) h
    where
      by_type : (u : CType) → target_of_type from p u ≡ Ok t → EachPath (path_of t)
      by_type (integer kind) h = given (λ t. EachPath (path_of t)) (scalar_at p) t h k
      by_type (pointer u) h = given (λ t. EachPath (path_of t)) (scalar_at p) t h k
      by_type (structure r) h = given (λ t. EachPath (path_of t)) (record_at p) t h k
      by_type u h = cc
  target_is from th t h k = cc

  pub assigned_is : (op_at : ℕ) (at : Place) (p : Path) (x : Expression) (th : Thing) → assigned_in op_at at p x ≡ Ok th → EachPath p → EachValue x
      → IsThing th
  unfolding assigned_in
  assigned_is op_at at p x th h k l =
      let o = only_if (assigns (type_of x) (null x) (type_of_path p)) _ _ _ th h in
      given IsThing _ th o.1 ((k, converted_is (type_of_path p) x (path_within p k) l), path_within p k)

  pub copied_is : (op_at begin : ℕ) (at : Place) (p : Path) (from th : Thing) → copied_in op_at begin at p from ≡ Ok th → EachPath p → IsThing from
      → IsThing th
  unfolding copied_in
  copied_is op_at begin at p (an_object q) th h k l =
      let o = only_if (same_type (type_of_path q) (type_of_path p)) _ _ _ th h in
      given IsThing _ th o.1 ((k, l), void_within records)
  copied_is op_at begin at p from th h k l = cc

  pub updated_is : (count op_at : ℕ) (at : Place) (op : BinaryOp) (p : Path) (x : Expression) (th : Thing) → updated_in count op_at at op p x ≡ Ok th
      → EachPath p → EachValue x → IsThing th
  unfolding updated_in
  updated_is count op_at at op p x th h k l =
      let o = updating count op (type_of_path p) (type_of x) in
      by_option o _ _ th (IsThing th) h
      (λ w e h.
      let v = any_at o w e (updating_any count op (type_of_path p) (type_of x)) in
      given IsThing _ th h ((k, converted_is w x v l), path_within p k))
      (λ e h. cc)
