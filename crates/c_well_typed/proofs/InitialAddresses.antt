-- What stands for an address in a well typed expression, where allocations are recognised: an object that is there, and a byte of it or its end
-- (C99 6.6).
use Rattle.std.proofs.Common.{◌≡◌, ℕ, ◌≤◌, Bool, true, false, refl, subst, cond, arith}
use Rattle.std.proofs.lemmas.Bool.{leb-true}
use Rattle.std.proofs.lemmas.Option.{get_or_from_slice_get}
use Rattle.std.specs.Prelude.{get_or, nat_le, nat_lt, Option, Some, None, slice_get, ℤ, pos, negsuc}
use Rattle.c_types.specs.Layouts.{size_of, offset_of}
use Rattle.c_types.specs.Types.{CType, void, pointer, array, structure}
use Rattle.c_typed.specs.declared.operators.PointerOp.{PointerOp}
use Rattle.c_typed.specs.Trees as Trees
use Rattle.c_typed.specs.Conversions.{is_pointer}
use Rattle.c_typed.specs.Constants.{ty, constant_of}
use Rattle.c_typed.specs.InitialValues.{Address, element_size, number_in, end_of, within, moved, subscripted, inside, or_negated, path_type, address_of_path}
use Rattle.c_typed.specs.InitialValues.{address_of_step}
use Rattle.c_typed.specs.InitialValues.{address_in, address_in_node}
use Rattle.c_typed.specs.Subscripts.{is_subscript}
use Rattle.c_typed.specs.Mapped.{of_types, mapped_path, mapped_step}
use Rattle.c_typed.specs.Typed.{Declared, IsTyped, IsTypedNode, IsTypedPath, IsTypedStep}
use Rattle.lay_base.specs.declared.place.Place.{Place}
use Rattle.c_erasure.specs.Erasure.{typed}
use Rattle.c_erasure.specs.Noted.{Noted, Expression, Node, Path, PathNode}
use Rattle.c_erasure.specs.Recognised.{allocation, or_converted, is_null_constant, converted, recognised, recognised_node, recognised_path, recognised_step}
use Rattle.c_well_typed.proofs.Nulls.{bare_node}

some_is : {A : Type 0} (x y : A) → Some x ≡ Some y → x ≡ y
some_is x y h = cc

if_some : {A : Type 0} (b : Bool) (o : Option A) (a : A) → cond b o None ≡ Some a → (b ≡ true) × (o ≡ Some a)
if_some true o a h = (refl, h)
if_some false o a h = cc

abbrev pub bare_path : Path → Trees.Path CType
bare_path p = mapped_path (of_types (λ t. t.ty)) p

abbrev pub bare_step : PathNode → Trees.PathNode CType
bare_step step = mapped_step (of_types (λ t. t.ty)) step

module _ (d : Declared) where
  abbrev pub IsThere : ℕ → Type 0
  IsThere n = (t : CType) × (slice_get d.objects n ≡ Some t)

  -- a byte of an object that is there, or its end
  abbrev pub IsWithin : Address → Type 0
  IsWithin a = (t : CType) × (slice_get d.objects a.object ≡ Some t) × (a.offset ≤ size_of d.records t)

  abbrev AreWithin : Option Address → Type 0
  AreWithin o = (a : Address) → o ≡ Some a → IsWithin a

  within_is : (n : ℕ) (z : ℤ) → IsThere n → AreWithin (within d n z)
  within_is n (negsuc k) there a h = cc
  within_is n (pos k) there a h =
      let c = if_some (nat_le k (end_of d n)) (Some (record { object = n; offset = k })) a h in
      let e = some_is (record { object = n; offset = k }) a c.1 in
      let below : k ≤ end_of d n = leb-true k (end_of d n) c.0 in
      let l : k ≤ size_of d.records (get_or d.objects n void) = omega (arith, below) in
      let g = get_or_from_slice_get d.objects n there.0 void there.1 in
      subst IsWithin e (there.0, there.1, subst (λ t. k ≤ size_of d.records t) g l)

  moved_is : (o : Option Address) (k : Option ℤ) (size : ℕ) → AreWithin o → AreWithin (moved d o k size)
  moved_is None k size into a h = cc
  moved_is (Some b) None size into a h = cc
  moved_is (Some b) (Some k) size into a h = let i = into b refl in within_is b.object _ (i.0, i.1) a h

  subscripted_is : (s : Bool) (t : CType) (o : Option Address) (k : Option ℤ) → AreWithin o → AreWithin (subscripted d s t o k)
  subscripted_is s (array t n) (Some b) (Some k) into a h =
      let c = if_some (is_subscript n s k) (moved d (Some b) (Some k) (size_of d.records t)) a h in
      moved_is (Some b) (Some k) (size_of d.records t) into a c.1
  subscripted_is s t o k into a h = cc

  inside_is : (o : Option Address) → AreWithin o → AreWithin (inside d o)
  inside_is None into a h = cc
  inside_is (Some b) into a h = into a (if_some (nat_lt b.offset (size_of d.records (get_or d.objects b.object void))) (Some b) a h).1

  -- a conversion that is left is one of the same operand
  converted_address : (t : CType) (e : Expression) (written : Bool) (a : Address) → address_in_node d t (bare_node (converted t e written)) ≡ Some a
      → address_in d (typed e) ≡ Some a
  converted_address (pointer (structure r)) e written a h = by_null (is_null_constant e) h
    where
      by_count : (o : Option (Trees.OptionalExpression Noted × Bool))
          → address_in_node d (pointer (structure r)) (bare_node (or_converted r o e written)) ≡ Some a → address_in d (typed e) ≡ Some a
      by_count None h = h
      by_count (Some c) h = cc

      by_null : (b : Bool) → address_in_node d (pointer (structure r)) (bare_node (cond b Trees.null (or_converted r (allocation r e) e written))) ≡ Some a
          → address_in d (typed e) ≡ Some a
      by_null true h = cc
      by_null false h = by_count (allocation r e) h
  converted_address (pointer t) e written a h = by_null (is_null_constant e) h
    where
      by_null : (b : Bool) → address_in_node d (pointer t) (bare_node (cond b Trees.null (Trees.convert e written))) ≡ Some a → address_in d (typed e) ≡ Some a
      by_null true h = cc
      by_null false h = h
  converted_address t e written a h = cc

  added_is : (op : PointerOp) (t : CType) (x y : Trees.Expression CType) → AreWithin (address_in d x) → AreWithin (address_in d y)
      → AreWithin (address_in_node d t (Trees.pointer_add op x y))
  added_is op t x y p q a h = by_side (is_pointer (ty x)) h
    where
      by_side : (b : Bool) → cond b (moved d (address_in d x) (or_negated d op (number_in (ty y) (constant_of y))) (element_size d.records t))
          (moved d (address_in d y) (number_in (ty x) (constant_of x)) (element_size d.records t)) ≡ Some a → IsWithin a
      by_side true h = moved_is (address_in d x) (or_negated d op (number_in (ty y) (constant_of y))) (element_size d.records t) p a h
      by_side false h = moved_is (address_in d y) (number_in (ty x) (constant_of x)) (element_size d.records t) q a h

  mutual
    pub address_within : (e : Expression) → IsTyped d (typed e) → AreWithin (address_in d (typed (recognised e)))
    address_within (Trees.expression t at node) h = node_within t at node h

    node_within : (t : Noted) (at : Place) (node : Node) → IsTypedNode d t.ty at (bare_node node)
        → AreWithin (address_in_node d t.ty (bare_node (recognised_node t node)))
    node_within t at (Trees.address_of p) h a e = path_within true p h.0 a e
    node_within t at (Trees.decay p) h a e = path_within false p h.0 a e
    node_within t at (Trees.convert x true) h a e = address_within x h.0 a (converted_address t.ty (recognised x) true a e)
    node_within t at (Trees.convert x false) h a e = address_within x h.0 a (converted_address t.ty (recognised x) false a e)
    node_within t at (Trees.pointer_add op x y) h a e =
        added_is op t.ty (typed (recognised x)) (typed (recognised y)) (address_within x h.0) (address_within y h.1) a e
    node_within t at node h a e = cc

    path_within : (s : Bool) (p : Path) → IsTypedPath d (bare_path p) → AreWithin (address_of_path d s (bare_path (recognised_path p)))
    path_within s (Trees.path t at step) h = step_within s t at step h

    step_within : (s : Bool) (t : Noted) (at : Place) (step : PathNode) → IsTypedStep d t.ty at (bare_step step)
        → AreWithin (address_of_step d s (bare_step (recognised_step step)))
    step_within s t at (Trees.local n) h a e = cc
    step_within s t at (Trees.object n) h a e =
        subst IsWithin (some_is (record { object = n; offset = 0 }) a e) (t.ty, h, omega arith)
    step_within s t at (Trees.deref x) h a e = address_within x h.0 a e
    step_within s t at (Trees.index x i) h a e =
        moved_is (address_in d (typed (recognised x))) (number_in (ty (typed (recognised i))) (constant_of (typed (recognised i))))
        (element_size d.records (ty (typed (recognised x)))) (address_within x h.0) a e
    step_within s t at (Trees.member p r field) h a e =
        inside_is (moved d (address_of_path d false (bare_path (recognised_path p))) (Some (pos (offset_of d.records r field))) 1)
        (moved_is (address_of_path d false (bare_path (recognised_path p))) (Some (pos (offset_of d.records r field))) 1 (path_within false p h.0)) a e
    step_within s t at (Trees.element p i) h a e =
        subscripted_is s (path_type d (bare_path (recognised_path p))) (address_of_path d false (bare_path (recognised_path p)))
        (number_in (ty (typed (recognised i))) (constant_of (typed (recognised i)))) (path_within false p h.0) a e
