-- A constant expression still has a value where allocations and null pointers are recognised in it, and whatever locals there are (C99 6.6).
use Rattle.std.proofs.Common.{◌≡◌, ◌∙◌, ℕ, Bool, true, false, refl, sym, ap, subst, cond, List, [], ◌∷◌}
use Rattle.std.proofs.lemmas.Bool.{and_parts}
use Rattle.std.specs.Prelude.{◌&&◌, Option, Some, None, ℤ, pos, negsuc}
use Rattle.lay_base.specs.declared.place.Place.{Place}
use Rattle.c_types.specs.declared.ty.IntKind.{IntKind}
use Rattle.c_types.specs.Layouts.{size_of, offset_of}
use Rattle.c_types.specs.Types.{CType, integer, pointer, array, structure}
use Rattle.c_typed.specs.declared.operators.PointerOp.{PointerOp}
use Rattle.c_typed.specs.declared.operators.PointerOp.TheVariants as P
use Rattle.c_typed.specs.Trees as Trees
use Rattle.c_typed.specs.Conversions.{is_pointer}
use Rattle.c_typed.specs.Constants.{Constant, none, undefined, valued, ty, constant_of, is_null}
use Rattle.c_typed.specs.InitialValues.{Address, InitialValue, a_null, an_address, a_function, element_size, number_in, within, moved, subscripted, inside}
use Rattle.c_typed.specs.Subscripts.{is_subscript}
use Rattle.c_typed.specs.InitialValues.{or_negated, path_type, address_of_path, address_of_step, address_in, address_in_node, function_in, function_in_node}
use Rattle.c_typed.specs.InitialValues.{is_null_in, is_null_in_node, as_function, as_address, as_number, initial_in, initial_value}
use Rattle.c_typed.specs.References.{Reference, references}
use Rattle.c_typed.specs.References as References
use Rattle.c_typed.specs.Typed.{Declared, IsTyped, IsTypedNode, IsTypedPath, IsTypedStep}
use Rattle.c_erasure.specs.Erasure.{typed}
use Rattle.c_erasure.specs.Noted.{Noted, Expression, Path, Node, PathNode}
use Rattle.c_erasure.specs.Recognised.{allocation, is_null_constant, converted, recognised, recognised_node, recognised_path, recognised_step}
use Rattle.c_well_typed.proofs.InitialAddresses.{bare_path, bare_step}
use Rattle.c_well_typed.proofs.Nulls.{bare_node, type_stays, constant_stays, null_is_null}
use Rattle.c_well_typed.proofs.PrintableObjects.Addresses.{if_some, address_alone, function_alone}
use Rattle.c_well_typed.proofs.PrintableObjects.Kept.{IsSettled, bare_settled, cast, recognised_alone, kept, move}
use Rattle.c_well_typed.proofs.PrintableObjects.Renamed.{types_alike}

-- ---- whatever locals there are

abbrev pub with_locals : List CType → Declared → Declared
with_locals locals d = record { records = d.records; complete = d.complete; locals = locals; objects = d.objects; functions = d.functions }

module _ (d : Declared) (L : List CType) where
  abbrev D : Declared
  D = with_locals L d

  within_same : (n : ℕ) (z : ℤ) → within D n z ≡ within d n z
  within_same n (negsuc k) = refl
  within_same n (pos k) = refl

  moved_same : (o : Option Address) (k : Option ℤ) (size : ℕ) → moved D o k size ≡ moved d o k size
  moved_same None k size = refl
  moved_same (Some a) None size = refl
  moved_same (Some a) (Some z) size = within_same a.object _

  subscripted_same : (s : Bool) (t : CType) (o : Option Address) (k : Option ℤ) → subscripted D s t o k ≡ subscripted d s t o k
  subscripted_same s (array t n) (Some a) (Some k) = ap (λ o. cond (is_subscript n s k) o None) (moved_same (Some a) (Some k) (size_of d.records t))
  subscripted_same s (array t n) (Some a) None = refl
  subscripted_same s (array t n) None k = refl
  subscripted_same s t o k = refl

  inside_same : (o : Option Address) → inside D o ≡ inside d o
  inside_same None = refl
  inside_same (Some a) = refl

  negated_same : (op : PointerOp) (k : Option ℤ) → or_negated D op k ≡ or_negated d op k
  negated_same P.Add k = refl
  negated_same P.Subtract None = refl
  negated_same P.Subtract (Some z) = refl

  path_type_same : (p : Trees.Path CType) → path_type D p ≡ path_type d p
  path_type_same (Trees.path t at step) = refl

  mutual
    address_same : (e : Trees.Expression CType) → address_in D e ≡ address_in d e
    address_same (Trees.expression t at node) = node_same t node

    node_same : (t : CType) (node : Trees.Node CType) → address_in_node D t node ≡ address_in_node d t node
    node_same t (Trees.address_of p) = path_same true p
    node_same t (Trees.decay p) = path_same false p
    node_same t (Trees.convert e written) = ap (λ o. cond (is_pointer t) o None) (address_same e)
    node_same t (Trees.pointer_add op x y) =
        rw (
          address_same x,
          address_same y,
          negated_same op (number_in (ty y) (constant_of y)),
          moved_same (address_in d x) (or_negated d op (number_in (ty y) (constant_of y))) (element_size d.records t),
          moved_same (address_in d y) (number_in (ty x) (constant_of x)) (element_size d.records t),
        ) refl
    node_same t node = refl

    path_same : (s : Bool) (p : Trees.Path CType) → address_of_path D s p ≡ address_of_path d s p
    path_same s (Trees.path t at step) = step_same s step

    step_same : (s : Bool) (step : Trees.PathNode CType) → address_of_step D s step ≡ address_of_step d s step
    step_same s (Trees.local n) = refl
    step_same s (Trees.object n) = refl
    step_same s (Trees.deref e) = address_same e
    step_same s (Trees.index e i) =
        rw (address_same e, moved_same (address_in d e) (number_in (ty i) (constant_of i)) (element_size d.records (ty e))) refl
    step_same s (Trees.member p r field) =
        ap (λ o. inside D (moved D o (Some (pos (offset_of d.records r field))) 1)) (path_same false p)
        ∙ ap (inside D) (moved_same (address_of_path d false p) (Some (pos (offset_of d.records r field))) 1)
        ∙ inside_same (moved d (address_of_path d false p) (Some (pos (offset_of d.records r field))) 1)
    step_same s (Trees.element p i) =
        rw (path_same false p, path_type_same p, subscripted_same s (path_type d p) (address_of_path d false p) (number_in (ty i) (constant_of i))) refl

  function_same : (e : Trees.Expression CType) → function_in D e ≡ function_in d e
  function_same (Trees.expression t at (Trees.convert e written)) = ap (λ o. cond (is_pointer t) o None) (function_same e)
  function_same (Trees.expression t at node) = refl

  null_same : (e : Trees.Expression CType) → is_null_in D e ≡ is_null_in d e
  null_same (Trees.expression t at (Trees.convert e written)) = ap (λ b. is_pointer t && cond (is_null e) true b) (null_same e)
  null_same (Trees.expression t at node) = refl

  as_function_same : (o : Option ℕ) → as_function D o ≡ as_function d o
  as_function_same None = refl
  as_function_same (Some g) = refl

  as_address_same : (o : Option Address) (v : Option InitialValue) → as_address D o v ≡ as_address d o v
  as_address_same None v = refl
  as_address_same (Some a) v = refl

  as_number_same : (kind : IntKind) (c : Constant) → as_number D kind c ≡ as_number d kind c
  as_number_same kind (valued v) = refl
  as_number_same kind none = refl
  as_number_same kind undefined = refl

  pub value_same : (e : Trees.Expression CType) → initial_value D e ≡ initial_value d e
  value_same e = by_type (ty e)
    where
      by_type : (t : CType) → initial_in D t e ≡ initial_in d t e
      by_type (integer kind) = as_number_same kind (constant_of e)
      by_type t =
          rw (null_same e, address_same e, function_same e, as_function_same (function_in d e), as_address_same (address_in d e) (as_function d (function_in d e))) refl

-- ---- where allocations and null pointers are recognised

module _ (d : Declared) where
  -- what has an address, is a function's name or is null is no allocation
  no_allocation : (r : ℕ) (e : Expression) (a : Address) → address_in d (typed e) ≡ Some a → allocation r e ≡ None
  no_allocation r (Trees.expression t at (Trees.address_of p)) a h = refl
  no_allocation r (Trees.expression t at (Trees.decay p)) a h = refl
  no_allocation r (Trees.expression t at (Trees.convert e written)) a h = refl
  no_allocation r (Trees.expression t at (Trees.pointer_add op x y)) a h = refl
  no_allocation r (Trees.expression t at node) a h = cc

  no_allocated_function : (r : ℕ) (e : Expression) (g : ℕ) → function_in d (typed e) ≡ Some g → allocation r e ≡ None
  no_allocated_function r (Trees.expression t at (Trees.function_name f)) g h = refl
  no_allocated_function r (Trees.expression t at (Trees.convert e written)) g h = refl
  no_allocated_function r (Trees.expression t at node) g h = cc

  no_allocated_null : (r : ℕ) (e : Expression) → is_null_in d (typed e) ≡ true → allocation r e ≡ None
  no_allocated_null r (Trees.expression t at Trees.null) h = refl
  no_allocated_null r (Trees.expression t at (Trees.convert e written)) h = refl
  no_allocated_null r (Trees.expression t at node) h = cc

  -- what is no null pointer constant and no allocation is still converted to a pointer
  still_converted : (P : Trees.Node CType → Type 0) (t : CType) (e : Expression) (written : Bool) → is_null_constant e ≡ false
      → ((r : ℕ) → allocation r e ≡ None) → P (bare_node (Trees.convert e written)) → P (bare_node (converted t e written))
  still_converted P (pointer (structure r)) e written n own h = rw (n, own r) h
  still_converted P (pointer t) e written n own h = rw n h
  still_converted P t e written n own h = h

  -- what refers to something is no null pointer constant
  abbrev RefersTo : Expression → Reference → Type 0
  RefersTo e x = references e ≡ x ∷ []

  no_null : (e : Expression) (x : Reference) → (is_null_constant (recognised e) ≡ true → references (recognised e) ≡ []) → RefersTo (recognised e) x
      → is_null_constant (recognised e) ≡ false
  no_null e x alone h = by_test (is_null_constant (recognised e)) refl
    where
      by_test : (b : Bool) → is_null_constant (recognised e) ≡ b → b ≡ false
      by_test true n = let no : [] ≡ x ∷ [] = sym (alone n) ∙ h in cc
      by_test false n = refl

  -- a conversion of what is settled
  abbrev IsAlone : Expression → Type 0
  IsAlone e = is_null_constant (recognised e) ≡ true → references (recognised e) ≡ []

  conversion_alone : (t : Noted) (at : Place) (e : Expression) (written : Bool) → is_pointer t.ty ≡ true
      → IsTypedNode d t.ty at (bare_node (Trees.convert e written)) → IsSettled (typed (Trees.expression t at (Trees.convert e written))) → IsAlone e
  conversion_alone t at e false p h s = recognised_alone e (s p) (kept d e h.0 (bare_settled (typed e) h.1))
  conversion_alone t at e true p h s =
      recognised_alone e (λ i. cast (ty (typed e)) (is_null (typed e)) t.ty h.2 p i) (kept d e h.0 (bare_settled (typed e) h.1))

  operand : (t : Noted) (at : Place) (e : Expression) (written : Bool) → IsTypedNode d t.ty at (bare_node (Trees.convert e written))
      → IsTyped d (typed e) × IsSettled (typed e)
  operand t at e false h = (h.0, bare_settled (typed e) h.1)
  operand t at e true h = (h.0, bare_settled (typed e) h.1)

  refers : (e : Expression) (x : Reference) → references (typed e) ≡ x ∷ [] → RefersTo e x
  refers e x h = sym (types_alike (λ (t : Noted). t.ty) e) ∙ h

  -- ---- addresses

  abbrev Stays : Option Address → Option Address → Type 0
  Stays old new = (a : Address) → old ≡ Some a → new ≡ Some a

  moved_stays : (old new : Option Address) (k : Option ℤ) (size : ℕ) → Stays old new → Stays (moved d old k size) (moved d new k size)
  moved_stays None new k size f a h = cc
  moved_stays (Some b) new k size f a h = rw (f b refl) h

  subscripted_stays : (s : Bool) (t : CType) (old new : Option Address) (k : Option ℤ) → Stays old new
      → Stays (subscripted d s t old k) (subscripted d s t new k)
  subscripted_stays s (array t n) (Some b) new k f a h = rw (f b refl) h
  subscripted_stays s t old new k f a h = cc

  inside_stays : (old new : Option Address) → Stays old new → Stays (inside d old) (inside d new)
  inside_stays None new f a h = cc
  inside_stays (Some b) new f a h = rw (f b refl) h

  number_stays : (i : Expression) → number_in (ty (typed (recognised i))) (constant_of (typed (recognised i))) ≡ number_in (ty (typed i)) (constant_of (typed i))
  number_stays i = rw (type_stays i, constant_stays i) refl

  path_type_stays : (p : Path) → path_type d (bare_path (recognised_path p)) ≡ path_type d (bare_path p)
  path_type_stays (Trees.path t at step) = refl

  mutual
    address_stays : (e : Expression) → IsTyped d (typed e) → IsSettled (typed e) → Stays (address_in d (typed e)) (address_in d (typed (recognised e)))
    address_stays (Trees.expression t at node) h s = node_stays t at node h s

    node_stays : (t : Noted) (at : Place) (node : Node) → IsTypedNode d t.ty at (bare_node node) → IsSettled (typed (Trees.expression t at node))
        → Stays (address_in_node d t.ty (bare_node node)) (address_in_node d t.ty (bare_node (recognised_node t node)))
    node_stays t at (Trees.address_of p) h s a k = path_stays true p h.0 a k
    node_stays t at (Trees.decay p) h s a k = path_stays false p h.0 a k
    node_stays t at (Trees.convert e written) h s a k =
        let i = if_some (is_pointer t.ty) (address_in d (typed e)) a k in
        let o = operand t at e written h in
        let there = address_stays e o.0 o.1 a i.1 in
        let alone = conversion_alone t at e written i.0 h s in
        let n = no_null e (References.an_object a.object) alone (refers (recognised e) (References.an_object a.object) (address_alone d (typed (recognised e)) a there)) in
        still_converted (λ node. address_in_node d t.ty node ≡ Some a) t.ty (recognised e) written n (λ r. no_allocation r (recognised e) a there)
        (ap (λ b. cond b (address_in d (typed (recognised e))) None) i.0 ∙ there)
    node_stays t at (Trees.pointer_add op x y) h s a k =
        let m = move d op (d.complete at.at) x y t.ty h.2 in
        let q = type_stays x in
        let p = constant_stays x in
        let r = number_stays y in
        let f = address_stays x h.0 m.0 in
        let g = address_stays y h.1 m.1 in
        rw (q, p, r) (by_side (is_pointer (ty (typed x))) f g a k)
      where
        by_side : (b : Bool) → Stays (address_in d (typed x)) (address_in d (typed (recognised x)))
            → Stays (address_in d (typed y)) (address_in d (typed (recognised y)))
            → Stays (cond b (moved d (address_in d (typed x)) (or_negated d op (number_in (ty (typed y)) (constant_of (typed y)))) (element_size d.records t.ty))
            (moved d (address_in d (typed y)) (number_in (ty (typed x)) (constant_of (typed x))) (element_size d.records t.ty)))
            (cond b (moved d (address_in d (typed (recognised x))) (or_negated d op (number_in (ty (typed y)) (constant_of (typed y)))) (element_size d.records t.ty))
            (moved d (address_in d (typed (recognised y))) (number_in (ty (typed x)) (constant_of (typed x))) (element_size d.records t.ty)))
        by_side true f g = moved_stays (address_in d (typed x)) (address_in d (typed (recognised x))) _ _ f
        by_side false f g = moved_stays (address_in d (typed y)) (address_in d (typed (recognised y))) _ _ g
    node_stays t at node h s a k = cc

    path_stays : (s : Bool) (p : Path) → IsTypedPath d (bare_path p)
        → Stays (address_of_path d s (bare_path p)) (address_of_path d s (bare_path (recognised_path p)))
    path_stays s (Trees.path t at step) h = step_stays s t at step h

    step_stays : (s : Bool) (t : Noted) (at : Place) (step : PathNode) → IsTypedStep d t.ty at (bare_step step)
        → Stays (address_of_step d s (bare_step step)) (address_of_step d s (bare_step (recognised_step step)))
    step_stays s t at (Trees.local n) h a k = cc
    step_stays s t at (Trees.object n) h a k = k
    step_stays s t at (Trees.deref e) h a k = address_stays e h.0 (bare_settled (typed e) h.1) a k
    step_stays s t at (Trees.index e i) h a k =
        let q = type_stays e in
        let p = number_stays i in
        let f = address_stays e h.0 (bare_settled (typed e) h.2) in
        rw (q, p) (moved_stays (address_in d (typed e)) (address_in d (typed (recognised e))) _ _ f a k)
    step_stays s t at (Trees.member p r field) h a k =
        inside_stays (moved d (address_of_path d false (bare_path p)) (Some (pos (offset_of d.records r field))) 1)
        (moved d (address_of_path d false (bare_path (recognised_path p))) (Some (pos (offset_of d.records r field))) 1)
        (moved_stays (address_of_path d false (bare_path p)) (address_of_path d false (bare_path (recognised_path p))) _ _ (path_stays false p h.0)) a k
    step_stays s t at (Trees.element p i) h a k =
        let q = path_type_stays p in
        let r = number_stays i in
        let f = path_stays false p h.0 in
        rw (q, r)
        (subscripted_stays s (path_type d (bare_path p)) (address_of_path d false (bare_path p)) (address_of_path d false (bare_path (recognised_path p))) _ f a k)

  -- ---- functions, and null pointers

  function_stays : (e : Expression) → IsTyped d (typed e) → IsSettled (typed e) → (g : ℕ) → function_in d (typed e) ≡ Some g
      → function_in d (typed (recognised e)) ≡ Some g
  function_stays (Trees.expression t at (Trees.function_name f)) h s g k = k
  function_stays (Trees.expression t at (Trees.convert e written)) h s g k =
      let i = if_some (is_pointer t.ty) (function_in d (typed e)) g k in
      let o = operand t at e written h in
      let there = function_stays e o.0 o.1 g i.1 in
      let alone = conversion_alone t at e written i.0 h s in
      let n = no_null e (References.a_function g) alone (refers (recognised e) (References.a_function g) (function_alone d (typed (recognised e)) g there)) in
      still_converted (λ node. function_in_node d t.ty node ≡ Some g) t.ty (recognised e) written n (λ r. no_allocated_function r (recognised e) g there)
      (ap (λ b. cond b (function_in d (typed (recognised e))) None) i.0 ∙ there)
  function_stays (Trees.expression t at node) h s g k = cc

  null_stays : (e : Expression) → IsTyped d (typed e) → is_null_in d (typed e) ≡ true → is_null_in d (typed (recognised e)) ≡ true
  null_stays (Trees.expression t at Trees.null) h k = refl
  null_stays (Trees.expression t at (Trees.convert e written)) h k = by_null (is_null_constant (recognised e)) refl (null_stays e o.0)
    where
      o : IsTyped d (typed e) × IsSettled (typed e)
      o = operand t at e written h

      p : (is_pointer t.ty ≡ true) × (cond (is_null (typed e)) true (is_null_in d (typed e)) ≡ true)
      p = and_parts (is_pointer t.ty) (cond (is_null (typed e)) true (is_null_in d (typed e))) k

      either : (b : Bool) → cond b true true ≡ true
      either true = refl
      either false = refl

      was_null : (b : Bool) → is_null (typed e) ≡ b → is_null_constant (recognised e) ≡ false → cond b true (is_null_in d (typed e)) ≡ true
          → is_null_in d (typed e) ≡ true
      was_null true q n c = let true_is_false : true ≡ false = sym (null_is_null d e o.0 q) ∙ n in cc
      was_null false q n c = c

      or_null : (t : CType) → is_pointer t ≡ true → is_null_constant (recognised e) ≡ true → is_null_in_node d t (bare_node (converted t (recognised e) written)) ≡ true
      or_null (pointer (structure r)) q n = rw n refl
      or_null (pointer t) q n = rw n refl
      or_null t q n = cc

      by_null : (b : Bool) → is_null_constant (recognised e) ≡ b → (is_null_in d (typed e) ≡ true → is_null_in d (typed (recognised e)) ≡ true)
          → is_null_in_node d t.ty (bare_node (converted t.ty (recognised e) written)) ≡ true
      by_null true n again = or_null t.ty p.0 n
      by_null false n again =
          let there = again (was_null (is_null (typed e)) refl n p.1) in
          still_converted (λ node. is_null_in_node d t.ty node ≡ true) t.ty (recognised e) written n (λ r. no_allocated_null r (recognised e) there)
          (rw (p.0, there) (either (is_null (typed (recognised e)))))
  null_stays (Trees.expression t at node) h k = cc

  -- ---- values

  abbrev pub HasValue : Trees.Expression CType → Type 0
  HasValue e = (v : InitialValue) × (initial_value d e ≡ Some v)

  pub value_stays : (e : Expression) → IsTyped d (typed e) → IsSettled (typed e) → HasValue (typed e) → HasValue (typed (recognised e))
  value_stays e h s k = by_type (ty (typed e)) (ty (typed (recognised e))) (type_stays e) k.1
    where
      x : Trees.Expression CType
      x = typed e

      y : Trees.Expression CType
      y = typed (recognised e)

      number : (kind : IntKind) (v : InitialValue) → as_number d kind (constant_of x) ≡ Some v → (w : InitialValue) × (as_number d kind (constant_of y) ≡ Some w)
      number kind v q = (v, ap (as_number d kind) (constant_stays e) ∙ q)

      of_function : (o : Option ℕ) → function_in d x ≡ o → (v : InitialValue) → as_function d o ≡ Some v → (p : Option Address)
          → (w : InitialValue) × (as_address d p (as_function d (function_in d y)) ≡ Some w)
      of_function None q v r p = cc
      of_function (Some g) q v r None = (a_function g, ap (as_function d) (function_stays e h s g q))
      of_function (Some g) q v r (Some a) = (an_address a, refl)

      of_address : (o : Option Address) → address_in d x ≡ o → (v : InitialValue) → as_address d o (as_function d (function_in d x)) ≡ Some v
          → (w : InitialValue) × (as_address d (address_in d y) (as_function d (function_in d y)) ≡ Some w)
      of_address None q v r = of_function (function_in d x) refl v r (address_in d y)
      of_address (Some a) q v r = (an_address a, ap (λ o. as_address d o (as_function d (function_in d y))) (address_stays e h s a q))

      or_null : (b : Bool) → (w : InitialValue) × (as_address d (address_in d y) (as_function d (function_in d y)) ≡ Some w)
          → (w : InitialValue) × (cond b (Some a_null) (as_address d (address_in d y) (as_function d (function_in d y))) ≡ Some w)
      or_null true w = (a_null, refl)
      or_null false w = w

      of_null : (b : Bool) → is_null_in d x ≡ b → (v : InitialValue)
          → cond b (Some a_null) (as_address d (address_in d x) (as_function d (function_in d x))) ≡ Some v
          → (w : InitialValue) × (cond (is_null_in d y) (Some a_null) (as_address d (address_in d y) (as_function d (function_in d y))) ≡ Some w)
      of_null true q v r = (a_null, ap (λ b. cond b (Some a_null) (as_address d (address_in d y) (as_function d (function_in d y)))) (null_stays e h q))
      of_null false q v r = or_null (is_null_in d y) (of_address (address_in d x) refl v r)

      by_type : (t u : CType) → u ≡ t → initial_in d t x ≡ Some k.0 → (w : InitialValue) × (initial_in d u y ≡ Some w)
      by_type (integer kind) u q r = subst (λ u. (w : InitialValue) × (initial_in d u y ≡ Some w)) (sym q) (number kind k.0 r)
      by_type t u q r = subst (λ u. (w : InitialValue) × (initial_in d u y ≡ Some w)) (sym q) (of_null (is_null_in d x) refl k.0 r)
