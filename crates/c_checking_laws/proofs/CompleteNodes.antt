-- What is made of the parts of a well typed node is that node (C99 6.5): unary operators, casts, binary operators, assignments.
use Rattle.std.proofs.Common.{◌≡◌, ℕ, ◌+◌, ◌≤◌, Bool, true, false, refl, sym, ap, ◌∙◌, subst, cond, inl, inr, arith}
use Rattle.std.proofs.lemmas.Bool.{and_parts, lt-ltb}
use Rattle.std.specs.Prelude.{List, Option, Some, None, Ok, ◌⊎◌, nat_lt}
use Rattle.lay_base.specs.declared.place.Place.{Place}
use Rattle.lay_base.specs.declared.faults.Rule.TheVariants as R
use Rattle.c_types.specs.declared.ty.IntKind.TheVariants.{Int}
use Rattle.c_types.specs.Types.{CType, void, integer, pointer, array, function, structure}
use Rattle.c_types.specs.Objects.{is_object, parts}
use Rattle.c_types.specs.Sameness.{same_type}
use Rattle.c_types.proofs.SameTypes.{same_is, same_self}
use Rattle.c_typed.specs.declared.operators.UnaryOp.{UnaryOp}
use Rattle.c_typed.specs.declared.operators.StepOp.{StepOp}
use Rattle.c_typed.specs.declared.operators.CompareOp.{CompareOp}
use Rattle.c_typed.specs.declared.operators.BinaryOp.{BinaryOp}
use Rattle.c_typed.specs.declared.operators.BinaryOp.TheVariants as B
use Rattle.c_typed.specs.declared.operators.PointerOp.{PointerOp}
use Rattle.c_typed.specs.declared.operators.PointerOp.TheVariants as P
use Rattle.c_typed.specs.Trees as Typed
use Rattle.c_typed.specs.Constants.{ty}
use Rattle.c_typed.specs.Conversions.{is_integer, is_scalar, is_function, promoted, pointed}
use Rattle.c_typed.specs.Fits.{assigns, casts}
use Rattle.c_typed.specs.Rules.{promoting, arithmetic, is_shift, shifting, twice, on_numbers, comparing, choosing, moving, differing, updating}
use Rattle.c_typed.specs.Rules.{is_stepped, points_to_object}
use Rattle.c_typed.specs.Typed.{Declared, is_bare, IsTyped, IsTypedPath, IsTypedNode, IsMoved}
use Rattle.c_erasure.specs.Erasure.{typed, IsNamed, IsSum, IsJoined}
use Rattle.c_erasure.specs.Noted.{Expression, Path, Node, Thing, an_object, a_value, a_function_at}
use Rattle.c_erasure.specs.Noted.{value, way, type_of, type_of_path, value_of, unconverted}
use Rattle.c_erasure.specs.Operators.{Kind, computes, compares, all_of, any_of}
use Rattle.c_erasure.specs.Scopes.{Entity, typedef, enumerator, a_local, a_parameter}
use Rattle.c_erasure.specs.Scopes as Scopes
use Rattle.c_erasure.specs.Checking.Answers.{Answer, refused}
use Rattle.c_erasure.specs.Checking.Nodes.{null, converted, valued, worth, a_node, named_in, step_in, address_in, deref_in}
use Rattle.c_erasure.specs.Checking.Nodes.{unary_in, not_in, cast_in, number_node, forward_node, backward_node, or_else, on_pointers, computed_in}
use Rattle.c_erasure.specs.Checking.Nodes.{compare_node, compared_in, tested_in, binary_in, tested, choice_node, chosen_in, scalar_at, record_at}
use Rattle.c_erasure.specs.Checking.Nodes.{target_of_type}
use Rattle.c_erasure.specs.Checking.Nodes.{target_in, assigned_in, copied_in, update_node, updated_in, comma_in}
use Rattle.c_checking_laws.proofs.Results.{ok}
use Rattle.c_checking_laws.proofs.Values.{typed_path, type_same, path_type_same, unconverted_same}
use Rattle.c_checking_laws.proofs.CompleteValues.{IsLeftOf}

-- ---- names, and values of things

pub named_back : (at : Place) (x : List ℕ) (e : Entity) (th : Thing) → IsNamed at e th → named_in at x (Some e) ≡ Ok th
unfolding named_in
named_back at x (typedef t) th h = absurd h
named_back at x (enumerator v) th h = ap ok (sym h)
named_back at x (Scopes.an_object n t) th h = ap ok (sym h)
named_back at x (Scopes.a_function f t) th h = ap ok (sym h)
named_back at x (Scopes.a_library_function which) th h = ap ok (sym h)
named_back at x (a_local n t) th h = ap ok (sym h)
named_back at x (a_parameter t) th h = ap ok (sym h)

pub worth_back : (at : ℕ) (th : Thing) (y : Expression) → value_of th ≡ Some y → worth at th ≡ Ok y
unfolding worth
worth_back at th y h = ap (valued at th) h

-- ---- rules read backwards

abbrev pub some : {A : Type 0} → A → Option A
some x = Some x

pub some_is : {A : Type 0} (x y : A) → some x ≡ Some y → x ≡ y
some_is x y h = cc

pub record IsPromoted (u t : CType) : Type 0 where
  pub is_integer : is_integer u ≡ true
  pub is_promoted : promoted u ≡ t

pub promoting_back : (u t : CType) → promoting u ≡ Some t → IsPromoted u t
promoting_back (integer kind) t h = record { is_integer = refl; is_promoted = some_is _ _ h }
promoting_back void t h = cc
promoting_back (pointer u) t h = cc
promoting_back (array u n) t h = cc
promoting_back (function u all) t h = cc
promoting_back (structure r) t h = cc

pub record IsMovedBy (count : ℕ) (p t w : CType) : Type 0 where
  pub points : points_to_object count p ≡ true
  pub number : promoting t ≡ Some w

pub moving_back : (count : ℕ) (p t w : CType) → moving count p t ≡ Some w → IsMovedBy count p t w
moving_back count p t w h = by_test (points_to_object count p) refl h
  where
    by_test : (b : Bool) → points_to_object count p ≡ b → cond b (promoting t) None ≡ Some w → IsMovedBy count p t w
    by_test true e h = record { points = e; number = h }
    by_test false e h = cc

-- a pointer takes no part in arithmetic
pub no_numbers_left : (op : BinaryOp) (count : ℕ) (p t : CType) → points_to_object count p ≡ true → on_numbers op p t ≡ None
no_numbers_left op count (pointer u) t h = by_shift (is_shift op)
  where
    by_shift : (b : Bool) → cond b (shifting (promoting (pointer u)) (promoting t)) (twice (arithmetic (pointer u) t)) ≡ None
    by_shift true = refl
    by_shift false = refl
no_numbers_left op count void t h = cc
no_numbers_left op count (integer kind) t h = cc
no_numbers_left op count (array u n) t h = cc
no_numbers_left op count (function u all) t h = cc
no_numbers_left op count (structure r) t h = cc

pub no_numbers_right : (op : BinaryOp) (count : ℕ) (t p : CType) (k : CType) → points_to_object count p ≡ true → promoting t ≡ Some k → on_numbers op t p ≡ None
no_numbers_right op count (integer kind) (pointer u) k h q = by_shift (is_shift op)
  where
    by_shift : (b : Bool) → cond b (shifting (promoting (integer kind)) (promoting (pointer u))) (twice (arithmetic (integer kind) (pointer u))) ≡ None
    by_shift true = refl
    by_shift false = refl
no_numbers_right op count t void k h q = cc
no_numbers_right op count t (integer kind) k h q = cc
no_numbers_right op count t (array u n) k h q = cc
no_numbers_right op count t (function u all) k h q = cc
no_numbers_right op count t (structure r) k h q = cc
no_numbers_right op count void (pointer u) k h q = cc
no_numbers_right op count (pointer v) (pointer u) k h q = cc
no_numbers_right op count (array v n) (pointer u) k h q = cc
no_numbers_right op count (function v all) (pointer u) k h q = cc
no_numbers_right op count (structure r) (pointer u) k h q = cc

-- a number points to nothing
pub number_no_pointer : (count : ℕ) (t k : CType) → promoting t ≡ Some k → points_to_object count t ≡ false
number_no_pointer count (integer kind) k h = refl
number_no_pointer count void k h = refl
number_no_pointer count (pointer t) k h = cc
number_no_pointer count (array t n) k h = refl
number_no_pointer count (function t all) k h = refl
number_no_pointer count (structure r) k h = refl

pub pointer_no_number : (count : ℕ) (t : CType) → points_to_object count t ≡ true → promoting t ≡ None
pointer_no_number count (pointer t) h = refl
pointer_no_number count (integer kind) h = cc
pointer_no_number count void h = cc
pointer_no_number count (array t n) h = cc
pointer_no_number count (function t all) h = cc
pointer_no_number count (structure r) h = cc

not_moving : (count : ℕ) (p t : CType) → points_to_object count p ≡ false → moving count p t ≡ None
not_moving count p t h = ap (λ b. cond b (promoting t) None) h

not_moved_by : (count : ℕ) (p t : CType) → promoting t ≡ None → moving count p t ≡ None
not_moved_by count p t h = by_test (points_to_object count p)
  where
    by_test : (b : Bool) → cond b (promoting t) None ≡ None
    by_test true = h
    by_test false = refl

-- ---- an operand, and what is left of it

module _ (d : Declared) (at : Place) where
  abbrev count : ℕ
  count = d.complete at.at

  abbrev pub Left : Expression → Type 0
  Left x = IsLeftOf d x (unconverted x)

  pub back_to : (x : Expression) → Left x → (t : CType) → ty (typed x) ≡ t → converted t (unconverted x) ≡ x
  back_to x o t e = subst (λ t. converted t (unconverted x) ≡ x) (sym o.type_same ∙ e) o.again

  -- ---- unary operators and casts

  pub unary_back : (op : UnaryOp) (t : CType) (x : Expression) → Left x → IsTypedNode d t at (Typed.unary op (typed x))
      → unary_in at op (unconverted x) ≡ Ok (a_value (value t at (Typed.unary op x)))
  unfolding unary_in
  unary_back op t x o h =
      let p = promoting_back (type_of (unconverted x)) t (ap promoting (sym o.bare_type) ∙ h.1) in
      rw (p.is_integer, p.is_promoted, back_to x o t h.2) refl

  pub not_back : (t : CType) (x : Expression) → Left x → IsTypedNode d t at (Typed.not (typed x))
      → not_in at (unconverted x) ≡ Ok (a_value (value t at (Typed.not x)))
  unfolding not_in
  not_back t x o h =
      let u = unconverted_same x h.1.0 in
      let i : is_scalar (type_of x) ≡ true = ap is_scalar (sym o.type_same) ∙ h.1.1 in
      rw (u, i, h.2) refl

  pub cast_back : (t : CType) (x : Expression) → Left x → IsTypedNode d t at (Typed.convert (typed x) true)
      → cast_in at t (unconverted x) ≡ Ok (a_value (value t at (Typed.convert x true)))
  unfolding cast_in
  cast_back t x o h =
      let u = unconverted_same x h.1 in
      let c : casts (type_of x) (null x) t ≡ true = ap (λ u. casts u (null x) t) (sym o.type_same) ∙ h.2 in
      rw (u, c) refl

  pub step_back : (from op_at : ℕ) (op : StepOp) (before : Bool) (t : CType) (p : Path) → IsTypedNode d t at (Typed.step op before (typed_path p))
      → step_in count from op_at at op before (an_object p) ≡ Ok (a_value (value t at (Typed.step op before p)))
  unfolding step_in
  step_back from op_at op before t p h =
      let e : t ≡ type_of_path p = h.1 ∙ path_type_same p in
      let i : is_stepped count (type_of_path p) ≡ true = subst (λ u. is_stepped count u ≡ true) e h.2 in
      rw (i, e) refl

  pub address_of_object_back : (from : ℕ) (t : CType) (p : Path) → parts t ≤ 1024 → IsTypedNode d t at (Typed.address_of (typed_path p))
      → address_in from at (an_object p) ≡ Ok (a_value (value t at (Typed.address_of p)))
  unfolding address_in
  address_of_object_back from t p l h =
      let e : t ≡ pointer (type_of_path p) = h.1 ∙ ap pointer (path_type_same p) in
      let n : parts t ≡ parts (type_of_path p) + 1 = ap parts e in
      let b : nat_lt (parts (type_of_path p)) 1024 ≡ true = lt-ltb (parts (type_of_path p)) 1024 (omega (arith, l, n)) in
      rw (b, e) refl

  -- ---- what a pointer points to

  object_no_function : (t : CType) → is_object count t ≡ true → is_function t ≡ false
  object_no_function void h = refl
  object_no_function (integer kind) h = refl
  object_no_function (pointer t) h = refl
  object_no_function (array t n) h = refl
  object_no_function (structure r) h = refl
  object_no_function (function t all) h = cc

  pub pointed_is : (u t : CType) → pointed u ≡ Some t → u ≡ pointer t
  pointed_is (pointer u) t h = ap pointer (some_is u t h)
  pointed_is void t h = cc
  pointed_is (integer kind) t h = cc
  pointed_is (array u n) t h = cc
  pointed_is (function u all) t h = cc
  pointed_is (structure r) t h = cc

  pub deref_back : (t : CType) (e : Expression) → Left e → IsTypedPath d (typed_path (way t at (Typed.deref e)))
      → deref_in count at (unconverted e) ≡ Ok (an_object (way t at (Typed.deref e)))
  unfolding deref_in
  deref_back t e o h =
      let u = unconverted_same e h.1 in
      let q : type_of e ≡ pointer t = pointed_is (type_of e) t (ap pointed (sym o.type_same) ∙ h.2) in
      let f = object_no_function t h.3 in
      rw (u, q, f, h.3) refl

  pub deref_function_back : (t : CType) (e : Expression) → type_of e ≡ pointer t → is_function t ≡ true → deref_in count at e ≡ Ok (a_function_at e)
  unfolding deref_in
  deref_function_back t e q f = rw (q, f) refl

  -- ---- binary operators

  -- by the type to which the operands are converted
  number_back : (op : BinaryOp) (t : CType) (x y : Expression) → Left x → Left y → (op_at : ℕ)
      → IsTypedNode d t at (Typed.binary op (typed x) (typed y))
      → computed_in count op_at at op (unconverted x) (unconverted y) ≡ Ok (a_value (value t at (Typed.binary op x y)))
  unfolding computed_in
  number_back op t x y o q op_at h =
      let r : on_numbers op (type_of (unconverted x)) (type_of (unconverted y)) ≡ Some (t, ty (typed y)) = rw (sym o.bare_type, sym q.bare_type) h.2 in
      let f : (w : Option (CType × CType)) → Answer Thing =
      λ w. or_else w (number_node at op (unconverted x) (unconverted y)) (on_pointers count op_at at op (unconverted x) (unconverted y)) in
      ap f r ∙ rw (back_to x o t h.3, back_to y q (ty (typed y)) refl) refl

  pub record ForwardParts (x y : Expression) (t : CType) : Type 0 where
    pub same : unconverted x ≡ x
    pub moved : moving count (type_of x) (type_of (unconverted y)) ≡ Some (ty (typed y))
    pub points : points_to_object count (type_of x) ≡ true
    pub number : promoting (type_of (unconverted y)) ≡ Some (ty (typed y))
    pub type_is : t ≡ type_of x

  forward_parts : (x y : Expression) (t : CType) → Left x → Left y → IsMoved count (typed x) (typed y) t → ForwardParts x y t
  forward_parts x y t o q h =
      let m : moving count (type_of x) (type_of (unconverted y)) ≡ Some (ty (typed y)) = rw (sym o.type_same, sym q.bare_type) h.1 in
      let b = moving_back count (type_of x) (type_of (unconverted y)) (ty (typed y)) m in
      record { same = unconverted_same x h.0; moved = m; points = b.points; number = b.number; type_is = h.2 ∙ type_same x }

  forward_back : (op : PointerOp) (t : CType) (x y : Expression) → Left y → ForwardParts x y t → (other : Answer Thing)
      → or_else (moving count (type_of x) (type_of (unconverted y))) (forward_node at op x (unconverted y)) other
      ≡ Ok (a_value (value t at (Typed.pointer_add op x y)))
  forward_back op t x y q f other =
      ap (λ w. or_else w (forward_node at op x (unconverted y)) other) f.moved ∙ rw (back_to y q (ty (typed y)) refl, f.type_is) refl

  -- a pointer and a number, or the other way round
  pointers_first : (op : BinaryOp) (op_at : ℕ) (x y : Expression) → on_numbers op (type_of x) (type_of y) ≡ None
      → computed_in count op_at at op x y ≡ on_pointers count op_at at op x y
  unfolding computed_in
  pointers_first op op_at x y e = ap (λ w. or_else w (number_node at op x y) (on_pointers count op_at at op x y)) e

  add_forward_back : (op_at : ℕ) (t : CType) (x y : Expression) → Left x → Left y → IsMoved count (typed x) (typed y) t
      → computed_in count op_at at B.Add (unconverted x) (unconverted y) ≡ Ok (a_value (value t at (Typed.pointer_add P.Add x y)))
  add_forward_back op_at t x y o q h =
      let f = forward_parts x y t o q h in
      ap (λ z. computed_in count op_at at B.Add z (unconverted y)) f.same
      ∙ pointers_first B.Add op_at x (unconverted y) (no_numbers_left B.Add count (type_of x) (type_of (unconverted y)) f.points)
      ∙ forward_back P.Add t x y q f _

  subtract_forward_back : (op_at : ℕ) (t : CType) (x y : Expression) → Left x → Left y → IsMoved count (typed x) (typed y) t
      → computed_in count op_at at B.Subtract (unconverted x) (unconverted y) ≡ Ok (a_value (value t at (Typed.pointer_add P.Subtract x y)))
  subtract_forward_back op_at t x y o q h =
      let f = forward_parts x y t o q h in
      ap (λ z. computed_in count op_at at B.Subtract z (unconverted y)) f.same
      ∙ pointers_first B.Subtract op_at x (unconverted y) (no_numbers_left B.Subtract count (type_of x) (type_of (unconverted y)) f.points)
      ∙ forward_back P.Subtract t x y q f _

  add_backward_back : (op_at : ℕ) (t : CType) (x y : Expression) → Left x → Left y → IsMoved count (typed y) (typed x) t
      → computed_in count op_at at B.Add (unconverted x) (unconverted y) ≡ Ok (a_value (value t at (Typed.pointer_add P.Add x y)))
  add_backward_back op_at t x y o q h =
      let f = forward_parts y x t q o h in
      let n = no_numbers_right B.Add count (type_of (unconverted x)) (type_of y) (ty (typed x)) f.points f.number in
      let m = not_moving count (type_of (unconverted x)) (type_of y) (number_no_pointer count (type_of (unconverted x)) (ty (typed x)) f.number) in
      ap (λ z. computed_in count op_at at B.Add (unconverted x) z) f.same
      ∙ pointers_first B.Add op_at (unconverted x) y n
      ∙ ap (λ w. or_else w (forward_node at P.Add (unconverted x) y)
      (or_else (moving count (type_of y) (type_of (unconverted x))) (backward_node at (unconverted x) y) (refused R.Operands op_at))) m
      ∙ ap (λ w. or_else w (backward_node at (unconverted x) y) (refused R.Operands op_at)) f.moved
      ∙ rw (back_to x o (ty (typed x)) refl, f.type_is) refl

  difference_back : (op_at : ℕ) (t : CType) (x y : Expression) → Left x → Left y → IsTypedNode d t at (Typed.pointer_difference (typed x) (typed y))
      → computed_in count op_at at B.Subtract (unconverted x) (unconverted y) ≡ Ok (a_value (value t at (Typed.pointer_difference x y)))
  difference_back op_at t x y o q h =
      let e : differing count (type_of x) (type_of y) ≡ true = rw (sym o.type_same, sym q.type_same) h.4 in
      let b = and_parts (points_to_object count (type_of x)) (same_type (type_of x) (type_of y)) e in
      let s : type_of x ≡ type_of y = same_is (type_of x) (type_of y) b.1 in
      let m = not_moved_by count (type_of x) (type_of y) (pointer_no_number count (type_of y) (subst (λ t. points_to_object count t ≡ true) s b.0)) in
      rw (unconverted_same x h.2, unconverted_same y h.3)
      (pointers_first B.Subtract op_at x y (no_numbers_left B.Subtract count (type_of x) (type_of y) b.0)
      ∙ ap (λ w. or_else w (forward_node at P.Subtract x y)
      (cond (differing count (type_of x) (type_of y)) (a_node (integer Int) at (Typed.pointer_difference x y)) (refused R.Operands op_at))) m
      ∙ rw (e, h.5) refl)

  compare_back : (op_at : ℕ) (op : CompareOp) (t : CType) (x y : Expression) → Left x → Left y
      → IsTypedNode d t at (Typed.compare op (typed x) (typed y))
      → compared_in op_at at op (unconverted x) (unconverted y) ≡ Ok (a_value (value t at (Typed.compare op x y)))
  unfolding compared_in
  compare_back op_at op t x y o q h =
      let r : comparing op (type_of (unconverted x)) (null (unconverted x)) (type_of (unconverted y)) (null (unconverted y)) ≡ Some (ty (typed x)) =
      rw (sym o.bare_type, sym o.null_same, sym q.bare_type, sym q.null_same) h.2 in
      ap (λ w. or_else w (compare_node at op (unconverted x) (unconverted y)) (refused R.Operands op_at)) r
      ∙ rw (back_to x o (ty (typed x)) refl, back_to y q (ty (typed x)) h.3, h.4) refl

  tested_back : (op_at : ℕ) (node : Node) (t : CType) (x y : Expression) → Left x → Left y → is_scalar (ty (typed x)) ≡ true → is_scalar (ty (typed y)) ≡ true
      → t ≡ integer Int → tested_in op_at at node x y ≡ Ok (a_value (value t at node))
  unfolding tested_in
  tested_back op_at node t x y o q a b e =
      let i : is_scalar (type_of x) ≡ true = ap is_scalar (sym o.type_same) ∙ a in
      let j : is_scalar (type_of y) ≡ true = ap is_scalar (sym q.type_same) ∙ b in
      rw (i, j, e) refl

  -- a node of two operands
  abbrev JoinsBack : ℕ → Kind → CType → Expression → Expression → Node → Type 0
  JoinsBack op_at kind t x y node = IsTyped d (typed (value t at node))
      → binary_in count op_at at kind (unconverted x) (unconverted y) ≡ Ok (a_value (value t at node))

  by_node : (op_at : ℕ) (kind : Kind) (t : CType) (x y : Expression) (node own : Node) → node ≡ own → JoinsBack op_at kind t x y own
      → JoinsBack op_at kind t x y node
  by_node op_at kind t x y node own e h = subst (JoinsBack op_at kind t x y) (sym e) h

  sum_back : (op_at : ℕ) (op : BinaryOp) (t : CType) (x y : Expression) (node : Node) → Left x → Left y → IsSum op x y node
      → JoinsBack op_at (computes op) t x y node
  sum_back op_at B.Add t x y node o q (inl e) = by_node op_at (computes B.Add) t x y node _ e (number_back B.Add t x y o q op_at)
  sum_back op_at B.Add t x y node o q (inr e) = by_node op_at (computes B.Add) t x y node _ e (λ h. by_order h.2)
    where
      by_order : IsMoved count (typed x) (typed y) t ⊎ IsMoved count (typed y) (typed x) t
          → computed_in count op_at at B.Add (unconverted x) (unconverted y) ≡ Ok (a_value (value t at (Typed.pointer_add P.Add x y)))
      by_order (inl m) = add_forward_back op_at t x y o q m
      by_order (inr m) = add_backward_back op_at t x y o q m
  sum_back op_at B.Subtract t x y node o q (inl e) = by_node op_at (computes B.Subtract) t x y node _ e (number_back B.Subtract t x y o q op_at)
  sum_back op_at B.Subtract t x y node o q (inr (inl e)) =
      by_node op_at (computes B.Subtract) t x y node _ e (λ h. subtract_forward_back op_at t x y o q h.2)
  sum_back op_at B.Subtract t x y node o q (inr (inr e)) = by_node op_at (computes B.Subtract) t x y node _ e (difference_back op_at t x y o q)
  sum_back op_at B.Multiply t x y node o q e = by_node op_at (computes B.Multiply) t x y node _ e (number_back B.Multiply t x y o q op_at)
  sum_back op_at B.Divide t x y node o q e = by_node op_at (computes B.Divide) t x y node _ e (number_back B.Divide t x y o q op_at)
  sum_back op_at B.Remainder t x y node o q e = by_node op_at (computes B.Remainder) t x y node _ e (number_back B.Remainder t x y o q op_at)
  sum_back op_at B.ShiftLeft t x y node o q e = by_node op_at (computes B.ShiftLeft) t x y node _ e (number_back B.ShiftLeft t x y o q op_at)
  sum_back op_at B.ShiftRight t x y node o q e = by_node op_at (computes B.ShiftRight) t x y node _ e (number_back B.ShiftRight t x y o q op_at)
  sum_back op_at B.BitAnd t x y node o q e = by_node op_at (computes B.BitAnd) t x y node _ e (number_back B.BitAnd t x y o q op_at)
  sum_back op_at B.BitXor t x y node o q e = by_node op_at (computes B.BitXor) t x y node _ e (number_back B.BitXor t x y o q op_at)
  sum_back op_at B.BitOr t x y node o q e = by_node op_at (computes B.BitOr) t x y node _ e (number_back B.BitOr t x y o q op_at)

  pub binary_back : (op_at : ℕ) (kind : Kind) (t : CType) (x y : Expression) (node : Node) → Left x → Left y → IsJoined kind x y node
      → JoinsBack op_at kind t x y node
  binary_back op_at (computes op) t x y node o q j = sum_back op_at op t x y node o q j
  binary_back op_at (compares op) t x y node o q e = by_node op_at (compares op) t x y node _ e (compare_back op_at op t x y o q)
  binary_back op_at all_of t x y node o q e = by_node op_at all_of t x y node _ e
      (λ h. rw (unconverted_same x h.2.0, unconverted_same y h.3.0) (tested_back op_at (Typed.both x y) t x y o q h.2.1 h.3.1 h.4))
  binary_back op_at any_of t x y node o q e = by_node op_at any_of t x y node _ e
      (λ h. rw (unconverted_same x h.2.0, unconverted_same y h.3.0) (tested_back op_at (Typed.either x y) t x y o q h.2.1 h.3.1 h.4))

  -- ---- `?:`, assignments and the comma

  pub test_back : (from : ℕ) (x : Expression) → Left x → (is_bare (typed x) ≡ true) × (is_scalar (ty (typed x)) ≡ true) → tested from (unconverted x) ≡ Ok x
  unfolding tested
  test_back from x o h =
      let i : is_scalar (type_of x) ≡ true = ap is_scalar (sym o.type_same) ∙ h.1 in
      rw (unconverted_same x h.0, i) refl

  pub choice_back : (colon : ℕ) (t : CType) (x y z : Expression) → Left y → Left z
      → IsTypedNode d t at (Typed.choose (typed x) (typed y) (typed z))
      → chosen_in colon at x (unconverted y) (unconverted z) ≡ Ok (a_value (value t at (Typed.choose x y z)))
  unfolding chosen_in
  choice_back colon t x y z o q h =
      let r : choosing (type_of (unconverted y)) (null (unconverted y)) (type_of (unconverted z)) (null (unconverted z)) ≡ Some t =
      rw (sym o.bare_type, sym o.null_same, sym q.bare_type, sym q.null_same) h.4 in
      ap (λ w. or_else w (choice_node at x (unconverted y) (unconverted z)) (refused R.Operands colon)) r
      ∙ rw (back_to y o t h.5, back_to z q t h.6) refl

  pub comma_back : (t : CType) (x y : Expression) → IsTypedNode d t at (Typed.comma (typed x) (typed y))
      → comma_in at (unconverted x) (unconverted y) ≡ Ok (a_value (value t at (Typed.comma x y)))
  unfolding comma_in
  comma_back t x y h = rw (unconverted_same x h.2, unconverted_same y h.3, h.4 ∙ type_same y) refl

  pub scalar_target_back : (from : ℕ) (p : Path) → is_scalar (type_of_path p) ≡ true → target_in from (an_object p) ≡ Ok (scalar_at p)
  unfolding target_in
  scalar_target_back from p h = by_type (type_of_path p) h
    where
      by_type : (t : CType) → is_scalar t ≡ true → target_of_type from p t ≡ Ok (scalar_at p)
      by_type (integer kind) h = refl
      by_type (pointer t) h = refl
      by_type void h = cc
      by_type (array t n) h = cc
      by_type (function t all) h = cc
      by_type (structure r) h = cc

  pub record_target_back : (from : ℕ) (p : Path) (r : ℕ) → type_of_path p ≡ structure r → target_in from (an_object p) ≡ Ok (record_at p)
  unfolding target_in
  record_target_back from p r h = ap (target_of_type from p) h

  pub assign_back : (op_at : ℕ) (t : CType) (p : Path) (x : Expression) → Left x → IsTypedNode d t at (Typed.assign (typed_path p) (typed x))
      → assigned_in op_at at p (unconverted x) ≡ Ok (a_value (value t at (Typed.assign p x)))
  unfolding assigned_in
  assign_back op_at t p x o h =
      let e : t ≡ type_of_path p = h.3 ∙ path_type_same p in
      let a : assigns (type_of (unconverted x)) (null (unconverted x)) t ≡ true = rw (sym o.bare_type, sym o.null_same) h.4.0 in
      subst (λ u. cond (assigns (type_of (unconverted x)) (null (unconverted x)) u) (a_node u at (Typed.assign p (converted u (unconverted x))))
      (refused R.Assign op_at)
      ≡ Ok (a_value (value t at (Typed.assign p x)))) e (rw (a, back_to x o t h.4.1) refl)

  pub copy_back : (op_at from : ℕ) (t : CType) (p q : Path) → IsTypedNode d t at (Typed.copy_record (typed_path p) (typed_path q))
      → copied_in op_at from at p (an_object q) ≡ Ok (a_value (value t at (Typed.copy_record p q)))
  unfolding copied_in
  copy_back op_at from t p q h =
      let e : type_of_path q ≡ type_of_path p = sym (path_type_same q) ∙ h.3 ∙ path_type_same p in
      rw (same_self (type_of_path q) (type_of_path p) e, h.2) refl

  pub update_back : (op_at : ℕ) (op : BinaryOp) (t : CType) (p : Path) (x : Expression) → Left x
      → IsTypedNode d t at (Typed.assign_op op (typed_path p) (typed x))
      → updated_in count op_at at op p (unconverted x) ≡ Ok (a_value (value t at (Typed.assign_op op p x)))
  unfolding updated_in
  update_back op_at op t p x o h =
      let e : t ≡ type_of_path p = h.2 ∙ path_type_same p in
      let r : updating count op (type_of_path p) (type_of (unconverted x)) ≡ Some (ty (typed x)) = rw (sym e, sym o.bare_type) h.3 in
      ap (λ w. or_else w (update_node at op p (unconverted x)) (refused R.Operands op_at)) r ∙ rw (back_to x o (ty (typed x)) refl, e) refl
