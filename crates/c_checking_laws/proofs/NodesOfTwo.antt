-- Each node of two operands or three: it stands for its part of the text and is well typed (C99 6.5.2.1, 6.5.5 to 6.5.17).
use Rattle.std.proofs.Common.{◌≡◌, ℕ, true, refl, sym, ap, ◌∙◌, subst, inl, inr}
use Rattle.std.proofs.lemmas.Bool.{and_parts}
use Rattle.std.specs.Prelude.{Some, Ok, ◌⊎◌, ◌&&◌}
use Rattle.lay_base.specs.declared.place.Place.{Place}
use Rattle.c_types.specs.declared.ty.IntKind.TheVariants.{Int}
use Rattle.c_types.specs.Types.{CType, void, integer, pointer, array, function, structure}
use Rattle.c_types.specs.Sameness.{same_type}
use Rattle.c_types.proofs.SameTypes.{same_is}
use Rattle.c_typed.specs.declared.operators.BinaryOp.{BinaryOp}
use Rattle.c_typed.specs.declared.operators.BinaryOp.TheVariants as B
use Rattle.c_typed.specs.declared.operators.CompareOp.{CompareOp}
use Rattle.c_typed.specs.declared.operators.PointerOp.{PointerOp}
use Rattle.c_typed.specs.declared.operators.PointerOp.TheVariants as P
use Rattle.c_typed.specs.Trees as Typed
use Rattle.c_typed.specs.Conversions.{is_scalar, is_integer, is_array, promoted, pointed, element_of}
use Rattle.c_typed.specs.Fits.{assigns}
use Rattle.c_typed.specs.Rules.{points_to_object, on_numbers, comparing, choosing, moving, differing, updating}
use Rattle.c_typed.specs.Typed.{IsMoved, IsMove, IsTested}
use Rattle.c_erasure.specs.Erasure.{typed, Values, place_in, IsSum, IsJoined}
use Rattle.c_erasure.specs.Noted.{Expression, Path, Node, Thing, an_object, a_value, a_function, a_function_at, a_library_function, value, way}
use Rattle.c_erasure.specs.Noted.{type_of, type_of_path}
use Rattle.c_erasure.specs.Operators.{Kind, computes, compares, all_of, any_of}
use Rattle.c_erasure.specs.Scopes.{Scope}
use Rattle.c_erasure.specs.Checking.Nodes.{null, converted, promoted_value, array_of, array_of_type, element_in, index_in, index_to, turned_to}
use Rattle.c_erasure.specs.Checking.Nodes.{number_node, forward_node, backward_node, on_pointers, computed_in, compared_in, tested_in, binary_in}
use Rattle.c_erasure.specs.Checking.Nodes.{tested, chosen_in, Target, scalar_at, record_at, path_of, target_of_type, target_in, assigned_in, copied_in}
use Rattle.c_erasure.specs.Checking.Nodes.{updated_in, comma_in}
use Rattle.c_erasure.specs.Checking.Finding.{complete}
use Rattle.c_checking_laws.proofs.Results.{ok, given, only_if, chosen, by_option}
use Rattle.c_checking_laws.proofs.Values.{type_same, path_type_same, IsValue, IsNoArray, Stands, operand}
use Rattle.c_checking_laws.proofs.NodesOfOne.{promoted_bare, promoted_is_integer}

module _ (Is Js : Thing → Type 0) (s : Scope) (at : ℕ) where
  abbrev there : Place
  there = place_in s at

  -- ---- subscripts (6.5.2.1)

  abbrev pub IsIndexed : Thing → Type 0
  IsIndexed th = ((t : CType) × (p : Path) × (i : Expression) × (is_array (type_of_path p) ≡ true)
      × (th ≡ an_object (way t there (Typed.element p i))) × Is (an_object p) × Values Js i)
      ⊎ ((t : CType) × (e i : Expression) × (th ≡ an_object (way t there (Typed.index e i))) × Values Is e × Values Js i)
      ⊎ ((t u : CType) × (i e : Expression) × (is_integer (type_of i) ≡ true) × Values Is i × Values Js e
      × (th ≡ an_object (way t there (Typed.deref (value u there (Typed.pointer_add P.Add i e))))))

  pub element_made : (left : ℕ) (base : Thing) (a : Path × CType) → Stands Is s base → array_of base ≡ Some a → (i : Expression) → IsValue Js s i
      → (th : Thing) → element_in left there a i ≡ Ok th → Stands IsIndexed s th
  unfolding element_in array_of
  element_made left (a_value e) a v e' i w th h = cc
  element_made left (a_function f_at f t) a v e' i w th h = cc
  element_made left (a_function_at e) a v e' i w th h = cc
  element_made left (a_library_function f_at which) a v e' i w th h = cc
  element_made left (an_object p) a v e' i w th h = by_type (type_of_path p) refl e'
    where
      by_type : (u : CType) → type_of_path p ≡ u → array_of_type p u ≡ Some a → Stands IsIndexed s th
      by_type void e g = cc
      by_type (integer kind) e g = cc
      by_type (pointer t) e g = cc
      by_type (function t all) e g = cc
      by_type (structure r) e g = cc
      by_type (array t n) e g =
          let q : (p, t) ≡ a = cc in
          let h : element_in left there (p, t) i ≡ Ok th = subst (λ a. element_in left there a i ≡ Ok th) (sym q) h in
          let b = only_if (is_integer (type_of i)) _ _ _ th h in
          let o = operand Js s (promoted (type_of i)) i w in
          given (Stands IsIndexed s) _ th b.1 (
            inl (t, p, promoted_value i, ap is_array e, refl, v.0, o.values),
            (v.1, o.is_typed, promoted_bare Js s i o b.0, ap element_of (path_type_same p ∙ e)),
            tt,
          )

  pub index_made : (left : ℕ) (x y : Expression) → IsValue Is s x → IsNoArray x → IsValue Js s y
      → (th : Thing) → index_in (complete s at) left there x y ≡ Ok th → Stands IsIndexed s th
  unfolding index_in
  index_made left x y v n w th h =
      chosen (points_to_object (complete s at) (type_of x) && is_integer (type_of y)) _ _ th (Stands IsIndexed s th) h
      (λ b h. let b = and_parts (points_to_object (complete s at) (type_of x)) (is_integer (type_of y)) b in forward (type_of x) refl b.0 b.1 h)
      (λ b h. chosen (is_integer (type_of x) && points_to_object (complete s at) (type_of y)) _ _ th (Stands IsIndexed s th) h
      (λ b h. let b = and_parts (is_integer (type_of x)) (points_to_object (complete s at) (type_of y)) b in backward (type_of y) refl b.0 b.1 h)
      (λ b h. cc))
    where
      forward : (u : CType) → type_of x ≡ u → points_to_object (complete s at) (type_of x) ≡ true → is_integer (type_of y) ≡ true
          → index_to there x y u ≡ Ok th → Stands IsIndexed s th
      forward void e b c h = cc
      forward (integer kind) e b c h = cc
      forward (array t k) e b c h = cc
      forward (function t all) e b c h = cc
      forward (structure r) e b c h = cc
      forward (pointer t) e b c h =
          let o = operand Js s (promoted (type_of y)) y w in
          given (Stands IsIndexed s) _ th h (
            inr (inl (t, x, promoted_value y, refl, v.0, o.values)),
            (
              v.1,
              o.is_typed,
              v.2,
              n (complete s at) b,
              promoted_bare Js s y o c,
              ap pointed (type_same x ∙ e),
              ap (points_to_object (complete s at)) (sym e) ∙ b,
            ),
            tt,
          )

      backward : (u : CType) → type_of y ≡ u → is_integer (type_of x) ≡ true → points_to_object (complete s at) (type_of y) ≡ true
          → turned_to there x y u ≡ Ok th → Stands IsIndexed s th
      backward void e b c h = cc
      backward (integer kind) e b c h = cc
      backward (array t k) e b c h = cc
      backward (function t all) e b c h = cc
      backward (structure r) e b c h = cc
      backward (pointer t) e b c h =
          let o = operand Is s (promoted (type_of x)) x v in
          let p : points_to_object (complete s at) (pointer t) ≡ true = ap (points_to_object (complete s at)) (sym e) ∙ c in
          let i : is_integer (type_of (promoted_value x)) ≡ true =
          ap is_integer (sym (type_same (promoted_value x)) ∙ o.type_is) ∙ promoted_is_integer (type_of x) b in
          given (Stands IsIndexed s) _ th h (
            inr (inr (t, pointer t, promoted_value x, y, i, o.values, w.0, refl)),
            ((o.is_typed, w.1, inr (w.2, rw (type_same y, e, p) (promoted_bare Is s x o b), sym (type_same y ∙ e))), refl, refl, p),
            tt,
          )

  -- ---- binary operators (6.5.5 to 6.5.14)

  abbrev pub IsBinary : Kind → Thing → Type 0
  IsBinary kind th = (t : CType) × (x y : Expression) × (node : Node) × Values Is x × Values Js y × IsJoined kind x y node × (th ≡ a_value (value t there node))

  -- one of the nodes of `+` and `-`
  sum_is : (op : BinaryOp) (x y : Expression) → IsSum op x y (Typed.binary op x y)
  sum_is B.Add x y = inl refl
  sum_is B.Subtract x y = inl refl
  sum_is B.Multiply x y = refl
  sum_is B.Divide x y = refl
  sum_is B.Remainder x y = refl
  sum_is B.ShiftLeft x y = refl
  sum_is B.ShiftRight x y = refl
  sum_is B.BitAnd x y = refl
  sum_is B.BitXor x y = refl
  sum_is B.BitOr x y = refl

  number_made : (op : BinaryOp) (x y : Expression) → IsValue Is s x → IsValue Js s y → (t : CType × CType) → on_numbers op (type_of x) (type_of y) ≡ Some t
      → (th : Thing) → number_node there op x y t ≡ Ok th → Stands (IsBinary (computes op)) s th
  number_made op x y v w t e th h =
      let o = operand Is s t.0 x v in
      let q = operand Js s t.1 y w in
      given (Stands (IsBinary (computes op)) s) _ th h (
        (t.0, converted t.0 x, converted t.1 y, Typed.binary op (converted t.0 x) (converted t.1 y), o.values, q.values, sum_is op _ _, refl),
        (o.is_typed, q.is_typed, rw (o.bare_type_is, q.bare_type_is, q.type_is) e, o.type_is),
        (refl, λ count p. refl),
      )

  abbrev sign : PointerOp → BinaryOp
  sign P.Add = B.Add
  sign P.Subtract = B.Subtract

  pointer_sum_is : (op : PointerOp) (x y : Expression) → IsSum (sign op) x y (Typed.pointer_add op x y)
  pointer_sum_is P.Add x y = inr refl
  pointer_sum_is P.Subtract x y = inr (inl refl)

  move_is : (op : PointerOp) (count : ℕ) (x y : Typed.Expression CType) (t : CType) → IsMoved count x y t → IsMove op count x y t
  move_is P.Add count x y t m = inl m
  move_is P.Subtract count x y t m = m

  forward_made : (op : PointerOp) (x y : Expression) → IsValue Is s x → IsValue Js s y → (t : CType) → moving (complete s at) (type_of x) (type_of y) ≡ Some t
      → (th : Thing) → forward_node there op x y t ≡ Ok th → Stands (IsBinary (computes (sign op))) s th
  forward_made op x y v w t e th h =
      let q = operand Js s t y w in
      let m : IsMoved (complete s at) (typed x) (typed (converted t y)) (type_of x) =
      (v.2, rw (type_same x, q.bare_type_is, q.type_is) e, sym (type_same x)) in
      given (Stands (IsBinary (computes (sign op))) s) _ th h (
        (type_of x, x, converted t y, Typed.pointer_add op x (converted t y), v.0, q.values, pointer_sum_is op _ _, refl),
        (v.1, q.is_typed, move_is op _ _ _ _ m),
        (refl, λ count p. refl),
      )

  backward_made : (x y : Expression) → IsValue Is s x → IsValue Js s y → (t : CType) → moving (complete s at) (type_of y) (type_of x) ≡ Some t
      → (th : Thing) → backward_node there x y t ≡ Ok th → Stands (IsBinary (computes B.Add)) s th
  backward_made x y v w t e th h =
      let o = operand Is s t x v in
      given (Stands (IsBinary (computes B.Add)) s) _ th h (
        (type_of y, converted t x, y, Typed.pointer_add P.Add (converted t x) y, o.values, w.0, inr refl, refl),
        (o.is_typed, w.1, inr (w.2, rw (type_same y, o.bare_type_is, o.type_is) e, sym (type_same y))),
        (refl, λ count p. refl),
      )

  difference_made : (x y : Expression) → IsValue Is s x → IsValue Js s y → differing (complete s at) (type_of x) (type_of y) ≡ true
      → (th : Thing) → ok (a_value (value (integer Int) there (Typed.pointer_difference x y))) ≡ Ok th → Stands (IsBinary (computes B.Subtract)) s th
  difference_made x y v w d th h =
      given (Stands (IsBinary (computes B.Subtract)) s) _ th h (
        (integer Int, x, y, Typed.pointer_difference x y, v.0, w.0, inr (inr refl), refl),
        (v.1, w.1, v.2, w.2, rw (type_same x, type_same y) d, refl),
        (refl, λ count p. refl),
      )

  pointers_made : (op_at : ℕ) (op : BinaryOp) (x y : Expression) → IsValue Is s x → IsValue Js s y
      → (th : Thing) → on_pointers (complete s at) op_at there op x y ≡ Ok th → Stands (IsBinary (computes op)) s th
  pointers_made op_at B.Add x y v w th h =
      by_option (moving (complete s at) (type_of x) (type_of y)) _ _ th (Stands (IsBinary (computes B.Add)) s th) h
      (λ t e h. forward_made P.Add x y v w t e th h)
      (λ n h. by_option (moving (complete s at) (type_of y) (type_of x)) _ _ th (Stands (IsBinary (computes B.Add)) s th) h
      (λ t e h. backward_made x y v w t e th h)
      (λ n h. cc))
  pointers_made op_at B.Subtract x y v w th h =
      by_option (moving (complete s at) (type_of x) (type_of y)) _ _ th (Stands (IsBinary (computes B.Subtract)) s th) h
      (λ t e h. forward_made P.Subtract x y v w t e th h)
      (λ n h. let b = only_if (differing (complete s at) (type_of x) (type_of y)) _ _ _ th h in difference_made x y v w b.0 th b.1)
  pointers_made op_at op x y v w th h = cc

  compared_made : (op_at : ℕ) (op : CompareOp) (x y : Expression) → IsValue Is s x → IsValue Js s y
      → (th : Thing) → compared_in op_at there op x y ≡ Ok th → Stands (IsBinary (compares op)) s th
  unfolding compared_in
  compared_made op_at op x y v w th h =
      by_option (comparing op (type_of x) (null x) (type_of y) (null y)) _ _ th (Stands (IsBinary (compares op)) s th) h
      (λ t e h.
      let o = operand Is s t x v in
      let q = operand Js s t y w in
      given (Stands (IsBinary (compares op)) s) _ th h (
        (integer Int, converted t x, converted t y, Typed.compare op (converted t x) (converted t y), o.values, q.values, refl, refl),
        (o.is_typed, q.is_typed, rw (o.bare_type_is, o.null_is, q.bare_type_is, q.null_is, o.type_is) e, rw (o.type_is, q.type_is) refl, refl),
        (refl, λ count p. refl),
      ))
      (λ n h. cc)

  abbrev AreTested : Expression → Expression → Type 0
  AreTested x y = IsTested (typed x) × IsTested (typed y)

  tested_made : (kind : Kind) (op_at : ℕ) (node : Node) (x y : Expression) → IsValue Is s x → IsValue Js s y → IsJoined kind x y node
      → (AreTested x y → Stands (IsBinary kind) s (a_value (value (integer Int) there node)))
      → (th : Thing) → tested_in op_at there node x y ≡ Ok th → Stands (IsBinary kind) s th
  unfolding tested_in
  tested_made kind op_at node x y v w j made th h =
      let b = only_if (is_scalar (type_of x) && is_scalar (type_of y)) _ _ _ th h in
      let c = and_parts (is_scalar (type_of x)) (is_scalar (type_of y)) b.0 in
      given (Stands (IsBinary kind) s) _ th b.1 (made ((v.2, ap is_scalar (type_same x) ∙ c.0), (w.2, ap is_scalar (type_same y) ∙ c.1)))

  pub binary_made : (op_at : ℕ) (kind : Kind) (x y : Expression) → IsValue Is s x → IsValue Js s y
      → (th : Thing) → binary_in (complete s at) op_at there kind x y ≡ Ok th → Stands (IsBinary kind) s th
  unfolding computed_in
  binary_made op_at (computes op) x y v w th h =
      by_option (on_numbers op (type_of x) (type_of y)) _ _ th (Stands (IsBinary (computes op)) s th) h
      (λ t e h. number_made op x y v w t e th h)
      (λ n h. pointers_made op_at op x y v w th h)
  binary_made op_at (compares op) x y v w th h = compared_made op_at op x y v w th h
  binary_made op_at all_of x y v w th h =
      tested_made all_of op_at (Typed.both x y) x y v w refl
      (λ t. ((integer Int, x, y, Typed.both x y, v.0, w.0, refl, refl), (v.1, w.1, t.0, t.1, refl), (refl, λ count p. refl))) th h
  binary_made op_at any_of x y v w th h =
      tested_made any_of op_at (Typed.either x y) x y v w refl
      (λ t. ((integer Int, x, y, Typed.either x y, v.0, w.0, refl, refl), (v.1, w.1, t.0, t.1, refl), (refl, λ count p. refl))) th h

  -- ---- the comma (6.5.17)

  abbrev pub IsComma : Thing → Type 0
  IsComma th = (t : CType) × (x y : Expression) × (th ≡ a_value (value t there (Typed.comma x y))) × Values Is x × Values Js y

  pub comma_made : (x y : Expression) → IsValue Is s x → IsValue Js s y → (th : Thing) → comma_in there x y ≡ Ok th → Stands IsComma s th
  unfolding comma_in
  comma_made x y v w th h =
      given (Stands IsComma s) _ th h
      ((type_of y, x, y, refl, v.0, w.0), (v.1, w.1, v.2, w.2, sym (type_same y)), (refl, λ count p. refl))

  -- ---- assignments (6.5.16)

  pub target_made : (from : ℕ) (th : Thing) (target : Target) → target_in from th ≡ Ok target → th ≡ an_object (path_of target)
  unfolding target_in
  target_made from (an_object p) target h = by_type (type_of_path p) h
    where
      by_type : (t : CType) → target_of_type from p t ≡ Ok target → an_object p ≡ an_object (path_of target)
      by_type (integer kind) h = given (λ target. an_object p ≡ an_object (path_of target)) (scalar_at p) target h refl
      by_type (pointer t) h = given (λ target. an_object p ≡ an_object (path_of target)) (scalar_at p) target h refl
      by_type (structure r) h = given (λ target. an_object p ≡ an_object (path_of target)) (record_at p) target h refl
      by_type void h = cc
      by_type (array t n) h = cc
      by_type (function t all) h = cc
  target_made from (a_value e) target h = cc
  target_made from (a_function f_at f t) target h = cc
  target_made from (a_function_at e) target h = cc
  target_made from (a_library_function f_at which) target h = cc

  -- of a scalar or a record
  abbrev pub IsTarget : Target → Type 0
  IsTarget (scalar_at p) = is_scalar (type_of_path p) ≡ true
  IsTarget (record_at p) = (r : ℕ) × (type_of_path p ≡ structure r)

  pub target_type : (from : ℕ) (th : Thing) (target : Target) → target_in from th ≡ Ok target → IsTarget target
  unfolding target_in
  target_type from (an_object p) target h = by_type (type_of_path p) refl h
    where
      by_type : (t : CType) → type_of_path p ≡ t → target_of_type from p t ≡ Ok target → IsTarget target
      by_type (integer kind) e h = given IsTarget (scalar_at p) target h (ap is_scalar e)
      by_type (pointer t) e h = given IsTarget (scalar_at p) target h (ap is_scalar e)
      by_type (structure r) e h = given IsTarget (record_at p) target h (r, e)
      by_type void e h = cc
      by_type (array t n) e h = cc
      by_type (function t all) e h = cc
  target_type from (a_value e) target h = cc
  target_type from (a_function f_at f t) target h = cc
  target_type from (a_function_at e) target h = cc
  target_type from (a_library_function f_at which) target h = cc

  abbrev pub IsAssigned : Thing → Type 0
  IsAssigned th = (t : CType) × (p : Path) × (x : Expression) × (th ≡ a_value (value t there (Typed.assign p x))) × Is (an_object p) × Values Js x

  pub assigned_made : (op_at : ℕ) (p : Path) → Stands Is s (an_object p) → is_scalar (type_of_path p) ≡ true → (x : Expression) → IsValue Js s x
      → (th : Thing) → assigned_in op_at there p x ≡ Ok th → Stands IsAssigned s th
  unfolding assigned_in
  assigned_made op_at p v i x w th h =
      let b = only_if (assigns (type_of x) (null x) (type_of_path p)) _ _ _ th h in
      let o = operand Js s (type_of_path p) x w in
      given (Stands IsAssigned s) _ th b.1 (
        (type_of_path p, p, converted (type_of_path p) x, refl, v.0, o.values),
        (v.1, o.is_typed, i, sym (path_type_same p), (rw (o.bare_type_is, o.null_is) b.0, o.type_is)),
        (refl, λ count p. refl),
      )

  abbrev pub IsCopied : Thing → Type 0
  IsCopied th = (t : CType) × (p q : Path) × (th ≡ a_value (value t there (Typed.copy_record p q))) × Is (an_object p) × Js (an_object q)

  pub copied_made : (op_at from : ℕ) (p : Path) → Stands Is s (an_object p) → (r : ℕ) → type_of_path p ≡ structure r → (right : Thing) → Stands Js s right
      → (th : Thing) → copied_in op_at from there p right ≡ Ok th → Stands IsCopied s th
  unfolding copied_in
  copied_made op_at from p v r e (an_object q) w th h =
      let b = only_if (same_type (type_of_path q) (type_of_path p)) _ _ _ th h in
      given (Stands IsCopied s) _ th b.1 (
        (void, p, q, refl, v.0, w.0),
        (v.1, w.1, refl, path_type_same q ∙ same_is (type_of_path q) (type_of_path p) b.0 ∙ sym (path_type_same p), (r, path_type_same p ∙ e)),
        (refl, λ count p. refl),
      )
  copied_made op_at from p v r e (a_value x) w th h = cc
  copied_made op_at from p v r e (a_function f_at f t) w th h = cc
  copied_made op_at from p v r e (a_function_at x) w th h = cc
  copied_made op_at from p v r e (a_library_function f_at which) w th h = cc

  abbrev pub IsUpdated : BinaryOp → Thing → Type 0
  IsUpdated op th = (t : CType) × (p : Path) × (x : Expression) × (th ≡ a_value (value t there (Typed.assign_op op p x))) × Is (an_object p) × Values Js x

  pub updated_made : (op_at : ℕ) (op : BinaryOp) (p : Path) → Stands Is s (an_object p) → (x : Expression) → IsValue Js s x
      → (th : Thing) → updated_in (complete s at) op_at there op p x ≡ Ok th → Stands (IsUpdated op) s th
  unfolding updated_in
  updated_made op_at op p v x w th h =
      by_option (updating (complete s at) op (type_of_path p) (type_of x)) _ _ th (Stands (IsUpdated op) s th) h
      (λ t e h.
      let o = operand Js s t x w in
      given (Stands (IsUpdated op) s) _ th h (
        (type_of_path p, p, converted t x, refl, v.0, o.values),
        (v.1, o.is_typed, sym (path_type_same p), rw (o.bare_type_is, o.type_is) e),
        (refl, λ count p. refl),
      ))
      (λ n h. cc)

-- ---- `?:` (6.5.15)

pub tested_is : (at : ℕ) (x y : Expression) → tested at x ≡ Ok y → (is_scalar (type_of x) ≡ true) × (x ≡ y)
unfolding tested
tested_is at x y h =
    let b = only_if (is_scalar (type_of x)) _ _ _ y h in
    (b.0, given (λ y. x ≡ y) x y b.1 refl)

module _ (Is Js Ks : Thing → Type 0) (s : Scope) (at : Place) where
  abbrev pub IsChoice : Thing → Type 0
  IsChoice th = (t : CType) × (x y z : Expression) × (th ≡ a_value (value t at (Typed.choose x y z))) × Values Is x × Values Js y × Values Ks z

  pub chosen_made : (colon : ℕ) (x y z : Expression) → IsValue Is s x → is_scalar (type_of x) ≡ true → IsValue Js s y → IsValue Ks s z
      → (th : Thing) → chosen_in colon at x y z ≡ Ok th → Stands IsChoice s th
  unfolding chosen_in
  chosen_made colon x y z v i w u th h =
      by_option (choosing (type_of y) (null y) (type_of z) (null z)) _ _ th (Stands IsChoice s th) h
      (λ t e h.
      let o = operand Js s t y w in
      let q = operand Ks s t z u in
      given (Stands IsChoice s) _ th h (
        (t, x, converted t y, converted t z, refl, v.0, o.values, q.values),
        (
          v.1,
          o.is_typed,
          q.is_typed,
          (v.2, ap is_scalar (type_same x) ∙ i),
          rw (o.bare_type_is, o.null_is, q.bare_type_is, q.null_is) e,
          o.type_is,
          q.type_is,
        ),
        (refl, λ count p. refl),
      ))
      (λ n h. cc)
