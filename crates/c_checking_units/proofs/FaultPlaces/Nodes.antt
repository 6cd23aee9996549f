-- What is made of the parts of an expression is refused at the places that are given.
use Rattle.std.proofs.Common.{ℕ, ◌&&◌, Bool, true, false, cond, List}
use Rattle.std.specs.Prelude.{Option, Some, None, slice_get, nat_le, nat_lt}
use Rattle.c_types.specs.Layouts.{size_of}
use Rattle.lay_base.specs.declared.place.Place.{Place}
use Rattle.lay_base.specs.declared.faults.Rule.{Rule}
use Rattle.lay_base.specs.declared.faults.Rule.TheVariants as R
use Rattle.c_types.specs.Types.{CType, integer, pointer, function, structure, Record}
use Rattle.c_types.specs.Objects.{is_object, parts}
use Rattle.c_types.specs.Sameness.{same_type}
use Rattle.c_typed.specs.declared.operators.StepOp.{StepOp}
use Rattle.c_typed.specs.declared.operators.UnaryOp.{UnaryOp}
use Rattle.c_typed.specs.declared.operators.CompareOp.{CompareOp}
use Rattle.c_typed.specs.declared.operators.BinaryOp.{BinaryOp}
use Rattle.c_typed.specs.declared.operators.BinaryOp.TheVariants as B
use Rattle.c_typed.specs.Trees as Typed
use Rattle.c_typed.specs.Conversions.{is_integer, is_scalar, is_function}
use Rattle.c_typed.specs.Fits.{assigns, casts}
use Rattle.c_typed.specs.Rules.{on_numbers, comparing, choosing, moving, differing, updating, is_stepped, points_to_object}
use Rattle.c_erasure.specs.Broken.{Fault, ill_typed, undeclared, too_big, called_type, misplaced}
use Rattle.c_erasure.specs.Noted.{Noted, Expression, Path, Node, Thing, an_object, a_value, a_function, a_library_function}
use Rattle.c_erasure.specs.Noted.{type_of, type_of_path, value_of, is_copy}
use Rattle.c_erasure.specs.Operators.{Kind, computes, compares, all_of, any_of}
use Rattle.c_erasure.specs.Scopes.{Entity, typedef}
use Rattle.c_erasure.specs.Checking.Nodes
use Rattle.c_checking_units.specs.FaultPlaces.Places.{Stands}
use Rattle.c_checking_units.proofs.FaultPlaces.Given.{Stops, found, fails, refuses, chosen, by_option}

pub misplaced_stands : (P : ℕ → Type 0) (th : Thing) (rule : Rule) (at from : ℕ) → P at → P from → Stands P (misplaced th rule at from)
misplaced_stands P th rule at from p q = by_copy (is_copy th)
  where
    by_copy : (b : Bool) → Stands P (cond b (ill_typed R.ByValue from) (ill_typed rule at))
    by_copy true = q
    by_copy false = p

module _ {P : ℕ → Type 0} where
  valued_stops : (at : ℕ) (th : Thing) (o : Option Expression) → P at → Stops P (Nodes.valued at th o)
  valued_stops at th (Some x) p = found x tt
  valued_stops at (a_library_function from which) None p = refuses R.Library at p
  valued_stops at th None p = refuses R.ByValue at p

  pub worth_stops : (at : ℕ) (th : Thing) → P at → Stops P (Nodes.worth at th)
  unfolding Nodes.worth
  worth_stops at th p = valued_stops at th (value_of th) p

  pub named_stops : (at : Place) (x : List ℕ) (o : Option Entity) → P at.at → Stops P (Nodes.named_in at x o)
  unfolding Nodes.named_in
  named_stops at x None p = fails (undeclared x at.at) p
  named_stops at x (Some (typedef t)) p = refuses R.Operands at.at p
  named_stops at x (Some e) p = found _ tt

  -- ---- subscripts

  pub element_stops : (from : ℕ) (at : Place) (a : Path × CType) (i : Expression) → P from → Stops P (Nodes.element_in from at a i)
  unfolding Nodes.element_in
  element_stops from at a i p = chosen (is_integer (type_of i)) _ _ (found _ tt) (refuses R.Operands from p)

  index_to_stops : (at : Place) (e i : Expression) (t : CType) → P at.at → Stops P (Nodes.index_to at e i t)
  index_to_stops at e i (pointer t) p = found _ tt
  index_to_stops at e i t p = refuses R.Operands at.at p

  turned_to_stops : (at : Place) (i e : Expression) (t : CType) → P at.at → Stops P (Nodes.turned_to at i e t)
  turned_to_stops at i e (pointer t) p = found _ tt
  turned_to_stops at i e t p = refuses R.Operands at.at p

  pub index_stops : (count from : ℕ) (at : Place) (x y : Expression) → P from → P at.at → Stops P (Nodes.index_in count from at x y)
  unfolding Nodes.index_in
  index_stops count from at x y p q = chosen (points_to_object count (type_of x) && is_integer (type_of y)) _ _ (index_to_stops at x y (type_of x) q)
      (chosen (is_integer (type_of x) && points_to_object count (type_of y)) _ _ (turned_to_stops at x y (type_of y) q) (refuses R.Operands from p))

  -- ---- calls

  signature_of_stops : (at : ℕ) (o : Option CType) → P at → Stops P (Nodes.signature_of at o)
  signature_of_stops at (Some (function t all)) p = found _ tt
  signature_of_stops at o p = refuses R.Callee at p

  pub signature_stops : (at : ℕ) (th : Thing) → P at → Stops P (Nodes.signature_in at th)
  unfolding Nodes.signature_in
  signature_stops at th p = signature_of_stops at (called_type th) p

  pub argument_stops : (at : ℕ) (t : CType) (x : Expression) → P at → Stops P (Nodes.argument_in at t x)
  unfolding Nodes.argument_in
  argument_stops at t x p = chosen (assigns (type_of x) (Nodes.null x) t) _ _ (found _ tt) (refuses R.Arguments at p)

  call_through_stops : (t : CType) (at : Place) (all : Typed.Expressions Noted) (o : Option Expression) → P at.at → Stops P (Nodes.call_through t at all o)
  call_through_stops t at all (Some e) p = found _ tt
  call_through_stops t at all None p = refuses R.Callee at.at p

  pub call_stops : (at : Place) (th : Thing) (t : CType) (all : Typed.Expressions Noted) → P at.at → Stops P (Nodes.call_in at th t all)
  unfolding Nodes.call_in
  call_stops at (a_function from f s) t all p = found _ tt
  call_stops at (a_library_function from which) t all p = found _ tt
  call_stops at th t all p = call_through_stops t at all (value_of th) p

  -- ---- members

  member_to_stops : (named : ℕ) (at : Place) (q : Path) (r : ℕ) (o : Option (ℕ × CType)) → P named → Stops P (Nodes.member_to named at q r o)
  member_to_stops named at q r None p = refuses R.Member named p
  member_to_stops named at q r (Some f) p = found _ tt

  member_of_type_stops : (records : List Record) (count named : ℕ) (at : Place) (q : Path) (t : CType) (x : List ℕ) → P named
      → Stops P (Nodes.member_of_type records count named at q t x)
  member_of_type_stops records count named at q (structure r) x p = chosen (is_object count (structure r)) _ _
      (member_to_stops named at q r (Nodes.field_in (slice_get records r) x) p) (refuses R.Incomplete named p)
  member_of_type_stops records count named at q t x p = refuses R.Member named p

  pub dot_stops : (records : List Record) (count named : ℕ) (at : Place) (th : Thing) (x : List ℕ) → P named → P at.at
      → Stops P (Nodes.dot_in records count named at th x)
  unfolding Nodes.dot_in
  dot_stops records count named at (an_object q) x p a = member_of_type_stops records count named at q (type_of_path q) x p
  dot_stops records count named at th x p a = fails (misplaced th R.Member named at.at) (misplaced_stands P th R.Member named at.at p a)

  arrow_to_stops : (records : List Record) (count named : ℕ) (at : Place) (e : Expression) (t : CType) (x : List ℕ) → P named
      → Stops P (Nodes.arrow_to records count named at e t x)
  arrow_to_stops records count named at e (pointer t) x p = member_of_type_stops records count named at _ t x p
  arrow_to_stops records count named at e t x p = refuses R.Member named p

  pub arrow_stops : (records : List Record) (count named : ℕ) (at : Place) (e : Expression) (x : List ℕ) → P named
      → Stops P (Nodes.arrow_in records count named at e x)
  unfolding Nodes.arrow_in
  arrow_stops records count named at e x p = arrow_to_stops records count named at e (type_of e) x p

  -- ---- unary operators

  pub step_stops : (count from op_at : ℕ) (at : Place) (op : StepOp) (before : Bool) (th : Thing) → P from → P op_at
      → Stops P (Nodes.step_in count from op_at at op before th)
  unfolding Nodes.step_in
  step_stops count from op_at at op before (an_object q) p o =
      chosen (is_stepped count (type_of_path q)) _ _ (found _ tt) (refuses R.Operands op_at o)
  step_stops count from op_at at op before th p o = refuses R.Lvalue from p

  pub address_stops : (from : ℕ) (at : Place) (th : Thing) → P from → P at.at → Stops P (Nodes.address_in from at th)
  unfolding Nodes.address_in
  address_stops from at (an_object q) p a = chosen (nat_lt (parts (type_of_path q)) 1024) _ _ (found _ tt) (fails (too_big at.at) a)
  address_stops from at (a_value e) p a = fails (misplaced (a_value e) R.Lvalue at.at from) (misplaced_stands P (a_value e) R.Lvalue at.at from a p)
  address_stops from at (a_library_function f_at which) p a = refuses R.Library from p
  address_stops from at th p a = found _ tt

  pointed_to_stops : (count : ℕ) (at : Place) (e : Expression) (t : CType) → P at.at → Stops P (Nodes.pointed_to count at e t)
  pointed_to_stops count at e (pointer t) p = chosen (is_function t) _ _ (found _ tt)
      (chosen (is_object count t) _ _ (found _ tt) (refuses R.Incomplete at.at p))
  pointed_to_stops count at e t p = refuses R.Operands at.at p

  pub deref_stops : (count : ℕ) (at : Place) (e : Expression) → P at.at → Stops P (Nodes.deref_in count at e)
  unfolding Nodes.deref_in
  deref_stops count at e p = pointed_to_stops count at e (type_of e) p

  pub unary_stops : (at : Place) (op : UnaryOp) (x : Expression) → P at.at → Stops P (Nodes.unary_in at op x)
  unfolding Nodes.unary_in
  unary_stops at op x p = chosen (is_integer (type_of x)) _ _ (found _ tt) (refuses R.Operands at.at p)

  pub not_stops : (at : Place) (x : Expression) → P at.at → Stops P (Nodes.not_in at x)
  unfolding Nodes.not_in
  not_stops at x p = chosen (is_scalar (type_of x)) _ _ (found _ tt) (refuses R.Operands at.at p)

  -- ---- `sizeof` and casts

  sized_or_stops : (records : List Record) (count at : ℕ) (sizeless : Fault) (t : CType) → P at → Stands P sizeless
      → Stops P (Nodes.sized_or records count at sizeless t)
  sized_or_stops records count at sizeless t p q = chosen (Nodes.is_complete records count t) _ _
      (chosen (nat_le (size_of records t) 16777216) _ _ (found _ tt) (fails (too_big at) p)) (fails sizeless q)

  pub sized_type_stops : (records : List Record) (count at : ℕ) (t : CType) → P at → Stops P (Nodes.sized_type records count at t)
  unfolding Nodes.sized_type
  sized_type_stops records count at t p = sized_or_stops records count at (ill_typed R.Incomplete at) t p p

  measured_of_stops : (records : List Record) (count at : ℕ) (sizeless : Fault) (o : Option CType) → P at → Stands P sizeless
      → Stops P (Nodes.measured_of records count at sizeless o)
  measured_of_stops records count at sizeless None p q = fails sizeless q
  measured_of_stops records count at sizeless (Some t) p q = sized_or_stops records count at sizeless t p q

  pub measured_stops : (records : List Record) (count at from : ℕ) (th : Thing) → P at → P from → Stops P (Nodes.measured_in records count at from th)
  unfolding Nodes.measured_in
  measured_stops records count at from th p q =
      measured_of_stops records count at (misplaced th R.Incomplete at from) (Nodes.measured_type th) p (misplaced_stands P th R.Incomplete at from p q)

  pub cast_stops : (at : Place) (t : CType) (x : Expression) → P at.at → Stops P (Nodes.cast_in at t x)
  unfolding Nodes.cast_in
  cast_stops at t x p = chosen (casts (type_of x) (Nodes.null x) t) _ _ (found _ tt) (refuses R.Cast at.at p)

  -- ---- binary operators

  pointers_stop : (count op_at : ℕ) (at : Place) (op : BinaryOp) (x y : Expression) → P op_at → Stops P (Nodes.on_pointers count op_at at op x y)
  pointers_stop count op_at at B.Add x y p = by_option (moving count (type_of x) (type_of y)) _ _ (λ w. found _ tt)
      (by_option (moving count (type_of y) (type_of x)) _ _ (λ w. found _ tt) (refuses R.Operands op_at p))
  pointers_stop count op_at at B.Subtract x y p = by_option (moving count (type_of x) (type_of y)) _ _ (λ w. found _ tt)
      (chosen (differing count (type_of x) (type_of y)) _ _ (found _ tt) (refuses R.Operands op_at p))
  pointers_stop count op_at at op x y p = refuses R.Operands op_at p

  computed_stops : (count op_at : ℕ) (at : Place) (op : BinaryOp) (x y : Expression) → P op_at → Stops P (Nodes.computed_in count op_at at op x y)
  unfolding Nodes.computed_in
  computed_stops count op_at at op x y p =
      by_option (on_numbers op (type_of x) (type_of y)) _ _ (λ t. found _ tt) (pointers_stop count op_at at op x y p)

  compared_stops : (op_at : ℕ) (at : Place) (op : CompareOp) (x y : Expression) → P op_at → Stops P (Nodes.compared_in op_at at op x y)
  unfolding Nodes.compared_in
  compared_stops op_at at op x y p =
      by_option (comparing op (type_of x) (Nodes.null x) (type_of y) (Nodes.null y)) _ _ (λ t. found _ tt) (refuses R.Operands op_at p)

  both_tested_stop : (op_at : ℕ) (at : Place) (node : Node) (x y : Expression) → P op_at → Stops P (Nodes.tested_in op_at at node x y)
  unfolding Nodes.tested_in
  both_tested_stop op_at at node x y p = chosen (is_scalar (type_of x) && is_scalar (type_of y)) _ _ (found _ tt) (refuses R.Operands op_at p)

  pub binary_stops : (count op_at : ℕ) (at : Place) (kind : Kind) (x y : Expression) → P op_at → Stops P (Nodes.binary_in count op_at at kind x y)
  binary_stops count op_at at (computes op) x y p = computed_stops count op_at at op x y p
  binary_stops count op_at at (compares op) x y p = compared_stops op_at at op x y p
  binary_stops count op_at at all_of x y p = both_tested_stop op_at at (Typed.both x y) x y p
  binary_stops count op_at at any_of x y p = both_tested_stop op_at at (Typed.either x y) x y p

  -- ---- `?:`, assignments and the comma

  pub tested_stops : (at : ℕ) (x : Expression) → P at → Stops P (Nodes.tested at x)
  unfolding Nodes.tested
  tested_stops at x p = chosen (is_scalar (type_of x)) _ _ (found _ tt) (refuses R.Operands at p)

  pub choice_stops : (colon : ℕ) (at : Place) (x y z : Expression) → P colon → Stops P (Nodes.chosen_in colon at x y z)
  unfolding Nodes.chosen_in
  choice_stops colon at x y z p =
      by_option (choosing (type_of y) (Nodes.null y) (type_of z) (Nodes.null z)) _ _ (λ t. found _ tt) (refuses R.Operands colon p)

  target_of_type_stops : (from : ℕ) (q : Path) (t : CType) → P from → Stops P (Nodes.target_of_type from q t)
  target_of_type_stops from q (integer kind) p = found _ tt
  target_of_type_stops from q (pointer t) p = found _ tt
  target_of_type_stops from q (structure r) p = found _ tt
  target_of_type_stops from q t p = refuses R.Lvalue from p

  pub target_stops : (from : ℕ) (th : Thing) → P from → Stops P (Nodes.target_in from th)
  unfolding Nodes.target_in
  target_stops from (an_object q) p = target_of_type_stops from q (type_of_path q) p
  target_stops from th p = refuses R.Lvalue from p

  pub assigned_stops : (op_at : ℕ) (at : Place) (q : Path) (x : Expression) → P op_at → Stops P (Nodes.assigned_in op_at at q x)
  unfolding Nodes.assigned_in
  assigned_stops op_at at q x p = chosen (assigns (type_of x) (Nodes.null x) (type_of_path q)) _ _ (found _ tt) (refuses R.Assign op_at p)

  pub copied_stops : (op_at from : ℕ) (at : Place) (q : Path) (th : Thing) → P op_at → P from → Stops P (Nodes.copied_in op_at from at q th)
  unfolding Nodes.copied_in
  copied_stops op_at from at q (an_object o) p a = chosen (same_type (type_of_path o) (type_of_path q)) _ _ (found _ tt) (refuses R.Assign op_at p)
  copied_stops op_at from at q th p a = fails (misplaced th R.Assign op_at from) (misplaced_stands P th R.Assign op_at from p a)

  pub updated_stops : (count op_at : ℕ) (at : Place) (op : BinaryOp) (q : Path) (x : Expression) → P op_at
      → Stops P (Nodes.updated_in count op_at at op q x)
  unfolding Nodes.updated_in
  updated_stops count op_at at op q x p =
      by_option (updating count op (type_of_path q) (type_of x)) _ _ (λ w. found _ tt) (refuses R.Operands op_at p)

  pub comma_stops : (at : Place) (x y : Expression) → Stops P (Nodes.comma_in at x y)
  unfolding Nodes.comma_in
  comma_stops at x y = found _ tt
