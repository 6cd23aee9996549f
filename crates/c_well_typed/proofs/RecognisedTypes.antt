-- Where allocations and null pointers are recognised in a tree no other types stand in it but `unsigned`: what holds of each type that stands there,
-- and of that one, still does.
use Rattle.std.proofs.Common.{ℕ, Bool, true, false, cond, List, [], ◌∷◌, ◌++◌, map, flat_map}
use Rattle.std.specs.Prelude.{Option, Some, None}
use Rattle.std.specs.Option.{option_map}
use Rattle.lay_base.specs.declared.place.Place.{Place}
use Rattle.c_types.specs.declared.ty.IntKind.TheVariants.{UInt}
use Rattle.c_types.specs.Types.{CType, integer, pointer, structure}
use Rattle.c_types.specs.Sameness.{same_type}
use Rattle.c_typed.specs.declared.operators.BinaryOp.TheVariants.{Multiply}
use Rattle.c_typed.specs.declared.operators.LibraryFunction.TheVariants.{Malloc, Calloc}
use Rattle.c_typed.specs.Trees as Trees
use Rattle.c_typed.specs.Walk.{types_in, types_in_node, types_in_path, types_in_step, types_in_all, types_in_optional}
use Rattle.c_typed.specs.Walk.{types_in_value, types_in_initializer, types_in_initial, types_if_any, types_in_statement, types_in_statements, types_in_arms}
use Rattle.c_erasure.specs.Noted.{Noted, Note, nothing, size_of, Expression, Path, Node, PathNode, value, plain, unconverted}
use Rattle.c_erasure.specs.Recognised.{as_unsigned, as_unsigned_from, counted, is_size, is_note_of, allocated, allocation, or_converted, is_null_constant}
use Rattle.c_erasure.specs.Recognised.{converted, recognised, recognised_node, recognised_optional, recognised_path, recognised_step, recognised_all}
use Rattle.c_erasure.specs.Units.{recognised_value, recognised_part, recognised_initializer, recognised_statement, recognised_statements, recognised_arms}
use Rattle.c_well_typed.proofs.Numbers.{two_parts}
use Rattle.c_well_typed.proofs.MadeNodes.{AreWhole, joined}

module _ (H : CType → Type 0) (unsigned : H (integer UInt)) where
  abbrev A : List Noted → Type 0
  A = AreWhole H

  split : (a b : List Noted) → A (a ++ b) → A a × A b
  split a b h = two_parts (λ (t : Noted). H t.ty) a b h

  both : (a b c e : List Noted) → (A a → A b) → (A c → A e) → A (a ++ c) → A (b ++ e)
  both a b c e f g h = let s = split a c h in joined H b e (f s.0) (g s.1)

  -- ---- without the conversion at the top

  bare_types : (t : CType) (note : Note) (at : Place) (e : Expression) → A (types_in e ++ record { ty = t; note = note } ∷ [])
      → A (types_in (unconverted (Trees.expression (record { ty = t; note = note }) at (Trees.convert e false))))
  bare_types t nothing at e h = (split (types_in e) (record { ty = t; note = nothing } ∷ []) h).0
  bare_types t (size_of u by) at e h = h

  unconverted_types : (e : Expression) → A (types_in e) → A (types_in (unconverted e))
  unconverted_types (Trees.expression t at (Trees.convert e false)) h = bare_types t.ty t.note at e h
  unconverted_types (Trees.expression t at (Trees.convert e true)) h = h
  unconverted_types (Trees.expression t at node) h = h

  -- ---- allocations

  unsigned_from_types : (e : Expression) → A (types_in e) → A (types_in (as_unsigned_from e))
  unsigned_from_types (Trees.expression t at node) h = by_type (same_type t.ty (integer UInt))
    where
      by_type : (b : Bool) → A (types_in (cond b (Trees.expression t at node) (value (integer UInt) at (Trees.convert (Trees.expression t at node) false))))
      by_type true = h
      by_type false = joined H (types_in (Trees.expression t at node)) (plain (integer UInt) ∷ []) h (unsigned, tt)

  unsigned_types : (e : Expression) → A (types_in e) → A (types_in (as_unsigned e))
  unsigned_types e h = unsigned_from_types (unconverted e) (unconverted_types e h)

  abbrev InCount : Option (Trees.OptionalExpression Noted) → Type 0
  InCount None = Unit {0}
  InCount (Some n) = A (types_in_optional n)

  counted_types : (r : ℕ) (e : Expression) → A (types_in e) → InCount (counted r e)
  counted_types r (Trees.expression t at (Trees.constant v)) h = by_note (is_note_of r t.note)
    where
      by_note : (b : Bool) → InCount (cond b (Some Trees.no_expression) None)
      by_note true = tt
      by_note false = tt
  counted_types r (Trees.expression t at (Trees.binary Multiply x y)) h = by_sizes (is_size r y) (is_size r x)
    where
      operands : A (types_in x) × A (types_in y)
      operands = split (types_in x) (types_in y) (split (types_in x ++ types_in y) (t ∷ []) h).0

      by_sizes : (b c : Bool) → InCount (cond b (Some (Trees.some_expression (as_unsigned x))) (cond c (Some (Trees.some_expression (as_unsigned y))) None))
      by_sizes true c = unsigned_types x operands.0
      by_sizes false true = unsigned_types y operands.1
      by_sizes false false = tt
  counted_types r e h = tt

  abbrev InAllocation : Option (Trees.OptionalExpression Noted × Bool) → Type 0
  InAllocation None = Unit {0}
  InAllocation (Some a) = A (types_in_optional a.0)

  allocated_types : (n : Option (Trees.OptionalExpression Noted)) (zeroed : Bool) → InCount n → InAllocation (allocated n zeroed)
  allocated_types None zeroed h = tt
  allocated_types (Some n) zeroed h = h

  allocation_types : (r : ℕ) (e : Expression) → A (types_in e) → InAllocation (allocation r e)
  allocation_types r (Trees.expression t at (Trees.library Malloc (Trees.and_expression x Trees.no_expressions))) h =
      let own = (split (types_in x) [] (split (types_in x ++ []) (t ∷ []) h).0).0 in
      allocated_types (counted r (unconverted x)) false (counted_types r (unconverted x) (unconverted_types x own))
  allocation_types r (Trees.expression t at (Trees.library Calloc (Trees.and_expression x (Trees.and_expression y Trees.no_expressions)))) h =
      by_size (is_size r y)
    where
      own : A (types_in x)
      own =
          let all = types_in_all (Trees.and_expression y Trees.no_expressions) in
          (split (types_in x) all (split (types_in_all (Trees.and_expression x (Trees.and_expression y Trees.no_expressions))) (t ∷ []) h).0).0

      by_size : (b : Bool) → InAllocation (cond b (Some (Trees.some_expression (as_unsigned x), true)) None)
      by_size true = unsigned_types x own
      by_size false = tt
  allocation_types r e h = tt

  -- ---- conversions

  or_converted_types : (r : ℕ) (a : Option (Trees.OptionalExpression Noted × Bool)) (e : Expression) (written : Bool) → A (types_in e) → InAllocation a
      → A (types_in_node (or_converted r a e written))
  or_converted_types r None e written h k = h
  or_converted_types r (Some a) e written h k = k

  null_or : (b : Bool) (node : Node) → A (types_in_node node) → A (types_in_node (cond b Trees.null node))
  null_or true node h = tt
  null_or false node h = h

  converted_types : (t : CType) (e : Expression) (written : Bool) → A (types_in e) → A (types_in_node (converted t e written))
  converted_types (pointer (structure r)) e written h =
      null_or (is_null_constant e) (or_converted r (allocation r e) e written) (or_converted_types r (allocation r e) e written h (allocation_types r e h))
  converted_types (pointer t) e written h = null_or (is_null_constant e) (Trees.convert e written) h
  converted_types t e written h = h

  -- ---- trees

  two : (x y fx fy : Expression) → (A (types_in x) → A (types_in fx)) → (A (types_in y) → A (types_in fy)) → A (types_in x ++ types_in y)
      → A (types_in fx ++ types_in fy)
  two x y fx fy f g h = both (types_in x) (types_in fx) (types_in y) (types_in fy) f g h

  with_path : (p q : Path) (x y : Expression) → (A (types_in_path p) → A (types_in_path q)) → (A (types_in x) → A (types_in y))
      → A (types_in_path p ++ types_in x) → A (types_in_path q ++ types_in y)
  with_path p q x y f g h = both (types_in_path p) (types_in_path q) (types_in x) (types_in y) f g h

  mutual
    pub recognised_types : (e : Expression) → A (types_in e) → A (types_in (recognised e))
    recognised_types (Trees.expression t at node) h =
        both (types_in_node node) (types_in_node (recognised_node t node)) (t ∷ []) (t ∷ []) (node_types t node) (λ k. k) h

    node_types : (t : Noted) (node : Node) → A (types_in_node node) → A (types_in_node (recognised_node t node))
    node_types t (Trees.constant v) h = h
    node_types t Trees.null h = h
    node_types t (Trees.function_name f) h = h
    node_types t (Trees.load p) h = path_types p h
    node_types t (Trees.address_of p) h = path_types p h
    node_types t (Trees.decay p) h = path_types p h
    node_types t (Trees.convert e written) h = converted_types t.ty (recognised e) written (recognised_types e h)
    node_types t (Trees.unary op x) h = recognised_types x h
    node_types t (Trees.binary op x y) h = two x y (recognised x) (recognised y) (recognised_types x) (recognised_types y) h
    node_types t (Trees.compare op x y) h = two x y (recognised x) (recognised y) (recognised_types x) (recognised_types y) h
    node_types t (Trees.pointer_add op x y) h = two x y (recognised x) (recognised y) (recognised_types x) (recognised_types y) h
    node_types t (Trees.pointer_difference x y) h = two x y (recognised x) (recognised y) (recognised_types x) (recognised_types y) h
    node_types t (Trees.both x y) h = two x y (recognised x) (recognised y) (recognised_types x) (recognised_types y) h
    node_types t (Trees.either x y) h = two x y (recognised x) (recognised y) (recognised_types x) (recognised_types y) h
    node_types t (Trees.not x) h = recognised_types x h
    node_types t (Trees.choose x y z) h =
        both (types_in x ++ types_in y) (types_in (recognised x) ++ types_in (recognised y)) (types_in z) (types_in (recognised z))
        (two x y (recognised x) (recognised y) (recognised_types x) (recognised_types y)) (recognised_types z) h
    node_types t (Trees.comma x y) h = two x y (recognised x) (recognised y) (recognised_types x) (recognised_types y) h
    node_types t (Trees.assign p x) h = with_path p (recognised_path p) x (recognised x) (path_types p) (recognised_types x) h
    node_types t (Trees.assign_op op p x) h = with_path p (recognised_path p) x (recognised x) (path_types p) (recognised_types x) h
    node_types t (Trees.step op before p) h = path_types p h
    node_types t (Trees.copy_record to from) h =
        both (types_in_path to) (types_in_path (recognised_path to)) (types_in_path from) (types_in_path (recognised_path from)) (path_types to) (path_types from) h
    node_types t (Trees.call f all) h = all_types all h
    node_types t (Trees.call_through e all) h =
        both (types_in e) (types_in (recognised e)) (types_in_all all) (types_in_all (recognised_all all)) (recognised_types e) (all_types all) h
    node_types t (Trees.library which all) h = all_types all h
    node_types t (Trees.allocate r n zeroed) h = optional_types n h

    optional_types : (n : Trees.OptionalExpression Noted) → A (types_in_optional n) → A (types_in_optional (recognised_optional n))
    optional_types Trees.no_expression h = h
    optional_types (Trees.some_expression e) h = recognised_types e h

    path_types : (p : Path) → A (types_in_path p) → A (types_in_path (recognised_path p))
    path_types (Trees.path t at step) h = both (types_in_step step) (types_in_step (recognised_step step)) (t ∷ []) (t ∷ []) (step_types step) (λ k. k) h

    step_types : (step : PathNode) → A (types_in_step step) → A (types_in_step (recognised_step step))
    step_types (Trees.local n) h = h
    step_types (Trees.object n) h = h
    step_types (Trees.deref e) h = recognised_types e h
    step_types (Trees.index e i) h = two e i (recognised e) (recognised i) (recognised_types e) (recognised_types i) h
    step_types (Trees.member p r field) h = path_types p h
    step_types (Trees.element p i) h = with_path p (recognised_path p) i (recognised i) (path_types p) (recognised_types i) h

    all_types : (all : Trees.Expressions Noted) → A (types_in_all all) → A (types_in_all (recognised_all all))
    all_types Trees.no_expressions h = h
    all_types (Trees.and_expression e more) h =
        both (types_in e) (types_in (recognised e)) (types_in_all more) (types_in_all (recognised_all more)) (recognised_types e) (all_types more) h

  -- ---- initializers and statements

  value_types : (v : Trees.PartValue Noted) → A (types_in_value v) → A (types_in_value (recognised_value v))
  value_types (Trees.value e) h = recognised_types e h
  value_types (Trees.record_of p) h = path_types p h
  value_types (Trees.text bytes) h = h

  abbrev in_parts : List (Trees.Part Noted) → List Noted
  in_parts all = flat_map (λ part. types_in_value part.value) all

  parts_types : (all : List (Trees.Part Noted)) → A (in_parts all) → A (in_parts (map recognised_part all))
  parts_types [] h = h
  parts_types (part ∷ all) h =
      both (types_in_value part.value) (types_in_value (recognised_value part.value)) (in_parts all) (in_parts (map recognised_part all))
      (value_types part.value) (parts_types all) h

  pub initializer_types : (i : Trees.Initializer Noted) → A (types_in_initializer i) → A (types_in_initializer (recognised_initializer i))
  initializer_types (Trees.whole e) h = recognised_types e h
  initializer_types (Trees.whole_record p) h = path_types p h
  initializer_types (Trees.parts all) h = parts_types all h

  initial_types : (i : Option (Trees.Initializer Noted)) → A (types_in_initial i) → A (types_in_initial (option_map recognised_initializer i))
  initial_types None h = h
  initial_types (Some i) h = initializer_types i h

  if_any_types : (e : Option Expression) → A (types_if_any e) → A (types_if_any (option_map recognised e))
  if_any_types None h = h
  if_any_types (Some e) h = recognised_types e h

  abbrev T : Trees.Statement Noted → List Noted
  T = types_in_statement

  mutual
    pub statement_types : (s : Trees.Statement Noted) → A (T s) → A (T (recognised_statement s))
    statement_types (Trees.evaluate e) h = recognised_types e h
    statement_types (Trees.block locals all) h = statements_types all h
    statement_types (Trees.declare n initial) h = initial_types initial h
    statement_types (Trees.when e one) h =
        both (types_in e) (types_in (recognised e)) (T one) (T (recognised_statement one)) (recognised_types e) (statement_types one) h
    statement_types (Trees.when_else e one other) h =
        both (types_in e ++ T one) (types_in (recognised e) ++ T (recognised_statement one)) (T other) (T (recognised_statement other))
        (both (types_in e) (types_in (recognised e)) (T one) (T (recognised_statement one)) (recognised_types e) (statement_types one)) (statement_types other) h
    statement_types (Trees.while e body) h =
        both (types_in e) (types_in (recognised e)) (T body) (T (recognised_statement body)) (recognised_types e) (statement_types body) h
    statement_types (Trees.do_while body e) h =
        both (T body) (T (recognised_statement body)) (types_in e) (types_in (recognised e)) (statement_types body) (recognised_types e) h
    statement_types (Trees.for locals start test step body) h =
        both (types_in_statements start ++ types_if_any test ++ types_if_any step)
        (types_in_statements (recognised_statements start) ++ types_if_any (option_map recognised test) ++ types_if_any (option_map recognised step))
        (T body) (T (recognised_statement body))
        (both (types_in_statements start ++ types_if_any test)
        (types_in_statements (recognised_statements start) ++ types_if_any (option_map recognised test))
        (types_if_any step) (types_if_any (option_map recognised step))
        (both (types_in_statements start) (types_in_statements (recognised_statements start)) (types_if_any test) (types_if_any (option_map recognised test))
        (statements_types start) (if_any_types test)) (if_any_types step)) (statement_types body) h
    statement_types (Trees.switch e locals arms) h =
        both (types_in e) (types_in (recognised e)) (types_in_arms arms) (types_in_arms (recognised_arms arms)) (recognised_types e) (arms_types arms) h
    statement_types Trees.break h = h
    statement_types Trees.continue h = h
    statement_types (Trees.return e) h = if_any_types e h

    statements_types : (all : Trees.Statements Noted) → A (types_in_statements all) → A (types_in_statements (recognised_statements all))
    statements_types Trees.no_statements h = h
    statements_types (Trees.and_statement s more) h =
        both (T s) (T (recognised_statement s)) (types_in_statements more) (types_in_statements (recognised_statements more)) (statement_types s)
        (statements_types more) h

    arms_types : (arms : Trees.Arms Noted) → A (types_in_arms arms) → A (types_in_arms (recognised_arms arms))
    arms_types Trees.no_arms h = h
    arms_types (Trees.and_arm cases is_default all more) h =
        both (types_in_statements all) (types_in_statements (recognised_statements all)) (types_in_arms more) (types_in_arms (recognised_arms more))
        (statements_types all) (arms_types more) h
