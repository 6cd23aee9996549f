-- What holds of the places of a checker's tree holds of those of the tree with its allocations and null pointers recognised.
use Rattle.std.proofs.Common.{ℕ, Bool, true, false, cond, List, [], ◌∷◌, map, Some, None}
use Rattle.std.specs.Prelude.{Option}
use Rattle.std.specs.Option.{option_map}
use Rattle.lay_base.specs.declared.place.Place.{Place}
use Rattle.c_types.specs.declared.ty.IntKind.TheVariants.{UInt}
use Rattle.c_types.specs.Sameness.{same_type}
use Rattle.c_types.specs.Types.{CType, void, integer, pointer, array, function, structure}
use Rattle.c_typed.specs.declared.operators.BinaryOp.TheVariants.{Multiply}
use Rattle.c_typed.specs.declared.operators.LibraryFunction.TheVariants.{Malloc, Calloc}
use Rattle.c_typed.specs.Trees
use Rattle.c_erasure.specs.Noted.{Noted, Note, nothing, size_of, Expression, Path, Node, PathNode, unless_noted, unconverted}
use Rattle.c_erasure.specs.Recognised.{is_note_of, is_size, as_unsigned_from, as_unsigned, counted, allocated, allocation, or_converted, is_null_constant}
use Rattle.c_erasure.specs.Recognised.{converted, recognised, recognised_node, recognised_optional, recognised_path, recognised_step, recognised_all}
use Rattle.c_erasure.specs.Units.{recognised_value, recognised_part, recognised_initializer, recognised_statement, recognised_statements, recognised_arms}
use Rattle.c_undefined_places.specs.Placed.{IsPlaced, IsPlacedNode, IsPlacedPath, IsPlacedStep, ArePlaced, IsPlacedCount, IsPlacedValue, ArePlacedParts}
use Rattle.c_undefined_places.specs.Placed.{IsPlacedInitial, IsPlacedIfAny, IsPlacedStatement, ArePlacedStatements, ArePlacedArms}

module _ (Is : Place → Type 0) where
  -- ---- allocations

  unless_placed : (note : Note) (e whole : Expression) → IsPlaced Is e → IsPlaced Is whole → IsPlaced Is (unless_noted note e whole)
  unless_placed nothing e whole h k = h
  unless_placed (size_of t at) e whole h k = k

  unconverted_placed : (e : Expression) → IsPlaced Is e → IsPlaced Is (unconverted e)
  unconverted_placed (Trees.expression t at (Trees.convert e false)) h = unless_placed t.note e (Trees.expression t at (Trees.convert e false)) h.1 h
  unconverted_placed (Trees.expression t at (Trees.convert e true)) h = h
  unconverted_placed (Trees.expression t at node) h = h

  either_placed : (b : Bool) (x y : Expression) → IsPlaced Is x → IsPlaced Is y → IsPlaced Is (cond b x y)
  either_placed true x y h k = h
  either_placed false x y h k = k

  from_placed : (e : Expression) → IsPlaced Is e → IsPlaced Is (as_unsigned_from e)
  from_placed (Trees.expression t at node) h = either_placed (same_type t.ty (integer UInt)) _ _ h (h.0, h)

  unsigned_placed : (e : Expression) → IsPlaced Is e → IsPlaced Is (as_unsigned e)
  unsigned_placed e h = from_placed (unconverted e) (unconverted_placed e h)

  -- the number of records, where there is one
  abbrev IsCounted : Option (Trees.OptionalExpression Noted) → Type 0
  IsCounted None = Unit {0}
  IsCounted (Some count) = IsPlacedCount Is count

  either_counted : (b : Bool) (x y : Option (Trees.OptionalExpression Noted)) → IsCounted x → IsCounted y → IsCounted (cond b x y)
  either_counted true x y h k = h
  either_counted false x y h k = k

  counted_placed : (r : ℕ) (e : Expression) → IsPlaced Is e → IsCounted (counted r e)
  counted_placed r (Trees.expression t at (Trees.constant v)) h = either_counted (is_note_of r t.note) _ _ tt tt
  counted_placed r (Trees.expression t at (Trees.binary Multiply x y)) h =
      either_counted (is_size r y) _ _ (unsigned_placed x h.1.0) (either_counted (is_size r x) _ _ (unsigned_placed y h.1.1) tt)
  counted_placed r e h = tt

  abbrev IsAllocated : Option (Trees.OptionalExpression Noted × Bool) → Type 0
  IsAllocated None = Unit {0}
  IsAllocated (Some a) = IsPlacedCount Is a.0

  allocated_placed : (count : Option (Trees.OptionalExpression Noted)) (zeroed : Bool) → IsCounted count → IsAllocated (allocated count zeroed)
  allocated_placed None zeroed h = tt
  allocated_placed (Some count) zeroed h = h

  either_allocated : (b : Bool) (x y : Option (Trees.OptionalExpression Noted × Bool)) → IsAllocated x → IsAllocated y → IsAllocated (cond b x y)
  either_allocated true x y h k = h
  either_allocated false x y h k = k

  allocation_placed : (r : ℕ) (e : Expression) → IsPlaced Is e → IsAllocated (allocation r e)
  allocation_placed r (Trees.expression t at (Trees.library Malloc (Trees.and_expression x Trees.no_expressions))) h =
      allocated_placed (counted r (unconverted x)) false (counted_placed r (unconverted x) (unconverted_placed x h.1.0))
  allocation_placed r (Trees.expression t at (Trees.library Calloc (Trees.and_expression x (Trees.and_expression y Trees.no_expressions)))) h =
      either_allocated (is_size r y) _ _ (unsigned_placed x h.1.0) tt
  allocation_placed r e h = tt

  or_placed : (r : ℕ) (a : Option (Trees.OptionalExpression Noted × Bool)) (e : Expression) (written : Bool) → IsAllocated a → IsPlaced Is e
      → IsPlacedNode Is (or_converted r a e written)
  or_placed r None e written h k = k
  or_placed r (Some a) e written h k = h

  either_node : (b : Bool) (x y : Node) → IsPlacedNode Is x → IsPlacedNode Is y → IsPlacedNode Is (cond b x y)
  either_node true x y h k = h
  either_node false x y h k = k

  converted_placed : (t : CType) (e : Expression) (written : Bool) → IsPlaced Is e → IsPlacedNode Is (converted t e written)
  converted_placed (pointer (structure r)) e written h =
      either_node (is_null_constant e) _ _ tt (or_placed r (allocation r e) e written (allocation_placed r e h) h)
  converted_placed (pointer void) e written h = either_node (is_null_constant e) _ _ tt h
  converted_placed (pointer (integer kind)) e written h = either_node (is_null_constant e) _ _ tt h
  converted_placed (pointer (pointer t)) e written h = either_node (is_null_constant e) _ _ tt h
  converted_placed (pointer (array t n)) e written h = either_node (is_null_constant e) _ _ tt h
  converted_placed (pointer (function t all)) e written h = either_node (is_null_constant e) _ _ tt h
  converted_placed t e written h = h

  -- ---- expressions

  mutual
    again : (e : Expression) → IsPlaced Is e → IsPlaced Is (recognised e)
    again (Trees.expression t at node) h = (h.0, node_again t node h.1)

    node_again : (t : Noted) (node : Node) → IsPlacedNode Is node → IsPlacedNode Is (recognised_node t node)
    node_again t (Trees.constant v) h = tt
    node_again t Trees.null h = tt
    node_again t (Trees.function_name f) h = tt
    node_again t (Trees.load p) h = path_again p h
    node_again t (Trees.address_of p) h = path_again p h
    node_again t (Trees.decay p) h = path_again p h
    node_again t (Trees.convert e written) h = converted_placed t.ty (recognised e) written (again e h)
    node_again t (Trees.unary op x) h = again x h
    node_again t (Trees.binary op x y) h = (again x h.0, again y h.1)
    node_again t (Trees.compare op x y) h = (again x h.0, again y h.1)
    node_again t (Trees.pointer_add op x y) h = (again x h.0, again y h.1)
    node_again t (Trees.pointer_difference x y) h = (again x h.0, again y h.1)
    node_again t (Trees.both x y) h = (again x h.0, again y h.1)
    node_again t (Trees.either x y) h = (again x h.0, again y h.1)
    node_again t (Trees.not x) h = again x h
    node_again t (Trees.choose x y z) h = (again x h.0, again y h.1, again z h.2)
    node_again t (Trees.comma x y) h = (again x h.0, again y h.1)
    node_again t (Trees.assign p x) h = (path_again p h.0, again x h.1)
    node_again t (Trees.assign_op op p x) h = (path_again p h.0, again x h.1)
    node_again t (Trees.step op before p) h = path_again p h
    node_again t (Trees.copy_record to from) h = (path_again to h.0, path_again from h.1)
    node_again t (Trees.call f all) h = all_again all h
    node_again t (Trees.call_through e all) h = (again e h.0, all_again all h.1)
    node_again t (Trees.library which all) h = all_again all h
    node_again t (Trees.allocate r count zeroed) h = count_again count h

    count_again : (count : Trees.OptionalExpression Noted) → IsPlacedCount Is count → IsPlacedCount Is (recognised_optional count)
    count_again Trees.no_expression h = tt
    count_again (Trees.some_expression e) h = again e h

    all_again : (all : Trees.Expressions Noted) → ArePlaced Is all → ArePlaced Is (recognised_all all)
    all_again Trees.no_expressions h = tt
    all_again (Trees.and_expression e more) h = (again e h.0, all_again more h.1)

    path_again : (p : Path) → IsPlacedPath Is p → IsPlacedPath Is (recognised_path p)
    path_again (Trees.path t at step) h = (h.0, step_again step h.1)

    step_again : (step : PathNode) → IsPlacedStep Is step → IsPlacedStep Is (recognised_step step)
    step_again (Trees.local n) h = tt
    step_again (Trees.object n) h = tt
    step_again (Trees.deref e) h = again e h
    step_again (Trees.index e i) h = (again e h.0, again i h.1)
    step_again (Trees.member p r field) h = path_again p h
    step_again (Trees.element p i) h = (path_again p h.0, again i h.1)

  -- ---- initializers and statements

  value_again : (v : Trees.PartValue Noted) → IsPlacedValue Is v → IsPlacedValue Is (recognised_value v)
  value_again (Trees.value e) h = again e h
  value_again (Trees.record_of p) h = path_again p h
  value_again (Trees.text bytes) h = tt

  parts_again : (all : List (Trees.Part Noted)) → ArePlacedParts Is all → ArePlacedParts Is (map recognised_part all)
  parts_again [] h = tt
  parts_again (part ∷ all) h = (value_again part.value h.0, parts_again all h.1)

  pub initial_again : (i : Option (Trees.Initializer Noted)) → IsPlacedInitial Is i → IsPlacedInitial Is (option_map recognised_initializer i)
  initial_again None h = tt
  initial_again (Some (Trees.whole e)) h = again e h
  initial_again (Some (Trees.whole_record p)) h = path_again p h
  initial_again (Some (Trees.parts all)) h = parts_again all h

  if_any_again : (e : Option Expression) → IsPlacedIfAny Is e → IsPlacedIfAny Is (option_map recognised e)
  if_any_again None h = tt
  if_any_again (Some e) h = again e h

  mutual
    pub recognised_placed : (st : Trees.Statement Noted) → IsPlacedStatement Is st → IsPlacedStatement Is (recognised_statement st)
    recognised_placed (Trees.evaluate e) h = again e h
    recognised_placed (Trees.block locals all) h = statements_again all h
    recognised_placed (Trees.declare n i) h = initial_again i h
    recognised_placed (Trees.when e one) h = (again e h.0, recognised_placed one h.1)
    recognised_placed (Trees.when_else e one other) h = (again e h.0, recognised_placed one h.1, recognised_placed other h.2)
    recognised_placed (Trees.while e body) h = (again e h.0, recognised_placed body h.1)
    recognised_placed (Trees.do_while body e) h = (recognised_placed body h.0, again e h.1)
    recognised_placed (Trees.for locals start test step body) h =
        (statements_again start h.0, if_any_again test h.1, if_any_again step h.2, recognised_placed body h.3)
    recognised_placed (Trees.switch e locals arms) h = (again e h.0, arms_again arms h.1)
    recognised_placed Trees.break h = tt
    recognised_placed Trees.continue h = tt
    recognised_placed (Trees.return e) h = if_any_again e h

    statements_again : (all : Trees.Statements Noted) → ArePlacedStatements Is all → ArePlacedStatements Is (recognised_statements all)
    statements_again Trees.no_statements h = tt
    statements_again (Trees.and_statement s more) h = (recognised_placed s h.0, statements_again more h.1)

    arms_again : (arms : Trees.Arms Noted) → ArePlacedArms Is arms → ArePlacedArms Is (recognised_arms arms)
    arms_again Trees.no_arms h = tt
    arms_again (Trees.and_arm cases is_default all more) h = (statements_again all h.0, arms_again more h.1)
