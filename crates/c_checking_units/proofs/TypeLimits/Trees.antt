-- What holds of the type at each node of a tree.
use Rattle.std.proofs.Common.{ℕ, Bool, true, false, List, [], ◌∷◌, ◌++◌, map, flat_map, cond}
use Rattle.std.specs.Prelude.{Option, Some, None}
use Rattle.std.specs.List.{AllByRecursion}
use Rattle.std.specs.Option.{option_map}
use Rattle.c_types.specs.declared.ty.IntKind.TheVariants.{UInt}
use Rattle.c_types.specs.Sameness.{same_type}
use Rattle.c_types.specs.Types.{CType, integer, pointer, structure}
use Rattle.c_typed.specs.declared.operators.BinaryOp.TheVariants.{Multiply}
use Rattle.c_typed.specs.declared.operators.LibraryFunction.TheVariants.{Malloc, Calloc}
use Rattle.c_typed.specs.Trees as Trees
use Rattle.c_typed.specs.Walk.{types_in, types_in_node, types_in_path, types_in_step, types_in_all, types_in_optional, types_in_value}
use Rattle.c_typed.specs.Walk.{types_in_initializer, types_in_initial, types_if_any, types_in_statement, types_in_statements, types_in_arms}
use Rattle.c_erasure.specs.Noted.{Noted, Note, nothing, size_of, Expression, Path, Node, PathNode, unless_noted, unconverted}
use Rattle.c_erasure.specs.Recognised.{is_note_of, is_size, as_unsigned, as_unsigned_from, counted, allocated, allocation, or_converted, is_null_constant}
use Rattle.c_erasure.specs.Recognised.{converted, recognised, recognised_node, recognised_optional, recognised_path, recognised_step, recognised_all}
use Rattle.c_erasure.specs.Units.{recognised_value, recognised_part, recognised_initializer, recognised_statement, recognised_statements, recognised_arms}

module _ (P : CType → Type 0) where
  abbrev mutual
    pub Each : Expression → Type 0
    Each (Trees.expression t at node) = EachInNode node × P t.ty

    pub EachInNode : Node → Type 0
    EachInNode (Trees.constant v) = Unit {0}
    EachInNode Trees.null = Unit {0}
    EachInNode (Trees.function_name f) = Unit {0}
    EachInNode (Trees.load p) = EachInPath p
    EachInNode (Trees.address_of p) = EachInPath p
    EachInNode (Trees.decay p) = EachInPath p
    EachInNode (Trees.convert e written) = Each e
    EachInNode (Trees.unary op x) = Each x
    EachInNode (Trees.binary op x y) = Each x × Each y
    EachInNode (Trees.compare op x y) = Each x × Each y
    EachInNode (Trees.pointer_add op x y) = Each x × Each y
    EachInNode (Trees.pointer_difference x y) = Each x × Each y
    EachInNode (Trees.both x y) = Each x × Each y
    EachInNode (Trees.either x y) = Each x × Each y
    EachInNode (Trees.not x) = Each x
    EachInNode (Trees.choose x y z) = Each x × Each y × Each z
    EachInNode (Trees.comma x y) = Each x × Each y
    EachInNode (Trees.assign p x) = EachInPath p × Each x
    EachInNode (Trees.assign_op op p x) = EachInPath p × Each x
    EachInNode (Trees.step op before p) = EachInPath p
    EachInNode (Trees.copy_record to from) = EachInPath to × EachInPath from
    EachInNode (Trees.call f all) = EachOfAll all
    EachInNode (Trees.call_through e all) = Each e × EachOfAll all
    EachInNode (Trees.library which all) = EachOfAll all
    EachInNode (Trees.allocate r count zeroed) = EachInCount count

    pub EachInPath : Path → Type 0
    EachInPath (Trees.path t at step) = EachInStep step × P t.ty

    pub EachInStep : PathNode → Type 0
    EachInStep (Trees.local n) = Unit {0}
    EachInStep (Trees.object n) = Unit {0}
    EachInStep (Trees.deref e) = Each e
    EachInStep (Trees.index e i) = Each e × Each i
    EachInStep (Trees.member p r k) = EachInPath p
    EachInStep (Trees.element p i) = EachInPath p × Each i

    pub EachOfAll : Trees.Expressions Noted → Type 0
    EachOfAll Trees.no_expressions = Unit {0}
    EachOfAll (Trees.and_expression e more) = Each e × EachOfAll more

    pub EachInCount : Trees.OptionalExpression Noted → Type 0
    EachInCount Trees.no_expression = Unit {0}
    EachInCount (Trees.some_expression e) = Each e

  abbrev pub EachInValue : Trees.PartValue Noted → Type 0
  EachInValue (Trees.value e) = Each e
  EachInValue (Trees.record_of p) = EachInPath p
  EachInValue (Trees.text bytes) = Unit {0}

  abbrev pub EachInParts : List (Trees.Part Noted) → Type 0
  EachInParts [] = Unit {0}
  EachInParts (part ∷ more) = EachInValue part.value × EachInParts more

  abbrev pub EachInInitializer : Trees.Initializer Noted → Type 0
  EachInInitializer (Trees.whole e) = Each e
  EachInInitializer (Trees.whole_record p) = EachInPath p
  EachInInitializer (Trees.parts all) = EachInParts all

  abbrev pub EachInInitial : Option (Trees.Initializer Noted) → Type 0
  EachInInitial None = Unit {0}
  EachInInitial (Some i) = EachInInitializer i

  abbrev pub EachIfAny : Option Expression → Type 0
  EachIfAny None = Unit {0}
  EachIfAny (Some e) = Each e

  abbrev mutual
    pub EachInStatement : Trees.Statement Noted → Type 0
    EachInStatement (Trees.evaluate e) = Each e
    EachInStatement (Trees.block locals all) = EachInStatements all
    EachInStatement (Trees.declare n initial) = EachInInitial initial
    EachInStatement (Trees.when e one) = Each e × EachInStatement one
    EachInStatement (Trees.when_else e one other) = Each e × EachInStatement one × EachInStatement other
    EachInStatement (Trees.while e body) = Each e × EachInStatement body
    EachInStatement (Trees.do_while body e) = EachInStatement body × Each e
    EachInStatement (Trees.for locals start test step body) = EachInStatements start × EachIfAny test × EachIfAny step × EachInStatement body
    EachInStatement (Trees.switch e locals arms) = Each e × EachInArms arms
    EachInStatement Trees.break = Unit {0}
    EachInStatement Trees.continue = Unit {0}
    EachInStatement (Trees.return e) = EachIfAny e

    pub EachInStatements : Trees.Statements Noted → Type 0
    EachInStatements Trees.no_statements = Unit {0}
    EachInStatements (Trees.and_statement s more) = EachInStatement s × EachInStatements more

    pub EachInArms : Trees.Arms Noted → Type 0
    EachInArms Trees.no_arms = Unit {0}
    EachInArms (Trees.and_arm cases is_default all more) = EachInStatements all × EachInArms more

  -- ---- the list of all types

  abbrev pub Listed : List Noted → Type 0
  Listed all = AllByRecursion (λ (t : Noted). P t.ty) all

  joined : (xs ys : List Noted) → Listed xs → Listed ys → Listed (xs ++ ys)
  joined [] ys h k = k
  joined (x ∷ xs) ys h k = (h.0, joined xs ys h.1 k)

  mutual
    pub listed : (e : Expression) → Each e → Listed (types_in e)
    listed (Trees.expression t at node) h = joined (types_in_node node) (t ∷ []) (listed_in_node node h.0) (h.1, tt)

    listed_in_node : (node : Node) → EachInNode node → Listed (types_in_node node)
    listed_in_node (Trees.constant v) h = tt
    listed_in_node Trees.null h = tt
    listed_in_node (Trees.function_name f) h = tt
    listed_in_node (Trees.load p) h = listed_in_path p h
    listed_in_node (Trees.address_of p) h = listed_in_path p h
    listed_in_node (Trees.decay p) h = listed_in_path p h
    listed_in_node (Trees.convert e written) h = listed e h
    listed_in_node (Trees.unary op x) h = listed x h
    listed_in_node (Trees.binary op x y) h = joined (types_in x) (types_in y) (listed x h.0) (listed y h.1)
    listed_in_node (Trees.compare op x y) h = joined (types_in x) (types_in y) (listed x h.0) (listed y h.1)
    listed_in_node (Trees.pointer_add op x y) h = joined (types_in x) (types_in y) (listed x h.0) (listed y h.1)
    listed_in_node (Trees.pointer_difference x y) h = joined (types_in x) (types_in y) (listed x h.0) (listed y h.1)
    listed_in_node (Trees.both x y) h = joined (types_in x) (types_in y) (listed x h.0) (listed y h.1)
    listed_in_node (Trees.either x y) h = joined (types_in x) (types_in y) (listed x h.0) (listed y h.1)
    listed_in_node (Trees.not x) h = listed x h
    listed_in_node (Trees.choose x y z) h = joined (types_in x ++ types_in y) (types_in z) (joined (types_in x) (types_in y) (listed x h.0) (listed y h.1)) (listed z h.2)
    listed_in_node (Trees.comma x y) h = joined (types_in x) (types_in y) (listed x h.0) (listed y h.1)
    listed_in_node (Trees.assign p x) h = joined (types_in_path p) (types_in x) (listed_in_path p h.0) (listed x h.1)
    listed_in_node (Trees.assign_op op p x) h = joined (types_in_path p) (types_in x) (listed_in_path p h.0) (listed x h.1)
    listed_in_node (Trees.step op before p) h = listed_in_path p h
    listed_in_node (Trees.copy_record to from) h = joined (types_in_path to) (types_in_path from) (listed_in_path to h.0) (listed_in_path from h.1)
    listed_in_node (Trees.call f all) h = listed_of_all all h
    listed_in_node (Trees.call_through e all) h = joined (types_in e) (types_in_all all) (listed e h.0) (listed_of_all all h.1)
    listed_in_node (Trees.library which all) h = listed_of_all all h
    listed_in_node (Trees.allocate r count zeroed) h = listed_in_count count h

    listed_in_path : (p : Path) → EachInPath p → Listed (types_in_path p)
    listed_in_path (Trees.path t at step) h = joined (types_in_step step) (t ∷ []) (listed_in_step step h.0) (h.1, tt)

    listed_in_step : (step : PathNode) → EachInStep step → Listed (types_in_step step)
    listed_in_step (Trees.local n) h = tt
    listed_in_step (Trees.object n) h = tt
    listed_in_step (Trees.deref e) h = listed e h
    listed_in_step (Trees.index e i) h = joined (types_in e) (types_in i) (listed e h.0) (listed i h.1)
    listed_in_step (Trees.member p r k) h = listed_in_path p h
    listed_in_step (Trees.element p i) h = joined (types_in_path p) (types_in i) (listed_in_path p h.0) (listed i h.1)

    listed_of_all : (all : Trees.Expressions Noted) → EachOfAll all → Listed (types_in_all all)
    listed_of_all Trees.no_expressions h = tt
    listed_of_all (Trees.and_expression e more) h = joined (types_in e) (types_in_all more) (listed e h.0) (listed_of_all more h.1)

    listed_in_count : (count : Trees.OptionalExpression Noted) → EachInCount count → Listed (types_in_optional count)
    listed_in_count Trees.no_expression h = tt
    listed_in_count (Trees.some_expression e) h = listed e h

  listed_in_value : (v : Trees.PartValue Noted) → EachInValue v → Listed (types_in_value v)
  listed_in_value (Trees.value e) h = listed e h
  listed_in_value (Trees.record_of p) h = listed_in_path p h
  listed_in_value (Trees.text bytes) h = tt

  listed_in_parts : (all : List (Trees.Part Noted)) → EachInParts all → Listed (flat_map (λ part. types_in_value part.value) all)
  listed_in_parts [] h = tt
  listed_in_parts (part ∷ all) h =
      joined (types_in_value part.value) (flat_map (λ part. types_in_value part.value) all) (listed_in_value part.value h.0) (listed_in_parts all h.1)

  pub listed_in_initializer : (i : Trees.Initializer Noted) → EachInInitializer i → Listed (types_in_initializer i)
  listed_in_initializer (Trees.whole e) h = listed e h
  listed_in_initializer (Trees.whole_record p) h = listed_in_path p h
  listed_in_initializer (Trees.parts all) h = listed_in_parts all h

  listed_in_initial : (i : Option (Trees.Initializer Noted)) → EachInInitial i → Listed (types_in_initial i)
  listed_in_initial None h = tt
  listed_in_initial (Some i) h = listed_in_initializer i h

  listed_if_any : (e : Option Expression) → EachIfAny e → Listed (types_if_any e)
  listed_if_any None h = tt
  listed_if_any (Some e) h = listed e h

  mutual
    pub listed_in_statement : (s : Trees.Statement Noted) → EachInStatement s → Listed (types_in_statement s)
    listed_in_statement (Trees.evaluate e) h = listed e h
    listed_in_statement (Trees.block locals all) h = listed_in_statements all h
    listed_in_statement (Trees.declare n initial) h = listed_in_initial initial h
    listed_in_statement (Trees.when e one) h = joined (types_in e) (types_in_statement one) (listed e h.0) (listed_in_statement one h.1)
    listed_in_statement (Trees.when_else e one other) h =
        joined (types_in e ++ types_in_statement one) (types_in_statement other)
        (joined (types_in e) (types_in_statement one) (listed e h.0) (listed_in_statement one h.1)) (listed_in_statement other h.2)
    listed_in_statement (Trees.while e body) h = joined (types_in e) (types_in_statement body) (listed e h.0) (listed_in_statement body h.1)
    listed_in_statement (Trees.do_while body e) h = joined (types_in_statement body) (types_in e) (listed_in_statement body h.0) (listed e h.1)
    listed_in_statement (Trees.for locals start test step body) h =
        joined (types_in_statements start ++ types_if_any test ++ types_if_any step) (types_in_statement body)
        (joined (types_in_statements start ++ types_if_any test) (types_if_any step)
        (joined (types_in_statements start) (types_if_any test) (listed_in_statements start h.0) (listed_if_any test h.1)) (listed_if_any step h.2))
        (listed_in_statement body h.3)
    listed_in_statement (Trees.switch e locals arms) h = joined (types_in e) (types_in_arms arms) (listed e h.0) (listed_in_arms arms h.1)
    listed_in_statement Trees.break h = tt
    listed_in_statement Trees.continue h = tt
    listed_in_statement (Trees.return e) h = listed_if_any e h

    listed_in_statements : (all : Trees.Statements Noted) → EachInStatements all → Listed (types_in_statements all)
    listed_in_statements Trees.no_statements h = tt
    listed_in_statements (Trees.and_statement s more) h =
        joined (types_in_statement s) (types_in_statements more) (listed_in_statement s h.0) (listed_in_statements more h.1)

    listed_in_arms : (arms : Trees.Arms Noted) → EachInArms arms → Listed (types_in_arms arms)
    listed_in_arms Trees.no_arms h = tt
    listed_in_arms (Trees.and_arm cases is_default all more) h =
        joined (types_in_statements all) (types_in_arms more) (listed_in_statements all h.0) (listed_in_arms more h.1)

  -- ---- allocations and null pointers recognised

  module _ (unsigned : P (integer UInt)) where
    unless_noted_each : (n : Note) (e whole : Expression) → Each e → Each whole → Each (unless_noted n e whole)
    unless_noted_each nothing e whole h k = h
    unless_noted_each (size_of t at) e whole h k = k

    unconverted_each : (e : Expression) → Each e → Each (unconverted e)
    unconverted_each (Trees.expression t at (Trees.convert e false)) h =
        unless_noted_each t.note e (Trees.expression t at (Trees.convert e false)) h.0 h
    unconverted_each (Trees.expression t at (Trees.convert e true)) h = h
    unconverted_each e h = h

    by_same : (b : Bool) (e whole : Expression) → Each e → Each whole → Each (cond b e whole)
    by_same true e whole h k = h
    by_same false e whole h k = k

    unsigned_from : (e : Expression) → Each e → Each (as_unsigned_from e)
    unsigned_from (Trees.expression t at node) h =
        by_same (same_type t.ty (integer UInt)) (Trees.expression t at node)
        (Trees.expression (record { ty = integer UInt; note = nothing }) at (Trees.convert (Trees.expression t at node) false)) h (h, unsigned)

    as_unsigned_each : (e : Expression) → Each e → Each (as_unsigned e)
    as_unsigned_each e h = unsigned_from (unconverted e) (unconverted_each e h)

    abbrev EachOfCount : Option (Trees.OptionalExpression Noted) → Type 0
    EachOfCount None = Unit {0}
    EachOfCount (Some count) = EachInCount count

    abbrev EachOfAllocation : Option (Trees.OptionalExpression Noted × Bool) → Type 0
    EachOfAllocation None = Unit {0}
    EachOfAllocation (Some a) = EachInCount a.0

    by_note : (b : Bool) → EachOfCount (cond b (Some Trees.no_expression) None)
    by_note true = tt
    by_note false = tt

    by_sizes : (a b : Bool) (x y : Expression) → Each x → Each y
        → EachOfCount (cond a (Some (Trees.some_expression (as_unsigned x))) (cond b (Some (Trees.some_expression (as_unsigned y))) None))
    by_sizes true b x y h k = as_unsigned_each x h
    by_sizes false true x y h k = as_unsigned_each y k
    by_sizes false false x y h k = tt

    counted_each : (r : ℕ) (e : Expression) → Each e → EachOfCount (counted r e)
    counted_each r (Trees.expression t at (Trees.constant v)) h = by_note (is_note_of r t.note)
    counted_each r (Trees.expression t at (Trees.binary Multiply x y)) h = by_sizes (is_size r y) (is_size r x) x y h.0.0 h.0.1
    counted_each r (Trees.expression t at (Trees.binary op x y)) h = tt
    counted_each r e h = tt

    allocated_each : (count : Option (Trees.OptionalExpression Noted)) (zeroed : Bool) → EachOfCount count → EachOfAllocation (allocated count zeroed)
    allocated_each None zeroed h = tt
    allocated_each (Some count) zeroed h = h

    by_size : (b : Bool) (x : Expression) → Each x → EachOfAllocation (cond b (Some (Trees.some_expression (as_unsigned x), true)) None)
    by_size true x h = as_unsigned_each x h
    by_size false x h = tt

    allocation_each : (r : ℕ) (e : Expression) → Each e → EachOfAllocation (allocation r e)
    allocation_each r (Trees.expression t at (Trees.library Malloc (Trees.and_expression x Trees.no_expressions))) h =
        allocated_each (counted r (unconverted x)) false (counted_each r (unconverted x) (unconverted_each x h.0.0))
    allocation_each r (Trees.expression t at (Trees.library Calloc (Trees.and_expression x (Trees.and_expression y Trees.no_expressions)))) h =
        by_size (is_size r y) x h.0.0
    allocation_each r (Trees.expression t at (Trees.library which all)) h = tt
    allocation_each r e h = tt

    or_converted_each : (r : ℕ) (a : Option (Trees.OptionalExpression Noted × Bool)) (e : Expression) (written : Bool) → Each e → EachOfAllocation a
        → EachInNode (or_converted r a e written)
    or_converted_each r None e written h k = h
    or_converted_each r (Some a) e written h k = k

    by_null : (b : Bool) (node : Node) → EachInNode node → EachInNode (cond b Trees.null node)
    by_null true node h = tt
    by_null false node h = h

    converted_each : (t : CType) (e : Expression) (written : Bool) → Each e → EachInNode (converted t e written)
    converted_each (pointer (structure r)) e written h =
        by_null (is_null_constant e) (or_converted r (allocation r e) e written) (or_converted_each r (allocation r e) e written h (allocation_each r e h))
    converted_each (pointer t) e written h = by_null (is_null_constant e) (Trees.convert e written) h
    converted_each t e written h = h

    mutual
      pub recognised_each : (e : Expression) → Each e → Each (recognised e)
      recognised_each (Trees.expression t at node) h = (recognised_in_node t node h.0, h.1)

      recognised_in_node : (t : Noted) (node : Node) → EachInNode node → EachInNode (recognised_node t node)
      recognised_in_node t (Trees.constant v) h = h
      recognised_in_node t Trees.null h = h
      recognised_in_node t (Trees.function_name f) h = h
      recognised_in_node t (Trees.load p) h = recognised_in_path p h
      recognised_in_node t (Trees.address_of p) h = recognised_in_path p h
      recognised_in_node t (Trees.decay p) h = recognised_in_path p h
      recognised_in_node t (Trees.convert e written) h = converted_each t.ty (recognised e) written (recognised_each e h)
      recognised_in_node t (Trees.unary op x) h = recognised_each x h
      recognised_in_node t (Trees.binary op x y) h = (recognised_each x h.0, recognised_each y h.1)
      recognised_in_node t (Trees.compare op x y) h = (recognised_each x h.0, recognised_each y h.1)
      recognised_in_node t (Trees.pointer_add op x y) h = (recognised_each x h.0, recognised_each y h.1)
      recognised_in_node t (Trees.pointer_difference x y) h = (recognised_each x h.0, recognised_each y h.1)
      recognised_in_node t (Trees.both x y) h = (recognised_each x h.0, recognised_each y h.1)
      recognised_in_node t (Trees.either x y) h = (recognised_each x h.0, recognised_each y h.1)
      recognised_in_node t (Trees.not x) h = recognised_each x h
      recognised_in_node t (Trees.choose x y z) h = (recognised_each x h.0, recognised_each y h.1, recognised_each z h.2)
      recognised_in_node t (Trees.comma x y) h = (recognised_each x h.0, recognised_each y h.1)
      recognised_in_node t (Trees.assign p x) h = (recognised_in_path p h.0, recognised_each x h.1)
      recognised_in_node t (Trees.assign_op op p x) h = (recognised_in_path p h.0, recognised_each x h.1)
      recognised_in_node t (Trees.step op before p) h = recognised_in_path p h
      recognised_in_node t (Trees.copy_record to from) h = (recognised_in_path to h.0, recognised_in_path from h.1)
      recognised_in_node t (Trees.call f all) h = recognised_of_all all h
      recognised_in_node t (Trees.call_through e all) h = (recognised_each e h.0, recognised_of_all all h.1)
      recognised_in_node t (Trees.library which all) h = recognised_of_all all h
      recognised_in_node t (Trees.allocate r count zeroed) h = recognised_in_count count h

      recognised_in_count : (count : Trees.OptionalExpression Noted) → EachInCount count → EachInCount (recognised_optional count)
      recognised_in_count Trees.no_expression h = h
      recognised_in_count (Trees.some_expression e) h = recognised_each e h

      recognised_in_path : (p : Path) → EachInPath p → EachInPath (recognised_path p)
      recognised_in_path (Trees.path t at step) h = (recognised_in_step step h.0, h.1)

      recognised_in_step : (step : PathNode) → EachInStep step → EachInStep (recognised_step step)
      recognised_in_step (Trees.local n) h = h
      recognised_in_step (Trees.object n) h = h
      recognised_in_step (Trees.deref e) h = recognised_each e h
      recognised_in_step (Trees.index e i) h = (recognised_each e h.0, recognised_each i h.1)
      recognised_in_step (Trees.member p r k) h = recognised_in_path p h
      recognised_in_step (Trees.element p i) h = (recognised_in_path p h.0, recognised_each i h.1)

      recognised_of_all : (all : Trees.Expressions Noted) → EachOfAll all → EachOfAll (recognised_all all)
      recognised_of_all Trees.no_expressions h = h
      recognised_of_all (Trees.and_expression e more) h = (recognised_each e h.0, recognised_of_all more h.1)

    recognised_in_value : (v : Trees.PartValue Noted) → EachInValue v → EachInValue (recognised_value v)
    recognised_in_value (Trees.value e) h = recognised_each e h
    recognised_in_value (Trees.record_of p) h = recognised_in_path p h
    recognised_in_value (Trees.text bytes) h = h

    recognised_in_parts : (all : List (Trees.Part Noted)) → EachInParts all → EachInParts (map recognised_part all)
    recognised_in_parts [] h = h
    recognised_in_parts (part ∷ all) h = (recognised_in_value part.value h.0, recognised_in_parts all h.1)

    pub recognised_in_initializer : (i : Trees.Initializer Noted) → EachInInitializer i → EachInInitializer (recognised_initializer i)
    recognised_in_initializer (Trees.whole e) h = recognised_each e h
    recognised_in_initializer (Trees.whole_record p) h = recognised_in_path p h
    recognised_in_initializer (Trees.parts all) h = recognised_in_parts all h

    recognised_in_initial : (i : Option (Trees.Initializer Noted)) → EachInInitial i → EachInInitial (option_map recognised_initializer i)
    recognised_in_initial None h = h
    recognised_in_initial (Some i) h = recognised_in_initializer i h

    recognised_if_any : (e : Option Expression) → EachIfAny e → EachIfAny (option_map recognised e)
    recognised_if_any None h = h
    recognised_if_any (Some e) h = recognised_each e h

    mutual
      pub recognised_in_statement : (s : Trees.Statement Noted) → EachInStatement s → EachInStatement (recognised_statement s)
      recognised_in_statement (Trees.evaluate e) h = recognised_each e h
      recognised_in_statement (Trees.block locals all) h = recognised_in_statements all h
      recognised_in_statement (Trees.declare n initial) h = recognised_in_initial initial h
      recognised_in_statement (Trees.when e one) h = (recognised_each e h.0, recognised_in_statement one h.1)
      recognised_in_statement (Trees.when_else e one other) h =
          (recognised_each e h.0, recognised_in_statement one h.1, recognised_in_statement other h.2)
      recognised_in_statement (Trees.while e body) h = (recognised_each e h.0, recognised_in_statement body h.1)
      recognised_in_statement (Trees.do_while body e) h = (recognised_in_statement body h.0, recognised_each e h.1)
      recognised_in_statement (Trees.for locals start test step body) h =
          (recognised_in_statements start h.0, recognised_if_any test h.1, recognised_if_any step h.2, recognised_in_statement body h.3)
      recognised_in_statement (Trees.switch e locals arms) h = (recognised_each e h.0, recognised_in_arms arms h.1)
      recognised_in_statement Trees.break h = h
      recognised_in_statement Trees.continue h = h
      recognised_in_statement (Trees.return e) h = recognised_if_any e h

      recognised_in_statements : (all : Trees.Statements Noted) → EachInStatements all → EachInStatements (recognised_statements all)
      recognised_in_statements Trees.no_statements h = h
      recognised_in_statements (Trees.and_statement s more) h = (recognised_in_statement s h.0, recognised_in_statements more h.1)

      recognised_in_arms : (arms : Trees.Arms Noted) → EachInArms arms → EachInArms (recognised_arms arms)
      recognised_in_arms Trees.no_arms h = h
      recognised_in_arms (Trees.and_arm cases is_default all more) h = (recognised_in_statements all h.0, recognised_in_arms more h.1)
