-- What holds of the type at each node of a tree, where more follows from less.
use Rattle.std.proofs.Common.{List, [], ◌∷◌}
use Rattle.std.specs.Prelude.{Option, Some, None}
use Rattle.c_types.specs.Types.{CType}
use Rattle.c_typed.specs.Trees as Trees
use Rattle.c_erasure.specs.Noted.{Noted, Expression, Path, Node, PathNode}
use Rattle.c_checking_units.proofs.TypeLimits.Trees.{Each, EachInNode, EachInPath, EachInStep, EachOfAll, EachInCount, EachInValue, EachInParts}
use Rattle.c_checking_units.proofs.TypeLimits.Trees.{EachInInitializer}
use Rattle.c_checking_units.proofs.TypeLimits.Trees.{EachInInitial, EachIfAny, EachInStatement, EachInStatements, EachInArms}

module _ (P Q : CType → Type 0) (f : (t : CType) → P t → Q t) where
  mutual
    pub each_more : (e : Expression) → Each P e → Each Q e
    each_more (Trees.expression t at node) h = (node_more node h.0, f t.ty h.1)

    pub node_more : (node : Node) → EachInNode P node → EachInNode Q node
    node_more (Trees.constant v) h = h
    node_more Trees.null h = h
    node_more (Trees.function_name g) h = h
    node_more (Trees.load p) h = path_more p h
    node_more (Trees.address_of p) h = path_more p h
    node_more (Trees.decay p) h = path_more p h
    node_more (Trees.convert e written) h = each_more e h
    node_more (Trees.unary op x) h = each_more x h
    node_more (Trees.binary op x y) h = (each_more x h.0, each_more y h.1)
    node_more (Trees.compare op x y) h = (each_more x h.0, each_more y h.1)
    node_more (Trees.pointer_add op x y) h = (each_more x h.0, each_more y h.1)
    node_more (Trees.pointer_difference x y) h = (each_more x h.0, each_more y h.1)
    node_more (Trees.both x y) h = (each_more x h.0, each_more y h.1)
    node_more (Trees.either x y) h = (each_more x h.0, each_more y h.1)
    node_more (Trees.not x) h = each_more x h
    node_more (Trees.choose x y z) h = (each_more x h.0, each_more y h.1, each_more z h.2)
    node_more (Trees.comma x y) h = (each_more x h.0, each_more y h.1)
    node_more (Trees.assign p x) h = (path_more p h.0, each_more x h.1)
    node_more (Trees.assign_op op p x) h = (path_more p h.0, each_more x h.1)
    node_more (Trees.step op before p) h = path_more p h
    node_more (Trees.copy_record to from) h = (path_more to h.0, path_more from h.1)
    node_more (Trees.call g all) h = all_more all h
    node_more (Trees.call_through e all) h = (each_more e h.0, all_more all h.1)
    node_more (Trees.library which all) h = all_more all h
    node_more (Trees.allocate r count zeroed) h = count_more count h

    pub path_more : (p : Path) → EachInPath P p → EachInPath Q p
    path_more (Trees.path t at step) h = (step_more step h.0, f t.ty h.1)

    step_more : (step : PathNode) → EachInStep P step → EachInStep Q step
    step_more (Trees.local n) h = h
    step_more (Trees.object n) h = h
    step_more (Trees.deref e) h = each_more e h
    step_more (Trees.index e i) h = (each_more e h.0, each_more i h.1)
    step_more (Trees.member p r k) h = path_more p h
    step_more (Trees.element p i) h = (path_more p h.0, each_more i h.1)

    pub all_more : (all : Trees.Expressions Noted) → EachOfAll P all → EachOfAll Q all
    all_more Trees.no_expressions h = h
    all_more (Trees.and_expression e more) h = (each_more e h.0, all_more more h.1)

    count_more : (count : Trees.OptionalExpression Noted) → EachInCount P count → EachInCount Q count
    count_more Trees.no_expression h = h
    count_more (Trees.some_expression e) h = each_more e h

  value_more : (v : Trees.PartValue Noted) → EachInValue P v → EachInValue Q v
  value_more (Trees.value e) h = each_more e h
  value_more (Trees.record_of p) h = path_more p h
  value_more (Trees.text bytes) h = h

  pub parts_more : (all : List (Trees.Part Noted)) → EachInParts P all → EachInParts Q all
  parts_more [] h = h
  parts_more (part ∷ all) h = (value_more part.value h.0, parts_more all h.1)

  pub initializer_more : (i : Trees.Initializer Noted) → EachInInitializer P i → EachInInitializer Q i
  initializer_more (Trees.whole e) h = each_more e h
  initializer_more (Trees.whole_record p) h = path_more p h
  initializer_more (Trees.parts all) h = parts_more all h

  pub initial_more : (i : Option (Trees.Initializer Noted)) → EachInInitial P i → EachInInitial Q i
  initial_more None h = h
  initial_more (Some i) h = initializer_more i h

  pub if_any_more : (e : Option Expression) → EachIfAny P e → EachIfAny Q e
  if_any_more None h = h
  if_any_more (Some e) h = each_more e h

  mutual
    pub statement_more : (s : Trees.Statement Noted) → EachInStatement P s → EachInStatement Q s
    statement_more (Trees.evaluate e) h = each_more e h
    statement_more (Trees.block locals all) h = statements_more all h
    statement_more (Trees.declare n initial) h = initial_more initial h
    statement_more (Trees.when e one) h = (each_more e h.0, statement_more one h.1)
    statement_more (Trees.when_else e one other) h = (each_more e h.0, statement_more one h.1, statement_more other h.2)
    statement_more (Trees.while e body) h = (each_more e h.0, statement_more body h.1)
    statement_more (Trees.do_while body e) h = (statement_more body h.0, each_more e h.1)
    statement_more (Trees.for locals start test step body) h =
        (statements_more start h.0, if_any_more test h.1, if_any_more step h.2, statement_more body h.3)
    statement_more (Trees.switch e locals arms) h = (each_more e h.0, arms_more arms h.1)
    statement_more Trees.break h = h
    statement_more Trees.continue h = h
    statement_more (Trees.return e) h = if_any_more e h

    pub statements_more : (all : Trees.Statements Noted) → EachInStatements P all → EachInStatements Q all
    statements_more Trees.no_statements h = h
    statements_more (Trees.and_statement s more) h = (statement_more s h.0, statements_more more h.1)

    pub arms_more : (arms : Trees.Arms Noted) → EachInArms P arms → EachInArms Q arms
    arms_more Trees.no_arms h = h
    arms_more (Trees.and_arm cases is_default all more) h = (statements_more all h.0, arms_more more h.1)
