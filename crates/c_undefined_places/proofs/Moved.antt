-- What holds of the places of a typed tree holds of those of the tree with other types and numbers.
use Rattle.std.proofs.Common.{List, [], ◌∷◌, map, Some, None}
use Rattle.std.specs.Prelude.{Option}
use Rattle.std.specs.Option.{option_map}
use Rattle.lay_base.specs.declared.place.Place.{Place}
use Rattle.c_typed.specs.Mapped.{Renaming, mapped, mapped_node, mapped_path, mapped_step, mapped_all, mapped_if_any, mapped_value, mapped_part}
use Rattle.c_typed.specs.Mapped.{mapped_initializer, mapped_statement, mapped_statements, mapped_arms}
use Rattle.c_typed.specs.Trees
use Rattle.c_undefined_places.specs.Placed.{IsPlaced, IsPlacedNode, IsPlacedPath, IsPlacedStep, ArePlaced, IsPlacedCount, IsPlacedValue, ArePlacedParts}
use Rattle.c_undefined_places.specs.Placed.{IsPlacedInitial, IsPlacedIfAny, IsPlacedStatement, ArePlacedStatements, ArePlacedArms}

module _ {T S : Type 0} (m : Renaming T S) (Is : Place → Type 0) where
  mutual
    again : (e : Trees.Expression T) → IsPlaced Is e → IsPlaced Is (mapped m e)
    again (Trees.expression t at node) h = (h.0, node_again node h.1)

    node_again : (node : Trees.Node T) → IsPlacedNode Is node → IsPlacedNode Is (mapped_node m node)
    node_again (Trees.constant v) h = tt
    node_again Trees.null h = tt
    node_again (Trees.function_name f) h = tt
    node_again (Trees.load p) h = path_again p h
    node_again (Trees.address_of p) h = path_again p h
    node_again (Trees.decay p) h = path_again p h
    node_again (Trees.convert e written) h = again e h
    node_again (Trees.unary op x) h = again x h
    node_again (Trees.binary op x y) h = (again x h.0, again y h.1)
    node_again (Trees.compare op x y) h = (again x h.0, again y h.1)
    node_again (Trees.pointer_add op x y) h = (again x h.0, again y h.1)
    node_again (Trees.pointer_difference x y) h = (again x h.0, again y h.1)
    node_again (Trees.both x y) h = (again x h.0, again y h.1)
    node_again (Trees.either x y) h = (again x h.0, again y h.1)
    node_again (Trees.not x) h = again x h
    node_again (Trees.choose x y z) h = (again x h.0, again y h.1, again z h.2)
    node_again (Trees.comma x y) h = (again x h.0, again y h.1)
    node_again (Trees.assign p x) h = (path_again p h.0, again x h.1)
    node_again (Trees.assign_op op p x) h = (path_again p h.0, again x h.1)
    node_again (Trees.step op before p) h = path_again p h
    node_again (Trees.copy_record to from) h = (path_again to h.0, path_again from h.1)
    node_again (Trees.call f all) h = all_again all h
    node_again (Trees.call_through e all) h = (again e h.0, all_again all h.1)
    node_again (Trees.library which all) h = all_again all h
    node_again (Trees.allocate r count zeroed) h = count_again count h

    count_again : (count : Trees.OptionalExpression T) → IsPlacedCount Is count → IsPlacedCount Is (mapped_if_any m count)
    count_again Trees.no_expression h = tt
    count_again (Trees.some_expression e) h = again e h

    all_again : (all : Trees.Expressions T) → ArePlaced Is all → ArePlaced Is (mapped_all m all)
    all_again Trees.no_expressions h = tt
    all_again (Trees.and_expression e more) h = (again e h.0, all_again more h.1)

    path_again : (p : Trees.Path T) → IsPlacedPath Is p → IsPlacedPath Is (mapped_path m p)
    path_again (Trees.path t at step) h = (h.0, step_again step h.1)

    step_again : (step : Trees.PathNode T) → IsPlacedStep Is step → IsPlacedStep Is (mapped_step m step)
    step_again (Trees.local n) h = tt
    step_again (Trees.object n) h = tt
    step_again (Trees.deref e) h = again e h
    step_again (Trees.index e i) h = (again e h.0, again i h.1)
    step_again (Trees.member p r field) h = path_again p h
    step_again (Trees.element p i) h = (path_again p h.0, again i h.1)

  -- ---- initializers and statements

  value_again : (v : Trees.PartValue T) → IsPlacedValue Is v → IsPlacedValue Is (mapped_value m v)
  value_again (Trees.value e) h = again e h
  value_again (Trees.record_of p) h = path_again p h
  value_again (Trees.text bytes) h = tt

  parts_again : (all : List (Trees.Part T)) → ArePlacedParts Is all → ArePlacedParts Is (map (mapped_part m) all)
  parts_again [] h = tt
  parts_again (part ∷ all) h = (value_again part.value h.0, parts_again all h.1)

  pub initial_again : (i : Option (Trees.Initializer T)) → IsPlacedInitial Is i → IsPlacedInitial Is (option_map (mapped_initializer m) i)
  initial_again None h = tt
  initial_again (Some (Trees.whole e)) h = again e h
  initial_again (Some (Trees.whole_record p)) h = path_again p h
  initial_again (Some (Trees.parts all)) h = parts_again all h

  if_any_again : (e : Option (Trees.Expression T)) → IsPlacedIfAny Is e → IsPlacedIfAny Is (option_map (mapped m) e)
  if_any_again None h = tt
  if_any_again (Some e) h = again e h

  mutual
    pub statement_again : (st : Trees.Statement T) → IsPlacedStatement Is st → IsPlacedStatement Is (mapped_statement m st)
    statement_again (Trees.evaluate e) h = again e h
    statement_again (Trees.block locals all) h = statements_again all h
    statement_again (Trees.declare n i) h = initial_again i h
    statement_again (Trees.when e one) h = (again e h.0, statement_again one h.1)
    statement_again (Trees.when_else e one other) h = (again e h.0, statement_again one h.1, statement_again other h.2)
    statement_again (Trees.while e body) h = (again e h.0, statement_again body h.1)
    statement_again (Trees.do_while body e) h = (statement_again body h.0, again e h.1)
    statement_again (Trees.for locals start test step body) h =
        (statements_again start h.0, if_any_again test h.1, if_any_again step h.2, statement_again body h.3)
    statement_again (Trees.switch e locals arms) h = (again e h.0, arms_again arms h.1)
    statement_again Trees.break h = tt
    statement_again Trees.continue h = tt
    statement_again (Trees.return e) h = if_any_again e h

    statements_again : (all : Trees.Statements T) → ArePlacedStatements Is all → ArePlacedStatements Is (mapped_statements m all)
    statements_again Trees.no_statements h = tt
    statements_again (Trees.and_statement s more) h = (statement_again s h.0, statements_again more h.1)

    arms_again : (arms : Trees.Arms T) → ArePlacedArms Is arms → ArePlacedArms Is (mapped_arms m arms)
    arms_again Trees.no_arms h = tt
    arms_again (Trees.and_arm cases is_default all more) h = (statements_again all h.0, arms_again more h.1)
