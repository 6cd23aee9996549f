-- Where each place in a typed statement is so, the places of the facts that it says are.
use Rattle.std.proofs.Common.{ℕ, Bool, true, false, List, [], ◌∷◌, ◌++◌, Some, None}
use Rattle.std.specs.Prelude.{Option, flat_map, if◌then◌else◌}
use Rattle.std.specs.List.{AllByRecursion}
use Rattle.lay_base.specs.declared.place.Place.{Place}
use Rattle.c_typed.specs.declared.operators.LibraryFunction.{LibraryFunction}
use Rattle.c_typed.specs.Trees as T
use Rattle.c_typed.specs.Trees.{Arms, Expression, Expressions, Initializer, Node, OptionalExpression, Part, PartValue, Path, PathNode, Statement, Statements}
use Rattle.c_facts.specs.declared.contexts.Context.{Context}
use Rattle.c_facts.specs.declared.fact.Fact.{Fact}
use Rattle.c_facts.specs.declared.fact.Fact.TheVariants as F
use Rattle.c_facts.specs.Contexts.{is_permitted, passes}
use Rattle.c_facts.specs.Facts.{converted, of_conversion, facts_by_all, facts_by_arms, facts_by_expression, facts_by_initial, facts_by_node, facts_by_optional}
use Rattle.c_facts.specs.Facts.{facts_by_path, facts_by_statement, facts_by_statements, facts_by_step, facts_by_value, if_any, tested, effect}
use Rattle.c_facts.specs.Fields.{site, taken}
use Rattle.c_well_typed.proofs.GapPlaces.Everywhere.{both}
use Rattle.c_undefined_places.specs.Placed.{IsPlaced, IsPlacedNode, IsPlacedPath, IsPlacedStep, ArePlaced, IsPlacedCount, IsPlacedValue, ArePlacedParts}
use Rattle.c_undefined_places.specs.Placed.{IsPlacedInitial, IsPlacedIfAny, IsPlacedStatement, ArePlacedStatements, ArePlacedArms}
use Rattle.c_undefined_places.specs.Verdicts.{IsPlacedFact}

module _ (Is : Place → Type 0) where
  pub record Have (all : List Fact) : Type 0 where
    pub each : AllByRecursion (IsPlacedFact Is) all

  none : Have []
  none = record { each = tt }

  pub and : {a b : List Fact} → Have a → Have b → Have (a ++ b)
  and {a} {b} p q = record { each = both (IsPlacedFact Is) a b p.each q.each }

  pub first : {a : List Fact} (fact : Fact) → IsPlacedFact Is fact → Have a → Have (fact ∷ a)
  first fact h p = record { each = (h, p.each) }

  -- ---- expressions

  unless : (c : Bool) (t : ℕ) → Have (if c then [] else F.Value t ∷ [])
  unless true t = none
  unless false t = record { each = (tt, tt) }

  by_site : (is_read : Bool) (p : Path ℕ) → Have (site is_read p)
  by_site is_read (T.path t at (T.member p r field)) = record { each = (tt, tt) }
  by_site is_read (T.path t at (T.element p i)) = by_site is_read p
  by_site is_read p = none

  by_taken : (p : Path ℕ) → IsPlacedPath Is p → Have (taken p)
  by_taken (T.path t at (T.member p r field)) h = first (F.Taken r at) h.0 (by_taken p h.1)
  by_taken (T.path t at (T.element p i)) h = by_taken p h.1.0
  by_taken p h = none

  by_converted : (to : ℕ) (e : Expression ℕ) → IsPlaced Is e → Have (converted to e)
  by_converted to (T.expression t at T.null) h = none
  by_converted to (T.expression t at node) h = record { each = (h.0, tt) }

  by_conversion : (which : Option LibraryFunction) (to : ℕ) (e : Expression ℕ) → IsPlaced Is e → Have (of_conversion which to e)
  by_conversion None to e h = by_converted to e h
  by_conversion (Some which) to (T.expression t at node) h = record { each = (h.0, tt) }

  mutual
    by_expression : (context : Context) (e : Expression ℕ) → IsPlaced Is e → Have (facts_by_expression context e)
    by_expression context (T.expression t at node) h = and (unless (is_permitted context) t) (by_node context t at node h.0 h.1)

    by_node : (context : Context) (t : ℕ) (at : Place) (node : Node ℕ) → Is at → IsPlacedNode Is node → Have (facts_by_node context t at node)
    by_node context t at (T.constant v) p h = none
    by_node context t at T.null p h = none
    by_node context t at (T.function_name f) p h = record { each = (p, tt) }
    by_node context t at (T.load q) p h = and (by_site true q) (by_path false q h)
    by_node context t at (T.address_of q) p h = first _ tt (and (and (by_taken q h) (by_site false q)) (by_path false q h))
    by_node context t at (T.decay q) p h = and (and (by_taken q h) (by_site false q)) (by_path false q h)
    by_node context t at (T.convert e written) p h = and (by_conversion (passes context written) t e h) (by_expression _ e h)
    by_node context t at (T.unary op x) p h = by_expression _ x h
    by_node context t at (T.binary op x y) p h = and (by_expression _ x h.0) (by_expression _ y h.1)
    by_node context t at (T.compare op x y) p h = and (by_expression _ x h.0) (by_expression _ y h.1)
    by_node context t at (T.pointer_add op x y) p h = and (by_expression _ x h.0) (by_expression _ y h.1)
    by_node context t at (T.pointer_difference x y) p h = and (by_expression _ x h.0) (by_expression _ y h.1)
    by_node context t at (T.both x y) p h = and (by_expression _ x h.0) (by_expression _ y h.1)
    by_node context t at (T.either x y) p h = and (by_expression _ x h.0) (by_expression _ y h.1)
    by_node context t at (T.not x) p h = by_expression _ x h
    by_node context t at (T.choose x y z) p h = and (and (by_expression _ x h.0) (by_expression _ y h.1)) (by_expression _ z h.2)
    by_node context t at (T.comma x y) p h = and (by_expression _ x h.0) (by_expression _ y h.1)
    by_node context t at (T.assign q x) p h = and (and (by_site false q) (by_path false q h.0)) (by_expression _ x h.1)
    by_node context t at (T.assign_op op q x) p h = and (and (by_site true q) (by_path false q h.0)) (by_expression _ x h.1)
    by_node context t at (T.step op before q) p h = and (by_site true q) (by_path false q h)
    by_node context t at (T.copy_record to from) p h =
        first _ p (and (and (and (by_site false to) (by_path false to h.0)) (by_site true from)) (by_path false from h.1))
    by_node context t at (T.call f all) p h = by_all _ all h
    by_node context t at (T.call_through e all) p h = and (by_expression _ e h.0) (by_all _ all h.1)
    by_node context t at (T.library which all) p h = by_all _ all h
    by_node context t at (T.allocate r count zeroed) p h = by_optional count h

    by_path : (under : Bool) (p : Path ℕ) → IsPlacedPath Is p → Have (facts_by_path under p)
    by_path under (T.path t at step) h = by_step under step h.1

    by_step : (under : Bool) (step : PathNode ℕ) → IsPlacedStep Is step → Have (facts_by_step under step)
    by_step under (T.local n) h = none
    by_step under (T.object n) h = none
    by_step under (T.deref e) h = by_expression _ e h
    by_step under (T.index e i) h = and (by_expression _ e h.0) (by_expression _ i h.1)
    by_step under (T.member p r field) h = by_path true p h
    by_step under (T.element p i) h = and (by_path false p h.0) (by_expression _ i h.1)

    by_all : (context : Context) (all : Expressions ℕ) → ArePlaced Is all → Have (facts_by_all context all)
    by_all context T.no_expressions h = none
    by_all context (T.and_expression e more) h = and (by_expression context e h.0) (by_all context more h.1)

    by_optional : (count : OptionalExpression ℕ) → IsPlacedCount Is count → Have (facts_by_optional count)
    by_optional T.no_expression h = none
    by_optional (T.some_expression e) h = by_expression _ e h

  -- ---- initializers and statements

  by_value : (value : PartValue ℕ) → IsPlacedValue Is value → Have (facts_by_value value)
  by_value (T.value e) h = by_expression _ e h
  by_value (T.record_of p) h = and (by_site true p) (by_path false p h)
  by_value (T.text bytes) h = none

  by_parts : (all : List (Part ℕ)) → ArePlacedParts Is all → Have (flat_map (λ part. facts_by_value part.value) all)
  by_parts [] h = none
  by_parts (part ∷ more) h = and (by_value part.value h.0) (by_parts more h.1)

  by_initial : (initial : Option (Initializer ℕ)) → IsPlacedInitial Is initial → Have (facts_by_initial initial)
  by_initial None h = none
  by_initial (Some (T.whole e)) h = by_expression _ e h
  by_initial (Some (T.whole_record p)) h = and (by_site true p) (by_path false p h)
  by_initial (Some (T.parts all)) h = by_parts all h

  by_any : (f : Expression ℕ → List Fact) → ((e : Expression ℕ) → IsPlaced Is e → Have (f e)) → (e : Option (Expression ℕ)) → IsPlacedIfAny Is e
      → Have (if_any f e)
  by_any f g None h = none
  by_any f g (Some e) h = g e h

  by_effect : (e : Expression ℕ) → IsPlaced Is e → Have (effect e)
  by_effect e h = by_expression _ e h

  by_test : (e : Expression ℕ) → IsPlaced Is e → Have (tested e)
  by_test e h = by_expression _ e h

  ends : Have (F.LoopEnds ∷ [])
  ends = record { each = (tt, tt) }

  mutual
    pub by_statement : (s : Statement ℕ) → IsPlacedStatement Is s → Have (facts_by_statement s)
    by_statement (T.evaluate e) h = by_effect e h
    by_statement (T.block locals all) h = by_statements all h
    by_statement (T.declare n initial) h = by_initial initial h
    by_statement (T.when e one) h = and (by_test e h.0) (by_statement one h.1)
    by_statement (T.when_else e one other) h = and (and (by_test e h.0) (by_statement one h.1)) (by_statement other h.2)
    by_statement (T.while e body) h = first F.LoopBegins tt (and (and (by_test e h.0) (by_statement body h.1)) ends)
    by_statement (T.do_while body e) h = first F.LoopBegins tt (and (and (by_statement body h.0) (by_test e h.1)) ends)
    by_statement (T.for locals start test step body) h =
        let opens = first F.LoopBegins tt (by_any tested by_test test h.1) in
        let head = and (and (by_statements start h.0) opens) (by_any effect by_effect step h.2) in
        and (and head (by_statement body h.3)) ends
    by_statement (T.switch e locals arms) h = and (by_expression _ e h.0) (by_arms arms h.1)
    by_statement T.break h = none
    by_statement T.continue h = none
    by_statement (T.return e) h = by_any _ (by_expression _) e h

    by_statements : (all : Statements ℕ) → ArePlacedStatements Is all → Have (facts_by_statements all)
    by_statements T.no_statements h = none
    by_statements (T.and_statement s more) h = and (by_statement s h.0) (by_statements more h.1)

    by_arms : (arms : Arms ℕ) → ArePlacedArms Is arms → Have (facts_by_arms arms)
    by_arms T.no_arms h = none
    by_arms (T.and_arm cases is_default all more) h = and (by_statements all h.0) (by_arms more h.1)
