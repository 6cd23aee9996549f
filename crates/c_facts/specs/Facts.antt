-- What the body of a function says of types and fields, in the order of its text.
use Rattle.std.specs.Prelude.{ℕ, Bool, true, false, ◌&&◌, if◌then◌else◌, List, [], ◌∷◌, ◌++◌, flat_map, Option, Some, None}
use Rattle.lay_base.specs.declared.place.Place.{Place}
use Rattle.c_typed.specs.declared.operators.LibraryFunction.{LibraryFunction}
use Rattle.c_typed.specs.Trees as T
use Rattle.c_typed.specs.Trees.{Expression, Path, Node, PathNode, Expressions, OptionalExpression, Initializer, PartValue, Statement, Statements, Arms}
use Rattle.c_typed.specs.Typed.{path_ty}
use Rattle.c_facts.specs.declared.contexts.Context.{Context}
use Rattle.c_facts.specs.declared.contexts.Context.TheVariants.{Plain, Argument}
use Rattle.c_facts.specs.declared.fact.Fact.{Fact}
use Rattle.c_facts.specs.declared.fact.Fact.TheVariants as F
use Rattle.c_facts.specs.Contexts.{is_free, is_made, is_making, is_null_test, is_object, is_permitted, is_variable, passes, permitted_if}
use Rattle.c_facts.specs.Fields.{site, taken}

-- ---- conversions (C99 6.3.2.3, 6.5.4)

-- a null pointer points to no record, whatever it is converted to
abbrev pub converted : (to : ℕ) → Expression ℕ → List Fact
converted to (T.expression t at T.null) = []
converted to (T.expression t at node) = F.Converted t to at ∷ []

-- what a conversion says of its operand, that is passed to a function of the library or to none
abbrev pub of_conversion : Option LibraryFunction → (to : ℕ) → Expression ℕ → List Fact
of_conversion None to e = converted to e
of_conversion (Some which) to (T.expression t at node) = F.Passed which t at ∷ []

-- ---- expressions (6.5) and paths

abbrev mutual
  pub facts_by_expression : Context → Expression ℕ → List Fact
  facts_by_expression context (T.expression t at node) = (if is_permitted context then [] else F.Value t ∷ []) ++ facts_by_node context t at node

  pub facts_by_node : Context → ℕ → Place → Node ℕ → List Fact
  facts_by_node context t at (T.constant v) = []
  facts_by_node context t at T.null = []
  -- what is called by its name is no expression here
  facts_by_node context t at (T.function_name f) = F.Function t at ∷ []
  facts_by_node context t at (T.load p) = site true p ++ facts_by_path false p
  -- the operand of `&` is no value, but it is an expression (6.5.3.2)
  facts_by_node context t at (T.address_of p) = F.Value (path_ty p) ∷ taken p ++ site false p ++ facts_by_path false p
  facts_by_node context t at (T.decay p) = taken p ++ site false p ++ facts_by_path false p
  facts_by_node context t at (T.convert e written) =
      of_conversion (passes context written) t e ++ facts_by_expression (permitted_if (is_free (passes context written) && is_variable e)) e
  facts_by_node context t at (T.unary op x) = facts_by_expression Plain x
  facts_by_node context t at (T.binary op x y) = facts_by_expression Plain x ++ facts_by_expression Plain y
  facts_by_node context t at (T.compare op x y) =
      facts_by_expression (permitted_if (is_null_test op x y)) x ++ facts_by_expression (permitted_if (is_null_test op x y)) y
  facts_by_node context t at (T.pointer_add op x y) = facts_by_expression Plain x ++ facts_by_expression Plain y
  facts_by_node context t at (T.pointer_difference x y) = facts_by_expression Plain x ++ facts_by_expression Plain y
  facts_by_node context t at (T.both x y) = facts_by_expression (permitted_if (is_variable x)) x ++ facts_by_expression (permitted_if (is_variable y)) y
  facts_by_node context t at (T.either x y) = facts_by_expression (permitted_if (is_variable x)) x ++ facts_by_expression (permitted_if (is_variable y)) y
  facts_by_node context t at (T.not x) = facts_by_expression (permitted_if (is_variable x)) x
  facts_by_node context t at (T.choose x y z) =
      facts_by_expression (permitted_if (is_variable x)) x ++ facts_by_expression Plain y ++ facts_by_expression Plain z
  facts_by_node context t at (T.comma x y) = facts_by_expression (permitted_if (is_making x)) x ++ facts_by_expression Plain y
  facts_by_node context t at (T.assign p x) =
      site false p ++ facts_by_path false p ++ facts_by_expression (permitted_if (is_object p && is_made x)) x
  -- what is updated is loaded first, by one access (6.5.16.2, 6.5.2.4)
  facts_by_node context t at (T.assign_op op p x) = site true p ++ facts_by_path false p ++ facts_by_expression Plain x
  facts_by_node context t at (T.step op before p) = site true p ++ facts_by_path false p
  facts_by_node context t at (T.copy_record to from) =
      F.Copied (path_ty to) at ∷ site false to ++ facts_by_path false to ++ site true from ++ facts_by_path false from
  facts_by_node context t at (T.call f all) = facts_by_all Plain all
  facts_by_node context t at (T.call_through e all) = facts_by_expression Plain e ++ facts_by_all Plain all
  facts_by_node context t at (T.library which all) = facts_by_all (Argument which) all
  facts_by_node context t at (T.allocate r count zeroed) = facts_by_optional count

  -- of the parts of a path, and whether a field is taken of it
  pub facts_by_path : (under : Bool) → Path ℕ → List Fact
  facts_by_path under (T.path t at step) = facts_by_step under step

  pub facts_by_step : (under : Bool) → PathNode ℕ → List Fact
  facts_by_step under (T.local n) = []
  facts_by_step under (T.object n) = []
  facts_by_step under (T.deref e) = facts_by_expression Plain e
  facts_by_step under (T.index e i) = facts_by_expression (permitted_if (under && is_variable e)) e ++ facts_by_expression Plain i
  facts_by_step under (T.member p r field) = facts_by_path true p
  facts_by_step under (T.element p i) = facts_by_path false p ++ facts_by_expression Plain i

  pub facts_by_all : Context → Expressions ℕ → List Fact
  facts_by_all context T.no_expressions = []
  facts_by_all context (T.and_expression e more) = facts_by_expression context e ++ facts_by_all context more

  pub facts_by_optional : OptionalExpression ℕ → List Fact
  facts_by_optional T.no_expression = []
  facts_by_optional (T.some_expression e) = facts_by_expression Plain e

-- ---- initializers of locals (6.7.8)

-- a record from which one is initialized
abbrev pub read_whole : Path ℕ → List Fact
read_whole p = site true p ++ facts_by_path false p

abbrev pub facts_by_value : PartValue ℕ → List Fact
facts_by_value (T.value e) = facts_by_expression Plain e
facts_by_value (T.record_of p) = read_whole p
facts_by_value (T.text bytes) = []

abbrev pub facts_by_initial : Option (Initializer ℕ) → List Fact
facts_by_initial None = []
facts_by_initial (Some (T.whole e)) = facts_by_expression Plain e
facts_by_initial (Some (T.whole_record p)) = read_whole p
facts_by_initial (Some (T.parts all)) = flat_map (λ part. facts_by_value part.value) all

-- ---- statements (6.8)

-- an expression whose value is not used (6.8.3)
abbrev pub effect : Expression ℕ → List Fact
effect e = facts_by_expression (permitted_if (is_making e)) e

-- one that is compared with zero (6.8.4, 6.8.5)
abbrev pub tested : Expression ℕ → List Fact
tested e = facts_by_expression (permitted_if (is_variable e)) e

abbrev pub if_any : (Expression ℕ → List Fact) → Option (Expression ℕ) → List Fact
if_any f None = []
if_any f (Some e) = f e

abbrev mutual
  pub facts_by_statement : Statement ℕ → List Fact
  facts_by_statement (T.evaluate e) = effect e
  facts_by_statement (T.block locals all) = facts_by_statements all
  facts_by_statement (T.declare n initial) = facts_by_initial initial
  facts_by_statement (T.when e one) = tested e ++ facts_by_statement one
  facts_by_statement (T.when_else e one other) = tested e ++ facts_by_statement one ++ facts_by_statement other
  facts_by_statement (T.while e body) = F.LoopBegins ∷ tested e ++ facts_by_statement body ++ F.LoopEnds ∷ []
  facts_by_statement (T.do_while body e) = F.LoopBegins ∷ facts_by_statement body ++ tested e ++ F.LoopEnds ∷ []
  -- what comes before the first test is no part of the loop
  facts_by_statement (T.for locals start test step body) = facts_by_statements start
      ++ F.LoopBegins ∷ if_any tested test ++ if_any effect step ++ facts_by_statement body ++ F.LoopEnds ∷ []
  facts_by_statement (T.switch e locals arms) = facts_by_expression Plain e ++ facts_by_arms arms
  facts_by_statement T.break = []
  facts_by_statement T.continue = []
  facts_by_statement (T.return e) = if_any (facts_by_expression Plain) e

  pub facts_by_statements : Statements ℕ → List Fact
  facts_by_statements T.no_statements = []
  facts_by_statements (T.and_statement s more) = facts_by_statement s ++ facts_by_statements more

  pub facts_by_arms : Arms ℕ → List Fact
  facts_by_arms T.no_arms = []
  facts_by_arms (T.and_arm cases is_default all more) = facts_by_statements all ++ facts_by_arms more
