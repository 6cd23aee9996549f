-- How many numbers of temporaries and loops the code of a function asks for at most: three for each node of an expression or a path, one for each argument,
-- local and loop, and the loops that stand in the start of a `for` once more, since they are counted when its body is made.
use Rattle.std.specs.Prelude.{ℕ, ◌+◌, List, [], ◌∷◌, length, Option, Some, None}
use Rattle.c_typed.specs.Programs.{FunctionData}
use Rattle.c_typed.specs.RunCounts.Loops.{loops_in, loops_in_all}
use Rattle.c_typed.specs.Trees as T
use Rattle.c_typed.specs.Trees.{Expression, expression, Node, Path, path, PathNode, Expressions, OptionalExpression}
use Rattle.c_typed.specs.Trees.{PartValue, Initializer, Statement, Statements, Arms}

abbrev mutual
  pub asked : Expression ℕ → ℕ
  asked (expression t at node) = asked_by_node node + 3

  pub asked_by_node : Node ℕ → ℕ
  asked_by_node (T.load q) = asked_by_path q
  asked_by_node (T.address_of q) = asked_by_path q
  asked_by_node (T.decay q) = asked_by_path q
  asked_by_node (T.convert e written) = asked e
  asked_by_node (T.unary op x) = asked x
  asked_by_node (T.binary op x y) = asked x + asked y
  asked_by_node (T.compare op x y) = asked x + asked y
  asked_by_node (T.pointer_add op x y) = asked x + asked y
  asked_by_node (T.pointer_difference x y) = asked x + asked y
  asked_by_node (T.both x y) = asked x + asked y
  asked_by_node (T.either x y) = asked x + asked y
  asked_by_node (T.not x) = asked x
  asked_by_node (T.choose x y z) = asked x + asked y + asked z
  asked_by_node (T.comma x y) = asked x + asked y
  asked_by_node (T.assign q x) = asked_by_path q + asked x
  asked_by_node (T.assign_op op q x) = asked_by_path q + asked x
  asked_by_node (T.step op before q) = asked_by_path q
  asked_by_node (T.copy_record to from) = asked_by_path to + asked_by_path from
  asked_by_node (T.call f all) = asked_by_all all
  asked_by_node (T.call_through e all) = asked e + asked_by_all all
  asked_by_node (T.library which all) = asked_by_all all
  asked_by_node (T.allocate r count zeroed) = asked_by_count count
  asked_by_node node = 0

  pub asked_by_path : Path ℕ → ℕ
  asked_by_path (path t at step) = asked_by_step step + 3

  pub asked_by_step : PathNode ℕ → ℕ
  asked_by_step (T.deref e) = asked e
  asked_by_step (T.index e i) = asked e + asked i
  asked_by_step (T.member q r field) = asked_by_path q
  asked_by_step (T.element q i) = asked_by_path q + asked i
  asked_by_step step = 0

  pub asked_by_all : Expressions ℕ → ℕ
  asked_by_all T.no_expressions = 0
  asked_by_all (T.and_expression e more) = asked e + 1 + asked_by_all more

  pub asked_by_count : OptionalExpression ℕ → ℕ
  asked_by_count T.no_expression = 0
  asked_by_count (T.some_expression e) = asked e

abbrev pub asked_if_any : Option (Expression ℕ) → ℕ
asked_if_any None = 0
asked_if_any (Some e) = asked e

-- ---- initializers

abbrev pub asked_by_value : PartValue ℕ → ℕ
asked_by_value (T.value e) = asked e
asked_by_value (T.record_of q) = asked_by_path q
asked_by_value (T.text bytes) = 0

abbrev pub asked_by_parts : List (T.Part ℕ) → ℕ
asked_by_parts [] = 0
asked_by_parts (one ∷ more) = asked_by_value one.value + asked_by_parts more

abbrev pub asked_by_initializer : Initializer ℕ → ℕ
asked_by_initializer (T.whole e) = asked e
asked_by_initializer (T.whole_record q) = asked_by_path q
asked_by_initializer (T.parts all) = asked_by_parts all

abbrev pub asked_by_initial : Option (Initializer ℕ) → ℕ
asked_by_initial None = 0
asked_by_initial (Some i) = asked_by_initializer i

-- ---- statements

abbrev mutual
  pub asked_by_statement : Statement ℕ → ℕ
  asked_by_statement (T.evaluate e) = asked e
  asked_by_statement (T.block own all) = asked_by_statements all
  asked_by_statement (T.declare n initial) = asked_by_initial initial
  asked_by_statement (T.when e one) = asked e + asked_by_statement one
  asked_by_statement (T.when_else e one other) = asked e + asked_by_statement one + asked_by_statement other
  asked_by_statement (T.while e body) = asked e + asked_by_statement body
  asked_by_statement (T.do_while body e) = asked_by_statement body + asked e
  asked_by_statement (T.for own start test step body) =
      asked_by_statements start + loops_in_all start + asked_if_any test + asked_if_any step + asked_by_statement body
  asked_by_statement (T.switch e own arms) = asked e + asked_by_arms arms
  asked_by_statement T.break = 0
  asked_by_statement T.continue = 0
  asked_by_statement (T.return e) = asked_if_any e

  pub asked_by_statements : Statements ℕ → ℕ
  asked_by_statements T.no_statements = 0
  asked_by_statements (T.and_statement s more) = asked_by_statement s + asked_by_statements more

  pub asked_by_arms : Arms ℕ → ℕ
  asked_by_arms T.no_arms = 0
  asked_by_arms (T.and_arm cases is_default all more) = asked_by_statements all + asked_by_arms more

-- ---- functions; one that is only declared asks for none

abbrev pub asked_by_body : FunctionData → Option (Statement ℕ) → ℕ
asked_by_body f None = 0
asked_by_body f (Some body) = length f.parameters + length f.locals + loops_in body + asked_by_statement body + 1

abbrev pub asked_by_functions : List FunctionData → ℕ
asked_by_functions [] = 0
asked_by_functions (f ∷ more) = asked_by_body f f.body + asked_by_functions more
