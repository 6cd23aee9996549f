-- Weights by lesser numbers are less.
use Rattle.std.proofs.Common.{ℕ, ◌+◌, ◌*◌, ◌≤◌, List, [], ◌∷◌, Option, Some, None, arith, if◌then◌else◌, Bool, true, false}
use Rattle.c_typed.specs.declared.program.Local.{Local}
use Rattle.c_typed.specs.Trees as T
use Rattle.c_typed.specs.Trees.{Expression, expression, Node, Path, path, PathNode, Expressions, OptionalExpression, PartValue, Initializer, Statement}
use Rattle.c_typed.specs.Trees.{Statements, Arms}
use Rattle.c_typed.specs.TypedStatements.{all_declared, all_declared_by, all_declared_by_arms}
use Rattle.c_well_typed.specs.ProgramWeights.Counted.{Kind, begins, through, to_field, to_element, constant, load, conversion, pointer_sum, operator}
use Rattle.c_well_typed.specs.ProgramWeights.Counted.{assignment, call, argument, part, statement, arm, label, parameter, named_local, block_local}
use Rattle.c_well_typed.specs.ProgramWeights.Weights.{weight, weight_of_node, weight_of_path, weight_of_step, weight_of_all, weight_of_count, weight_of_value}
use Rattle.c_well_typed.specs.ProgramWeights.Weights.{weight_of_parts, weight_of_initial, weight_if_any, weight_of_labels, weight_of_statement}
use Rattle.c_well_typed.specs.ProgramWeights.Weights.{weight_of_statements, weight_of_arms, weight_of_parameters, weight_of_locals}
use Rattle.code_bounds.proofs.Outs.{each}
use Rattle.code_bounds.proofs.Scoped.{each_append}

-- so many times the one number is no more than the other
module _ (s : ℕ) (n m : Kind → ℕ) (less : (k : Kind) → s * n k ≤ m k) where
  mutual
    pub less_weight : (e : Expression ℕ) → s * weight n e ≤ weight m e
    less_weight (expression t at node) = less_node node

    pub less_node : (node : Node ℕ) → s * weight_of_node n node ≤ weight_of_node m node
    less_node (T.constant v) = less constant
    less_node T.null = less constant
    less_node (T.function_name f) = less constant
    less_node (T.load q) = let a = less load in let b = less_path q in omega (arith, a, b)
    less_node (T.address_of q) = let a = less operator in let b = less_path q in omega (arith, a, b)
    less_node (T.decay q) = let a = less load in let b = less_path q in omega (arith, a, b)
    less_node (T.convert e written) = let a = less conversion in let b = less_weight e in omega (arith, a, b)
    less_node (T.unary op x) = let a = less operator in let b = less_weight x in omega (arith, a, b)
    less_node (T.binary op x y) = let a = less operator in let b = less_weight x in let d = less_weight y in omega (arith, a, b, d)
    less_node (T.compare op x y) = let a = less operator in let b = less_weight x in let d = less_weight y in omega (arith, a, b, d)
    less_node (T.pointer_add op x y) = let a = less pointer_sum in let b = less_weight x in let d = less_weight y in omega (arith, a, b, d)
    less_node (T.pointer_difference x y) = let a = less operator in let b = less_weight x in let d = less_weight y in omega (arith, a, b, d)
    less_node (T.both x y) = let a = less operator in let b = less_weight x in let d = less_weight y in omega (arith, a, b, d)
    less_node (T.either x y) = let a = less operator in let b = less_weight x in let d = less_weight y in omega (arith, a, b, d)
    less_node (T.not x) = let a = less operator in let b = less_weight x in omega (arith, a, b)
    less_node (T.choose x y z) = let a = less operator in let b = less_weight x in let d = less_weight y in let e = less_weight z in omega (arith, a, b, d, e)
    less_node (T.comma x y) = let a = less operator in let b = less_weight x in let d = less_weight y in omega (arith, a, b, d)
    less_node (T.assign q x) = let a = less assignment in let b = less_path q in let d = less_weight x in omega (arith, a, b, d)
    less_node (T.assign_op op q x) = let a = less assignment in let b = less_path q in let d = less_weight x in omega (arith, a, b, d)
    less_node (T.step op before q) = let a = less assignment in let b = less_path q in omega (arith, a, b)
    less_node (T.copy_record q r) = let a = less assignment in let b = less_path q in let d = less_path r in omega (arith, a, b, d)
    less_node (T.call f all) = let a = less call in let b = less_all all in omega (arith, a, b)
    less_node (T.call_through e all) = let a = less call in let b = less_weight e in let d = less_all all in omega (arith, a, b, d)
    less_node (T.library which all) = let a = less call in let b = less_all all in omega (arith, a, b)
    less_node (T.allocate r count zeroed) = let a = less call in let b = less_count count in omega (arith, a, b)

    pub less_path : (q : Path ℕ) → s * weight_of_path n q ≤ weight_of_path m q
    less_path (path t at step) = less_step step

    pub less_step : (step : PathNode ℕ) → s * weight_of_step n step ≤ weight_of_step m step
    less_step (T.local k) = less begins
    less_step (T.object k) = less begins
    less_step (T.deref e) = let a = less through in let b = less_weight e in omega (arith, a, b)
    less_step (T.index e i) = let a = less to_element in let b = less_weight e in let d = less_weight i in omega (arith, a, b, d)
    less_step (T.member q r field) = let a = less to_field in let b = less_path q in omega (arith, a, b)
    less_step (T.element q i) = let a = less to_element in let b = less_path q in let d = less_weight i in omega (arith, a, b, d)

    pub less_all : (all : Expressions ℕ) → s * weight_of_all n all ≤ weight_of_all m all
    less_all T.no_expressions = omega arith
    less_all (T.and_expression e more) = let a = less argument in let b = less_weight e in let d = less_all more in omega (arith, a, b, d)

    pub less_count : (count : OptionalExpression ℕ) → s * weight_of_count n count ≤ weight_of_count m count
    less_count T.no_expression = omega arith
    less_count (T.some_expression e) = let a = less argument in let b = less_weight e in omega (arith, a, b)

  less_value : (v : PartValue ℕ) → s * weight_of_value n v ≤ weight_of_value m v
  less_value (T.value e) = less_weight e
  less_value (T.record_of q) = less_path q
  less_value (T.text bytes) = omega arith

  less_parts : (all : List (T.Part ℕ)) → s * weight_of_parts n all ≤ weight_of_parts m all
  less_parts [] = omega arith
  less_parts (one ∷ more) = let a = less part in let b = less_value one.value in let d = less_parts more in omega (arith, a, b, d)

  less_initial : (i : Option (Initializer ℕ)) → s * weight_of_initial n i ≤ weight_of_initial m i
  less_initial None = omega arith
  less_initial (Some (T.whole e)) = less_weight e
  less_initial (Some (T.whole_record q)) = less_path q
  less_initial (Some (T.parts all)) = less_parts all

  less_if_any : (e : Option (Expression ℕ)) → s * weight_if_any n e ≤ weight_if_any m e
  less_if_any None = omega arith
  less_if_any (Some e) = less_weight e

  less_labels : (all : List ℕ) → s * weight_of_labels n all ≤ weight_of_labels m all
  less_labels [] = omega arith
  less_labels (v ∷ more) = let a = less label in let b = less_labels more in omega (arith, a, b)

  pub less_parameters : (all : List Local) → s * weight_of_parameters n all ≤ weight_of_parameters m all
  less_parameters [] = omega arith
  less_parameters (l ∷ more) = let a = less parameter in let b = less_parameters more in omega (arith, a, b)

  less_local : (block : Bool) (a b : ℕ) → s * a ≤ b
      → s * ((if block then n block_local else n named_local) + a) ≤ (if block then m block_local else m named_local) + b
  less_local true a b h = let k = less block_local in omega (arith, h, k)
  less_local false a b h = let k = less named_local in omega (arith, h, k)

  pub less_locals : (all : List Local) → s * weight_of_locals n all ≤ weight_of_locals m all
  less_locals [] = omega arith
  less_locals (l ∷ more) = less_local l.block (weight_of_locals n more) (weight_of_locals m more) (less_locals more)

  -- and so much more is left of each statement, which pays for what is declared
  module _ (left : ℕ) (more_left : s * n statement + left ≤ m statement) where
    mutual
      pub less_statement : (st : Statement ℕ) → s * weight_of_statement n st + each left (all_declared st) ≤ weight_of_statement m st
      less_statement (T.evaluate e) = let a = more_left in let b = less_weight e in omega (arith, a, b)
      less_statement (T.block own all) = let a = more_left in let b = less_statements all in omega (arith, a, b)
      less_statement (T.declare k i) = let a = more_left in let b = less_initial i in omega (arith, a, b)
      less_statement (T.when e one) = let a = more_left in let b = less_weight e in let d = less_statement one in omega (arith, a, b, d)
      less_statement (T.when_else e one other) =
          let a = more_left in let b = less_weight e in let d = less_statement one in let f = less_statement other in
          let g = each_append left (all_declared one) (all_declared other) in omega (arith, a, b, d, f, g)
      less_statement (T.while e body) = let a = more_left in let b = less_weight e in let d = less_statement body in omega (arith, a, b, d)
      less_statement (T.do_while body e) = let a = more_left in let b = less_weight e in let d = less_statement body in omega (arith, a, b, d)
      less_statement (T.for own start test step body) =
          let a = more_left in let b = less_statements start in let d = less_if_any test in let f = less_if_any step in let g = less_statement body in
          let h = each_append left (all_declared_by start) (all_declared body) in omega (arith, a, b, d, f, g, h)
      less_statement (T.switch e own arms) = let a = more_left in let b = less_weight e in let d = less_arms arms in omega (arith, a, b, d)
      less_statement T.break = let a = more_left in omega (arith, a)
      less_statement T.continue = let a = more_left in omega (arith, a)
      less_statement (T.return e) = let a = more_left in let b = less_if_any e in omega (arith, a, b)

      pub less_statements : (all : Statements ℕ) → s * weight_of_statements n all + each left (all_declared_by all) ≤ weight_of_statements m all
      less_statements T.no_statements = omega arith
      less_statements (T.and_statement st more) =
          let a = less_statement st in let b = less_statements more in let d = each_append left (all_declared st) (all_declared_by more) in omega
          (arith, a, b, d)

      pub less_arms : (arms : Arms ℕ) → s * weight_of_arms n arms + each left (all_declared_by_arms arms) ≤ weight_of_arms m arms
      less_arms T.no_arms = omega arith
      less_arms (T.and_arm cases is_default all more) =
          let a = less arm in let b = less_labels cases in let d = less_statements all in let f = less_arms more in
          let g = each_append left (all_declared_by all) (all_declared_by_arms more) in omega (arith, a, b, d, f, g)
