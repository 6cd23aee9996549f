-- The numbers of temporaries and loops that code asks for are no more than the bytes that the program weighs.
use Rattle.std.proofs.Common.{ℕ, suc, ◌+◌, ◌≤◌, List, [], ◌∷◌, length, Option, Some, None, arith, if◌then◌else◌, Bool, true, false}
use Rattle.c_typed.specs.declared.program.Local.{Local}
use Rattle.c_typed.specs.Programs.{FunctionData}
use Rattle.c_typed.specs.RunCounts.Loops.{loops_in, loops_in_all, loops_in_arms}
use Rattle.c_typed.specs.Trees as T
use Rattle.c_typed.specs.Trees.{Expression, expression, Node, Path, path, PathNode, Expressions, OptionalExpression, PartValue, Initializer, Statement}
use Rattle.c_typed.specs.Trees.{Statements, Arms}
use Rattle.c_well_typed.specs.ProgramWeights.Bounds.{ProgramsAreBounded}
use Rattle.c_well_typed.specs.ProgramWeights.Counted.{code, block_local, named_local}
use Rattle.c_well_typed.specs.ProgramWeights.Weights.{weight, weight_of_node, weight_of_path, weight_of_step, weight_of_all, weight_of_count, weight_of_value}
use Rattle.c_well_typed.specs.ProgramWeights.Weights.{weight_of_parts, weight_of_initial, weight_if_any, weight_of_statement, weight_of_body}
use Rattle.c_well_typed.specs.ProgramWeights.Weights.{weight_of_statements, weight_of_arms, weight_of_parameters, weight_of_locals, weight_of_functions}
use Rattle.c_well_typed.specs.Within.{ProgramsAreWithinLimits}
use Rattle.lower_tac.specs.Asked.{asked, asked_by_node, asked_by_path, asked_by_step, asked_by_all, asked_by_count, asked_if_any, asked_by_value}
use Rattle.lower_tac.specs.Asked.{asked_by_parts, asked_by_initial, asked_by_statement, asked_by_statements, asked_by_arms, asked_by_body, asked_by_functions}
use Rattle.code_bounds.specs.LoweredLaws.{FewAreAsked}

mutual
  within : (e : Expression ℕ) → asked e ≤ weight code e
  within (expression t at node) = by_node node

  by_node : (node : Node ℕ) → asked_by_node node + 3 ≤ weight_of_node code node
  by_node (T.constant v) = omega arith
  by_node T.null = omega arith
  by_node (T.function_name f) = omega arith
  by_node (T.load q) = let a = by_path q in omega (arith, a)
  by_node (T.address_of q) = let a = by_path q in omega (arith, a)
  by_node (T.decay q) = let a = by_path q in omega (arith, a)
  by_node (T.convert e written) = let a = within e in omega (arith, a)
  by_node (T.unary op x) = let a = within x in omega (arith, a)
  by_node (T.binary op x y) = let a = within x in let b = within y in omega (arith, a, b)
  by_node (T.compare op x y) = let a = within x in let b = within y in omega (arith, a, b)
  by_node (T.pointer_add op x y) = let a = within x in let b = within y in omega (arith, a, b)
  by_node (T.pointer_difference x y) = let a = within x in let b = within y in omega (arith, a, b)
  by_node (T.both x y) = let a = within x in let b = within y in omega (arith, a, b)
  by_node (T.either x y) = let a = within x in let b = within y in omega (arith, a, b)
  by_node (T.not x) = let a = within x in omega (arith, a)
  by_node (T.choose x y z) = let a = within x in let b = within y in let d = within z in omega (arith, a, b, d)
  by_node (T.comma x y) = let a = within x in let b = within y in omega (arith, a, b)
  by_node (T.assign q x) = let a = by_path q in let b = within x in omega (arith, a, b)
  by_node (T.assign_op op q x) = let a = by_path q in let b = within x in omega (arith, a, b)
  by_node (T.step op before q) = let a = by_path q in omega (arith, a)
  by_node (T.copy_record q r) = let a = by_path q in let b = by_path r in omega (arith, a, b)
  by_node (T.call f all) = let a = by_all all in omega (arith, a)
  by_node (T.call_through e all) = let a = within e in let b = by_all all in omega (arith, a, b)
  by_node (T.library which all) = let a = by_all all in omega (arith, a)
  by_node (T.allocate r count zeroed) = let a = by_count count in omega (arith, a)

  by_path : (q : Path ℕ) → asked_by_path q ≤ weight_of_path code q
  by_path (path t at step) = by_step step

  by_step : (step : PathNode ℕ) → asked_by_step step + 3 ≤ weight_of_step code step
  by_step (T.local k) = omega arith
  by_step (T.object k) = omega arith
  by_step (T.deref e) = let a = within e in omega (arith, a)
  by_step (T.index e i) = let a = within e in let b = within i in omega (arith, a, b)
  by_step (T.member q r field) = let a = by_path q in omega (arith, a)
  by_step (T.element q i) = let a = by_path q in let b = within i in omega (arith, a, b)

  by_all : (all : Expressions ℕ) → asked_by_all all ≤ weight_of_all code all
  by_all T.no_expressions = omega arith
  by_all (T.and_expression e more) = let a = within e in let b = by_all more in omega (arith, a, b)

  by_count : (count : OptionalExpression ℕ) → asked_by_count count ≤ weight_of_count code count
  by_count T.no_expression = omega arith
  by_count (T.some_expression e) = let a = within e in omega (arith, a)

if_any : (e : Option (Expression ℕ)) → asked_if_any e ≤ weight_if_any code e
if_any None = omega arith
if_any (Some e) = within e

by_value : (v : PartValue ℕ) → asked_by_value v ≤ weight_of_value code v
by_value (T.value e) = within e
by_value (T.record_of q) = by_path q
by_value (T.text bytes) = omega arith

by_parts : (all : List (T.Part ℕ)) → asked_by_parts all ≤ weight_of_parts code all
by_parts [] = omega arith
by_parts (one ∷ more) = let a = by_value one.value in let b = by_parts more in omega (arith, a, b)

by_initial : (i : Option (Initializer ℕ)) → asked_by_initial i ≤ weight_of_initial code i
by_initial None = omega arith
by_initial (Some (T.whole e)) = within e
by_initial (Some (T.whole_record q)) = by_path q
by_initial (Some (T.parts all)) = by_parts all

-- with the loops
mutual
  by_statement : (s : Statement ℕ) → asked_by_statement s + loops_in s ≤ weight_of_statement code s
  by_statement (T.evaluate e) = let a = within e in omega (arith, a)
  by_statement (T.block own all) = let a = by_statements all in omega (arith, a)
  by_statement (T.declare k i) = let a = by_initial i in omega (arith, a)
  by_statement (T.when e one) = let a = within e in let b = by_statement one in omega (arith, a, b)
  by_statement (T.when_else e one other) = let a = within e in let b = by_statement one in let d = by_statement other in omega (arith, a, b, d)
  by_statement (T.while e body) = let a = within e in let b = by_statement body in omega (arith, a, b)
  by_statement (T.do_while body e) = let a = within e in let b = by_statement body in omega (arith, a, b)
  by_statement (T.for own start test step body) =
      let a = by_statements start in let b = if_any test in let d = if_any step in let e = by_statement body in omega (arith, a, b, d, e)
  by_statement (T.switch e own arms) = let a = within e in let b = by_arms arms in omega (arith, a, b)
  by_statement T.break = omega arith
  by_statement T.continue = omega arith
  by_statement (T.return e) = let a = if_any e in omega (arith, a)

  by_statements : (all : Statements ℕ) → asked_by_statements all + loops_in_all all ≤ weight_of_statements code all
  by_statements T.no_statements = omega arith
  by_statements (T.and_statement s more) = let a = by_statement s in let b = by_statements more in omega (arith, a, b)

  by_arms : (arms : Arms ℕ) → asked_by_arms arms + loops_in_arms arms ≤ weight_of_arms code arms
  by_arms T.no_arms = omega arith
  by_arms (T.and_arm cases is_default all more) = let a = by_statements all in let b = by_arms more in omega (arith, a, b)

one_each : {A : Type 0} (all : List A) → length all ≤ weight_of_parameters code all
one_each [] = omega arith
one_each (l ∷ more) = let a = one_each more in omega (arith, a)

and_one : (block : Bool) (n w : ℕ) → n ≤ w → suc n ≤ (if block then code block_local else code named_local) + w
and_one true n w h = omega (arith, h)
and_one false n w h = omega (arith, h)

by_locals : (all : List Local) → length all ≤ weight_of_locals code all
by_locals [] = omega arith
by_locals (l ∷ more) = and_one l.block (length more) (weight_of_locals code more) (by_locals more)

by_body : (f : FunctionData) (b : Option (Statement ℕ)) → asked_by_body f b ≤ weight_of_body code f b
by_body f None = omega arith
by_body f (Some body) = let a = one_each f.parameters in let b = by_locals f.locals in let d = by_statement body in omega (arith, a, b, d)

by_functions : (all : List FunctionData) → asked_by_functions all ≤ weight_of_functions code all
by_functions [] = omega arith
by_functions (f ∷ more) = let a = by_body f f.body in let b = by_functions more in omega (arith, a, b)

-- the theorem
pub few_are_asked : ProgramsAreBounded → ProgramsAreWithinLimits → FewAreAsked
few_are_asked bounded limited files p is =
    let a = by_functions p.functions in
    let b = (bounded files p is).code in
    let d = (limited files p is).nodes in omega (arith, a, b, d)
