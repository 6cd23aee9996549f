-- A tree with other things in place of its types and its numbers weighs the same.
use Rattle.std.proofs.Common.{◌≡◌, ℕ, ◌+◌, refl, ap, List, [], ◌∷◌, map, Option, Some, None, arith}
use Rattle.std.specs.Option.{option_map}
use Rattle.c_typed.specs.Trees as Trees
use Rattle.c_typed.specs.Mapped.{Renaming, mapped, mapped_node, mapped_path, mapped_step, mapped_all, mapped_if_any, mapped_value, mapped_part}
use Rattle.c_typed.specs.Mapped.{mapped_initializer, mapped_statement, mapped_statements, mapped_arms}
use Rattle.c_well_typed.specs.ProgramWeights.Counted.{Kind, load, operator, conversion, pointer_sum, assignment, call, argument, through, to_field, to_element}
use Rattle.c_well_typed.specs.ProgramWeights.Counted.{part, statement, arm}
use Rattle.c_well_typed.specs.ProgramWeights.Weights.{weight, weight_of_node, weight_of_path, weight_of_step, weight_of_all, weight_of_count, weight_of_value}
use Rattle.c_well_typed.specs.ProgramWeights.Weights.{weight_of_parts}
use Rattle.c_well_typed.specs.ProgramWeights.Weights.{weight_of_initializer, weight_of_initial, weight_if_any, weight_of_labels, weight_of_statement}
use Rattle.c_well_typed.specs.ProgramWeights.Weights.{weight_of_statements}
use Rattle.c_well_typed.specs.ProgramWeights.Weights.{weight_of_arms}

-- sums of equal parts
pub same_one : (k : ℕ) {a b : ℕ} → a ≡ b → k + a ≡ k + b
same_one k e = ap (λ a. k + a) e

pub same_two : (k : ℕ) {a b c d : ℕ} → a ≡ b → c ≡ d → k + a + c ≡ k + b + d
same_two k e h = omega (arith, e, h)

pub same_three : (k : ℕ) {a b c d x y : ℕ} → a ≡ b → c ≡ d → x ≡ y → k + a + c + x ≡ k + b + d + y
same_three k e h g = omega (arith, e, h, g)

module _ (n : Kind → ℕ) {T S : Type 0} (m : Renaming T S) where
  mutual
    pub same_weight : (e : Trees.Expression T) → weight n (mapped m e) ≡ weight n e
    same_weight (Trees.expression t at node) = same_node node

    pub same_node : (node : Trees.Node T) → weight_of_node n (mapped_node m node) ≡ weight_of_node n node
    same_node (Trees.constant v) = refl
    same_node Trees.null = refl
    same_node (Trees.function_name f) = refl
    same_node (Trees.load p) = same_one (n load) (same_path p)
    same_node (Trees.address_of p) = same_one (n operator) (same_path p)
    same_node (Trees.decay p) = same_one (n load) (same_path p)
    same_node (Trees.convert e written) = same_one (n conversion) (same_weight e)
    same_node (Trees.unary op x) = same_one (n operator) (same_weight x)
    same_node (Trees.binary op x y) = same_two (n operator) (same_weight x) (same_weight y)
    same_node (Trees.compare op x y) = same_two (n operator) (same_weight x) (same_weight y)
    same_node (Trees.pointer_add op x y) = same_two (n pointer_sum) (same_weight x) (same_weight y)
    same_node (Trees.pointer_difference x y) = same_two (n operator) (same_weight x) (same_weight y)
    same_node (Trees.both x y) = same_two (n operator) (same_weight x) (same_weight y)
    same_node (Trees.either x y) = same_two (n operator) (same_weight x) (same_weight y)
    same_node (Trees.not x) = same_one (n operator) (same_weight x)
    same_node (Trees.choose x y z) = same_three (n operator) (same_weight x) (same_weight y) (same_weight z)
    same_node (Trees.comma x y) = same_two (n operator) (same_weight x) (same_weight y)
    same_node (Trees.assign p x) = same_two (n assignment) (same_path p) (same_weight x)
    same_node (Trees.assign_op op p x) = same_two (n assignment) (same_path p) (same_weight x)
    same_node (Trees.step op before p) = same_one (n assignment) (same_path p)
    same_node (Trees.copy_record to from) = same_two (n assignment) (same_path to) (same_path from)
    same_node (Trees.call f all) = same_one (n call) (same_all all)
    same_node (Trees.call_through e all) = same_two (n call) (same_weight e) (same_all all)
    same_node (Trees.library which all) = same_one (n call) (same_all all)
    same_node (Trees.allocate r count zeroed) = same_one (n call) (same_count count)

    pub same_path : (p : Trees.Path T) → weight_of_path n (mapped_path m p) ≡ weight_of_path n p
    same_path (Trees.path t at step) = same_step step

    pub same_step : (step : Trees.PathNode T) → weight_of_step n (mapped_step m step) ≡ weight_of_step n step
    same_step (Trees.local k) = refl
    same_step (Trees.object k) = refl
    same_step (Trees.deref e) = same_one (n through) (same_weight e)
    same_step (Trees.index e i) = same_two (n to_element) (same_weight e) (same_weight i)
    same_step (Trees.member p r field) = same_one (n to_field) (same_path p)
    same_step (Trees.element p i) = same_two (n to_element) (same_path p) (same_weight i)

    pub same_all : (all : Trees.Expressions T) → weight_of_all n (mapped_all m all) ≡ weight_of_all n all
    same_all Trees.no_expressions = refl
    same_all (Trees.and_expression e more) = same_two (n argument) (same_weight e) (same_all more)

    pub same_count : (count : Trees.OptionalExpression T) → weight_of_count n (mapped_if_any m count) ≡ weight_of_count n count
    same_count Trees.no_expression = refl
    same_count (Trees.some_expression e) = same_one (n argument) (same_weight e)

  pub same_value : (v : Trees.PartValue T) → weight_of_value n (mapped_value m v) ≡ weight_of_value n v
  same_value (Trees.value e) = same_weight e
  same_value (Trees.record_of p) = same_path p
  same_value (Trees.text bytes) = refl

  pub same_parts : (all : List (Trees.Part T)) → weight_of_parts n (map (mapped_part m) all) ≡ weight_of_parts n all
  same_parts [] = refl
  same_parts (p ∷ more) = same_two (n part) (same_value p.value) (same_parts more)

  pub same_initializer : (i : Trees.Initializer T) → weight_of_initializer n (mapped_initializer m i) ≡ weight_of_initializer n i
  same_initializer (Trees.whole e) = same_weight e
  same_initializer (Trees.whole_record p) = same_path p
  same_initializer (Trees.parts all) = same_parts all

  pub same_initial : (i : Option (Trees.Initializer T)) → weight_of_initial n (option_map (mapped_initializer m) i) ≡ weight_of_initial n i
  same_initial None = refl
  same_initial (Some i) = same_initializer i

  pub same_if_any : (e : Option (Trees.Expression T)) → weight_if_any n (option_map (mapped m) e) ≡ weight_if_any n e
  same_if_any None = refl
  same_if_any (Some e) = same_weight e

  mutual
    pub same_statement : (s : Trees.Statement T) → weight_of_statement n (mapped_statement m s) ≡ weight_of_statement n s
    same_statement (Trees.evaluate e) = same_one (n statement) (same_weight e)
    same_statement (Trees.block locals all) = same_one (n statement) (same_statements all)
    same_statement (Trees.declare k initial) = same_one (n statement) (same_initial initial)
    same_statement (Trees.when e one) = same_two (n statement) (same_weight e) (same_statement one)
    same_statement (Trees.when_else e one other) = same_three (n statement) (same_weight e) (same_statement one) (same_statement other)
    same_statement (Trees.while e body) = same_two (n statement) (same_weight e) (same_statement body)
    same_statement (Trees.do_while body e) = same_two (n statement) (same_statement body) (same_weight e)
    same_statement (Trees.for locals start test step body) =
        let a = same_three (n statement) (same_statements start) (same_if_any test) (same_if_any step) in
        let b = same_statement body in omega (arith, a, b)
    same_statement (Trees.switch e locals arms) = same_two (n statement) (same_weight e) (same_arms arms)
    same_statement Trees.break = refl
    same_statement Trees.continue = refl
    same_statement (Trees.return e) = same_one (n statement) (same_if_any e)

    pub same_statements : (all : Trees.Statements T) → weight_of_statements n (mapped_statements m all) ≡ weight_of_statements n all
    same_statements Trees.no_statements = refl
    same_statements (Trees.and_statement s more) =
        let a = same_statement s in
        let b = same_statements more in omega (arith, a, b)

    pub same_arms : (arms : Trees.Arms T) → weight_of_arms n (mapped_arms m arms) ≡ weight_of_arms n arms
    same_arms Trees.no_arms = refl
    same_arms (Trees.and_arm cases is_default all more) = same_two (n arm + weight_of_labels n cases) (same_statements all) (same_arms more)
