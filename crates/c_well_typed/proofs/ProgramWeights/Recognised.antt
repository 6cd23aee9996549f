-- A tree in which allocations are recognised weighs no more.
use Rattle.std.proofs.Common.{ℕ, ◌+◌, ◌≤◌, Bool, true, false, List, [], ◌∷◌, map, arith}
use Rattle.std.specs.Prelude.{if◌then◌else◌, Option, Some, None}
use Rattle.std.specs.Option.{option_map}
use Rattle.c_types.specs.declared.ty.IntKind.TheVariants.{UInt}
use Rattle.c_types.specs.Types.{CType, integer, pointer, structure}
use Rattle.c_types.specs.Sameness.{same_type}
use Rattle.c_typed.specs.declared.operators.BinaryOp.TheVariants.{Multiply}
use Rattle.c_typed.specs.declared.operators.LibraryFunction.TheVariants.{Malloc, Calloc}
use Rattle.c_typed.specs.Trees as Trees
use Rattle.c_erasure.specs.Noted.{Noted, Expression, Path, Node, PathNode, value, unconverted}
use Rattle.c_erasure.specs.Recognised.{as_unsigned, as_unsigned_from, counted, is_size, is_note_of, allocated, allocation, or_converted, is_null_constant}
use Rattle.c_erasure.specs.Recognised.{converted, recognised, recognised_node, recognised_optional, recognised_path, recognised_step, recognised_all}
use Rattle.c_erasure.specs.Units.{recognised_value, recognised_part, recognised_initializer, recognised_statement, recognised_statements, recognised_arms}
use Rattle.c_well_typed.specs.ProgramWeights.Counted.{Kind, constant, load, conversion, pointer_sum, operator, assignment, call, argument, through, to_field}
use Rattle.c_well_typed.specs.ProgramWeights.Counted.{to_element}
use Rattle.c_well_typed.specs.ProgramWeights.Counted.{part, statement, arm}
use Rattle.c_well_typed.specs.ProgramWeights.Weights.{weight, weight_of_node, weight_of_path, weight_of_step, weight_of_all, weight_of_count, weight_of_value}
use Rattle.c_well_typed.specs.ProgramWeights.Weights.{weight_of_parts}
use Rattle.c_well_typed.specs.ProgramWeights.Weights.{weight_of_initial, weight_if_any, weight_of_labels, weight_of_statement, weight_of_statements}
use Rattle.c_well_typed.specs.ProgramWeights.Weights.{weight_of_arms}
use Rattle.c_well_typed.proofs.ProgramWeights.Sums.{less_one, less_two, less_three}
use Rattle.c_well_typed.proofs.ProgramWeights.Values.{bare_less}

module _ (n : Kind → ℕ) where
  -- ---- allocations

  unsigned_from : (e : Expression) → weight n (as_unsigned_from e) ≤ n conversion + weight n e
  unsigned_from (Trees.expression t at node) = by_type (same_type t.ty (integer UInt))
    where
      by_type : (b : Bool) → weight n (if b then Trees.expression t at node else value (integer UInt) at (Trees.convert (Trees.expression t at node) false))
          ≤ n conversion + weight_of_node n node
      by_type true = omega arith
      by_type false = omega arith

  unsigned_less : (e : Expression) → weight n (as_unsigned e) ≤ n conversion + weight n e
  unsigned_less e = let a = unsigned_from (unconverted e) in let b = bare_less n e in omega (arith, a, b)

  abbrev IsCount : ℕ → Option (Trees.OptionalExpression Noted) → Type 0
  IsCount k None = Unit {0}
  IsCount k (Some count) = weight_of_count n count ≤ k

  abbrev IsAllocation : ℕ → Option (Trees.OptionalExpression Noted × Bool) → Type 0
  IsAllocation k None = Unit {0}
  IsAllocation k (Some a) = n call + weight_of_count n a.0 ≤ k

  one_of_two : (x y : Expression) (b c : Bool) → IsCount (n conversion + n argument + (weight n x + weight n y)) (if b then Some (Trees.some_expression
      (as_unsigned x)) else (if c then Some (Trees.some_expression (as_unsigned y)) else None))
  one_of_two x y true c = let a = unsigned_less x in omega (arith, a)
  one_of_two x y false true = let a = unsigned_less y in omega (arith, a)
  one_of_two x y false false = tt

  more_count : {k l : ℕ} (c : Option (Trees.OptionalExpression Noted)) → k ≤ l → IsCount k c → IsCount l c
  more_count None m h = tt
  more_count (Some c) m h = omega (arith, m, h)

  counted_less : (r : ℕ) (e : Expression) → IsCount (n conversion + n argument + weight n e) (counted r e)
  counted_less r (Trees.expression t at (Trees.constant v)) = by_note (is_note_of r t.note)
    where
      by_note : (b : Bool) → IsCount (n conversion + n argument + n constant) (if b then Some Trees.no_expression else None)
      by_note true = omega arith
      by_note false = tt
  counted_less r (Trees.expression t at (Trees.binary Multiply x y)) =
      more_count (counted r (Trees.expression t at (Trees.binary Multiply x y))) (omega arith) (one_of_two x y (is_size r y) (is_size r x))
  counted_less r e = tt

  of_count : (k l : ℕ) (c : Option (Trees.OptionalExpression Noted)) (zeroed : Bool) → n call + k ≤ l → IsCount k c → IsAllocation l (allocated c zeroed)
  of_count k l None zeroed m h = tt
  of_count k l (Some c) zeroed m h = omega (arith, m, h)

  allocation_less : (r : ℕ) (e : Expression) → IsAllocation (n conversion + weight n e) (allocation r e)
  allocation_less r (Trees.expression t at (Trees.library Malloc (Trees.and_expression x Trees.no_expressions))) =
      let b = bare_less n x in of_count _ _ (counted r (unconverted x)) false (omega (arith, b)) (counted_less r (unconverted x))
  allocation_less r (Trees.expression t at (Trees.library Calloc (Trees.and_expression x (Trees.and_expression y Trees.no_expressions)))) =
      by_size (is_size r y)
    where
      by_size : (b : Bool) → IsAllocation (n conversion + (n call + (n argument + weight n x + (n argument + weight n y + 0))))
          (if b then Some (Trees.some_expression (as_unsigned x), true) else None)
      by_size true = let a = unsigned_less x in omega (arith, a)
      by_size false = tt
  allocation_less r e = tt

  -- ---- conversions; a null pointer weighs no more than what is converted to it

  module _ (light : n constant ≤ n conversion) where
    or_less : (r : ℕ) (a : Option (Trees.OptionalExpression Noted × Bool)) (e : Expression) (written : Bool) → IsAllocation (n conversion + weight n e) a
        → weight_of_node n (or_converted r a e written) ≤ n conversion + weight n e
    or_less r None e written h = omega arith
    or_less r (Some a) e written h = h

    or_null : (b : Bool) (e : Expression) (node : Node) → weight_of_node n node ≤ n conversion + weight n e
        → weight_of_node n (if b then Trees.null else node) ≤ n conversion + weight n e
    or_null true e node h = omega (arith, light)
    or_null false e node h = h

    converted_less : (t : CType) (e : Expression) (written : Bool) → weight_of_node n (converted t e written) ≤ n conversion + weight n e
    converted_less (pointer (structure r)) e written =
        or_null (is_null_constant e) e (or_converted r (allocation r e) e written) (or_less r (allocation r e) e written (allocation_less r e))
    converted_less (pointer t) e written = or_null (is_null_constant e) e (Trees.convert e written) (omega arith)
    converted_less t e written = omega arith

    -- ---- expressions

    mutual
      pub less : (e : Expression) → weight n (recognised e) ≤ weight n e
      less (Trees.expression t at node) = less_node t node

      pub less_node : (t : Noted) (node : Node) → weight_of_node n (recognised_node t node) ≤ weight_of_node n node
      less_node t (Trees.constant v) = omega arith
      less_node t Trees.null = omega arith
      less_node t (Trees.function_name f) = omega arith
      less_node t (Trees.load p) = less_one (n load) (less_path p)
      less_node t (Trees.address_of p) = less_one (n operator) (less_path p)
      less_node t (Trees.decay p) = less_one (n load) (less_path p)
      less_node t (Trees.convert e written) =
          let a = converted_less t.ty (recognised e) written in
          let b = less e in omega (arith, a, b)
      less_node t (Trees.unary op x) = less_one (n operator) (less x)
      less_node t (Trees.binary op x y) = less_two (n operator) (less x) (less y)
      less_node t (Trees.compare op x y) = less_two (n operator) (less x) (less y)
      less_node t (Trees.pointer_add op x y) = less_two (n pointer_sum) (less x) (less y)
      less_node t (Trees.pointer_difference x y) = less_two (n operator) (less x) (less y)
      less_node t (Trees.both x y) = less_two (n operator) (less x) (less y)
      less_node t (Trees.either x y) = less_two (n operator) (less x) (less y)
      less_node t (Trees.not x) = less_one (n operator) (less x)
      less_node t (Trees.choose x y z) = less_three (n operator) (less x) (less y) (less z)
      less_node t (Trees.comma x y) = less_two (n operator) (less x) (less y)
      less_node t (Trees.assign p x) = less_two (n assignment) (less_path p) (less x)
      less_node t (Trees.assign_op op p x) = less_two (n assignment) (less_path p) (less x)
      less_node t (Trees.step op before p) = less_one (n assignment) (less_path p)
      less_node t (Trees.copy_record to from) = less_two (n assignment) (less_path to) (less_path from)
      less_node t (Trees.call f all) = less_one (n call) (less_all all)
      less_node t (Trees.call_through e all) = less_two (n call) (less e) (less_all all)
      less_node t (Trees.library which all) = less_one (n call) (less_all all)
      less_node t (Trees.allocate r count zeroed) = less_one (n call) (less_count count)

      less_count : (count : Trees.OptionalExpression Noted) → weight_of_count n (recognised_optional count) ≤ weight_of_count n count
      less_count Trees.no_expression = omega arith
      less_count (Trees.some_expression e) = less_one (n argument) (less e)

      pub less_path : (p : Path) → weight_of_path n (recognised_path p) ≤ weight_of_path n p
      less_path (Trees.path t at step) = less_step step

      pub less_step : (step : PathNode) → weight_of_step n (recognised_step step) ≤ weight_of_step n step
      less_step (Trees.local k) = omega arith
      less_step (Trees.object k) = omega arith
      less_step (Trees.deref e) = less_one (n through) (less e)
      less_step (Trees.index e i) = less_two (n to_element) (less e) (less i)
      less_step (Trees.member p r field) = less_one (n to_field) (less_path p)
      less_step (Trees.element p i) = less_two (n to_element) (less_path p) (less i)

      pub less_all : (all : Trees.Expressions Noted) → weight_of_all n (recognised_all all) ≤ weight_of_all n all
      less_all Trees.no_expressions = omega arith
      less_all (Trees.and_expression e more) = less_two (n argument) (less e) (less_all more)

    -- ---- initializers and statements

    less_value : (v : Trees.PartValue Noted) → weight_of_value n (recognised_value v) ≤ weight_of_value n v
    less_value (Trees.value e) = less e
    less_value (Trees.record_of p) = less_path p
    less_value (Trees.text bytes) = omega arith

    less_parts : (all : List (Trees.Part Noted)) → weight_of_parts n (map recognised_part all) ≤ weight_of_parts n all
    less_parts [] = omega arith
    less_parts (p ∷ more) = less_two (n part) (less_value p.value) (less_parts more)

    less_initial : (i : Option (Trees.Initializer Noted)) → weight_of_initial n (option_map recognised_initializer i) ≤ weight_of_initial n i
    less_initial None = omega arith
    less_initial (Some (Trees.whole e)) = less e
    less_initial (Some (Trees.whole_record p)) = less_path p
    less_initial (Some (Trees.parts all)) = less_parts all

    less_if_any : (e : Option Expression) → weight_if_any n (option_map recognised e) ≤ weight_if_any n e
    less_if_any None = omega arith
    less_if_any (Some e) = less e

    mutual
      pub less_statement : (s : Trees.Statement Noted) → weight_of_statement n (recognised_statement s) ≤ weight_of_statement n s
      less_statement (Trees.evaluate e) = less_one (n statement) (less e)
      less_statement (Trees.block locals all) = less_one (n statement) (less_statements all)
      less_statement (Trees.declare k initial) = less_one (n statement) (less_initial initial)
      less_statement (Trees.when e one) = less_two (n statement) (less e) (less_statement one)
      less_statement (Trees.when_else e one other) = less_three (n statement) (less e) (less_statement one) (less_statement other)
      less_statement (Trees.while e body) = less_two (n statement) (less e) (less_statement body)
      less_statement (Trees.do_while body e) = less_two (n statement) (less_statement body) (less e)
      less_statement (Trees.for locals start test step body) =
          let a = less_three (n statement) (less_statements start) (less_if_any test) (less_if_any step) in
          let b = less_statement body in omega (arith, a, b)
      less_statement (Trees.switch e locals arms) = less_two (n statement) (less e) (less_arms arms)
      less_statement Trees.break = omega arith
      less_statement Trees.continue = omega arith
      less_statement (Trees.return e) = less_one (n statement) (less_if_any e)

      pub less_statements : (all : Trees.Statements Noted) → weight_of_statements n (recognised_statements all) ≤ weight_of_statements n all
      less_statements Trees.no_statements = omega arith
      less_statements (Trees.and_statement s more) =
          let a = less_statement s in
          let b = less_statements more in omega (arith, a, b)

      pub less_arms : (arms : Trees.Arms Noted) → weight_of_arms n (recognised_arms arms) ≤ weight_of_arms n arms
      less_arms Trees.no_arms = omega arith
      less_arms (Trees.and_arm cases is_default all more) = less_two (n arm + weight_of_labels n cases) (less_statements all) (less_arms more)
