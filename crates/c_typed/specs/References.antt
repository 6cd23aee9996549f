-- The objects and functions that a typed tree refers to, by their numbers, in the order of the text.
use Rattle.std.specs.Prelude.{ℕ, List, [], ◌∷◌, ◌++◌, flat_map, Option, Some, None}
use Rattle.c_typed.specs.Trees

pub data Reference : Type 0 where
  an_object : (n : ℕ) → Reference
  a_function : (f : ℕ) → Reference

abbrev mutual
  pub references : {T : Type 0} → Trees.Expression T → List Reference
  references (Trees.expression t at node) = references_by_node node

  pub references_by_node : {T : Type 0} → Trees.Node T → List Reference
  references_by_node (Trees.constant v) = []
  references_by_node Trees.null = []
  references_by_node (Trees.function_name f) = a_function f ∷ []
  references_by_node (Trees.load p) = references_by_path p
  references_by_node (Trees.address_of p) = references_by_path p
  references_by_node (Trees.decay p) = references_by_path p
  references_by_node (Trees.convert e written) = references e
  references_by_node (Trees.unary op x) = references x
  references_by_node (Trees.binary op x y) = references x ++ references y
  references_by_node (Trees.compare op x y) = references x ++ references y
  references_by_node (Trees.pointer_add op x y) = references x ++ references y
  references_by_node (Trees.pointer_difference x y) = references x ++ references y
  references_by_node (Trees.both x y) = references x ++ references y
  references_by_node (Trees.either x y) = references x ++ references y
  references_by_node (Trees.not x) = references x
  references_by_node (Trees.choose x y z) = references x ++ references y ++ references z
  references_by_node (Trees.comma x y) = references x ++ references y
  references_by_node (Trees.assign p x) = references_by_path p ++ references x
  references_by_node (Trees.assign_op op p x) = references_by_path p ++ references x
  references_by_node (Trees.step op before p) = references_by_path p
  references_by_node (Trees.copy_record to from) = references_by_path to ++ references_by_path from
  references_by_node (Trees.call f all) = a_function f ∷ references_by_all all
  references_by_node (Trees.call_through e all) = references e ++ references_by_all all
  references_by_node (Trees.library which all) = references_by_all all
  references_by_node (Trees.allocate r count zeroed) = references_by_optional count

  pub references_by_path : {T : Type 0} → Trees.Path T → List Reference
  references_by_path (Trees.path t at step) = references_by_step step

  pub references_by_step : {T : Type 0} → Trees.PathNode T → List Reference
  references_by_step (Trees.local n) = []
  references_by_step (Trees.object n) = an_object n ∷ []
  references_by_step (Trees.deref e) = references e
  references_by_step (Trees.index e i) = references e ++ references i
  references_by_step (Trees.member p r field) = references_by_path p
  references_by_step (Trees.element p i) = references_by_path p ++ references i

  pub references_by_all : {T : Type 0} → Trees.Expressions T → List Reference
  references_by_all Trees.no_expressions = []
  references_by_all (Trees.and_expression e more) = references e ++ references_by_all more

  pub references_by_optional : {T : Type 0} → Trees.OptionalExpression T → List Reference
  references_by_optional Trees.no_expression = []
  references_by_optional (Trees.some_expression e) = references e

-- ---- initializers and statements

abbrev pub references_by_value : {T : Type 0} → Trees.PartValue T → List Reference
references_by_value (Trees.value e) = references e
references_by_value (Trees.record_of p) = references_by_path p
references_by_value (Trees.text bytes) = []

abbrev pub references_by_initializer : {T : Type 0} → Trees.Initializer T → List Reference
references_by_initializer (Trees.whole e) = references e
references_by_initializer (Trees.whole_record p) = references_by_path p
references_by_initializer (Trees.parts all) = flat_map (λ part. references_by_value part.value) all

abbrev pub references_by_initial : {T : Type 0} → Option (Trees.Initializer T) → List Reference
references_by_initial None = []
references_by_initial (Some initial) = references_by_initializer initial

abbrev pub references_if_any : {T : Type 0} → Option (Trees.Expression T) → List Reference
references_if_any None = []
references_if_any (Some e) = references e

abbrev mutual
  pub references_by_statement : {T : Type 0} → Trees.Statement T → List Reference
  references_by_statement (Trees.evaluate e) = references e
  references_by_statement (Trees.block locals all) = references_by_statements all
  references_by_statement (Trees.declare n initial) = references_by_initial initial
  references_by_statement (Trees.when e one) = references e ++ references_by_statement one
  references_by_statement (Trees.when_else e one other) = references e ++ references_by_statement one ++ references_by_statement other
  references_by_statement (Trees.while e body) = references e ++ references_by_statement body
  references_by_statement (Trees.do_while body e) = references_by_statement body ++ references e
  references_by_statement (Trees.for locals start test step body) = references_by_statements start ++ references_if_any test ++ references_if_any step
      ++ references_by_statement body
  references_by_statement (Trees.switch e locals arms) = references e ++ references_by_arms arms
  references_by_statement Trees.break = []
  references_by_statement Trees.continue = []
  references_by_statement (Trees.return e) = references_if_any e

  pub references_by_statements : {T : Type 0} → Trees.Statements T → List Reference
  references_by_statements Trees.no_statements = []
  references_by_statements (Trees.and_statement s more) = references_by_statement s ++ references_by_statements more

  pub references_by_arms : {T : Type 0} → Trees.Arms T → List Reference
  references_by_arms Trees.no_arms = []
  references_by_arms (Trees.and_arm cases is_default all more) = references_by_statements all ++ references_by_arms more
