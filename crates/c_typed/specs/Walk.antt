-- The types that stand at the nodes of a typed tree, in the order of the text; those of a node's parts come before its own.
use Rattle.std.specs.Prelude.{List, [], ◌∷◌, ◌++◌, flat_map, Option, Some, None}
use Rattle.c_typed.specs.Trees

abbrev mutual
  pub types_in : {T : Type 0} → Trees.Expression T → List T
  types_in (Trees.expression t at node) = types_in_node node ++ t ∷ []

  pub types_in_node : {T : Type 0} → Trees.Node T → List T
  types_in_node (Trees.constant v) = []
  types_in_node Trees.null = []
  types_in_node (Trees.function_name f) = []
  types_in_node (Trees.load p) = types_in_path p
  types_in_node (Trees.address_of p) = types_in_path p
  types_in_node (Trees.decay p) = types_in_path p
  types_in_node (Trees.convert e written) = types_in e
  types_in_node (Trees.unary op x) = types_in x
  types_in_node (Trees.binary op x y) = types_in x ++ types_in y
  types_in_node (Trees.compare op x y) = types_in x ++ types_in y
  types_in_node (Trees.pointer_add op x y) = types_in x ++ types_in y
  types_in_node (Trees.pointer_difference x y) = types_in x ++ types_in y
  types_in_node (Trees.both x y) = types_in x ++ types_in y
  types_in_node (Trees.either x y) = types_in x ++ types_in y
  types_in_node (Trees.not x) = types_in x
  types_in_node (Trees.choose x y z) = types_in x ++ types_in y ++ types_in z
  types_in_node (Trees.comma x y) = types_in x ++ types_in y
  types_in_node (Trees.assign p x) = types_in_path p ++ types_in x
  types_in_node (Trees.assign_op op p x) = types_in_path p ++ types_in x
  types_in_node (Trees.step op before p) = types_in_path p
  types_in_node (Trees.copy_record to from) = types_in_path to ++ types_in_path from
  types_in_node (Trees.call f all) = types_in_all all
  types_in_node (Trees.call_through e all) = types_in e ++ types_in_all all
  types_in_node (Trees.library which all) = types_in_all all
  types_in_node (Trees.allocate r count zeroed) = types_in_optional count

  pub types_in_path : {T : Type 0} → Trees.Path T → List T
  types_in_path (Trees.path t at step) = types_in_step step ++ t ∷ []

  pub types_in_step : {T : Type 0} → Trees.PathNode T → List T
  types_in_step (Trees.local n) = []
  types_in_step (Trees.object n) = []
  types_in_step (Trees.deref e) = types_in e
  types_in_step (Trees.index e i) = types_in e ++ types_in i
  types_in_step (Trees.member p r field) = types_in_path p
  types_in_step (Trees.element p i) = types_in_path p ++ types_in i

  pub types_in_all : {T : Type 0} → Trees.Expressions T → List T
  types_in_all Trees.no_expressions = []
  types_in_all (Trees.and_expression e more) = types_in e ++ types_in_all more

  pub types_in_optional : {T : Type 0} → Trees.OptionalExpression T → List T
  types_in_optional Trees.no_expression = []
  types_in_optional (Trees.some_expression e) = types_in e

-- ---- initializers and statements

abbrev pub types_in_value : {T : Type 0} → Trees.PartValue T → List T
types_in_value (Trees.value e) = types_in e
types_in_value (Trees.record_of p) = types_in_path p
types_in_value (Trees.text bytes) = []

abbrev pub types_in_initializer : {T : Type 0} → Trees.Initializer T → List T
types_in_initializer (Trees.whole e) = types_in e
types_in_initializer (Trees.whole_record p) = types_in_path p
types_in_initializer (Trees.parts all) = flat_map (λ part. types_in_value part.value) all

abbrev pub types_in_initial : {T : Type 0} → Option (Trees.Initializer T) → List T
types_in_initial None = []
types_in_initial (Some initial) = types_in_initializer initial

abbrev pub types_if_any : {T : Type 0} → Option (Trees.Expression T) → List T
types_if_any None = []
types_if_any (Some e) = types_in e

abbrev mutual
  pub types_in_statement : {T : Type 0} → Trees.Statement T → List T
  types_in_statement (Trees.evaluate e) = types_in e
  types_in_statement (Trees.block locals all) = types_in_statements all
  types_in_statement (Trees.declare n initial) = types_in_initial initial
  types_in_statement (Trees.when e one) = types_in e ++ types_in_statement one
  types_in_statement (Trees.when_else e one other) = types_in e ++ types_in_statement one ++ types_in_statement other
  types_in_statement (Trees.while e body) = types_in e ++ types_in_statement body
  types_in_statement (Trees.do_while body e) = types_in_statement body ++ types_in e
  types_in_statement (Trees.for locals start test step body) = types_in_statements start ++ types_if_any test ++ types_if_any step ++ types_in_statement body
  types_in_statement (Trees.switch e locals arms) = types_in e ++ types_in_arms arms
  types_in_statement Trees.break = []
  types_in_statement Trees.continue = []
  types_in_statement (Trees.return e) = types_if_any e

  pub types_in_statements : {T : Type 0} → Trees.Statements T → List T
  types_in_statements Trees.no_statements = []
  types_in_statements (Trees.and_statement s more) = types_in_statement s ++ types_in_statements more

  pub types_in_arms : {T : Type 0} → Trees.Arms T → List T
  types_in_arms Trees.no_arms = []
  types_in_arms (Trees.and_arm cases is_default all more) = types_in_statements all ++ types_in_arms more
