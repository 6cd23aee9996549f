-- The locals of which a typed tree takes the address by `&`, in the order of the text: these are not kept by name alone.
use Rattle.std.specs.Prelude.{ℕ, List, [], ◌∷◌, ◌++◌, flat_map, Option, Some, None}
use Rattle.c_typed.specs.Trees

abbrev pub itself : {T : Type 0} → Trees.Path T → List ℕ
itself (Trees.path t at (Trees.local n)) = n ∷ []
itself p = []

abbrev mutual
  pub addressed : {T : Type 0} → Trees.Expression T → List ℕ
  addressed (Trees.expression t at node) = addressed_by_node node

  pub addressed_by_node : {T : Type 0} → Trees.Node T → List ℕ
  addressed_by_node (Trees.constant v) = []
  addressed_by_node Trees.null = []
  addressed_by_node (Trees.function_name f) = []
  addressed_by_node (Trees.load p) = addressed_by_path p
  addressed_by_node (Trees.address_of p) = itself p ++ addressed_by_path p
  addressed_by_node (Trees.decay p) = addressed_by_path p
  addressed_by_node (Trees.convert e written) = addressed e
  addressed_by_node (Trees.unary op x) = addressed x
  addressed_by_node (Trees.binary op x y) = addressed x ++ addressed y
  addressed_by_node (Trees.compare op x y) = addressed x ++ addressed y
  addressed_by_node (Trees.pointer_add op x y) = addressed x ++ addressed y
  addressed_by_node (Trees.pointer_difference x y) = addressed x ++ addressed y
  addressed_by_node (Trees.both x y) = addressed x ++ addressed y
  addressed_by_node (Trees.either x y) = addressed x ++ addressed y
  addressed_by_node (Trees.not x) = addressed x
  addressed_by_node (Trees.choose x y z) = addressed x ++ addressed y ++ addressed z
  addressed_by_node (Trees.comma x y) = addressed x ++ addressed y
  addressed_by_node (Trees.assign p x) = addressed_by_path p ++ addressed x
  addressed_by_node (Trees.assign_op op p x) = addressed_by_path p ++ addressed x
  addressed_by_node (Trees.step op before p) = addressed_by_path p
  addressed_by_node (Trees.copy_record to from) = addressed_by_path to ++ addressed_by_path from
  addressed_by_node (Trees.call f all) = addressed_by_all all
  addressed_by_node (Trees.call_through e all) = addressed e ++ addressed_by_all all
  addressed_by_node (Trees.library which all) = addressed_by_all all
  addressed_by_node (Trees.allocate r count zeroed) = addressed_by_optional count

  pub addressed_by_path : {T : Type 0} → Trees.Path T → List ℕ
  addressed_by_path (Trees.path t at step) = addressed_by_step step

  pub addressed_by_step : {T : Type 0} → Trees.PathNode T → List ℕ
  addressed_by_step (Trees.local n) = []
  addressed_by_step (Trees.object n) = []
  addressed_by_step (Trees.deref e) = addressed e
  addressed_by_step (Trees.index e i) = addressed e ++ addressed i
  addressed_by_step (Trees.member p r field) = addressed_by_path p
  addressed_by_step (Trees.element p i) = addressed_by_path p ++ addressed i

  pub addressed_by_all : {T : Type 0} → Trees.Expressions T → List ℕ
  addressed_by_all Trees.no_expressions = []
  addressed_by_all (Trees.and_expression e more) = addressed e ++ addressed_by_all more

  pub addressed_by_optional : {T : Type 0} → Trees.OptionalExpression T → List ℕ
  addressed_by_optional Trees.no_expression = []
  addressed_by_optional (Trees.some_expression e) = addressed e

-- ---- initializers and statements

abbrev pub addressed_by_value : {T : Type 0} → Trees.PartValue T → List ℕ
addressed_by_value (Trees.value e) = addressed e
addressed_by_value (Trees.record_of p) = addressed_by_path p
addressed_by_value (Trees.text bytes) = []

abbrev pub addressed_by_initializer : {T : Type 0} → Trees.Initializer T → List ℕ
addressed_by_initializer (Trees.whole e) = addressed e
addressed_by_initializer (Trees.whole_record p) = addressed_by_path p
addressed_by_initializer (Trees.parts all) = flat_map (λ part. addressed_by_value part.value) all

abbrev pub addressed_by_initial : {T : Type 0} → Option (Trees.Initializer T) → List ℕ
addressed_by_initial None = []
addressed_by_initial (Some initial) = addressed_by_initializer initial

abbrev pub addressed_if_any : {T : Type 0} → Option (Trees.Expression T) → List ℕ
addressed_if_any None = []
addressed_if_any (Some e) = addressed e

abbrev mutual
  pub addressed_by_statement : {T : Type 0} → Trees.Statement T → List ℕ
  addressed_by_statement (Trees.evaluate e) = addressed e
  addressed_by_statement (Trees.block locals all) = addressed_by_statements all
  addressed_by_statement (Trees.declare n initial) = addressed_by_initial initial
  addressed_by_statement (Trees.when e one) = addressed e ++ addressed_by_statement one
  addressed_by_statement (Trees.when_else e one other) = addressed e ++ addressed_by_statement one ++ addressed_by_statement other
  addressed_by_statement (Trees.while e body) = addressed e ++ addressed_by_statement body
  addressed_by_statement (Trees.do_while body e) = addressed_by_statement body ++ addressed e
  addressed_by_statement (Trees.for locals start test step body) = addressed_by_statements start ++ addressed_if_any test ++ addressed_if_any step
      ++ addressed_by_statement body
  addressed_by_statement (Trees.switch e locals arms) = addressed e ++ addressed_by_arms arms
  addressed_by_statement Trees.break = []
  addressed_by_statement Trees.continue = []
  addressed_by_statement (Trees.return e) = addressed_if_any e

  pub addressed_by_statements : {T : Type 0} → Trees.Statements T → List ℕ
  addressed_by_statements Trees.no_statements = []
  addressed_by_statements (Trees.and_statement s more) = addressed_by_statement s ++ addressed_by_statements more

  pub addressed_by_arms : {T : Type 0} → Trees.Arms T → List ℕ
  addressed_by_arms Trees.no_arms = []
  addressed_by_arms (Trees.and_arm cases is_default all more) = addressed_by_statements all ++ addressed_by_arms more
