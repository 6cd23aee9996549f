-- What typed trees, functions, units and programs weigh: the sum of the numbers of all kinds of things that they hold.
use Rattle.std.specs.Prelude.{ℕ, ◌+◌, List, [], ◌∷◌, Option, Some, None, if◌then◌else◌}
use Rattle.c_types.specs.Types.{Record, Field}
use Rattle.c_typed.specs.declared.program.Local.{Local}
use Rattle.c_typed.specs.Trees as Trees
use Rattle.c_typed.specs.Programs.{FunctionData, UnitData, ProgramData}
use Rattle.c_well_typed.specs.ProgramWeights.Counted.{Kind, begins, through, to_field, to_element, constant, load, conversion, pointer_sum, operator}
use Rattle.c_well_typed.specs.ProgramWeights.Counted.{assignment, call}
use Rattle.c_well_typed.specs.ProgramWeights.Counted.{argument, part, statement, arm, label, definition, parameter, named_local, block_local, structure, field}
use Rattle.c_well_typed.specs.ProgramWeights.Counted.{code, frame}

module _ (n : Kind → ℕ) where
  abbrev mutual
    pub weight : {T : Type 0} → Trees.Expression T → ℕ
    weight (Trees.expression t at node) = weight_of_node node

    pub weight_of_node : {T : Type 0} → Trees.Node T → ℕ
    weight_of_node (Trees.constant v) = n constant
    weight_of_node Trees.null = n constant
    weight_of_node (Trees.function_name f) = n constant
    weight_of_node (Trees.load p) = n load + weight_of_path p
    weight_of_node (Trees.address_of p) = n operator + weight_of_path p
    weight_of_node (Trees.decay p) = n load + weight_of_path p
    weight_of_node (Trees.convert e written) = n conversion + weight e
    weight_of_node (Trees.unary op x) = n operator + weight x
    weight_of_node (Trees.binary op x y) = n operator + weight x + weight y
    weight_of_node (Trees.compare op x y) = n operator + weight x + weight y
    weight_of_node (Trees.pointer_add op x y) = n pointer_sum + weight x + weight y
    weight_of_node (Trees.pointer_difference x y) = n operator + weight x + weight y
    weight_of_node (Trees.both x y) = n operator + weight x + weight y
    weight_of_node (Trees.either x y) = n operator + weight x + weight y
    weight_of_node (Trees.not x) = n operator + weight x
    weight_of_node (Trees.choose x y z) = n operator + weight x + weight y + weight z
    weight_of_node (Trees.comma x y) = n operator + weight x + weight y
    weight_of_node (Trees.assign p x) = n assignment + weight_of_path p + weight x
    weight_of_node (Trees.assign_op op p x) = n assignment + weight_of_path p + weight x
    weight_of_node (Trees.step op before p) = n assignment + weight_of_path p
    weight_of_node (Trees.copy_record to from) = n assignment + weight_of_path to + weight_of_path from
    weight_of_node (Trees.call f all) = n call + weight_of_all all
    weight_of_node (Trees.call_through e all) = n call + weight e + weight_of_all all
    weight_of_node (Trees.library which all) = n call + weight_of_all all
    weight_of_node (Trees.allocate r count zeroed) = n call + weight_of_count count

    pub weight_of_path : {T : Type 0} → Trees.Path T → ℕ
    weight_of_path (Trees.path t at step) = weight_of_step step

    pub weight_of_step : {T : Type 0} → Trees.PathNode T → ℕ
    weight_of_step (Trees.local k) = n begins
    weight_of_step (Trees.object k) = n begins
    weight_of_step (Trees.deref e) = n through + weight e
    weight_of_step (Trees.index e i) = n to_element + weight e + weight i
    weight_of_step (Trees.member p r k) = n to_field + weight_of_path p
    weight_of_step (Trees.element p i) = n to_element + weight_of_path p + weight i

    pub weight_of_all : {T : Type 0} → Trees.Expressions T → ℕ
    weight_of_all Trees.no_expressions = 0
    weight_of_all (Trees.and_expression e more) = n argument + weight e + weight_of_all more

    pub weight_of_count : {T : Type 0} → Trees.OptionalExpression T → ℕ
    weight_of_count Trees.no_expression = 0
    weight_of_count (Trees.some_expression e) = n argument + weight e

  -- ---- initializers

  abbrev pub weight_of_value : {T : Type 0} → Trees.PartValue T → ℕ
  weight_of_value (Trees.value e) = weight e
  weight_of_value (Trees.record_of p) = weight_of_path p
  weight_of_value (Trees.text bytes) = 0

  abbrev pub weight_of_parts : {T : Type 0} → List (Trees.Part T) → ℕ
  weight_of_parts [] = 0
  weight_of_parts (p ∷ more) = n part + weight_of_value p.value + weight_of_parts more

  abbrev pub weight_of_initializer : {T : Type 0} → Trees.Initializer T → ℕ
  weight_of_initializer (Trees.whole e) = weight e
  weight_of_initializer (Trees.whole_record p) = weight_of_path p
  weight_of_initializer (Trees.parts all) = weight_of_parts all

  abbrev pub weight_of_initial : {T : Type 0} → Option (Trees.Initializer T) → ℕ
  weight_of_initial None = 0
  weight_of_initial (Some i) = weight_of_initializer i

  -- ---- statements

  abbrev pub weight_if_any : {T : Type 0} → Option (Trees.Expression T) → ℕ
  weight_if_any None = 0
  weight_if_any (Some e) = weight e

  abbrev pub weight_of_labels : List ℕ → ℕ
  weight_of_labels [] = 0
  weight_of_labels (v ∷ more) = n label + weight_of_labels more

  abbrev mutual
    pub weight_of_statement : {T : Type 0} → Trees.Statement T → ℕ
    weight_of_statement (Trees.evaluate e) = n statement + weight e
    weight_of_statement (Trees.block locals all) = n statement + weight_of_statements all
    weight_of_statement (Trees.declare k initial) = n statement + weight_of_initial initial
    weight_of_statement (Trees.when e one) = n statement + weight e + weight_of_statement one
    weight_of_statement (Trees.when_else e one other) = n statement + weight e + weight_of_statement one + weight_of_statement other
    weight_of_statement (Trees.while e body) = n statement + weight e + weight_of_statement body
    weight_of_statement (Trees.do_while body e) = n statement + weight_of_statement body + weight e
    weight_of_statement (Trees.for locals start test step body) =
        n statement + weight_of_statements start + weight_if_any test + weight_if_any step + weight_of_statement body
    weight_of_statement (Trees.switch e locals arms) = n statement + weight e + weight_of_arms arms
    weight_of_statement Trees.break = n statement
    weight_of_statement Trees.continue = n statement
    weight_of_statement (Trees.return e) = n statement + weight_if_any e

    pub weight_of_statements : {T : Type 0} → Trees.Statements T → ℕ
    weight_of_statements Trees.no_statements = 0
    weight_of_statements (Trees.and_statement s more) = weight_of_statement s + weight_of_statements more

    pub weight_of_arms : {T : Type 0} → Trees.Arms T → ℕ
    weight_of_arms Trees.no_arms = 0
    weight_of_arms (Trees.and_arm cases is_default all more) = n arm + weight_of_labels cases + weight_of_statements all + weight_of_arms more

  -- ---- functions; one that is only declared weighs nothing

  abbrev pub weight_of_parameters : {A : Type 0} → List A → ℕ
  weight_of_parameters [] = 0
  weight_of_parameters (l ∷ more) = n parameter + weight_of_parameters more

  abbrev pub weight_of_locals : List Local → ℕ
  weight_of_locals [] = 0
  weight_of_locals (l ∷ more) = (if l.block then n block_local else n named_local) + weight_of_locals more

  abbrev pub weight_of_body : FunctionData → Option (Trees.Statement ℕ) → ℕ
  weight_of_body g None = 0
  weight_of_body g (Some body) = n definition + weight_of_parameters g.parameters + weight_of_locals g.locals + weight_of_statement body

  abbrev pub weight_of_function : FunctionData → ℕ
  weight_of_function g = weight_of_body g g.body

  abbrev pub weight_of_functions : List FunctionData → ℕ
  weight_of_functions [] = 0
  weight_of_functions (g ∷ more) = weight_of_function g + weight_of_functions more

  -- ---- records

  abbrev pub weight_of_fields : List Field → ℕ
  weight_of_fields [] = 0
  weight_of_fields (x ∷ more) = n field + weight_of_fields more

  abbrev pub weight_of_record : Record → ℕ
  weight_of_record r = n structure + weight_of_fields r.fields

  abbrev pub weight_of_records : List Record → ℕ
  weight_of_records [] = 0
  weight_of_records (r ∷ more) = weight_of_record r + weight_of_records more

  -- ---- units and programs; objects are data, and weigh nothing

  abbrev pub weight_of_unit : UnitData → ℕ
  weight_of_unit u = weight_of_functions u.functions + weight_of_records u.records

  abbrev pub weight_of_units : List UnitData → ℕ
  weight_of_units [] = 0
  weight_of_units (u ∷ more) = weight_of_unit u + weight_of_units more

  abbrev pub weight_of_program : ProgramData → ℕ
  weight_of_program p = weight_of_functions p.functions + weight_of_records p.records

-- ---- the two weights

abbrev pub code_weight : FunctionData → ℕ
code_weight g = weight_of_function code g

abbrev pub frame_weight : FunctionData → ℕ
frame_weight g = weight_of_function frame g

abbrev pub code_weight_of_unit : UnitData → ℕ
code_weight_of_unit u = weight_of_unit code u

abbrev pub code_weight_of_units : List UnitData → ℕ
code_weight_of_units units = weight_of_units code units

abbrev pub code_weight_of_program : ProgramData → ℕ
code_weight_of_program p = weight_of_program code p
