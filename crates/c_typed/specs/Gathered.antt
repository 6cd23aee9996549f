-- What the expressions in a typed tree have, each that of its own and then that of its parts, in the order of the text.
use Rattle.std.specs.Prelude.{List, [], ◌++◌, flat_map, Option, Some, None}
use Rattle.c_typed.specs.Trees

module _ {T X : Type 0} (own : Trees.Expression T → List X) where
  abbrev mutual
    pub gathered : Trees.Expression T → List X
    gathered (Trees.expression t at node) = own (Trees.expression t at node) ++ gathered_from_parts node

    pub gathered_from_parts : Trees.Node T → List X
    gathered_from_parts (Trees.constant v) = []
    gathered_from_parts Trees.null = []
    gathered_from_parts (Trees.function_name f) = []
    gathered_from_parts (Trees.load p) = gathered_from_path p
    gathered_from_parts (Trees.address_of p) = gathered_from_path p
    gathered_from_parts (Trees.decay p) = gathered_from_path p
    gathered_from_parts (Trees.convert e written) = gathered e
    gathered_from_parts (Trees.unary op x) = gathered x
    gathered_from_parts (Trees.binary op x y) = gathered x ++ gathered y
    gathered_from_parts (Trees.compare op x y) = gathered x ++ gathered y
    gathered_from_parts (Trees.pointer_add op x y) = gathered x ++ gathered y
    gathered_from_parts (Trees.pointer_difference x y) = gathered x ++ gathered y
    gathered_from_parts (Trees.both x y) = gathered x ++ gathered y
    gathered_from_parts (Trees.either x y) = gathered x ++ gathered y
    gathered_from_parts (Trees.not x) = gathered x
    gathered_from_parts (Trees.choose x y z) = gathered x ++ gathered y ++ gathered z
    gathered_from_parts (Trees.comma x y) = gathered x ++ gathered y
    gathered_from_parts (Trees.assign p x) = gathered_from_path p ++ gathered x
    gathered_from_parts (Trees.assign_op op p x) = gathered_from_path p ++ gathered x
    gathered_from_parts (Trees.step op before p) = gathered_from_path p
    gathered_from_parts (Trees.copy_record to from) = gathered_from_path to ++ gathered_from_path from
    gathered_from_parts (Trees.call f all) = gathered_from_all all
    gathered_from_parts (Trees.call_through e all) = gathered e ++ gathered_from_all all
    gathered_from_parts (Trees.library which all) = gathered_from_all all
    gathered_from_parts (Trees.allocate r count zeroed) = gathered_if_any count

    pub gathered_from_path : Trees.Path T → List X
    gathered_from_path (Trees.path t at step) = gathered_from_step step

    pub gathered_from_step : Trees.PathNode T → List X
    gathered_from_step (Trees.local n) = []
    gathered_from_step (Trees.object n) = []
    gathered_from_step (Trees.deref e) = gathered e
    gathered_from_step (Trees.index e i) = gathered e ++ gathered i
    gathered_from_step (Trees.member p r field) = gathered_from_path p
    gathered_from_step (Trees.element p i) = gathered_from_path p ++ gathered i

    pub gathered_from_all : Trees.Expressions T → List X
    gathered_from_all Trees.no_expressions = []
    gathered_from_all (Trees.and_expression e more) = gathered e ++ gathered_from_all more

    pub gathered_if_any : Trees.OptionalExpression T → List X
    gathered_if_any Trees.no_expression = []
    gathered_if_any (Trees.some_expression e) = gathered e

  -- ---- initializers and statements

  abbrev pub gathered_from_value : Trees.PartValue T → List X
  gathered_from_value (Trees.value e) = gathered e
  gathered_from_value (Trees.record_of p) = gathered_from_path p
  gathered_from_value (Trees.text bytes) = []

  abbrev pub gathered_from_part : Trees.Part T → List X
  gathered_from_part part = gathered_from_value part.value

  abbrev pub gathered_from_initializer : Trees.Initializer T → List X
  gathered_from_initializer (Trees.whole e) = gathered e
  gathered_from_initializer (Trees.whole_record p) = gathered_from_path p
  gathered_from_initializer (Trees.parts all) = flat_map gathered_from_part all

  abbrev pub gathered_from_initial : Option (Trees.Initializer T) → List X
  gathered_from_initial None = []
  gathered_from_initial (Some i) = gathered_from_initializer i

  abbrev pub gathered_from_optional : Option (Trees.Expression T) → List X
  gathered_from_optional None = []
  gathered_from_optional (Some e) = gathered e

  abbrev mutual
    pub gathered_from_statement : Trees.Statement T → List X
    gathered_from_statement (Trees.evaluate e) = gathered e
    gathered_from_statement (Trees.block locals all) = gathered_from_statements all
    gathered_from_statement (Trees.declare n initial) = gathered_from_initial initial
    gathered_from_statement (Trees.when e one) = gathered e ++ gathered_from_statement one
    gathered_from_statement (Trees.when_else e one other) = gathered e ++ gathered_from_statement one ++ gathered_from_statement other
    gathered_from_statement (Trees.while e body) = gathered e ++ gathered_from_statement body
    gathered_from_statement (Trees.do_while body e) = gathered_from_statement body ++ gathered e
    gathered_from_statement (Trees.for locals start test step body) =
        gathered_from_statements start ++ gathered_from_optional test ++ gathered_from_optional step ++ gathered_from_statement body
    gathered_from_statement (Trees.switch e locals arms) = gathered e ++ gathered_from_arms arms
    gathered_from_statement Trees.break = []
    gathered_from_statement Trees.continue = []
    gathered_from_statement (Trees.return e) = gathered_from_optional e

    pub gathered_from_statements : Trees.Statements T → List X
    gathered_from_statements Trees.no_statements = []
    gathered_from_statements (Trees.and_statement s more) = gathered_from_statement s ++ gathered_from_statements more

    pub gathered_from_arms : Trees.Arms T → List X
    gathered_from_arms Trees.no_arms = []
    gathered_from_arms (Trees.and_arm cases is_default all more) = gathered_from_statements all ++ gathered_from_arms more
