-- A typed tree with its nodes changed, from the leaves up.
use Rattle.std.specs.Prelude.{map}
use Rattle.std.specs.Option.{option_map}
use Rattle.lay_base.specs.declared.place.Place.{Place}
use Rattle.c_typed.specs.Trees

-- what an expression or a path becomes: of its own it has its type and its place, and the parts of its node are changed
pub record Change (T S : Type 0) : Type 0 where
  pub expression : T → Place → Trees.Node S → Trees.Expression S
  pub path : T → Place → Trees.PathNode S → Trees.Path S

module _ {T S : Type 0} (change : Change T S) where
  abbrev mutual
    pub changed : Trees.Expression T → Trees.Expression S
    changed (Trees.expression t at node) = change.expression t at (changed_parts node)

    -- a node with its parts changed
    pub changed_parts : Trees.Node T → Trees.Node S
    changed_parts (Trees.constant v) = Trees.constant v
    changed_parts Trees.null = Trees.null
    changed_parts (Trees.function_name f) = Trees.function_name f
    changed_parts (Trees.load p) = Trees.load (changed_path p)
    changed_parts (Trees.address_of p) = Trees.address_of (changed_path p)
    changed_parts (Trees.decay p) = Trees.decay (changed_path p)
    changed_parts (Trees.convert e written) = Trees.convert (changed e) written
    changed_parts (Trees.unary op x) = Trees.unary op (changed x)
    changed_parts (Trees.binary op x y) = Trees.binary op (changed x) (changed y)
    changed_parts (Trees.compare op x y) = Trees.compare op (changed x) (changed y)
    changed_parts (Trees.pointer_add op x y) = Trees.pointer_add op (changed x) (changed y)
    changed_parts (Trees.pointer_difference x y) = Trees.pointer_difference (changed x) (changed y)
    changed_parts (Trees.both x y) = Trees.both (changed x) (changed y)
    changed_parts (Trees.either x y) = Trees.either (changed x) (changed y)
    changed_parts (Trees.not x) = Trees.not (changed x)
    changed_parts (Trees.choose x y z) = Trees.choose (changed x) (changed y) (changed z)
    changed_parts (Trees.comma x y) = Trees.comma (changed x) (changed y)
    changed_parts (Trees.assign p x) = Trees.assign (changed_path p) (changed x)
    changed_parts (Trees.assign_op op p x) = Trees.assign_op op (changed_path p) (changed x)
    changed_parts (Trees.step op before p) = Trees.step op before (changed_path p)
    changed_parts (Trees.copy_record to from) = Trees.copy_record (changed_path to) (changed_path from)
    changed_parts (Trees.call f all) = Trees.call f (changed_all all)
    changed_parts (Trees.call_through e all) = Trees.call_through (changed e) (changed_all all)
    changed_parts (Trees.library which all) = Trees.library which (changed_all all)
    changed_parts (Trees.allocate r count zeroed) = Trees.allocate r (changed_if_any count) zeroed

    pub changed_path : Trees.Path T → Trees.Path S
    changed_path (Trees.path t at step) = change.path t at (changed_step step)

    pub changed_step : Trees.PathNode T → Trees.PathNode S
    changed_step (Trees.local n) = Trees.local n
    changed_step (Trees.object n) = Trees.object n
    changed_step (Trees.deref e) = Trees.deref (changed e)
    changed_step (Trees.index e i) = Trees.index (changed e) (changed i)
    changed_step (Trees.member p r field) = Trees.member (changed_path p) r field
    changed_step (Trees.element p i) = Trees.element (changed_path p) (changed i)

    pub changed_all : Trees.Expressions T → Trees.Expressions S
    changed_all Trees.no_expressions = Trees.no_expressions
    changed_all (Trees.and_expression e more) = Trees.and_expression (changed e) (changed_all more)

    pub changed_if_any : Trees.OptionalExpression T → Trees.OptionalExpression S
    changed_if_any Trees.no_expression = Trees.no_expression
    changed_if_any (Trees.some_expression e) = Trees.some_expression (changed e)

  -- ---- initializers and statements

  abbrev pub changed_value : Trees.PartValue T → Trees.PartValue S
  changed_value (Trees.value e) = Trees.value (changed e)
  changed_value (Trees.record_of p) = Trees.record_of (changed_path p)
  changed_value (Trees.text bytes) = Trees.text bytes

  abbrev pub changed_part : Trees.Part T → Trees.Part S
  changed_part part = record { offset = part.offset; value = changed_value part.value }

  abbrev pub changed_initializer : Trees.Initializer T → Trees.Initializer S
  changed_initializer (Trees.whole e) = Trees.whole (changed e)
  changed_initializer (Trees.whole_record p) = Trees.whole_record (changed_path p)
  changed_initializer (Trees.parts all) = Trees.parts (map changed_part all)

  abbrev mutual
    pub changed_statement : Trees.Statement T → Trees.Statement S
    changed_statement (Trees.evaluate e) = Trees.evaluate (changed e)
    changed_statement (Trees.block locals all) = Trees.block locals (changed_statements all)
    changed_statement (Trees.declare n initial) = Trees.declare n (option_map changed_initializer initial)
    changed_statement (Trees.when e one) = Trees.when (changed e) (changed_statement one)
    changed_statement (Trees.when_else e one other) = Trees.when_else (changed e) (changed_statement one) (changed_statement other)
    changed_statement (Trees.while e body) = Trees.while (changed e) (changed_statement body)
    changed_statement (Trees.do_while body e) = Trees.do_while (changed_statement body) (changed e)
    changed_statement (Trees.for locals start test step body) =
        Trees.for locals (changed_statements start) (option_map changed test) (option_map changed step) (changed_statement body)
    changed_statement (Trees.switch e locals arms) = Trees.switch (changed e) locals (changed_arms arms)
    changed_statement Trees.break = Trees.break
    changed_statement Trees.continue = Trees.continue
    changed_statement (Trees.return e) = Trees.return (option_map changed e)

    pub changed_statements : Trees.Statements T → Trees.Statements S
    changed_statements Trees.no_statements = Trees.no_statements
    changed_statements (Trees.and_statement s more) = Trees.and_statement (changed_statement s) (changed_statements more)

    pub changed_arms : Trees.Arms T → Trees.Arms S
    changed_arms Trees.no_arms = Trees.no_arms
    changed_arms (Trees.and_arm cases is_default all more) = Trees.and_arm cases is_default (changed_statements all) (changed_arms more)
