-- The types of a tree with other things in place of its types.
use Rattle.std.proofs.Common.{◌≡◌, refl, sym, List, [], ◌∷◌, ◌++◌, map, flat_map}
use Rattle.std.specs.Prelude.{Option, Some, None}
use Rattle.std.specs.Option.{option_map}
use Rattle.std.proofs.lemmas.List.{map-append}
use Rattle.c_typed.specs.Mapped.{Renaming, mapped, mapped_node, mapped_path, mapped_step, mapped_all, mapped_if_any, mapped_value, mapped_part}
use Rattle.c_typed.specs.Mapped.{mapped_initializer, mapped_statement, mapped_statements, mapped_arms}
use Rattle.c_typed.specs.Trees as Trees
use Rattle.c_typed.specs.Walk.{types_in, types_in_node, types_in_path, types_in_step, types_in_all, types_in_optional, types_in_value, types_in_initializer}
use Rattle.c_typed.specs.Walk.{types_in_initial, types_if_any, types_in_statement, types_in_statements, types_in_arms}

two : {T S : Type 0} (f : T → S) (a b : List T) (c d : List S) → c ≡ map f a → d ≡ map f b → c ++ d ≡ map f (a ++ b)
two f a b c d e h = rw (e, h) (sym (map-append f a b))

-- the types of one tree, and those of the other
record AreMapped {T S : Type 0} (f : T → S) (a : List T) (c : List S) : Type 0 where
  pub are : c ≡ map f a

module _ {T S : Type 0} (m : Renaming T S) where
  both : {a b : List T} {c d : List S} → AreMapped m.ty a c → AreMapped m.ty b d → AreMapped m.ty (a ++ b) (c ++ d)
  both {a} {b} {c} {d} e h = record { are = two m.ty a b c d e.are h.are }

  none : AreMapped m.ty [] []
  none = record { are = refl }

  one : (t : T) → AreMapped m.ty (t ∷ []) (m.ty t ∷ [])
  one t = record { are = refl }

  mutual
    of_expression : (e : Trees.Expression T) → AreMapped m.ty (types_in e) (types_in (mapped m e))
    of_expression (Trees.expression t at node) = both (of_node node) (one t)

    of_node : (node : Trees.Node T) → AreMapped m.ty (types_in_node node) (types_in_node (mapped_node m node))
    of_node (Trees.constant v) = none
    of_node Trees.null = none
    of_node (Trees.function_name f) = none
    of_node (Trees.load p) = of_path p
    of_node (Trees.address_of p) = of_path p
    of_node (Trees.decay p) = of_path p
    of_node (Trees.convert e written) = of_expression e
    of_node (Trees.unary op x) = of_expression x
    of_node (Trees.binary op x y) = both (of_expression x) (of_expression y)
    of_node (Trees.compare op x y) = both (of_expression x) (of_expression y)
    of_node (Trees.pointer_add op x y) = both (of_expression x) (of_expression y)
    of_node (Trees.pointer_difference x y) = both (of_expression x) (of_expression y)
    of_node (Trees.both x y) = both (of_expression x) (of_expression y)
    of_node (Trees.either x y) = both (of_expression x) (of_expression y)
    of_node (Trees.not x) = of_expression x
    of_node (Trees.choose x y z) = both (both (of_expression x) (of_expression y)) (of_expression z)
    of_node (Trees.comma x y) = both (of_expression x) (of_expression y)
    of_node (Trees.assign p x) = both (of_path p) (of_expression x)
    of_node (Trees.assign_op op p x) = both (of_path p) (of_expression x)
    of_node (Trees.step op before p) = of_path p
    of_node (Trees.copy_record to from) = both (of_path to) (of_path from)
    of_node (Trees.call f all) = of_all all
    of_node (Trees.call_through e all) = both (of_expression e) (of_all all)
    of_node (Trees.library which all) = of_all all
    of_node (Trees.allocate r count zeroed) = of_optional count

    of_path : (p : Trees.Path T) → AreMapped m.ty (types_in_path p) (types_in_path (mapped_path m p))
    of_path (Trees.path t at step) = both (of_step step) (one t)

    of_step : (step : Trees.PathNode T) → AreMapped m.ty (types_in_step step) (types_in_step (mapped_step m step))
    of_step (Trees.local n) = none
    of_step (Trees.object n) = none
    of_step (Trees.deref e) = of_expression e
    of_step (Trees.index e i) = both (of_expression e) (of_expression i)
    of_step (Trees.member p r field) = of_path p
    of_step (Trees.element p i) = both (of_path p) (of_expression i)

    of_all : (all : Trees.Expressions T) → AreMapped m.ty (types_in_all all) (types_in_all (mapped_all m all))
    of_all Trees.no_expressions = none
    of_all (Trees.and_expression e more) = both (of_expression e) (of_all more)

    of_optional : (e : Trees.OptionalExpression T) → AreMapped m.ty (types_in_optional e) (types_in_optional (mapped_if_any m e))
    of_optional Trees.no_expression = none
    of_optional (Trees.some_expression e) = of_expression e

  -- ---- initializers and statements

  of_value : (v : Trees.PartValue T) → AreMapped m.ty (types_in_value v) (types_in_value (mapped_value m v))
  of_value (Trees.value e) = of_expression e
  of_value (Trees.record_of p) = of_path p
  of_value (Trees.text bytes) = none

  of_parts : (all : List (Trees.Part T)) → AreMapped m.ty (flat_map (λ part. types_in_value part.value) all)
      (flat_map (λ part. types_in_value part.value) (map (mapped_part m) all))
  of_parts [] = none
  of_parts (part ∷ all) = both (of_value part.value) (of_parts all)

  of_initializer : (i : Trees.Initializer T) → AreMapped m.ty (types_in_initializer i) (types_in_initializer (mapped_initializer m i))
  of_initializer (Trees.whole e) = of_expression e
  of_initializer (Trees.whole_record p) = of_path p
  of_initializer (Trees.parts all) = of_parts all

  of_initial : (i : Option (Trees.Initializer T)) → AreMapped m.ty (types_in_initial i) (types_in_initial (option_map (mapped_initializer m) i))
  of_initial None = none
  of_initial (Some i) = of_initializer i

  of_one : (e : Option (Trees.Expression T)) → AreMapped m.ty (types_if_any e) (types_if_any (option_map (mapped m) e))
  of_one None = none
  of_one (Some e) = of_expression e

  mutual
    of_statement : (s : Trees.Statement T) → AreMapped m.ty (types_in_statement s) (types_in_statement (mapped_statement m s))
    of_statement (Trees.evaluate e) = of_expression e
    of_statement (Trees.block locals all) = of_statements all
    of_statement (Trees.declare n initial) = of_initial initial
    of_statement (Trees.when e one) = both (of_expression e) (of_statement one)
    of_statement (Trees.when_else e one other) = both (both (of_expression e) (of_statement one)) (of_statement other)
    of_statement (Trees.while e body) = both (of_expression e) (of_statement body)
    of_statement (Trees.do_while body e) = both (of_statement body) (of_expression e)
    of_statement (Trees.for locals start test step body) = both (both (both (of_statements start) (of_one test)) (of_one step)) (of_statement body)
    of_statement (Trees.switch e locals arms) = both (of_expression e) (of_arms arms)
    of_statement Trees.break = none
    of_statement Trees.continue = none
    of_statement (Trees.return e) = of_one e

    of_statements : (all : Trees.Statements T) → AreMapped m.ty (types_in_statements all) (types_in_statements (mapped_statements m all))
    of_statements Trees.no_statements = none
    of_statements (Trees.and_statement s more) = both (of_statement s) (of_statements more)

    of_arms : (arms : Trees.Arms T) → AreMapped m.ty (types_in_arms arms) (types_in_arms (mapped_arms m arms))
    of_arms Trees.no_arms = none
    of_arms (Trees.and_arm cases is_default all more) = both (of_statements all) (of_arms more)

  pub types_of_statement : (s : Trees.Statement T) → types_in_statement (mapped_statement m s) ≡ map m.ty (types_in_statement s)
  types_of_statement s = (of_statement s).are
