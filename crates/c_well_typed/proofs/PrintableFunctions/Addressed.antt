-- The locals of which a tree takes the address are the same with other things for its types and numbers.
use Rattle.std.proofs.Common.{◌≡◌, ℕ, refl, List, [], ◌∷◌, ◌++◌, map, flat_map, Some, None}
use Rattle.std.specs.Prelude.{Option}
use Rattle.std.specs.Option.{option_map}
use Rattle.c_typed.specs.Addressed.{itself, addressed, addressed_by_node, addressed_by_path, addressed_by_step, addressed_by_all, addressed_by_optional}
use Rattle.c_typed.specs.Addressed.{addressed_by_value, addressed_by_initializer, addressed_by_initial, addressed_if_any, addressed_by_statement}
use Rattle.c_typed.specs.Addressed.{addressed_by_statements, addressed_by_arms}
use Rattle.c_typed.specs.Mapped.{Renaming, mapped, mapped_node, mapped_path, mapped_step, mapped_all, mapped_if_any, mapped_value, mapped_part}
use Rattle.c_typed.specs.Mapped.{mapped_initializer, mapped_statement, mapped_statements, mapped_arms}
use Rattle.c_typed.specs.Trees as Trees

both : {a b c d : List ℕ} → a ≡ b → c ≡ d → a ++ c ≡ b ++ d
both {a} {b} {c} {d} e f = rw (e, f) refl

module _ {T S : Type 0} (m : Renaming T S) where
  itself_same : (p : Trees.Path T) → itself (mapped_path m p) ≡ itself p
  itself_same (Trees.path t at (Trees.local n)) = refl
  itself_same (Trees.path t at step) = refl

  mutual
    same : (e : Trees.Expression T) → addressed (mapped m e) ≡ addressed e
    same (Trees.expression t at node) = of_node node

    of_node : (node : Trees.Node T) → addressed_by_node (mapped_node m node) ≡ addressed_by_node node
    of_node (Trees.constant v) = refl
    of_node Trees.null = refl
    of_node (Trees.function_name f) = refl
    of_node (Trees.load p) = of_path p
    of_node (Trees.address_of p) = both (itself_same p) (of_path p)
    of_node (Trees.decay p) = of_path p
    of_node (Trees.convert e written) = same e
    of_node (Trees.unary op x) = same x
    of_node (Trees.binary op x y) = both (same x) (same y)
    of_node (Trees.compare op x y) = both (same x) (same y)
    of_node (Trees.pointer_add op x y) = both (same x) (same y)
    of_node (Trees.pointer_difference x y) = both (same x) (same y)
    of_node (Trees.both x y) = both (same x) (same y)
    of_node (Trees.either x y) = both (same x) (same y)
    of_node (Trees.not x) = same x
    of_node (Trees.choose x y z) = both (both (same x) (same y)) (same z)
    of_node (Trees.comma x y) = both (same x) (same y)
    of_node (Trees.assign p x) = both (of_path p) (same x)
    of_node (Trees.assign_op op p x) = both (of_path p) (same x)
    of_node (Trees.step op before p) = of_path p
    of_node (Trees.copy_record to from) = both (of_path to) (of_path from)
    of_node (Trees.call f all) = of_all all
    of_node (Trees.call_through e all) = both (same e) (of_all all)
    of_node (Trees.library which all) = of_all all
    of_node (Trees.allocate r count zeroed) = of_optional count

    of_path : (p : Trees.Path T) → addressed_by_path (mapped_path m p) ≡ addressed_by_path p
    of_path (Trees.path t at step) = of_step step

    of_step : (step : Trees.PathNode T) → addressed_by_step (mapped_step m step) ≡ addressed_by_step step
    of_step (Trees.local n) = refl
    of_step (Trees.object n) = refl
    of_step (Trees.deref e) = same e
    of_step (Trees.index e i) = both (same e) (same i)
    of_step (Trees.member p r field) = of_path p
    of_step (Trees.element p i) = both (of_path p) (same i)

    of_all : (all : Trees.Expressions T) → addressed_by_all (mapped_all m all) ≡ addressed_by_all all
    of_all Trees.no_expressions = refl
    of_all (Trees.and_expression e more) = both (same e) (of_all more)

    of_optional : (e : Trees.OptionalExpression T) → addressed_by_optional (mapped_if_any m e) ≡ addressed_by_optional e
    of_optional Trees.no_expression = refl
    of_optional (Trees.some_expression e) = same e

  -- ---- initializers and statements

  of_value : (v : Trees.PartValue T) → addressed_by_value (mapped_value m v) ≡ addressed_by_value v
  of_value (Trees.value e) = same e
  of_value (Trees.record_of p) = of_path p
  of_value (Trees.text bytes) = refl

  of_parts : (all : List (Trees.Part T)) → flat_map (λ part. addressed_by_value part.value) (map (mapped_part m) all)
      ≡ flat_map (λ part. addressed_by_value part.value) all
  of_parts [] = refl
  of_parts (part ∷ all) = both (of_value part.value) (of_parts all)

  of_initializer : (i : Trees.Initializer T) → addressed_by_initializer (mapped_initializer m i) ≡ addressed_by_initializer i
  of_initializer (Trees.whole e) = same e
  of_initializer (Trees.whole_record p) = of_path p
  of_initializer (Trees.parts all) = of_parts all

  of_initial : (i : Option (Trees.Initializer T)) → addressed_by_initial (option_map (mapped_initializer m) i) ≡ addressed_by_initial i
  of_initial None = refl
  of_initial (Some i) = of_initializer i

  if_any : (e : Option (Trees.Expression T)) → addressed_if_any (option_map (mapped m) e) ≡ addressed_if_any e
  if_any None = refl
  if_any (Some e) = same e

  mutual
    pub statement_same : (s : Trees.Statement T) → addressed_by_statement (mapped_statement m s) ≡ addressed_by_statement s
    statement_same (Trees.evaluate e) = same e
    statement_same (Trees.block locals all) = statements_same all
    statement_same (Trees.declare n initial) = of_initial initial
    statement_same (Trees.when e one) = both (same e) (statement_same one)
    statement_same (Trees.when_else e one other) = both (both (same e) (statement_same one)) (statement_same other)
    statement_same (Trees.while e body) = both (same e) (statement_same body)
    statement_same (Trees.do_while body e) = both (statement_same body) (same e)
    statement_same (Trees.for locals start test step body) =
        both (both (both (statements_same start) (if_any test)) (if_any step)) (statement_same body)
    statement_same (Trees.switch e locals arms) = both (same e) (arms_same arms)
    statement_same Trees.break = refl
    statement_same Trees.continue = refl
    statement_same (Trees.return e) = if_any e

    statements_same : (all : Trees.Statements T) → addressed_by_statements (mapped_statements m all) ≡ addressed_by_statements all
    statements_same Trees.no_statements = refl
    statements_same (Trees.and_statement s more) = both (statement_same s) (statements_same more)

    arms_same : (arms : Trees.Arms T) → addressed_by_arms (mapped_arms m arms) ≡ addressed_by_arms arms
    arms_same Trees.no_arms = refl
    arms_same (Trees.and_arm cases is_default all more) = both (statements_same all) (arms_same more)
