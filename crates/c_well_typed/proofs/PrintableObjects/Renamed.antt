-- A typed tree with other numbers refers to what stands for its objects and functions there, in the same order.
use Rattle.std.proofs.Common.{◌≡◌, ◌∙◌, refl, sym, ap, List, [], ◌∷◌, ◌++◌, map, flat_map}
use Rattle.std.proofs.lemmas.List.{map-append}
use Rattle.std.specs.Prelude.{Option, Some, None}
use Rattle.std.specs.Option.{option_map}
use Rattle.c_typed.specs.Mapped.{Renaming, of_types, mapped, mapped_node, mapped_path, mapped_step, mapped_all, mapped_if_any}
use Rattle.c_typed.specs.Mapped.{mapped_value, mapped_part, mapped_initializer, mapped_statement, mapped_statements, mapped_arms}
use Rattle.c_typed.specs.References.{Reference, an_object, a_function, references, references_by_node, references_by_path, references_by_step}
use Rattle.c_typed.specs.References.{references_by_all, references_by_optional, references_by_value, references_by_initializer, references_by_initial}
use Rattle.c_typed.specs.References.{references_if_any, references_by_statement, references_by_statements, references_by_arms}
use Rattle.c_typed.specs.Trees as Trees

module _ {T S : Type 0} (m : Renaming T S) where
  abbrev pub renamed : Reference → Reference
  renamed (an_object n) = an_object (m.object n)
  renamed (a_function f) = a_function (m.function f)

  abbrev Same : List Reference → List Reference → Type 0
  Same new old = new ≡ map renamed old

  two : (a b c d : List Reference) → Same a c → Same b d → Same (a ++ b) (c ++ d)
  two a b c d h k = rw (h, k) (sym (map-append renamed c d))

  pairs : (x y : Trees.Expression T) → Same (references (mapped m x)) (references x) → Same (references (mapped m y)) (references y)
      → Same (references (mapped m x) ++ references (mapped m y)) (references x ++ references y)
  pairs x y h k = two (references (mapped m x)) (references (mapped m y)) (references x) (references y) h k

  with_path : (p : Trees.Path T) (x : Trees.Expression T) → Same (references_by_path (mapped_path m p)) (references_by_path p)
      → Same (references (mapped m x)) (references x)
      → Same (references_by_path (mapped_path m p) ++ references (mapped m x)) (references_by_path p ++ references x)
  with_path p x h k = two (references_by_path (mapped_path m p)) (references (mapped m x)) (references_by_path p) (references x) h k

  mutual
    expression_same : (e : Trees.Expression T) → Same (references (mapped m e)) (references e)
    expression_same (Trees.expression t at node) = node_same node

    node_same : (node : Trees.Node T) → Same (references_by_node (mapped_node m node)) (references_by_node node)
    node_same (Trees.constant v) = refl
    node_same Trees.null = refl
    node_same (Trees.function_name g) = refl
    node_same (Trees.load p) = path_same p
    node_same (Trees.address_of p) = path_same p
    node_same (Trees.decay p) = path_same p
    node_same (Trees.convert e written) = expression_same e
    node_same (Trees.unary op x) = expression_same x
    node_same (Trees.binary op x y) = pairs x y (expression_same x) (expression_same y)
    node_same (Trees.compare op x y) = pairs x y (expression_same x) (expression_same y)
    node_same (Trees.pointer_add op x y) = pairs x y (expression_same x) (expression_same y)
    node_same (Trees.pointer_difference x y) = pairs x y (expression_same x) (expression_same y)
    node_same (Trees.both x y) = pairs x y (expression_same x) (expression_same y)
    node_same (Trees.either x y) = pairs x y (expression_same x) (expression_same y)
    node_same (Trees.not x) = expression_same x
    node_same (Trees.choose x y z) =
        two (references (mapped m x) ++ references (mapped m y)) (references (mapped m z)) (references x ++ references y) (references z)
        (pairs x y (expression_same x) (expression_same y)) (expression_same z)
    node_same (Trees.comma x y) = pairs x y (expression_same x) (expression_same y)
    node_same (Trees.assign p x) = with_path p x (path_same p) (expression_same x)
    node_same (Trees.assign_op op p x) = with_path p x (path_same p) (expression_same x)
    node_same (Trees.step op before p) = path_same p
    node_same (Trees.copy_record to from) =
        two (references_by_path (mapped_path m to)) (references_by_path (mapped_path m from)) (references_by_path to) (references_by_path from)
        (path_same to) (path_same from)
    node_same (Trees.call g all) = ap (λ own. a_function (m.function g) ∷ own) (all_same all)
    node_same (Trees.call_through e all) =
        two (references (mapped m e)) (references_by_all (mapped_all m all)) (references e) (references_by_all all) (expression_same e) (all_same all)
    node_same (Trees.library which all) = all_same all
    node_same (Trees.allocate r n zeroed) = count_same n

    path_same : (p : Trees.Path T) → Same (references_by_path (mapped_path m p)) (references_by_path p)
    path_same (Trees.path t at step) = step_same step

    step_same : (step : Trees.PathNode T) → Same (references_by_step (mapped_step m step)) (references_by_step step)
    step_same (Trees.local n) = refl
    step_same (Trees.object n) = refl
    step_same (Trees.deref e) = expression_same e
    step_same (Trees.index e i) = pairs e i (expression_same e) (expression_same i)
    step_same (Trees.member p r field) = path_same p
    step_same (Trees.element p i) = with_path p i (path_same p) (expression_same i)

    all_same : (all : Trees.Expressions T) → Same (references_by_all (mapped_all m all)) (references_by_all all)
    all_same Trees.no_expressions = refl
    all_same (Trees.and_expression e more) =
        two (references (mapped m e)) (references_by_all (mapped_all m more)) (references e) (references_by_all more) (expression_same e) (all_same more)

    count_same : (n : Trees.OptionalExpression T) → Same (references_by_optional (mapped_if_any m n)) (references_by_optional n)
    count_same Trees.no_expression = refl
    count_same (Trees.some_expression e) = expression_same e

  -- ---- initializers and statements

  value_same : (v : Trees.PartValue T) → Same (references_by_value (mapped_value m v)) (references_by_value v)
  value_same (Trees.value e) = expression_same e
  value_same (Trees.record_of p) = path_same p
  value_same (Trees.text bytes) = refl

  parts_same : (all : List (Trees.Part T)) → Same (flat_map (λ part. references_by_value part.value) (map (mapped_part m) all))
      (flat_map (λ part. references_by_value part.value) all)
  parts_same [] = refl
  parts_same (part ∷ all) =
      two (references_by_value (mapped_value m part.value)) (flat_map (λ part. references_by_value part.value) (map (mapped_part m) all))
      (references_by_value part.value) (flat_map (λ part. references_by_value part.value) all) (value_same part.value) (parts_same all)

  initializer_same : (i : Trees.Initializer T) → Same (references_by_initializer (mapped_initializer m i)) (references_by_initializer i)
  initializer_same (Trees.whole e) = expression_same e
  initializer_same (Trees.whole_record p) = path_same p
  initializer_same (Trees.parts all) = parts_same all

  initial_same : (i : Option (Trees.Initializer T)) → Same (references_by_initial (option_map (mapped_initializer m) i)) (references_by_initial i)
  initial_same None = refl
  initial_same (Some i) = initializer_same i

  if_any_same : (e : Option (Trees.Expression T)) → Same (references_if_any (option_map (mapped m) e)) (references_if_any e)
  if_any_same None = refl
  if_any_same (Some e) = expression_same e

  abbrev Of : Trees.Statement T → List Reference
  Of s = references_by_statement s

  abbrev New : Trees.Statement T → List Reference
  New s = references_by_statement (mapped_statement m s)

  mutual
    pub statement_same : (s : Trees.Statement T) → Same (references_by_statement (mapped_statement m s)) (references_by_statement s)
    statement_same (Trees.evaluate e) = expression_same e
    statement_same (Trees.block locals all) = statements_same all
    statement_same (Trees.declare n initial) = initial_same initial
    statement_same (Trees.when e one) = two (references (mapped m e)) (New one) (references e) (Of one) (expression_same e) (statement_same one)
    statement_same (Trees.when_else e one other) =
        two (references (mapped m e) ++ New one) (New other) (references e ++ Of one) (Of other)
        (two (references (mapped m e)) (New one) (references e) (Of one) (expression_same e) (statement_same one)) (statement_same other)
    statement_same (Trees.while e body) = two (references (mapped m e)) (New body) (references e) (Of body) (expression_same e) (statement_same body)
    statement_same (Trees.do_while body e) = two (New body) (references (mapped m e)) (Of body) (references e) (statement_same body) (expression_same e)
    statement_same (Trees.for locals start test step body) =
        let s = references_by_statements start in
        let t = references_if_any test in
        let e = references_if_any step in
        let s' = references_by_statements (mapped_statements m start) in
        let t' = references_if_any (option_map (mapped m) test) in
        let e' = references_if_any (option_map (mapped m) step) in
        two (s' ++ t' ++ e') (New body) (s ++ t ++ e) (Of body)
        (two (s' ++ t') e' (s ++ t) e (two s' t' s t (statements_same start) (if_any_same test)) (if_any_same step)) (statement_same body)
    statement_same (Trees.switch e locals arms) =
        two (references (mapped m e)) (references_by_arms (mapped_arms m arms)) (references e) (references_by_arms arms) (expression_same e) (arms_same arms)
    statement_same Trees.break = refl
    statement_same Trees.continue = refl
    statement_same (Trees.return e) = if_any_same e

    statements_same : (all : Trees.Statements T) → Same (references_by_statements (mapped_statements m all)) (references_by_statements all)
    statements_same Trees.no_statements = refl
    statements_same (Trees.and_statement s more) =
        two (New s) (references_by_statements (mapped_statements m more)) (Of s) (references_by_statements more) (statement_same s) (statements_same more)

    arms_same : (arms : Trees.Arms T) → Same (references_by_arms (mapped_arms m arms)) (references_by_arms arms)
    arms_same Trees.no_arms = refl
    arms_same (Trees.and_arm cases is_default all more) =
        two (references_by_statements (mapped_statements m all)) (references_by_arms (mapped_arms m more)) (references_by_statements all)
        (references_by_arms more) (statements_same all) (arms_same more)

-- ---- with something else for each type

module _ {T S : Type 0} (f : T → S) where
  alike : (all : List Reference) → map (renamed (of_types f)) all ≡ all
  alike [] = refl
  alike (an_object n ∷ all) = ap (λ more. an_object n ∷ more) (alike all)
  alike (a_function g ∷ all) = ap (λ more. a_function g ∷ more) (alike all)

  pub types_alike : (e : Trees.Expression T) → references (mapped (of_types f) e) ≡ references e
  types_alike e = expression_same (of_types f) e ∙ alike (references e)

  pub statements_alike : (s : Trees.Statement T) → references_by_statement (mapped_statement (of_types f) s) ≡ references_by_statement s
  statements_alike s = statement_same (of_types f) s ∙ alike (references_by_statement s)
