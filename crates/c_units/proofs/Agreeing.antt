-- What stands in place of the types of a tree is the same by two functions that agree on them.
use Rattle.std.proofs.Common.{◌≡◌, refl, ap, List, [], ◌∷◌, ◌++◌, map, flat_map}
use Rattle.std.specs.Prelude.{Option, Some, None}
use Rattle.std.specs.List.{AllByRecursion}
use Rattle.std.specs.Option.{option_map}
use Rattle.c_typed.specs.Mapped.{of_types, mapped, mapped_node, mapped_path, mapped_step, mapped_all, mapped_if_any, mapped_value, mapped_part}
use Rattle.c_typed.specs.Mapped.{mapped_initializer, mapped_statement, mapped_statements, mapped_arms}
use Rattle.c_typed.specs.Trees as Trees
use Rattle.c_typed.specs.Walk.{types_in, types_in_node, types_in_path, types_in_step, types_in_all, types_in_optional, types_in_value, types_in_initializer}
use Rattle.c_typed.specs.Walk.{types_in_initial, types_if_any, types_in_statement, types_in_statements, types_in_arms}

pub apart : {A : Type 0} (P : A → Type 0) (a b : List A) → AllByRecursion P (a ++ b) → AllByRecursion P a × AllByRecursion P b
apart P [] b h = (tt, h)
apart P (x ∷ a) b h = let r = apart P a b h.1 in ((h.0, r.0), r.1)

module _ {T S : Type 0} (first second : T → S) where
  abbrev Same : T → Type 0
  Same t = first t ≡ second t

  abbrev AreSame : List T → Type 0
  AreSame all = AllByRecursion Same all

  mutual
    pub alike : (e : Trees.Expression T) → AreSame (types_in e) → mapped (of_types first) e ≡ mapped (of_types second) e
    alike (Trees.expression t at node) h =
        let p = apart Same (types_in_node node) (t ∷ []) h in
        rw (p.1.0, of_node node p.0) refl

    of_node : (node : Trees.Node T) → AreSame (types_in_node node) → mapped_node (of_types first) node ≡ mapped_node (of_types second) node
    of_node (Trees.constant v) h = refl
    of_node Trees.null h = refl
    of_node (Trees.function_name f) h = refl
    of_node (Trees.load p) h = ap Trees.load (of_path p h)
    of_node (Trees.address_of p) h = ap Trees.address_of (of_path p h)
    of_node (Trees.decay p) h = ap Trees.decay (of_path p h)
    of_node (Trees.convert e written) h = ap (λ e. Trees.convert e written) (alike e h)
    of_node (Trees.unary op x) h = ap (Trees.unary op) (alike x h)
    of_node (Trees.binary op x y) h = let p = apart Same (types_in x) (types_in y) h in rw (alike x p.0, alike y p.1) refl
    of_node (Trees.compare op x y) h = let p = apart Same (types_in x) (types_in y) h in rw (alike x p.0, alike y p.1) refl
    of_node (Trees.pointer_add op x y) h = let p = apart Same (types_in x) (types_in y) h in rw (alike x p.0, alike y p.1) refl
    of_node (Trees.pointer_difference x y) h = let p = apart Same (types_in x) (types_in y) h in rw (alike x p.0, alike y p.1) refl
    of_node (Trees.both x y) h = let p = apart Same (types_in x) (types_in y) h in rw (alike x p.0, alike y p.1) refl
    of_node (Trees.either x y) h = let p = apart Same (types_in x) (types_in y) h in rw (alike x p.0, alike y p.1) refl
    of_node (Trees.not x) h = ap Trees.not (alike x h)
    of_node (Trees.choose x y z) h =
        let p = apart Same (types_in x ++ types_in y) (types_in z) h in
        let q = apart Same (types_in x) (types_in y) p.0 in
        rw (alike x q.0, alike y q.1, alike z p.1) refl
    of_node (Trees.comma x y) h = let p = apart Same (types_in x) (types_in y) h in rw (alike x p.0, alike y p.1) refl
    of_node (Trees.assign p x) h = let q = apart Same (types_in_path p) (types_in x) h in rw (of_path p q.0, alike x q.1) refl
    of_node (Trees.assign_op op p x) h = let q = apart Same (types_in_path p) (types_in x) h in rw (of_path p q.0, alike x q.1) refl
    of_node (Trees.step op before p) h = ap (Trees.step op before) (of_path p h)
    of_node (Trees.copy_record to from) h = let q = apart Same (types_in_path to) (types_in_path from) h in rw (of_path to q.0, of_path from q.1) refl
    of_node (Trees.call f all) h = ap (Trees.call f) (of_all all h)
    of_node (Trees.call_through e all) h = let q = apart Same (types_in e) (types_in_all all) h in rw (alike e q.0, of_all all q.1) refl
    of_node (Trees.library which all) h = ap (Trees.library which) (of_all all h)
    of_node (Trees.allocate r count zeroed) h = ap (λ them. Trees.allocate r them zeroed) (of_optional count h)

    of_path : (p : Trees.Path T) → AreSame (types_in_path p) → mapped_path (of_types first) p ≡ mapped_path (of_types second) p
    of_path (Trees.path t at step) h =
        let p = apart Same (types_in_step step) (t ∷ []) h in
        rw (p.1.0, of_step step p.0) refl

    of_step : (step : Trees.PathNode T) → AreSame (types_in_step step) → mapped_step (of_types first) step ≡ mapped_step (of_types second) step
    of_step (Trees.local i) h = refl
    of_step (Trees.object i) h = refl
    of_step (Trees.deref e) h = ap Trees.deref (alike e h)
    of_step (Trees.index e i) h = let q = apart Same (types_in e) (types_in i) h in rw (alike e q.0, alike i q.1) refl
    of_step (Trees.member p r field) h = ap (λ them. Trees.member them r field) (of_path p h)
    of_step (Trees.element p i) h = let q = apart Same (types_in_path p) (types_in i) h in rw (of_path p q.0, alike i q.1) refl

    of_all : (all : Trees.Expressions T) → AreSame (types_in_all all) → mapped_all (of_types first) all ≡ mapped_all (of_types second) all
    of_all Trees.no_expressions h = refl
    of_all (Trees.and_expression e more) h = let q = apart Same (types_in e) (types_in_all more) h in rw (alike e q.0, of_all more q.1) refl

    of_optional : (e : Trees.OptionalExpression T) → AreSame (types_in_optional e) → mapped_if_any (of_types first) e ≡ mapped_if_any (of_types second) e
    of_optional Trees.no_expression h = refl
    of_optional (Trees.some_expression e) h = ap Trees.some_expression (alike e h)

  -- ---- initializers and statements

  of_value : (v : Trees.PartValue T) → AreSame (types_in_value v) → mapped_value (of_types first) v ≡ mapped_value (of_types second) v
  of_value (Trees.value e) h = ap Trees.value (alike e h)
  of_value (Trees.record_of p) h = ap Trees.record_of (of_path p h)
  of_value (Trees.text bytes) h = refl

  of_parts : (all : List (Trees.Part T)) → AreSame (flat_map (λ part. types_in_value part.value) all)
      → map (mapped_part (of_types first)) all ≡ map (mapped_part (of_types second)) all
  of_parts [] h = refl
  of_parts (part ∷ all) h =
      let q = apart Same (types_in_value part.value) (flat_map (λ part. types_in_value part.value) all) h in
      rw (of_value part.value q.0, of_parts all q.1) refl

  pub of_initializer : (i : Trees.Initializer T) → AreSame (types_in_initializer i) → mapped_initializer (of_types first) i ≡ mapped_initializer (of_types second) i
  of_initializer (Trees.whole e) h = ap Trees.whole (alike e h)
  of_initializer (Trees.whole_record p) h = ap Trees.whole_record (of_path p h)
  of_initializer (Trees.parts all) h = ap Trees.parts (of_parts all h)

  of_initial : (i : Option (Trees.Initializer T)) → AreSame (types_in_initial i)
      → option_map (mapped_initializer (of_types first)) i ≡ option_map (mapped_initializer (of_types second)) i
  of_initial None h = refl
  of_initial (Some i) h = ap Some (of_initializer i h)

  of_one : (e : Option (Trees.Expression T)) → AreSame (types_if_any e) → option_map (mapped (of_types first)) e ≡ option_map (mapped (of_types second)) e
  of_one None h = refl
  of_one (Some e) h = ap Some (alike e h)

  mutual
    pub of_statement : (s : Trees.Statement T) → AreSame (types_in_statement s) → mapped_statement (of_types first) s ≡ mapped_statement (of_types second) s
    of_statement (Trees.evaluate e) h = ap Trees.evaluate (alike e h)
    of_statement (Trees.block locals all) h = ap (Trees.block locals) (of_statements all h)
    of_statement (Trees.declare i initial) h = ap (Trees.declare i) (of_initial initial h)
    of_statement (Trees.when e one) h =
        let q = apart Same (types_in e) (types_in_statement one) h in rw (alike e q.0, of_statement one q.1) refl
    of_statement (Trees.when_else e one other) h =
        let p = apart Same (types_in e ++ types_in_statement one) (types_in_statement other) h in
        let q = apart Same (types_in e) (types_in_statement one) p.0 in
        rw (alike e q.0, of_statement one q.1, of_statement other p.1) refl
    of_statement (Trees.while e body) h =
        let q = apart Same (types_in e) (types_in_statement body) h in rw (alike e q.0, of_statement body q.1) refl
    of_statement (Trees.do_while body e) h =
        let q = apart Same (types_in_statement body) (types_in e) h in rw (of_statement body q.0, alike e q.1) refl
    of_statement (Trees.for locals start test step body) h =
        let p = apart Same (types_in_statements start ++ types_if_any test ++ types_if_any step) (types_in_statement body) h in
        let q = apart Same (types_in_statements start ++ types_if_any test) (types_if_any step) p.0 in
        let r = apart Same (types_in_statements start) (types_if_any test) q.0 in
        rw (of_statements start r.0, of_one test r.1, of_one step q.1, of_statement body p.1) refl
    of_statement (Trees.switch e locals arms) h =
        let q = apart Same (types_in e) (types_in_arms arms) h in rw (alike e q.0, of_arms arms q.1) refl
    of_statement Trees.break h = refl
    of_statement Trees.continue h = refl
    of_statement (Trees.return e) h = ap Trees.return (of_one e h)

    of_statements : (all : Trees.Statements T) → AreSame (types_in_statements all) → mapped_statements (of_types first) all ≡ mapped_statements (of_types second) all
    of_statements Trees.no_statements h = refl
    of_statements (Trees.and_statement s more) h =
        let q = apart Same (types_in_statement s) (types_in_statements more) h in rw (of_statement s q.0, of_statements more q.1) refl

    of_arms : (arms : Trees.Arms T) → AreSame (types_in_arms arms) → mapped_arms (of_types first) arms ≡ mapped_arms (of_types second) arms
    of_arms Trees.no_arms h = refl
    of_arms (Trees.and_arm cases is_default all more) h =
        let q = apart Same (types_in_statements all) (types_in_arms more) h in rw (of_statements all q.0, of_arms more q.1) refl
