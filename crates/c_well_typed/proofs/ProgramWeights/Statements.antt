-- A statement weighs so much for each of its nodes, with the locals that it declares (C99 6.7, 6.8).
use Rattle.std.proofs.Common.{◌≡◌, ℕ, zero, suc, ◌+◌, ◌*◌, ◌≤◌, Bool, true, false, sym, subst, List, [], ◌∷◌, ◌++◌, arith, inl, inr}
use Rattle.std.specs.Prelude.{◌==◌, ◌⊎◌, Option, Some, None}
use Rattle.c_types.specs.declared.ty.IntKind.{IntKind}
use Rattle.c_types.specs.Types.{CType}
use Rattle.c_ast.specs.declared.words.Spelling.{Spelling}
use Rattle.c_ast.specs.Trees
use Rattle.c_ast.specs.Sizes.{size, size_declarator, size_init_declarators, size_declaration, size_if_any, size_labels, size_for_start}
use Rattle.c_ast.specs.Sizes.{size_statement, size_block_item, size_block_items, size_switch_item, size_switch_items}
use Rattle.c_typed.specs.Trees as Typed
use Rattle.c_typed.specs.TypedStatements.{all_declared, all_declared_by, all_declared_by_arms}
use Rattle.c_erasure.specs.Declarators.{declared_name}
use Rattle.c_erasure.specs.Noted.{Expression}
use Rattle.c_erasure.specs.Scopes.{Scope, inside}
use Rattle.c_erasure.specs.Statements.{Statement, Statements, Arms, followed_by, with_object, with_variable, DeclareAll, IsLocalDeclaration, IsPlainIfAny}
use Rattle.c_erasure.specs.Statements.{IsStart}
use Rattle.c_erasure.specs.Statements.{AreLabels, with_first, IsArranged, ErasesStatement, ErasesItem, EraseItems, ErasesSwitchItem, EraseSwitchItems}
use Rattle.c_well_typed.specs.ProgramWeights.Counted.{Kind, statement, arm, named_local}
use Rattle.c_well_typed.specs.ProgramWeights.Weights.{weight_if_any, weight_of_labels, weight_of_statement, weight_of_statements, weight_of_arms}
use Rattle.c_well_typed.proofs.ProgramWeights.Expressions.{operand_paid}
use Rattle.c_well_typed.proofs.ProgramWeights.Initializers.{more_paid, has_initializer_paid}
use Rattle.c_well_typed.proofs.ProgramWeights.Within.{AreWithin}

-- a name is a node
pub name_counts : (d : Trees.Declarator) (x : Spelling) → declared_name d ≡ Some x → 1 ≤ (size_declarator d).nodes
name_counts Trees.nothing x h = cc
name_counts (Trees.named y) x h = omega arith
name_counts (Trees.pointer at consts d) x h = omega arith
name_counts (Trees.enclosed left d right) x h = omega arith
name_counts (Trees.array d left length right) x h = omega arith
name_counts (Trees.function d left all right) x h = omega arith

one_node : (a : Trees.Expression) → 1 ≤ (size a).nodes
one_node (Trees.name x) = omega arith
one_node a = omega arith

module _ (n : Kind → ℕ) where
  -- ---- what is owed for the locals that are declared

  abbrev pub owed : List ℕ → ℕ
  owed [] = 0
  owed (k ∷ more) = n named_local + owed more

  owed_append : (a b : List ℕ) → owed (a ++ b) ≡ owed a + owed b
  owed_append [] b = omega arith
  owed_append (k ∷ a) b = let e = owed_append a b in omega (arith, e)

  abbrev pub with_locals : Statement → ℕ
  with_locals s = weight_of_statement n s + owed (all_declared s)

  abbrev pub all_with_locals : Statements → ℕ
  all_with_locals all = weight_of_statements n all + owed (all_declared_by all)

  abbrev arms_with_locals : Arms → ℕ
  arms_with_locals arms = weight_of_arms n arms + owed (all_declared_by_arms arms)

  one_more : (s : Statement) (more : Statements) → all_with_locals (Typed.and_statement s more) ≡ with_locals s + all_with_locals more
  one_more s more = let e = owed_append (all_declared s) (all_declared_by more) in omega (arith, e)

  followed : (a b : Statements) → all_with_locals (followed_by a b) ≡ all_with_locals a + all_with_locals b
  followed Typed.no_statements b = omega arith
  followed (Typed.and_statement s a) b =
      let e = one_more s (followed_by a b) in
      let f = one_more s a in
      let g = followed a b in omega (arith, e, f, g)

  arm_more : (cases : List ℕ) (is_default : Bool) (all : Statements) (more : Arms) → arms_with_locals (Typed.and_arm cases is_default all more)
      ≡ n arm + weight_of_labels n cases + all_with_locals all + arms_with_locals more
  arm_more cases is_default all more = let e = owed_append (all_declared_by all) (all_declared_by_arms more) in omega (arith, e)

  first_more : (all : Statements) (arms : Arms) → arms_with_locals (with_first all arms) ≤ n arm + all_with_locals all + arms_with_locals arms
  first_more Typed.no_statements arms = omega arith
  first_more (Typed.and_statement s more) arms = let e = arm_more [] false (Typed.and_statement s more) arms in omega (arith, e)

  module _ (most : ℕ) (w : AreWithin n most) where
    -- ---- declarations

    declarators_paid : (ds : List Trees.InitDeclarator) (s : Scope) (static : Bool) (base : CType) (all : Statements) (after : Scope)
        → DeclareAll ds s static base all after → all_with_locals all ≤ most * (size_init_declarators ds).nodes
    declarators_paid [] s static base all after h = subst (λ all. all_with_locals all ≤ most * 0) (sym h.0) (omega arith)
    declarators_paid (d ∷ more) s true base all after h =
        let f = declarators_paid more (with_object s h.0 h.2 h.1) true base all after h.5 in omega (arith, f)
    declarators_paid (d ∷ more) s false base all after h =
        let f = declarators_paid more (with_variable s h.0 h.2 h.1) false base h.4 after h.9 in
        let g = has_initializer_paid n most w (with_variable s h.0 h.2 h.1) h.1 d.value h.3 h.8 in
        let l = more_paid most 1 (size_declarator d.declarator).nodes (name_counts d.declarator h.0 h.5.1) in
        let e = one_more (Typed.declare h.2 h.3) h.4 in
        let i = w.named in
        subst (λ all. all_with_locals all ≤ most * (size_init_declarators (d ∷ more)).nodes) (sym h.7) (omega (arith, f, g, l, e, i))

    either_way : {A B : Type 0} (d : Trees.Declaration) (s : Scope) (base : CType) (all : Statements) (after : Scope)
        → (A × DeclareAll d.all s true base all after) ⊎ (B × DeclareAll d.all s false base all after) → all_with_locals all ≤ most * (size_declaration d).nodes
    either_way d s base all after (inl k) = let f = declarators_paid d.all s true base all after k.1 in omega (arith, f)
    either_way d s base all after (inr k) = let f = declarators_paid d.all s false base all after k.1 in omega (arith, f)

    local_paid : (d : Trees.Declaration) (s : Scope) (all : Statements) (after : Scope) → IsLocalDeclaration d s all after
        → all_with_locals all ≤ most * (size_declaration d).nodes
    local_paid d s all after h = either_way d s h.0 all after h.3

    -- ---- parts of statements

    if_any_paid : (a : Option Trees.Expression) (s : Scope) (x : Option Expression) → IsPlainIfAny a s x → weight_if_any n x ≤ most * (size_if_any a).nodes
    if_any_paid None s x h = subst (λ x. weight_if_any n x ≤ most * 0) (sym h) (omega arith)
    if_any_paid (Some a) s x h =
        let f = operand_paid n most w a s h.0 h.2.0 in
        subst (λ x. weight_if_any n x ≤ most * (size a).nodes) (sym h.1) (omega (arith, f))

    start_paid : (start : Trees.ForStart) (s : Scope) (all : Statements) (after : Scope) → IsStart start s all after
        → all_with_locals all ≤ most * (size_for_start start).nodes + n statement
    start_paid (Trees.starts_with None semicolon) s all after h = subst (λ all. all_with_locals all ≤ most * 0 + n statement) (sym h.0) (omega arith)
    start_paid (Trees.starts_with (Some a) semicolon) s all after h =
        let f = operand_paid n most w a s h.0 h.2.0 in
        subst (λ all. all_with_locals all ≤ most * (size a).nodes + n statement) (sym h.1) (omega (arith, f))
    start_paid (Trees.declares d) s all after h = let f = local_paid d s all after h.0 in omega (arith, f)

    labels_paid : (all : List Trees.Label) (s : Scope) (kind : IntKind) (cases : List ℕ) (defaults : ℕ) → AreLabels all s kind cases defaults
        → weight_of_labels n cases ≤ most * (size_labels all).nodes
    labels_paid [] s kind cases defaults h = subst (λ cases. weight_of_labels n cases ≤ most * 0) (sym h.0) (omega arith)
    labels_paid (Trees.case at a colon ∷ more) s kind cases defaults h =
        let f = labels_paid more s kind h.2 defaults h.5 in
        let l = more_paid most 1 (size a).nodes (one_node a) in
        let i = w.case_label in
        subst (λ cases. weight_of_labels n cases ≤ most * ((size a).nodes + (size_labels more).nodes)) (sym h.4) (omega (arith, f, l, i))
    labels_paid (Trees.default at colon ∷ more) s kind cases defaults h = labels_paid more s kind cases h.0 h.2

    -- what begins an arm
    abbrev arm_of : List ℕ → ℕ → ℕ
    arm_of [] zero = 0
    arm_of cases defaults = n arm

    at_most_one : (cases : List ℕ) (defaults : ℕ) → arm_of cases defaults ≤ n arm
    at_most_one [] zero = omega arith
    at_most_one [] (suc k) = omega arith
    at_most_one (v ∷ more) k = omega arith

    arranged_as : (cases : List ℕ) (k : ℕ) (own : Statements) (later : Arms) (all : Statements) (arms : Arms) (d : Bool) → all ≡ Typed.no_statements
        → arms ≡ Typed.and_arm cases d own later
        → all_with_locals all + arms_with_locals arms ≤ n arm + weight_of_labels n cases + all_with_locals own + arms_with_locals later
    arranged_as cases k own later all arms d e f =
        let g = arm_more cases d own later in
        subst (λ all. all_with_locals all + arms_with_locals arms ≤ n arm + weight_of_labels n cases + all_with_locals own + arms_with_locals later) (sym e)
        (subst (λ arms. 0 + 0 + arms_with_locals arms ≤ n arm + weight_of_labels n cases + all_with_locals own + arms_with_locals later) (sym f) (omega (arith, g)))

    arranged_paid : (cases : List ℕ) (defaults : ℕ) (own : Statements) (later : Arms) (all : Statements) (arms : Arms)
        → IsArranged cases defaults own later all arms
        → all_with_locals all + arms_with_locals arms ≤ arm_of cases defaults + weight_of_labels n cases + all_with_locals own + arms_with_locals later
    arranged_paid [] zero own later all arms h =
        subst (λ all. all_with_locals all + arms_with_locals arms ≤ 0 + 0 + all_with_locals own + arms_with_locals later) (sym h.0)
        (subst (λ arms. all_with_locals own + arms_with_locals arms ≤ 0 + 0 + all_with_locals own + arms_with_locals later) (sym h.1) (omega arith))
    arranged_paid [] (suc k) own later all arms h = arranged_as [] (suc k) own later all arms (suc k == 1) h.0 h.2
    arranged_paid (v ∷ more) k own later all arms h = arranged_as (v ∷ more) k own later all arms (k == 1) h.0 h.2

    -- ---- statements: each has room for an arm besides

    abbrev IsPaid : Statement → ℕ → Type 0
    IsPaid st nodes = with_locals st + n arm ≤ most * nodes

    mutual
      pub statement_paid : (a : Trees.Statement) (s : Scope) (st : Statement) → ErasesStatement a s st → IsPaid st (size_statement a).nodes
      statement_paid (Trees.block left items right) s st h =
          let f = items_paid items (inside s) h.0 h.2 in
          let l = w.for_node in
          subst (λ st. IsPaid st ((size_block_items items).nodes + 1)) (sym h.1) (omega (arith, f, l))
      statement_paid (Trees.evaluate None semicolon) s st h =
          let l = w.for_node in
          subst (λ st. IsPaid st 1) (sym h) (omega (arith, l))
      statement_paid (Trees.evaluate (Some a) semicolon) s st h =
          let f = operand_paid n most w a s h.0 h.2.0 in
          let l = w.for_node in
          subst (λ st. IsPaid st ((size a).nodes + 1)) (sym h.1) (omega (arith, f, l))
      statement_paid (Trees.when at left a right one) s st h =
          let f = operand_paid n most w a s h.0 h.3.0 in
          let g = statement_paid one s h.1 h.4 in
          let l = w.for_node in
          subst (λ st. IsPaid st ((size a).nodes + (size_statement one).nodes + 1)) (sym h.2) (omega (arith, f, g, l))
      statement_paid (Trees.choose at left a right one else other) s st h =
          let f = operand_paid n most w a s h.0 h.4.0 in
          let g = statement_paid one s h.1 h.5 in
          let e = statement_paid other s h.2 h.6 in
          let o = owed_append (all_declared h.1) (all_declared h.2) in
          let l = w.for_node in
          subst (λ st. IsPaid st ((size a).nodes + (size_statement one).nodes + (size_statement other).nodes + 1)) (sym h.3) (omega (arith, f, g, e, o, l))
      statement_paid (Trees.while at left a right body) s st h =
          let f = operand_paid n most w a s h.0 h.3.0 in
          let g = statement_paid body s h.1 h.4 in
          let l = w.for_node in
          subst (λ st. IsPaid st ((size a).nodes + (size_statement body).nodes + 1)) (sym h.2) (omega (arith, f, g, l))
      statement_paid (Trees.do_while at body while left a right semicolon) s st h =
          let f = operand_paid n most w a s h.1 h.4.0 in
          let g = statement_paid body s h.0 h.3 in
          let l = w.for_node in
          subst (λ st. IsPaid st ((size_statement body).nodes + (size a).nodes + 1)) (sym h.2) (omega (arith, f, g, l))
      statement_paid (Trees.for at left start test semicolon step right body) s st h =
          let f = start_paid start (inside s) h.0 h.1 h.6 in
          let g = if_any_paid test h.1 h.2 h.7 in
          let e = if_any_paid step h.1 h.3 h.8 in
          let i = statement_paid body h.1 h.4 h.9 in
          let o = owed_append (all_declared_by h.0) (all_declared h.4) in
          let l = w.for_node in
          subst (λ st. IsPaid st ((size_for_start start).nodes + (size_if_any test).nodes + (size_if_any step).nodes + (size_statement body).nodes + 1)) (sym h.5)
          (omega (arith, f, g, e, i, o, l))
      statement_paid (Trees.switch at left a right begin items end) s st h =
          let f = operand_paid n most w a s h.0 h.5 in
          let g = switch_items_paid items (inside s) h.1 h.2 h.3 h.7 in
          let e = first_more h.2 h.3 in
          let l = w.switch_node in
          subst (λ st. IsPaid st ((size a).nodes + (size_switch_items items).nodes + 1)) (sym h.4) (omega (arith, f, g, e, l))
      statement_paid (Trees.break at semicolon) s st h = subst (λ st. IsPaid st 1) (sym h) (let l = w.for_node in omega (arith, l))
      statement_paid (Trees.continue at semicolon) s st h = subst (λ st. IsPaid st 1) (sym h) (let l = w.for_node in omega (arith, l))
      statement_paid (Trees.return at None semicolon) s st h = subst (λ st. IsPaid st 1) (sym h) (let l = w.for_node in omega (arith, l))
      statement_paid (Trees.return at (Some a) semicolon) s st h =
          let f = operand_paid n most w a s h.0 h.2 in
          let l = w.for_node in
          subst (λ st. IsPaid st ((size a).nodes + 1)) (sym h.1) (omega (arith, f, l))

      item_paid : (e : Trees.BlockItem) (s : Scope) (all : Statements) (after : Scope) → ErasesItem e s all after
          → all_with_locals all ≤ most * (size_block_item e).nodes
      item_paid (Trees.local d) s all after h = local_paid d s all after h
      item_paid (Trees.statement a) s all after h =
          let f = statement_paid a s h.0 h.2 in
          let e = one_more h.0 Typed.no_statements in
          subst (λ all. all_with_locals all ≤ most * (size_statement a).nodes) (sym h.1) (omega (arith, f, e))

      pub items_paid : (items : Trees.BlockItems) (s : Scope) (all : Statements) → EraseItems items s all
          → all_with_locals all ≤ most * (size_block_items items).nodes
      items_paid Trees.no_block_items s all h = subst (λ all. all_with_locals all ≤ most * 0) (sym h) (omega arith)
      items_paid (Trees.and_block_item e more) s all h =
          let f = item_paid e s h.0 h.2 h.4 in
          let g = items_paid more h.2 h.1 h.5 in
          let i = followed h.0 h.1 in
          subst (λ all. all_with_locals all ≤ most * ((size_block_item e).nodes + (size_block_items more).nodes)) (sym h.3) (omega (arith, f, g, i))

      switch_item_paid : (item : Trees.SwitchItem) (s : Scope) (kind : IntKind) (cases : List ℕ) (defaults : ℕ) (all : Statements) (after : Scope)
          → ErasesSwitchItem item s kind cases defaults all after
          → arm_of cases defaults + weight_of_labels n cases + all_with_locals all ≤ most * (size_switch_item item).nodes
      switch_item_paid (Trees.local_switch_item d) s kind cases defaults all after h =
          let f = local_paid d s all after h.2 in
          subst (λ cases. arm_of cases defaults + weight_of_labels n cases + all_with_locals all ≤ most * (size_declaration d).nodes) (sym h.0)
          (subst (λ defaults. arm_of [] defaults + 0 + all_with_locals all ≤ most * (size_declaration d).nodes) (sym h.1) (omega (arith, f)))
      switch_item_paid (Trees.labelled labels a) s kind cases defaults all after h =
          let f = labels_paid labels s kind cases defaults h.0 in
          let g = statement_paid a s h.1.0 h.1.2 in
          let e = one_more h.1.0 Typed.no_statements in
          let l = at_most_one cases defaults in
          subst (λ all. arm_of cases defaults + weight_of_labels n cases + all_with_locals all ≤ most * ((size_labels labels).nodes + (size_statement a).nodes))
          (sym h.1.1) (omega (arith, f, g, e, l))

      switch_items_paid : (items : Trees.SwitchItems) (s : Scope) (kind : IntKind) (all : Statements) (arms : Arms) → EraseSwitchItems items s kind all arms
          → all_with_locals all + arms_with_locals arms ≤ most * (size_switch_items items).nodes
      switch_items_paid Trees.no_switch_items s kind all arms h =
          subst (λ all. all_with_locals all + arms_with_locals arms ≤ most * 0) (sym h.0)
          (subst (λ arms. 0 + 0 + arms_with_locals arms ≤ most * 0) (sym h.1) (omega arith))
      switch_items_paid (Trees.and_switch_item item more) s kind all arms h =
          let f = switch_item_paid item s kind h.0 h.1 h.2 h.5 h.6 in
          let g = switch_items_paid more h.5 kind h.3 h.4 h.7 in
          let e = arranged_paid h.0 h.1 (followed_by h.2 h.3) h.4 all arms h.8 in
          let i = followed h.2 h.3 in
          omega (arith, f, g, e, i)
