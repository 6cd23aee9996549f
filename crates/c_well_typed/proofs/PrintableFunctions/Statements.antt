-- What stands for a statement of a text is printable (C99 6.8): an `else` finds its `if`, branches declare nothing, and arms have labels.
use Rattle.std.proofs.Common.{◌≡◌, ◌≢◌, ◌∙◌, ℕ, zero, suc, ◌≤◌, ◌==◌, Bool, true, false, refl, sym, subst, List, [], ◌∷◌, length, arith, inl, inr, Some, None}
use Rattle.std.proofs.lemmas.Bool.{eq-eqb}
use Rattle.std.specs.Prelude.{◌⊎◌, Option}
use Rattle.std.specs.Option.{option_map}
use Rattle.c_types.specs.declared.ty.IntKind.{IntKind}
use Rattle.c_types.specs.Types.{CType, void, Record}
use Rattle.c_ast.specs.Spelling.{Lexeme, spelled, spelled_if_any, spelled_for_start, spelled_statement, spelled_block_item, spelled_block_items}
use Rattle.c_ast.specs.Spelling.{spelled_switch_item, spelled_switch_items}
use Rattle.c_ast.specs.Trees
use Rattle.c_ast.specs.WellFormed.{IsExpression, IsExpressionIfAny, IsForStart, IsStatement, IsBlockItem, AreBlockItems, IsSwitchItem, AreSwitchItems}
use Rattle.c_ast.specs.WellFormed as WellFormed
use Rattle.c_typed.specs.Mapped.{mapped, mapped_statement, mapped_statements, mapped_arms}
use Rattle.c_typed.specs.Trees as Typed
use Rattle.c_erasure.specs.Erasure.{Values, Erases}
use Rattle.c_erasure.specs.Noted.{Expression}
use Rattle.c_erasure.specs.Recognised.{recognised}
use Rattle.c_erasure.specs.Scopes.{ALocal, FileScope, Scope, ended}
use Rattle.c_erasure.specs.Scopes as Scopes
use Rattle.c_erasure.specs.Statements.{Statement, Statements, Arms, followed_by, IsPlainIfAny, IsStart, with_first, IsArranged, ErasesStatement, ErasesItem}
use Rattle.c_erasure.specs.Statements.{EraseItems, ErasesSwitchItem, EraseSwitchItems}
use Rattle.c_erasure.specs.Units.{recognised_statement, recognised_statements, recognised_arms}
use Rattle.c_erasure.proofs.MarkPlaces.MarksOfFiles.{if_any_along, labels_along, for_start_along, statement_along, block_item_along, switch_item_along}
use Rattle.c_erasure.proofs.MarkPlaces.MarksOfParts.{along}
use Rattle.c_well_typed.specs.Printable.Expressions.{IsPrintable}
use Rattle.c_well_typed.specs.Printable.Statements.{is_open, is_declaration, begins_with_statement, IsPrintableIfAny, AreDeclared, IsPrintableStatement}
use Rattle.c_well_typed.specs.Printable.Statements.{ArePrintableStatements, AreArms}
use Rattle.c_well_typed.specs.Printable.Statements as Printable
use Rattle.c_well_typed.proofs.PrintableFunctions.Conversions.{renamed}
use Rattle.c_well_typed.proofs.PrintableFunctions.Declarations.{locals, IsIn, declaration}
use Rattle.c_well_typed.proofs.PrintableFunctions.Expressions.{no_tags, said_value}
use Rattle.c_well_typed.proofs.PrintableFunctions.Initializers.{LieAlike}
use Rattle.c_well_typed.proofs.PrintableFunctions.Tokens.{HaveValues, behind}

-- ---- parts of printable statements

-- declarations may stand first in a `for`
start_of : (records : List Record) (own : List CType) (base : CType) (all : Typed.Statements CType) → AreDeclared records own base all
    → Printable.IsStart records own all
start_of records own base Typed.no_statements h = (base, tt)
start_of records own base (Typed.and_statement (Typed.declare i initial) more) h = (base, h)
start_of records own base (Typed.and_statement s more) h = absurd h

no_label : (cases : List ℕ) → (cases ≢ []) ⊎ (false ≡ true) → cases ≡ [] → ⊥
no_label cases (inl q) e = q e
no_label cases (inr q) e = cc

-- an arm that has a label may be the first
as_first : (records : List Record) (own : List CType) (arms : Typed.Arms CType) → AreArms records own false arms → AreArms records own true arms
as_first records own Typed.no_arms h = tt
as_first records own (Typed.and_arm [] false all more) h = absurd (no_label [] h.0.0 refl)
as_first records own (Typed.and_arm [] true all more) h = h
as_first records own (Typed.and_arm (v ∷ cases) is_default all more) h = h

module _ (n object callee : ℕ → ℕ) (f : FileScope) (less : (at : ℕ) → ended f.ends at ≤ length f.records) (records : List Record)
    (alike : LieAlike f.records records n) (own : List ALocal) (types : List (List ℕ)) where
  abbrev L : List CType
  L = locals n object callee f less records alike own types

  abbrev In : Scope → Type 0
  In s = IsIn n object callee f less records alike own types s

  abbrev again : Statement → Typed.Statement CType
  again st = mapped_statement (renamed n object callee) (recognised_statement st)

  abbrev all_again : Statements → Typed.Statements CType
  all_again all = mapped_statements (renamed n object callee) (recognised_statements all)

  abbrev arms_again : Arms → Typed.Arms CType
  arms_again arms = mapped_arms (renamed n object callee) (recognised_arms arms)

  abbrev Are : Statements → Type 0
  Are all = ArePrintableStatements records L (all_again all)

  abbrev InArms : Bool → Arms → Type 0
  InArms first arms = AreArms records L first (arms_again arms)

  -- what stands for a statement is no declaration, and open where that is
  abbrev Stands : Bool → Statement → Type 0
  Stands opens st = IsPrintableStatement records L (again st) × (is_declaration (again st) ≡ false) × (is_open (again st) ≡ opens)

  stands : (opens : Bool) (st it : Statement) → st ≡ it → Stands opens it → Stands opens st
  stands opens st it e h = subst (Stands opens) (sym e) h

  all_are : (all it : Statements) → all ≡ it → Are it → Are all
  all_are all it e h = subst Are (sym e) h

  in_after : (s after : Scope) → after ≡ s → In s → In after
  in_after s after e h = subst In (sym e) h

  value : (a : Trees.Expression) (s : Scope) (x : Expression) (rest : List Lexeme) → IsExpression types a → HaveValues (spelled a rest)
      → Values (Erases a s) x → IsPrintable (mapped (renamed n object callee) (recognised x))
  value a s x rest w k h = (said_value n object callee types a s x rest w k h).0

  past : (a : Trees.Expression) → IsExpression types a → (rest : List Lexeme) → HaveValues (spelled a rest) → HaveValues rest
  past a w rest k = behind (along no_tags types a w) k

  abbrev IfAny : Option Expression → Type 0
  IfAny x = IsPrintableIfAny (option_map (mapped (renamed n object callee)) (option_map recognised x))

  if_any : (a : Option Trees.Expression) (s : Scope) (x : Option Expression) (rest : List Lexeme) → IsExpressionIfAny types a
      → HaveValues (spelled_if_any a rest) → IsPlainIfAny a s x → IfAny x
  if_any None s x rest w k h = subst IfAny (sym h) tt
  if_any (Some a) s x rest w k h = subst IfAny (sym h.1) (value a s h.0 rest w k h.2.0)

  -- ---- what stands first in a `for`

  abbrev Starts : Statements → Type 0
  Starts all = Printable.IsStart records L (all_again all) × Are all

  starts : (start : Trees.ForStart) (s : Scope) (all : Statements) (after : Scope) (rest : List Lexeme) → In s → IsForStart types start
      → HaveValues (spelled_for_start start rest) → IsStart start s all after → Starts all × In after
  starts (Trees.starts_with None semicolon) s all after rest e w k h = (subst Starts (sym h.0) ((void, tt), tt), in_after s after h.1 e)
  starts (Trees.starts_with (Some a) semicolon) s all after rest e w k h =
      (subst Starts (sym h.1) (tt, (value a s h.0 _ w k h.2.0, tt)), in_after s after h.3 e)
  starts (Trees.declares d) s all after rest e w k h =
      let r = declaration n object callee f less records alike own types d s all after rest e w.1 k h.0 in
      ((start_of records L r.1.0 (all_again all) r.1.1, r.0), r.2)

  -- ---- statements one after the other

  followed : (a b : Statements) → Are a → Are b → Are (followed_by a b)
  followed Typed.no_statements b h k = k
  followed (Typed.and_statement s a) b h k = (h.0, followed a b h.1 k)

  -- whatever follows, a statement begins it
  abbrev Begin : Statements → Type 0
  Begin all = (rest : Statements) → begins_with_statement (all_again (followed_by all rest)) ≡ true

  begins : (st : Typed.Statement CType) (more : Typed.Statements CType) → is_declaration st ≡ false → begins_with_statement (Typed.and_statement st more) ≡ true
  begins (Typed.declare i initial) more h = cc
  begins st more h = refl

  -- ---- arms

  first_arm : (all : Statements) (arms : Arms) → Are all → InArms false arms → InArms true (with_first all arms)
  first_arm Typed.no_statements arms h k = as_first records L (arms_again arms) k
  first_arm (Typed.and_statement s more) arms h k = ((λ none. cc), h, k)

  no_statements_so : (all : Statements) → all ≡ Typed.no_statements → Are all
  no_statements_so all e = all_are all Typed.no_statements e tt

  one_default : (m : ℕ) → suc m ≤ 1 → (suc m == 1) ≡ true
  one_default m l = eq-eqb (suc m) 1 (omega (arith, l))

  no_more : (m : ℕ) → suc m ≡ 0 → ⊥
  no_more m h = omega (arith, h)

  arranged : (cases : List ℕ) (defaults : ℕ) (inner rest : Statements) (later : Arms) (all : Statements) (arms : Arms) → Are (followed_by inner rest)
      → InArms false later → ((cases ≡ []) × (defaults ≡ 0)) ⊎ Begin inner → IsArranged cases defaults (followed_by inner rest) later all arms
      → Are all × InArms false arms
  arranged [] zero inner rest later all arms h k b e = (all_are all _ e.0 h, subst (InArms false) (sym e.1) k)
  arranged [] (suc m) inner rest later all arms h k (inl b) e = absurd (no_more m b.1)
  arranged [] (suc m) inner rest later all arms h k (inr b) e =
      (no_statements_so all e.0, subst (InArms false) (sym e.2) ((inr (one_default m e.1), b rest), h, k))
  arranged (v ∷ cases) m inner rest later all arms h k (inl b) e = let none : v ∷ cases ≡ [] = b.0 in cc
  arranged (v ∷ cases) m inner rest later all arms h k (inr b) e =
      (no_statements_so all e.0, subst (InArms false) (sym e.2) ((inl (λ none. cc), b rest), h, k))

  -- ---- the rules

  mutual
    statement : (a : Trees.Statement) (s : Scope) (st : Statement) (rest : List Lexeme) → In s → IsStatement types a → HaveValues (spelled_statement a rest)
        → ErasesStatement a s st → Stands (WellFormed.is_open a) st
    statement (Trees.block left items right) s st rest e w k h = stands false st _ h.1 (items_are items (Scopes.inside s) h.0 _ e w k.1 h.2, refl, refl)
    statement (Trees.evaluate None semicolon) s st rest e w k h = stands false st _ h (tt, refl, refl)
    statement (Trees.evaluate (Some a) semicolon) s st rest e w k h = stands false st _ h.1 (value a s h.0 _ w k h.2.0, refl, refl)
    statement (Trees.when at left a right one) s st rest e w k h =
        let b = statement one s h.1 rest e w.1 (past a w.0 _ k.1.1).1 h.4 in
        stands true st _ h.2 ((value a s h.0 _ w.0 k.1.1 h.3.0, b.1, b.0), refl, refl)
    statement (Trees.choose at left a right one else other) s st rest e w k h =
        let there = (past a w.1 _ k.1.1).1 in
        let b = statement one s h.1 _ e w.2 there h.5 in
        let c = statement other s h.2 rest e w.3 (behind (statement_along no_tags types one w.2) there).1 h.6 in
        stands (WellFormed.is_open other) st _ h.3 ((value a s h.0 _ w.1 k.1.1 h.4.0, b.1, b.0, b.2 ∙ w.0, c.1, c.0), refl, c.2)
    statement (Trees.while at left a right body) s st rest e w k h =
        let b = statement body s h.1 rest e w.1 (past a w.0 _ k.1.1).1 h.4 in
        stands (WellFormed.is_open body) st _ h.2 ((value a s h.0 _ w.0 k.1.1 h.3.0, b.1, b.0), refl, b.2)
    statement (Trees.do_while at body while left a right semicolon) s st rest e w k h =
        let b = statement body s h.0 _ e w.0 k.1 h.3 in
        let there = (behind (statement_along no_tags types body w.0) k.1).1.1 in
        stands false st _ h.2 ((b.1, b.0, value a s h.1 _ w.1 there h.4.0), refl, refl)
    statement (Trees.for at left start test semicolon step right body) s st rest e w k h =
        let r = starts start (Scopes.inside s) h.0 h.1 _ e w.0 k.1.1 h.6 in
        let test_there = behind (for_start_along no_tags types start w.0) k.1.1 in
        let step_there = (behind (if_any_along no_tags types test w.1) test_there).1 in
        let b = statement body h.1 h.4 rest r.1 w.3 (behind (if_any_along no_tags types step w.2) step_there).1 h.9 in
        stands (WellFormed.is_open body) st _ h.5
        ((r.0.0, r.0.1, if_any test h.1 h.2 _ w.1 test_there h.7, if_any step h.1 h.3 _ w.2 step_there h.8, b.1, b.0), refl, b.2)
    statement (Trees.switch at left a right begin items end) s st rest e w k h =
        let r = switch_items_are items (Scopes.inside s) h.1 h.2 h.3 _ e w.1 (past a w.0 _ k.1.1).1.1 h.7 in
        stands false st _ h.4 ((value a s h.0 _ w.0 k.1.1 h.5, first_arm h.2 h.3 r.0 r.1), refl, refl)
    statement (Trees.break at semicolon) s st rest e w k h = stands false st _ h (tt, refl, refl)
    statement (Trees.continue at semicolon) s st rest e w k h = stands false st _ h (tt, refl, refl)
    statement (Trees.return at None semicolon) s st rest e w k h = stands false st _ h (tt, refl, refl)
    statement (Trees.return at (Some a) semicolon) s st rest e w k h = stands false st _ h.1 (value a s h.0 _ w k.1 h.2, refl, refl)

    item : (i : Trees.BlockItem) (s : Scope) (all : Statements) (after : Scope) (rest : List Lexeme) → In s → IsBlockItem types i
        → HaveValues (spelled_block_item i rest) → ErasesItem i s all after → Are all × In after
    item (Trees.local d) s all after rest e w k h =
        let r = declaration n object callee f less records alike own types d s all after rest e w k h in (r.0, r.2)
    item (Trees.statement a) s all after rest e w k h =
        (all_are all _ h.1 ((statement a s h.0 rest e w k h.2).0, tt), in_after s after h.3 e)

    pub items_are : (items : Trees.BlockItems) (s : Scope) (all : Statements) (rest : List Lexeme) → In s → AreBlockItems types items
        → HaveValues (spelled_block_items items rest) → EraseItems items s all → Are all
    items_are Trees.no_block_items s all rest e w k h = all_are all _ h tt
    items_are (Trees.and_block_item i more) s all rest e w k h =
        let r = item i s h.0 h.2 _ e w.0 k h.4 in
        all_are all _ h.3 (followed h.0 h.1 r.0 (items_are more h.2 h.1 rest r.1 w.1 (behind (block_item_along no_tags types i w.0) k) h.5))

    switch_item : (i : Trees.SwitchItem) (s : Scope) (kind : IntKind) (cases : List ℕ) (defaults : ℕ) (all : Statements) (after : Scope) (rest : List Lexeme)
        → In s → IsSwitchItem types i → HaveValues (spelled_switch_item i rest) → ErasesSwitchItem i s kind cases defaults all after
        → Are all × (((cases ≡ []) × (defaults ≡ 0)) ⊎ Begin all) × In after
    switch_item (Trees.local_switch_item d) s kind cases defaults all after rest e w k h =
        let r = declaration n object callee f less records alike own types d s all after rest e w.1 k h.2 in (r.0, inl (h.0, h.1), r.2)
    switch_item (Trees.labelled labels a) s kind cases defaults all after rest e w k h =
        let b = statement a s h.1.0 rest e w.1 (behind (labels_along no_tags types labels w.0) k) h.1.2 in (
          all_are all _ h.1.1 (b.0, tt),
          inr (subst Begin (sym h.1.1) (λ rest. begins (again h.1.0) (all_again rest) b.1)),
          in_after s after h.2 e,
        )

    switch_items_are : (items : Trees.SwitchItems) (s : Scope) (kind : IntKind) (all : Statements) (arms : Arms) (rest : List Lexeme) → In s
        → AreSwitchItems types items → HaveValues (spelled_switch_items items rest) → EraseSwitchItems items s kind all arms → Are all × InArms false arms
    switch_items_are Trees.no_switch_items s kind all arms rest e w k h = (no_statements_so all h.0, subst (InArms false) (sym h.1) tt)
    switch_items_are (Trees.and_switch_item i more) s kind all arms rest e w k h =
        let r = switch_item i s kind h.0 h.1 h.2 h.5 _ e w.0 k h.6 in
        let q = switch_items_are more h.5 kind h.3 h.4 rest r.2 w.1 (behind (switch_item_along no_tags types i w.0) k) h.7 in
        arranged h.0 h.1 h.2 h.3 h.4 all arms (followed h.2 h.3 r.0 q.0) q.1 r.1 h.8
