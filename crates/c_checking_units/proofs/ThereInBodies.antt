-- In the body of a function the string literals and the `static` locals have their objects (C99 6.7, 6.8).
use Rattle.std.proofs.Common.{◌≡◌, ℕ, true, false, List, [], ◌∷◌, ◌++◌, refl, sym, subst, inl, inr}
use Rattle.std.specs.Prelude.{◌⊎◌, Option, Some, None}
use Rattle.c_types.specs.declared.ty.IntKind.{IntKind}
use Rattle.c_types.specs.Types.{CType}
use Rattle.c_ast.specs.declared.words.Spelling.{Spelling}
use Rattle.c_ast.specs.Trees
use Rattle.c_ast.specs.Places.{first_declarator}
use Rattle.c_erasure.specs.Declarators.{declared_name}
use Rattle.c_erasure.specs.Noted.{Expression}
use Rattle.c_erasure.specs.Scopes.{ALocal, Bound, FileScope, Scope, in_full, for_value}
use Rattle.c_erasure.specs.Specifiers.{Storage, no_storage, is_static, is_auto, is_register, storage_of}
use Rattle.c_erasure.specs.Statements.{Statement, Statements, Arms, DeclareAll, IsLocalDeclaration, IsPlainIfAny, IsStart, AreLabels, ErasesStatement}
use Rattle.c_erasure.specs.Statements.{ErasesItem, EraseItems, ErasesSwitchItem, EraseSwitchItems, with_object, with_variable}
use Rattle.c_checking_laws.proofs.CompleteBodies.{walk_by_storage}
use Rattle.c_checking_laws.proofs.CompleteLocals.{look_at, walk_of_locals}
use Rattle.c_checking_laws.proofs.CompleteStatements.{walk_of_option, walk_of_start, walk_of_labels, walk_of_statement, walk_of_item, walk_of_items}
use Rattle.c_checking_laws.proofs.CompleteStatements.{walk_of_switch_item, walk_of_switch_items}
use Rattle.c_checking_laws.proofs.CompleteWalk.{Event, walk}
use Rattle.c_checking_laws.proofs.WholeFiles.CompleteStaticLists.{object_at, walk_of_statics}
use Rattle.c_checking_units.proofs.There.{HasObject, AreThere, there_both, for_value_there, there, there_declarator, there_specifiers}
use Rattle.c_checking_units.proofs.ThereInitially.{constants_there, initializer_there}
use Rattle.c_checking_units.proofs.Walking.{own}

module _ (g : FileScope) (ls : List ALocal) (types : List (List ℕ)) where
  -- in a body, with what its blocks declare
  abbrev body : List (List Bound) → Scope
  body b = record { file = g; blocks = b; is_inside = true; purpose = in_full; locals = ls }

  abbrev Inside : List Event → Type 0
  Inside all = AreThere g true in_full all

  join : (a b : List Event) → Inside a → Inside b → Inside (a ++ b)
  join a b h k = there_both g true in_full a b h k

  -- the scope after a part is one of the body
  abbrev IsInBody : Scope → Type 0
  IsInBody s = (b : List (List Bound)) × (s ≡ body b)

  -- ---- declarations

  look_there : (o : Option Spelling) → Inside (look_at g.untagged g.objects o)
  look_there None = tt
  look_there (Some x) = (λ m. tt, tt)

  object_there : (d : Trees.InitDeclarator) (x : Spelling) (o : Option Spelling) → o ≡ Some x → HasObject g (first_declarator d.declarator x.from)
      → Inside (object_at d o)
  object_there d x o e h = subst (λ o. Inside (object_at d o)) (sym e) (λ m. h, tt)

  locals_there : (all : List Trees.InitDeclarator) (b : List (List Bound)) (base : CType) (found : Statements) (after : Scope)
      → DeclareAll all (body b) false base found after → IsInBody after × Inside (walk_of_locals g.untagged g.objects all)
  locals_there [] b base found after h = ((b, h.1), tt)
  locals_there (d ∷ more) b base found after h =
      let v = h.5 in
      let s = with_variable (body b) h.0 h.2 h.1 in
      let r = locals_there more s.blocks base h.4 after h.9 in
      let declared = join _ _ (look_there (declared_name d.declarator)) (there_declarator d.declarator (body b) base v.0 v.2) in
      (r.0, join _ _ (join _ _ declared (initializer_there d.value s h.1 h.3 h.8)) r.1)

  statics_there : (all : List Trees.InitDeclarator) (b : List (List Bound)) (base : CType) (found : Statements) (after : Scope)
      → DeclareAll all (body b) true base found after → IsInBody after × Inside (walk_of_statics g all)
  statics_there [] b base found after h = ((b, h.1), tt)
  statics_there (d ∷ more) b base found after h =
      let v = h.3 in
      let s = with_object (body b) h.0 h.2 h.1 in
      let r = statics_there more s.blocks base found after h.5 in
      let object = object_there d h.0 (declared_name d.declarator) v.1 (h.2, _, h.4.2, refl) in
      let declared = join _ _ (look_there (declared_name d.declarator)) (there_declarator d.declarator (body b) base v.0 v.2) in
      (r.0, join _ _ (join _ _ (join _ _ object declared) (constants_there d.value s h.1 h.4.0 h.4.1)) r.1)

  by_storage : (words : Storage) (all : List Trees.InitDeclarator) (b : List (List Bound)) (base : CType) (found : Statements) (after : Scope)
      → ((words ≡ is_static) × DeclareAll all (body b) true base found after)
      ⊎ (((words ≡ no_storage) ⊎ (words ≡ is_auto) ⊎ (words ≡ is_register)) × DeclareAll all (body b) false base found after)
      → IsInBody after × Inside (walk_by_storage g (λ all. walk_of_statics g all) words all)
  by_storage words all b base found after (inl h) =
      let r = statics_there all b base found after h.1 in
      (r.0, subst (λ words. Inside (walk_by_storage g (λ all. walk_of_statics g all) words all)) (sym h.0) r.1)
  by_storage words all b base found after (inr h) =
      let r = locals_there all b base found after h.1 in (r.0, kept h.0 r.1)
    where
      kept : (words ≡ no_storage) ⊎ (words ≡ is_auto) ⊎ (words ≡ is_register) → Inside (walk_of_locals g.untagged g.objects all)
          → Inside (walk_by_storage g (λ all. walk_of_statics g all) words all)
      kept (inl e) r = subst (λ words. Inside (walk_by_storage g (λ all. walk_of_statics g all) words all)) (sym e) r
      kept (inr (inl e)) r = subst (λ words. Inside (walk_by_storage g (λ all. walk_of_statics g all) words all)) (sym e) r
      kept (inr (inr e)) r = subst (λ words. Inside (walk_by_storage g (λ all. walk_of_statics g all) words all)) (sym e) r

  abbrev Own : Trees.Declaration → List Event
  Own d = own g d

  declaration_there : (d : Trees.Declaration) (b : List (List Bound)) (found : Statements) (after : Scope) → IsLocalDeclaration d (body b) found after
      → IsInBody after × Inside (Own d)
  declaration_there d b found after h =
      let r = by_storage (storage_of d.specs) d.all b h.0 found after h.3 in
      (r.0, join _ _ (there_specifiers d.specs (body b) h.0 h.1) r.1)

  -- ---- parts of statements

  option_there : (a : Option Trees.Expression) (b : List (List Bound)) (x : Option Expression) → IsPlainIfAny a (body b) x
      → Inside (walk_of_option g.untagged Own a)
  option_there None b x h = tt
  option_there (Some a) b x h = there a (body b) h.2.0.0 h.2.0.2

  start_there : (t : Trees.ForStart) (b : List (List Bound)) (found : Statements) (after : Scope) → IsStart t (body b) found after
      → IsInBody after × Inside (walk_of_start g.untagged Own t)
  start_there (Trees.starts_with None semicolon) b found after h = ((b, h.1), tt)
  start_there (Trees.starts_with (Some a) semicolon) b found after h = ((b, h.3), there a (body b) h.2.0.0 h.2.0.2)
  start_there (Trees.declares d) b found after h = declaration_there d b found after h.0

  labels_there : (all : List Trees.Label) (b : List (List Bound)) (kind : IntKind) (cases : List ℕ) (defaults : ℕ)
      → AreLabels all (body b) kind cases defaults → Inside (walk_of_labels g.untagged Own all)
  labels_there [] b kind cases defaults h = tt
  labels_there (Trees.case at a colon ∷ more) b kind cases defaults h =
      join _ _ (for_value_there g true in_full (walk g.untagged a) (there a (for_value (body b)) h.3.1.0 h.3.1.2))
      (labels_there more b kind h.2 defaults h.5)
  labels_there (Trees.default at colon ∷ more) b kind cases defaults h = labels_there more b kind cases h.0 h.2

  -- ---- statements

  abbrev OfStatement : Trees.Statement → Type 0
  OfStatement t = (b : List (List Bound)) (found : Statement) → ErasesStatement t (body b) found → Inside (walk_of_statement g.untagged Own t)

  abbrev OfItem : Trees.BlockItem → Type 0
  OfItem t = (b : List (List Bound)) (found : Statements) (after : Scope) → ErasesItem t (body b) found after
      → IsInBody after × Inside (walk_of_item g.untagged Own t)

  abbrev OfItems : Trees.BlockItems → Type 0
  OfItems t = (b : List (List Bound)) (found : Statements) → EraseItems t (body b) found → Inside (walk_of_items g.untagged Own t)

  abbrev OfSwitchItem : Trees.SwitchItem → Type 0
  OfSwitchItem t = (b : List (List Bound)) (kind : IntKind) (cases : List ℕ) (defaults : ℕ) (found : Statements) (after : Scope)
      → ErasesSwitchItem t (body b) kind cases defaults found after → IsInBody after × Inside (walk_of_switch_item g.untagged Own t)

  abbrev OfSwitchItems : Trees.SwitchItems → Type 0
  OfSwitchItems t = (b : List (List Bound)) (kind : IntKind) (found : Statements) (arms : Arms) → EraseSwitchItems t (body b) kind found arms
      → Inside (walk_of_switch_items g.untagged Own t)

  of_block : (left : ℕ) (items : Trees.BlockItems) (right : ℕ) → OfItems items → OfStatement (Trees.block left items right)
  of_block left items right p b found h = p ([] ∷ b) h.0 h.2

  of_evaluate : (a : Option Trees.Expression) (semicolon : ℕ) → OfStatement (Trees.evaluate a semicolon)
  of_evaluate None semicolon b found h = tt
  of_evaluate (Some a) semicolon b found h = there a (body b) h.2.0.0 h.2.0.2

  of_when : (at left : ℕ) (a : Trees.Expression) (right : ℕ) (one : Trees.Statement) → OfStatement one → OfStatement (Trees.when at left a right one)
  of_when at left a right one p b found h = join _ _ (there a (body b) h.3.0.0 h.3.0.2) (p b h.1 h.4)

  of_choose : (at left : ℕ) (a : Trees.Expression) (right : ℕ) (one : Trees.Statement) (middle : ℕ) (other : Trees.Statement) → OfStatement one
      → OfStatement other → OfStatement (Trees.choose at left a right one middle other)
  of_choose at left a right one middle other p q b found h =
      join _ _ (join _ _ (there a (body b) h.4.0.0 h.4.0.2) (p b h.1 h.5)) (q b h.2 h.6)

  of_while : (at left : ℕ) (a : Trees.Expression) (right : ℕ) (one : Trees.Statement) → OfStatement one → OfStatement (Trees.while at left a right one)
  of_while at left a right one p b found h = join _ _ (there a (body b) h.3.0.0 h.3.0.2) (p b h.1 h.4)

  of_do_while : (at : ℕ) (one : Trees.Statement) (until left : ℕ) (a : Trees.Expression) (right semicolon : ℕ) → OfStatement one
      → OfStatement (Trees.do_while at one until left a right semicolon)
  of_do_while at one until left a right semicolon p b found h = join _ _ (p b h.0 h.3) (there a (body b) h.4.0.0 h.4.0.2)

  of_for : (at left : ℕ) (start : Trees.ForStart) (test : Option Trees.Expression) (semicolon : ℕ) (step : Option Trees.Expression) (right : ℕ)
      (one : Trees.Statement) → OfStatement one → OfStatement (Trees.for at left start test semicolon step right one)
  of_for at left start test semicolon step right one p b found h =
      let r = start_there start ([] ∷ b) h.0 h.1 h.6 in
      let e = r.0.1 in
      let test_there = option_there test r.0.0 h.2 (subst (λ s. IsPlainIfAny test s h.2) e h.7) in
      let step_there = option_there step r.0.0 h.3 (subst (λ s. IsPlainIfAny step s h.3) e h.8) in
      let one_there = p r.0.0 h.4 (subst (λ s. ErasesStatement one s h.4) e h.9) in
      join _ _ (join _ _ (join _ _ r.1 test_there) step_there) one_there

  of_switch : (at left : ℕ) (a : Trees.Expression) (right begin : ℕ) (items : Trees.SwitchItems) (end : ℕ) → OfSwitchItems items
      → OfStatement (Trees.switch at left a right begin items end)
  of_switch at left a right begin items end p b found h = join _ _ (there a (body b) h.5.0 h.5.2) (p ([] ∷ b) h.1 h.2 h.3 h.7)

  of_return : (at : ℕ) (a : Option Trees.Expression) (semicolon : ℕ) → OfStatement (Trees.return at a semicolon)
  of_return at None semicolon b found h = tt
  of_return at (Some a) semicolon b found h = there a (body b) h.2.0 h.2.2

  of_local : (d : Trees.Declaration) → OfItem (Trees.local d)
  of_local d b found after h = declaration_there d b found after h

  of_statement : (t : Trees.Statement) → OfStatement t → OfItem (Trees.statement t)
  of_statement t p b found after h = ((b, h.3), p b h.0 h.2)

  of_item : (e : Trees.BlockItem) (more : Trees.BlockItems) → OfItem e → OfItems more → OfItems (Trees.and_block_item e more)
  of_item e more p q b found h =
      let r = p b h.0 h.2 h.4 in join _ _ r.1 (q r.0.0 h.1 (subst (λ s. EraseItems more s h.1) r.0.1 h.5))

  of_local_switch_item : (d : Trees.Declaration) → OfSwitchItem (Trees.local_switch_item d)
  of_local_switch_item d b kind cases defaults found after h = declaration_there d b found after h.2

  of_labelled : (labels : List Trees.Label) (t : Trees.Statement) → OfStatement t → OfSwitchItem (Trees.labelled labels t)
  of_labelled labels t p b kind cases defaults found after h =
      ((b, h.2), join _ _ (labels_there labels b kind cases defaults h.0) (p b h.1.0 h.1.2))

  of_switch_item : (e : Trees.SwitchItem) (more : Trees.SwitchItems) → OfSwitchItem e → OfSwitchItems more → OfSwitchItems (Trees.and_switch_item e more)
  of_switch_item e more p q b kind found arms h =
      let r = p b kind h.0 h.1 h.2 h.5 h.6 in
      join _ _ r.1 (q r.0.0 kind h.3 h.4 (subst (λ s. EraseSwitchItems more s kind h.3 h.4) r.0.1 h.7))

  mutual
    statement_there : (t : Trees.Statement) → OfStatement t
    statement_there (Trees.block left items right) = of_block left items right (items_there items)
    statement_there (Trees.evaluate a semicolon) = of_evaluate a semicolon
    statement_there (Trees.when at left a right one) = of_when at left a right one (statement_there one)
    statement_there (Trees.choose at left a right one middle other) =
        of_choose at left a right one middle other (statement_there one) (statement_there other)
    statement_there (Trees.while at left a right one) = of_while at left a right one (statement_there one)
    statement_there (Trees.do_while at one until left a right semicolon) = of_do_while at one until left a right semicolon (statement_there one)
    statement_there (Trees.for at left start test semicolon step right one) =
        of_for at left start test semicolon step right one (statement_there one)
    statement_there (Trees.switch at left a right begin items end) = of_switch at left a right begin items end (switch_items_there items)
    statement_there (Trees.break at semicolon) = λ b found h. tt
    statement_there (Trees.continue at semicolon) = λ b found h. tt
    statement_there (Trees.return at a semicolon) = of_return at a semicolon

    item_there : (t : Trees.BlockItem) → OfItem t
    item_there (Trees.local d) = of_local d
    item_there (Trees.statement a) = of_statement a (statement_there a)

    pub items_there : (t : Trees.BlockItems) → OfItems t
    items_there Trees.no_block_items = λ b found h. tt
    items_there (Trees.and_block_item e more) = of_item e more (item_there e) (items_there more)

    switch_item_there : (t : Trees.SwitchItem) → OfSwitchItem t
    switch_item_there (Trees.local_switch_item d) = of_local_switch_item d
    switch_item_there (Trees.labelled labels a) = of_labelled labels a (statement_there a)

    switch_items_there : (t : Trees.SwitchItems) → OfSwitchItems t
    switch_items_there Trees.no_switch_items = λ b kind found arms h. tt
    switch_items_there (Trees.and_switch_item e more) = of_switch_item e more (switch_item_there e) (switch_items_there more)
