-- No two types of which a file speaks outside of its expressions stand at one place: in declarations, statements and items.
use Rattle.std.proofs.Common.{◌≡◌, ℕ, List, [], ◌∷◌, Option, Some, None, Bool, true, false, subst}
use Rattle.std.specs.Prelude.{slice_get}
use Rattle.c_ast.specs.Spelling.{Lexeme, spell, spelled, spelled_arguments, spelled_value, spelled_init_declarators, spelled_declaration, spelled_if_any}
use Rattle.c_ast.specs.Spelling.{spelled_labels, spelled_for_start, spelled_statement, spelled_block_item, spelled_block_items, spelled_switch_item}
use Rattle.c_ast.specs.Spelling.{spelled_switch_items, spelled_item, spelled_items}
use Rattle.c_ast.specs.Trees
use Rattle.c_ast.specs.TreesOfFiles.{IsTreeOf}
use Rattle.c_ast.specs.WellFormed.{IsInitializer, AreInitializers, IsValue, AreInitDeclarators, IsDeclaration, IsExpressionIfAny, AreLabels, IsForStart}
use Rattle.c_ast.specs.WellFormed.{IsStatement, IsBlockItem, AreBlockItems, IsSwitchItem, AreSwitchItems, IsItem, AreItems, types_after}
use Rattle.c_erasure.specs.MentionPlaces.{spoken, spoken_of_all, spoken_by_value, spoken_of_declarators, spoken_of_declaration, spoken_if_some, spoken_of_start}
use Rattle.c_erasure.specs.MentionPlaces.{spoken_of_labels, spoken_by, spoken_by_item, spoken_by_items, spoken_by_switch_item, spoken_by_switch_items}
use Rattle.c_erasure.specs.MentionPlaces.{mentions_of_item, mentions_of_file}
use Rattle.c_erasure.proofs.MarkPlaces.Walks.{comma_along}
use Rattle.c_checking_laws.proofs.TextOrder.Rising.{AreRising, unmarked}
use Rattle.c_checking_laws.proofs.TextOrder.Tokens.{tokens_rise}
use Rattle.c_checking_units.proofs.Spread.{Spread, none, skip, both, before, after, quiet}
use Rattle.c_checking_units.proofs.SpokenParts.{named_is, speaks, specifiers_speak, declared_speaks}

module _ (u : ℕ → List ℕ) (types : List (List ℕ)) where
  mutual
    initializer_speaks : (t : Trees.Expression) → IsInitializer types t → {rest : List Lexeme} → Spread (spoken t) (spelled t rest) rest
    initializer_speaks (Trees.braces left all comma right) w =
        skip (before (initializers_speak true all w.1) (after (quiet (unmarked (comma_along comma))) (skip none)))
    initializer_speaks t w = speaks u types t w.1

    initializers_speak : (start : Bool) (t : Trees.Arguments) → AreInitializers types start t → {rest : List Lexeme}
        → Spread (spoken_of_all t) (spelled_arguments t rest) rest
    initializers_speak start Trees.no_arguments w = none
    initializers_speak start (Trees.and_argument comma a more) w =
        after (quiet (unmarked (comma_along comma))) (both (initializer_speaks a w.1) (initializers_speak false more w.2))

  value_speaks : (t : Option (ℕ × Trees.Expression)) → IsValue types t → {rest : List Lexeme} → Spread (spoken_by_value t) (spelled_value t rest) rest
  value_speaks None w = none
  value_speaks (Some value) w = skip (initializer_speaks value.1 w)

  declarators_speak : (start : Bool) (t : List Trees.InitDeclarator) → AreInitDeclarators types start t → (semicolon : ℕ) → {rest : List Lexeme}
      → Spread (spoken_of_declarators t semicolon) (spelled_init_declarators t rest) rest
  declarators_speak start [] w semicolon = none
  declarators_speak start (d ∷ more) w semicolon =
      after (quiet (unmarked (comma_along d.comma)))
      (both (both (declared_speaks u types d.declarator (named_is d.declarator w.2) w.1 semicolon) (value_speaks d.value w.3))
      (declarators_speak false more w.4 semicolon))

  declaration_speaks : (t : Trees.Declaration) → IsDeclaration types t → {rest : List Lexeme} → Spread (spoken_of_declaration t) (spelled_declaration t rest) rest
  declaration_speaks d w = both (specifiers_speak u types d.specs w.0) (before (declarators_speak true d.all w.1 d.semicolon) (skip none))

  if_any_speaks : (t : Option Trees.Expression) → IsExpressionIfAny types t → {rest : List Lexeme} → Spread (spoken_if_some t) (spelled_if_any t rest) rest
  if_any_speaks None w = none
  if_any_speaks (Some a) w = speaks u types a w

  labels_speak : (t : List Trees.Label) → AreLabels types t → {rest : List Lexeme} → Spread (spoken_of_labels t) (spelled_labels t rest) rest
  labels_speak [] w = none
  labels_speak (Trees.case at a colon ∷ more) w = skip (both (speaks u types a w.1) (skip (labels_speak more w.2)))
  labels_speak (Trees.default at colon ∷ more) w = skip (skip (labels_speak more w))

  start_speaks : (t : Trees.ForStart) → IsForStart types t → {rest : List Lexeme} → Spread (spoken_of_start t) (spelled_for_start t rest) rest
  start_speaks (Trees.starts_with a semicolon) w = before (if_any_speaks a w) (skip none)
  start_speaks (Trees.declares d) w = declaration_speaks d w.1

  mutual
    statement_speaks : (t : Trees.Statement) → IsStatement types t → {rest : List Lexeme} → Spread (spoken_by t) (spelled_statement t rest) rest
    statement_speaks (Trees.block left items right) w = skip (before (items_speak items w) (skip none))
    statement_speaks (Trees.evaluate a semicolon) w = before (if_any_speaks a w) (skip none)
    statement_speaks (Trees.when at left a right one) w = skip (skip (both (speaks u types a w.0) (skip (statement_speaks one w.1))))
    statement_speaks (Trees.choose at left a right one else other) w =
        skip (skip (both (both (speaks u types a w.1) (skip (statement_speaks one w.2))) (skip (statement_speaks other w.3))))
    statement_speaks (Trees.while at left a right body) w = skip (skip (both (speaks u types a w.0) (skip (statement_speaks body w.1))))
    statement_speaks (Trees.do_while at body while left a right semicolon) w =
        skip (both (statement_speaks body w.0) (skip (skip (before (speaks u types a w.1) (skip (skip none))))))
    statement_speaks (Trees.for at left start test semicolon step right body) w =
        skip (skip (both (both (both (start_speaks start w.0) (if_any_speaks test w.1)) (skip (if_any_speaks step w.2))) (skip (statement_speaks body w.3))))
    statement_speaks (Trees.switch at left a right begin items end) w =
        skip (skip (both (speaks u types a w.0) (skip (skip (before (switch_items_speak items w.1) (skip none))))))
    statement_speaks (Trees.break at semicolon) w = skip (skip none)
    statement_speaks (Trees.continue at semicolon) w = skip (skip none)
    statement_speaks (Trees.return at a semicolon) w = skip (before (if_any_speaks a w) (skip none))

    item_speaks : (t : Trees.BlockItem) → IsBlockItem types t → {rest : List Lexeme} → Spread (spoken_by_item t) (spelled_block_item t rest) rest
    item_speaks (Trees.local d) w = declaration_speaks d w
    item_speaks (Trees.statement a) w = statement_speaks a w

    items_speak : (t : Trees.BlockItems) → AreBlockItems types t → {rest : List Lexeme} → Spread (spoken_by_items t) (spelled_block_items t rest) rest
    items_speak Trees.no_block_items w = none
    items_speak (Trees.and_block_item e more) w = both (item_speaks e w.0) (items_speak more w.1)

    switch_item_speaks : (t : Trees.SwitchItem) → IsSwitchItem types t → {rest : List Lexeme}
        → Spread (spoken_by_switch_item t) (spelled_switch_item t rest) rest
    switch_item_speaks (Trees.local_switch_item d) w = declaration_speaks d w.1
    switch_item_speaks (Trees.labelled labels a) w = both (labels_speak labels w.0) (statement_speaks a w.1)

    switch_items_speak : (t : Trees.SwitchItems) → AreSwitchItems types t → {rest : List Lexeme}
        → Spread (spoken_by_switch_items t) (spelled_switch_items t rest) rest
    switch_items_speak Trees.no_switch_items w = none
    switch_items_speak (Trees.and_switch_item item more) w = both (switch_item_speaks item w.0) (switch_items_speak more w.1)

  file_item_speaks : (t : Trees.Item) → IsItem types t → {rest : List Lexeme} → Spread (mentions_of_item t) (spelled_item t rest) rest
  file_item_speaks (Trees.defines specs d left items right) w =
      both (both (specifiers_speak u types specs w.0) (declared_speaks u types d (named_is d w.2) w.1 left)) (skip (before (items_speak items w.3) (skip none)))
  file_item_speaks (Trees.declaration d) w = declaration_speaks d w

file_items_speak : (u : ℕ → List ℕ) (types : List (List ℕ)) (t : List Trees.Item) → AreItems types t → {rest : List Lexeme}
    → Spread (mentions_of_file t) (spelled_items t rest) rest
file_items_speak u types [] w = none
file_items_speak u types (item ∷ items) w = both (file_item_speaks u types item w.0) (file_items_speak u (types_after types item) items w.1)

-- the types of which the file of a text speaks stand at different places
pub mentions_apart : (u : ℕ → List ℕ) (bytes : List ℕ) (items : List Trees.Item) → IsTreeOf bytes items → (j k p : ℕ)
    → slice_get (mentions_of_file items) j ≡ Some p → slice_get (mentions_of_file items) k ≡ Some p → j ≡ k
mentions_apart u bytes items tree j k p e f =
    let rising : AreRising 0 (spell items) = subst (AreRising 0) tree.3.spelled (tokens_rise bytes tree.0 tree.1) in
    let r = (file_items_speak u [] items tree.3.well_formed {rest = []}).along 0 rising in
    r.1.apart j k p e f
