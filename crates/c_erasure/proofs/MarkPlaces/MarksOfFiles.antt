-- The marks of a file's items stand at its tokens, in their order.
use Rattle.std.proofs.Common.{ℕ, List, [], ◌∷◌, ◌++◌, Option, Some, None, Bool, true, false, refl, append_assoc}
use Rattle.std.specs.Prelude.{unwrap_or}
use Rattle.c_tokens.specs.declared.punctuator.Punctuator.TheVariants as M
use Rattle.c_ast.specs.Trees
use Rattle.c_ast.specs.Spelling.{Lexeme, punctuator, spelled, spelled_arguments, spelled_comma, spelled_init_declarators, spelled_declaration}
use Rattle.c_ast.specs.Spelling.{spelled_declarator, spelled_value, spelled_if_any, spelled_labels, spelled_for_start, spelled_statement, spelled_block_item}
use Rattle.c_ast.specs.Spelling.{spelled_block_items, spelled_switch_item, spelled_switch_items, spelled_item, spelled_items}
use Rattle.c_ast.specs.WellFormed.{IsComma, IsDeclarator, IsInitializer, AreInitializers, IsValue, AreInitDeclarators, IsDeclaration, IsExpressionIfAny}
use Rattle.c_ast.specs.WellFormed.{AreLabels, IsForStart}
use Rattle.c_ast.specs.WellFormed.{IsStatement, IsBlockItem, AreBlockItems, IsSwitchItem, AreSwitchItems, IsItem, AreItems, types_after}
use Rattle.c_erasure.specs.Marks.{Mark, a_name, marks, marks_of_all, marks_of_specifiers, marks_of_initial, marks_of_declarators, marks_of_item}
use Rattle.c_erasure.specs.Marks.{marks_of_declarator, marks_of_file, after_declarator, name_from}
use Rattle.c_erasure.specs.MarkPlaces.Places.{Along}
use Rattle.c_erasure.proofs.MarkPlaces.Walks.{none, skip, both, before, begins, bare, after, comma_along}
use Rattle.c_erasure.proofs.MarkPlaces.MarksOfParts.{along, specifiers_along, declarator_along}

module _ (u : ℕ → List ℕ) (types : List (List ℕ)) where
  mutual
    pub initializer_along : (t : Trees.Expression) → IsInitializer types t → {rest : List Lexeme} → Along (marks u t) (spelled t rest) rest
    initializer_along (Trees.braces left all comma right) w =
        skip (before (initializers_along true all w.1) (after (comma_along comma) (skip none)))
    initializer_along (Trees.name x) w = along u types (Trees.name x) w.1
    initializer_along (Trees.number x n kind) w = along u types (Trees.number x n kind) w.1
    initializer_along (Trees.character x n) w = along u types (Trees.character x n) w.1
    initializer_along (Trees.texts all) w = along u types (Trees.texts all) w.1
    initializer_along (Trees.paren left a right) w = along u types (Trees.paren left a right) w.1
    initializer_along (Trees.index a left b right) w = along u types (Trees.index a left b right) w.1
    initializer_along (Trees.call f left all right) w = along u types (Trees.call f left all right) w.1
    initializer_along (Trees.dot a at x) w = along u types (Trees.dot a at x) w.1
    initializer_along (Trees.arrow a at x) w = along u types (Trees.arrow a at x) w.1
    initializer_along (Trees.post a op at) w = along u types (Trees.post a op at) w.1
    initializer_along (Trees.pre op at a) w = along u types (Trees.pre op at a) w.1
    initializer_along (Trees.unary op at a) w = along u types (Trees.unary op at a) w.1
    initializer_along (Trees.sizeof_expression at a) w = along u types (Trees.sizeof_expression at a) w.1
    initializer_along (Trees.sizeof_type at left t right) w = along u types (Trees.sizeof_type at left t right) w.1
    initializer_along (Trees.cast left t right a) w = along u types (Trees.cast left t right a) w.1
    initializer_along (Trees.binary a op at b) w = along u types (Trees.binary a op at b) w.1
    initializer_along (Trees.cond a question b colon c) w = along u types (Trees.cond a question b colon c) w.1
    initializer_along (Trees.assign a op at b) w = along u types (Trees.assign a op at b) w.1
    initializer_along (Trees.comma a at b) w = along u types (Trees.comma a at b) w.1

    initializers_along : (first : Bool) (t : Trees.Arguments) → AreInitializers types first t → {rest : List Lexeme}
        → Along (marks_of_all u t) (spelled_arguments t rest) rest
    initializers_along first Trees.no_arguments w = none
    initializers_along first (Trees.and_argument comma a more) w =
        after (comma_along comma) (both (initializer_along a w.1) (initializers_along false more w.2))

  -- ---- declarations

  -- the scope of a declarator begins at the comma after it
  comma_begins : (c : Option ℕ) → IsComma false c → (at : ℕ) {marks : List Mark} {tokens rest : List Lexeme} → Along marks tokens rest
      → Along (a_name (unwrap_or c at) ∷ marks) (spelled_comma c tokens) rest
  comma_begins None w at p = cc
  comma_begins (Some comma) w at p = begins refl p

  one_along : (d : Trees.Declarator) (value : Option (ℕ × Trees.Expression)) → IsDeclarator types d → IsValue types value → (from : ℕ)
      {others : List Mark} {tokens rest : List Lexeme} → Along others tokens rest → Along (a_name from ∷ others) tokens rest
      → Along (marks_of_declarator u d ++ a_name (name_from value from) ∷ marks_of_initial u value ++ others)
      (spelled_declarator d (spelled_value value tokens)) rest
  one_along d None w v from p q = rw append_assoc (both (declarator_along u types d w) q)
  one_along d (Some value) w v from p q = both (both (declarator_along u types d w) (begins refl (initializer_along value.1 v))) p

  -- with the semicolon after them, where the scope of the last may begin
  mutual
    pub declarators_along : (first : Bool) (t : List Trees.InitDeclarator) → AreInitDeclarators types first t → (at : ℕ) → {rest : List Lexeme}
        → Along (marks_of_declarators u t at) (spelled_init_declarators t (punctuator M.Semicolon at ∷ rest)) rest
    declarators_along first [] w at = skip none
    declarators_along first (d ∷ more) w at = after (comma_along d.comma)
        (one_along d.declarator d.value w.1 w.3 (after_declarator more at) (declarators_along false more w.4 at) (next_along more w.4 at))

    next_along : (t : List Trees.InitDeclarator) → AreInitDeclarators types false t → (at : ℕ) → {rest : List Lexeme}
        → Along (a_name (after_declarator t at) ∷ marks_of_declarators u t at) (spelled_init_declarators t (punctuator M.Semicolon at ∷ rest)) rest
    next_along [] w at = begins refl none
    next_along (d ∷ more) w at = comma_begins d.comma w.0 at
        (one_along d.declarator d.value w.1 w.3 (after_declarator more at) (declarators_along false more w.4 at) (next_along more w.4 at))

  pub declaration_along : (d : Trees.Declaration) → IsDeclaration types d → {rest : List Lexeme}
      → Along (marks_of_specifiers u d.specs ++ marks_of_declarators u d.all d.semicolon) (spelled_declaration d rest) rest
  declaration_along d w = both (specifiers_along u types d.specs w.0) (declarators_along true d.all w.1 d.semicolon)

  -- ---- statements, in which nothing is marked

  pub if_any_along : (t : Option Trees.Expression) → IsExpressionIfAny types t → {rest : List Lexeme} → Along [] (spelled_if_any t rest) rest
  if_any_along None w = none
  if_any_along (Some a) w = bare (along u types a w)

  pub labels_along : (t : List Trees.Label) → AreLabels types t → {rest : List Lexeme} → Along [] (spelled_labels t rest) rest
  labels_along [] w = none
  labels_along (Trees.case at a colon ∷ more) w = skip (after (along u types a w.1) (skip (labels_along more w.2)))
  labels_along (Trees.default at colon ∷ more) w = skip (skip (labels_along more w))

  pub for_start_along : (t : Trees.ForStart) → IsForStart types t → {rest : List Lexeme} → Along [] (spelled_for_start t rest) rest
  for_start_along (Trees.starts_with a semicolon) w = after (if_any_along a w) (skip none)
  for_start_along (Trees.declares d) w = bare (declaration_along d w.1)

  mutual
    pub statement_along : (t : Trees.Statement) → IsStatement types t → {rest : List Lexeme} → Along [] (spelled_statement t rest) rest
    statement_along (Trees.block left items right) w = skip (after (block_items_along items w) (skip none))
    statement_along (Trees.evaluate a semicolon) w = after (if_any_along a w) (skip none)
    statement_along (Trees.when at left a right one) w = skip (skip (after (along u types a w.0) (skip (statement_along one w.1))))
    statement_along (Trees.choose at left a right one else other) w =
        skip (skip (after (along u types a w.1) (skip (after (statement_along one w.2) (skip (statement_along other w.3))))))
    statement_along (Trees.while at left a right body) w = skip (skip (after (along u types a w.0) (skip (statement_along body w.1))))
    statement_along (Trees.do_while at body while left a right semicolon) w =
        skip (after (statement_along body w.0) (skip (skip (after (along u types a w.1) (skip (skip none))))))
    statement_along (Trees.for at left start test semicolon step right body) w =
        skip (skip (after (for_start_along start w.0) (after (if_any_along test w.1) (skip (after (if_any_along step w.2)
        (skip (statement_along body w.3)))))))
    statement_along (Trees.switch at left a right begin items end) w =
        skip (skip (after (along u types a w.0) (skip (skip (after (switch_items_along items w.1) (skip none))))))
    statement_along (Trees.break at semicolon) w = skip (skip none)
    statement_along (Trees.continue at semicolon) w = skip (skip none)
    statement_along (Trees.return at a semicolon) w = skip (after (if_any_along a w) (skip none))

    pub block_item_along : (t : Trees.BlockItem) → IsBlockItem types t → {rest : List Lexeme} → Along [] (spelled_block_item t rest) rest
    block_item_along (Trees.local d) w = bare (declaration_along d w)
    block_item_along (Trees.statement a) w = statement_along a w

    pub block_items_along : (t : Trees.BlockItems) → AreBlockItems types t → {rest : List Lexeme} → Along [] (spelled_block_items t rest) rest
    block_items_along Trees.no_block_items w = none
    block_items_along (Trees.and_block_item e more) w = after (block_item_along e w.0) (block_items_along more w.1)

    pub switch_item_along : (t : Trees.SwitchItem) → IsSwitchItem types t → {rest : List Lexeme} → Along [] (spelled_switch_item t rest) rest
    switch_item_along (Trees.local_switch_item d) w = bare (declaration_along d w.1)
    switch_item_along (Trees.labelled labels a) w = after (labels_along labels w.0) (statement_along a w.1)

    pub switch_items_along : (t : Trees.SwitchItems) → AreSwitchItems types t → {rest : List Lexeme} → Along [] (spelled_switch_items t rest) rest
    switch_items_along Trees.no_switch_items w = none
    switch_items_along (Trees.and_switch_item item more) w = after (switch_item_along item w.0) (switch_items_along more w.1)

  -- ---- items: the scope of a function begins at the brace of its body

  pub item_along : (t : Trees.Item) → IsItem types t → {rest : List Lexeme} → Along (marks_of_item u t) (spelled_item t rest) rest
  item_along (Trees.defines specs d left items right) w =
      both (both (specifiers_along u types specs w.0) (declarator_along u types d w.1)) (begins refl (after (block_items_along items w.3) (skip none)))
  item_along (Trees.declaration d) w = declaration_along d w

pub items_along : (u : ℕ → List ℕ) (types : List (List ℕ)) (t : List Trees.Item) → AreItems types t → {rest : List Lexeme}
    → Along (marks_of_file u t) (spelled_items t rest) rest
items_along u types [] w = none
items_along u types (item ∷ items) w = both (item_along u types item w.0) (items_along u (types_after types item) items w.1)
