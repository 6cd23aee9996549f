-- What holds of the places of all tokens of a statement or an item, and of those behind it, holds of those behind it, and of the tags in the item.
use Rattle.std.proofs.Common.{ℕ, List, [], ◌∷◌, ◌++◌, Option, Some, None}
use Rattle.c_ast.specs.Trees
use Rattle.c_ast.specs.Spelling.{Lexeme, spelled_value, spelled_init_declarators, spelled_declaration, spelled_if_any, spelled_labels, spelled_for_start}
use Rattle.c_ast.specs.Spelling.{spelled_statement, spelled_block_item, spelled_block_items, spelled_switch_item, spelled_switch_items, spelled_item}
use Rattle.c_ast.specs.Spelling.{spelled_items}
use Rattle.c_erasure.specs.Marks.{Mark, a_name, marks_of_initial, marks_of_declarators, marks_of_item, marks_of_file, marks_of_specifiers}
use Rattle.c_checking_units.proofs.FaultPlaces.Tokens.{Tokens, Behind, back, only, and, tag_before, skipped, comma_after}
use Rattle.c_checking_units.proofs.FaultPlaces.Tokens.{expression_behind, specifiers_behind, declarator_behind}

name_before : {P : ℕ → Type 0} {from : ℕ} {all : List Mark} {rest : List Lexeme} → Behind P all rest → Behind P (a_name from ∷ all) rest
name_before p = record { tags = tag_before tt p.tags; tokens = p.tokens }

module _ (P : ℕ → Type 0) (u : ℕ → List ℕ) where
  value_behind : (t : Option (ℕ × Trees.Expression)) {rest : List Lexeme} → Tokens P (spelled_value t rest) → Behind P (marks_of_initial u t) rest
  value_behind None h = only h
  value_behind (Some value) h = expression_behind P u value.1 (back h)

  declarators_behind : (t : List Trees.InitDeclarator) (semicolon : ℕ) {rest : List Lexeme} → Tokens P (spelled_init_declarators t rest)
      → Behind P (marks_of_declarators u t semicolon) rest
  declarators_behind [] semicolon h = only h
  declarators_behind (d ∷ more) semicolon h =
      let p = declarator_behind P u d.declarator (comma_after d.comma h) in
      let q = value_behind d.value p.tokens in
      and (and p (name_before q)) (declarators_behind more semicolon q.tokens)

  pub declaration_behind : (d : Trees.Declaration) {rest : List Lexeme} → Tokens P (spelled_declaration d rest)
      → Behind P (marks_of_specifiers u d.specs ++ marks_of_declarators u d.all d.semicolon) rest
  declaration_behind d h = let p = specifiers_behind P u d.specs h in skipped (and p (declarators_behind d.all d.semicolon p.tokens))

  pub if_any_behind : (t : Option Trees.Expression) {rest : List Lexeme} → Tokens P (spelled_if_any t rest) → Tokens P rest
  if_any_behind None h = h
  if_any_behind (Some a) h = (expression_behind P u a h).tokens

  pub labels_behind : (t : List Trees.Label) {rest : List Lexeme} → Tokens P (spelled_labels t rest) → Tokens P rest
  labels_behind [] h = h
  labels_behind (Trees.case at a colon ∷ more) h = labels_behind more (back (expression_behind P u a (back h)).tokens)
  labels_behind (Trees.default at colon ∷ more) h = labels_behind more (back (back h))

  pub start_behind : (t : Trees.ForStart) {rest : List Lexeme} → Tokens P (spelled_for_start t rest) → Tokens P rest
  start_behind (Trees.starts_with a semicolon) h = back (if_any_behind a h)
  start_behind (Trees.declares d) h = (declaration_behind d h).tokens

  mutual
    pub statement_behind : (t : Trees.Statement) {rest : List Lexeme} → Tokens P (spelled_statement t rest) → Tokens P rest
    statement_behind (Trees.block left items right) h = back (block_items_behind items (back h))
    statement_behind (Trees.evaluate a semicolon) h = back (if_any_behind a h)
    statement_behind (Trees.when at left a right one) h = statement_behind one (back (expression_behind P u a (back (back h))).tokens)
    statement_behind (Trees.choose at left a right one else other) h =
        statement_behind other (back (statement_behind one (back (expression_behind P u a (back (back h))).tokens)))
    statement_behind (Trees.while at left a right body) h = statement_behind body (back (expression_behind P u a (back (back h))).tokens)
    statement_behind (Trees.do_while at body while left a right semicolon) h =
        back (back (expression_behind P u a (back (back (statement_behind body (back h))))).tokens)
    statement_behind (Trees.for at left start test semicolon step right body) h =
        statement_behind body (back (if_any_behind step (back (if_any_behind test (start_behind start (back (back h)))))))
    statement_behind (Trees.switch at left a right begin items end) h =
        back (switch_items_behind items (back (back (expression_behind P u a (back (back h))).tokens)))
    statement_behind (Trees.break at semicolon) h = back (back h)
    statement_behind (Trees.continue at semicolon) h = back (back h)
    statement_behind (Trees.return at a semicolon) h = back (if_any_behind a (back h))

    pub block_item_behind : (t : Trees.BlockItem) {rest : List Lexeme} → Tokens P (spelled_block_item t rest) → Tokens P rest
    block_item_behind (Trees.local d) h = (declaration_behind d h).tokens
    block_item_behind (Trees.statement a) h = statement_behind a h

    block_items_behind : (t : Trees.BlockItems) {rest : List Lexeme} → Tokens P (spelled_block_items t rest) → Tokens P rest
    block_items_behind Trees.no_block_items h = h
    block_items_behind (Trees.and_block_item e more) h = block_items_behind more (block_item_behind e h)

    pub switch_item_behind : (t : Trees.SwitchItem) {rest : List Lexeme} → Tokens P (spelled_switch_item t rest) → Tokens P rest
    switch_item_behind (Trees.local_switch_item d) h = (declaration_behind d h).tokens
    switch_item_behind (Trees.labelled labels a) h = statement_behind a (labels_behind labels h)

    switch_items_behind : (t : Trees.SwitchItems) {rest : List Lexeme} → Tokens P (spelled_switch_items t rest) → Tokens P rest
    switch_items_behind Trees.no_switch_items h = h
    switch_items_behind (Trees.and_switch_item item more) h = switch_items_behind more (switch_item_behind item h)

  pub item_behind : (t : Trees.Item) {rest : List Lexeme} → Tokens P (spelled_item t rest) → Behind P (marks_of_item u t) rest
  item_behind (Trees.defines specs d left items right) h =
      let p = specifiers_behind P u specs h in
      let q = declarator_behind P u d p.tokens in
      and (and p q) (name_before (only (back (block_items_behind items (back q.tokens)))))
  item_behind (Trees.declaration d) h = declaration_behind d h

  pub items_behind : (t : List Trees.Item) {rest : List Lexeme} → Tokens P (spelled_items t rest) → Behind P (marks_of_file u t) rest
  items_behind [] h = only h
  items_behind (item ∷ more) h = let p = item_behind item h in and p (items_behind more p.tokens)
