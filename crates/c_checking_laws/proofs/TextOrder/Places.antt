-- Declarators, literals and `static` locals of a file stand at its tokens, in their order.
use Rattle.std.proofs.Common.{ℕ, List, [], ◌∷◌, Option, Some, None, Bool, true, false, refl}
use Rattle.c_tokens.specs.declared.punctuator.Punctuator.TheVariants as M
use Rattle.c_ast.specs.Trees
use Rattle.c_ast.specs.Places.{first_specifier, first_specifiers, first_item}
use Rattle.c_ast.specs.Spelling.{Lexeme, punctuator, spelled_value, spelled_init_declarators, spelled_declaration, spelled_if_any, spelled_specifier}
use Rattle.c_ast.specs.Spelling.{spelled_specifiers, spelled_for_start, spelled_statement, spelled_block_item, spelled_block_items}
use Rattle.c_ast.specs.Spelling.{spelled_switch_item, spelled_switch_items, spelled_item, spelled_items}
use Rattle.c_ast.specs.WellFormed.{AreSpecifiers, IsSpecifier, IsValue, AreInitDeclarators, IsDeclaration, IsExpressionIfAny, IsForStart, IsStatement}
use Rattle.c_ast.specs.WellFormed.{IsBlockItem, AreBlockItems, IsSwitchItem, AreSwitchItems, IsItem, AreItems, types_after}
use Rattle.c_erasure.specs.Literals.{literals_if_any, literals_of_value, place_if_static, made_by_declarators, made_by_declaration, made_by_start}
use Rattle.c_erasure.specs.Literals.{made_by, made_by_item, made_by_items, made_by_switch_item, made_by_switch_items}
use Rattle.c_erasure.specs.Specifiers.{Storage, is_static, storage_of}
use Rattle.c_erasure.proofs.MarkPlaces.Walks.{comma_along, tag_along}
use Rattle.c_erasure.proofs.MarkPlaces.MarksOfParts.{declarator_along, specifiers_along, more_specifiers_along, members_along, enumerators_along}
use Rattle.c_erasure.proofs.MarkPlaces.MarksOfFiles.{labels_along}
use Rattle.c_checking_laws.specs.TextOrder.TextOrder.{places_of_declarators, places_of_item, places_of_file}
use Rattle.c_checking_laws.proofs.TextOrder.Rising.{Rise, none, skip, here, both, before, after, unmarked}
use Rattle.c_checking_laws.proofs.TextOrder.Literals.{literals_rise, initializer_rises, declarator_begins}

module _ (u : ℕ → List ℕ) (types : List (List ℕ)) where
  value_rises : (t : Option (ℕ × Trees.Expression)) → IsValue types t → {rest : List Lexeme} → Rise (literals_of_value t) (spelled_value t rest) rest
  value_rises None w = none
  value_rises (Some value) w = skip (initializer_rises u types value.1 w)

  if_any_rises : (t : Option Trees.Expression) → IsExpressionIfAny types t → {rest : List Lexeme}
      → Rise (literals_if_any t) (spelled_if_any t rest) rest
  if_any_rises None w = none
  if_any_rises (Some a) w = literals_rise u types a w

  -- ---- declarations of a block

  if_static : (words : Storage) {at : ℕ} {tokens rest : List Lexeme} → Rise (at ∷ []) tokens rest → Rise [] tokens rest
      → Rise (place_if_static words at) tokens rest
  if_static is_static p q = p
  if_static words p q = q

  declarators_make : (words : Storage) (first : Bool) (t : List Trees.InitDeclarator) → AreInitDeclarators types first t
      → (at : ℕ) → {rest : List Lexeme}
      → Rise (made_by_declarators words t at) (spelled_init_declarators t (punctuator M.Semicolon at ∷ rest)) rest
  declarators_make words first [] w at = skip none
  declarators_make words first (d ∷ more) w at =
      let begins = declarator_begins u types d.declarator w.1 w.2 at in
      let at_declarator = if_static words begins (unmarked (declarator_along u types d.declarator w.1)) in
      after (unmarked (comma_along d.comma)) (both (both at_declarator (value_rises d.value w.3)) (declarators_make words false more w.4 at))

  declaration_makes : (d : Trees.Declaration) → IsDeclaration types d → {rest : List Lexeme}
      → Rise (made_by_declaration d) (spelled_declaration d rest) rest
  declaration_makes d w = after (unmarked (specifiers_along u types d.specs w.0)) (declarators_make (storage_of d.specs) true d.all w.1 d.semicolon)

  -- ---- statements

  start_makes : (t : Trees.ForStart) → IsForStart types t → {rest : List Lexeme} → Rise (made_by_start t) (spelled_for_start t rest) rest
  start_makes (Trees.starts_with a semicolon) w = before (if_any_rises a w) (skip none)
  start_makes (Trees.declares d) w = declaration_makes d w.1

  mutual
    makes : (t : Trees.Statement) → IsStatement types t → {rest : List Lexeme} → Rise (made_by t) (spelled_statement t rest) rest
    makes (Trees.block left items right) w = skip (before (items_make items w) (skip none))
    makes (Trees.evaluate a semicolon) w = before (if_any_rises a w) (skip none)
    makes (Trees.when at left a right one) w = skip (skip (both (literals_rise u types a w.0) (skip (makes one w.1))))
    makes (Trees.choose at left a right one else other) w =
        skip (skip (both (both (literals_rise u types a w.1) (skip (makes one w.2))) (skip (makes other w.3))))
    makes (Trees.while at left a right body) w = skip (skip (both (literals_rise u types a w.0) (skip (makes body w.1))))
    makes (Trees.do_while at body while left a right semicolon) w =
        skip (both (makes body w.0) (skip (skip (before (literals_rise u types a w.1) (skip (skip none))))))
    makes (Trees.for at left start test semicolon step right body) w =
        skip (skip (both (both (both (start_makes start w.0) (if_any_rises test w.1)) (skip (if_any_rises step w.2))) (skip (makes body w.3))))
    makes (Trees.switch at left a right begin items end) w =
        skip (skip (both (literals_rise u types a w.0) (skip (skip (before (switch_items_make items w.1) (skip none))))))
    makes (Trees.break at semicolon) w = skip (skip none)
    makes (Trees.continue at semicolon) w = skip (skip none)
    makes (Trees.return at a semicolon) w = skip (before (if_any_rises a w) (skip none))

    item_makes : (t : Trees.BlockItem) → IsBlockItem types t → {rest : List Lexeme} → Rise (made_by_item t) (spelled_block_item t rest) rest
    item_makes (Trees.local d) w = declaration_makes d w
    item_makes (Trees.statement a) w = makes a w

    items_make : (t : Trees.BlockItems) → AreBlockItems types t → {rest : List Lexeme} → Rise (made_by_items t) (spelled_block_items t rest) rest
    items_make Trees.no_block_items w = none
    items_make (Trees.and_block_item e more) w = both (item_makes e w.0) (items_make more w.1)

    switch_item_makes : (t : Trees.SwitchItem) → IsSwitchItem types t → {rest : List Lexeme}
        → Rise (made_by_switch_item t) (spelled_switch_item t rest) rest
    switch_item_makes (Trees.local_switch_item d) w = declaration_makes d w.1
    switch_item_makes (Trees.labelled labels a) w = after (unmarked (labels_along u types labels w.0)) (makes a w.1)

    switch_items_make : (t : Trees.SwitchItems) → AreSwitchItems types t → {rest : List Lexeme}
        → Rise (made_by_switch_items t) (spelled_switch_items t rest) rest
    switch_items_make Trees.no_switch_items w = none
    switch_items_make (Trees.and_switch_item item more) w = both (switch_item_makes item w.0) (switch_items_make more w.1)

  -- ---- items of a file

  declarators_rise : (first : Bool) (t : List Trees.InitDeclarator) → AreInitDeclarators types first t → (at : ℕ) → {rest : List Lexeme}
      → Rise (places_of_declarators t at) (spelled_init_declarators t (punctuator M.Semicolon at ∷ rest)) rest
  declarators_rise first [] w at = skip none
  declarators_rise first (d ∷ more) w at =
      after (unmarked (comma_along d.comma)) (both (both (declarator_begins u types d.declarator w.1 w.2 at) (value_rises d.value w.3))
      (declarators_rise false more w.4 at))

  specifier_begins : (t : Trees.Specifier) → IsSpecifier types t → {rest : List Lexeme}
      → Rise (first_specifier t ∷ []) (spelled_specifier t rest) rest
  specifier_begins (Trees.plain word at) w = here none
  specifier_begins (Trees.typename x) w = here none
  specifier_begins (Trees.struct_named at x) w = here (skip none)
  specifier_begins (Trees.struct_body at x left all right) w =
      here (after (unmarked (tag_along x)) (skip (after (unmarked (members_along u types all w.1)) (skip none))))
  specifier_begins (Trees.enum_named at x) w = here (skip none)
  specifier_begins (Trees.enum_body at x left all None right) w =
      here (after (unmarked (tag_along x)) (skip (unmarked (enumerators_along u types true all w.1 M.CloseBrace right refl))))
  specifier_begins (Trees.enum_body at x left all (Some comma) right) w =
      here (after (unmarked (tag_along x)) (skip (after (unmarked (enumerators_along u types true all w.1 M.Comma comma refl)) (skip none))))

  specifiers_begin : (t : Trees.Specifiers) → AreSpecifiers types t → {rest : List Lexeme}
      → Rise (first_specifiers t ∷ []) (spelled_specifiers t rest) rest
  specifiers_begin Trees.no_specifiers w = absurd w
  specifiers_begin (Trees.and_specifier s more) w = before (specifier_begins s w.0) (unmarked (more_specifiers_along u types more w.1))

  item_rises : (t : Trees.Item) → IsItem types t → {rest : List Lexeme} → Rise (first_item t ∷ places_of_item t) (spelled_item t rest) rest
  item_rises (Trees.defines specs d left items right) w =
      both (specifiers_begin specs w.0) (both (declarator_begins u types d w.1 w.2 left) (skip (before (items_make items w.3) (skip none))))
  item_rises (Trees.declaration d) w = both (specifiers_begin d.specs w.0) (declarators_rise true d.all w.1 d.semicolon)

pub items_rise : (u : ℕ → List ℕ) (types : List (List ℕ)) (t : List Trees.Item) → AreItems types t → {rest : List Lexeme}
    → Rise (places_of_file t) (spelled_items t rest) rest
items_rise u types [] w = none
items_rise u types (item ∷ items) w = both (item_rises u types item w.0) (items_rise u (types_after types item) items w.1)
