-- The tags of a file's items come in the order of its tokens.
use Rattle.std.proofs.Common.{ℕ, List, [], ◌∷◌, Option, Some, None, Bool, true, false}
use Rattle.c_tokens.specs.declared.punctuator.Punctuator.TheVariants as M
use Rattle.c_ast.specs.Trees
use Rattle.c_ast.specs.Spelling.{Lexeme, punctuator, spelled, spelled_arguments, spelled_value, spelled_init_declarators, spelled_item, spelled_items}
use Rattle.c_ast.specs.WellFormed.{IsInitializer, AreInitializers, IsValue, AreInitDeclarators, IsItem, AreItems, types_after}
use Rattle.c_erasure.specs.Marks.{marks, marks_of_all, marks_of_initial, marks_of_declarators, marks_of_item, marks_of_file}
use Rattle.c_erasure.proofs.MarkPlaces.Walks.{comma_along}
use Rattle.c_erasure.proofs.MarkPlaces.MarksOfFiles.{block_items_along}
use Rattle.c_checking_laws.proofs.TextOrder.Rising.{unmarked}
use Rattle.c_checking_laws.proofs.TextOrder.TagWalks.{Tagged, none, skip, both, before, after, untagged, begins}
use Rattle.c_checking_laws.proofs.TextOrder.TagsOfParts.{tagged, specifiers_tagged, declarator_tagged}

module _ (u : ℕ → List ℕ) (types : List (List ℕ)) where
  mutual
    initializer_tagged : (t : Trees.Expression) → IsInitializer types t → {rest : List Lexeme} → Tagged (marks u t) (spelled t rest) rest
    initializer_tagged (Trees.braces left all comma right) w =
        skip (before (initializers_tagged true all w.1) (after (untagged (unmarked (comma_along comma))) (skip none)))
    initializer_tagged (Trees.name x) w = tagged u types (Trees.name x) w.1
    initializer_tagged (Trees.number x n kind) w = tagged u types (Trees.number x n kind) w.1
    initializer_tagged (Trees.character x n) w = tagged u types (Trees.character x n) w.1
    initializer_tagged (Trees.texts all) w = tagged u types (Trees.texts all) w.1
    initializer_tagged (Trees.paren left a right) w = tagged u types (Trees.paren left a right) w.1
    initializer_tagged (Trees.index a left b right) w = tagged u types (Trees.index a left b right) w.1
    initializer_tagged (Trees.call f left all right) w = tagged u types (Trees.call f left all right) w.1
    initializer_tagged (Trees.dot a at x) w = tagged u types (Trees.dot a at x) w.1
    initializer_tagged (Trees.arrow a at x) w = tagged u types (Trees.arrow a at x) w.1
    initializer_tagged (Trees.post a op at) w = tagged u types (Trees.post a op at) w.1
    initializer_tagged (Trees.pre op at a) w = tagged u types (Trees.pre op at a) w.1
    initializer_tagged (Trees.unary op at a) w = tagged u types (Trees.unary op at a) w.1
    initializer_tagged (Trees.sizeof_expression at a) w = tagged u types (Trees.sizeof_expression at a) w.1
    initializer_tagged (Trees.sizeof_type at left t right) w = tagged u types (Trees.sizeof_type at left t right) w.1
    initializer_tagged (Trees.cast left t right a) w = tagged u types (Trees.cast left t right a) w.1
    initializer_tagged (Trees.binary a op at b) w = tagged u types (Trees.binary a op at b) w.1
    initializer_tagged (Trees.cond a question b colon c) w = tagged u types (Trees.cond a question b colon c) w.1
    initializer_tagged (Trees.assign a op at b) w = tagged u types (Trees.assign a op at b) w.1
    initializer_tagged (Trees.comma a at b) w = tagged u types (Trees.comma a at b) w.1

    initializers_tagged : (first : Bool) (t : Trees.Arguments) → AreInitializers types first t → {rest : List Lexeme}
        → Tagged (marks_of_all u t) (spelled_arguments t rest) rest
    initializers_tagged first Trees.no_arguments w = none
    initializers_tagged first (Trees.and_argument comma a more) w =
        after (untagged (unmarked (comma_along comma))) (both (initializer_tagged a w.1) (initializers_tagged false more w.2))

  value_tagged : (t : Option (ℕ × Trees.Expression)) → IsValue types t → {rest : List Lexeme}
      → Tagged (marks_of_initial u t) (spelled_value t rest) rest
  value_tagged None w = none
  value_tagged (Some value) w = skip (initializer_tagged value.1 w)

  declarators_tagged : (first : Bool) (t : List Trees.InitDeclarator) → AreInitDeclarators types first t → (at : ℕ) → {rest : List Lexeme}
      → Tagged (marks_of_declarators u t at) (spelled_init_declarators t (punctuator M.Semicolon at ∷ rest)) rest
  declarators_tagged first [] w at = skip none
  declarators_tagged first (d ∷ more) w at =
      after (untagged (unmarked (comma_along d.comma)))
      (both (both (declarator_tagged u types d.declarator w.1) (begins (value_tagged d.value w.3))) (declarators_tagged false more w.4 at))

  item_tagged : (t : Trees.Item) → IsItem types t → {rest : List Lexeme} → Tagged (marks_of_item u t) (spelled_item t rest) rest
  item_tagged (Trees.defines specs d left items right) w =
      both (both (specifiers_tagged u types specs w.0) (declarator_tagged u types d w.1))
      (begins (skip (after (untagged (unmarked (block_items_along u types items w.3))) (skip none))))
  item_tagged (Trees.declaration d) w = both (specifiers_tagged u types d.specs w.0) (declarators_tagged true d.all w.1 d.semicolon)

pub items_tagged : (u : ℕ → List ℕ) (types : List (List ℕ)) (t : List Trees.Item) → AreItems types t → {rest : List Lexeme}
    → Tagged (marks_of_file u t) (spelled_items t rest) rest
items_tagged u types [] w = none
items_tagged u types (item ∷ items) w = both (item_tagged u types item w.0) (items_tagged u (types_after types item) items w.1)
