-- Where a file may make objects that no file-scope declarator declares: at string literals and at `static` locals (C99 6.4.5, 6.7.1). The
-- operand of `sizeof`, lengths and labels are not evaluated, and make none.
use Rattle.std.specs.Prelude.{ℕ, List, [], ◌∷◌, ◌++◌, Option, Some, None}
use Rattle.c_ast.specs.Trees
use Rattle.c_ast.specs.Places.{first_text, first_declarator}
use Rattle.c_erasure.specs.Specifiers.{Storage, is_static, storage_of}

abbrev mutual
  pub literals : Trees.Expression → List ℕ
  literals (Trees.name x) = []
  literals (Trees.number x n kind) = []
  literals (Trees.character x n) = []
  literals (Trees.texts all) = first_text all ∷ []
  literals (Trees.paren left a right) = literals a
  literals (Trees.index a left b right) = literals a ++ literals b
  literals (Trees.call f left all right) = literals f ++ literals_of_all all
  literals (Trees.dot a at x) = literals a
  literals (Trees.arrow a at x) = literals a
  literals (Trees.post a op at) = literals a
  literals (Trees.pre op at a) = literals a
  literals (Trees.unary op at a) = literals a
  literals (Trees.sizeof_expression at a) = []
  literals (Trees.sizeof_type at left n right) = []
  literals (Trees.cast left n right a) = literals a
  literals (Trees.binary a op at b) = literals a ++ literals b
  literals (Trees.cond a question b colon c) = literals a ++ literals b ++ literals c
  literals (Trees.assign a op at b) = literals a ++ literals b
  literals (Trees.comma a at b) = literals a ++ literals b
  literals (Trees.braces left all comma right) = literals_of_all all

  pub literals_of_all : Trees.Arguments → List ℕ
  literals_of_all Trees.no_arguments = []
  literals_of_all (Trees.and_argument comma a more) = literals a ++ literals_of_all more

-- ---- declarations: the declarators that are `static` and in a block, and the literals of initializers

abbrev pub literals_if_any : Option Trees.Expression → List ℕ
literals_if_any None = []
literals_if_any (Some a) = literals a

abbrev pub literals_of_value : Option (ℕ × Trees.Expression) → List ℕ
literals_of_value None = []
literals_of_value (Some value) = literals value.1

abbrev pub place_if_static : Storage → ℕ → List ℕ
place_if_static is_static at = at ∷ []
place_if_static other at = []

abbrev pub made_by_declarators : Storage → List Trees.InitDeclarator → ℕ → List ℕ
made_by_declarators words [] semicolon = []
made_by_declarators words (d ∷ more) semicolon =
    place_if_static words (first_declarator d.declarator semicolon) ++ literals_of_value d.value ++ made_by_declarators words more semicolon

abbrev pub made_by_declaration : Trees.Declaration → List ℕ
made_by_declaration d = made_by_declarators (storage_of d.specs) d.all d.semicolon

abbrev pub made_by_start : Trees.ForStart → List ℕ
made_by_start (Trees.starts_with a semicolon) = literals_if_any a
made_by_start (Trees.declares d) = made_by_declaration d

abbrev mutual
  pub made_by : Trees.Statement → List ℕ
  made_by (Trees.block left items right) = made_by_items items
  made_by (Trees.evaluate a semicolon) = literals_if_any a
  made_by (Trees.when at left a right one) = literals a ++ made_by one
  made_by (Trees.choose at left a right one else other) = literals a ++ made_by one ++ made_by other
  made_by (Trees.while at left a right body) = literals a ++ made_by body
  made_by (Trees.do_while at body while left a right semicolon) = made_by body ++ literals a
  made_by (Trees.for at left start test semicolon step right body) = made_by_start start ++ literals_if_any test ++ literals_if_any step ++ made_by body
  made_by (Trees.switch at left a right begin items end) = literals a ++ made_by_switch_items items
  made_by (Trees.break at semicolon) = []
  made_by (Trees.continue at semicolon) = []
  made_by (Trees.return at a semicolon) = literals_if_any a

  pub made_by_item : Trees.BlockItem → List ℕ
  made_by_item (Trees.local d) = made_by_declaration d
  made_by_item (Trees.statement a) = made_by a

  pub made_by_items : Trees.BlockItems → List ℕ
  made_by_items Trees.no_block_items = []
  made_by_items (Trees.and_block_item e more) = made_by_item e ++ made_by_items more

  pub made_by_switch_item : Trees.SwitchItem → List ℕ
  made_by_switch_item (Trees.local_switch_item d) = made_by_declaration d
  made_by_switch_item (Trees.labelled labels a) = made_by a

  pub made_by_switch_items : Trees.SwitchItems → List ℕ
  made_by_switch_items Trees.no_switch_items = []
  made_by_switch_items (Trees.and_switch_item item more) = made_by_switch_item item ++ made_by_switch_items more

-- ---- items of a file: an object of file scope has its declarator

abbrev pub initial_literals : List Trees.InitDeclarator → List ℕ
initial_literals [] = []
initial_literals (d ∷ more) = literals_of_value d.value ++ initial_literals more

abbrev pub made_by_file_item : Trees.Item → List ℕ
made_by_file_item (Trees.defines specs d left items right) = made_by_items items
made_by_file_item (Trees.declaration d) = initial_literals d.all

abbrev pub made_by_file : List Trees.Item → List ℕ
made_by_file [] = []
made_by_file (item ∷ more) = made_by_file_item item ++ made_by_file more
