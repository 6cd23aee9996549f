-- A well formed tree begins where `first` says: at the first token of its spelling.
use Rattle.std.proofs.Common.{◌≡◌, ℕ, List, [], ◌∷◌, Some, None, refl}
use Rattle.c_ast.specs.Trees
use Rattle.c_ast.specs.Spelling.{Lexeme, spelled, spelled_specifiers, spelled_specifier, spelled_declarator, spelled_declaration, spelled_statement}
use Rattle.c_ast.specs.Spelling.{spelled_item}
use Rattle.c_ast.specs.WellFormed.{IsExpression, IsInitializer, AreSpecifiers, IsDeclaration, IsStatement, IsItem}
use Rattle.c_ast.specs.Places.{begins_at, first, first_specifier, first_specifiers, first_declarator, first_declaration, first_statement, first_item}
use Rattle.c_ast.specs.Laws.{TreesBeginFirst}

pub expression_first : (types : List (List ℕ)) (t : Trees.Expression) → IsExpression types t → (rest : List Lexeme) → begins_at (spelled t rest) ≡ first t
expression_first types (Trees.name x) w rest = refl
expression_first types (Trees.number x n kind) w rest = refl
expression_first types (Trees.character x n) w rest = refl
expression_first types (Trees.texts []) w rest = absurd (w refl)
expression_first types (Trees.texts (x ∷ more)) w rest = refl
expression_first types (Trees.paren left a right) w rest = refl
expression_first types (Trees.index a left b right) w rest = expression_first types a w.1 _
expression_first types (Trees.call f left all right) w rest = expression_first types f w.1 _
expression_first types (Trees.dot a at x) w rest = expression_first types a w.1 _
expression_first types (Trees.arrow a at x) w rest = expression_first types a w.1 _
expression_first types (Trees.post a op at) w rest = expression_first types a w.1 _
expression_first types (Trees.pre op at a) w rest = refl
expression_first types (Trees.unary op at a) w rest = refl
expression_first types (Trees.sizeof_expression at a) w rest = refl
expression_first types (Trees.sizeof_type at left t right) w rest = refl
expression_first types (Trees.cast left t right a) w rest = refl
expression_first types (Trees.binary a op at b) w rest = expression_first types a w.2 _
expression_first types (Trees.cond a question b colon c) w rest = expression_first types a w.2 _
expression_first types (Trees.assign a op at b) w rest = expression_first types a w.2 _
expression_first types (Trees.comma a at b) w rest = expression_first types a w.1 _
expression_first types (Trees.braces left all comma right) w rest = absurd w

initializer_first : (types : List (List ℕ)) (t : Trees.Expression) → IsInitializer types t → (rest : List Lexeme) → begins_at (spelled t rest) ≡ first t
initializer_first types (Trees.braces left all comma right) w rest = refl
initializer_first types a w rest = expression_first types a w.1 rest

specifier_first : (s : Trees.Specifier) (rest : List Lexeme) → begins_at (spelled_specifier s rest) ≡ first_specifier s
specifier_first (Trees.plain word at) rest = refl
specifier_first (Trees.typename x) rest = refl
specifier_first (Trees.struct_named at x) rest = refl
specifier_first (Trees.struct_body at x left all right) rest = refl
specifier_first (Trees.enum_named at x) rest = refl
specifier_first (Trees.enum_body at x left all comma right) rest = refl

pub specifiers_first : (types : List (List ℕ)) (specs : Trees.Specifiers) → AreSpecifiers types specs → (rest : List Lexeme)
    → begins_at (spelled_specifiers specs rest) ≡ first_specifiers specs
specifiers_first types Trees.no_specifiers w rest = absurd w
specifiers_first types (Trees.and_specifier s more) w rest = specifier_first s _

declarator_first : (d : Trees.Declarator) (rest : List Lexeme) → begins_at (spelled_declarator d rest) ≡ first_declarator d (begins_at rest)
declarator_first Trees.nothing rest = refl
declarator_first (Trees.named x) rest = refl
declarator_first (Trees.pointer at consts d) rest = refl
declarator_first (Trees.enclosed left d right) rest = refl
declarator_first (Trees.array d left bound right) rest = declarator_first d _
declarator_first (Trees.function d left all right) rest = declarator_first d _

declaration_first : (types : List (List ℕ)) (d : Trees.Declaration) → IsDeclaration types d → (rest : List Lexeme)
    → begins_at (spelled_declaration d rest) ≡ first_declaration d
declaration_first types d w rest = specifiers_first types d.specs w.0 _

statement_first : (types : List (List ℕ)) (t : Trees.Statement) → IsStatement types t → (rest : List Lexeme)
    → begins_at (spelled_statement t rest) ≡ first_statement t
statement_first types (Trees.block left items right) w rest = refl
statement_first types (Trees.evaluate None semicolon) w rest = refl
statement_first types (Trees.evaluate (Some a) semicolon) w rest = expression_first types a w _
statement_first types (Trees.when at left a right one) w rest = refl
statement_first types (Trees.choose at left a right one else other) w rest = refl
statement_first types (Trees.while at left a right body) w rest = refl
statement_first types (Trees.do_while at body while left a right semicolon) w rest = refl
statement_first types (Trees.for at left start test semicolon step right body) w rest = refl
statement_first types (Trees.switch at left a right begin all end) w rest = refl
statement_first types (Trees.break at semicolon) w rest = refl
statement_first types (Trees.continue at semicolon) w rest = refl
statement_first types (Trees.return at a semicolon) w rest = refl

item_first : (types : List (List ℕ)) (t : Trees.Item) → IsItem types t → (rest : List Lexeme) → begins_at (spelled_item t rest) ≡ first_item t
item_first types (Trees.defines specs d left items right) w rest = specifiers_first types specs w.0 _
item_first types (Trees.declaration d) w rest = declaration_first types d w rest

pub trees_begin_first : TreesBeginFirst
trees_begin_first = record {
  of_expression = expression_first;
  of_initializer = initializer_first;
  of_specifiers = specifiers_first;
  of_declarator = declarator_first;
  of_declaration = declaration_first;
  of_statement = statement_first;
  of_item = item_first;
}
