-- The tokens of a tree stand before those of what follows, so the list of them all is no shorter.
use Rattle.std.proofs.Common.{ℕ, ◌+◌, ◌≤◌, ◌<◌, List, [], ◌∷◌, length, Option, Some, None, false, arith}
use Rattle.lay_base.specs.declared.faults.Keyword.TheVariants as W
use Rattle.c_tokens.specs.declared.punctuator.Punctuator.TheVariants as M
use Rattle.c_tokens.specs.declared.token.TokenKind.TheVariants as K
use Rattle.c_ast.specs.declared.words.Spelling.{Spelling}
use Rattle.c_ast.specs.Trees
use Rattle.c_ast.specs.Spelling.{Lexeme, punctuator, keyword, word, step_punctuator, binary_punctuator, assign_punctuator, spelled_comma}
use Rattle.c_ast.specs.Spelling.{spelled_texts, spelled_tag, spelled_consts, spelled, spelled_arguments, spelled_optional, spelled_type_name}
use Rattle.c_ast.specs.Spelling.{spelled_specifiers, spelled_specifier, spelled_member_declarations, spelled_member_declarators, spelled_enumerators}
use Rattle.c_ast.specs.Spelling.{spelled_enumerator_value, spelled_declarator, spelled_parameter_list, spelled_parameters, spelled_value}
use Rattle.c_ast.specs.Spelling.{spelled_init_declarators, spelled_declaration, spelled_if_any, spelled_labels, spelled_for_start, spelled_statement}
use Rattle.c_ast.specs.Spelling.{spelled_block_item, spelled_block_items, spelled_switch_item, spelled_switch_items, spelled_item, spelled_items}
use Rattle.c_ast.specs.WellFormed.{AreInitializers, AreInitDeclarators, IsComma}
use Rattle.c_grammar.proofs.Lists.{arguments_list}
use Rattle.c_grammar.proofs.BlockItemLists.{block_items_list, switch_items_list}

pub longer_comma : (x : Option ℕ) (rest : List Lexeme) → length rest ≤ length (spelled_comma x rest)
longer_comma None rest = omega arith
longer_comma (Some at) rest = omega arith

longer_texts : (x : List Spelling) (rest : List Lexeme) → length rest ≤ length (spelled_texts x rest)
longer_texts [] rest = omega arith
longer_texts (x ∷ more) rest = omega (arith, longer_texts more rest)

longer_tag : (x : Option Spelling) (rest : List Lexeme) → length rest ≤ length (spelled_tag x rest)
longer_tag None rest = omega arith
longer_tag (Some x) rest = omega arith

longer_consts : (x : List ℕ) (rest : List Lexeme) → length rest ≤ length (spelled_consts x rest)
longer_consts [] rest = omega arith
longer_consts (at ∷ more) rest = omega (arith, longer_consts more rest)

mutual
  pub longer : (x : Trees.Expression) (rest : List Lexeme) → length rest ≤ length (spelled x rest)
  longer (Trees.name x) rest = omega arith
  longer (Trees.number x n kind) rest = omega arith
  longer (Trees.character x n) rest = omega arith
  longer (Trees.texts all) rest = omega (arith, longer_texts all rest)
  longer (Trees.paren left a right) rest = omega (arith, longer a (punctuator M.Close right ∷ rest))
  longer (Trees.index a left b right) rest = omega (
    arith,
    longer a
        (punctuator M.OpenSquare left ∷ spelled b (punctuator M.CloseSquare right ∷ rest)),
    longer b (punctuator M.CloseSquare right ∷ rest),
  )
  longer (Trees.call f left all right) rest = omega (
    arith,
    longer f
        (punctuator M.Open left ∷ spelled_arguments all (punctuator M.Close right ∷ rest)),
    longer_arguments all (punctuator M.Close right ∷ rest),
  )
  longer (Trees.dot a at x) rest = omega (arith, longer a (punctuator M.Dot at ∷ word K.Name x ∷ rest))
  longer (Trees.arrow a at x) rest = omega (arith, longer a (punctuator M.Arrow at ∷ word K.Name x ∷ rest))
  longer (Trees.post a op at) rest = omega (arith, longer a (punctuator (step_punctuator op) at ∷ rest))
  longer (Trees.pre op at a) rest = omega (arith, longer a rest)
  longer (Trees.unary op at a) rest = omega (arith, longer a rest)
  longer (Trees.sizeof_expression at a) rest = omega (arith, longer a rest)
  longer (Trees.sizeof_type at left t right) rest = omega (arith, longer_type_name t (punctuator M.Close right ∷ rest))
  longer (Trees.cast left t right a) rest = omega (arith, longer_type_name t (punctuator M.Close right ∷ spelled a rest), longer a rest)
  longer (Trees.binary a op at b) rest = omega (arith, longer a (punctuator (binary_punctuator op) at ∷ spelled b rest), longer b rest)
  longer (Trees.cond a question b colon c) rest = omega (
    arith,
    longer a (punctuator M.Question question ∷ spelled b (punctuator M.Colon colon ∷ spelled c rest)),
    longer b (punctuator M.Colon colon ∷ spelled c rest),
    longer c rest,
  )
  longer (Trees.assign a op at b) rest = omega (arith, longer a (punctuator (assign_punctuator op) at ∷ spelled b rest), longer b rest)
  longer (Trees.comma a at b) rest = omega (arith, longer a (punctuator M.Comma at ∷ spelled b rest), longer b rest)
  longer (Trees.braces left all comma right) rest = omega (
    arith,
    longer_arguments all (spelled_comma comma (punctuator M.CloseBrace right ∷ rest)),
    longer_comma comma (punctuator M.CloseBrace right ∷ rest),
  )

  longer_arguments : (x : Trees.Arguments) (rest : List Lexeme) → length rest ≤ length (spelled_arguments x rest)
  longer_arguments Trees.no_arguments rest = omega arith
  longer_arguments (Trees.and_argument comma a more) rest = omega
      (arith, longer_comma comma (spelled a (spelled_arguments more rest)), longer a (spelled_arguments more rest), longer_arguments more rest)

  longer_optional : (x : Trees.OptionalExpression) (rest : List Lexeme) → length rest ≤ length (spelled_optional x rest)
  longer_optional Trees.no_expression rest = omega arith
  longer_optional (Trees.some_expression a) rest = omega (arith, longer a rest)

  longer_type_name : (x : Trees.TypeName) (rest : List Lexeme) → length rest ≤ length (spelled_type_name x rest)
  longer_type_name (Trees.type_name specs d) rest = omega (arith, longer_specifiers specs (spelled_declarator d rest), longer_declarator d rest)

  longer_specifiers : (x : Trees.Specifiers) (rest : List Lexeme) → length rest ≤ length (spelled_specifiers x rest)
  longer_specifiers Trees.no_specifiers rest = omega arith
  longer_specifiers (Trees.and_specifier s more) rest = omega (arith, longer_specifier s (spelled_specifiers more rest), longer_specifiers more rest)

  longer_specifier : (x : Trees.Specifier) (rest : List Lexeme) → length rest < length (spelled_specifier x rest)
  longer_specifier (Trees.plain word at) rest = omega arith
  longer_specifier (Trees.typename x) rest = omega arith
  longer_specifier (Trees.struct_named at x) rest = omega arith
  longer_specifier (Trees.struct_body at x left member_declarations right) rest =
      omega (
        arith,
        longer_tag x (punctuator M.OpenBrace left ∷ spelled_member_declarations member_declarations
            (punctuator M.CloseBrace right ∷ rest)),
        longer_member_declarations member_declarations (punctuator M.CloseBrace right ∷ rest),
      )
  longer_specifier (Trees.enum_named at x) rest = omega arith
  longer_specifier (Trees.enum_body at x left all comma right) rest =
      omega (
        arith,
        longer_tag x (punctuator M.OpenBrace left ∷ spelled_enumerators all (spelled_comma comma (punctuator M.CloseBrace right ∷ rest))),
        longer_enumerators all (spelled_comma comma (punctuator M.CloseBrace right ∷ rest)),
        longer_comma comma (punctuator M.CloseBrace right ∷ rest),
      )

  longer_member_declarations : (x : Trees.MemberDeclarations) (rest : List Lexeme) → length rest ≤ length (spelled_member_declarations x rest)
  longer_member_declarations Trees.no_member_declarations rest = omega arith
  longer_member_declarations (Trees.and_member_declaration specs member_declarators semicolon more) rest =
      omega (
        arith,
        longer_specifiers specs (spelled_member_declarators member_declarators
            (punctuator M.Semicolon semicolon ∷ spelled_member_declarations more rest)),
        longer_member_declarators member_declarators (punctuator M.Semicolon semicolon ∷ spelled_member_declarations more rest),
        longer_member_declarations more rest,
      )

  longer_member_declarators : (x : Trees.MemberDeclarators) (rest : List Lexeme) → length rest ≤ length (spelled_member_declarators x rest)
  longer_member_declarators Trees.no_member_declarators rest = omega arith
  longer_member_declarators (Trees.and_member_declarator comma d more) rest =
      omega (
        arith,
        longer_comma comma (spelled_declarator d (spelled_member_declarators more rest)),
        longer_declarator d (spelled_member_declarators more rest),
        longer_member_declarators more rest,
      )

  longer_enumerators : (x : Trees.Enumerators) (rest : List Lexeme) → length rest ≤ length (spelled_enumerators x rest)
  longer_enumerators Trees.no_enumerators rest = omega arith
  longer_enumerators (Trees.and_enumerator comma x value more) rest =
      omega (
        arith,
        longer_comma comma (word K.Name x ∷ spelled_enumerator_value value (spelled_enumerators more rest)),
        longer_enumerator_value value (spelled_enumerators more rest),
        longer_enumerators more rest,
      )

  longer_enumerator_value : (x : Trees.EnumeratorValue) (rest : List Lexeme) → length rest ≤ length (spelled_enumerator_value x rest)
  longer_enumerator_value Trees.no_value rest = omega arith
  longer_enumerator_value (Trees.valued equal a) rest = omega (arith, longer a rest)

  longer_declarator : (x : Trees.Declarator) (rest : List Lexeme) → length rest ≤ length (spelled_declarator x rest)
  longer_declarator Trees.nothing rest = omega arith
  longer_declarator (Trees.named x) rest = omega arith
  longer_declarator (Trees.pointer at consts d) rest = omega (arith, longer_consts consts (spelled_declarator d rest), longer_declarator d rest)
  longer_declarator (Trees.enclosed left d right) rest = omega (arith, longer_declarator d (punctuator M.Close right ∷ rest))
  longer_declarator (Trees.array d left length right) rest =
      omega (
        arith,
        longer_declarator d (punctuator M.OpenSquare left ∷ spelled_optional length (punctuator M.CloseSquare right ∷ rest)),
        longer_optional length (punctuator M.CloseSquare right ∷ rest),
      )
  longer_declarator (Trees.function d left all right) rest =
      omega (
        arith,
        longer_declarator d (punctuator M.Open left ∷ spelled_parameter_list all (punctuator M.Close right ∷ rest)),
        longer_parameter_list all (punctuator M.Close right ∷ rest),
      )

  longer_parameter_list : (x : Trees.ParameterList) (rest : List Lexeme) → length rest ≤ length (spelled_parameter_list x rest)
  longer_parameter_list (Trees.void_alone at) rest = omega arith
  longer_parameter_list (Trees.listed all) rest = omega (arith, longer_parameters all rest)

  longer_parameters : (x : Trees.Parameters) (rest : List Lexeme) → length rest ≤ length (spelled_parameters x rest)
  longer_parameters Trees.no_parameters rest = omega arith
  longer_parameters (Trees.and_parameter comma specs d more) rest =
      omega (
        arith,
        longer_comma comma (spelled_specifiers specs (spelled_declarator d (spelled_parameters more rest))),
        longer_specifiers specs (spelled_declarator d (spelled_parameters more rest)),
        longer_declarator d (spelled_parameters more rest),
        longer_parameters more rest,
      )

longer_value : (x : Option (ℕ × Trees.Expression)) (rest : List Lexeme) → length rest ≤ length (spelled_value x rest)
longer_value None rest = omega arith
longer_value (Some value) rest = omega (arith, longer value.1 rest)

longer_init_declarators : (x : List Trees.InitDeclarator) (rest : List Lexeme) → length rest ≤ length (spelled_init_declarators x rest)
longer_init_declarators [] rest = omega arith
longer_init_declarators (d ∷ more) rest = omega (
  arith,
  longer_comma d.comma
      (spelled_declarator d.declarator (spelled_value d.value (spelled_init_declarators more rest))),
  longer_declarator d.declarator (spelled_value d.value (spelled_init_declarators more rest)),
  longer_value d.value (spelled_init_declarators more rest),
  longer_init_declarators more rest,
)

longer_declaration : (x : Trees.Declaration) (rest : List Lexeme) → length rest < length (spelled_declaration x rest)
longer_declaration d rest = omega (
  arith,
  longer_specifiers d.specs (spelled_init_declarators d.all (punctuator M.Semicolon d.semicolon ∷ rest)),
  longer_init_declarators d.all (punctuator M.Semicolon d.semicolon ∷ rest),
)

longer_if_any : (x : Option Trees.Expression) (rest : List Lexeme) → length rest ≤ length (spelled_if_any x rest)
longer_if_any None rest = omega arith
longer_if_any (Some a) rest = omega (arith, longer a rest)

pub longer_labels : (x : List Trees.Label) (rest : List Lexeme) → length rest + length x ≤ length (spelled_labels x rest)
longer_labels [] rest = omega arith
longer_labels (Trees.case at a colon ∷ more) rest = omega (arith, longer a (punctuator M.Colon colon ∷ spelled_labels more rest), longer_labels more rest)
longer_labels (Trees.default at colon ∷ more) rest = omega (arith, longer_labels more rest)

longer_for_start : (x : Trees.ForStart) (rest : List Lexeme) → length rest ≤ length (spelled_for_start x rest)
longer_for_start (Trees.starts_with a semicolon) rest = omega (arith, longer_if_any a (punctuator M.Semicolon semicolon ∷ rest))
longer_for_start (Trees.declares d) rest = omega (arith, longer_declaration d rest)

mutual
  longer_statement : (x : Trees.Statement) (rest : List Lexeme) → length rest < length (spelled_statement x rest)
  longer_statement (Trees.block left items right) rest = omega (arith, longer_block_items items (punctuator M.CloseBrace right ∷ rest))
  longer_statement (Trees.evaluate a semicolon) rest = omega (arith, longer_if_any a (punctuator M.Semicolon semicolon ∷ rest))
  longer_statement (Trees.when at left a right one) rest = omega
      (arith, longer a (punctuator M.Close right ∷ spelled_statement one rest), longer_statement one rest)
  longer_statement (Trees.choose at left a right one else other) rest =
      omega (
        arith,
        longer a (punctuator M.Close right ∷ spelled_statement one (keyword W.Else else ∷ spelled_statement other rest)),
        longer_statement one (keyword W.Else else ∷ spelled_statement other rest),
        longer_statement other rest,
      )
  longer_statement (Trees.while at left a right body) rest =
      omega (arith, longer a (punctuator M.Close right ∷ spelled_statement body rest), longer_statement body rest)
  longer_statement (Trees.do_while at body while left a right semicolon) rest =
      omega (
        arith,
        longer_statement body (keyword W.While while ∷ punctuator M.Open left ∷ spelled a
            (punctuator M.Close right ∷ punctuator M.Semicolon semicolon ∷ rest)),
        longer a (punctuator M.Close right ∷ punctuator M.Semicolon semicolon ∷ rest),
      )
  longer_statement (Trees.for at left start test semicolon step right body) rest =
      omega (
        arith,
        longer_for_start start (spelled_if_any test
            (punctuator M.Semicolon semicolon ∷ spelled_if_any step (punctuator M.Close right ∷ spelled_statement body rest))),
        longer_if_any test (punctuator M.Semicolon semicolon ∷ spelled_if_any step (punctuator M.Close right ∷ spelled_statement body rest)),
        longer_if_any step (punctuator M.Close right ∷ spelled_statement body rest),
        longer_statement body rest,
      )
  longer_statement (Trees.switch at left a right begin switch_items end) rest =
      omega (
        arith,
        longer a (punctuator M.Close right ∷ punctuator M.OpenBrace begin ∷ spelled_switch_items switch_items
            (punctuator M.CloseBrace end ∷ rest)),
        longer_switch_items switch_items (punctuator M.CloseBrace end ∷ rest),
      )
  longer_statement (Trees.break at semicolon) rest = omega arith
  longer_statement (Trees.continue at semicolon) rest = omega arith
  longer_statement (Trees.return at a semicolon) rest = omega (arith, longer_if_any a (punctuator M.Semicolon semicolon ∷ rest))

  longer_block_item : (x : Trees.BlockItem) (rest : List Lexeme) → length rest < length (spelled_block_item x rest)
  longer_block_item (Trees.local d) rest = omega (arith, longer_declaration d rest)
  longer_block_item (Trees.statement a) rest = omega (arith, longer_statement a rest)

  pub longer_block_items : (x : Trees.BlockItems) (rest : List Lexeme) → length rest + length (block_items_list x) ≤ length (spelled_block_items x rest)
  longer_block_items Trees.no_block_items rest = omega arith
  longer_block_items (Trees.and_block_item e more) rest = omega (arith, longer_block_item e (spelled_block_items more rest), longer_block_items more rest)

  longer_switch_item : (x : Trees.SwitchItem) (rest : List Lexeme) → length rest < length (spelled_switch_item x rest)
  longer_switch_item (Trees.local_switch_item d) rest = omega (arith, longer_declaration d rest)
  longer_switch_item (Trees.labelled labels a) rest = omega (arith, longer_labels labels (spelled_statement a rest), longer_statement a rest)

  pub longer_switch_items : (x : Trees.SwitchItems) (rest : List Lexeme) → length rest + length (switch_items_list x) ≤ length (spelled_switch_items x rest)
  longer_switch_items Trees.no_switch_items rest = omega arith
  longer_switch_items (Trees.and_switch_item switch_item more) rest =
      omega (arith, longer_switch_item switch_item (spelled_switch_items more rest), longer_switch_items more rest)

pub longer_item : (x : Trees.Item) (rest : List Lexeme) → length rest < length (spelled_item x rest)
longer_item (Trees.defines specs d left items right) rest = omega (
  arith,
  longer_specifiers specs (spelled_declarator d (punctuator M.OpenBrace left ∷ spelled_block_items items
      (punctuator M.CloseBrace right ∷ rest))),
  longer_declarator d
      (punctuator M.OpenBrace left ∷ spelled_block_items items (punctuator M.CloseBrace right ∷ rest)),
  longer_block_items items (punctuator M.CloseBrace right ∷ rest),
)
longer_item (Trees.declaration d) rest = omega (arith, longer_declaration d rest)

pub longer_items : (x : List Trees.Item) (rest : List Lexeme) → length rest + length x ≤ length (spelled_items x rest)
longer_items [] rest = omega arith
longer_items (item ∷ items) rest = omega (arith, longer_item item (spelled_items items rest), longer_items items rest)

-- ---- lists in which each has a comma before it

comma_token : (c : Option ℕ) (rest : List Lexeme) → IsComma false c → length rest < length (spelled_comma c rest)
comma_token None rest w = cc
comma_token (Some at) rest w = omega arith

pub initializers_count : (types : List (List ℕ)) (all : Trees.Arguments) (rest : List Lexeme) → AreInitializers types false all
    → length rest + length (arguments_list all) ≤ length (spelled_arguments all rest)
initializers_count types Trees.no_arguments rest w = omega arith
initializers_count types (Trees.and_argument comma a more) rest w =
    omega (
      arith,
      comma_token comma (spelled a (spelled_arguments more rest)) w.0,
      longer a (spelled_arguments more rest),
      initializers_count types more rest w.2,
    )

pub init_declarators_count : (types : List (List ℕ)) (all : List Trees.InitDeclarator) (rest : List Lexeme) → AreInitDeclarators types false all
    → length rest + length all ≤ length (spelled_init_declarators all rest)
init_declarators_count types [] rest w = omega arith
init_declarators_count types (d ∷ more) rest w = omega (
  arith,
  comma_token d.comma (spelled_declarator d.declarator (spelled_value d.value (spelled_init_declarators more rest))) w.0,
  longer_declarator d.declarator (spelled_value d.value (spelled_init_declarators more rest)),
  longer_value d.value (spelled_init_declarators more rest),
  init_declarators_count types more rest w.4,
)
