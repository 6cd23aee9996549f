-- A well formed tree has no more nodes than tokens: each node has a token of its own. An initializer that is an expression has
-- the comma, the brace or the "=" before it.
use Rattle.std.proofs.Common.{◌≡◌, ℕ, ◌+◌, ◌≤◌, ◌<◌, List, [], ◌∷◌, length, Option, Some, None, Bool, true, false, refl, arith}
use Rattle.lay_base.specs.declared.faults.Keyword.TheVariants as W
use Rattle.c_tokens.specs.declared.punctuator.Punctuator.TheVariants as M
use Rattle.c_tokens.specs.declared.token.TokenKind.TheVariants as K
use Rattle.c_ast.specs.declared.words.Spelling.{Spelling}
use Rattle.c_ast.specs.declared.size.Size.{Size}
use Rattle.c_ast.specs.Trees
use Rattle.c_ast.specs.Spelling.{Lexeme, spell, punctuator, keyword, word, step_punctuator, binary_punctuator, assign_punctuator, spelled_comma, spelled_tag}
use Rattle.c_ast.specs.Spelling.{spelled, spelled_arguments, spelled_optional, spelled_type_name, spelled_specifiers, spelled_specifier}
use Rattle.c_ast.specs.Spelling.{spelled_member_declarations, spelled_member_declarators, spelled_enumerators, spelled_enumerator_value, spelled_declarator}
use Rattle.c_ast.specs.Spelling.{spelled_parameter_list, spelled_parameters, spelled_value, spelled_init_declarators, spelled_declaration, spelled_if_any}
use Rattle.c_ast.specs.Spelling.{spelled_labels, spelled_for_start, spelled_statement, spelled_block_item, spelled_block_items, spelled_switch_item}
use Rattle.c_ast.specs.Spelling.{spelled_switch_items, spelled_item, spelled_items}
use Rattle.c_ast.specs.WellFormed.{AreArguments, AreBlockItems, AreEnumerators, AreInitDeclarators, AreInitializers, AreItems, AreLabels}
use Rattle.c_ast.specs.WellFormed.{AreMemberDeclarations, AreMemberDeclarators, AreMoreSpecifiers, AreParameters, AreSpecifiers, AreSwitchItems, IsBlockItem}
use Rattle.c_ast.specs.WellFormed.{IsDeclaration, IsDeclarator, IsEnumeratorValue, IsExpression, IsExpressionIfAny, IsForStart, IsInitializer, IsItem}
use Rattle.c_ast.specs.WellFormed.{IsOptional, IsParameterList, IsSpecifier, IsStatement, IsSwitchItem, IsTypeName, IsValue, types_after}
use Rattle.c_ast.specs.Sizes.{size, size_arguments, size_optional, size_type_name, size_specifiers, size_specifier, size_member_declarations}
use Rattle.c_ast.specs.Sizes.{size_member_declarators, size_enumerators, size_enumerator_value, size_declarator, size_parameter_list, size_parameters}
use Rattle.c_ast.specs.Sizes.{size_initializer, size_initializers, size_value, size_init_declarators, size_declaration, size_if_any, size_labels}
use Rattle.c_ast.specs.Sizes.{size_for_start, size_statement, size_block_item, size_block_items, size_switch_item, size_switch_items, size_item, size_items}
use Rattle.c_grammar.proofs.Lengths.{texts_count, consts_count}
use Rattle.c_grammar.proofs.Longer.{longer_comma}

-- no more nodes than tokens before what follows
abbrev Few : {A : Type 0} → (A → Size) → (A → List Lexeme → List Lexeme) → A → Type 0
Few size spelled t = (rest : List Lexeme) → (size t).nodes + length rest ≤ length (spelled t rest)

-- and a token more than nodes
abbrev Fewer : {A : Type 0} → (A → Size) → (A → List Lexeme → List Lexeme) → A → Type 0
Fewer size spelled t = (rest : List Lexeme) → (size t).nodes + length rest < length (spelled t rest)

-- or no more than with the token before them
abbrev FewAfterOne : {A : Type 0} → (A → Size) → (A → List Lexeme → List Lexeme) → A → Type 0
FewAfterOne size spelled t = (rest : List Lexeme) → (size t).nodes + length rest ≤ length (spelled t rest) + 1

longer_tag : (x : Option Spelling) (rest : List Lexeme) → length rest ≤ length (spelled_tag x rest)
longer_tag None rest = omega arith
longer_tag (Some x) rest = omega arith

module _ (types : List (List ℕ)) where
  mutual
    few : (t : Trees.Expression) → IsExpression types t → Few size spelled t
    few (Trees.name x) w rest = omega arith
    few (Trees.number x n kind) w rest = omega arith
    few (Trees.character x n) w rest = omega arith
    few (Trees.texts []) w rest = absurd (w refl)
    few (Trees.texts (x ∷ more)) w rest = omega (arith, texts_count more rest)
    few (Trees.paren left a right) w rest = omega (arith, few a w (punctuator M.Close right ∷ rest))
    few (Trees.index a left b right) w rest =
        omega (
          arith,
          few a w.1 (punctuator M.OpenSquare left ∷ spelled b (punctuator M.CloseSquare right ∷ rest)),
          few b w.2 (punctuator M.CloseSquare right ∷ rest),
        )
    few (Trees.call f left all right) w rest =
        omega (
          arith,
          few f w.1 (punctuator M.Open left ∷ spelled_arguments all (punctuator M.Close right ∷ rest)),
          arguments_few true all w.2 (punctuator M.Close right ∷ rest),
        )
    few (Trees.dot a at x) w rest = omega (arith, few a w.1 (punctuator M.Dot at ∷ word K.Name x ∷ rest))
    few (Trees.arrow a at x) w rest = omega (arith, few a w.1 (punctuator M.Arrow at ∷ word K.Name x ∷ rest))
    few (Trees.post a op at) w rest = omega (arith, few a w.1 (punctuator (step_punctuator op) at ∷ rest))
    few (Trees.pre op at a) w rest = omega (arith, few a w.1 rest)
    few (Trees.unary op at a) w rest = omega (arith, few a w.1 rest)
    few (Trees.sizeof_expression at a) w rest = omega (arith, few a w.1 rest)
    few (Trees.sizeof_type at left t right) w rest = omega (arith, type_name_few t w (punctuator M.Close right ∷ rest))
    few (Trees.cast left t right a) w rest = omega (arith, type_name_few t w.1 (punctuator M.Close right ∷ spelled a rest), few a w.2 rest)
    few (Trees.binary a op at b) w rest = omega (arith, few a w.2 (punctuator (binary_punctuator op) at ∷ spelled b rest), few b w.3 rest)
    few (Trees.cond a question b colon c) w rest =
        omega (
          arith,
          few a w.2 (punctuator M.Question question ∷ spelled b (punctuator M.Colon colon ∷ spelled c rest)),
          few b w.3 (punctuator M.Colon colon ∷ spelled c rest),
          few c w.4 rest,
        )
    few (Trees.assign a op at b) w rest = omega (arith, few a w.2 (punctuator (assign_punctuator op) at ∷ spelled b rest), few b w.3 rest)
    few (Trees.comma a at b) w rest = omega (arith, few a w.1 (punctuator M.Comma at ∷ spelled b rest), few b w.2 rest)
    few (Trees.braces left all comma right) w rest = absurd w

    arguments_few : (first : Bool) (t : Trees.Arguments) → AreArguments types first t → Few size_arguments spelled_arguments t
    arguments_few first Trees.no_arguments w rest = omega arith
    arguments_few first (Trees.and_argument comma a more) w rest =
        omega (
          arith,
          longer_comma comma (spelled a (spelled_arguments more rest)),
          few a w.2 (spelled_arguments more rest),
          arguments_few false more w.3 rest,
        )

    optional_few : (t : Trees.OptionalExpression) → IsOptional types t → Few size_optional spelled_optional t
    optional_few Trees.no_expression w rest = omega arith
    optional_few (Trees.some_expression a) w rest = omega (arith, few a w.1 rest)

    type_name_few : (t : Trees.TypeName) → IsTypeName types t → Few size_type_name spelled_type_name t
    type_name_few (Trees.type_name specs d) w rest = omega (arith, specifiers_few specs w.0 (spelled_declarator d rest), declarator_few d w.1 rest)

    specifiers_few : (t : Trees.Specifiers) → AreSpecifiers types t → Few size_specifiers spelled_specifiers t
    specifiers_few Trees.no_specifiers w rest = absurd w
    specifiers_few (Trees.and_specifier s more) w rest =
        omega (arith, specifier_few s w.0 (spelled_specifiers more rest), more_specifiers_few more w.1 rest)

    more_specifiers_few : (t : Trees.Specifiers) → AreMoreSpecifiers types t → Few size_specifiers spelled_specifiers t
    more_specifiers_few Trees.no_specifiers w rest = omega arith
    more_specifiers_few (Trees.and_specifier s more) w rest =
        omega (arith, specifier_few s w.0 (spelled_specifiers more rest), more_specifiers_few more w.1 rest)

    specifier_few : (t : Trees.Specifier) → IsSpecifier types t → Few size_specifier spelled_specifier t
    specifier_few (Trees.plain word at) w rest = omega arith
    specifier_few (Trees.typename x) w rest = omega arith
    specifier_few (Trees.struct_named at x) w rest = omega arith
    specifier_few (Trees.struct_body at x left all right) w rest =
        omega (
          arith,
          longer_tag x (punctuator M.OpenBrace left ∷ spelled_member_declarations all (punctuator M.CloseBrace right ∷ rest)),
          member_declarations_few all w.1 (punctuator M.CloseBrace right ∷ rest),
        )
    specifier_few (Trees.enum_named at x) w rest = omega arith
    specifier_few (Trees.enum_body at x left all comma right) w rest =
        omega (
          arith,
          longer_tag x (punctuator M.OpenBrace left ∷ spelled_enumerators all (spelled_comma comma (punctuator M.CloseBrace right ∷ rest))),
          enumerators_few true all w.1 (spelled_comma comma (punctuator M.CloseBrace right ∷ rest)),
          longer_comma comma (punctuator M.CloseBrace right ∷ rest),
        )

    member_declarations_few : (t : Trees.MemberDeclarations) → AreMemberDeclarations types t → Few size_member_declarations spelled_member_declarations t
    member_declarations_few Trees.no_member_declarations w rest = omega arith
    member_declarations_few (Trees.and_member_declaration specs all semicolon more) w rest =
        omega (
          arith,
          specifiers_few specs w.0 (spelled_member_declarators all (punctuator M.Semicolon semicolon ∷ spelled_member_declarations more rest)),
          member_declarators_few true all w.2 (punctuator M.Semicolon semicolon ∷ spelled_member_declarations more rest),
          member_declarations_few more w.3 rest,
        )

    member_declarators_few : (first : Bool) (t : Trees.MemberDeclarators) → AreMemberDeclarators types first t
        → Few size_member_declarators spelled_member_declarators t
    member_declarators_few first Trees.no_member_declarators w rest = omega arith
    member_declarators_few first (Trees.and_member_declarator comma d more) w rest =
        omega (
          arith,
          longer_comma comma (spelled_declarator d (spelled_member_declarators more rest)),
          declarator_few d w.1 (spelled_member_declarators more rest),
          member_declarators_few false more w.3 rest,
        )

    enumerators_few : (first : Bool) (t : Trees.Enumerators) → AreEnumerators types first t → Few size_enumerators spelled_enumerators t
    enumerators_few first Trees.no_enumerators w rest = omega arith
    enumerators_few first (Trees.and_enumerator comma x value more) w rest =
        omega (
          arith,
          longer_comma comma (word K.Name x ∷ spelled_enumerator_value value (spelled_enumerators more rest)),
          enumerator_value_few value w.2 (spelled_enumerators more rest),
          enumerators_few false more w.3 rest,
        )

    enumerator_value_few : (t : Trees.EnumeratorValue) → IsEnumeratorValue types t → Few size_enumerator_value spelled_enumerator_value t
    enumerator_value_few Trees.no_value w rest = omega arith
    enumerator_value_few (Trees.valued equal a) w rest = omega (arith, few a w.1 rest)

    declarator_few : (t : Trees.Declarator) → IsDeclarator types t → Few size_declarator spelled_declarator t
    declarator_few Trees.nothing w rest = omega arith
    declarator_few (Trees.named x) w rest = omega arith
    declarator_few (Trees.pointer at consts d) w rest = omega (arith, consts_count consts (spelled_declarator d rest), declarator_few d w rest)
    declarator_few (Trees.enclosed left d right) w rest = omega (arith, declarator_few d w.1 (punctuator M.Close right ∷ rest))
    declarator_few (Trees.array d left bound right) w rest =
        omega (
          arith,
          declarator_few d w.1 (punctuator M.OpenSquare left ∷ spelled_optional bound (punctuator M.CloseSquare right ∷ rest)),
          optional_few bound w.2 (punctuator M.CloseSquare right ∷ rest),
        )
    declarator_few (Trees.function d left all right) w rest =
        omega (
          arith,
          declarator_few d w.1 (punctuator M.Open left ∷ spelled_parameter_list all (punctuator M.Close right ∷ rest)),
          parameter_list_few all w.2 (punctuator M.Close right ∷ rest),
        )

    parameter_list_few : (t : Trees.ParameterList) → IsParameterList types t → Few size_parameter_list spelled_parameter_list t
    parameter_list_few (Trees.void_alone at) w rest = omega arith
    parameter_list_few (Trees.listed all) w rest = omega (arith, parameters_few true all w.1 rest)

    parameters_few : (first : Bool) (t : Trees.Parameters) → AreParameters types first t → Few size_parameters spelled_parameters t
    parameters_few first Trees.no_parameters w rest = omega arith
    parameters_few first (Trees.and_parameter comma specs d more) w rest =
        omega (
          arith,
          longer_comma comma (spelled_specifiers specs (spelled_declarator d (spelled_parameters more rest))),
          specifiers_few specs w.1 (spelled_declarator d (spelled_parameters more rest)),
          declarator_few d w.2 (spelled_parameters more rest),
          parameters_few false more w.3 rest,
        )

  mutual
    initializer_few : (t : Trees.Expression) → IsInitializer types t → FewAfterOne size_initializer spelled t
    initializer_few (Trees.braces left all comma right) w rest =
        omega (
          arith,
          first_initializers_few all w.1 (spelled_comma comma (punctuator M.CloseBrace right ∷ rest)),
          longer_comma comma (punctuator M.CloseBrace right ∷ rest),
        )
    initializer_few a w rest = omega (arith, few a w.1 rest)

    -- each has a comma before it
    initializers_few : (t : Trees.Arguments) → AreInitializers types false t → Few size_initializers spelled_arguments t
    initializers_few Trees.no_arguments w rest = omega arith
    initializers_few (Trees.and_argument None a more) w rest = let e : false ≡ true = w.0 in cc
    initializers_few (Trees.and_argument (Some c) a more) w rest =
        omega (arith, initializer_few a w.1 (spelled_arguments more rest), initializers_few more w.2 rest)

    first_initializers_few : (t : Trees.Arguments) → AreInitializers types true t → FewAfterOne size_initializers spelled_arguments t
    first_initializers_few Trees.no_arguments w rest = omega arith
    first_initializers_few (Trees.and_argument comma a more) w rest =
        omega (
          arith,
          longer_comma comma (spelled a (spelled_arguments more rest)),
          initializer_few a w.1 (spelled_arguments more rest),
          initializers_few more w.2 rest,
        )

  value_few : (t : Option (ℕ × Trees.Expression)) → IsValue types t → Few size_value spelled_value t
  value_few None w rest = omega arith
  value_few (Some value) w rest = omega (arith, initializer_few value.1 w rest)

  init_declarators_few : (first : Bool) (t : List Trees.InitDeclarator) → AreInitDeclarators types first t
      → Few size_init_declarators spelled_init_declarators t
  init_declarators_few first [] w rest = omega arith
  init_declarators_few first (d ∷ more) w rest =
      omega (
        arith,
        longer_comma d.comma (spelled_declarator d.declarator (spelled_value d.value (spelled_init_declarators more rest))),
        declarator_few d.declarator w.1 (spelled_value d.value (spelled_init_declarators more rest)),
        value_few d.value w.3 (spelled_init_declarators more rest),
        init_declarators_few false more w.4 rest,
      )

  declaration_few : (t : Trees.Declaration) → IsDeclaration types t → Fewer size_declaration spelled_declaration t
  declaration_few d w rest =
      omega (
        arith,
        specifiers_few d.specs w.0 (spelled_init_declarators d.all (punctuator M.Semicolon d.semicolon ∷ rest)),
        init_declarators_few true d.all w.1 (punctuator M.Semicolon d.semicolon ∷ rest),
      )

  if_any_few : (t : Option Trees.Expression) → IsExpressionIfAny types t → Few size_if_any spelled_if_any t
  if_any_few None w rest = omega arith
  if_any_few (Some a) w rest = omega (arith, few a w rest)

  labels_few : (t : List Trees.Label) → AreLabels types t → Few size_labels spelled_labels t
  labels_few [] w rest = omega arith
  labels_few (Trees.case at a colon ∷ more) w rest =
      omega (arith, few a w.1 (punctuator M.Colon colon ∷ spelled_labels more rest), labels_few more w.2 rest)
  labels_few (Trees.default at colon ∷ more) w rest = omega (arith, labels_few more w rest)

  for_start_few : (t : Trees.ForStart) → IsForStart types t → Few size_for_start spelled_for_start t
  for_start_few (Trees.starts_with a semicolon) w rest = omega (arith, if_any_few a w (punctuator M.Semicolon semicolon ∷ rest))
  for_start_few (Trees.declares d) w rest = omega (arith, declaration_few d w.1 rest)

  mutual
    statement_few : (t : Trees.Statement) → IsStatement types t → Few size_statement spelled_statement t
    statement_few (Trees.block left items right) w rest = omega (arith, block_items_few items w (punctuator M.CloseBrace right ∷ rest))
    statement_few (Trees.evaluate a semicolon) w rest = omega (arith, if_any_few a w (punctuator M.Semicolon semicolon ∷ rest))
    statement_few (Trees.when at left a right one) w rest =
        omega (arith, few a w.0 (punctuator M.Close right ∷ spelled_statement one rest), statement_few one w.1 rest)
    statement_few (Trees.choose at left a right one else other) w rest =
        omega (
          arith,
          few a w.1 (punctuator M.Close right ∷ spelled_statement one (keyword W.Else else ∷ spelled_statement other rest)),
          statement_few one w.2 (keyword W.Else else ∷ spelled_statement other rest),
          statement_few other w.3 rest,
        )
    statement_few (Trees.while at left a right body) w rest =
        omega (arith, few a w.0 (punctuator M.Close right ∷ spelled_statement body rest), statement_few body w.1 rest)
    statement_few (Trees.do_while at body while left a right semicolon) w rest =
        omega (
          arith,
          statement_few body w.0 (keyword W.While while ∷
              punctuator M.Open left ∷ spelled a (punctuator M.Close right ∷ punctuator M.Semicolon semicolon ∷ rest)),
          few a w.1 (punctuator M.Close right ∷ punctuator M.Semicolon semicolon ∷ rest),
        )
    statement_few (Trees.for at left start test semicolon step right body) w rest =
        omega (
          arith,
          for_start_few start w.0 (spelled_if_any test (punctuator M.Semicolon semicolon ∷
              spelled_if_any step (punctuator M.Close right ∷ spelled_statement body rest))),
          if_any_few test w.1 (punctuator M.Semicolon semicolon ∷ spelled_if_any step (punctuator M.Close right ∷ spelled_statement body rest)),
          if_any_few step w.2 (punctuator M.Close right ∷ spelled_statement body rest),
          statement_few body w.3 rest,
        )
    statement_few (Trees.switch at left a right begin all end) w rest =
        omega (
          arith,
          few a w.0 (punctuator M.Close right ∷ punctuator M.OpenBrace begin ∷ spelled_switch_items all (punctuator M.CloseBrace end ∷ rest)),
          switch_items_few all w.1 (punctuator M.CloseBrace end ∷ rest),
        )
    statement_few (Trees.break at semicolon) w rest = omega arith
    statement_few (Trees.continue at semicolon) w rest = omega arith
    statement_few (Trees.return at a semicolon) w rest = omega (arith, if_any_few a w (punctuator M.Semicolon semicolon ∷ rest))

    block_item_few : (t : Trees.BlockItem) → IsBlockItem types t → Few size_block_item spelled_block_item t
    block_item_few (Trees.local d) w rest = omega (arith, declaration_few d w rest)
    block_item_few (Trees.statement a) w rest = omega (arith, statement_few a w rest)

    block_items_few : (t : Trees.BlockItems) → AreBlockItems types t → Few size_block_items spelled_block_items t
    block_items_few Trees.no_block_items w rest = omega arith
    block_items_few (Trees.and_block_item e more) w rest =
        omega (arith, block_item_few e w.0 (spelled_block_items more rest), block_items_few more w.1 rest)

    switch_item_few : (t : Trees.SwitchItem) → IsSwitchItem types t → Few size_switch_item spelled_switch_item t
    switch_item_few (Trees.local_switch_item d) w rest = omega (arith, declaration_few d w.1 rest)
    switch_item_few (Trees.labelled labels a) w rest = omega (arith, labels_few labels w.0 (spelled_statement a rest), statement_few a w.1 rest)

    switch_items_few : (t : Trees.SwitchItems) → AreSwitchItems types t → Few size_switch_items spelled_switch_items t
    switch_items_few Trees.no_switch_items w rest = omega arith
    switch_items_few (Trees.and_switch_item e more) w rest =
        omega (arith, switch_item_few e w.0 (spelled_switch_items more rest), switch_items_few more w.1 rest)

item_few : (types : List (List ℕ)) (t : Trees.Item) → IsItem types t → Few size_item spelled_item t
item_few types (Trees.defines specs d left items right) w rest =
    omega (
      arith,
      specifiers_few types specs w.0 (spelled_declarator d (punctuator M.OpenBrace left ∷ spelled_block_items items (punctuator M.CloseBrace right ∷ rest))),
      declarator_few types d w.1 (punctuator M.OpenBrace left ∷ spelled_block_items items (punctuator M.CloseBrace right ∷ rest)),
      block_items_few types items w.3 (punctuator M.CloseBrace right ∷ rest),
    )
item_few types (Trees.declaration d) w rest =
    omega (arith, declaration_few types d w rest)

items_few : (types : List (List ℕ)) (t : List Trees.Item) → AreItems types t → Few size_items spelled_items t
items_few types [] w rest = omega arith
items_few types (item ∷ items) w rest =
    omega (arith, item_few types item w.0 (spelled_items items rest), items_few (types_after types item) items w.1 rest)

-- there are no more nodes than tokens
pub no_more_nodes : (items : List Trees.Item) → AreItems [] items → (size_items items).nodes ≤ length (spell items)
no_more_nodes items w = omega (arith, items_few [] items w [])
