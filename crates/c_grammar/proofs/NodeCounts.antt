-- A tree has as many places of nodes as it has nodes.
use Rattle.std.proofs.Common.{◌≡◌, ℕ, List, [], ◌∷◌, ◌++◌, length, Option, Some, None, refl, arith}
use Rattle.std.proofs.lemmas.List.{length-append}
use Rattle.c_ast.specs.declared.size.Size.{Size}
use Rattle.c_ast.specs.Trees
use Rattle.c_ast.specs.Sizes.{as_initializer, size, size_arguments, size_optional, size_type_name, size_specifiers, size_specifier, size_member_declarations}
use Rattle.c_ast.specs.Sizes.{size_member_declarators, size_enumerators, size_enumerator_value, size_declarator, size_parameter_list, size_parameters}
use Rattle.c_ast.specs.Sizes.{size_initializer, size_initializers, size_value, size_init_declarators, size_declaration, size_if_any, size_labels}
use Rattle.c_ast.specs.Sizes.{size_for_start, size_statement, size_block_item, size_block_items, size_switch_item, size_switch_items, size_item, size_items}
use Rattle.c_ast.specs.Places.{places_as_initializer, places, places_arguments, places_optional, places_type_name, places_specifiers, places_specifier}
use Rattle.c_ast.specs.Places.{places_member_declarations, places_member_declarators, places_enumerators, places_enumerator_value, places_declarator}
use Rattle.c_ast.specs.Places.{places_parameter_list, places_parameters, places_initializer, places_initializers, places_value, places_init_declarators}
use Rattle.c_ast.specs.Places.{places_declaration, places_if_any, places_labels, places_for_start, places_statement, places_block_item, places_block_items}
use Rattle.c_ast.specs.Places.{places_switch_item, places_switch_items, places_item, places_items}

as_initializer_count : (a : Trees.Expression) (own : List ℕ) (n : Size) → length own ≡ n.nodes
    → length (places_as_initializer a own) ≡ (as_initializer a n).nodes
as_initializer_count (Trees.braces left all comma right) own n h = h
as_initializer_count a own n h = omega (arith, h)

mutual
  count : (t : Trees.Expression) → length (places t) ≡ (size t).nodes
  count (Trees.name x) = refl
  count (Trees.number x n kind) = refl
  count (Trees.character x n) = refl
  count (Trees.texts all) = refl
  count (Trees.paren left a right) = omega (arith, count a)
  count (Trees.index a left b right) = omega (arith, length-append (places a) (places b), count a, count b)
  count (Trees.call f left all right) = omega (arith, length-append (places f) (places_arguments all), count f, arguments_count all)
  count (Trees.dot a at x) = omega (arith, count a)
  count (Trees.arrow a at x) = omega (arith, count a)
  count (Trees.post a op at) = omega (arith, count a)
  count (Trees.pre op at a) = omega (arith, count a)
  count (Trees.unary op at a) = omega (arith, count a)
  count (Trees.sizeof_expression at a) = omega (arith, count a)
  count (Trees.sizeof_type at left t right) = omega (arith, type_name_count t)
  count (Trees.cast left t right a) = omega (arith, length-append (places_type_name t) (places a), type_name_count t, count a)
  count (Trees.binary a op at b) = omega (arith, length-append (places a) (places b), count a, count b)
  count (Trees.cond a question b colon c) =
      omega (arith, length-append (places a) (places b), length-append (places a ++ places b) (places c), count a, count b, count c)
  count (Trees.assign a op at b) = omega (arith, length-append (places a) (places b), count a, count b)
  count (Trees.comma a at b) = omega (arith, length-append (places a) (places b), count a, count b)
  count (Trees.braces left all comma right) = omega (arith, initializers_count all)

  arguments_count : (t : Trees.Arguments) → length (places_arguments t) ≡ (size_arguments t).nodes
  arguments_count Trees.no_arguments = refl
  arguments_count (Trees.and_argument comma a more) = omega (arith, length-append (places a) (places_arguments more), count a, arguments_count more)

  optional_count : (t : Trees.OptionalExpression) → length (places_optional t) ≡ (size_optional t).nodes
  optional_count Trees.no_expression = refl
  optional_count (Trees.some_expression a) = count a

  type_name_count : (t : Trees.TypeName) → length (places_type_name t) ≡ (size_type_name t).nodes
  type_name_count (Trees.type_name specs d) =
      omega (arith, length-append (places_specifiers specs) (places_declarator d), specifiers_count specs, declarator_count d)

  specifiers_count : (t : Trees.Specifiers) → length (places_specifiers t) ≡ (size_specifiers t).nodes
  specifiers_count Trees.no_specifiers = refl
  specifiers_count (Trees.and_specifier s more) =
      omega (arith, length-append (places_specifier s) (places_specifiers more), specifier_count s, specifiers_count more)

  specifier_count : (t : Trees.Specifier) → length (places_specifier t) ≡ (size_specifier t).nodes
  specifier_count (Trees.plain word at) = refl
  specifier_count (Trees.typename x) = refl
  specifier_count (Trees.struct_named at x) = refl
  specifier_count (Trees.struct_body at x left all right) = omega (arith, member_declarations_count all)
  specifier_count (Trees.enum_named at x) = refl
  specifier_count (Trees.enum_body at x left all comma right) = omega (arith, enumerators_count all)

  member_declarations_count : (t : Trees.MemberDeclarations) → length (places_member_declarations t) ≡ (size_member_declarations t).nodes
  member_declarations_count Trees.no_member_declarations = refl
  member_declarations_count (Trees.and_member_declaration specs all semicolon more) =
      omega (
        arith,
        length-append (places_specifiers specs) (places_member_declarators all),
        length-append (places_specifiers specs ++ places_member_declarators all) (places_member_declarations more),
        specifiers_count specs,
        member_declarators_count all,
        member_declarations_count more,
      )

  member_declarators_count : (t : Trees.MemberDeclarators) → length (places_member_declarators t) ≡ (size_member_declarators t).nodes
  member_declarators_count Trees.no_member_declarators = refl
  member_declarators_count (Trees.and_member_declarator comma d more) =
      omega (arith, length-append (places_declarator d) (places_member_declarators more), declarator_count d, member_declarators_count more)

  enumerators_count : (t : Trees.Enumerators) → length (places_enumerators t) ≡ (size_enumerators t).nodes
  enumerators_count Trees.no_enumerators = refl
  enumerators_count (Trees.and_enumerator comma x value more) =
      omega (arith, length-append (places_enumerator_value value) (places_enumerators more), enumerator_value_count value, enumerators_count more)

  enumerator_value_count : (t : Trees.EnumeratorValue) → length (places_enumerator_value t) ≡ (size_enumerator_value t).nodes
  enumerator_value_count Trees.no_value = refl
  enumerator_value_count (Trees.valued equal a) = omega (arith, count a)

  declarator_count : (t : Trees.Declarator) → length (places_declarator t) ≡ (size_declarator t).nodes
  declarator_count Trees.nothing = refl
  declarator_count (Trees.named x) = refl
  declarator_count (Trees.pointer at consts d) = omega (arith, declarator_count d)
  declarator_count (Trees.enclosed left d right) = omega (arith, declarator_count d)
  declarator_count (Trees.array d left bound right) =
      omega (arith, length-append (places_declarator d) (places_optional bound), declarator_count d, optional_count bound)
  declarator_count (Trees.function d left all right) =
      omega (arith, length-append (places_declarator d) (places_parameter_list all), declarator_count d, parameter_list_count all)

  parameter_list_count : (t : Trees.ParameterList) → length (places_parameter_list t) ≡ (size_parameter_list t).nodes
  parameter_list_count (Trees.void_alone at) = refl
  parameter_list_count (Trees.listed all) = parameters_count all

  parameters_count : (t : Trees.Parameters) → length (places_parameters t) ≡ (size_parameters t).nodes
  parameters_count Trees.no_parameters = refl
  parameters_count (Trees.and_parameter comma specs d more) =
      omega (
        arith,
        length-append (places_specifiers specs) (places_declarator d),
        length-append (places_specifiers specs ++ places_declarator d) (places_parameters more),
        specifiers_count specs,
        declarator_count d,
        parameters_count more,
      )

  initializers_count : (t : Trees.Arguments) → length (places_initializers t) ≡ (size_initializers t).nodes
  initializers_count Trees.no_arguments = refl
  initializers_count (Trees.and_argument comma a more) =
      omega (
        arith,
        length-append (places_initializer a) (places_initializers more),
        as_initializer_count a (places a) (size a) (count a),
        initializers_count more,
      )

initializer_count : (t : Trees.Expression) → length (places_initializer t) ≡ (size_initializer t).nodes
initializer_count a = as_initializer_count a (places a) (size a) (count a)

value_count : (t : Option (ℕ × Trees.Expression)) → length (places_value t) ≡ (size_value t).nodes
value_count None = refl
value_count (Some value) = omega (arith, initializer_count value.1)

init_declarators_count : (t : List Trees.InitDeclarator) → length (places_init_declarators t) ≡ (size_init_declarators t).nodes
init_declarators_count [] = refl
init_declarators_count (d ∷ more) =
    omega (
      arith,
      length-append (places_declarator d.declarator) (places_value d.value),
      length-append (places_declarator d.declarator ++ places_value d.value) (places_init_declarators more),
      declarator_count d.declarator,
      value_count d.value,
      init_declarators_count more,
    )

declaration_count : (t : Trees.Declaration) → length (places_declaration t) ≡ (size_declaration t).nodes
declaration_count d =
    omega (arith, length-append (places_specifiers d.specs) (places_init_declarators d.all), specifiers_count d.specs, init_declarators_count d.all)

if_any_count : (t : Option Trees.Expression) → length (places_if_any t) ≡ (size_if_any t).nodes
if_any_count None = refl
if_any_count (Some a) = count a

labels_count : (t : List Trees.Label) → length (places_labels t) ≡ (size_labels t).nodes
labels_count [] = refl
labels_count (Trees.case at a colon ∷ more) = omega (arith, length-append (places a) (places_labels more), count a, labels_count more)
labels_count (Trees.default at colon ∷ more) = omega (arith, labels_count more)

for_start_count : (t : Trees.ForStart) → length (places_for_start t) ≡ (size_for_start t).nodes
for_start_count (Trees.starts_with a semicolon) = omega (arith, if_any_count a)
for_start_count (Trees.declares d) = declaration_count d

mutual
  statement_count : (t : Trees.Statement) → length (places_statement t) ≡ (size_statement t).nodes
  statement_count (Trees.block left items right) = omega (arith, block_items_count items)
  statement_count (Trees.evaluate a semicolon) = omega (arith, if_any_count a)
  statement_count (Trees.when at left a right one) = omega (arith, length-append (places a) (places_statement one), count a, statement_count one)
  statement_count (Trees.choose at left a right one else other) =
      omega (
        arith,
        length-append (places a) (places_statement one),
        length-append (places a ++ places_statement one) (places_statement other),
        count a,
        statement_count one,
        statement_count other,
      )
  statement_count (Trees.while at left a right body) = omega (arith, length-append (places a) (places_statement body), count a, statement_count body)
  statement_count (Trees.do_while at body while left a right semicolon) =
      omega (arith, length-append (places_statement body) (places a), statement_count body, count a)
  statement_count (Trees.for at left start test semicolon step right body) =
      omega (
        arith,
        length-append (places_for_start start) (places_if_any test),
        length-append (places_for_start start ++ places_if_any test) (places_if_any step),
        length-append (places_for_start start ++ places_if_any test ++ places_if_any step) (places_statement body),
        for_start_count start,
        if_any_count test,
        if_any_count step,
        statement_count body,
      )
  statement_count (Trees.switch at left a right begin all end) =
      omega (arith, length-append (places a) (places_switch_items all), count a, switch_items_count all)
  statement_count (Trees.break at semicolon) = refl
  statement_count (Trees.continue at semicolon) = refl
  statement_count (Trees.return at a semicolon) = omega (arith, if_any_count a)

  block_item_count : (t : Trees.BlockItem) → length (places_block_item t) ≡ (size_block_item t).nodes
  block_item_count (Trees.local d) = declaration_count d
  block_item_count (Trees.statement a) = statement_count a

  block_items_count : (t : Trees.BlockItems) → length (places_block_items t) ≡ (size_block_items t).nodes
  block_items_count Trees.no_block_items = refl
  block_items_count (Trees.and_block_item e more) =
      omega (arith, length-append (places_block_item e) (places_block_items more), block_item_count e, block_items_count more)

  switch_item_count : (t : Trees.SwitchItem) → length (places_switch_item t) ≡ (size_switch_item t).nodes
  switch_item_count (Trees.local_switch_item d) = declaration_count d
  switch_item_count (Trees.labelled labels a) =
      omega (arith, length-append (places_labels labels) (places_statement a), labels_count labels, statement_count a)

  switch_items_count : (t : Trees.SwitchItems) → length (places_switch_items t) ≡ (size_switch_items t).nodes
  switch_items_count Trees.no_switch_items = refl
  switch_items_count (Trees.and_switch_item e more) =
      omega (arith, length-append (places_switch_item e) (places_switch_items more), switch_item_count e, switch_items_count more)

pub item_count : (t : Trees.Item) → length (places_item t) ≡ (size_item t).nodes
item_count (Trees.defines specs d left items right) =
    omega (
      arith,
      length-append (places_specifiers specs) (places_declarator d),
      length-append (places_specifiers specs ++ places_declarator d) (left ∷ places_block_items items),
      specifiers_count specs,
      declarator_count d,
      block_items_count items,
    )
item_count (Trees.declaration d) = omega (arith, declaration_count d)

pub items_count : (t : List Trees.Item) → length (places_items t) ≡ (size_items t).nodes
items_count [] = refl
items_count (item ∷ items) = omega (arith, length-append (places_item item) (places_items items), item_count item, items_count items)
