-- Where something begins: the byte of the first token of its spelling, one rule for each alternative of the grammar (C99 6.5 to
-- 6.9), as the spelling has. It is the place of a node. Of what is well formed, only a declarator may have no token; then it
-- begins where what stands after it does.
use Rattle.std.specs.Prelude.{ℕ, List, [], ◌∷◌, ◌++◌, Option, Some, None}
use Rattle.c_ast.specs.declared.words.Spelling.{Spelling}
use Rattle.c_ast.specs.Trees
use Rattle.c_ast.specs.Spelling.{Lexeme}

abbrev pub first_text : List Spelling → ℕ
first_text [] = 0
first_text (x ∷ more) = x.from

abbrev pub first : Trees.Expression → ℕ
first (Trees.name x) = x.from
first (Trees.number x n kind) = x.from
first (Trees.character x n) = x.from
first (Trees.texts all) = first_text all
first (Trees.paren left a right) = left
first (Trees.index a left b right) = first a
first (Trees.call f left all right) = first f
first (Trees.dot a at x) = first a
first (Trees.arrow a at x) = first a
first (Trees.post a op at) = first a
first (Trees.pre op at a) = at
first (Trees.unary op at a) = at
first (Trees.sizeof_expression at a) = at
first (Trees.sizeof_type at left t right) = at
first (Trees.cast left t right a) = left
first (Trees.binary a op at b) = first a
first (Trees.cond a question b colon c) = first a
first (Trees.assign a op at b) = first a
first (Trees.comma a at b) = first a
first (Trees.braces left all comma right) = left

abbrev pub first_if_any : Option Trees.Expression → ℕ → ℕ
first_if_any None after = after
first_if_any (Some a) after = first a

abbrev pub first_specifier : Trees.Specifier → ℕ
first_specifier (Trees.plain word at) = at
first_specifier (Trees.typename x) = x.from
first_specifier (Trees.struct_named at x) = at
first_specifier (Trees.struct_body at x left lines right) = at
first_specifier (Trees.enum_named at x) = at
first_specifier (Trees.enum_body at x left all comma right) = at

abbrev pub first_specifiers : Trees.Specifiers → ℕ
first_specifiers Trees.no_specifiers = 0
first_specifiers (Trees.and_specifier s more) = first_specifier s

abbrev pub first_declarator : Trees.Declarator → ℕ → ℕ
first_declarator Trees.nothing after = after
first_declarator (Trees.named x) after = x.from
first_declarator (Trees.pointer at consts d) after = at
first_declarator (Trees.enclosed left d right) after = left
first_declarator (Trees.array d left length right) after = first_declarator d left
first_declarator (Trees.function d left all right) after = first_declarator d left

abbrev pub first_declaration : Trees.Declaration → ℕ
first_declaration d = first_specifiers d.specs

abbrev pub first_statement : Trees.Statement → ℕ
first_statement (Trees.block left items right) = left
first_statement (Trees.evaluate a semicolon) = first_if_any a semicolon
first_statement (Trees.when at left a right one) = at
first_statement (Trees.choose at left a right one else other) = at
first_statement (Trees.while at left a right body) = at
first_statement (Trees.do_while at body while left a right semicolon) = at
first_statement (Trees.for at left start test semicolon step right body) = at
first_statement (Trees.switch at left a right begin items end) = at
first_statement (Trees.break at semicolon) = at
first_statement (Trees.continue at semicolon) = at
first_statement (Trees.return at a semicolon) = at

abbrev pub first_item : Trees.Item → ℕ
first_item (Trees.defines specs d left items right) = first_specifiers specs
first_item (Trees.declaration d) = first_declaration d

-- the byte at which the first of some tokens stands
abbrev pub begins_at : List Lexeme → ℕ
begins_at [] = 0
begins_at (token ∷ tokens) = token.from

-- ---- the places of all nodes of a tree, which are those that its size counts, each before those of its parts

-- an initializer that is an expression is a node over it, and braces are the initializer
abbrev pub places_as_initializer : Trees.Expression → List ℕ → List ℕ
places_as_initializer (Trees.braces left all comma right) own = own
places_as_initializer a own = first a ∷ own

abbrev mutual
  pub places : Trees.Expression → List ℕ
  places (Trees.name x) = x.from ∷ []
  places (Trees.number x n kind) = x.from ∷ []
  places (Trees.character x n) = x.from ∷ []
  places (Trees.texts all) = first_text all ∷ []
  places (Trees.paren left a right) = left ∷ places a
  places (Trees.index a left b right) = first a ∷ (places a ++ places b)
  places (Trees.call f left all right) = first f ∷ (places f ++ places_arguments all)
  places (Trees.dot a at x) = first a ∷ places a
  places (Trees.arrow a at x) = first a ∷ places a
  places (Trees.post a op at) = first a ∷ places a
  places (Trees.pre op at a) = at ∷ places a
  places (Trees.unary op at a) = at ∷ places a
  places (Trees.sizeof_expression at a) = at ∷ places a
  places (Trees.sizeof_type at left t right) = at ∷ places_type_name t
  places (Trees.cast left t right a) = left ∷ (places_type_name t ++ places a)
  places (Trees.binary a op at b) = first a ∷ (places a ++ places b)
  places (Trees.cond a question b colon c) = first a ∷ (places a ++ places b ++ places c)
  places (Trees.assign a op at b) = first a ∷ (places a ++ places b)
  places (Trees.comma a at b) = first a ∷ (places a ++ places b)
  places (Trees.braces left all comma right) = left ∷ places_initializers all

  pub places_arguments : Trees.Arguments → List ℕ
  places_arguments Trees.no_arguments = []
  places_arguments (Trees.and_argument comma a more) = places a ++ places_arguments more

  pub places_initializers : Trees.Arguments → List ℕ
  places_initializers Trees.no_arguments = []
  places_initializers (Trees.and_argument comma a more) = places_as_initializer a (places a) ++ places_initializers more

  pub places_optional : Trees.OptionalExpression → List ℕ
  places_optional Trees.no_expression = []
  places_optional (Trees.some_expression a) = places a

  pub places_type_name : Trees.TypeName → List ℕ
  places_type_name (Trees.type_name specs d) = places_specifiers specs ++ places_declarator d

  pub places_specifiers : Trees.Specifiers → List ℕ
  places_specifiers Trees.no_specifiers = []
  places_specifiers (Trees.and_specifier s more) = places_specifier s ++ places_specifiers more

  pub places_specifier : Trees.Specifier → List ℕ
  places_specifier (Trees.plain word at) = at ∷ []
  places_specifier (Trees.typename x) = x.from ∷ []
  places_specifier (Trees.struct_named at x) = at ∷ []
  places_specifier (Trees.struct_body at x left all right) = at ∷ places_member_declarations all
  places_specifier (Trees.enum_named at x) = at ∷ []
  places_specifier (Trees.enum_body at x left all comma right) = at ∷ places_enumerators all

  pub places_member_declarations : Trees.MemberDeclarations → List ℕ
  places_member_declarations Trees.no_member_declarations = []
  places_member_declarations (Trees.and_member_declaration specs all semicolon more) =
      first_specifiers specs ∷ (places_specifiers specs ++ places_member_declarators all ++ places_member_declarations more)

  pub places_member_declarators : Trees.MemberDeclarators → List ℕ
  places_member_declarators Trees.no_member_declarators = []
  places_member_declarators (Trees.and_member_declarator comma d more) = places_declarator d ++ places_member_declarators more

  pub places_enumerators : Trees.Enumerators → List ℕ
  places_enumerators Trees.no_enumerators = []
  places_enumerators (Trees.and_enumerator comma x value more) = x.from ∷ (places_enumerator_value value ++ places_enumerators more)

  pub places_enumerator_value : Trees.EnumeratorValue → List ℕ
  places_enumerator_value Trees.no_value = []
  places_enumerator_value (Trees.valued equal a) = places a

  pub places_declarator : Trees.Declarator → List ℕ
  places_declarator Trees.nothing = []
  places_declarator (Trees.named x) = x.from ∷ []
  places_declarator (Trees.pointer at consts d) = at ∷ places_declarator d
  places_declarator (Trees.enclosed left d right) = left ∷ places_declarator d
  places_declarator (Trees.array d left length right) = first_declarator d left ∷ (places_declarator d ++ places_optional length)
  places_declarator (Trees.function d left all right) = first_declarator d left ∷ (places_declarator d ++ places_parameter_list all)

  pub places_parameter_list : Trees.ParameterList → List ℕ
  places_parameter_list (Trees.void_alone at) = []
  places_parameter_list (Trees.listed all) = places_parameters all

  pub places_parameters : Trees.Parameters → List ℕ
  places_parameters Trees.no_parameters = []
  places_parameters (Trees.and_parameter comma specs d more) = places_specifiers specs ++ places_declarator d ++ places_parameters more

abbrev pub places_initializer : Trees.Expression → List ℕ
places_initializer a = places_as_initializer a (places a)

abbrev pub places_value : Option (ℕ × Trees.Expression) → List ℕ
places_value None = []
places_value (Some value) = places_initializer value.1

abbrev pub places_init_declarators : List Trees.InitDeclarator → List ℕ
places_init_declarators [] = []
places_init_declarators (d ∷ more) = places_declarator d.declarator ++ places_value d.value ++ places_init_declarators more

abbrev pub places_declaration : Trees.Declaration → List ℕ
places_declaration d = places_specifiers d.specs ++ places_init_declarators d.all

abbrev pub places_if_any : Option Trees.Expression → List ℕ
places_if_any None = []
places_if_any (Some a) = places a

abbrev pub places_labels : List Trees.Label → List ℕ
places_labels [] = []
places_labels (Trees.case at a colon ∷ more) = places a ++ places_labels more
places_labels (Trees.default at colon ∷ more) = places_labels more

abbrev pub places_for_start : Trees.ForStart → List ℕ
places_for_start (Trees.starts_with a semicolon) = places_if_any a
places_for_start (Trees.declares d) = places_declaration d

abbrev mutual
  pub places_statement : Trees.Statement → List ℕ
  places_statement (Trees.block left items right) = left ∷ places_block_items items
  places_statement (Trees.evaluate a semicolon) = first_if_any a semicolon ∷ places_if_any a
  places_statement (Trees.when at left a right one) = at ∷ (places a ++ places_statement one)
  places_statement (Trees.choose at left a right one else other) = at ∷ (places a ++ places_statement one ++ places_statement other)
  places_statement (Trees.while at left a right body) = at ∷ (places a ++ places_statement body)
  places_statement (Trees.do_while at body while left a right semicolon) = at ∷ (places_statement body ++ places a)
  places_statement (Trees.for at left start test semicolon step right body) =
      at ∷ (places_for_start start ++ places_if_any test ++ places_if_any step ++ places_statement body)
  places_statement (Trees.switch at left a right begin switch_items end) = at ∷ (places a ++ places_switch_items switch_items)
  places_statement (Trees.break at semicolon) = at ∷ []
  places_statement (Trees.continue at semicolon) = at ∷ []
  places_statement (Trees.return at a semicolon) = at ∷ places_if_any a

  pub places_block_item : Trees.BlockItem → List ℕ
  places_block_item (Trees.local d) = places_declaration d
  places_block_item (Trees.statement a) = places_statement a

  pub places_block_items : Trees.BlockItems → List ℕ
  places_block_items Trees.no_block_items = []
  places_block_items (Trees.and_block_item e more) = places_block_item e ++ places_block_items more

  pub places_switch_item : Trees.SwitchItem → List ℕ
  places_switch_item (Trees.local_switch_item d) = places_declaration d
  places_switch_item (Trees.labelled labels a) = places_labels labels ++ places_statement a

  pub places_switch_items : Trees.SwitchItems → List ℕ
  places_switch_items Trees.no_switch_items = []
  places_switch_items (Trees.and_switch_item switch_item more) = places_switch_item switch_item ++ places_switch_items more

abbrev pub places_item : Trees.Item → List ℕ
places_item (Trees.defines specs d left items right) =
    first_specifiers specs ∷ (places_specifiers specs ++ places_declarator d ++ (left ∷ places_block_items items))
places_item (Trees.declaration d) = first_declaration d ∷ places_declaration d

abbrev pub places_items : List Trees.Item → List ℕ
places_items [] = []
places_items (item ∷ items) = places_item item ++ places_items items
