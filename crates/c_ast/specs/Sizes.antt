-- The size of a tree: its depth, which is how many nodes, at most, stand one below another, and the number of its nodes.
-- A node is each item, specifier, member declaration, enumerator, declarator, initializer, statement and expression, and
-- nothing else: no type name, parameter, label or list, and no declaration in a function. The definition of a function is one
-- node and its body, a statement, another. An initializer that is an expression is a node above that expression; one in
-- braces is one node.
use Rattle.std.specs.Prelude.{ℕ, ◌+◌, ◌<◌, ◌^◌, max, List, [], ◌∷◌, Option, Some, None}
use Rattle.c_ast.specs.declared.size.Size.{Size}
use Rattle.c_ast.specs.Trees

abbrev pub empty : Size
empty = record { depth = 0; nodes = 0 }

-- of parts that stand beside one another
abbrev pub beside : Size → Size → Size
beside a b = record { depth = max a.depth b.depth; nodes = a.nodes + b.nodes }

-- of a node over its parts
abbrev pub over : Size → Size
over a = record { depth = a.depth + 1; nodes = a.nodes + 1 }

abbrev pub leaf : Size
leaf = over empty

-- can these numbers be kept in 32 and 64 bits?
abbrev pub IsCountable : Size → Type 0
IsCountable a = (a.depth < 2 ^ 32) × (a.nodes < 2 ^ 64)

-- an initializer that is an expression is a node over it, and braces are the initializer
abbrev pub as_initializer : Trees.Expression → Size → Size
as_initializer (Trees.braces left all comma right) own = own
as_initializer a own = over own

abbrev mutual
  pub size : Trees.Expression → Size
  size (Trees.name x) = leaf
  size (Trees.number x n kind) = leaf
  size (Trees.character x n) = leaf
  size (Trees.texts all) = leaf
  size (Trees.paren left a right) = over (size a)
  size (Trees.index a left b right) = over (beside (size a) (size b))
  size (Trees.call f left all right) = over (beside (size f) (size_arguments all))
  size (Trees.dot a at x) = over (size a)
  size (Trees.arrow a at x) = over (size a)
  size (Trees.post a op at) = over (size a)
  size (Trees.pre op at a) = over (size a)
  size (Trees.unary op at a) = over (size a)
  size (Trees.sizeof_expression at a) = over (size a)
  size (Trees.sizeof_type at left t right) = over (size_type_name t)
  size (Trees.cast left t right a) = over (beside (size_type_name t) (size a))
  size (Trees.binary a op at b) = over (beside (size a) (size b))
  size (Trees.cond a question b colon c) = over (beside (beside (size a) (size b)) (size c))
  size (Trees.assign a op at b) = over (beside (size a) (size b))
  size (Trees.comma a at b) = over (beside (size a) (size b))
  size (Trees.braces left all comma right) = over (size_initializers all)

  pub size_arguments : Trees.Arguments → Size
  size_arguments Trees.no_arguments = empty
  size_arguments (Trees.and_argument comma a more) = beside (size a) (size_arguments more)

  pub size_initializers : Trees.Arguments → Size
  size_initializers Trees.no_arguments = empty
  size_initializers (Trees.and_argument comma a more) = beside (as_initializer a (size a)) (size_initializers more)

  pub size_optional : Trees.OptionalExpression → Size
  size_optional Trees.no_expression = empty
  size_optional (Trees.some_expression a) = size a

  pub size_type_name : Trees.TypeName → Size
  size_type_name (Trees.type_name specs d) = beside (size_specifiers specs) (size_declarator d)

  pub size_specifiers : Trees.Specifiers → Size
  size_specifiers Trees.no_specifiers = empty
  size_specifiers (Trees.and_specifier s more) = beside (size_specifier s) (size_specifiers more)

  pub size_specifier : Trees.Specifier → Size
  size_specifier (Trees.plain word at) = leaf
  size_specifier (Trees.typename x) = leaf
  size_specifier (Trees.struct_named at x) = leaf
  size_specifier (Trees.struct_body at x left member_declarations right) = over (size_member_declarations member_declarations)
  size_specifier (Trees.enum_named at x) = leaf
  size_specifier (Trees.enum_body at x left all comma right) = over (size_enumerators all)

  pub size_member_declarations : Trees.MemberDeclarations → Size
  size_member_declarations Trees.no_member_declarations = empty
  size_member_declarations (Trees.and_member_declaration specs member_declarators semicolon more) =
      beside (over (beside (size_specifiers specs) (size_member_declarators member_declarators))) (size_member_declarations more)

  pub size_member_declarators : Trees.MemberDeclarators → Size
  size_member_declarators Trees.no_member_declarators = empty
  size_member_declarators (Trees.and_member_declarator comma d more) = beside (size_declarator d) (size_member_declarators more)

  pub size_enumerators : Trees.Enumerators → Size
  size_enumerators Trees.no_enumerators = empty
  size_enumerators (Trees.and_enumerator comma x value more) = beside (over (size_enumerator_value value)) (size_enumerators more)

  pub size_enumerator_value : Trees.EnumeratorValue → Size
  size_enumerator_value Trees.no_value = empty
  size_enumerator_value (Trees.valued equal a) = size a

  pub size_declarator : Trees.Declarator → Size
  size_declarator Trees.nothing = empty
  size_declarator (Trees.named x) = leaf
  size_declarator (Trees.pointer at consts d) = over (size_declarator d)
  size_declarator (Trees.enclosed left d right) = over (size_declarator d)
  size_declarator (Trees.array d left length right) = over (beside (size_declarator d) (size_optional length))
  size_declarator (Trees.function d left all right) = over (beside (size_declarator d) (size_parameter_list all))

  pub size_parameter_list : Trees.ParameterList → Size
  size_parameter_list (Trees.void_alone at) = empty
  size_parameter_list (Trees.listed all) = size_parameters all

  pub size_parameters : Trees.Parameters → Size
  size_parameters Trees.no_parameters = empty
  size_parameters (Trees.and_parameter comma specs d more) = beside (beside (size_specifiers specs) (size_declarator d)) (size_parameters more)

-- ---- declarations

abbrev pub size_initializer : Trees.Expression → Size
size_initializer a = as_initializer a (size a)

abbrev pub size_value : Option (ℕ × Trees.Expression) → Size
size_value None = empty
size_value (Some value) = size_initializer value.1

abbrev pub size_init_declarators : List Trees.InitDeclarator → Size
size_init_declarators [] = empty
size_init_declarators (d ∷ more) = beside (beside (size_declarator d.declarator) (size_value d.value)) (size_init_declarators more)

abbrev pub size_declaration : Trees.Declaration → Size
size_declaration d = beside (size_specifiers d.specs) (size_init_declarators d.all)

-- ---- statements

abbrev pub size_if_any : Option Trees.Expression → Size
size_if_any None = empty
size_if_any (Some a) = size a

abbrev pub size_labels : List Trees.Label → Size
size_labels [] = empty
size_labels (Trees.case at a colon ∷ more) = beside (size a) (size_labels more)
size_labels (Trees.default at colon ∷ more) = size_labels more

abbrev pub size_for_start : Trees.ForStart → Size
size_for_start (Trees.starts_with a semicolon) = size_if_any a
size_for_start (Trees.declares d) = size_declaration d

abbrev mutual
  pub size_statement : Trees.Statement → Size
  size_statement (Trees.block left items right) = over (size_block_items items)
  size_statement (Trees.evaluate a semicolon) = over (size_if_any a)
  size_statement (Trees.when at left a right one) = over (beside (size a) (size_statement one))
  size_statement (Trees.choose at left a right one else other) = over (beside (beside (size a) (size_statement one)) (size_statement other))
  size_statement (Trees.while at left a right body) = over (beside (size a) (size_statement body))
  size_statement (Trees.do_while at body while left a right semicolon) = over (beside (size_statement body) (size a))
  size_statement (Trees.for at left start test semicolon step right body) =
      over (beside (beside (beside (size_for_start start) (size_if_any test)) (size_if_any step)) (size_statement body))
  size_statement (Trees.switch at left a right begin switch_items end) = over (beside (size a) (size_switch_items switch_items))
  size_statement (Trees.break at semicolon) = leaf
  size_statement (Trees.continue at semicolon) = leaf
  size_statement (Trees.return at a semicolon) = over (size_if_any a)

  pub size_block_item : Trees.BlockItem → Size
  size_block_item (Trees.local d) = size_declaration d
  size_block_item (Trees.statement a) = size_statement a

  pub size_block_items : Trees.BlockItems → Size
  size_block_items Trees.no_block_items = empty
  size_block_items (Trees.and_block_item e more) = beside (size_block_item e) (size_block_items more)

  pub size_switch_item : Trees.SwitchItem → Size
  size_switch_item (Trees.local_switch_item d) = size_declaration d
  size_switch_item (Trees.labelled labels a) = beside (size_labels labels) (size_statement a)

  pub size_switch_items : Trees.SwitchItems → Size
  size_switch_items Trees.no_switch_items = empty
  size_switch_items (Trees.and_switch_item switch_item more) = beside (size_switch_item switch_item) (size_switch_items more)

-- ---- files

abbrev pub size_item : Trees.Item → Size
size_item (Trees.defines specs d left items right) = over (beside (beside (size_specifiers specs) (size_declarator d)) (over (size_block_items items)))
size_item (Trees.declaration d) = over (size_declaration d)

abbrev pub size_items : List Trees.Item → Size
size_items [] = empty
size_items (item ∷ items) = beside (size_item item) (size_items items)

-- ---- depths alone, which the grammar limits

abbrev pub depth : Trees.Expression → ℕ
depth x = (size x).depth

abbrev pub depth_arguments : Trees.Arguments → ℕ
depth_arguments x = (size_arguments x).depth

abbrev pub depth_initializers : Trees.Arguments → ℕ
depth_initializers x = (size_initializers x).depth

abbrev pub depth_optional : Trees.OptionalExpression → ℕ
depth_optional x = (size_optional x).depth

abbrev pub depth_type_name : Trees.TypeName → ℕ
depth_type_name x = (size_type_name x).depth

abbrev pub depth_specifiers : Trees.Specifiers → ℕ
depth_specifiers x = (size_specifiers x).depth

abbrev pub depth_specifier : Trees.Specifier → ℕ
depth_specifier x = (size_specifier x).depth

abbrev pub depth_member_declarations : Trees.MemberDeclarations → ℕ
depth_member_declarations x = (size_member_declarations x).depth

abbrev pub depth_member_declarators : Trees.MemberDeclarators → ℕ
depth_member_declarators x = (size_member_declarators x).depth

abbrev pub depth_enumerators : Trees.Enumerators → ℕ
depth_enumerators x = (size_enumerators x).depth

abbrev pub depth_enumerator_value : Trees.EnumeratorValue → ℕ
depth_enumerator_value x = (size_enumerator_value x).depth

abbrev pub depth_declarator : Trees.Declarator → ℕ
depth_declarator x = (size_declarator x).depth

abbrev pub depth_parameter_list : Trees.ParameterList → ℕ
depth_parameter_list x = (size_parameter_list x).depth

abbrev pub depth_parameters : Trees.Parameters → ℕ
depth_parameters x = (size_parameters x).depth

abbrev pub depth_initializer : Trees.Expression → ℕ
depth_initializer x = (size_initializer x).depth

abbrev pub depth_value : Option (ℕ × Trees.Expression) → ℕ
depth_value x = (size_value x).depth

abbrev pub depth_init_declarators : List Trees.InitDeclarator → ℕ
depth_init_declarators x = (size_init_declarators x).depth

abbrev pub depth_declaration : Trees.Declaration → ℕ
depth_declaration x = (size_declaration x).depth

abbrev pub depth_if_any : Option Trees.Expression → ℕ
depth_if_any x = (size_if_any x).depth

abbrev pub depth_labels : List Trees.Label → ℕ
depth_labels x = (size_labels x).depth

abbrev pub depth_for_start : Trees.ForStart → ℕ
depth_for_start x = (size_for_start x).depth

abbrev pub depth_statement : Trees.Statement → ℕ
depth_statement x = (size_statement x).depth

abbrev pub depth_block_item : Trees.BlockItem → ℕ
depth_block_item x = (size_block_item x).depth

abbrev pub depth_block_items : Trees.BlockItems → ℕ
depth_block_items x = (size_block_items x).depth

abbrev pub depth_switch_item : Trees.SwitchItem → ℕ
depth_switch_item x = (size_switch_item x).depth

abbrev pub depth_switch_items : Trees.SwitchItems → ℕ
depth_switch_items x = (size_switch_items x).depth

abbrev pub depth_item : Trees.Item → ℕ
depth_item x = (size_item x).depth

abbrev pub depth_items : List Trees.Item → ℕ
depth_items x = (size_items x).depth
