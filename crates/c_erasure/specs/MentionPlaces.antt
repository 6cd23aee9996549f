-- Where a file speaks of types outside of its expressions, in the order of the text: at the declarators of objects, functions, typedefs,
-- parameters and fields, at type names, and at each `sizeof`. The operand of a `sizeof` that is an expression is left out.
use Rattle.std.specs.Prelude.{ℕ, List, [], ◌∷◌, ◌++◌, Option, Some, None}
use Rattle.c_ast.specs.Trees
use Rattle.c_ast.specs.Places.{first_specifiers, first_declarator}

abbrev mutual
  pub spoken : Trees.Expression → List ℕ
  spoken (Trees.name x) = []
  spoken (Trees.number x n kind) = []
  spoken (Trees.character x n) = []
  spoken (Trees.texts all) = []
  spoken (Trees.paren left a right) = spoken a
  spoken (Trees.index a left b right) = spoken a ++ spoken b
  spoken (Trees.call f left all right) = spoken f ++ spoken_of_all all
  spoken (Trees.dot a at x) = spoken a
  spoken (Trees.arrow a at x) = spoken a
  spoken (Trees.post a op at) = spoken a
  spoken (Trees.pre op at a) = spoken a
  spoken (Trees.unary op at a) = spoken a
  spoken (Trees.sizeof_expression at a) = at ∷ []
  spoken (Trees.sizeof_type at left n right) = at ∷ spoken_of_type n
  spoken (Trees.cast left n right a) = spoken_of_type n ++ spoken a
  spoken (Trees.binary a op at b) = spoken a ++ spoken b
  spoken (Trees.cond a question b colon c) = spoken a ++ spoken b ++ spoken c
  spoken (Trees.assign a op at b) = spoken a ++ spoken b
  spoken (Trees.comma a at b) = spoken a ++ spoken b
  spoken (Trees.braces left all comma right) = spoken_of_all all

  pub spoken_of_all : Trees.Arguments → List ℕ
  spoken_of_all Trees.no_arguments = []
  spoken_of_all (Trees.and_argument comma a more) = spoken a ++ spoken_of_all more

  pub spoken_if_any : Trees.OptionalExpression → List ℕ
  spoken_if_any Trees.no_expression = []
  spoken_if_any (Trees.some_expression a) = spoken a

  -- the type itself, then what its declarator holds
  pub spoken_of_type : Trees.TypeName → List ℕ
  spoken_of_type (Trees.type_name specs d) = spoken_of_specifiers specs ++ first_declarator d (first_specifiers specs) ∷ spoken_of_declarator d

  pub spoken_of_specifiers : Trees.Specifiers → List ℕ
  spoken_of_specifiers Trees.no_specifiers = []
  spoken_of_specifiers (Trees.and_specifier s more) = spoken_of_specifier s ++ spoken_of_specifiers more

  pub spoken_of_specifier : Trees.Specifier → List ℕ
  spoken_of_specifier (Trees.plain word at) = []
  spoken_of_specifier (Trees.typename x) = []
  spoken_of_specifier (Trees.struct_named at x) = []
  spoken_of_specifier (Trees.struct_body at x left all right) = spoken_of_members all
  spoken_of_specifier (Trees.enum_named at x) = []
  spoken_of_specifier (Trees.enum_body at x left all comma right) = spoken_of_enumerators all

  pub spoken_of_members : Trees.MemberDeclarations → List ℕ
  spoken_of_members Trees.no_member_declarations = []
  spoken_of_members (Trees.and_member_declaration specs ds semicolon more) =
      spoken_of_specifiers specs ++ spoken_of_fields ds semicolon ++ spoken_of_members more

  pub spoken_of_fields : Trees.MemberDeclarators → ℕ → List ℕ
  spoken_of_fields Trees.no_member_declarators semicolon = []
  spoken_of_fields (Trees.and_member_declarator comma d more) semicolon =
      first_declarator d semicolon ∷ spoken_of_declarator d ++ spoken_of_fields more semicolon

  pub spoken_of_enumerators : Trees.Enumerators → List ℕ
  spoken_of_enumerators Trees.no_enumerators = []
  spoken_of_enumerators (Trees.and_enumerator comma x value more) = spoken_of_value value ++ spoken_of_enumerators more

  pub spoken_of_value : Trees.EnumeratorValue → List ℕ
  spoken_of_value Trees.no_value = []
  spoken_of_value (Trees.valued equal a) = spoken a

  -- lengths and parameters
  pub spoken_of_declarator : Trees.Declarator → List ℕ
  spoken_of_declarator Trees.nothing = []
  spoken_of_declarator (Trees.named x) = []
  spoken_of_declarator (Trees.pointer at consts d) = spoken_of_declarator d
  spoken_of_declarator (Trees.enclosed left d right) = spoken_of_declarator d
  spoken_of_declarator (Trees.array d left length right) = spoken_of_declarator d ++ spoken_if_any length
  spoken_of_declarator (Trees.function d left all right) = spoken_of_declarator d ++ spoken_of_list all

  pub spoken_of_list : Trees.ParameterList → List ℕ
  spoken_of_list (Trees.void_alone at) = []
  spoken_of_list (Trees.listed all) = spoken_of_parameters all

  pub spoken_of_parameters : Trees.Parameters → List ℕ
  spoken_of_parameters Trees.no_parameters = []
  spoken_of_parameters (Trees.and_parameter comma specs d more) =
      spoken_of_specifiers specs ++ first_declarator d (first_specifiers specs) ∷ spoken_of_declarator d ++ spoken_of_parameters more

-- ---- declarations

abbrev pub spoken_by_value : Option (ℕ × Trees.Expression) → List ℕ
spoken_by_value None = []
spoken_by_value (Some value) = spoken value.1

abbrev pub spoken_of_declarators : List Trees.InitDeclarator → ℕ → List ℕ
spoken_of_declarators [] semicolon = []
spoken_of_declarators (d ∷ more) semicolon =
    first_declarator d.declarator semicolon ∷ spoken_of_declarator d.declarator ++ spoken_by_value d.value ++ spoken_of_declarators more semicolon

abbrev pub spoken_of_declaration : Trees.Declaration → List ℕ
spoken_of_declaration d = spoken_of_specifiers d.specs ++ spoken_of_declarators d.all d.semicolon

-- ---- statements

abbrev pub spoken_if_some : Option Trees.Expression → List ℕ
spoken_if_some None = []
spoken_if_some (Some a) = spoken a

abbrev pub spoken_of_start : Trees.ForStart → List ℕ
spoken_of_start (Trees.starts_with a semicolon) = spoken_if_some a
spoken_of_start (Trees.declares d) = spoken_of_declaration d

abbrev pub spoken_of_labels : List Trees.Label → List ℕ
spoken_of_labels [] = []
spoken_of_labels (Trees.case at a colon ∷ more) = spoken a ++ spoken_of_labels more
spoken_of_labels (Trees.default at colon ∷ more) = spoken_of_labels more

abbrev mutual
  pub spoken_by : Trees.Statement → List ℕ
  spoken_by (Trees.block left items right) = spoken_by_items items
  spoken_by (Trees.evaluate a semicolon) = spoken_if_some a
  spoken_by (Trees.when at left a right one) = spoken a ++ spoken_by one
  spoken_by (Trees.choose at left a right one else other) = spoken a ++ spoken_by one ++ spoken_by other
  spoken_by (Trees.while at left a right body) = spoken a ++ spoken_by body
  spoken_by (Trees.do_while at body while left a right semicolon) = spoken_by body ++ spoken a
  spoken_by (Trees.for at left start test semicolon step right body) = spoken_of_start start ++ spoken_if_some test ++ spoken_if_some step ++ spoken_by body
  spoken_by (Trees.switch at left a right begin items end) = spoken a ++ spoken_by_switch_items items
  spoken_by (Trees.break at semicolon) = []
  spoken_by (Trees.continue at semicolon) = []
  spoken_by (Trees.return at a semicolon) = spoken_if_some a

  pub spoken_by_item : Trees.BlockItem → List ℕ
  spoken_by_item (Trees.local d) = spoken_of_declaration d
  spoken_by_item (Trees.statement a) = spoken_by a

  pub spoken_by_items : Trees.BlockItems → List ℕ
  spoken_by_items Trees.no_block_items = []
  spoken_by_items (Trees.and_block_item e more) = spoken_by_item e ++ spoken_by_items more

  pub spoken_by_switch_item : Trees.SwitchItem → List ℕ
  spoken_by_switch_item (Trees.local_switch_item d) = spoken_of_declaration d
  spoken_by_switch_item (Trees.labelled labels a) = spoken_of_labels labels ++ spoken_by a

  pub spoken_by_switch_items : Trees.SwitchItems → List ℕ
  spoken_by_switch_items Trees.no_switch_items = []
  spoken_by_switch_items (Trees.and_switch_item item more) = spoken_by_switch_item item ++ spoken_by_switch_items more

-- ---- items of a file

abbrev pub mentions_of_item : Trees.Item → List ℕ
mentions_of_item (Trees.defines specs d left items right) =
    spoken_of_specifiers specs ++ first_declarator d left ∷ spoken_of_declarator d ++ spoken_by_items items
mentions_of_item (Trees.declaration d) = spoken_of_declaration d

abbrev pub mentions_of_file : List Trees.Item → List ℕ
mentions_of_file [] = []
mentions_of_file (item ∷ more) = mentions_of_item item ++ mentions_of_file more
