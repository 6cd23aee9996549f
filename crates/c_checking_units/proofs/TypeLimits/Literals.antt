-- The string literals of a tree, adjacent ones together, are no longer than an array may be (C99 6.4.5).
use Rattle.std.specs.Prelude.{ℕ, ◌≤◌, List, [], ◌∷◌, length, Option, Some, None}
use Rattle.c_ast.specs.declared.words.Spelling.{Spelling}
use Rattle.c_ast.specs.Trees
use Rattle.c_erasure.specs.Erasure.{literal_of}

abbrev pub IsShort : List Spelling → Type 0
IsShort all = length (literal_of all) ≤ 16777216

abbrev mutual
  pub Short : Trees.Expression → Type 0
  Short (Trees.name x) = Unit {0}
  Short (Trees.number x n kind) = Unit {0}
  Short (Trees.character x n) = Unit {0}
  Short (Trees.texts all) = IsShort all
  Short (Trees.paren left a right) = Short a
  Short (Trees.index a left b right) = Short a × Short b
  Short (Trees.call f left all right) = Short f × ShortArguments all
  Short (Trees.dot a at x) = Short a
  Short (Trees.arrow a at x) = Short a
  Short (Trees.post a op at) = Short a
  Short (Trees.pre op at a) = Short a
  Short (Trees.unary op at a) = Short a
  Short (Trees.sizeof_expression at a) = Short a
  Short (Trees.sizeof_type at left n right) = ShortTypeName n
  Short (Trees.cast left n right a) = ShortTypeName n × Short a
  Short (Trees.binary a op at b) = Short a × Short b
  Short (Trees.cond a question b colon c) = Short a × Short b × Short c
  Short (Trees.assign a op at b) = Short a × Short b
  Short (Trees.comma a at b) = Short a × Short b
  Short (Trees.braces left all comma right) = ShortArguments all

  pub ShortArguments : Trees.Arguments → Type 0
  ShortArguments Trees.no_arguments = Unit {0}
  ShortArguments (Trees.and_argument comma a more) = Short a × ShortArguments more

  pub ShortOptional : Trees.OptionalExpression → Type 0
  ShortOptional Trees.no_expression = Unit {0}
  ShortOptional (Trees.some_expression a) = Short a

  pub ShortTypeName : Trees.TypeName → Type 0
  ShortTypeName (Trees.type_name specs d) = ShortSpecifiers specs × ShortDeclarator d

  pub ShortSpecifiers : Trees.Specifiers → Type 0
  ShortSpecifiers Trees.no_specifiers = Unit {0}
  ShortSpecifiers (Trees.and_specifier x more) = ShortSpecifier x × ShortSpecifiers more

  pub ShortSpecifier : Trees.Specifier → Type 0
  ShortSpecifier (Trees.plain word at) = Unit {0}
  ShortSpecifier (Trees.typename x) = Unit {0}
  ShortSpecifier (Trees.struct_named at x) = Unit {0}
  ShortSpecifier (Trees.struct_body at x left all right) = ShortMembers all
  ShortSpecifier (Trees.enum_named at x) = Unit {0}
  ShortSpecifier (Trees.enum_body at x left all comma right) = ShortEnumerators all

  pub ShortMembers : Trees.MemberDeclarations → Type 0
  ShortMembers Trees.no_member_declarations = Unit {0}
  ShortMembers (Trees.and_member_declaration specs ds semicolon more) = ShortSpecifiers specs × ShortMemberDeclarators ds × ShortMembers more

  pub ShortMemberDeclarators : Trees.MemberDeclarators → Type 0
  ShortMemberDeclarators Trees.no_member_declarators = Unit {0}
  ShortMemberDeclarators (Trees.and_member_declarator comma d more) = ShortDeclarator d × ShortMemberDeclarators more

  pub ShortEnumerators : Trees.Enumerators → Type 0
  ShortEnumerators Trees.no_enumerators = Unit {0}
  ShortEnumerators (Trees.and_enumerator comma x value more) = ShortValue value × ShortEnumerators more

  pub ShortValue : Trees.EnumeratorValue → Type 0
  ShortValue Trees.no_value = Unit {0}
  ShortValue (Trees.valued equal a) = Short a

  pub ShortDeclarator : Trees.Declarator → Type 0
  ShortDeclarator Trees.nothing = Unit {0}
  ShortDeclarator (Trees.named x) = Unit {0}
  ShortDeclarator (Trees.pointer at consts d) = ShortDeclarator d
  ShortDeclarator (Trees.enclosed left d right) = ShortDeclarator d
  ShortDeclarator (Trees.array d left number right) = ShortDeclarator d × ShortOptional number
  ShortDeclarator (Trees.function d left all right) = ShortDeclarator d × ShortParameterList all

  pub ShortParameterList : Trees.ParameterList → Type 0
  ShortParameterList (Trees.void_alone at) = Unit {0}
  ShortParameterList (Trees.listed all) = ShortParameters all

  pub ShortParameters : Trees.Parameters → Type 0
  ShortParameters Trees.no_parameters = Unit {0}
  ShortParameters (Trees.and_parameter comma specs d more) = ShortSpecifiers specs × ShortDeclarator d × ShortParameters more

-- ---- declarations and statements

abbrev pub ShortIfAny : Option Trees.Expression → Type 0
ShortIfAny None = Unit {0}
ShortIfAny (Some a) = Short a

abbrev pub ShortInitial : Option (ℕ × Trees.Expression) → Type 0
ShortInitial None = Unit {0}
ShortInitial (Some value) = Short value.1

abbrev pub ShortInitDeclarators : List Trees.InitDeclarator → Type 0
ShortInitDeclarators [] = Unit {0}
ShortInitDeclarators (d ∷ more) = ShortDeclarator d.declarator × ShortInitial d.value × ShortInitDeclarators more

abbrev pub ShortDeclaration : Trees.Declaration → Type 0
ShortDeclaration d = ShortSpecifiers d.specs × ShortInitDeclarators d.all

abbrev pub ShortLabels : List Trees.Label → Type 0
ShortLabels [] = Unit {0}
ShortLabels (Trees.case at a colon ∷ more) = Short a × ShortLabels more
ShortLabels (Trees.default at colon ∷ more) = ShortLabels more

abbrev pub ShortStart : Trees.ForStart → Type 0
ShortStart (Trees.starts_with a semicolon) = ShortIfAny a
ShortStart (Trees.declares d) = ShortDeclaration d

abbrev mutual
  pub ShortStatement : Trees.Statement → Type 0
  ShortStatement (Trees.block left items right) = ShortBlockItems items
  ShortStatement (Trees.evaluate a semicolon) = ShortIfAny a
  ShortStatement (Trees.when at left a right one) = Short a × ShortStatement one
  ShortStatement (Trees.choose at left a right one else other) = Short a × ShortStatement one × ShortStatement other
  ShortStatement (Trees.while at left a right body) = Short a × ShortStatement body
  ShortStatement (Trees.do_while at body while left a right semicolon) = ShortStatement body × Short a
  ShortStatement (Trees.for at left start test semicolon step right body) = ShortStart start × ShortIfAny test × ShortIfAny step × ShortStatement body
  ShortStatement (Trees.switch at left a right begin items end) = Short a × ShortSwitchItems items
  ShortStatement (Trees.break at semicolon) = Unit {0}
  ShortStatement (Trees.continue at semicolon) = Unit {0}
  ShortStatement (Trees.return at a semicolon) = ShortIfAny a

  pub ShortBlockItem : Trees.BlockItem → Type 0
  ShortBlockItem (Trees.local d) = ShortDeclaration d
  ShortBlockItem (Trees.statement a) = ShortStatement a

  pub ShortBlockItems : Trees.BlockItems → Type 0
  ShortBlockItems Trees.no_block_items = Unit {0}
  ShortBlockItems (Trees.and_block_item e more) = ShortBlockItem e × ShortBlockItems more

  pub ShortSwitchItem : Trees.SwitchItem → Type 0
  ShortSwitchItem (Trees.local_switch_item d) = ShortDeclaration d
  ShortSwitchItem (Trees.labelled labels a) = ShortLabels labels × ShortStatement a

  pub ShortSwitchItems : Trees.SwitchItems → Type 0
  ShortSwitchItems Trees.no_switch_items = Unit {0}
  ShortSwitchItems (Trees.and_switch_item item more) = ShortSwitchItem item × ShortSwitchItems more

abbrev pub ShortItem : Trees.Item → Type 0
ShortItem (Trees.defines specs d left items right) = ShortSpecifiers specs × ShortDeclarator d × ShortBlockItems items
ShortItem (Trees.declaration d) = ShortDeclaration d

abbrev pub ShortItems : List Trees.Item → Type 0
ShortItems [] = Unit {0}
ShortItems (item ∷ more) = ShortItem item × ShortItems more
