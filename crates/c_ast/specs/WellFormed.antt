-- Well formed trees: what the grammar says beside the spelling of each alternative (C99 6.5 to 6.9). `types` are the
-- names that earlier typedefs of the file declared.
use Rattle.std.specs.Prelude.{◌≡◌, ◌≢◌, ℕ, ◌≤◌, ◌<◌, Bool, true, false, List, [], ◌∷◌, ◌++◌, Option, Some, None}
use Rattle.std.specs.List.{list_any}
use Rattle.std.specs.Str.{bytes_eq}
use Rattle.c_ast.specs.declared.operators.BinaryOp.{BinaryOp}
use Rattle.c_ast.specs.declared.operators.BinaryOp.TheVariants as B
use Rattle.c_ast.specs.declared.operators.SpecifierKeyword.TheVariants as S
use Rattle.c_ast.specs.Trees

-- ---- levels of expressions, from loosest: 0 comma, 1 assignment, 2 ?:, 3 to 12 binary operators, 13 cast, 14 unary,
-- 15 postfix, 16 primary

abbrev pub strength : BinaryOp → ℕ
strength B.Or = 3
strength B.And = 4
strength B.BitOr = 5
strength B.BitXor = 6
strength B.BitAnd = 7
strength B.Equal = 8
strength B.NotEqual = 8
strength B.Less = 9
strength B.Greater = 9
strength B.LessEqual = 9
strength B.GreaterEqual = 9
strength B.ShiftLeft = 10
strength B.ShiftRight = 10
strength B.Add = 11
strength B.Subtract = 11
strength B.Multiply = 12
strength B.Divide = 12
strength B.Remainder = 12

abbrev pub level : Trees.Expression → ℕ
level (Trees.name x) = 16
level (Trees.number x n kind) = 16
level (Trees.character x n) = 16
level (Trees.texts all) = 16
level (Trees.paren left a right) = 16
level (Trees.index a left b right) = 15
level (Trees.call f left all right) = 15
level (Trees.dot a at x) = 15
level (Trees.arrow a at x) = 15
level (Trees.post a op at) = 15
level (Trees.pre op at a) = 14
level (Trees.unary op at a) = 14
level (Trees.sizeof_expression at a) = 14
level (Trees.sizeof_type at left t right) = 14
level (Trees.cast left t right a) = 13
level (Trees.binary a op at b) = strength op
level (Trees.cond a question b colon c) = 2
level (Trees.assign a op at b) = 1
level (Trees.comma a at b) = 0
level (Trees.braces left all comma right) = 0

-- ---- declarators

-- arrays and functions are of what is no pointer, but in parentheses
abbrev pub is_direct : Trees.Declarator → Bool
is_direct (Trees.pointer at consts d) = false
is_direct _ = true

abbrev pub has_name : Trees.Declarator → Bool
has_name Trees.nothing = false
has_name (Trees.named x) = true
has_name (Trees.pointer at consts d) = has_name d
has_name (Trees.enclosed left d right) = has_name d
has_name (Trees.array d left length right) = has_name d
has_name (Trees.function d left all right) = has_name d

-- parameters that are one `void` and nothing else: they stand for none, and are not listed
abbrev pub is_lone_void : Trees.Parameters → Bool
is_lone_void (Trees.and_parameter comma (Trees.and_specifier (Trees.plain S.Void at) Trees.no_specifiers) Trees.nothing Trees.no_parameters) = true
is_lone_void _ = false

-- ---- names

abbrev pub is_typename : List (List ℕ) → List ℕ → Bool
is_typename types x = list_any (bytes_eq x) types

-- a comma stands before each of a list but the first
abbrev pub IsComma : Bool → Option ℕ → Type 0
IsComma first None = first ≡ true
IsComma first (Some at) = first ≡ false

abbrev mutual
  -- an expression
  pub IsExpression : List (List ℕ) → Trees.Expression → Type 0
  IsExpression types (Trees.name x) = is_typename types x.text ≡ false
  IsExpression types (Trees.number x n kind) = Unit {0}
  IsExpression types (Trees.character x n) = Unit {0}
  IsExpression types (Trees.texts all) = all ≢ []
  IsExpression types (Trees.paren left a right) = IsExpression types a
  IsExpression types (Trees.index a left b right) = (15 ≤ level a) × IsExpression types a × IsExpression types b
  IsExpression types (Trees.call f left all right) = (15 ≤ level f) × IsExpression types f × AreArguments types true all
  IsExpression types (Trees.dot a at x) = (15 ≤ level a) × IsExpression types a
  IsExpression types (Trees.arrow a at x) = (15 ≤ level a) × IsExpression types a
  IsExpression types (Trees.post a op at) = (15 ≤ level a) × IsExpression types a
  IsExpression types (Trees.pre op at a) = (14 ≤ level a) × IsExpression types a
  IsExpression types (Trees.unary op at a) = (13 ≤ level a) × IsExpression types a
  IsExpression types (Trees.sizeof_expression at a) = (14 ≤ level a) × IsExpression types a
  IsExpression types (Trees.sizeof_type at left t right) = IsTypeName types t
  IsExpression types (Trees.cast left t right a) = (13 ≤ level a) × IsTypeName types t × IsExpression types a
  IsExpression types (Trees.binary a op at b) = (strength op ≤ level a) × (strength op < level b) × IsExpression types a × IsExpression types b
  IsExpression types (Trees.cond a question b colon c) = (3 ≤ level a) × (2 ≤ level c) × IsExpression types a × IsExpression types b × IsExpression types c
  IsExpression types (Trees.assign a op at b) = (14 ≤ level a) × (1 ≤ level b) × IsExpression types a × IsExpression types b
  IsExpression types (Trees.comma a at b) = (1 ≤ level b) × IsExpression types a × IsExpression types b
  IsExpression types (Trees.braces left all comma right) = ⊥

  -- the arguments of a call: each is an assignment expression
  pub AreArguments : List (List ℕ) → Bool → Trees.Arguments → Type 0
  AreArguments types first Trees.no_arguments = Unit {0}
  AreArguments types first (Trees.and_argument comma a more) = IsComma first comma × (1 ≤ level a) × IsExpression types a × AreArguments types false more

  -- a conditional expression, or none
  pub IsOptional : List (List ℕ) → Trees.OptionalExpression → Type 0
  IsOptional types Trees.no_expression = Unit {0}
  IsOptional types (Trees.some_expression a) = (2 ≤ level a) × IsExpression types a

  -- a type name, whose declarator has no name
  pub IsTypeName : List (List ℕ) → Trees.TypeName → Type 0
  IsTypeName types (Trees.type_name specs d) = AreSpecifiers types specs × IsDeclarator types d × (has_name d ≡ false)

  -- one specifier or more
  pub AreSpecifiers : List (List ℕ) → Trees.Specifiers → Type 0
  AreSpecifiers types Trees.no_specifiers = ⊥
  AreSpecifiers types (Trees.and_specifier s more) = IsSpecifier types s × AreMoreSpecifiers types more

  pub AreMoreSpecifiers : List (List ℕ) → Trees.Specifiers → Type 0
  AreMoreSpecifiers types Trees.no_specifiers = Unit {0}
  AreMoreSpecifiers types (Trees.and_specifier s more) = IsSpecifier types s × AreMoreSpecifiers types more

  -- a specifier; the name after `struct` or `enum` may be any
  pub IsSpecifier : List (List ℕ) → Trees.Specifier → Type 0
  IsSpecifier types (Trees.plain word at) = Unit {0}
  IsSpecifier types (Trees.typename x) = is_typename types x.text ≡ true
  IsSpecifier types (Trees.struct_named at x) = Unit {0}
  IsSpecifier types (Trees.struct_body at x left member_declarations right) =
      (member_declarations ≢ Trees.no_member_declarations) × AreMemberDeclarations types member_declarations
  IsSpecifier types (Trees.enum_named at x) = Unit {0}
  IsSpecifier types (Trees.enum_body at x left all comma right) = (all ≢ Trees.no_enumerators) × AreEnumerators types true all

  pub AreMemberDeclarations : List (List ℕ) → Trees.MemberDeclarations → Type 0
  AreMemberDeclarations types Trees.no_member_declarations = Unit {0}
  AreMemberDeclarations types (Trees.and_member_declaration specs member_declarators semicolon more) =
      AreSpecifiers types specs × (member_declarators ≢ Trees.no_member_declarators) × AreMemberDeclarators types true member_declarators
      × AreMemberDeclarations types more

  pub AreMemberDeclarators : List (List ℕ) → Bool → Trees.MemberDeclarators → Type 0
  AreMemberDeclarators types first Trees.no_member_declarators = Unit {0}
  AreMemberDeclarators types first (Trees.and_member_declarator comma d more) =
      IsComma first comma × IsDeclarator types d × (has_name d ≡ true) × AreMemberDeclarators types false more

  pub AreEnumerators : List (List ℕ) → Bool → Trees.Enumerators → Type 0
  AreEnumerators types first Trees.no_enumerators = Unit {0}
  AreEnumerators types first (Trees.and_enumerator comma x value more) =
      IsComma first comma × (is_typename types x.text ≡ false) × IsEnumeratorValue types value × AreEnumerators types false more

  pub IsEnumeratorValue : List (List ℕ) → Trees.EnumeratorValue → Type 0
  IsEnumeratorValue types Trees.no_value = Unit {0}
  IsEnumeratorValue types (Trees.valued equal a) = (2 ≤ level a) × IsExpression types a

  -- a declarator, with or without its name
  pub IsDeclarator : List (List ℕ) → Trees.Declarator → Type 0
  IsDeclarator types Trees.nothing = Unit {0}
  IsDeclarator types (Trees.named x) = is_typename types x.text ≡ false
  IsDeclarator types (Trees.pointer at consts d) = IsDeclarator types d
  IsDeclarator types (Trees.enclosed left d right) = (d ≢ Trees.nothing) × IsDeclarator types d
  IsDeclarator types (Trees.array d left length right) = (is_direct d ≡ true) × IsDeclarator types d × IsOptional types length
  IsDeclarator types (Trees.function d left all right) = (is_direct d ≡ true) × IsDeclarator types d × IsParameterList types all

  pub IsParameterList : List (List ℕ) → Trees.ParameterList → Type 0
  IsParameterList types (Trees.void_alone at) = Unit {0}
  IsParameterList types (Trees.listed all) = (is_lone_void all ≡ false) × AreParameters types true all

  pub AreParameters : List (List ℕ) → Bool → Trees.Parameters → Type 0
  AreParameters types first Trees.no_parameters = Unit {0}
  AreParameters types first (Trees.and_parameter comma specs d more) =
      IsComma first comma × AreSpecifiers types specs × IsDeclarator types d × AreParameters types false more

-- ---- declarations

-- an initializer: an assignment expression, or initializers in braces, of which there is at least one
abbrev mutual
  pub IsInitializer : List (List ℕ) → Trees.Expression → Type 0
  IsInitializer types (Trees.braces left all comma right) = (all ≢ Trees.no_arguments) × AreInitializers types true all
  IsInitializer types a = (1 ≤ level a) × IsExpression types a

  pub AreInitializers : List (List ℕ) → Bool → Trees.Arguments → Type 0
  AreInitializers types first Trees.no_arguments = Unit {0}
  AreInitializers types first (Trees.and_argument comma a more) = IsComma first comma × IsInitializer types a × AreInitializers types false more

abbrev pub IsValue : List (List ℕ) → Option (ℕ × Trees.Expression) → Type 0
IsValue types None = Unit {0}
IsValue types (Some value) = IsInitializer types value.1

abbrev pub AreInitDeclarators : List (List ℕ) → Bool → List Trees.InitDeclarator → Type 0
AreInitDeclarators types first [] = Unit {0}
AreInitDeclarators types first (d ∷ more) = IsComma first d.comma × IsDeclarator types d.declarator × (has_name d.declarator ≡ true)
    × IsValue types d.value × AreInitDeclarators types false more

abbrev pub IsDeclaration : List (List ℕ) → Trees.Declaration → Type 0
IsDeclaration types d = AreSpecifiers types d.specs × AreInitDeclarators types true d.all

-- ---- statements

abbrev pub IsExpressionIfAny : List (List ℕ) → Option Trees.Expression → Type 0
IsExpressionIfAny types None = Unit {0}
IsExpressionIfAny types (Some a) = IsExpression types a

abbrev pub AreLabels : List (List ℕ) → List Trees.Label → Type 0
AreLabels types [] = Unit {0}
AreLabels types (Trees.case at a colon ∷ more) = (2 ≤ level a) × IsExpression types a × AreLabels types more
AreLabels types (Trees.default at colon ∷ more) = AreLabels types more

-- a declaration in a for or a switch has a declarator
abbrev pub IsFullDeclaration : List (List ℕ) → Trees.Declaration → Type 0
IsFullDeclaration types d = (d.all ≢ []) × IsDeclaration types d

abbrev pub IsForStart : List (List ℕ) → Trees.ForStart → Type 0
IsForStart types (Trees.starts_with a semicolon) = IsExpressionIfAny types a
IsForStart types (Trees.declares d) = IsFullDeclaration types d

-- may an else after it be its own?
abbrev pub is_open : Trees.Statement → Bool
is_open (Trees.when at left a right one) = true
is_open (Trees.choose at left a right one else other) = is_open other
is_open (Trees.while at left a right body) = is_open body
is_open (Trees.for at left start test semicolon step right body) = is_open body
is_open _ = false

abbrev mutual
  pub IsStatement : List (List ℕ) → Trees.Statement → Type 0
  IsStatement types (Trees.block left items right) = AreBlockItems types items
  IsStatement types (Trees.evaluate a semicolon) = IsExpressionIfAny types a
  IsStatement types (Trees.when at left a right one) = IsExpression types a × IsStatement types one
  -- an else stands with the nearest if
  IsStatement types (Trees.choose at left a right one else other) =
      (is_open one ≡ false) × IsExpression types a × IsStatement types one × IsStatement types other
  IsStatement types (Trees.while at left a right body) = IsExpression types a × IsStatement types body
  IsStatement types (Trees.do_while at body while left a right semicolon) = IsStatement types body × IsExpression types a
  IsStatement types (Trees.for at left start test semicolon step right body) =
      IsForStart types start × IsExpressionIfAny types test × IsExpressionIfAny types step × IsStatement types body
  IsStatement types (Trees.switch at left a right begin switch_items end) = IsExpression types a × AreSwitchItems types switch_items
  IsStatement types (Trees.break at semicolon) = Unit {0}
  IsStatement types (Trees.continue at semicolon) = Unit {0}
  IsStatement types (Trees.return at a semicolon) = IsExpressionIfAny types a

  pub IsBlockItem : List (List ℕ) → Trees.BlockItem → Type 0
  IsBlockItem types (Trees.local d) = IsDeclaration types d
  IsBlockItem types (Trees.statement a) = IsStatement types a

  pub AreBlockItems : List (List ℕ) → Trees.BlockItems → Type 0
  AreBlockItems types Trees.no_block_items = Unit {0}
  AreBlockItems types (Trees.and_block_item e more) = IsBlockItem types e × AreBlockItems types more

  pub IsSwitchItem : List (List ℕ) → Trees.SwitchItem → Type 0
  IsSwitchItem types (Trees.local_switch_item d) = IsFullDeclaration types d
  IsSwitchItem types (Trees.labelled labels a) = AreLabels types labels × IsStatement types a

  pub AreSwitchItems : List (List ℕ) → Trees.SwitchItems → Type 0
  AreSwitchItems types Trees.no_switch_items = Unit {0}
  AreSwitchItems types (Trees.and_switch_item switch_item more) = IsSwitchItem types switch_item × AreSwitchItems types more

-- ---- files

-- does `typedef` stand among the specifiers?
abbrev pub has_typedef : Trees.Specifiers → Bool
has_typedef Trees.no_specifiers = false
has_typedef (Trees.and_specifier (Trees.plain S.Typedef at) more) = true
has_typedef (Trees.and_specifier s more) = has_typedef more

-- the name of a declarator, if it has one
abbrev pub declared_name : Trees.Declarator → List (List ℕ)
declared_name Trees.nothing = []
declared_name (Trees.named x) = x.text ∷ []
declared_name (Trees.pointer at consts d) = declared_name d
declared_name (Trees.enclosed left d right) = declared_name d
declared_name (Trees.array d left length right) = declared_name d
declared_name (Trees.function d left all right) = declared_name d

abbrev pub declared_names : List Trees.InitDeclarator → List (List ℕ)
declared_names [] = []
declared_names (d ∷ more) = declared_name d.declarator ++ declared_names more

-- the typenames after an item: a typedef declares the names of its declarators
abbrev pub types_after : List (List ℕ) → Trees.Item → List (List ℕ)
types_after types (Trees.defines specs d left items right) = types
types_after types (Trees.declaration d) = after (has_typedef d.specs)
  where
    after : Bool → List (List ℕ)
    after true = types ++ declared_names d.all
    after false = types

abbrev pub IsItem : List (List ℕ) → Trees.Item → Type 0
IsItem types (Trees.defines specs d left items right) = AreSpecifiers types specs × IsDeclarator types d × (has_name d ≡ true) × AreBlockItems types items
IsItem types (Trees.declaration d) = IsDeclaration types d

abbrev pub AreItems : List (List ℕ) → List Trees.Item → Type 0
AreItems types [] = Unit {0}
AreItems types (item ∷ items) = IsItem types item × AreItems (types_after types item) items
