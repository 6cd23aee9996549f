-- The numbers of a tree are values of their types: those of number literals of the literal's type, those of characters of int (C99 6.4.4). And each
-- structure that it defines has a member (6.7.2.1).
use Rattle.std.specs.Prelude.{◌≡◌}
use Rattle.c_types.specs.declared.ty.IntKind.TheVariants.{Int}
use Rattle.c_typed.specs.Conversions.{as_kind}
use Rattle.c_ast.specs.Trees

-- its first declaration has a declarator
abbrev pub HasMember : Trees.MemberDeclarations → Type 0
HasMember (Trees.and_member_declaration specs (Trees.and_member_declarator comma d others) semicolon more) = Unit {0}
HasMember all = ⊥

abbrev mutual
  pub IsInRange : Trees.Expression → Type 0
  IsInRange (Trees.name x) = Unit {0}
  IsInRange (Trees.number x n kind) = as_kind kind n ≡ n
  IsInRange (Trees.character x n) = as_kind Int n ≡ n
  IsInRange (Trees.texts all) = Unit {0}
  IsInRange (Trees.paren left a right) = IsInRange a
  IsInRange (Trees.index a left b right) = IsInRange a × IsInRange b
  IsInRange (Trees.call f left all right) = IsInRange f × AreInRange all
  IsInRange (Trees.dot a at x) = IsInRange a
  IsInRange (Trees.arrow a at x) = IsInRange a
  IsInRange (Trees.post a op at) = IsInRange a
  IsInRange (Trees.pre op at a) = IsInRange a
  IsInRange (Trees.unary op at a) = IsInRange a
  IsInRange (Trees.sizeof_expression at a) = IsInRange a
  IsInRange (Trees.sizeof_type at left n right) = IsTypeInRange n
  IsInRange (Trees.cast left n right a) = IsTypeInRange n × IsInRange a
  IsInRange (Trees.binary a op at b) = IsInRange a × IsInRange b
  IsInRange (Trees.cond a question b colon c) = IsInRange a × IsInRange b × IsInRange c
  IsInRange (Trees.assign a op at b) = IsInRange a × IsInRange b
  IsInRange (Trees.comma a at b) = IsInRange a × IsInRange b
  IsInRange (Trees.braces left all comma right) = AreInRange all

  pub AreInRange : Trees.Arguments → Type 0
  AreInRange Trees.no_arguments = Unit {0}
  AreInRange (Trees.and_argument comma a more) = IsInRange a × AreInRange more

  pub IsOptionInRange : Trees.OptionalExpression → Type 0
  IsOptionInRange Trees.no_expression = Unit {0}
  IsOptionInRange (Trees.some_expression a) = IsInRange a

  pub IsTypeInRange : Trees.TypeName → Type 0
  IsTypeInRange (Trees.type_name specs d) = AreSpecifiersInRange specs × IsDeclaratorInRange d

  pub AreSpecifiersInRange : Trees.Specifiers → Type 0
  AreSpecifiersInRange Trees.no_specifiers = Unit {0}
  AreSpecifiersInRange (Trees.and_specifier s more) = IsSpecifierInRange s × AreSpecifiersInRange more

  pub IsSpecifierInRange : Trees.Specifier → Type 0
  IsSpecifierInRange (Trees.plain word at) = Unit {0}
  IsSpecifierInRange (Trees.typename x) = Unit {0}
  IsSpecifierInRange (Trees.struct_named at x) = Unit {0}
  IsSpecifierInRange (Trees.struct_body at x left all right) = HasMember all × AreMembersInRange all
  IsSpecifierInRange (Trees.enum_named at x) = Unit {0}
  IsSpecifierInRange (Trees.enum_body at x left all comma right) = AreEnumeratorsInRange all

  pub AreMembersInRange : Trees.MemberDeclarations → Type 0
  AreMembersInRange Trees.no_member_declarations = Unit {0}
  AreMembersInRange (Trees.and_member_declaration specs ds semicolon more) = AreSpecifiersInRange specs × AreDeclaratorsInRange ds × AreMembersInRange more

  pub AreDeclaratorsInRange : Trees.MemberDeclarators → Type 0
  AreDeclaratorsInRange Trees.no_member_declarators = Unit {0}
  AreDeclaratorsInRange (Trees.and_member_declarator comma d more) = IsDeclaratorInRange d × AreDeclaratorsInRange more

  pub AreEnumeratorsInRange : Trees.Enumerators → Type 0
  AreEnumeratorsInRange Trees.no_enumerators = Unit {0}
  AreEnumeratorsInRange (Trees.and_enumerator comma x value more) = IsValueInRange value × AreEnumeratorsInRange more

  pub IsValueInRange : Trees.EnumeratorValue → Type 0
  IsValueInRange Trees.no_value = Unit {0}
  IsValueInRange (Trees.valued equal a) = IsInRange a

  pub IsDeclaratorInRange : Trees.Declarator → Type 0
  IsDeclaratorInRange Trees.nothing = Unit {0}
  IsDeclaratorInRange (Trees.named x) = Unit {0}
  IsDeclaratorInRange (Trees.pointer at consts d) = IsDeclaratorInRange d
  IsDeclaratorInRange (Trees.enclosed left d right) = IsDeclaratorInRange d
  IsDeclaratorInRange (Trees.array d left length right) = IsDeclaratorInRange d × IsOptionInRange length
  IsDeclaratorInRange (Trees.function d left all right) = IsDeclaratorInRange d × IsListInRange all

  pub IsListInRange : Trees.ParameterList → Type 0
  IsListInRange (Trees.void_alone at) = Unit {0}
  IsListInRange (Trees.listed all) = AreParametersInRange all

  pub AreParametersInRange : Trees.Parameters → Type 0
  AreParametersInRange Trees.no_parameters = Unit {0}
  AreParametersInRange (Trees.and_parameter comma specs d more) = AreSpecifiersInRange specs × IsDeclaratorInRange d × AreParametersInRange more
