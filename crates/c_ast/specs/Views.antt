-- What a tree of the program stands for.
use Rattle.std.specs.Prelude.{ℕ, List, [], ◌∷◌, map, Option, Some, None}
use Rattle.std.specs.Option.{option_map}
use Rattle.c_ast.specs.declared.words.Spelling.{Spelling}
use Rattle.c_ast.specs.declared.expression.Declarator.TheOpen as E
use Rattle.c_ast.specs.declared.expression.Expression.{Expression, fold-Expression}
use Rattle.c_ast.specs.declared.expression.Specifier.{Specifier, fold-Specifier}
use Rattle.c_ast.specs.declared.expression.Declarator.{Declarator, fold-Declarator}
use Rattle.c_ast.specs.declared.expression.Argument.{Argument, fold-Argument}
use Rattle.c_ast.specs.declared.expression.TypeName.{TypeName, fold-TypeName}
use Rattle.c_ast.specs.declared.expression.MemberDeclaration.{MemberDeclaration, fold-MemberDeclaration}
use Rattle.c_ast.specs.declared.expression.MemberDeclarator.{MemberDeclarator, fold-MemberDeclarator}
use Rattle.c_ast.specs.declared.expression.Enumerator.{Enumerator, fold-Enumerator}
use Rattle.c_ast.specs.declared.expression.EnumeratorValue.{EnumeratorValue, fold-EnumeratorValue}
use Rattle.c_ast.specs.declared.expression.Parameters.{Parameters, fold-Parameters}
use Rattle.c_ast.specs.declared.expression.Parameter.{Parameter, fold-Parameter}
use Rattle.c_ast.specs.declared.declaration.Declaration.{Declaration}
use Rattle.c_ast.specs.declared.declaration.InitDeclarator.{InitDeclarator}
use Rattle.c_ast.specs.declared.declaration.InitialValue.{InitialValue}
use Rattle.c_ast.specs.declared.statement.ForStart.{ForStart}
use Rattle.c_ast.specs.declared.statement.ForStart.TheVariants as R
use Rattle.c_ast.specs.declared.statement.Label.{Label}
use Rattle.c_ast.specs.declared.statement.Label.TheVariants as L
use Rattle.c_ast.specs.declared.statement.Statement.{Statement, fold-Statement}
use Rattle.c_ast.specs.declared.statement.BlockItem.{BlockItem, fold-BlockItem}
use Rattle.c_ast.specs.declared.statement.SwitchItem.{SwitchItem, fold-SwitchItem}
use Rattle.c_ast.specs.declared.statement.BlockItem.TheOpen as S
use Rattle.c_ast.specs.declared.tree.Item.{Item}
use Rattle.c_ast.specs.declared.tree.Item.TheVariants as I
use Rattle.c_ast.specs.declared.tree.Function.{Function}
use Rattle.c_ast.specs.declared.tree.Tree.{Tree}
use Rattle.c_ast.specs.Trees

-- ---- items of lists, each but the first with a comma before it

abbrev pub OneArgument : Type 0
OneArgument = Option ℕ × Trees.Expression

abbrev pub OneMemberDeclarator : Type 0
OneMemberDeclarator = Option ℕ × Trees.Declarator

abbrev pub OneMemberDeclaration : Type 0
OneMemberDeclaration = Trees.Specifiers × Trees.MemberDeclarators × ℕ

abbrev pub OneEnumerator : Type 0
OneEnumerator = Option ℕ × Spelling × Trees.EnumeratorValue

abbrev pub OneParameter : Type 0
OneParameter = Option ℕ × Trees.Specifiers × Trees.Declarator

-- ---- lists, and what may be missing

abbrev pub arguments_of : List OneArgument → Trees.Arguments
arguments_of [] = Trees.no_arguments
arguments_of (item ∷ more) = Trees.and_argument item.0 item.1 (arguments_of more)

abbrev pub specifiers_of : List Trees.Specifier → Trees.Specifiers
specifiers_of [] = Trees.no_specifiers
specifiers_of (s ∷ more) = Trees.and_specifier s (specifiers_of more)

abbrev pub member_declarations_of : List OneMemberDeclaration → Trees.MemberDeclarations
member_declarations_of [] = Trees.no_member_declarations
member_declarations_of (member_declaration ∷ more) = Trees.and_member_declaration member_declaration.0 member_declaration.1 member_declaration.2
    (member_declarations_of more)

abbrev pub member_declarators_of : List OneMemberDeclarator → Trees.MemberDeclarators
member_declarators_of [] = Trees.no_member_declarators
member_declarators_of (member_declarator ∷ more) = Trees.and_member_declarator member_declarator.0 member_declarator.1 (member_declarators_of more)

abbrev pub enumerators_of : List OneEnumerator → Trees.Enumerators
enumerators_of [] = Trees.no_enumerators
enumerators_of (e ∷ more) = Trees.and_enumerator e.0 e.1 e.2 (enumerators_of more)

abbrev pub parameters_of : List OneParameter → Trees.Parameters
parameters_of [] = Trees.no_parameters
parameters_of (p ∷ more) = Trees.and_parameter p.0 p.1 p.2 (parameters_of more)

abbrev pub declarator_if_any : Option Trees.Declarator → Trees.Declarator
declarator_if_any None = Trees.nothing
declarator_if_any (Some d) = d

abbrev pub optional_of : Option Trees.Expression → Trees.OptionalExpression
optional_of None = Trees.no_expression
optional_of (Some a) = Trees.some_expression a

abbrev pub enumerator_value_of : Option Trees.EnumeratorValue → Trees.EnumeratorValue
enumerator_value_of None = Trees.no_value
enumerator_value_of (Some value) = value

-- ---- expressions, type names, specifiers and declarators

-- what each sort of node stands for, enums before structs, each by name
abbrev pub OfExpressions : (Type 0 → Type 0 → Type 0 → Type 0 → Type 0 → Type 0 → Type 0 → Type 0 → Type 0 → Type 0 → Type 0 → Type 0) → Type 0
OfExpressions Node =
    Node Trees.Declarator Trees.Expression Trees.ParameterList Trees.Specifier
    OneArgument OneEnumerator Trees.EnumeratorValue OneMemberDeclaration OneMemberDeclarator OneParameter Trees.TypeName

abbrev pub declarator_layer : OfExpressions E.Declarator-F → Trees.Declarator
declarator_layer (E.Identifier x) = Trees.named x
declarator_layer (E.Pointer at consts d) = Trees.pointer at consts (declarator_if_any d)
declarator_layer (E.Enclosed left d right) = Trees.enclosed left d right
declarator_layer (E.Array d left length right) = Trees.array (declarator_if_any d) left (optional_of length) right
declarator_layer (E.Function d left all right) = Trees.function (declarator_if_any d) left all right

abbrev pub expression_layer : OfExpressions E.Expression-F → Trees.Expression
expression_layer (E.Name x) = Trees.name x
expression_layer (E.Number x n kind) = Trees.number x n kind
expression_layer (E.Character x n) = Trees.character x n
expression_layer (E.Texts all) = Trees.texts all
expression_layer (E.Paren left a right) = Trees.paren left a right
expression_layer (E.Index a left b right) = Trees.index a left b right
expression_layer (E.Call f left all right) = Trees.call f left (arguments_of all) right
expression_layer (E.Dot a at x) = Trees.dot a at x
expression_layer (E.Arrow a at x) = Trees.arrow a at x
expression_layer (E.Post a op at) = Trees.post a op at
expression_layer (E.Pre op at a) = Trees.pre op at a
expression_layer (E.Unary op at a) = Trees.unary op at a
expression_layer (E.SizeofExpression at a) = Trees.sizeof_expression at a
expression_layer (E.SizeofType at left t right) = Trees.sizeof_type at left t right
expression_layer (E.Cast left t right a) = Trees.cast left t right a
expression_layer (E.Binary a op at b) = Trees.binary a op at b
expression_layer (E.Cond a question b colon c) = Trees.cond a question b colon c
expression_layer (E.Assign a op at b) = Trees.assign a op at b
expression_layer (E.Comma a at b) = Trees.comma a at b
expression_layer (E.Braces left all comma right) = Trees.braces left (arguments_of all) comma right

abbrev pub parameters_layer : OfExpressions E.Parameters-F → Trees.ParameterList
parameters_layer (E.Void at) = Trees.void_alone at
parameters_layer (E.Listed all) = Trees.listed (parameters_of all)

abbrev pub specifier_layer : OfExpressions E.Specifier-F → Trees.Specifier
specifier_layer (E.Keyword word at) = Trees.plain word at
specifier_layer (E.Typename x) = Trees.typename x
specifier_layer (E.Struct at x) = Trees.struct_named at x
specifier_layer (E.StructBody at x left member_declarations right) = Trees.struct_body at x left (member_declarations_of member_declarations) right
specifier_layer (E.Enum at x) = Trees.enum_named at x
specifier_layer (E.EnumBody at x left all comma right) = Trees.enum_body at x left (enumerators_of all) comma right

abbrev pub argument_layer : OfExpressions E.Argument-F → OneArgument
argument_layer item = (item.comma, item.value)

abbrev pub enumerator_layer : OfExpressions E.Enumerator-F → OneEnumerator
enumerator_layer e = (e.comma, e.name, enumerator_value_of e.value)

abbrev pub enumerator_value_layer : OfExpressions E.EnumeratorValue-F → Trees.EnumeratorValue
enumerator_value_layer value = Trees.valued value.equal value.value

abbrev pub member_declaration_layer : OfExpressions E.MemberDeclaration-F → OneMemberDeclaration
member_declaration_layer member_declaration = (
  specifiers_of member_declaration.specifiers,
  member_declarators_of member_declaration.declarators,
  member_declaration.semicolon,
)

abbrev pub member_declarator_layer : OfExpressions E.MemberDeclarator-F → OneMemberDeclarator
member_declarator_layer member_declarator = (member_declarator.comma, member_declarator.declarator)

abbrev pub parameter_layer : OfExpressions E.Parameter-F → OneParameter
parameter_layer p = (p.comma, specifiers_of p.specifiers, declarator_if_any p.declarator)

abbrev pub type_name_layer : OfExpressions E.TypeName-F → Trees.TypeName
type_name_layer t = Trees.type_name (specifiers_of t.specifiers) (declarator_if_any t.declarator)

abbrev pub expression_of : Expression → Trees.Expression
expression_of =
    fold-Expression Trees.Declarator Trees.Expression Trees.ParameterList Trees.Specifier
    OneArgument OneEnumerator Trees.EnumeratorValue OneMemberDeclaration OneMemberDeclarator OneParameter Trees.TypeName
    declarator_layer expression_layer parameters_layer specifier_layer argument_layer enumerator_layer enumerator_value_layer
    member_declaration_layer member_declarator_layer parameter_layer type_name_layer

abbrev pub argument_of : Argument → OneArgument
argument_of =
    fold-Argument Trees.Declarator Trees.Expression Trees.ParameterList Trees.Specifier
    OneArgument OneEnumerator Trees.EnumeratorValue OneMemberDeclaration OneMemberDeclarator OneParameter Trees.TypeName
    declarator_layer expression_layer parameters_layer specifier_layer argument_layer enumerator_layer enumerator_value_layer
    member_declaration_layer member_declarator_layer parameter_layer type_name_layer

abbrev pub type_name_of : TypeName → Trees.TypeName
type_name_of =
    fold-TypeName Trees.Declarator Trees.Expression Trees.ParameterList Trees.Specifier
    OneArgument OneEnumerator Trees.EnumeratorValue OneMemberDeclaration OneMemberDeclarator OneParameter Trees.TypeName
    declarator_layer expression_layer parameters_layer specifier_layer argument_layer enumerator_layer enumerator_value_layer
    member_declaration_layer member_declarator_layer parameter_layer type_name_layer

abbrev pub specifier_of : Specifier → Trees.Specifier
specifier_of =
    fold-Specifier Trees.Declarator Trees.Expression Trees.ParameterList Trees.Specifier
    OneArgument OneEnumerator Trees.EnumeratorValue OneMemberDeclaration OneMemberDeclarator OneParameter Trees.TypeName
    declarator_layer expression_layer parameters_layer specifier_layer argument_layer enumerator_layer enumerator_value_layer
    member_declaration_layer member_declarator_layer parameter_layer type_name_layer

abbrev pub member_declaration_of : MemberDeclaration → OneMemberDeclaration
member_declaration_of =
    fold-MemberDeclaration Trees.Declarator Trees.Expression Trees.ParameterList Trees.Specifier
    OneArgument OneEnumerator Trees.EnumeratorValue OneMemberDeclaration OneMemberDeclarator OneParameter Trees.TypeName
    declarator_layer expression_layer parameters_layer specifier_layer argument_layer enumerator_layer enumerator_value_layer
    member_declaration_layer member_declarator_layer parameter_layer type_name_layer

abbrev pub member_declarator_of : MemberDeclarator → OneMemberDeclarator
member_declarator_of =
    fold-MemberDeclarator Trees.Declarator Trees.Expression Trees.ParameterList Trees.Specifier
    OneArgument OneEnumerator Trees.EnumeratorValue OneMemberDeclaration OneMemberDeclarator OneParameter Trees.TypeName
    declarator_layer expression_layer parameters_layer specifier_layer argument_layer enumerator_layer enumerator_value_layer
    member_declaration_layer member_declarator_layer parameter_layer type_name_layer

abbrev pub enumerator_of : Enumerator → OneEnumerator
enumerator_of =
    fold-Enumerator Trees.Declarator Trees.Expression Trees.ParameterList Trees.Specifier
    OneArgument OneEnumerator Trees.EnumeratorValue OneMemberDeclaration OneMemberDeclarator OneParameter Trees.TypeName
    declarator_layer expression_layer parameters_layer specifier_layer argument_layer enumerator_layer enumerator_value_layer
    member_declaration_layer member_declarator_layer parameter_layer type_name_layer

abbrev pub one_value_of : EnumeratorValue → Trees.EnumeratorValue
one_value_of =
    fold-EnumeratorValue Trees.Declarator Trees.Expression Trees.ParameterList Trees.Specifier
    OneArgument OneEnumerator Trees.EnumeratorValue OneMemberDeclaration OneMemberDeclarator OneParameter Trees.TypeName
    declarator_layer expression_layer parameters_layer specifier_layer argument_layer enumerator_layer enumerator_value_layer
    member_declaration_layer member_declarator_layer parameter_layer type_name_layer

abbrev pub declarator_of : Declarator → Trees.Declarator
declarator_of =
    fold-Declarator Trees.Declarator Trees.Expression Trees.ParameterList Trees.Specifier
    OneArgument OneEnumerator Trees.EnumeratorValue OneMemberDeclaration OneMemberDeclarator OneParameter Trees.TypeName
    declarator_layer expression_layer parameters_layer specifier_layer argument_layer enumerator_layer enumerator_value_layer
    member_declaration_layer member_declarator_layer parameter_layer type_name_layer

abbrev pub parameter_list_of : Parameters → Trees.ParameterList
parameter_list_of =
    fold-Parameters Trees.Declarator Trees.Expression Trees.ParameterList Trees.Specifier
    OneArgument OneEnumerator Trees.EnumeratorValue OneMemberDeclaration OneMemberDeclarator OneParameter Trees.TypeName
    declarator_layer expression_layer parameters_layer specifier_layer argument_layer enumerator_layer enumerator_value_layer
    member_declaration_layer member_declarator_layer parameter_layer type_name_layer

abbrev pub parameter_of : Parameter → OneParameter
parameter_of =
    fold-Parameter Trees.Declarator Trees.Expression Trees.ParameterList Trees.Specifier
    OneArgument OneEnumerator Trees.EnumeratorValue OneMemberDeclaration OneMemberDeclarator OneParameter Trees.TypeName
    declarator_layer expression_layer parameters_layer specifier_layer argument_layer enumerator_layer enumerator_value_layer
    member_declaration_layer member_declarator_layer parameter_layer type_name_layer

-- ---- declarations

abbrev pub value_of : InitialValue → ℕ × Trees.Expression
value_of value = (value.equal, expression_of value.value)

abbrev pub init_declarator_of : InitDeclarator → Trees.InitDeclarator
init_declarator_of d = record { comma = d.comma; declarator = declarator_of d.declarator; value = option_map value_of d.value }

abbrev pub declaration_of : Declaration → Trees.Declaration
declaration_of d = record { specs = specifiers_of (map specifier_of d.specifiers); all = map init_declarator_of d.declarators; semicolon = d.semicolon }

-- ---- statements

abbrev pub label_of : Label → Trees.Label
label_of (L.Case at a colon) = Trees.case at (expression_of a) colon
label_of (L.Default at colon) = Trees.default at colon

abbrev pub for_start_of : ForStart → Trees.ForStart
for_start_of (R.Expression a semicolon) = Trees.starts_with (option_map expression_of a) semicolon
for_start_of (R.Declaration d) = Trees.declares (declaration_of d)

abbrev pub block_items_of : List Trees.BlockItem → Trees.BlockItems
block_items_of [] = Trees.no_block_items
block_items_of (e ∷ more) = Trees.and_block_item e (block_items_of more)

abbrev pub switch_items_of : List Trees.SwitchItem → Trees.SwitchItems
switch_items_of [] = Trees.no_switch_items
switch_items_of (switch_item ∷ more) = Trees.and_switch_item switch_item (switch_items_of more)

-- what each sort of node stands for, enums before structs, each by name
abbrev pub OfStatements : (Type 0 → Type 0 → Type 0 → Type 0) → Type 0
OfStatements Node = Node Trees.BlockItem Trees.Statement Trees.SwitchItem

abbrev pub block_item_layer : OfStatements S.BlockItem-F → Trees.BlockItem
block_item_layer (S.Declaration d) = Trees.local (declaration_of d)
block_item_layer (S.Statement a) = Trees.statement a

abbrev pub statement_layer : OfStatements S.Statement-F → Trees.Statement
statement_layer (S.Block left items right) = Trees.block left (block_items_of items) right
statement_layer (S.Expression a semicolon) = Trees.evaluate (option_map expression_of a) semicolon
statement_layer (S.If at left a right one) = Trees.when at left (expression_of a) right one
statement_layer (S.IfElse at left a right one else other) = Trees.choose at left (expression_of a) right one else other
statement_layer (S.While at left a right body) = Trees.while at left (expression_of a) right body
statement_layer (S.DoWhile at body while left a right semicolon) = Trees.do_while at body while left (expression_of a) right semicolon
statement_layer (S.For at left start test semicolon step right body) =
    Trees.for at left (for_start_of start) (option_map expression_of test) semicolon (option_map expression_of step) right body
statement_layer (S.Switch at left a right begin switch_items end) = Trees.switch at left (expression_of a) right begin (switch_items_of switch_items) end
statement_layer (S.Break at semicolon) = Trees.break at semicolon
statement_layer (S.Continue at semicolon) = Trees.continue at semicolon
statement_layer (S.Return at a semicolon) = Trees.return at (option_map expression_of a) semicolon

abbrev pub switch_item_layer : OfStatements S.SwitchItem-F → Trees.SwitchItem
switch_item_layer (S.Local d) = Trees.local_switch_item (declaration_of d)
switch_item_layer (S.Labelled labels a) = Trees.labelled (map label_of labels) a

abbrev pub statement_of : Statement → Trees.Statement
statement_of =
    fold-Statement Trees.BlockItem Trees.Statement Trees.SwitchItem
    block_item_layer statement_layer switch_item_layer

abbrev pub block_item_of : BlockItem → Trees.BlockItem
block_item_of =
    fold-BlockItem Trees.BlockItem Trees.Statement Trees.SwitchItem
    block_item_layer statement_layer switch_item_layer

abbrev pub switch_item_of : SwitchItem → Trees.SwitchItem
switch_item_of =
    fold-SwitchItem Trees.BlockItem Trees.Statement Trees.SwitchItem
    block_item_layer statement_layer switch_item_layer

-- ---- files

abbrev pub function_of : Function → Trees.Item
function_of f =
    Trees.defines (specifiers_of (map specifier_of f.specifiers)) (declarator_of f.declarator) f.open (block_items_of (map block_item_of f.body)) f.close

abbrev pub item_of : Item → Trees.Item
item_of (I.Function f) = function_of f
item_of (I.Declaration d) = Trees.declaration (declaration_of d)

abbrev pub items_of : Tree → List Trees.Item
items_of tree = map item_of tree.items
