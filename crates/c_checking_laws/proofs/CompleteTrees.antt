-- Completeness: what the definitions give to a tree in a whole file is what is found in its first part (C99 6.5, 6.7).
use Rattle.std.proofs.Common.{List}
use Rattle.c_ast.specs.declared.operators.UnaryOp.TheVariants as U
use Rattle.c_ast.specs.Trees
use Rattle.c_erasure.specs.Scopes.{ALocal, FileScope}
use Rattle.c_checking_laws.proofs.CompletePart.{IsWhole}
use Rattle.c_checking_laws.proofs.CompleteOperands.{Completes}
use Rattle.c_checking_laws.proofs.CompleteExpressions
use Rattle.c_checking_laws.proofs.CompleteCalls
use Rattle.c_checking_laws.proofs.CompleteDeclarators
use Rattle.c_checking_laws.proofs.CompleteSpecifiers
use Rattle.c_checking_laws.proofs.CompleteStructures

module _ (g : FileScope) (w : IsWhole g) (ls : List ALocal) where
  mutual
    pub complete : (a : Trees.Expression) → Completes g w ls a
    complete (Trees.name x) = CompleteExpressions.name_complete g w ls x
    complete (Trees.number x n kind) = CompleteExpressions.number_complete g w ls x n kind
    complete (Trees.character x n) = CompleteExpressions.character_complete g w ls x n
    complete (Trees.texts all) = CompleteCalls.texts_complete g w ls all
    complete (Trees.paren left a right) = CompleteExpressions.paren_complete g w ls a left right (complete a)
    complete (Trees.index a left b right) = CompleteExpressions.index_complete g w ls a b left right (complete a) (complete b)
    complete (Trees.call a left all right) = CompleteCalls.call_complete g w ls a left all right (complete a) (complete_all all)
    complete (Trees.dot a at x) = CompleteExpressions.dot_complete g w ls a at x (complete a)
    complete (Trees.arrow a at x) = CompleteExpressions.arrow_complete g w ls a at x (complete a)
    complete (Trees.post a op at) = CompleteExpressions.post_complete g w ls a op at (complete a)
    complete (Trees.pre op at a) = CompleteExpressions.pre_complete g w ls a op at (complete a)
    complete (Trees.unary U.Address at a) = CompleteExpressions.address_complete g w ls at a (complete a)
    complete (Trees.unary U.Deref at a) = CompleteExpressions.deref_complete g w ls at a (complete a)
    complete (Trees.unary U.Plus at a) = CompleteExpressions.plus_complete g w ls at a (complete a)
    complete (Trees.unary U.Minus at a) = CompleteExpressions.minus_complete g w ls at a (complete a)
    complete (Trees.unary U.Complement at a) = CompleteExpressions.complement_complete g w ls at a (complete a)
    complete (Trees.unary U.Not at a) = CompleteExpressions.not_complete g w ls at a (complete a)
    complete (Trees.sizeof_expression at a) = CompleteCalls.sizeof_complete g w ls at a (complete a)
    complete (Trees.sizeof_type at left n right) = CompleteDeclarators.sizeof_type_complete g w ls at left n right (complete_type n)
    complete (Trees.cast left n right a) = CompleteDeclarators.cast_complete g w ls left n right a (complete_type n) (complete a)
    complete (Trees.binary a op at b) = CompleteExpressions.binary_complete g w ls a b op at (complete a) (complete b)
    complete (Trees.cond a question b colon d) = CompleteExpressions.cond_complete g w ls a b d question colon (complete a) (complete b) (complete d)
    complete (Trees.assign a op at b) = CompleteExpressions.assign_complete g w ls a b op at (complete a) (complete b)
    complete (Trees.comma a at b) = CompleteExpressions.comma_complete g w ls a b at (complete a) (complete b)
    complete (Trees.braces left all comma right) = λ s c th f b h t. absurd h

    pub complete_all : (all : Trees.Arguments) → CompleteCalls.CompletesAll g w ls all
    complete_all Trees.no_arguments = CompleteCalls.no_arguments_complete g w ls
    complete_all (Trees.and_argument comma a more) = CompleteCalls.argument_complete g w ls comma a more (complete a) (complete_all more)

    pub complete_type : (n : Trees.TypeName) → CompleteDeclarators.CompletesType g w ls n
    complete_type (Trees.type_name specs d) = CompleteDeclarators.type_complete g w ls specs d (complete_one specs) (complete_declarator d)

    pub complete_one : (specs : Trees.Specifiers) → CompleteDeclarators.CompletesOne g w ls specs
    complete_one Trees.no_specifiers = CompleteSpecifiers.no_one_complete g w ls
    complete_one (Trees.and_specifier (Trees.plain word at) more) = CompleteSpecifiers.word_complete g w ls word at more (complete_one more)
    complete_one (Trees.and_specifier (Trees.typename x) more) = CompleteSpecifiers.one_typename g w ls x more
    complete_one (Trees.and_specifier (Trees.struct_named at x) more) = CompleteSpecifiers.one_struct_named g w ls at x more
    complete_one (Trees.and_specifier (Trees.struct_body at x left all right) more) =
        CompleteSpecifiers.one_struct_body g w ls at x left all right more
        (CompleteStructures.struct_body_complete g w ls at x left all right (complete_members all))
    complete_one (Trees.and_specifier (Trees.enum_named at x) more) = CompleteSpecifiers.one_enum_named g w ls at x more
    complete_one (Trees.and_specifier (Trees.enum_body at x left all comma right) more) =
        CompleteSpecifiers.one_enum_body g w ls at x left all comma right more
        (CompleteStructures.enum_body_complete g w ls at x left all comma right (complete_enumerators all))

    pub complete_members : (all : Trees.MemberDeclarations) → CompleteStructures.CompletesMembers g w ls all
    complete_members Trees.no_member_declarations = CompleteStructures.no_members_complete g w ls
    complete_members (Trees.and_member_declaration specs ds semicolon more) =
        CompleteStructures.members_complete g w ls specs ds semicolon more (complete_one specs) (complete_member_declarators ds) (complete_members more)

    pub complete_member_declarators : (all : Trees.MemberDeclarators) → CompleteStructures.CompletesMemberDeclarators g w ls all
    complete_member_declarators Trees.no_member_declarators = CompleteStructures.no_member_declarators_complete g w ls
    complete_member_declarators (Trees.and_member_declarator comma d more) =
        CompleteStructures.member_complete g w ls comma d more (complete_declarator d) (complete_member_declarators more)

    pub complete_enumerators : (all : Trees.Enumerators) → CompleteSpecifiers.CompletesEnumerators g w ls all
    complete_enumerators Trees.no_enumerators = CompleteSpecifiers.no_enumerators_complete g w ls
    complete_enumerators (Trees.and_enumerator comma x value more) =
        CompleteStructures.enumerator_complete g w ls comma x value more (complete_value value) (complete_enumerators more)

    pub complete_value : (value : Trees.EnumeratorValue) → CompleteSpecifiers.CompletesEnumeratorValue g w ls value
    complete_value Trees.no_value = CompleteSpecifiers.no_value_complete g w ls
    complete_value (Trees.valued equal a) = CompleteSpecifiers.valued_complete g w ls equal a (complete a)

    pub complete_declarator : (d : Trees.Declarator) → CompleteDeclarators.CompletesDeclarator g w ls d
    complete_declarator Trees.nothing = CompleteDeclarators.nothing_complete g w ls
    complete_declarator (Trees.named x) = CompleteDeclarators.named_declarator_complete g w ls x
    complete_declarator (Trees.pointer at consts d) = CompleteDeclarators.pointer_complete g w ls at consts d (complete_declarator d)
    complete_declarator (Trees.enclosed left d right) = CompleteDeclarators.enclosed_complete g w ls left d right (complete_declarator d)
    complete_declarator (Trees.array d left (Trees.some_expression a) right) =
        CompleteDeclarators.array_complete g w ls d left a right (complete_declarator d) (complete a)
    complete_declarator (Trees.array d left Trees.no_expression right) = CompleteDeclarators.open_array_complete g w ls d left right
    complete_declarator (Trees.function d left all right) =
        CompleteDeclarators.function_complete g w ls d left all right (complete_declarator d) (complete_parameter_list all)

    pub complete_parameter_list : (all : Trees.ParameterList) → CompleteDeclarators.CompletesParameterList g w ls all
    complete_parameter_list (Trees.void_alone at) = CompleteDeclarators.void_complete g w ls at
    complete_parameter_list (Trees.listed all) = CompleteDeclarators.listed_complete g w ls all (complete_parameters all)

    pub complete_parameters : (all : Trees.Parameters) → CompleteDeclarators.CompletesParameters g w ls all
    complete_parameters Trees.no_parameters = CompleteDeclarators.no_parameters_complete g w ls
    complete_parameters (Trees.and_parameter comma specs d more) =
        CompleteDeclarators.parameter_complete g w ls comma specs d more (complete_one specs) (complete_declarator d) (complete_parameters more)
