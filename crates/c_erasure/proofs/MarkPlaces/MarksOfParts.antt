-- The marks of each part of a well formed tree stand at its tokens, in their order.
use Rattle.std.proofs.Common.{◌≡◌, ℕ, List, [], ◌∷◌, Option, Some, None, Bool, true, false, length, refl}
use Rattle.c_tokens.specs.declared.punctuator.Punctuator.{Punctuator}
use Rattle.c_tokens.specs.declared.punctuator.Punctuator.TheVariants as M
use Rattle.c_tokens.specs.Punctuators.{punctuator_text}
use Rattle.c_ast.specs.declared.words.Spelling.{Spelling}
use Rattle.c_ast.specs.Trees
use Rattle.c_ast.specs.Spelling.{Lexeme, punctuator, spelled, spelled_arguments, spelled_optional, spelled_type_name, spelled_specifiers}
use Rattle.c_ast.specs.Spelling.{spelled_specifier, spelled_member_declarations, spelled_member_declarators, spelled_enumerators}
use Rattle.c_ast.specs.Spelling.{spelled_enumerator_value, spelled_declarator, spelled_parameter_list, spelled_parameters}
use Rattle.c_ast.specs.WellFormed.{IsExpression, AreArguments, IsOptional, IsTypeName, AreSpecifiers, AreMoreSpecifiers, IsSpecifier, AreMemberDeclarations}
use Rattle.c_ast.specs.WellFormed.{AreMemberDeclarators, AreEnumerators, IsEnumeratorValue, IsDeclarator, IsParameterList, AreParameters}
use Rattle.c_erasure.specs.Erasure.{comma_or}
use Rattle.c_erasure.specs.Marks.{a_name, marks, marks_of_all, marks_if_any, marks_of_type, marks_of_specifiers, marks_of_specifier}
use Rattle.c_erasure.specs.Marks.{marks_of_members, marks_of_member_declarators, marks_of_enumerators, marks_of_value, marks_of_declarator, an_enumeration}
use Rattle.c_erasure.specs.MarkPlaces.Places.{Along}
use Rattle.c_erasure.proofs.MarkPlaces.Walks.{none, skip, tag, both, before, begins, ends, after, comma_along, tag_along, texts_along, consts_along}

enumeration_along : (u : ℕ → List ℕ) (x : Option Spelling) (right : ℕ) {rest : List Lexeme} → Along (an_enumeration u x right) rest rest
enumeration_along u None right = none
enumeration_along u (Some x) right = tag none

-- `u` gives the tags of structures without one
module _ (u : ℕ → List ℕ) (types : List (List ℕ)) where
  mutual
    pub along : (t : Trees.Expression) → IsExpression types t → {rest : List Lexeme} → Along (marks u t) (spelled t rest) rest
    along (Trees.name x) w = skip none
    along (Trees.number x n kind) w = skip none
    along (Trees.character x n) w = skip none
    along (Trees.texts all) w = texts_along all
    along (Trees.paren left a right) w = skip (before (along a w) (skip none))
    along (Trees.index a left b right) w = both (along a w.1) (skip (before (along b w.2) (skip none)))
    along (Trees.call f left all right) w = both (along f w.1) (skip (before (arguments_along true all w.2) (skip none)))
    along (Trees.dot a at x) w = before (along a w.1) (skip (skip none))
    along (Trees.arrow a at x) w = before (along a w.1) (skip (skip none))
    along (Trees.post a op at) w = before (along a w.1) (skip none)
    along (Trees.pre op at a) w = skip (along a w.1)
    along (Trees.unary op at a) w = skip (along a w.1)
    along (Trees.sizeof_expression at a) w = skip (along a w.1)
    along (Trees.sizeof_type at left t right) w = skip (skip (before (type_name_along t w) (skip none)))
    along (Trees.cast left t right a) w = skip (both (type_name_along t w.1) (skip (along a w.2)))
    along (Trees.binary a op at b) w = both (along a w.2) (skip (along b w.3))
    along (Trees.cond a question b colon c) w = both (both (along a w.2) (skip (along b w.3))) (skip (along c w.4))
    along (Trees.assign a op at b) w = both (along a w.2) (skip (along b w.3))
    along (Trees.comma a at b) w = both (along a w.1) (skip (along b w.2))
    along (Trees.braces left all comma right) w = absurd w

    pub arguments_along : (first : Bool) (t : Trees.Arguments) → AreArguments types first t → {rest : List Lexeme}
        → Along (marks_of_all u t) (spelled_arguments t rest) rest
    arguments_along first Trees.no_arguments w = none
    arguments_along first (Trees.and_argument comma a more) w = after (comma_along comma) (both (along a w.2) (arguments_along false more w.3))

    pub optional_along : (t : Trees.OptionalExpression) → IsOptional types t → {rest : List Lexeme}
        → Along (marks_if_any u t) (spelled_optional t rest) rest
    optional_along Trees.no_expression w = none
    optional_along (Trees.some_expression a) w = along a w.1

    pub type_name_along : (t : Trees.TypeName) → IsTypeName types t → {rest : List Lexeme} → Along (marks_of_type u t) (spelled_type_name t rest) rest
    type_name_along (Trees.type_name specs d) w = both (specifiers_along specs w.0) (declarator_along d w.1)

    pub specifiers_along : (t : Trees.Specifiers) → AreSpecifiers types t → {rest : List Lexeme}
        → Along (marks_of_specifiers u t) (spelled_specifiers t rest) rest
    specifiers_along Trees.no_specifiers w = absurd w
    specifiers_along (Trees.and_specifier s more) w = both (specifier_along s w.0) (more_specifiers_along more w.1)

    pub more_specifiers_along : (t : Trees.Specifiers) → AreMoreSpecifiers types t → {rest : List Lexeme}
        → Along (marks_of_specifiers u t) (spelled_specifiers t rest) rest
    more_specifiers_along Trees.no_specifiers w = none
    more_specifiers_along (Trees.and_specifier s more) w = both (specifier_along s w.0) (more_specifiers_along more w.1)

    pub specifier_along : (t : Trees.Specifier) → IsSpecifier types t → {rest : List Lexeme} → Along (marks_of_specifier u t) (spelled_specifier t rest) rest
    specifier_along (Trees.plain word at) w = skip none
    specifier_along (Trees.typename x) w = skip none
    specifier_along (Trees.struct_named at x) w = tag (skip (skip none))
    specifier_along (Trees.struct_body at x left all right) w =
        tag (skip (after (tag_along x) (skip (both (members_along all w.1) (ends refl none)))))
    specifier_along (Trees.enum_named at x) w = skip (skip none)
    specifier_along (Trees.enum_body at x left all None right) w =
        skip (after (tag_along x) (skip (both (enumerators_along true all w.1 M.CloseBrace right refl) (enumeration_along u x right))))
    specifier_along (Trees.enum_body at x left all (Some comma) right) w =
        skip (after (tag_along x) (skip (both (enumerators_along true all w.1 M.Comma comma refl) (after (skip none) (enumeration_along u x right)))))

    pub members_along : (t : Trees.MemberDeclarations) → AreMemberDeclarations types t → {rest : List Lexeme}
        → Along (marks_of_members u t) (spelled_member_declarations t rest) rest
    members_along Trees.no_member_declarations w = none
    members_along (Trees.and_member_declaration specs all semicolon more) w =
        both (both (specifiers_along specs w.0) (member_declarators_along true all w.2)) (skip (members_along more w.3))

    pub member_declarators_along : (first : Bool) (t : Trees.MemberDeclarators) → AreMemberDeclarators types first t → {rest : List Lexeme}
        → Along (marks_of_member_declarators u t) (spelled_member_declarators t rest) rest
    member_declarators_along first Trees.no_member_declarators w = none
    member_declarators_along first (Trees.and_member_declarator comma d more) w =
        after (comma_along comma) (both (declarator_along d w.1) (member_declarators_along false more w.3))

    -- with the token after them, where the scope of the last begins
    pub enumerators_along : (first : Bool) (t : Trees.Enumerators) → AreEnumerators types first t → (m : Punctuator) (at : ℕ)
        → length (punctuator_text m) ≡ 1 → {rest : List Lexeme}
        → Along (marks_of_enumerators u t at) (spelled_enumerators t (punctuator m at ∷ rest)) rest
    enumerators_along first Trees.no_enumerators w m at long = skip none
    enumerators_along first (Trees.and_enumerator comma x value more) w m at long =
        after (comma_along comma) (skip (both (value_along value w.2) (after_enumerator more w.3 m at long)))

    pub after_enumerator : (t : Trees.Enumerators) → AreEnumerators types false t → (m : Punctuator) (at : ℕ) → length (punctuator_text m) ≡ 1
        → {rest : List Lexeme} → Along (a_name (comma_or t at) ∷ marks_of_enumerators u t at) (spelled_enumerators t (punctuator m at ∷ rest)) rest
    after_enumerator Trees.no_enumerators w m at long = begins long none
    after_enumerator (Trees.and_enumerator None x value more) w m at long = cc
    after_enumerator (Trees.and_enumerator (Some comma) x value more) w m at long =
        begins refl (skip (both (value_along value w.2) (after_enumerator more w.3 m at long)))

    pub value_along : (t : Trees.EnumeratorValue) → IsEnumeratorValue types t → {rest : List Lexeme}
        → Along (marks_of_value u t) (spelled_enumerator_value t rest) rest
    value_along Trees.no_value w = none
    value_along (Trees.valued equal a) w = skip (along a w.1)

    pub declarator_along : (t : Trees.Declarator) → IsDeclarator types t → {rest : List Lexeme}
        → Along (marks_of_declarator u t) (spelled_declarator t rest) rest
    declarator_along Trees.nothing w = none
    declarator_along (Trees.named x) w = skip none
    declarator_along (Trees.pointer at consts d) w = skip (after (consts_along consts) (declarator_along d w))
    declarator_along (Trees.enclosed left d right) w = skip (before (declarator_along d w.1) (skip none))
    declarator_along (Trees.array d left bound right) w = both (declarator_along d w.1) (skip (before (optional_along bound w.2) (skip none)))
    declarator_along (Trees.function d left all right) w =
        before (declarator_along d w.1) (skip (after (parameter_list_along all w.2) (skip none)))

    -- nothing in a parameter list is marked
    pub parameter_list_along : (t : Trees.ParameterList) → IsParameterList types t → {rest : List Lexeme} → Along [] (spelled_parameter_list t rest) rest
    parameter_list_along (Trees.void_alone at) w = skip none
    parameter_list_along (Trees.listed all) w = parameters_along true all w.1

    pub parameters_along : (first : Bool) (t : Trees.Parameters) → AreParameters types first t → {rest : List Lexeme} → Along [] (spelled_parameters t rest) rest
    parameters_along first Trees.no_parameters w = none
    parameters_along first (Trees.and_parameter comma specs d more) w =
        after (comma_along comma) (after (specifiers_along specs w.1) (after (declarator_along d w.2) (parameters_along false more w.3)))
