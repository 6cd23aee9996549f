-- The tags among the marks of each part of a well formed tree come in the order of its tokens.
use Rattle.std.proofs.Common.{ℕ, List, Some, None, Bool, true, false}
use Rattle.c_ast.specs.Trees
use Rattle.c_ast.specs.Spelling.{Lexeme, spelled, spelled_arguments, spelled_optional, spelled_type_name, spelled_specifiers}
use Rattle.c_ast.specs.Spelling.{spelled_specifier, spelled_member_declarations, spelled_member_declarators, spelled_enumerators}
use Rattle.c_ast.specs.Spelling.{spelled_enumerator_value, spelled_declarator}
use Rattle.c_ast.specs.WellFormed.{IsExpression, AreArguments, IsOptional, IsTypeName, AreSpecifiers, AreMoreSpecifiers, IsSpecifier}
use Rattle.c_ast.specs.WellFormed.{AreMemberDeclarations, AreMemberDeclarators, AreEnumerators, IsEnumeratorValue, IsDeclarator}
use Rattle.c_erasure.specs.Marks.{marks, marks_of_all, marks_if_any, marks_of_type, marks_of_specifiers, marks_of_specifier}
use Rattle.c_erasure.specs.Marks.{marks_of_members, marks_of_member_declarators, marks_of_enumerators, marks_of_value, marks_of_declarator}
use Rattle.c_erasure.proofs.MarkPlaces.Walks.{comma_along, texts_along, consts_along}
use Rattle.c_erasure.proofs.MarkPlaces.MarksOfParts.{parameter_list_along}
use Rattle.c_checking_laws.proofs.TextOrder.Rising.{unmarked}
use Rattle.c_checking_laws.proofs.TextOrder.TagWalks.{Tagged, none, skip, both, before, after, untagged, begins, ends, structure, enumeration}

-- `u` gives the tags of structures without one
module _ (u : ℕ → List ℕ) (types : List (List ℕ)) where
  mutual
    pub tagged : (t : Trees.Expression) → IsExpression types t → {rest : List Lexeme} → Tagged (marks u t) (spelled t rest) rest
    tagged (Trees.name x) w = skip none
    tagged (Trees.number x n kind) w = skip none
    tagged (Trees.character x n) w = skip none
    tagged (Trees.texts all) w = untagged (unmarked (texts_along all))
    tagged (Trees.paren left a right) w = skip (before (tagged a w) (skip none))
    tagged (Trees.index a left b right) w = both (tagged a w.1) (skip (before (tagged b w.2) (skip none)))
    tagged (Trees.call f left all right) w = both (tagged f w.1) (skip (before (arguments_tagged true all w.2) (skip none)))
    tagged (Trees.dot a at x) w = before (tagged a w.1) (skip (skip none))
    tagged (Trees.arrow a at x) w = before (tagged a w.1) (skip (skip none))
    tagged (Trees.post a op at) w = before (tagged a w.1) (skip none)
    tagged (Trees.pre op at a) w = skip (tagged a w.1)
    tagged (Trees.unary op at a) w = skip (tagged a w.1)
    tagged (Trees.sizeof_expression at a) w = skip (tagged a w.1)
    tagged (Trees.sizeof_type at left t right) w = skip (skip (before (type_name_tagged t w) (skip none)))
    tagged (Trees.cast left t right a) w = skip (both (type_name_tagged t w.1) (skip (tagged a w.2)))
    tagged (Trees.binary a op at b) w = both (tagged a w.2) (skip (tagged b w.3))
    tagged (Trees.cond a question b colon c) w = both (both (tagged a w.2) (skip (tagged b w.3))) (skip (tagged c w.4))
    tagged (Trees.assign a op at b) w = both (tagged a w.2) (skip (tagged b w.3))
    tagged (Trees.comma a at b) w = both (tagged a w.1) (skip (tagged b w.2))
    tagged (Trees.braces left all comma right) w = absurd w

    arguments_tagged : (first : Bool) (t : Trees.Arguments) → AreArguments types first t → {rest : List Lexeme}
        → Tagged (marks_of_all u t) (spelled_arguments t rest) rest
    arguments_tagged first Trees.no_arguments w = none
    arguments_tagged first (Trees.and_argument comma a more) w =
        after (untagged (unmarked (comma_along comma))) (both (tagged a w.2) (arguments_tagged false more w.3))

    optional_tagged : (t : Trees.OptionalExpression) → IsOptional types t → {rest : List Lexeme}
        → Tagged (marks_if_any u t) (spelled_optional t rest) rest
    optional_tagged Trees.no_expression w = none
    optional_tagged (Trees.some_expression a) w = tagged a w.1

    type_name_tagged : (t : Trees.TypeName) → IsTypeName types t → {rest : List Lexeme} → Tagged (marks_of_type u t) (spelled_type_name t rest) rest
    type_name_tagged (Trees.type_name specs d) w = both (specifiers_tagged specs w.0) (declarator_tagged d w.1)

    pub specifiers_tagged : (t : Trees.Specifiers) → AreSpecifiers types t → {rest : List Lexeme}
        → Tagged (marks_of_specifiers u t) (spelled_specifiers t rest) rest
    specifiers_tagged Trees.no_specifiers w = absurd w
    specifiers_tagged (Trees.and_specifier s more) w = both (specifier_tagged s w.0) (more_specifiers_tagged more w.1)

    more_specifiers_tagged : (t : Trees.Specifiers) → AreMoreSpecifiers types t → {rest : List Lexeme}
        → Tagged (marks_of_specifiers u t) (spelled_specifiers t rest) rest
    more_specifiers_tagged Trees.no_specifiers w = none
    more_specifiers_tagged (Trees.and_specifier s more) w = both (specifier_tagged s w.0) (more_specifiers_tagged more w.1)

    -- a structure without a tag stands at its keyword
    specifier_tagged : (t : Trees.Specifier) → IsSpecifier types t → {rest : List Lexeme}
        → Tagged (marks_of_specifier u t) (spelled_specifier t rest) rest
    specifier_tagged (Trees.plain word at) w = skip none
    specifier_tagged (Trees.typename x) w = skip none
    specifier_tagged (Trees.struct_named at x) w = skip (structure none)
    specifier_tagged (Trees.struct_body at None left all right) w = structure (skip (both (members_tagged all w.1) (ends (skip none))))
    specifier_tagged (Trees.struct_body at (Some x) left all right) w = skip (structure (skip (both (members_tagged all w.1) (ends (skip none)))))
    specifier_tagged (Trees.enum_named at x) w = skip (skip none)
    specifier_tagged (Trees.enum_body at None left all comma right) w =
        skip (skip (both (enumerators_tagged true all w.1 _) (after (untagged (unmarked (comma_along comma))) (skip none))))
    specifier_tagged (Trees.enum_body at (Some x) left all comma right) w =
        skip (enumeration (skip (before (enumerators_tagged true all w.1 _) (untagged (unmarked (comma_along comma))))))

    members_tagged : (t : Trees.MemberDeclarations) → AreMemberDeclarations types t → {rest : List Lexeme}
        → Tagged (marks_of_members u t) (spelled_member_declarations t rest) rest
    members_tagged Trees.no_member_declarations w = none
    members_tagged (Trees.and_member_declaration specs all semicolon more) w =
        both (both (specifiers_tagged specs w.0) (member_declarators_tagged true all w.2)) (skip (members_tagged more w.3))

    member_declarators_tagged : (first : Bool) (t : Trees.MemberDeclarators) → AreMemberDeclarators types first t → {rest : List Lexeme}
        → Tagged (marks_of_member_declarators u t) (spelled_member_declarators t rest) rest
    member_declarators_tagged first Trees.no_member_declarators w = none
    member_declarators_tagged first (Trees.and_member_declarator comma d more) w =
        after (untagged (unmarked (comma_along comma))) (both (declarator_tagged d w.1) (member_declarators_tagged false more w.3))

    enumerators_tagged : (first : Bool) (t : Trees.Enumerators) → AreEnumerators types first t → (at : ℕ) → {rest : List Lexeme}
        → Tagged (marks_of_enumerators u t at) (spelled_enumerators t rest) rest
    enumerators_tagged first Trees.no_enumerators w at = none
    enumerators_tagged first (Trees.and_enumerator comma x value more) w at =
        after (untagged (unmarked (comma_along comma))) (skip (both (value_tagged value w.2) (begins (enumerators_tagged false more w.3 at))))

    value_tagged : (t : Trees.EnumeratorValue) → IsEnumeratorValue types t → {rest : List Lexeme}
        → Tagged (marks_of_value u t) (spelled_enumerator_value t rest) rest
    value_tagged Trees.no_value w = none
    value_tagged (Trees.valued equal a) w = skip (tagged a w.1)

    -- nothing in a parameter list is marked
    pub declarator_tagged : (t : Trees.Declarator) → IsDeclarator types t → {rest : List Lexeme}
        → Tagged (marks_of_declarator u t) (spelled_declarator t rest) rest
    declarator_tagged Trees.nothing w = none
    declarator_tagged (Trees.named x) w = skip none
    declarator_tagged (Trees.pointer at consts d) w = skip (after (untagged (unmarked (consts_along consts))) (declarator_tagged d w))
    declarator_tagged (Trees.enclosed left d right) w = skip (before (declarator_tagged d w.1) (skip none))
    declarator_tagged (Trees.array d left bound right) w = both (declarator_tagged d w.1) (skip (before (optional_tagged bound w.2) (skip none)))
    declarator_tagged (Trees.function d left all right) w =
        before (declarator_tagged d w.1) (skip (after (untagged (unmarked (parameter_list_along u types all w.2))) (skip none)))
