-- No two types of which a part speaks outside of its expressions stand at one place: in expressions, specifiers and declarators.
use Rattle.std.proofs.Common.{◌≡◌, ◌≢◌, ℕ, List, [], ◌∷◌, ◌++◌, Bool, true, false, refl, subst}
use Rattle.c_tokens.specs.declared.punctuator.Punctuator.{Punctuator}
use Rattle.c_tokens.specs.declared.punctuator.Punctuator.TheVariants as M
use Rattle.c_ast.specs.Places.{first_declarator, first_specifiers, first_specifier}
use Rattle.c_ast.specs.Spelling.{Lexeme, punctuator, spelled, spelled_arguments, spelled_optional, spelled_type_name, spelled_specifiers, spelled_specifier}
use Rattle.c_ast.specs.Spelling.{spelled_member_declarations, spelled_member_declarators, spelled_enumerators, spelled_enumerator_value, spelled_declarator}
use Rattle.c_ast.specs.Spelling.{spelled_parameter_list, spelled_parameters}
use Rattle.c_ast.specs.Trees
use Rattle.c_ast.specs.WellFormed.{IsExpression, AreArguments, IsOptional, IsTypeName, AreSpecifiers, AreMoreSpecifiers}
use Rattle.c_ast.specs.WellFormed.{IsSpecifier, AreMemberDeclarations, AreMemberDeclarators, AreEnumerators, IsEnumeratorValue, IsDeclarator, IsParameterList}
use Rattle.c_ast.specs.WellFormed.{AreParameters, has_name}
use Rattle.c_erasure.specs.MentionPlaces.{spoken, spoken_of_all, spoken_if_any, spoken_of_type, spoken_of_specifiers, spoken_of_specifier, spoken_of_members}
use Rattle.c_erasure.specs.MentionPlaces.{spoken_of_fields, spoken_of_enumerators, spoken_of_value, spoken_of_declarator, spoken_of_list, spoken_of_parameters}
use Rattle.c_erasure.proofs.MarkPlaces.Walks.{comma_along, texts_along, consts_along, tag_along}
use Rattle.c_erasure.proofs.MarkPlaces.MarksOfParts.{along}
use Rattle.c_checking_laws.proofs.TextOrder.Rising.{unmarked}
use Rattle.c_checking_units.proofs.Spread.{Spread, none, skip, here, both, swap, before, after, quiet}

-- what has a name is not nothing
pub named_is : (d : Trees.Declarator) → has_name d ≡ true → d ≢ Trees.nothing
named_is d h e = let false_is_true : false ≡ true = subst (λ d. has_name d ≡ true) e h in cc

-- a type stands at its declarator, or else at its first token
typed_from : (specs : Trees.Specifiers) (d : Trees.Declarator) {rest : List Lexeme}
    → Spread (first_specifiers specs ∷ spoken_of_specifiers specs) (spelled_specifiers specs (spelled_declarator d rest)) (spelled_declarator d rest)
    → Spread (spoken_of_specifiers specs) (spelled_specifiers specs (spelled_declarator d rest)) (spelled_declarator d rest)
    → (d ≢ Trees.nothing → Spread (first_declarator d (first_specifiers specs) ∷ spoken_of_declarator d) (spelled_declarator d rest) rest)
    → Spread (spoken_of_specifiers specs ++ first_declarator d (first_specifiers specs) ∷ spoken_of_declarator d)
    (spelled_specifiers specs (spelled_declarator d rest)) rest
typed_from specs Trees.nothing p q r = swap (spoken_of_specifiers specs) (first_specifiers specs ∷ []) p
typed_from specs (Trees.named x) p q r = both q (r (λ e. cc))
typed_from specs (Trees.pointer at consts d) p q r = both q (r (λ e. cc))
typed_from specs (Trees.enclosed left d right) p q r = both q (r (λ e. cc))
typed_from specs (Trees.array d left length right) p q r = both q (r (λ e. cc))
typed_from specs (Trees.function d left all right) p q r = both q (r (λ e. cc))

-- a declarator with what stands behind a bracket or parenthesis
behind_from : (d : Trees.Declarator) (m : Punctuator) (left : ℕ) (places : List ℕ) {tokens rest : List Lexeme}
    → (d ≢ Trees.nothing → Spread (first_declarator d left ∷ spoken_of_declarator d) (spelled_declarator d (punctuator m left ∷ tokens))
    (punctuator m left ∷ tokens))
    → Spread places tokens rest
    → Spread ((first_declarator d left ∷ spoken_of_declarator d) ++ places) (spelled_declarator d (punctuator m left ∷ tokens)) rest
behind_from Trees.nothing m left places r p = here p
behind_from (Trees.named x) m left places r p = both (r (λ e. cc)) (skip p)
behind_from (Trees.pointer at consts d) m left places r p = both (r (λ e. cc)) (skip p)
behind_from (Trees.enclosed begin d end) m left places r p = both (r (λ e. cc)) (skip p)
behind_from (Trees.array d begin length end) m left places r p = both (r (λ e. cc)) (skip p)
behind_from (Trees.function d begin all end) m left places r p = both (r (λ e. cc)) (skip p)

module _ (u : ℕ → List ℕ) (types : List (List ℕ)) where
  mutual
    pub speaks : (t : Trees.Expression) → IsExpression types t → {rest : List Lexeme} → Spread (spoken t) (spelled t rest) rest
    speaks (Trees.name x) w = skip none
    speaks (Trees.number x n kind) w = skip none
    speaks (Trees.character x n) w = skip none
    speaks (Trees.texts all) w = quiet (unmarked (texts_along all))
    speaks (Trees.paren left a right) w = skip (before (speaks a w) (skip none))
    speaks (Trees.index a left b right) w = both (speaks a w.1) (skip (before (speaks b w.2) (skip none)))
    speaks (Trees.call f left all right) w = both (speaks f w.1) (skip (before (all_speak true all w.2) (skip none)))
    speaks (Trees.dot a at x) w = before (speaks a w.1) (skip (skip none))
    speaks (Trees.arrow a at x) w = before (speaks a w.1) (skip (skip none))
    speaks (Trees.post a op at) w = before (speaks a w.1) (skip none)
    speaks (Trees.pre op at a) w = skip (speaks a w.1)
    speaks (Trees.unary op at a) w = skip (speaks a w.1)
    speaks (Trees.sizeof_expression at a) w = here (quiet (unmarked (along u types a w.1)))
    speaks (Trees.sizeof_type at left t right) w = here (skip (before (type_speaks t w) (skip none)))
    speaks (Trees.cast left t right a) w = skip (both (type_speaks t w.1) (skip (speaks a w.2)))
    speaks (Trees.binary a op at b) w = both (speaks a w.2) (skip (speaks b w.3))
    speaks (Trees.cond a question b colon c) w = both (both (speaks a w.2) (skip (speaks b w.3))) (skip (speaks c w.4))
    speaks (Trees.assign a op at b) w = both (speaks a w.2) (skip (speaks b w.3))
    speaks (Trees.comma a at b) w = both (speaks a w.1) (skip (speaks b w.2))
    speaks (Trees.braces left all comma right) w = absurd w

    all_speak : (start : Bool) (t : Trees.Arguments) → AreArguments types start t → {rest : List Lexeme}
        → Spread (spoken_of_all t) (spelled_arguments t rest) rest
    all_speak start Trees.no_arguments w = none
    all_speak start (Trees.and_argument comma a more) w = after (quiet (unmarked (comma_along comma))) (both (speaks a w.2) (all_speak false more w.3))

    if_any_speaks : (t : Trees.OptionalExpression) → IsOptional types t → {rest : List Lexeme} → Spread (spoken_if_any t) (spelled_optional t rest) rest
    if_any_speaks Trees.no_expression w = none
    if_any_speaks (Trees.some_expression a) w = speaks a w.1

    type_speaks : (t : Trees.TypeName) → IsTypeName types t → {rest : List Lexeme} → Spread (spoken_of_type t) (spelled_type_name t rest) rest
    type_speaks (Trees.type_name specs d) w =
        typed_from specs d (first_speaks specs w.0) (specifiers_speak specs w.0) (λ n. declared_speaks d n w.1 (first_specifiers specs))

    -- a declarator stands at its own first token
    pub declared_speaks : (t : Trees.Declarator) → t ≢ Trees.nothing → IsDeclarator types t → (at : ℕ) → {rest : List Lexeme}
        → Spread (first_declarator t at ∷ spoken_of_declarator t) (spelled_declarator t rest) rest
    declared_speaks Trees.nothing n w at = absurd (n refl)
    declared_speaks (Trees.named x) n w at = here none
    declared_speaks (Trees.pointer star consts d) n w at = here (after (quiet (unmarked (consts_along consts))) (declarator_speaks d w))
    declared_speaks (Trees.enclosed left d right) n w at = here (before (declarator_speaks d w.1) (skip none))
    declared_speaks (Trees.array d left bound right) n w at =
        behind_from d M.OpenSquare left (spoken_if_any bound) (λ n. declared_speaks d n w.1 left) (before (if_any_speaks bound w.2) (skip none))
    declared_speaks (Trees.function d left all right) n w at =
        behind_from d M.Open left (spoken_of_list all) (λ n. declared_speaks d n w.1 left) (before (list_speaks all w.2) (skip none))

    -- its first token stands before all of which specifiers speak
    first_speaks : (t : Trees.Specifiers) → AreSpecifiers types t → {rest : List Lexeme}
        → Spread (first_specifiers t ∷ spoken_of_specifiers t) (spelled_specifiers t rest) rest
    first_speaks Trees.no_specifiers w = absurd w
    first_speaks (Trees.and_specifier s more) w = both (first_of_one s w.0) (more_speak more w.1)

    first_of_one : (t : Trees.Specifier) → IsSpecifier types t → {rest : List Lexeme}
        → Spread (first_specifier t ∷ spoken_of_specifier t) (spelled_specifier t rest) rest
    first_of_one (Trees.plain word at) w = here none
    first_of_one (Trees.typename x) w = here none
    first_of_one (Trees.struct_named at x) w = here (skip none)
    first_of_one (Trees.struct_body at x left all right) w =
        here (after (quiet (unmarked (tag_along x))) (skip (before (members_speak all w.1) (skip none))))
    first_of_one (Trees.enum_named at x) w = here (skip none)
    first_of_one (Trees.enum_body at x left all comma right) w =
        here (after (quiet (unmarked (tag_along x)))
        (skip (before (enumerators_speak true all w.1) (after (quiet (unmarked (comma_along comma))) (skip none)))))

    pub specifiers_speak : (t : Trees.Specifiers) → AreSpecifiers types t → {rest : List Lexeme}
        → Spread (spoken_of_specifiers t) (spelled_specifiers t rest) rest
    specifiers_speak Trees.no_specifiers w = absurd w
    specifiers_speak (Trees.and_specifier s more) w = both (specifier_speaks s w.0) (more_speak more w.1)

    more_speak : (t : Trees.Specifiers) → AreMoreSpecifiers types t → {rest : List Lexeme} → Spread (spoken_of_specifiers t) (spelled_specifiers t rest) rest
    more_speak Trees.no_specifiers w = none
    more_speak (Trees.and_specifier s more) w = both (specifier_speaks s w.0) (more_speak more w.1)

    specifier_speaks : (t : Trees.Specifier) → IsSpecifier types t → {rest : List Lexeme} → Spread (spoken_of_specifier t) (spelled_specifier t rest) rest
    specifier_speaks (Trees.plain word at) w = skip none
    specifier_speaks (Trees.typename x) w = skip none
    specifier_speaks (Trees.struct_named at x) w = skip (skip none)
    specifier_speaks (Trees.struct_body at x left all right) w =
        skip (after (quiet (unmarked (tag_along x))) (skip (before (members_speak all w.1) (skip none))))
    specifier_speaks (Trees.enum_named at x) w = skip (skip none)
    specifier_speaks (Trees.enum_body at x left all comma right) w =
        skip (after (quiet (unmarked (tag_along x)))
        (skip (before (enumerators_speak true all w.1) (after (quiet (unmarked (comma_along comma))) (skip none)))))

    members_speak : (t : Trees.MemberDeclarations) → AreMemberDeclarations types t → {rest : List Lexeme}
        → Spread (spoken_of_members t) (spelled_member_declarations t rest) rest
    members_speak Trees.no_member_declarations w = none
    members_speak (Trees.and_member_declaration specs ds semicolon more) w =
        both (both (specifiers_speak specs w.0) (fields_speak true ds w.2 semicolon)) (skip (members_speak more w.3))

    fields_speak : (start : Bool) (t : Trees.MemberDeclarators) → AreMemberDeclarators types start t → (semicolon : ℕ) → {rest : List Lexeme}
        → Spread (spoken_of_fields t semicolon) (spelled_member_declarators t rest) rest
    fields_speak start Trees.no_member_declarators w semicolon = none
    fields_speak start (Trees.and_member_declarator comma d more) w semicolon =
        after (quiet (unmarked (comma_along comma)))
        (both (declared_speaks d (named_is d w.2) w.1 semicolon) (fields_speak false more w.3 semicolon))

    enumerators_speak : (start : Bool) (t : Trees.Enumerators) → AreEnumerators types start t → {rest : List Lexeme}
        → Spread (spoken_of_enumerators t) (spelled_enumerators t rest) rest
    enumerators_speak start Trees.no_enumerators w = none
    enumerators_speak start (Trees.and_enumerator comma x value more) w =
        after (quiet (unmarked (comma_along comma))) (skip (both (value_speaks value w.2) (enumerators_speak false more w.3)))

    value_speaks : (t : Trees.EnumeratorValue) → IsEnumeratorValue types t → {rest : List Lexeme} → Spread (spoken_of_value t) (spelled_enumerator_value t rest) rest
    value_speaks Trees.no_value w = none
    value_speaks (Trees.valued equal a) w = skip (speaks a w.1)

    declarator_speaks : (t : Trees.Declarator) → IsDeclarator types t → {rest : List Lexeme} → Spread (spoken_of_declarator t) (spelled_declarator t rest) rest
    declarator_speaks Trees.nothing w = none
    declarator_speaks (Trees.named x) w = skip none
    declarator_speaks (Trees.pointer at consts d) w = skip (after (quiet (unmarked (consts_along consts))) (declarator_speaks d w))
    declarator_speaks (Trees.enclosed left d right) w = skip (before (declarator_speaks d w.1) (skip none))
    declarator_speaks (Trees.array d left bound right) w = both (declarator_speaks d w.1) (skip (before (if_any_speaks bound w.2) (skip none)))
    declarator_speaks (Trees.function d left all right) w = both (declarator_speaks d w.1) (skip (before (list_speaks all w.2) (skip none)))

    list_speaks : (t : Trees.ParameterList) → IsParameterList types t → {rest : List Lexeme} → Spread (spoken_of_list t) (spelled_parameter_list t rest) rest
    list_speaks (Trees.void_alone at) w = skip none
    list_speaks (Trees.listed all) w = parameters_speak true all w.1

    parameters_speak : (start : Bool) (t : Trees.Parameters) → AreParameters types start t → {rest : List Lexeme}
        → Spread (spoken_of_parameters t) (spelled_parameters t rest) rest
    parameters_speak start Trees.no_parameters w = none
    parameters_speak start (Trees.and_parameter comma specs d more) w =
        after (quiet (unmarked (comma_along comma))) (both
        (typed_from specs d (first_speaks specs w.1) (specifiers_speak specs w.1) (λ n. declared_speaks d n w.2 (first_specifiers specs)))
        (parameters_speak false more w.3))
