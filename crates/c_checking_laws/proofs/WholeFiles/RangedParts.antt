-- The literals of a well formed part are in range where those among its tokens are.
use Rattle.std.proofs.Common.{◌≡◌, ◌≢◌, ℕ, Bool, true, false, refl, List, [], ◌∷◌}
use Rattle.std.specs.Prelude.{Option, Some, None}
use Rattle.c_tokens.specs.declared.token.TokenKind.{TokenKind}
use Rattle.c_tokens.specs.declared.token.TokenKind.TheVariants as K
use Rattle.c_types.specs.declared.ty.IntKind.TheVariants.{Int}
use Rattle.c_typed.specs.Conversions.{as_kind}
use Rattle.c_ast.specs.declared.words.Spelling.{Spelling}
use Rattle.c_ast.specs.Trees
use Rattle.c_ast.specs.Spelling.{Lexeme, spelled, spelled_arguments, spelled_optional, spelled_type_name, spelled_specifiers, spelled_comma, spelled_texts}
use Rattle.c_ast.specs.Spelling.{spelled_tag, spelled_consts, spelled_specifier, spelled_member_declarations, spelled_member_declarators, spelled_enumerators}
use Rattle.c_ast.specs.Spelling.{spelled_enumerator_value, spelled_declarator, spelled_parameter_list, spelled_parameters}
use Rattle.c_ast.specs.WellFormed.{IsExpression, AreArguments, IsOptional, IsTypeName, AreSpecifiers, AreMoreSpecifiers, IsSpecifier}
use Rattle.c_ast.specs.WellFormed.{AreMemberDeclarations, AreMemberDeclarators, AreEnumerators, IsEnumeratorValue, IsDeclarator, IsParameterList}
use Rattle.c_ast.specs.WellFormed.{AreParameters, IsInitializer, AreInitializers}
use Rattle.c_checking_laws.proofs.InRange as InRange
use Rattle.c_checking_laws.proofs.InRange.{IsInRange, AreInRange, IsOptionInRange, IsTypeInRange, AreSpecifiersInRange, IsSpecifierInRange, AreMembersInRange}
use Rattle.c_checking_laws.proofs.InRange.{HasMember, AreEnumeratorsInRange, IsDeclaratorInRange, IsListInRange, AreParametersInRange}

abbrev pub IsRanged : TokenKind → Type 0
IsRanged (K.Number n kind) = as_kind kind n ≡ n
IsRanged (K.Character n) = as_kind Int n ≡ n
IsRanged kind = Unit {0}

abbrev pub AreRanged : List Lexeme → Type 0
AreRanged [] = Unit {0}
AreRanged (t ∷ tokens) = IsRanged t.kind × AreRanged tokens

pub behind_comma : (c : Option ℕ) (rest : List Lexeme) → AreRanged (spelled_comma c rest) → AreRanged rest
behind_comma None rest h = h
behind_comma (Some at) rest h = h.1

behind_texts : (all : List Spelling) (rest : List Lexeme) → AreRanged (spelled_texts all rest) → AreRanged rest
behind_texts [] rest h = h
behind_texts (x ∷ more) rest h = behind_texts more rest h.1

behind_tag : (x : Option Spelling) (rest : List Lexeme) → AreRanged (spelled_tag x rest) → AreRanged rest
behind_tag None rest h = h
behind_tag (Some x) rest h = h.1

behind_consts : (all : List ℕ) (rest : List Lexeme) → AreRanged (spelled_consts all rest) → AreRanged rest
behind_consts [] rest h = h
behind_consts (at ∷ more) rest h = behind_consts more rest h.1

-- the grammar has a member in each structure that is defined
has_member : (types : List (List ℕ)) (all : Trees.MemberDeclarations) → all ≢ Trees.no_member_declarations → AreMemberDeclarations types all → HasMember all
has_member types Trees.no_member_declarations n w = absurd (n refl)
has_member types (Trees.and_member_declaration specs Trees.no_member_declarators semicolon more) n w = absurd (w.1 refl)
has_member types (Trees.and_member_declaration specs (Trees.and_member_declarator comma d others) semicolon more) n w = tt

module _ (types : List (List ℕ)) where
  mutual
    pub ranged : (a : Trees.Expression) → IsExpression types a → (rest : List Lexeme) → AreRanged (spelled a rest) → IsInRange a × AreRanged rest
    ranged (Trees.name x) w rest h = (tt, h.1)
    ranged (Trees.number x n kind) w rest h = (h.0, h.1)
    ranged (Trees.character x n) w rest h = (h.0, h.1)
    ranged (Trees.texts all) w rest h = (tt, behind_texts all rest h)
    ranged (Trees.paren left a right) w rest h = let b = ranged a w _ h.1 in (b.0, b.1.1)
    ranged (Trees.index a left b right) w rest h = let p = ranged a w.1 _ h in let q = ranged b w.2 _ p.1.1 in ((p.0, q.0), q.1.1)
    ranged (Trees.call f left all right) w rest h = let p = ranged f w.1 _ h in let q = ranged_all true all w.2 _ p.1.1 in ((p.0, q.0), q.1.1)
    ranged (Trees.dot a at x) w rest h = let p = ranged a w.1 _ h in (p.0, p.1.1.1)
    ranged (Trees.arrow a at x) w rest h = let p = ranged a w.1 _ h in (p.0, p.1.1.1)
    ranged (Trees.post a op at) w rest h = let p = ranged a w.1 _ h in (p.0, p.1.1)
    ranged (Trees.pre op at a) w rest h = ranged a w.1 rest h.1
    ranged (Trees.unary op at a) w rest h = ranged a w.1 rest h.1
    ranged (Trees.sizeof_expression at a) w rest h = ranged a w.1 rest h.1
    ranged (Trees.sizeof_type at left m right) w rest h = let p = ranged_type m w _ h.1.1 in (p.0, p.1.1)
    ranged (Trees.cast left m right a) w rest h = let p = ranged_type m w.1 _ h.1 in let q = ranged a w.2 rest p.1.1 in ((p.0, q.0), q.1)
    ranged (Trees.binary a op at b) w rest h = let p = ranged a w.2 _ h in let q = ranged b w.3 rest p.1.1 in ((p.0, q.0), q.1)
    ranged (Trees.cond a question b colon c) w rest h =
        let p = ranged a w.2 _ h in let q = ranged b w.3 _ p.1.1 in let r = ranged c w.4 rest q.1.1 in ((p.0, q.0, r.0), r.1)
    ranged (Trees.assign a op at b) w rest h = let p = ranged a w.2 _ h in let q = ranged b w.3 rest p.1.1 in ((p.0, q.0), q.1)
    ranged (Trees.comma a at b) w rest h = let p = ranged a w.1 _ h in let q = ranged b w.2 rest p.1.1 in ((p.0, q.0), q.1)
    ranged (Trees.braces left all comma right) w rest h = absurd w

    ranged_all : (lead : Bool) (all : Trees.Arguments) → AreArguments types lead all → (rest : List Lexeme) → AreRanged (spelled_arguments all rest)
        → AreInRange all × AreRanged rest
    ranged_all lead Trees.no_arguments w rest h = (tt, h)
    ranged_all lead (Trees.and_argument comma a more) w rest h =
        let p = ranged a w.2 _ (behind_comma comma _ h) in let q = ranged_all false more w.3 rest p.1 in ((p.0, q.0), q.1)

    ranged_optional : (a : Trees.OptionalExpression) → IsOptional types a → (rest : List Lexeme) → AreRanged (spelled_optional a rest)
        → IsOptionInRange a × AreRanged rest
    ranged_optional Trees.no_expression w rest h = (tt, h)
    ranged_optional (Trees.some_expression a) w rest h = ranged a w.1 rest h

    ranged_type : (m : Trees.TypeName) → IsTypeName types m → (rest : List Lexeme) → AreRanged (spelled_type_name m rest) → IsTypeInRange m × AreRanged rest
    ranged_type (Trees.type_name specs d) w rest h =
        let p = ranged_specifiers specs w.0 _ h in let q = ranged_declarator d w.1 rest p.1 in ((p.0, q.0), q.1)

    pub ranged_specifiers : (specs : Trees.Specifiers) → AreSpecifiers types specs → (rest : List Lexeme) → AreRanged (spelled_specifiers specs rest)
        → AreSpecifiersInRange specs × AreRanged rest
    ranged_specifiers Trees.no_specifiers w rest h = absurd w
    ranged_specifiers (Trees.and_specifier s more) w rest h =
        let p = ranged_specifier s w.0 _ h in let q = ranged_more more w.1 rest p.1 in ((p.0, q.0), q.1)

    ranged_more : (specs : Trees.Specifiers) → AreMoreSpecifiers types specs → (rest : List Lexeme) → AreRanged (spelled_specifiers specs rest)
        → AreSpecifiersInRange specs × AreRanged rest
    ranged_more Trees.no_specifiers w rest h = (tt, h)
    ranged_more (Trees.and_specifier s more) w rest h =
        let p = ranged_specifier s w.0 _ h in let q = ranged_more more w.1 rest p.1 in ((p.0, q.0), q.1)

    ranged_specifier : (s : Trees.Specifier) → IsSpecifier types s → (rest : List Lexeme) → AreRanged (spelled_specifier s rest)
        → IsSpecifierInRange s × AreRanged rest
    ranged_specifier (Trees.plain word at) w rest h = (tt, h.1)
    ranged_specifier (Trees.typename x) w rest h = (tt, h.1)
    ranged_specifier (Trees.struct_named at x) w rest h = (tt, h.1.1)
    ranged_specifier (Trees.struct_body at x left all right) w rest h =
        let t = behind_tag x _ h.1 in let p = ranged_members all w.1 _ t.1 in ((has_member types all w.0 w.1, p.0), p.1.1)
    ranged_specifier (Trees.enum_named at x) w rest h = (tt, h.1.1)
    ranged_specifier (Trees.enum_body at x left all comma right) w rest h =
        let t = behind_tag x _ h.1 in let p = ranged_enumerators true all w.1 _ t.1 in (p.0, (behind_comma comma _ p.1).1)

    ranged_members : (all : Trees.MemberDeclarations) → AreMemberDeclarations types all → (rest : List Lexeme)
        → AreRanged (spelled_member_declarations all rest) → AreMembersInRange all × AreRanged rest
    ranged_members Trees.no_member_declarations w rest h = (tt, h)
    ranged_members (Trees.and_member_declaration specs ds semicolon more) w rest h =
        let p = ranged_specifiers specs w.0 _ h in
        let q = ranged_declarators true ds w.2 _ p.1 in
        let r = ranged_members more w.3 rest q.1.1 in ((p.0, q.0, r.0), r.1)

    ranged_declarators : (lead : Bool) (ds : Trees.MemberDeclarators) → AreMemberDeclarators types lead ds → (rest : List Lexeme)
        → AreRanged (spelled_member_declarators ds rest) → InRange.AreDeclaratorsInRange ds × AreRanged rest
    ranged_declarators lead Trees.no_member_declarators w rest h = (tt, h)
    ranged_declarators lead (Trees.and_member_declarator comma d more) w rest h =
        let p = ranged_declarator d w.1 _ (behind_comma comma _ h) in let q = ranged_declarators false more w.3 rest p.1 in ((p.0, q.0), q.1)

    ranged_enumerators : (lead : Bool) (all : Trees.Enumerators) → AreEnumerators types lead all → (rest : List Lexeme)
        → AreRanged (spelled_enumerators all rest) → AreEnumeratorsInRange all × AreRanged rest
    ranged_enumerators lead Trees.no_enumerators w rest h = (tt, h)
    ranged_enumerators lead (Trees.and_enumerator comma x value more) w rest h =
        let c = behind_comma comma _ h in
        let p = ranged_value value w.2 _ c.1 in
        let q = ranged_enumerators false more w.3 rest p.1 in ((p.0, q.0), q.1)

    ranged_value : (value : Trees.EnumeratorValue) → IsEnumeratorValue types value → (rest : List Lexeme) → AreRanged (spelled_enumerator_value value rest)
        → InRange.IsValueInRange value × AreRanged rest
    ranged_value Trees.no_value w rest h = (tt, h)
    ranged_value (Trees.valued equal a) w rest h = ranged a w.1 rest h.1

    pub ranged_declarator : (d : Trees.Declarator) → IsDeclarator types d → (rest : List Lexeme) → AreRanged (spelled_declarator d rest)
        → IsDeclaratorInRange d × AreRanged rest
    ranged_declarator Trees.nothing w rest h = (tt, h)
    ranged_declarator (Trees.named x) w rest h = (tt, h.1)
    ranged_declarator (Trees.pointer at consts d) w rest h = ranged_declarator d w rest (behind_consts consts _ h.1)
    ranged_declarator (Trees.enclosed left d right) w rest h = let p = ranged_declarator d w.1 _ h.1 in (p.0, p.1.1)
    ranged_declarator (Trees.array d left length right) w rest h =
        let p = ranged_declarator d w.1 _ h in let q = ranged_optional length w.2 _ p.1.1 in ((p.0, q.0), q.1.1)
    ranged_declarator (Trees.function d left all right) w rest h =
        let p = ranged_declarator d w.1 _ h in let q = ranged_list all w.2 _ p.1.1 in ((p.0, q.0), q.1.1)

    ranged_list : (all : Trees.ParameterList) → IsParameterList types all → (rest : List Lexeme) → AreRanged (spelled_parameter_list all rest)
        → IsListInRange all × AreRanged rest
    ranged_list (Trees.void_alone at) w rest h = (tt, h.1)
    ranged_list (Trees.listed all) w rest h = ranged_parameters true all w.1 rest h

    ranged_parameters : (lead : Bool) (all : Trees.Parameters) → AreParameters types lead all → (rest : List Lexeme)
        → AreRanged (spelled_parameters all rest) → AreParametersInRange all × AreRanged rest
    ranged_parameters lead Trees.no_parameters w rest h = (tt, h)
    ranged_parameters lead (Trees.and_parameter comma specs d more) w rest h =
        let p = ranged_specifiers specs w.1 _ (behind_comma comma _ h) in
        let q = ranged_declarator d w.2 _ p.1 in
        let r = ranged_parameters false more w.3 rest q.1 in ((p.0, q.0, r.0), r.1)

  mutual
    pub ranged_whole : (a : Trees.Expression) → IsInitializer types a → (rest : List Lexeme) → AreRanged (spelled a rest) → IsInRange a × AreRanged rest
    ranged_whole (Trees.braces left all comma right) w rest h =
        let p = ranged_wholes true all w.1 _ h.1 in (p.0, (behind_comma comma _ p.1).1)
    ranged_whole a w rest h = ranged a w.1 rest h

    ranged_wholes : (lead : Bool) (all : Trees.Arguments) → AreInitializers types lead all → (rest : List Lexeme) → AreRanged (spelled_arguments all rest)
        → AreInRange all × AreRanged rest
    ranged_wholes lead Trees.no_arguments w rest h = (tt, h)
    ranged_wholes lead (Trees.and_argument comma a more) w rest h =
        let p = ranged_whole a w.1 _ (behind_comma comma _ h) in let q = ranged_wholes false more w.2 rest p.1 in ((p.0, q.0), q.1)
