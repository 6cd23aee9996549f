-- What holds of the places of all tokens of a part of a tree, and of those behind it, holds of those behind it, and of the tags in the part.
use Rattle.std.proofs.Common.{ℕ, List, [], ◌∷◌, ◌++◌, Option, Some, None}
use Rattle.std.specs.List.{AllByRecursion}
use Rattle.c_ast.specs.declared.words.Spelling.{Spelling}
use Rattle.c_ast.specs.Trees
use Rattle.c_ast.specs.Spelling.{Lexeme, spelled_comma, spelled_texts, spelled_tag, spelled_consts, spelled, spelled_arguments, spelled_optional}
use Rattle.c_ast.specs.Spelling.{spelled_type_name, spelled_specifiers, spelled_specifier, spelled_member_declarations, spelled_member_declarators}
use Rattle.c_ast.specs.Spelling.{spelled_enumerators, spelled_enumerator_value, spelled_declarator, spelled_parameter_list, spelled_parameters}
use Rattle.c_erasure.specs.Marks.{Mark, a_tag, marks, marks_of_all, marks_if_any, marks_of_type, marks_of_specifiers, marks_of_specifier}
use Rattle.c_erasure.specs.Marks.{marks_of_members, marks_of_member_declarators, marks_of_enumerators, marks_of_value, marks_of_declarator}
use Rattle.c_erasure.specs.Marks.{tag_place, an_enumeration}

pub record Tokens (P : ℕ → Type 0) (tokens : List Lexeme) : Type 0 where
  pub each : AllByRecursion (λ token. P token.from) tokens

pub front : {P : ℕ → Type 0} {token : Lexeme} {rest : List Lexeme} → Tokens P (token ∷ rest) → P token.from
front h = h.each.0

pub back : {P : ℕ → Type 0} {token : Lexeme} {rest : List Lexeme} → Tokens P (token ∷ rest) → Tokens P rest
back h = record { each = h.each.1 }

pub comma_after : {P : ℕ → Type 0} (c : Option ℕ) {rest : List Lexeme} → Tokens P (spelled_comma c rest) → Tokens P rest
comma_after None h = h
comma_after (Some at) h = back h

pub tag_after : {P : ℕ → Type 0} (x : Option Spelling) {rest : List Lexeme} → Tokens P (spelled_tag x rest) → Tokens P rest
tag_after None h = h
tag_after (Some x) h = back h

pub texts_after : {P : ℕ → Type 0} (all : List Spelling) {rest : List Lexeme} → Tokens P (spelled_texts all rest) → Tokens P rest
texts_after [] h = h
texts_after (x ∷ more) h = texts_after more (back h)

pub consts_after : {P : ℕ → Type 0} (all : List ℕ) {rest : List Lexeme} → Tokens P (spelled_consts all rest) → Tokens P rest
consts_after [] h = h
consts_after (at ∷ more) h = consts_after more (back h)

-- ---- tags

abbrev pub IsTagAt : (ℕ → Type 0) → Mark → Type 0
IsTagAt P (a_tag t) = P t.place
IsTagAt P mark = Unit {0}

pub record Tags (P : ℕ → Type 0) (all : List Mark) : Type 0 where
  pub each : AllByRecursion (IsTagAt P) all

pub record Behind (P : ℕ → Type 0) (all : List Mark) (rest : List Lexeme) : Type 0 where
  pub tags : Tags P all
  pub tokens : Tokens P rest

pub no_tags : {P : ℕ → Type 0} → Tags P []
no_tags = record { each = tt }

pub tag_before : {P : ℕ → Type 0} {mark : Mark} {all : List Mark} → IsTagAt P mark → Tags P all → Tags P (mark ∷ all)
tag_before p q = record { each = (p, q.each) }

pub only : {P : ℕ → Type 0} {rest : List Lexeme} → Tokens P rest → Behind P [] rest
only h = record { tags = no_tags; tokens = h }

pub joined : {P : ℕ → Type 0} (a : List Mark) {b : List Mark} → Tags P a → Tags P b → Tags P (a ++ b)
joined [] p q = q
joined (mark ∷ a) p q = tag_before p.each.0 (joined a (record { each = p.each.1 }) q)

-- with what stands behind
pub skipped : {P : ℕ → Type 0} {all : List Mark} {token : Lexeme} {rest : List Lexeme} → Behind P all (token ∷ rest) → Behind P all rest
skipped p = record { tags = p.tags; tokens = back p.tokens }

pub and : {P : ℕ → Type 0} {a b : List Mark} {middle rest : List Lexeme} → Behind P a middle → Behind P b rest → Behind P (a ++ b) rest
and {P} {a} p q = record { tags = joined a p.tags q.tags; tokens = q.tokens }

-- a structure's tag stands at its name, or else at its keyword
structure_at : {P : ℕ → Type 0} (u : ℕ → List ℕ) (at : ℕ) (x : Option Spelling) (rest : List Lexeme) → P at → Tokens P (spelled_tag x rest)
    → P (tag_place u at x)
structure_at u at None rest p h = p
structure_at u at (Some x) rest p h = front h

enumeration_at : {P : ℕ → Type 0} (u : ℕ → List ℕ) (x : Option Spelling) (right : ℕ) (rest : List Lexeme) → Tokens P (spelled_tag x rest)
    → Tags P (an_enumeration u x right)
enumeration_at u None right rest h = no_tags
enumeration_at u (Some x) right rest h = tag_before (front h) no_tags

-- ---- parts of a tree; `u` gives the tags of structures without one

module _ (P : ℕ → Type 0) (u : ℕ → List ℕ) where
  mutual
    pub expression_behind : (t : Trees.Expression) {rest : List Lexeme} → Tokens P (spelled t rest) → Behind P (marks u t) rest
    expression_behind (Trees.name x) h = only (back h)
    expression_behind (Trees.number x n kind) h = only (back h)
    expression_behind (Trees.character x n) h = only (back h)
    expression_behind (Trees.texts all) h = only (texts_after all h)
    expression_behind (Trees.paren left a right) h = skipped (expression_behind a (back h))
    expression_behind (Trees.index a left b right) h =
        let p = expression_behind a h in and p (skipped (expression_behind b (back p.tokens)))
    expression_behind (Trees.call f left all right) h =
        let p = expression_behind f h in and p (skipped (arguments_behind all (back p.tokens)))
    expression_behind (Trees.dot a at x) h = skipped (skipped (expression_behind a h))
    expression_behind (Trees.arrow a at x) h = skipped (skipped (expression_behind a h))
    expression_behind (Trees.post a op at) h = skipped (expression_behind a h)
    expression_behind (Trees.pre op at a) h = expression_behind a (back h)
    expression_behind (Trees.unary op at a) h = expression_behind a (back h)
    expression_behind (Trees.sizeof_expression at a) h = expression_behind a (back h)
    expression_behind (Trees.sizeof_type at left t right) h = skipped (type_name_behind t (back (back h)))
    expression_behind (Trees.cast left t right a) h =
        let p = type_name_behind t (back h) in and p (expression_behind a (back p.tokens))
    expression_behind (Trees.binary a op at b) h = let p = expression_behind a h in and p (expression_behind b (back p.tokens))
    expression_behind (Trees.cond a question b colon c) h =
        let p = expression_behind a h in
        let q = expression_behind b (back p.tokens) in
        and (and p q) (expression_behind c (back q.tokens))
    expression_behind (Trees.assign a op at b) h = let p = expression_behind a h in and p (expression_behind b (back p.tokens))
    expression_behind (Trees.comma a at b) h = let p = expression_behind a h in and p (expression_behind b (back p.tokens))
    expression_behind (Trees.braces left all comma right) h =
        let p = arguments_behind all (back h) in record { tags = p.tags; tokens = back (comma_after comma p.tokens) }

    pub arguments_behind : (t : Trees.Arguments) {rest : List Lexeme} → Tokens P (spelled_arguments t rest) → Behind P (marks_of_all u t) rest
    arguments_behind Trees.no_arguments h = only h
    arguments_behind (Trees.and_argument comma a more) h =
        let p = expression_behind a (comma_after comma h) in and p (arguments_behind more p.tokens)

    pub optional_behind : (t : Trees.OptionalExpression) {rest : List Lexeme} → Tokens P (spelled_optional t rest) → Behind P (marks_if_any u t) rest
    optional_behind Trees.no_expression h = only h
    optional_behind (Trees.some_expression a) h = expression_behind a h

    pub type_name_behind : (t : Trees.TypeName) {rest : List Lexeme} → Tokens P (spelled_type_name t rest) → Behind P (marks_of_type u t) rest
    type_name_behind (Trees.type_name specs d) h = let p = specifiers_behind specs h in and p (declarator_behind d p.tokens)

    pub specifiers_behind : (t : Trees.Specifiers) {rest : List Lexeme} → Tokens P (spelled_specifiers t rest) → Behind P (marks_of_specifiers u t) rest
    specifiers_behind Trees.no_specifiers h = only h
    specifiers_behind (Trees.and_specifier s more) h = let p = specifier_behind s h in and p (specifiers_behind more p.tokens)

    pub specifier_behind : (t : Trees.Specifier) {rest : List Lexeme} → Tokens P (spelled_specifier t rest) → Behind P (marks_of_specifier u t) rest
    specifier_behind (Trees.plain word at) h = only (back h)
    specifier_behind (Trees.typename x) h = only (back h)
    specifier_behind (Trees.struct_named at x) h = record { tags = tag_before (front (back h)) no_tags; tokens = back (back h) }
    specifier_behind (Trees.struct_body at x left all right) h =
        let p = members_behind all (back (tag_after x (back h))) in
        record {
          tags = tag_before (structure_at u at x _ (front h) (back h)) (joined (marks_of_members u all) p.tags (tag_before tt no_tags));
          tokens = back p.tokens;
        }
    specifier_behind (Trees.enum_named at x) h = only (back (back h))
    specifier_behind (Trees.enum_body at x left all comma right) h =
        let p = enumerators_behind all _ (back (tag_after x (back h))) in
        record {
          tags = joined (marks_of_enumerators u all _) p.tags (enumeration_at u x right _ (back h));
          tokens = back (comma_after comma p.tokens);
        }

    pub members_behind : (t : Trees.MemberDeclarations) {rest : List Lexeme} → Tokens P (spelled_member_declarations t rest) → Behind P (marks_of_members u t) rest
    members_behind Trees.no_member_declarations h = only h
    members_behind (Trees.and_member_declaration specs ds semicolon more) h =
        let p = specifiers_behind specs h in
        let q = member_declarators_behind ds p.tokens in
        and (and p q) (members_behind more (back q.tokens))

    pub member_declarators_behind : (t : Trees.MemberDeclarators) {rest : List Lexeme} → Tokens P (spelled_member_declarators t rest)
        → Behind P (marks_of_member_declarators u t) rest
    member_declarators_behind Trees.no_member_declarators h = only h
    member_declarators_behind (Trees.and_member_declarator comma d more) h =
        let p = declarator_behind d (comma_after comma h) in and p (member_declarators_behind more p.tokens)

    pub enumerators_behind : (t : Trees.Enumerators) (after : ℕ) {rest : List Lexeme} → Tokens P (spelled_enumerators t rest)
        → Behind P (marks_of_enumerators u t after) rest
    enumerators_behind Trees.no_enumerators after h = only h
    enumerators_behind (Trees.and_enumerator comma x value more) after h =
        let p = value_behind value (back (comma_after comma h)) in
        let q = enumerators_behind more after p.tokens in
        record { tags = joined (marks_of_value u value) p.tags (tag_before tt q.tags); tokens = q.tokens }

    pub value_behind : (t : Trees.EnumeratorValue) {rest : List Lexeme} → Tokens P (spelled_enumerator_value t rest) → Behind P (marks_of_value u t) rest
    value_behind Trees.no_value h = only h
    value_behind (Trees.valued equal a) h = expression_behind a (back h)

    pub declarator_behind : (t : Trees.Declarator) {rest : List Lexeme} → Tokens P (spelled_declarator t rest) → Behind P (marks_of_declarator u t) rest
    declarator_behind Trees.nothing h = only h
    declarator_behind (Trees.named x) h = only (back h)
    declarator_behind (Trees.pointer at consts d) h = declarator_behind d (consts_after consts (back h))
    declarator_behind (Trees.enclosed left d right) h = skipped (declarator_behind d (back h))
    declarator_behind (Trees.array d left length right) h =
        let p = declarator_behind d h in and p (skipped (optional_behind length (back p.tokens)))
    declarator_behind (Trees.function d left all right) h =
        let p = declarator_behind d h in record { tags = p.tags; tokens = back (list_behind all (back p.tokens)) }

    pub list_behind : (t : Trees.ParameterList) {rest : List Lexeme} → Tokens P (spelled_parameter_list t rest) → Tokens P rest
    list_behind (Trees.void_alone at) h = back h
    list_behind (Trees.listed all) h = parameters_behind all h

    pub parameters_behind : (t : Trees.Parameters) {rest : List Lexeme} → Tokens P (spelled_parameters t rest) → Tokens P rest
    parameters_behind Trees.no_parameters h = h
    parameters_behind (Trees.and_parameter comma specs d more) h =
        let p = specifiers_behind specs (comma_after comma h) in
        parameters_behind more (declarator_behind d p.tokens).tokens
