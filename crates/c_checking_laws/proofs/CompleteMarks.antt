-- What a part declares is what its marks say, and it makes objects where its literals stand.
use Rattle.std.proofs.Common.{◌≡◌, ℕ, true, false, List, [], ◌∷◌, ◌++◌, Option, Some, None, refl, ap, ◌∙◌, append-nil}
use Rattle.c_ast.specs.declared.words.Spelling.{Spelling}
use Rattle.c_ast.specs.Trees
use Rattle.c_erasure.specs.Marks
use Rattle.c_erasure.specs.Marks.{Mark, marks, marks_of_all, marks_if_any, marks_of_type, marks_of_specifiers, marks_of_specifier, marks_of_members}
use Rattle.c_erasure.specs.Marks.{marks_of_member_declarators, marks_of_enumerators, marks_of_value, marks_of_declarator}
use Rattle.c_erasure.specs.Erasure.{after_all, comma_or}
use Rattle.c_erasure.specs.Scopes.{in_full, value_alone}
use Rattle.c_checking_laws.proofs.CompleteWalk.{Event, a_use, a_look, a_tag, an_end, a_name, a_literal, seen, walk, walk_of_all, walk_if_any, walk_of_type}
use Rattle.c_checking_laws.proofs.CompleteWalk.{walk_of_specifiers, walk_of_specifier, walk_of_members, walk_of_member_declarators, walk_of_enumerators}
use Rattle.c_checking_laws.proofs.CompleteWalk.{walk_of_value, walk_of_declarator, walk_of_parameter_list, an_enumeration}
use Rattle.c_checking_laws.proofs.CompleteLists.{froms_of, rights_of, defined_by, tags_of}

abbrev pub marks_in : List Event → List Mark
marks_in [] = []
marks_in (a_use at ∷ all) = marks_in all
marks_in (a_look at ∷ all) = marks_in all
marks_in (a_tag t ∷ all) = Marks.a_tag t ∷ marks_in all
marks_in (an_end tag right ∷ all) = Marks.an_end tag right ∷ marks_in all
marks_in (a_name from ∷ all) = Marks.a_name from ∷ marks_in all
marks_in (a_literal at ∷ all) = marks_in all

marks_both : (a b : List Event) → marks_in (a ++ b) ≡ marks_in a ++ marks_in b
marks_both [] b = refl
marks_both (a_use at ∷ a) b = marks_both a b
marks_both (a_look at ∷ a) b = marks_both a b
marks_both (a_tag t ∷ a) b = ap (λ z. Marks.a_tag t ∷ z) (marks_both a b)
marks_both (an_end tag right ∷ a) b = ap (λ z. Marks.an_end tag right ∷ z) (marks_both a b)
marks_both (a_name from ∷ a) b = ap (λ z. Marks.a_name from ∷ z) (marks_both a b)
marks_both (a_literal at ∷ a) b = marks_both a b

-- what is used for its value alone declares as much
marks_seen : (all : List Event) → marks_in (seen false value_alone all) ≡ marks_in all
marks_seen [] = refl
marks_seen (a_use at ∷ a) = marks_seen a
marks_seen (a_look at ∷ a) = marks_seen a
marks_seen (a_tag t ∷ a) = ap (λ z. Marks.a_tag t ∷ z) (marks_seen a)
marks_seen (an_end tag right ∷ a) = ap (λ z. Marks.an_end tag right ∷ z) (marks_seen a)
marks_seen (a_name from ∷ a) = ap (λ z. Marks.a_name from ∷ z) (marks_seen a)
marks_seen (a_literal at ∷ a) = marks_seen a

-- and parameters declare nothing
marks_inside : (all : List Event) → marks_in (seen true in_full all) ≡ []
marks_inside [] = refl
marks_inside (a_use at ∷ a) = marks_inside a
marks_inside (a_look at ∷ a) = marks_inside a
marks_inside (a_tag t ∷ a) = marks_inside a
marks_inside (an_end tag right ∷ a) = marks_inside a
marks_inside (a_name from ∷ a) = marks_inside a
marks_inside (a_literal at ∷ a) = marks_inside a

-- ---- the lists of both

pub froms_same : (all : List Event) → froms_of all ≡ Marks.scope_beginnings (marks_in all)
froms_same [] = refl
froms_same (a_use at ∷ a) = froms_same a
froms_same (a_look at ∷ a) = froms_same a
froms_same (a_tag t ∷ a) = froms_same a
froms_same (an_end tag right ∷ a) = froms_same a
froms_same (a_name from ∷ a) = ap (λ z. from ∷ z) (froms_same a)
froms_same (a_literal at ∷ a) = froms_same a

pub rights_same : (all : List Event) → rights_of all ≡ Marks.ends_in (marks_in all)
rights_same [] = refl
rights_same (a_use at ∷ a) = rights_same a
rights_same (a_look at ∷ a) = rights_same a
rights_same (a_tag t ∷ a) = rights_same a
rights_same (an_end tag right ∷ a) = ap (λ z. right ∷ z) (rights_same a)
rights_same (a_name from ∷ a) = rights_same a
rights_same (a_literal at ∷ a) = rights_same a

pub defined_same : (all : List Event) → defined_by all ≡ Marks.defined_in (marks_in all)
defined_same [] = refl
defined_same (a_use at ∷ a) = defined_same a
defined_same (a_look at ∷ a) = defined_same a
defined_same (a_tag t ∷ a) = defined_same a
defined_same (an_end tag right ∷ a) = ap (λ z. tag ∷ z) (defined_same a)
defined_same (a_name from ∷ a) = defined_same a
defined_same (a_literal at ∷ a) = defined_same a

pub tags_same : (all : List Event) → tags_of all ≡ Marks.tags_in (marks_in all)
tags_same [] = refl
tags_same (a_use at ∷ a) = tags_same a
tags_same (a_look at ∷ a) = tags_same a
tags_same (a_tag t ∷ a) = ap (λ z. t ∷ z) (tags_same a)
tags_same (an_end tag right ∷ a) = tags_same a
tags_same (a_name from ∷ a) = tags_same a
tags_same (a_literal at ∷ a) = tags_same a

-- ---- each part of a tree

two : {X : Type 0} (a b c d : List X) → a ≡ c → b ≡ d → a ++ b ≡ c ++ d
two a b c d p q = ap (λ a. a ++ b) p ∙ ap (λ b. c ++ b) q

module _ (u : ℕ → List ℕ) where
  joined : (a b : List Event) (m n : List Mark) → marks_in a ≡ m → marks_in b ≡ n → marks_in (a ++ b) ≡ m ++ n
  joined a b m n p q = marks_both a b ∙ two (marks_in a) (marks_in b) m n p q

  enumeration_same : (x : Option Spelling) (right : ℕ) → marks_in (an_enumeration u x right) ≡ Marks.an_enumeration u x right
  enumeration_same None right = refl
  enumeration_same (Some x) right = refl

  -- what declares nothing stands behind
  nothing_behind : (a b : List Event) (m : List Mark) → marks_in a ≡ m → marks_in b ≡ [] → marks_in (a ++ b) ≡ m
  nothing_behind a b m p q = marks_both a b ∙ ap (λ z. z ++ marks_in b) p ∙ ap (λ z. m ++ z) q ∙ append-nil m

  mutual
    pub marks_same : (t : Trees.Expression) → marks_in (walk u t) ≡ marks u t
    marks_same (Trees.name x) = refl
    marks_same (Trees.number x n kind) = refl
    marks_same (Trees.character x n) = refl
    marks_same (Trees.texts all) = refl
    marks_same (Trees.paren left a right) = marks_same a
    marks_same (Trees.index a left b right) = joined (walk u a) (walk u b) _ _ (marks_same a) (marks_same b)
    marks_same (Trees.call f left all right) = joined (walk u f) (walk_of_all u all) _ _ (marks_same f) (marks_same_all all)
    marks_same (Trees.dot a at x) = nothing_behind (walk u a) (a_look at ∷ []) _ (marks_same a) refl
    marks_same (Trees.arrow a at x) = marks_same a
    marks_same (Trees.post a op at) = marks_same a
    marks_same (Trees.pre op at a) = marks_same a
    marks_same (Trees.unary op at a) = marks_same a
    marks_same (Trees.sizeof_expression at a) = marks_seen (walk u a) ∙ marks_same a
    marks_same (Trees.sizeof_type at left n right) = nothing_behind (walk_of_type u n) (a_look right ∷ []) _ (marks_same_type n) refl
    marks_same (Trees.cast left n right a) = joined (walk_of_type u n) (walk u a) _ _ (marks_same_type n) (marks_same a)
    marks_same (Trees.binary a op at b) = joined (walk u a) (walk u b) _ _ (marks_same a) (marks_same b)
    marks_same (Trees.cond a question b colon c) =
        joined (walk u a ++ walk u b) (walk u c) _ _ (joined (walk u a) (walk u b) _ _ (marks_same a) (marks_same b)) (marks_same c)
    marks_same (Trees.assign a op at b) = joined (walk u a) (walk u b) _ _ (marks_same a) (marks_same b)
    marks_same (Trees.comma a at b) = joined (walk u a) (walk u b) _ _ (marks_same a) (marks_same b)
    marks_same (Trees.braces left all comma right) = marks_same_all all

    pub marks_same_all : (t : Trees.Arguments) → marks_in (walk_of_all u t) ≡ marks_of_all u t
    marks_same_all Trees.no_arguments = refl
    marks_same_all (Trees.and_argument comma a more) = joined (walk u a) (walk_of_all u more) _ _ (marks_same a) (marks_same_all more)

    marks_same_if_any : (t : Trees.OptionalExpression) → marks_in (walk_if_any u t) ≡ marks_if_any u t
    marks_same_if_any Trees.no_expression = refl
    marks_same_if_any (Trees.some_expression a) = marks_seen (walk u a) ∙ marks_same a

    pub marks_same_type : (t : Trees.TypeName) → marks_in (walk_of_type u t) ≡ marks_of_type u t
    marks_same_type (Trees.type_name specs d) =
        joined (walk_of_specifiers u specs) (walk_of_declarator u d) _ _ (marks_same_specifiers specs) (marks_same_declarator d)

    pub marks_same_specifiers : (t : Trees.Specifiers) → marks_in (walk_of_specifiers u t) ≡ marks_of_specifiers u t
    marks_same_specifiers Trees.no_specifiers = refl
    marks_same_specifiers (Trees.and_specifier s more) =
        joined (walk_of_specifier u s) (walk_of_specifiers u more) _ _ (marks_same_specifier s) (marks_same_specifiers more)

    marks_same_specifier : (t : Trees.Specifier) → marks_in (walk_of_specifier u t) ≡ marks_of_specifier u t
    marks_same_specifier (Trees.plain word at) = refl
    marks_same_specifier (Trees.typename x) = refl
    marks_same_specifier (Trees.struct_named at x) = refl
    marks_same_specifier (Trees.struct_body at x left all right) =
        ap (λ z. Marks.a_structure u at x ∷ z)
        (joined (walk_of_members u all) (an_end (Marks.tag_name u at x) right ∷ []) (marks_of_members u all) (Marks.an_end (Marks.tag_name u at x) right ∷ [])
        (marks_same_members all) refl)
    marks_same_specifier (Trees.enum_named at x) = refl
    marks_same_specifier (Trees.enum_body at x left all comma right) =
        joined (walk_of_enumerators u all (after_all comma right)) (an_enumeration u x right) _ _ (marks_same_enumerators all (after_all comma right))
        (enumeration_same x right)

    marks_same_members : (t : Trees.MemberDeclarations) → marks_in (walk_of_members u t) ≡ marks_of_members u t
    marks_same_members Trees.no_member_declarations = refl
    marks_same_members (Trees.and_member_declaration specs ds semicolon more) =
        joined (walk_of_specifiers u specs ++ walk_of_member_declarators u ds semicolon) (walk_of_members u more) _ _
        (joined (walk_of_specifiers u specs) (walk_of_member_declarators u ds semicolon) _ _ (marks_same_specifiers specs)
        (marks_same_declarators ds semicolon))
        (marks_same_members more)

    marks_same_declarators : (t : Trees.MemberDeclarators) (semicolon : ℕ)
        → marks_in (walk_of_member_declarators u t semicolon) ≡ marks_of_member_declarators u t
    marks_same_declarators Trees.no_member_declarators semicolon = refl
    marks_same_declarators (Trees.and_member_declarator comma d more) semicolon =
        joined (walk_of_declarator u d) (walk_of_member_declarators u more semicolon) _ _ (marks_same_declarator d) (marks_same_declarators more semicolon)

    marks_same_enumerators : (t : Trees.Enumerators) (after : ℕ) → marks_in (walk_of_enumerators u t after) ≡ marks_of_enumerators u t after
    marks_same_enumerators Trees.no_enumerators after = refl
    marks_same_enumerators (Trees.and_enumerator comma x value more) after =
        joined (walk_of_value u value) (a_name (comma_or more after) ∷ walk_of_enumerators u more after) _
        (Marks.a_name (comma_or more after) ∷ marks_of_enumerators u more after) (marks_same_value value)
        (ap (λ z. Marks.a_name (comma_or more after) ∷ z) (marks_same_enumerators more after))

    marks_same_value : (t : Trees.EnumeratorValue) → marks_in (walk_of_value u t) ≡ marks_of_value u t
    marks_same_value Trees.no_value = refl
    marks_same_value (Trees.valued equal a) = marks_seen (walk u a) ∙ marks_same a

    pub marks_same_declarator : (t : Trees.Declarator) → marks_in (walk_of_declarator u t) ≡ marks_of_declarator u t
    marks_same_declarator Trees.nothing = refl
    marks_same_declarator (Trees.named x) = refl
    marks_same_declarator (Trees.pointer at consts d) = marks_same_declarator d
    marks_same_declarator (Trees.enclosed left d right) = marks_same_declarator d
    marks_same_declarator (Trees.array d left length right) =
        joined (walk_of_declarator u d) (a_look left ∷ walk_if_any u length) _ _ (marks_same_declarator d) (marks_same_if_any length)
    marks_same_declarator (Trees.function d left all right) =
        nothing_behind (walk_of_declarator u d) (seen true in_full (walk_of_parameter_list u all)) _ (marks_same_declarator d)
        (marks_inside (walk_of_parameter_list u all))
