-- A part makes objects where its literals stand, and types make none (C99 6.4.5).
use Rattle.std.proofs.Common.{◌≡◌, ℕ, true, false, List, [], ◌∷◌, ◌++◌, Option, Some, None, refl, ap, ◌∙◌, append-nil}
use Rattle.c_ast.specs.declared.words.Spelling.{Spelling}
use Rattle.c_ast.specs.Trees
use Rattle.c_erasure.specs.Literals.{literals, literals_of_all}
use Rattle.c_erasure.specs.Erasure.{after_all, comma_or}
use Rattle.c_erasure.specs.Marks
use Rattle.c_erasure.specs.Scopes.{in_full, value_alone}
use Rattle.c_checking_laws.proofs.CompleteWalk.{Event, a_use, a_look, a_tag, an_end, a_name, a_literal, seen, walk, walk_of_all, walk_if_any, walk_of_type}
use Rattle.c_checking_laws.proofs.CompleteWalk.{walk_of_specifiers, walk_of_specifier, walk_of_members, walk_of_member_declarators, walk_of_enumerators}
use Rattle.c_checking_laws.proofs.CompleteWalk.{walk_of_value, walk_of_declarator, walk_of_parameter_list, walk_of_parameters, an_enumeration}
use Rattle.c_checking_laws.proofs.CompleteLists.{made_at}

made_both : (a b : List Event) → made_at (a ++ b) ≡ made_at a ++ made_at b
made_both [] b = refl
made_both (a_use at ∷ a) b = made_both a b
made_both (a_look at ∷ a) b = made_both a b
made_both (a_tag t ∷ a) b = made_both a b
made_both (an_end tag right ∷ a) b = made_both a b
made_both (a_name from ∷ a) b = made_both a b
made_both (a_literal at ∷ a) b = ap (λ z. at ∷ z) (made_both a b)

none_for_value : (all : List Event) → made_at (seen false value_alone all) ≡ []
none_for_value [] = refl
none_for_value (a_use at ∷ a) = none_for_value a
none_for_value (a_look at ∷ a) = none_for_value a
none_for_value (a_tag t ∷ a) = none_for_value a
none_for_value (an_end tag right ∷ a) = none_for_value a
none_for_value (a_name from ∷ a) = none_for_value a
none_for_value (a_literal at ∷ a) = none_for_value a

made_inside : (all : List Event) → made_at (seen true in_full all) ≡ made_at all
made_inside [] = refl
made_inside (a_use at ∷ a) = made_inside a
made_inside (a_look at ∷ a) = made_inside a
made_inside (a_tag t ∷ a) = made_inside a
made_inside (an_end tag right ∷ a) = made_inside a
made_inside (a_name from ∷ a) = made_inside a
made_inside (a_literal at ∷ a) = ap (λ z. at ∷ z) (made_inside a)

joined : (a b : List Event) (m n : List ℕ) → made_at a ≡ m → made_at b ≡ n → made_at (a ++ b) ≡ m ++ n
joined a b m n p q = made_both a b ∙ ap (λ z. z ++ made_at b) p ∙ ap (λ z. m ++ z) q

none_in_both : (a b : List Event) → made_at a ≡ [] → made_at b ≡ [] → made_at (a ++ b) ≡ []
none_in_both a b p q = joined a b [] [] p q

module _ (u : ℕ → List ℕ) where
  -- ---- types

  none_if_any : (t : Trees.OptionalExpression) → made_at (walk_if_any u t) ≡ []
  none_if_any Trees.no_expression = refl
  none_if_any (Trees.some_expression a) = none_for_value (walk u a)

  none_in_value : (t : Trees.EnumeratorValue) → made_at (walk_of_value u t) ≡ []
  none_in_value Trees.no_value = refl
  none_in_value (Trees.valued equal a) = none_for_value (walk u a)

  none_in_enumerators : (t : Trees.Enumerators) (after : ℕ) → made_at (walk_of_enumerators u t after) ≡ []
  none_in_enumerators Trees.no_enumerators after = refl
  none_in_enumerators (Trees.and_enumerator comma x value more) after =
      none_in_both (walk_of_value u value) (a_name (comma_or more after) ∷ walk_of_enumerators u more after) (none_in_value value)
      (none_in_enumerators more after)

  none_in_enumeration : (x : Option Spelling) (right : ℕ) → made_at (an_enumeration u x right) ≡ []
  none_in_enumeration None right = refl
  none_in_enumeration (Some x) right = refl

  mutual
    pub none_in_specifiers : (t : Trees.Specifiers) → made_at (walk_of_specifiers u t) ≡ []
    none_in_specifiers Trees.no_specifiers = refl
    none_in_specifiers (Trees.and_specifier s more) =
        none_in_both (walk_of_specifier u s) (walk_of_specifiers u more) (none_in_specifier s) (none_in_specifiers more)

    none_in_specifier : (t : Trees.Specifier) → made_at (walk_of_specifier u t) ≡ []
    none_in_specifier (Trees.plain word at) = refl
    none_in_specifier (Trees.typename x) = refl
    none_in_specifier (Trees.struct_named at x) = refl
    none_in_specifier (Trees.struct_body at x left all right) =
        none_in_both (walk_of_members u all) (an_end (Marks.tag_name u at x) right ∷ []) (none_in_members all) refl
    none_in_specifier (Trees.enum_named at x) = refl
    none_in_specifier (Trees.enum_body at x left all comma right) =
        none_in_both (walk_of_enumerators u all (after_all comma right)) (an_enumeration u x right) (none_in_enumerators all (after_all comma right))
        (none_in_enumeration x right)

    none_in_members : (t : Trees.MemberDeclarations) → made_at (walk_of_members u t) ≡ []
    none_in_members Trees.no_member_declarations = refl
    none_in_members (Trees.and_member_declaration specs ds semicolon more) =
        none_in_both (walk_of_specifiers u specs ++ walk_of_member_declarators u ds semicolon) (walk_of_members u more)
        (none_in_both (walk_of_specifiers u specs) (walk_of_member_declarators u ds semicolon) (none_in_specifiers specs) (none_in_declarators ds semicolon))
        (none_in_members more)

    none_in_declarators : (t : Trees.MemberDeclarators) (semicolon : ℕ) → made_at (walk_of_member_declarators u t semicolon) ≡ []
    none_in_declarators Trees.no_member_declarators semicolon = refl
    none_in_declarators (Trees.and_member_declarator comma d more) semicolon =
        none_in_both (walk_of_declarator u d) (walk_of_member_declarators u more semicolon) (none_in_declarator d) (none_in_declarators more semicolon)

    pub none_in_declarator : (t : Trees.Declarator) → made_at (walk_of_declarator u t) ≡ []
    none_in_declarator Trees.nothing = refl
    none_in_declarator (Trees.named x) = refl
    none_in_declarator (Trees.pointer at consts d) = none_in_declarator d
    none_in_declarator (Trees.enclosed left d right) = none_in_declarator d
    none_in_declarator (Trees.array d left length right) =
        none_in_both (walk_of_declarator u d) (a_look left ∷ walk_if_any u length) (none_in_declarator d) (none_if_any length)
    none_in_declarator (Trees.function d left all right) =
        none_in_both (walk_of_declarator u d) (seen true in_full (walk_of_parameter_list u all)) (none_in_declarator d)
        (made_inside (walk_of_parameter_list u all) ∙ none_in_parameter_list all)

    none_in_parameter_list : (t : Trees.ParameterList) → made_at (walk_of_parameter_list u t) ≡ []
    none_in_parameter_list (Trees.void_alone at) = refl
    none_in_parameter_list (Trees.listed all) = none_in_parameters all

    none_in_parameters : (t : Trees.Parameters) → made_at (walk_of_parameters u t) ≡ []
    none_in_parameters Trees.no_parameters = refl
    none_in_parameters (Trees.and_parameter comma specs d more) =
        none_in_both (walk_of_specifiers u specs ++ walk_of_declarator u d) (walk_of_parameters u more)
        (none_in_both (walk_of_specifiers u specs) (walk_of_declarator u d) (none_in_specifiers specs) (none_in_declarator d)) (none_in_parameters more)

  pub none_in_type : (t : Trees.TypeName) → made_at (walk_of_type u t) ≡ []
  none_in_type (Trees.type_name specs d) =
      none_in_both (walk_of_specifiers u specs) (walk_of_declarator u d) (none_in_specifiers specs) (none_in_declarator d)

  -- ---- expressions

  nothing_behind : (a b : List Event) (m : List ℕ) → made_at a ≡ m → made_at b ≡ [] → made_at (a ++ b) ≡ m
  nothing_behind a b m p q = joined a b m [] p q ∙ append-nil m

  mutual
    pub made_same : (t : Trees.Expression) → made_at (walk u t) ≡ literals t
    made_same (Trees.name x) = refl
    made_same (Trees.number x n kind) = refl
    made_same (Trees.character x n) = refl
    made_same (Trees.texts all) = refl
    made_same (Trees.paren left a right) = made_same a
    made_same (Trees.index a left b right) = joined (walk u a) (walk u b) _ _ (made_same a) (made_same b)
    made_same (Trees.call f left all right) = joined (walk u f) (walk_of_all u all) _ _ (made_same f) (made_same_all all)
    made_same (Trees.dot a at x) = nothing_behind (walk u a) (a_look at ∷ []) _ (made_same a) refl
    made_same (Trees.arrow a at x) = made_same a
    made_same (Trees.post a op at) = made_same a
    made_same (Trees.pre op at a) = made_same a
    made_same (Trees.unary op at a) = made_same a
    made_same (Trees.sizeof_expression at a) = none_for_value (walk u a)
    made_same (Trees.sizeof_type at left n right) = none_in_both (walk_of_type u n) (a_look right ∷ []) (none_in_type n) refl
    made_same (Trees.cast left n right a) = joined (walk_of_type u n) (walk u a) [] _ (none_in_type n) (made_same a)
    made_same (Trees.binary a op at b) = joined (walk u a) (walk u b) _ _ (made_same a) (made_same b)
    made_same (Trees.cond a question b colon c) =
        joined (walk u a ++ walk u b) (walk u c) _ _ (joined (walk u a) (walk u b) _ _ (made_same a) (made_same b)) (made_same c)
    made_same (Trees.assign a op at b) = joined (walk u a) (walk u b) _ _ (made_same a) (made_same b)
    made_same (Trees.comma a at b) = joined (walk u a) (walk u b) _ _ (made_same a) (made_same b)
    made_same (Trees.braces left all comma right) = made_same_all all

    pub made_same_all : (t : Trees.Arguments) → made_at (walk_of_all u t) ≡ literals_of_all t
    made_same_all Trees.no_arguments = refl
    made_same_all (Trees.and_argument comma a more) = joined (walk u a) (walk_of_all u more) _ _ (made_same a) (made_same_all more)
