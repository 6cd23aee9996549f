-- The marks of a part are the same by two functions that give its structures without a tag the same names.
use Rattle.std.proofs.Common.{◌≡◌, ℕ, false, List, [], ◌∷◌, ◌++◌, Option, Some, None, refl, ap, ◌∙◌}
use Rattle.c_ast.specs.Trees
use Rattle.c_ast.specs.declared.words.Spelling.{Spelling}
use Rattle.c_erasure.specs.Erasure.{after_all, comma_or}
use Rattle.c_erasure.specs.Marks as Marks
use Rattle.c_erasure.specs.Marks.{Mark, a_name, an_end, marks, marks_of_all, marks_if_any, marks_of_type, marks_of_specifiers, marks_of_specifier}
use Rattle.c_erasure.specs.Marks.{marks_of_members, marks_of_member_declarators, marks_of_enumerators, marks_of_value, marks_of_declarator, an_enumeration}
use Rattle.c_erasure.specs.Marks.{a_structure, marks_of_initial, marks_of_declarators, marks_of_item, marks_of_file, name_from, after_declarator}
use Rattle.c_checking_laws.proofs.TextOrder.UntaggedNames.Agreeing.{Agree, AgreeAt, AgreeInAll, AgreeIfAny, AgreeInType, AgreeInSpecifiers, AgreeInSpecifier}
use Rattle.c_checking_laws.proofs.TextOrder.UntaggedNames.Agreeing.{AgreeInMembers}
use Rattle.c_checking_laws.proofs.TextOrder.UntaggedNames.Agreeing.{AgreeInDeclarators, AgreeInEnumerators, AgreeInValue, AgreeInDeclarator, AgreeInInitial}
use Rattle.c_checking_laws.proofs.TextOrder.UntaggedNames.Agreeing.{AgreeInList}
use Rattle.c_checking_laws.proofs.TextOrder.UntaggedNames.Agreeing.{AgreeInItem}
use Rattle.c_checking_laws.proofs.TextOrder.UntaggedNames.Agreeing.{AgreeInItems}

joined : (a b c d : List Mark) → a ≡ b → c ≡ d → a ++ c ≡ b ++ d
joined a b c d p q = ap (λ x. x ++ c) p ∙ ap (λ x. b ++ x) q

module _ (u v : ℕ → List ℕ) where
  tag_same : (at : ℕ) (x : Option Spelling) → AgreeAt u v at x → Marks.tag_name u at x ≡ Marks.tag_name v at x
  tag_same at None h = h
  tag_same at (Some x) h = refl

  structure_same : (at : ℕ) (x : Option Spelling) → AgreeAt u v at x → a_structure u at x ≡ a_structure v at x
  structure_same at None h = ap (λ name. Marks.a_tag (record { name = name; place = at; from = at; is_enumeration = false })) h
  structure_same at (Some x) h = refl

  enumeration_same : (x : Option Spelling) (right : ℕ) → an_enumeration u x right ≡ an_enumeration v x right
  enumeration_same None right = refl
  enumeration_same (Some x) right = refl

  mutual
    same : (a : Trees.Expression) → Agree u v a → marks u a ≡ marks v a
    same (Trees.name x) h = refl
    same (Trees.number x n kind) h = refl
    same (Trees.character x n) h = refl
    same (Trees.texts all) h = refl
    same (Trees.paren left a right) h = same a h
    same (Trees.index a left b right) h = joined (marks u a) (marks v a) (marks u b) (marks v b) (same a h.0) (same b h.1)
    same (Trees.call f left all right) h =
        joined (marks u f) (marks v f) (marks_of_all u all) (marks_of_all v all) (same f h.0) (all_same all h.1)
    same (Trees.dot a at x) h = same a h
    same (Trees.arrow a at x) h = same a h
    same (Trees.post a op at) h = same a h
    same (Trees.pre op at a) h = same a h
    same (Trees.unary op at a) h = same a h
    same (Trees.sizeof_expression at a) h = same a h
    same (Trees.sizeof_type at left n right) h = type_same n h
    same (Trees.cast left n right a) h =
        joined (marks_of_type u n) (marks_of_type v n) (marks u a) (marks v a) (type_same n h.0) (same a h.1)
    same (Trees.binary a op at b) h = joined (marks u a) (marks v a) (marks u b) (marks v b) (same a h.0) (same b h.1)
    same (Trees.cond a question b colon c) h =
        joined (marks u a ++ marks u b) (marks v a ++ marks v b) (marks u c) (marks v c)
        (joined (marks u a) (marks v a) (marks u b) (marks v b) (same a h.0) (same b h.1)) (same c h.2)
    same (Trees.assign a op at b) h = joined (marks u a) (marks v a) (marks u b) (marks v b) (same a h.0) (same b h.1)
    same (Trees.comma a at b) h = joined (marks u a) (marks v a) (marks u b) (marks v b) (same a h.0) (same b h.1)
    same (Trees.braces left all comma right) h = all_same all h

    all_same : (all : Trees.Arguments) → AgreeInAll u v all → marks_of_all u all ≡ marks_of_all v all
    all_same Trees.no_arguments h = refl
    all_same (Trees.and_argument comma a more) h =
        joined (marks u a) (marks v a) (marks_of_all u more) (marks_of_all v more) (same a h.0) (all_same more h.1)

    if_any_same : (a : Trees.OptionalExpression) → AgreeIfAny u v a → marks_if_any u a ≡ marks_if_any v a
    if_any_same Trees.no_expression h = refl
    if_any_same (Trees.some_expression a) h = same a h

    type_same : (n : Trees.TypeName) → AgreeInType u v n → marks_of_type u n ≡ marks_of_type v n
    type_same (Trees.type_name specs d) h =
        joined (marks_of_specifiers u specs) (marks_of_specifiers v specs) (marks_of_declarator u d) (marks_of_declarator v d)
        (specifiers_same specs h.0) (declarator_same d h.1)

    specifiers_same : (specs : Trees.Specifiers) → AgreeInSpecifiers u v specs → marks_of_specifiers u specs ≡ marks_of_specifiers v specs
    specifiers_same Trees.no_specifiers h = refl
    specifiers_same (Trees.and_specifier s more) h =
        joined (marks_of_specifier u s) (marks_of_specifier v s) (marks_of_specifiers u more) (marks_of_specifiers v more)
        (specifier_same s h.0) (specifiers_same more h.1)

    specifier_same : (s : Trees.Specifier) → AgreeInSpecifier u v s → marks_of_specifier u s ≡ marks_of_specifier v s
    specifier_same (Trees.plain word at) h = refl
    specifier_same (Trees.typename x) h = refl
    specifier_same (Trees.struct_named at x) h = refl
    specifier_same (Trees.struct_body at x left all right) h =
        joined (a_structure u at x ∷ []) (a_structure v at x ∷ []) (marks_of_members u all ++ an_end (Marks.tag_name u at x) right ∷ [])
        (marks_of_members v all ++ an_end (Marks.tag_name v at x) right ∷ []) (ap (λ m. m ∷ []) (structure_same at x h.0))
        (joined (marks_of_members u all) (marks_of_members v all) (an_end (Marks.tag_name u at x) right ∷ [])
        (an_end (Marks.tag_name v at x) right ∷ []) (members_same all h.1) (ap (λ tag. an_end tag right ∷ []) (tag_same at x h.0)))
    specifier_same (Trees.enum_named at x) h = refl
    specifier_same (Trees.enum_body at x left all comma right) h =
        joined (marks_of_enumerators u all (after_all comma right)) (marks_of_enumerators v all (after_all comma right)) (an_enumeration u x right)
        (an_enumeration v x right) (enumerators_same all (after_all comma right) h) (enumeration_same x right)

    members_same : (all : Trees.MemberDeclarations) → AgreeInMembers u v all → marks_of_members u all ≡ marks_of_members v all
    members_same Trees.no_member_declarations h = refl
    members_same (Trees.and_member_declaration specs ds semicolon more) h =
        joined (marks_of_specifiers u specs ++ marks_of_member_declarators u ds) (marks_of_specifiers v specs ++ marks_of_member_declarators v ds)
        (marks_of_members u more) (marks_of_members v more)
        (joined (marks_of_specifiers u specs) (marks_of_specifiers v specs) (marks_of_member_declarators u ds) (marks_of_member_declarators v ds)
        (specifiers_same specs h.0) (declarators_same ds h.1)) (members_same more h.2)

    declarators_same : (ds : Trees.MemberDeclarators) → AgreeInDeclarators u v ds → marks_of_member_declarators u ds ≡ marks_of_member_declarators v ds
    declarators_same Trees.no_member_declarators h = refl
    declarators_same (Trees.and_member_declarator comma d more) h =
        joined (marks_of_declarator u d) (marks_of_declarator v d) (marks_of_member_declarators u more) (marks_of_member_declarators v more)
        (declarator_same d h.0) (declarators_same more h.1)

    enumerators_same : (all : Trees.Enumerators) (after : ℕ) → AgreeInEnumerators u v all → marks_of_enumerators u all after ≡ marks_of_enumerators v all after
    enumerators_same Trees.no_enumerators after h = refl
    enumerators_same (Trees.and_enumerator comma x value more) after h =
        joined (marks_of_value u value) (marks_of_value v value) (a_name (comma_or more after) ∷ marks_of_enumerators u more after)
        (a_name (comma_or more after) ∷ marks_of_enumerators v more after) (value_same value h.0)
        (ap (λ m. a_name (comma_or more after) ∷ m) (enumerators_same more after h.1))

    value_same : (value : Trees.EnumeratorValue) → AgreeInValue u v value → marks_of_value u value ≡ marks_of_value v value
    value_same Trees.no_value h = refl
    value_same (Trees.valued equal a) h = same a h

    declarator_same : (d : Trees.Declarator) → AgreeInDeclarator u v d → marks_of_declarator u d ≡ marks_of_declarator v d
    declarator_same Trees.nothing h = refl
    declarator_same (Trees.named x) h = refl
    declarator_same (Trees.pointer at consts d) h = declarator_same d h
    declarator_same (Trees.enclosed left d right) h = declarator_same d h
    declarator_same (Trees.array d left length right) h =
        joined (marks_of_declarator u d) (marks_of_declarator v d) (marks_if_any u length) (marks_if_any v length)
        (declarator_same d h.0) (if_any_same length h.1)
    declarator_same (Trees.function d left all right) h = declarator_same d h

  -- ---- items

  initial_same : (value : Option (ℕ × Trees.Expression)) → AgreeInInitial u v value → marks_of_initial u value ≡ marks_of_initial v value
  initial_same None h = refl
  initial_same (Some value) h = same value.1 h

  list_same : (all : List Trees.InitDeclarator) (semicolon : ℕ) → AgreeInList u v all → marks_of_declarators u all semicolon ≡ marks_of_declarators v all semicolon
  list_same [] semicolon h = refl
  list_same (d ∷ more) semicolon h =
      let from = name_from d.value (after_declarator more semicolon) in
      joined (marks_of_declarator u d.declarator ++ a_name from ∷ marks_of_initial u d.value)
      (marks_of_declarator v d.declarator ++ a_name from ∷ marks_of_initial v d.value) (marks_of_declarators u more semicolon)
      (marks_of_declarators v more semicolon)
      (joined (marks_of_declarator u d.declarator) (marks_of_declarator v d.declarator) (a_name from ∷ marks_of_initial u d.value)
      (a_name from ∷ marks_of_initial v d.value) (declarator_same d.declarator h.0) (ap (λ m. a_name from ∷ m) (initial_same d.value h.1)))
      (list_same more semicolon h.2)

  item_same : (item : Trees.Item) → AgreeInItem u v item → marks_of_item u item ≡ marks_of_item v item
  item_same (Trees.defines specs d left items right) h =
      joined (marks_of_specifiers u specs ++ marks_of_declarator u d) (marks_of_specifiers v specs ++ marks_of_declarator v d) (a_name left ∷ [])
      (a_name left ∷ [])
      (joined (marks_of_specifiers u specs) (marks_of_specifiers v specs) (marks_of_declarator u d) (marks_of_declarator v d)
      (specifiers_same specs h.0) (declarator_same d h.1)) refl
  item_same (Trees.declaration d) h =
      joined (marks_of_specifiers u d.specs) (marks_of_specifiers v d.specs) (marks_of_declarators u d.all d.semicolon)
      (marks_of_declarators v d.all d.semicolon) (specifiers_same d.specs h.0) (list_same d.all d.semicolon h.1)

  pub marks_same : (items : List Trees.Item) → AgreeInItems u v items → marks_of_file u items ≡ marks_of_file v items
  marks_same [] h = refl
  marks_same (item ∷ more) h =
      joined (marks_of_item u item) (marks_of_item v item) (marks_of_file u more) (marks_of_file v more) (item_same item h.0) (marks_same more h.1)
