-- A file has no more names than its tree has nodes: each enumerator and each declarator of the file scope is a node (C99 6.2.1).
use Rattle.std.proofs.Common.{◌≡◌, ℕ, ◌+◌, ◌≤◌, refl, ap, ◌∙◌, List, [], ◌∷◌, ◌++◌, length, arith}
use Rattle.std.proofs.lemmas.List.{length-append}
use Rattle.std.specs.Prelude.{Option, Some, None}
use Rattle.std.specs.List.{AllByRecursion}
use Rattle.c_ast.specs.declared.size.Size.{Size}
use Rattle.c_ast.specs.declared.words.Spelling.{Spelling}
use Rattle.c_ast.specs.Sizes.{as_initializer, size, size_arguments, size_initializers, size_optional, size_type_name, size_specifiers, size_specifier}
use Rattle.c_ast.specs.Sizes.{size_member_declarations, size_member_declarators, size_enumerators, size_enumerator_value, size_declarator, size_value}
use Rattle.c_ast.specs.Sizes.{size_init_declarators, size_item, size_items}
use Rattle.c_ast.specs.Trees
use Rattle.c_types.specs.Types.{CType}
use Rattle.c_erasure.specs.Declarators.{declared_name}
use Rattle.c_erasure.specs.Files.{AreFileDeclarators, ErasesItem}
use Rattle.c_erasure.specs.Marks.{Mark, a_name, marks, marks_of_all, marks_if_any, marks_of_type, marks_of_specifiers, marks_of_specifier, marks_of_members}
use Rattle.c_erasure.specs.Marks.{marks_of_member_declarators, marks_of_enumerators, marks_of_value, marks_of_declarator, marks_of_initial}
use Rattle.c_erasure.specs.Marks.{marks_of_declarators, marks_of_item, marks_of_file, scope_beginnings, an_end, an_enumeration, tag_name, name_from}
use Rattle.c_erasure.specs.Marks.{after_declarator}
use Rattle.c_erasure.specs.Erasure.{after_all, comma_or}
use Rattle.c_erasure.specs.Scopes.{FileScope}
use Rattle.c_erasure.specs.Specifiers.{Storage, storage_of}
use Rattle.c_checking_laws.proofs.Agreement.{beginnings_append}

-- how many names begin to be in scope among some marks
abbrev names_in : List Mark → ℕ
names_in all = length (scope_beginnings all)

apart : (a b : List Mark) → names_in (a ++ b) ≡ names_in a + names_in b
apart a b = ap length (beginnings_append a b) ∙ length-append (scope_beginnings a) (scope_beginnings b)

initializer_more : (a : Trees.Expression) (n : Size) → n.nodes ≤ (as_initializer a n).nodes
initializer_more (Trees.braces left all comma right) n = omega arith
initializer_more a n = omega arith

module _ (u : ℕ → List ℕ) where
  no_enumeration_name : (x : Option Spelling) (right : ℕ) → names_in (an_enumeration u x right) ≡ 0
  no_enumeration_name None right = refl
  no_enumeration_name (Some x) right = refl

  mutual
    few : (a : Trees.Expression) → names_in (marks u a) ≤ (size a).nodes
    few (Trees.name x) = omega arith
    few (Trees.number x n kind) = omega arith
    few (Trees.character x n) = omega arith
    few (Trees.texts all) = omega arith
    few (Trees.paren left a right) = omega (arith, few a)
    few (Trees.index a left b right) = omega (arith, apart (marks u a) (marks u b), few a, few b)
    few (Trees.call f left all right) = omega (arith, apart (marks u f) (marks_of_all u all), few f, arguments_few all)
    few (Trees.dot a at x) = omega (arith, few a)
    few (Trees.arrow a at x) = omega (arith, few a)
    few (Trees.post a op at) = omega (arith, few a)
    few (Trees.pre op at a) = omega (arith, few a)
    few (Trees.unary op at a) = omega (arith, few a)
    few (Trees.sizeof_expression at a) = omega (arith, few a)
    few (Trees.sizeof_type at left t right) = omega (arith, type_name_few t)
    few (Trees.cast left t right a) = omega (arith, apart (marks_of_type u t) (marks u a), type_name_few t, few a)
    few (Trees.binary a op at b) = omega (arith, apart (marks u a) (marks u b), few a, few b)
    few (Trees.cond a question b colon c) =
        omega (arith, apart (marks u a ++ marks u b) (marks u c), apart (marks u a) (marks u b), few a, few b, few c)
    few (Trees.assign a op at b) = omega (arith, apart (marks u a) (marks u b), few a, few b)
    few (Trees.comma a at b) = omega (arith, apart (marks u a) (marks u b), few a, few b)
    few (Trees.braces left all comma right) = omega (arith, initializers_few all)

    arguments_few : (t : Trees.Arguments) → names_in (marks_of_all u t) ≤ (size_arguments t).nodes
    arguments_few Trees.no_arguments = omega arith
    arguments_few (Trees.and_argument comma a more) = omega (arith, apart (marks u a) (marks_of_all u more), few a, arguments_few more)

    initializers_few : (t : Trees.Arguments) → names_in (marks_of_all u t) ≤ (size_initializers t).nodes
    initializers_few Trees.no_arguments = omega arith
    initializers_few (Trees.and_argument comma a more) =
        omega (arith, apart (marks u a) (marks_of_all u more), few a, initializer_more a (size a), initializers_few more)

    optional_few : (t : Trees.OptionalExpression) → names_in (marks_if_any u t) ≤ (size_optional t).nodes
    optional_few Trees.no_expression = omega arith
    optional_few (Trees.some_expression a) = few a

    type_name_few : (t : Trees.TypeName) → names_in (marks_of_type u t) ≤ (size_type_name t).nodes
    type_name_few (Trees.type_name specs d) =
        omega (arith, apart (marks_of_specifiers u specs) (marks_of_declarator u d), specifiers_few specs, declarator_few d)

    specifiers_few : (t : Trees.Specifiers) → names_in (marks_of_specifiers u t) ≤ (size_specifiers t).nodes
    specifiers_few Trees.no_specifiers = omega arith
    specifiers_few (Trees.and_specifier s more) =
        omega (arith, apart (marks_of_specifier u s) (marks_of_specifiers u more), specifier_few s, specifiers_few more)

    specifier_few : (t : Trees.Specifier) → names_in (marks_of_specifier u t) ≤ (size_specifier t).nodes
    specifier_few (Trees.plain word at) = omega arith
    specifier_few (Trees.typename x) = omega arith
    specifier_few (Trees.struct_named at x) = omega arith
    specifier_few (Trees.struct_body at x left all right) =
        omega (arith, apart (marks_of_members u all) (an_end (tag_name u at x) right ∷ []), members_few all)
    specifier_few (Trees.enum_named at x) = omega arith
    specifier_few (Trees.enum_body at x left all comma right) =
        let after = after_all comma right in
        omega (arith, apart (marks_of_enumerators u all after) (an_enumeration u x right), no_enumeration_name x right, enumerators_few all after)

    members_few : (t : Trees.MemberDeclarations) → names_in (marks_of_members u t) ≤ (size_member_declarations t).nodes
    members_few Trees.no_member_declarations = omega arith
    members_few (Trees.and_member_declaration specs ds semicolon more) =
        omega (
          arith,
          apart (marks_of_specifiers u specs ++ marks_of_member_declarators u ds) (marks_of_members u more),
          apart (marks_of_specifiers u specs) (marks_of_member_declarators u ds),
          specifiers_few specs,
          member_declarators_few ds,
          members_few more,
        )

    member_declarators_few : (t : Trees.MemberDeclarators) → names_in (marks_of_member_declarators u t) ≤ (size_member_declarators t).nodes
    member_declarators_few Trees.no_member_declarators = omega arith
    member_declarators_few (Trees.and_member_declarator comma d more) =
        omega (arith, apart (marks_of_declarator u d) (marks_of_member_declarators u more), declarator_few d, member_declarators_few more)

    enumerators_few : (t : Trees.Enumerators) (after : ℕ) → names_in (marks_of_enumerators u t after) ≤ (size_enumerators t).nodes
    enumerators_few Trees.no_enumerators after = omega arith
    enumerators_few (Trees.and_enumerator comma x value more) after =
        omega (
          arith,
          apart (marks_of_value u value) (a_name (comma_or more after) ∷ marks_of_enumerators u more after),
          value_few value,
          enumerators_few more after,
        )

    value_few : (t : Trees.EnumeratorValue) → names_in (marks_of_value u t) ≤ (size_enumerator_value t).nodes
    value_few Trees.no_value = omega arith
    value_few (Trees.valued equal a) = few a

    declarator_few : (t : Trees.Declarator) → names_in (marks_of_declarator u t) ≤ (size_declarator t).nodes
    declarator_few Trees.nothing = omega arith
    declarator_few (Trees.named x) = omega arith
    declarator_few (Trees.pointer at consts d) = omega (arith, declarator_few d)
    declarator_few (Trees.enclosed left d right) = omega (arith, declarator_few d)
    declarator_few (Trees.array d left count right) =
        omega (arith, apart (marks_of_declarator u d) (marks_if_any u count), declarator_few d, optional_few count)
    declarator_few (Trees.function d left all right) = omega (arith, declarator_few d)

  -- ---- a declarator with a name has a node for it

  named_few : (d : Trees.Declarator) (x : Spelling) → declared_name d ≡ Some x → names_in (marks_of_declarator u d) + 1 ≤ (size_declarator d).nodes
  named_few Trees.nothing x h = cc
  named_few (Trees.named y) x h = omega arith
  named_few (Trees.pointer at consts d) x h = let l = named_few d x h in omega (arith, l)
  named_few (Trees.enclosed left d right) x h = let l = named_few d x h in omega (arith, l)
  named_few (Trees.array d left count right) x h =
      let l = named_few d x h in omega (arith, apart (marks_of_declarator u d) (marks_if_any u count), l, optional_few count)
  named_few (Trees.function d left all right) x h = let l = named_few d x h in omega (arith, l)

  initial_few : (v : Option (ℕ × Trees.Expression)) → names_in (marks_of_initial u v) ≤ (size_value v).nodes
  initial_few None = omega arith
  initial_few (Some v) = omega (arith, few v.1, initializer_more v.1 (size v.1))

  module _ (f : FileScope) where
    declarators_few : (ds : List Trees.InitDeclarator) (words : Storage) (base : CType) (semicolon : ℕ) → AreFileDeclarators f words base ds semicolon
        → names_in (marks_of_declarators u ds semicolon) ≤ (size_init_declarators ds).nodes
    declarators_few [] words base semicolon h = omega arith
    declarators_few (d ∷ more) words base semicolon h =
        let own = marks_of_initial u d.value in
        let later = marks_of_declarators u more semicolon in
        let from = name_from d.value (after_declarator more semicolon) in
        let name = named_few d.declarator h.0 h.1 in
        let value = initial_few d.value in
        let rest = declarators_few more words base semicolon h.3 in
        omega (
          arith,
          apart (marks_of_declarator u d.declarator ++ a_name from ∷ own) later,
          apart (marks_of_declarator u d.declarator) (a_name from ∷ own),
          name,
          value,
          rest,
        )

    item_few : (item : Trees.Item) → ErasesItem f item → names_in (marks_of_item u item) ≤ (size_item item).nodes
    item_few (Trees.declaration d) h =
        let rest = declarators_few d.all (storage_of d.specs) h.0 d.semicolon h.4 in
        omega (arith, apart (marks_of_specifiers u d.specs) (marks_of_declarators u d.all d.semicolon), specifiers_few d.specs, rest)
    item_few (Trees.defines specs d left items right) h =
        omega (
          arith,
          apart (marks_of_specifiers u specs ++ marks_of_declarator u d) (a_name left ∷ []),
          apart (marks_of_specifiers u specs) (marks_of_declarator u d),
          specifiers_few specs,
          declarator_few d,
        )

    pub names_few : (items : List Trees.Item) → AllByRecursion (ErasesItem f) items
        → length (scope_beginnings (marks_of_file u items)) ≤ (size_items items).nodes
    names_few [] h = omega arith
    names_few (item ∷ items) h =
        let one = item_few item h.0 in
        let rest = names_few items h.1 in
        omega (arith, apart (marks_of_item u item) (marks_of_file u items), one, rest)
