-- What a file declares inside its specifiers at file scope, in the order of the text: tags, ends of structures, and enumerators (C99 6.7.2.1
-- to 6.7.2.3). Parameter lists and bodies of functions declare no such thing (own).
use Rattle.std.specs.Prelude.{ℕ, Bool, true, false, not, unwrap_or, if◌then◌else◌, List, [], ◌∷◌, ◌++◌, filter, map, Option, Some, None}
use Rattle.std.specs.List.{list_any}
use Rattle.std.specs.Str.{bytes_eq}
use Rattle.c_ast.specs.declared.words.Spelling.{Spelling}
use Rattle.c_ast.specs.Trees
use Rattle.c_erasure.specs.Scopes.{Tag}
use Rattle.c_erasure.specs.Erasure.{after_all, comma_or}

pub data Mark : Type 0 where
  -- a tag stands there, and is known from a byte on
  a_tag : (t : Tag) → Mark
  -- the definition of a structure ends there
  an_end : (tag : List ℕ) → (right : ℕ) → Mark
  -- a name is in scope from there on
  a_name : (from : ℕ) → Mark

-- where the name of a declarator is in scope from: at the token after it
abbrev pub after_declarator : List Trees.InitDeclarator → ℕ → ℕ
after_declarator [] semicolon = semicolon
after_declarator (d ∷ more) semicolon = unwrap_or d.comma semicolon

abbrev pub name_from : Option (ℕ × Trees.Expression) → ℕ → ℕ
name_from None after = after
name_from (Some value) after = value.0

module _ (untagged : ℕ → List ℕ) where
  abbrev pub tag_name : ℕ → Option Spelling → List ℕ
  tag_name at None = untagged at
  tag_name at (Some x) = x.text

  abbrev pub tag_place : ℕ → Option Spelling → ℕ
  tag_place at None = at
  tag_place at (Some x) = x.from

  abbrev pub a_structure : ℕ → Option Spelling → Mark
  a_structure at x = a_tag (record { name = tag_name at x; place = tag_place at x; from = tag_place at x; is_enumeration = false })

  -- the tag of an enumeration is known from its end on; one without a tag cannot be named
  abbrev pub an_enumeration : Option Spelling → ℕ → List Mark
  an_enumeration None right = []
  an_enumeration (Some x) right = a_tag (record { name = x.text; place = x.from; from = right; is_enumeration = true }) ∷ []

  abbrev mutual
    pub marks : Trees.Expression → List Mark
    marks (Trees.name x) = []
    marks (Trees.number x n kind) = []
    marks (Trees.character x n) = []
    marks (Trees.texts all) = []
    marks (Trees.paren left a right) = marks a
    marks (Trees.index a left b right) = marks a ++ marks b
    marks (Trees.call f left all right) = marks f ++ marks_of_all all
    marks (Trees.dot a at x) = marks a
    marks (Trees.arrow a at x) = marks a
    marks (Trees.post a op at) = marks a
    marks (Trees.pre op at a) = marks a
    marks (Trees.unary op at a) = marks a
    marks (Trees.sizeof_expression at a) = marks a
    marks (Trees.sizeof_type at left n right) = marks_of_type n
    marks (Trees.cast left n right a) = marks_of_type n ++ marks a
    marks (Trees.binary a op at b) = marks a ++ marks b
    marks (Trees.cond a question b colon c) = marks a ++ marks b ++ marks c
    marks (Trees.assign a op at b) = marks a ++ marks b
    marks (Trees.comma a at b) = marks a ++ marks b
    marks (Trees.braces left all comma right) = marks_of_all all

    pub marks_of_all : Trees.Arguments → List Mark
    marks_of_all Trees.no_arguments = []
    marks_of_all (Trees.and_argument comma a more) = marks a ++ marks_of_all more

    pub marks_if_any : Trees.OptionalExpression → List Mark
    marks_if_any Trees.no_expression = []
    marks_if_any (Trees.some_expression a) = marks a

    pub marks_of_type : Trees.TypeName → List Mark
    marks_of_type (Trees.type_name specs d) = marks_of_specifiers specs ++ marks_of_declarator d

    pub marks_of_specifiers : Trees.Specifiers → List Mark
    marks_of_specifiers Trees.no_specifiers = []
    marks_of_specifiers (Trees.and_specifier s more) = marks_of_specifier s ++ marks_of_specifiers more

    pub marks_of_specifier : Trees.Specifier → List Mark
    marks_of_specifier (Trees.plain word at) = []
    marks_of_specifier (Trees.typename x) = []
    marks_of_specifier (Trees.struct_named at x) = a_structure at (Some x) ∷ []
    marks_of_specifier (Trees.struct_body at x left all right) = a_structure at x ∷ marks_of_members all ++ an_end (tag_name at x) right ∷ []
    marks_of_specifier (Trees.enum_named at x) = []
    marks_of_specifier (Trees.enum_body at x left all comma right) = marks_of_enumerators all (after_all comma right) ++ an_enumeration x right

    pub marks_of_members : Trees.MemberDeclarations → List Mark
    marks_of_members Trees.no_member_declarations = []
    marks_of_members (Trees.and_member_declaration specs ds semicolon more) =
        marks_of_specifiers specs ++ marks_of_member_declarators ds ++ marks_of_members more

    pub marks_of_member_declarators : Trees.MemberDeclarators → List Mark
    marks_of_member_declarators Trees.no_member_declarators = []
    marks_of_member_declarators (Trees.and_member_declarator comma d more) = marks_of_declarator d ++ marks_of_member_declarators more

    pub marks_of_enumerators : Trees.Enumerators → ℕ → List Mark
    marks_of_enumerators Trees.no_enumerators after = []
    marks_of_enumerators (Trees.and_enumerator comma x value more) after =
        marks_of_value value ++ a_name (comma_or more after) ∷ marks_of_enumerators more after

    pub marks_of_value : Trees.EnumeratorValue → List Mark
    marks_of_value Trees.no_value = []
    marks_of_value (Trees.valued equal a) = marks a

    pub marks_of_declarator : Trees.Declarator → List Mark
    marks_of_declarator Trees.nothing = []
    marks_of_declarator (Trees.named x) = []
    marks_of_declarator (Trees.pointer at consts d) = marks_of_declarator d
    marks_of_declarator (Trees.enclosed left d right) = marks_of_declarator d
    marks_of_declarator (Trees.array d left length right) = marks_of_declarator d ++ marks_if_any length
    marks_of_declarator (Trees.function d left all right) = marks_of_declarator d

  -- ---- of a file: after each declarator its own name is in scope

  abbrev pub marks_of_initial : Option (ℕ × Trees.Expression) → List Mark
  marks_of_initial None = []
  marks_of_initial (Some value) = marks value.1

  abbrev pub marks_of_declarators : List Trees.InitDeclarator → ℕ → List Mark
  marks_of_declarators [] semicolon = []
  marks_of_declarators (d ∷ more) semicolon = marks_of_declarator d.declarator ++ a_name (name_from d.value (after_declarator more semicolon))
      ∷ marks_of_initial d.value ++ marks_of_declarators more semicolon

  abbrev pub marks_of_item : Trees.Item → List Mark
  marks_of_item (Trees.defines specs d left items right) = marks_of_specifiers specs ++ marks_of_declarator d ++ a_name left ∷ []
  marks_of_item (Trees.declaration d) = marks_of_specifiers d.specs ++ marks_of_declarators d.all d.semicolon

  abbrev pub marks_of_file : List Trees.Item → List Mark
  marks_of_file [] = []
  marks_of_file (item ∷ more) = marks_of_item item ++ marks_of_file more

-- ---- what the marks tell

abbrev pub scope_beginnings : List Mark → List ℕ
scope_beginnings [] = []
scope_beginnings (a_name from ∷ more) = from ∷ scope_beginnings more
scope_beginnings (mark ∷ more) = scope_beginnings more

abbrev pub ends_in : List Mark → List ℕ
ends_in [] = []
ends_in (an_end tag right ∷ more) = right ∷ ends_in more
ends_in (mark ∷ more) = ends_in more

-- the tags of structures in the order in which their definitions end
abbrev pub defined_in : List Mark → List (List ℕ)
defined_in [] = []
defined_in (an_end tag right ∷ more) = tag ∷ defined_in more
defined_in (mark ∷ more) = defined_in more

abbrev pub tags_in : List Mark → List Tag
tags_in [] = []
tags_in (a_tag t ∷ more) = t ∷ tags_in more
tags_in (mark ∷ more) = tags_in more

abbrev pub is_among : List (List ℕ) → List ℕ → Bool
is_among names x = list_any (bytes_eq x) names

-- each tag where it stands first
abbrev pub firsts : List (List ℕ) → List Tag → List Tag
firsts known [] = []
firsts known (t ∷ more) = if is_among known t.name then firsts known more else t ∷ firsts (t.name ∷ known) more

-- the tags of structures that are not defined, in the order in which they stand first
abbrev pub undefined_in : List Mark → List (List ℕ)
undefined_in all = map (λ t. t.name) (firsts (defined_in all) (filter (λ t. not t.is_enumeration) (tags_in all)))
