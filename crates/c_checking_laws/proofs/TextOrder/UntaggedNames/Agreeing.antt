-- Two functions that give the same names to the structures without a tag in a part, as they do where they agree at each `struct` of its tokens.
use Rattle.std.proofs.Common.{◌≡◌, ℕ, List, [], ◌∷◌, ◌++◌, Option, Some, None, Bool, true, false, subst}
use Rattle.lay_base.specs.declared.faults.Keyword.TheVariants as W
use Rattle.c_tokens.specs.declared.token.TokenKind.{TokenKind}
use Rattle.c_tokens.specs.declared.token.TokenKind.TheVariants as K
use Rattle.c_ast.specs.Spelling.{Lexeme, spelled, spelled_arguments, spelled_optional, spelled_type_name, spelled_specifiers, spelled_specifier}
use Rattle.c_ast.specs.Spelling.{spelled_member_declarations, spelled_member_declarators, spelled_enumerators, spelled_enumerator_value, spelled_declarator}
use Rattle.c_ast.specs.Spelling.{spelled_value, spelled_init_declarators, spelled_item, spelled_items}
use Rattle.c_ast.specs.Trees
use Rattle.c_ast.specs.WellFormed.{IsExpression, AreArguments, IsInitializer, AreInitializers, IsOptional, IsTypeName, AreSpecifiers, AreMoreSpecifiers}
use Rattle.c_ast.specs.WellFormed.{IsSpecifier, AreMemberDeclarations, AreMemberDeclarators, AreEnumerators, IsEnumeratorValue, IsDeclarator}
use Rattle.c_ast.specs.WellFormed.{IsValue, AreInitDeclarators, IsItem, AreItems, types_after}
use Rattle.c_ast.specs.declared.words.Spelling.{Spelling}
use Rattle.c_erasure.specs.Marks.{Mark}
use Rattle.c_erasure.specs.MarkPlaces.Places.{Along}
use Rattle.c_erasure.proofs.MarkPlaces.Walks.{comma_along, tag_along, consts_along}
use Rattle.c_erasure.proofs.MarkPlaces.MarksOfParts.{along, type_name_along, specifiers_along, members_along, member_declarators_along}
use Rattle.c_erasure.proofs.MarkPlaces.MarksOfParts.{value_along, declarator_along}
use Rattle.c_erasure.proofs.MarkPlaces.MarksOfFiles.{initializer_along, item_along}

module _ (u v : ℕ → List ℕ) where
  -- ---- at the structures of a part that have no tag; parameter lists and bodies define none

  abbrev pub AgreeAt : ℕ → Option Spelling → Type 0
  AgreeAt at None = u at ≡ v at
  AgreeAt at (Some x) = Unit {0}

  abbrev mutual
    pub Agree : Trees.Expression → Type 0
    Agree (Trees.name x) = Unit {0}
    Agree (Trees.number x n kind) = Unit {0}
    Agree (Trees.character x n) = Unit {0}
    Agree (Trees.texts all) = Unit {0}
    Agree (Trees.paren left a right) = Agree a
    Agree (Trees.index a left b right) = Agree a × Agree b
    Agree (Trees.call f left all right) = Agree f × AgreeInAll all
    Agree (Trees.dot a at x) = Agree a
    Agree (Trees.arrow a at x) = Agree a
    Agree (Trees.post a op at) = Agree a
    Agree (Trees.pre op at a) = Agree a
    Agree (Trees.unary op at a) = Agree a
    Agree (Trees.sizeof_expression at a) = Agree a
    Agree (Trees.sizeof_type at left n right) = AgreeInType n
    Agree (Trees.cast left n right a) = AgreeInType n × Agree a
    Agree (Trees.binary a op at b) = Agree a × Agree b
    Agree (Trees.cond a question b colon c) = Agree a × Agree b × Agree c
    Agree (Trees.assign a op at b) = Agree a × Agree b
    Agree (Trees.comma a at b) = Agree a × Agree b
    Agree (Trees.braces left all comma right) = AgreeInAll all

    pub AgreeInAll : Trees.Arguments → Type 0
    AgreeInAll Trees.no_arguments = Unit {0}
    AgreeInAll (Trees.and_argument comma a more) = Agree a × AgreeInAll more

    pub AgreeIfAny : Trees.OptionalExpression → Type 0
    AgreeIfAny Trees.no_expression = Unit {0}
    AgreeIfAny (Trees.some_expression a) = Agree a

    pub AgreeInType : Trees.TypeName → Type 0
    AgreeInType (Trees.type_name specs d) = AgreeInSpecifiers specs × AgreeInDeclarator d

    pub AgreeInSpecifiers : Trees.Specifiers → Type 0
    AgreeInSpecifiers Trees.no_specifiers = Unit {0}
    AgreeInSpecifiers (Trees.and_specifier s more) = AgreeInSpecifier s × AgreeInSpecifiers more

    pub AgreeInSpecifier : Trees.Specifier → Type 0
    AgreeInSpecifier (Trees.plain word at) = Unit {0}
    AgreeInSpecifier (Trees.typename x) = Unit {0}
    AgreeInSpecifier (Trees.struct_named at x) = Unit {0}
    AgreeInSpecifier (Trees.struct_body at x left all right) = AgreeAt at x × AgreeInMembers all
    AgreeInSpecifier (Trees.enum_named at x) = Unit {0}
    AgreeInSpecifier (Trees.enum_body at x left all comma right) = AgreeInEnumerators all

    pub AgreeInMembers : Trees.MemberDeclarations → Type 0
    AgreeInMembers Trees.no_member_declarations = Unit {0}
    AgreeInMembers (Trees.and_member_declaration specs ds semicolon more) = AgreeInSpecifiers specs × AgreeInDeclarators ds × AgreeInMembers more

    pub AgreeInDeclarators : Trees.MemberDeclarators → Type 0
    AgreeInDeclarators Trees.no_member_declarators = Unit {0}
    AgreeInDeclarators (Trees.and_member_declarator comma d more) = AgreeInDeclarator d × AgreeInDeclarators more

    pub AgreeInEnumerators : Trees.Enumerators → Type 0
    AgreeInEnumerators Trees.no_enumerators = Unit {0}
    AgreeInEnumerators (Trees.and_enumerator comma x value more) = AgreeInValue value × AgreeInEnumerators more

    pub AgreeInValue : Trees.EnumeratorValue → Type 0
    AgreeInValue Trees.no_value = Unit {0}
    AgreeInValue (Trees.valued equal a) = Agree a

    pub AgreeInDeclarator : Trees.Declarator → Type 0
    AgreeInDeclarator Trees.nothing = Unit {0}
    AgreeInDeclarator (Trees.named x) = Unit {0}
    AgreeInDeclarator (Trees.pointer at consts d) = AgreeInDeclarator d
    AgreeInDeclarator (Trees.enclosed left d right) = AgreeInDeclarator d
    AgreeInDeclarator (Trees.array d left length right) = AgreeInDeclarator d × AgreeIfAny length
    AgreeInDeclarator (Trees.function d left all right) = AgreeInDeclarator d

  abbrev pub AgreeInInitial : Option (ℕ × Trees.Expression) → Type 0
  AgreeInInitial None = Unit {0}
  AgreeInInitial (Some value) = Agree value.1

  abbrev pub AgreeInList : List Trees.InitDeclarator → Type 0
  AgreeInList [] = Unit {0}
  AgreeInList (d ∷ more) = AgreeInDeclarator d.declarator × AgreeInInitial d.value × AgreeInList more

  abbrev pub AgreeInItem : Trees.Item → Type 0
  AgreeInItem (Trees.defines specs d left items right) = AgreeInSpecifiers specs × AgreeInDeclarator d
  AgreeInItem (Trees.declaration d) = AgreeInSpecifiers d.specs × AgreeInList d.all

  abbrev pub AgreeInItems : List Trees.Item → Type 0
  AgreeInItems [] = Unit {0}
  AgreeInItems (item ∷ more) = AgreeInItem item × AgreeInItems more

  -- ---- at each `struct` of some tokens

  abbrev pub AgreeFor : TokenKind → ℕ → Type 0
  AgreeFor (K.Keyword W.Struct) at = u at ≡ v at
  AgreeFor kind at = Unit {0}

  abbrev pub AgreeAlong : List Lexeme → Type 0
  AgreeAlong [] = Unit {0}
  AgreeAlong (t ∷ tokens) = AgreeFor t.kind t.from × AgreeAlong tokens

  of_rest : (own rest : List Lexeme) → AgreeAlong (own ++ rest) → AgreeAlong rest
  of_rest [] rest h = h
  of_rest (t ∷ own) rest h = of_rest own rest h.1

  -- at the tokens behind a part
  behind : {marks : List Mark} {tokens rest : List Lexeme} → Along marks tokens rest → AgreeAlong tokens → AgreeAlong rest
  behind {rest = rest} p h = of_rest p.own rest (subst AgreeAlong p.whole h)

  own_tag : (at : ℕ) (x : Option Spelling) → u at ≡ v at → AgreeAt at x
  own_tag at None h = h
  own_tag at (Some x) h = tt

  module _ (types : List (List ℕ)) where
    mutual
      agree : (a : Trees.Expression) → IsExpression types a → (rest : List Lexeme) → AgreeAlong (spelled a rest) → Agree a
      agree (Trees.name x) w rest h = tt
      agree (Trees.number x n kind) w rest h = tt
      agree (Trees.character x n) w rest h = tt
      agree (Trees.texts all) w rest h = tt
      agree (Trees.paren left a right) w rest h = agree a w _ h.1
      agree (Trees.index a left b right) w rest h = (agree a w.1 _ h, agree b w.2 _ (behind (along u types a w.1) h).1)
      agree (Trees.call f left all right) w rest h = (agree f w.1 _ h, all_agree true all w.2 _ (behind (along u types f w.1) h).1)
      agree (Trees.dot a at x) w rest h = agree a w.1 _ h
      agree (Trees.arrow a at x) w rest h = agree a w.1 _ h
      agree (Trees.post a op at) w rest h = agree a w.1 _ h
      agree (Trees.pre op at a) w rest h = agree a w.1 rest h.1
      agree (Trees.unary op at a) w rest h = agree a w.1 rest h.1
      agree (Trees.sizeof_expression at a) w rest h = agree a w.1 rest h.1
      agree (Trees.sizeof_type at left n right) w rest h = type_agree n w _ h.1.1
      agree (Trees.cast left n right a) w rest h = (type_agree n w.1 _ h.1, agree a w.2 rest (behind (type_name_along u types n w.1) h.1).1)
      agree (Trees.binary a op at b) w rest h = (agree a w.2 _ h, agree b w.3 rest (behind (along u types a w.2) h).1)
      agree (Trees.cond a question b colon c) w rest h =
          let second = (behind (along u types a w.2) h).1 in
          (agree a w.2 _ h, agree b w.3 _ second, agree c w.4 rest (behind (along u types b w.3) second).1)
      agree (Trees.assign a op at b) w rest h = (agree a w.2 _ h, agree b w.3 rest (behind (along u types a w.2) h).1)
      agree (Trees.comma a at b) w rest h = (agree a w.1 _ h, agree b w.2 rest (behind (along u types a w.1) h).1)
      agree (Trees.braces left all comma right) w rest h = absurd w

      all_agree : (start : Bool) (all : Trees.Arguments) → AreArguments types start all → (rest : List Lexeme) → AgreeAlong (spelled_arguments all rest)
          → AgreeInAll all
      all_agree start Trees.no_arguments w rest h = tt
      all_agree start (Trees.and_argument comma a more) w rest h =
          let own = behind (comma_along comma) h in
          (agree a w.2 _ own, all_agree false more w.3 rest (behind (along u types a w.2) own))

      if_any_agree : (a : Trees.OptionalExpression) → IsOptional types a → (rest : List Lexeme) → AgreeAlong (spelled_optional a rest) → AgreeIfAny a
      if_any_agree Trees.no_expression w rest h = tt
      if_any_agree (Trees.some_expression a) w rest h = agree a w.1 rest h

      type_agree : (n : Trees.TypeName) → IsTypeName types n → (rest : List Lexeme) → AgreeAlong (spelled_type_name n rest) → AgreeInType n
      type_agree (Trees.type_name specs d) w rest h =
          (specifiers_agree specs w.0 _ h, declarator_agree d w.1 rest (behind (specifiers_along u types specs w.0) h))

      specifiers_agree : (specs : Trees.Specifiers) → AreSpecifiers types specs → (rest : List Lexeme) → AgreeAlong (spelled_specifiers specs rest)
          → AgreeInSpecifiers specs
      specifiers_agree Trees.no_specifiers w rest h = absurd w
      specifiers_agree (Trees.and_specifier s more) w rest h =
          let both = specifier_agrees s w.0 (spelled_specifiers more rest) h in (both.0, more_agree more w.1 rest both.1)

      more_agree : (specs : Trees.Specifiers) → AreMoreSpecifiers types specs → (rest : List Lexeme) → AgreeAlong (spelled_specifiers specs rest)
          → AgreeInSpecifiers specs
      more_agree Trees.no_specifiers w rest h = tt
      more_agree (Trees.and_specifier s more) w rest h =
          let both = specifier_agrees s w.0 (spelled_specifiers more rest) h in (both.0, more_agree more w.1 rest both.1)

      -- with the tokens behind it
      specifier_agrees : (s : Trees.Specifier) → IsSpecifier types s → (rest : List Lexeme) → AgreeAlong (spelled_specifier s rest)
          → AgreeInSpecifier s × AgreeAlong rest
      specifier_agrees (Trees.plain word at) w rest h = (tt, h.1)
      specifier_agrees (Trees.typename x) w rest h = (tt, h.1)
      specifier_agrees (Trees.struct_named at x) w rest h = (tt, h.1.1)
      specifier_agrees (Trees.struct_body at x left all right) w rest h =
          let inside = (behind (tag_along x) h.1).1 in
          ((own_tag at x h.0, members_agree all w.1 _ inside), (behind (members_along u types all w.1) inside).1)
      specifier_agrees (Trees.enum_named at x) w rest h = (tt, h.1.1)
      specifier_agrees (Trees.enum_body at x left all comma right) w rest h =
          let inside = (behind (tag_along x) h.1).1 in
          let both = enumerators_agree true all w.1 _ inside in
          (both.0, (behind (comma_along comma) both.1).1)

      members_agree : (all : Trees.MemberDeclarations) → AreMemberDeclarations types all → (rest : List Lexeme)
          → AgreeAlong (spelled_member_declarations all rest) → AgreeInMembers all
      members_agree Trees.no_member_declarations w rest h = tt
      members_agree (Trees.and_member_declaration specs ds semicolon more) w rest h =
          let second = behind (specifiers_along u types specs w.0) h in
          let third = (behind (member_declarators_along u types true ds w.2) second).1 in
          (specifiers_agree specs w.0 _ h, declarators_agree true ds w.2 _ second, members_agree more w.3 rest third)

      declarators_agree : (start : Bool) (ds : Trees.MemberDeclarators) → AreMemberDeclarators types start ds → (rest : List Lexeme)
          → AgreeAlong (spelled_member_declarators ds rest) → AgreeInDeclarators ds
      declarators_agree start Trees.no_member_declarators w rest h = tt
      declarators_agree start (Trees.and_member_declarator comma d more) w rest h =
          let own = behind (comma_along comma) h in
          (declarator_agree d w.1 _ own, declarators_agree false more w.3 rest (behind (declarator_along u types d w.1) own))

      enumerators_agree : (start : Bool) (all : Trees.Enumerators) → AreEnumerators types start all → (rest : List Lexeme)
          → AgreeAlong (spelled_enumerators all rest) → AgreeInEnumerators all × AgreeAlong rest
      enumerators_agree start Trees.no_enumerators w rest h = (tt, h)
      enumerators_agree start (Trees.and_enumerator comma x value more) w rest h =
          let own = (behind (comma_along comma) h).1 in
          let later = enumerators_agree false more w.3 rest (behind (value_along u types value w.2) own) in
          ((value_agrees value w.2 _ own, later.0), later.1)

      value_agrees : (value : Trees.EnumeratorValue) → IsEnumeratorValue types value → (rest : List Lexeme)
          → AgreeAlong (spelled_enumerator_value value rest) → AgreeInValue value
      value_agrees Trees.no_value w rest h = tt
      value_agrees (Trees.valued equal a) w rest h = agree a w.1 rest h.1

      declarator_agree : (d : Trees.Declarator) → IsDeclarator types d → (rest : List Lexeme) → AgreeAlong (spelled_declarator d rest) → AgreeInDeclarator d
      declarator_agree Trees.nothing w rest h = tt
      declarator_agree (Trees.named x) w rest h = tt
      declarator_agree (Trees.pointer at consts d) w rest h = declarator_agree d w rest (behind (consts_along consts) h.1)
      declarator_agree (Trees.enclosed left d right) w rest h = declarator_agree d w.1 _ h.1
      declarator_agree (Trees.array d left length right) w rest h =
          (declarator_agree d w.1 _ h, if_any_agree length w.2 _ (behind (declarator_along u types d w.1) h).1)
      declarator_agree (Trees.function d left all right) w rest h = declarator_agree d w.1 _ h

    -- ---- items

    mutual
      initial_agrees : (a : Trees.Expression) → IsInitializer types a → (rest : List Lexeme) → AgreeAlong (spelled a rest) → Agree a
      initial_agrees (Trees.braces left all comma right) w rest h = initials_agree true all w.1 _ h.1
      initial_agrees a w rest h = agree a w.1 rest h

      initials_agree : (start : Bool) (all : Trees.Arguments) → AreInitializers types start all → (rest : List Lexeme)
          → AgreeAlong (spelled_arguments all rest) → AgreeInAll all
      initials_agree start Trees.no_arguments w rest h = tt
      initials_agree start (Trees.and_argument comma a more) w rest h =
          let own = behind (comma_along comma) h in
          (initial_agrees a w.1 _ own, initials_agree false more w.2 rest (behind (initializer_along u types a w.1) own))

    -- with the tokens behind it
    value_of_agrees : (value : Option (ℕ × Trees.Expression)) → IsValue types value → (rest : List Lexeme) → AgreeAlong (spelled_value value rest)
        → AgreeInInitial value × AgreeAlong rest
    value_of_agrees None w rest h = (tt, h)
    value_of_agrees (Some value) w rest h = (initial_agrees value.1 w rest h.1, behind (initializer_along u types value.1 w) h.1)

    list_agrees : (start : Bool) (all : List Trees.InitDeclarator) → AreInitDeclarators types start all → (rest : List Lexeme)
        → AgreeAlong (spelled_init_declarators all rest) → AgreeInList all
    list_agrees start [] w rest h = tt
    list_agrees start (d ∷ more) w rest h =
        let own = behind (comma_along d.comma) h in
        let value = value_of_agrees d.value w.3 (spelled_init_declarators more rest) (behind (declarator_along u types d.declarator w.1) own) in
        (declarator_agree d.declarator w.1 _ own, value.0, list_agrees false more w.4 rest value.1)

    item_agrees : (item : Trees.Item) → IsItem types item → (rest : List Lexeme) → AgreeAlong (spelled_item item rest) → AgreeInItem item
    item_agrees (Trees.defines specs d left items right) w rest h =
        (specifiers_agree specs w.0 _ h, declarator_agree d w.1 _ (behind (specifiers_along u types specs w.0) h))
    item_agrees (Trees.declaration d) w rest h =
        (specifiers_agree d.specs w.0 _ h, list_agrees true d.all w.1 _ (behind (specifiers_along u types d.specs w.0) h))

  pub items_agree : (types : List (List ℕ)) (items : List Trees.Item) → AreItems types items → (rest : List Lexeme) → AgreeAlong (spelled_items items rest)
      → AgreeInItems items
  items_agree types [] w rest h = tt
  items_agree types (item ∷ more) w rest h =
      (item_agrees types item w.0 _ h, items_agree (types_after types item) more w.1 rest (behind (item_along u types item w.0) h))
