-- Each node of a well formed tree stands at one of its tokens: what holds of the places of all tokens holds of those of all nodes.
use Rattle.std.proofs.Common.{◌≡◌, ℕ, List, [], ◌∷◌, ◌++◌, Option, Some, None, Bool, true, false, refl, subst}
use Rattle.std.specs.List.{AllByRecursion}
use Rattle.c_tokens.specs.declared.token.TokenKind.{TokenKind}
use Rattle.c_ast.specs.declared.words.Spelling.{Spelling}
use Rattle.c_ast.specs.Trees
use Rattle.c_ast.specs.Spelling.{Lexeme, spelled_comma, spelled_texts, spelled_tag, spelled_consts, spelled, spelled_arguments, spelled_optional}
use Rattle.c_ast.specs.Spelling.{spelled_type_name, spelled_specifiers, spelled_specifier, spelled_member_declarations, spelled_member_declarators}
use Rattle.c_ast.specs.Spelling.{spelled_enumerators, spelled_enumerator_value, spelled_declarator, spelled_parameter_list, spelled_parameters}
use Rattle.c_ast.specs.Spelling.{spelled_value, spelled_init_declarators, spelled_declaration, spelled_if_any, spelled_labels, spelled_for_start}
use Rattle.c_ast.specs.Spelling.{spelled_statement, spelled_block_item, spelled_block_items, spelled_switch_item, spelled_switch_items, spelled_item}
use Rattle.c_ast.specs.Spelling.{spelled_items}
use Rattle.c_ast.specs.WellFormed.{AreArguments, AreBlockItems, AreEnumerators, AreInitDeclarators, AreInitializers, AreItems, AreLabels}
use Rattle.c_ast.specs.WellFormed.{AreMemberDeclarations, AreMemberDeclarators, AreMoreSpecifiers, AreParameters, AreSpecifiers, AreSwitchItems, IsBlockItem}
use Rattle.c_ast.specs.WellFormed.{IsDeclaration, IsDeclarator, IsEnumeratorValue, IsExpression, IsExpressionIfAny, IsForStart, IsInitializer, IsItem}
use Rattle.c_ast.specs.WellFormed.{IsOptional, IsParameterList, IsSpecifier, IsStatement, IsSwitchItem, IsTypeName, IsValue, types_after}
use Rattle.c_ast.specs.Places.{begins_at, first, first_if_any, first_specifiers, first_declarator, places, places_arguments, places_optional}
use Rattle.c_ast.specs.Places.{places_type_name, places_specifiers, places_specifier, places_member_declarations, places_member_declarators}
use Rattle.c_ast.specs.Places.{places_enumerators, places_enumerator_value, places_declarator, places_parameter_list, places_parameters, places_initializer}
use Rattle.c_ast.specs.Places.{places_initializers, places_value, places_init_declarators, places_declaration, places_if_any, places_labels}
use Rattle.c_ast.specs.Places.{places_for_start, places_statement, places_block_item, places_block_items, places_switch_item, places_switch_items}
use Rattle.c_ast.specs.Places.{places_item, places_items}
use Rattle.c_grammar.specs.Reading.{fronted, begins_specifier}
use Rattle.c_grammar.proofs.FirstTokens.{begins_expression, expression_start, specifiers_start}
use Rattle.c_grammar.proofs.FirstPlaces.{expression_first, specifiers_first}

-- ---- places and tokens that all have a property

pub record Each (P : ℕ → Type 0) (places : List ℕ) : Type 0 where
  pub each : AllByRecursion P places

pub record EachToken (P : ℕ → Type 0) (tokens : List Lexeme) : Type 0 where
  pub each : AllByRecursion (λ token. P token.from) tokens

none : {P : ℕ → Type 0} → Each P []
none = record { each = tt }

and : {P : ℕ → Type 0} {at : ℕ} {more : List ℕ} → P at → Each P more → Each P (at ∷ more)
and p m = record { each = (p, m.each) }

both : {P : ℕ → Type 0} (a : List ℕ) {b : List ℕ} → Each P a → Each P b → Each P (a ++ b)
both [] p q = q
both (x ∷ a) p q = and p.each.0 (both a (record { each = p.each.1 }) q)

front : {P : ℕ → Type 0} {token : Lexeme} {rest : List Lexeme} → EachToken P (token ∷ rest) → P token.from
front h = h.each.0

back : {P : ℕ → Type 0} {token : Lexeme} {rest : List Lexeme} → EachToken P (token ∷ rest) → EachToken P rest
back h = record { each = h.each.1 }

comma_after : {P : ℕ → Type 0} (c : Option ℕ) {rest : List Lexeme} → EachToken P (spelled_comma c rest) → EachToken P rest
comma_after None h = h
comma_after (Some at) h = back h

tag_after : {P : ℕ → Type 0} (x : Option Spelling) {rest : List Lexeme} → EachToken P (spelled_tag x rest) → EachToken P rest
tag_after None h = h
tag_after (Some x) h = back h

texts_after : {P : ℕ → Type 0} (all : List Spelling) {rest : List Lexeme} → EachToken P (spelled_texts all rest) → EachToken P rest
texts_after [] h = h
texts_after (x ∷ more) h = texts_after more (back h)

consts_after : {P : ℕ → Type 0} (all : List ℕ) {rest : List Lexeme} → EachToken P (spelled_consts all rest) → EachToken P rest
consts_after [] h = h
consts_after (at ∷ more) h = consts_after more (back h)

-- ---- where a tree begins

begun : (P : ℕ → Type 0) (p : TokenKind → Bool) (tokens : List Lexeme) → fronted p tokens ≡ true → EachToken P tokens → P (begins_at tokens)
begun P p [] f h = cc
begun P p (token ∷ rest) f h = front h

begun_specifier : (P : ℕ → Type 0) (types : List (List ℕ)) (tokens : List Lexeme) → begins_specifier types tokens ≡ true
    → EachToken P tokens → P (begins_at tokens)
begun_specifier P types [] f h = cc
begun_specifier P types (token ∷ rest) f h = front h

expression_begins : (P : ℕ → Type 0) (types : List (List ℕ)) (t : Trees.Expression) → IsExpression types t → (rest : List Lexeme)
    → EachToken P (spelled t rest) → P (first t)
expression_begins P types t w rest h =
    subst P (expression_first types t w rest) (begun P begins_expression (spelled t rest) (expression_start types t w rest).begins h)

if_any_begins : (P : ℕ → Type 0) (types : List (List ℕ)) (t : Option Trees.Expression) → IsExpressionIfAny types t → (token : Lexeme) (rest : List Lexeme)
    → EachToken P (spelled_if_any t (token ∷ rest)) → P (first_if_any t token.from)
if_any_begins P types None w token rest h = front h
if_any_begins P types (Some a) w token rest h = expression_begins P types a w (token ∷ rest) h

specifiers_begin : (P : ℕ → Type 0) (types : List (List ℕ)) (specs : Trees.Specifiers) → AreSpecifiers types specs → (rest : List Lexeme)
    → EachToken P (spelled_specifiers specs rest) → P (first_specifiers specs)
specifiers_begin P types specs w rest h =
    subst P (specifiers_first types specs w rest) (begun_specifier P types (spelled_specifiers specs rest) (specifiers_start types specs w rest) h)

declarator_begins : (P : ℕ → Type 0) (d : Trees.Declarator) (token : Lexeme) (rest : List Lexeme)
    → EachToken P (spelled_declarator d (token ∷ rest)) → P (first_declarator d token.from)
declarator_begins P Trees.nothing token rest h = front h
declarator_begins P (Trees.named x) token rest h = front h
declarator_begins P (Trees.pointer at consts d) token rest h = front h
declarator_begins P (Trees.enclosed left d right) token rest h = front h
declarator_begins P (Trees.array d left bound right) token rest h = declarator_begins P d _ _ h
declarator_begins P (Trees.function d left all right) token rest h = declarator_begins P d _ _ h

-- ---- the nodes of a tree, and the tokens after it

pub record Stand (P : ℕ → Type 0) (places : List ℕ) (rest : List Lexeme) : Type 0 where
  pub nodes : Each P places
  pub others : EachToken P rest

module _ (P : ℕ → Type 0) (types : List (List ℕ)) where
  mutual
    stand : (t : Trees.Expression) → IsExpression types t → {rest : List Lexeme} → EachToken P (spelled t rest) → Stand P (places t) rest
    stand (Trees.name x) w h = record { nodes = and (front h) none; others = back h }
    stand (Trees.number x n kind) w h = record { nodes = and (front h) none; others = back h }
    stand (Trees.character x n) w h = record { nodes = and (front h) none; others = back h }
    stand (Trees.texts []) w h = absurd (w refl)
    stand (Trees.texts (x ∷ more)) w h = record { nodes = and (front h) none; others = texts_after more (back h) }
    stand (Trees.paren left a right) w h = let p = stand a w (back h) in record { nodes = and (front h) p.nodes; others = back p.others }
    stand (Trees.index a left b right) w h =
        let p = stand a w.1 h in
        let q = stand b w.2 (back p.others) in
        record { nodes = and (expression_begins P types a w.1 _ h) (both (places a) p.nodes q.nodes); others = back q.others }
    stand (Trees.call f left all right) w h =
        let p = stand f w.1 h in
        let q = arguments_stand true all w.2 (back p.others) in
        record { nodes = and (expression_begins P types f w.1 _ h) (both (places f) p.nodes q.nodes); others = back q.others }
    stand (Trees.dot a at x) w h =
        let p = stand a w.1 h in
        record { nodes = and (expression_begins P types a w.1 _ h) p.nodes; others = back (back p.others) }
    stand (Trees.arrow a at x) w h =
        let p = stand a w.1 h in
        record { nodes = and (expression_begins P types a w.1 _ h) p.nodes; others = back (back p.others) }
    stand (Trees.post a op at) w h = let p = stand a w.1 h in record { nodes = and (expression_begins P types a w.1 _ h) p.nodes; others = back p.others }
    stand (Trees.pre op at a) w h = let p = stand a w.1 (back h) in record { nodes = and (front h) p.nodes; others = p.others }
    stand (Trees.unary op at a) w h = let p = stand a w.1 (back h) in record { nodes = and (front h) p.nodes; others = p.others }
    stand (Trees.sizeof_expression at a) w h = let p = stand a w.1 (back h) in record { nodes = and (front h) p.nodes; others = p.others }
    stand (Trees.sizeof_type at left t right) w h =
        let p = type_name_stand t w (back (back h)) in
        record { nodes = and (front h) p.nodes; others = back p.others }
    stand (Trees.cast left t right a) w h =
        let p = type_name_stand t w.1 (back h) in
        let q = stand a w.2 (back p.others) in
        record { nodes = and (front h) (both (places_type_name t) p.nodes q.nodes); others = q.others }
    stand (Trees.binary a op at b) w h =
        let p = stand a w.2 h in
        let q = stand b w.3 (back p.others) in
        record { nodes = and (expression_begins P types a w.2 _ h) (both (places a) p.nodes q.nodes); others = q.others }
    stand (Trees.cond a question b colon c) w h =
        let p = stand a w.2 h in
        let q = stand b w.3 (back p.others) in
        let r = stand c w.4 (back q.others) in
        record {
          nodes = and (expression_begins P types a w.2 _ h) (both (places a ++ places b) (both (places a) p.nodes q.nodes) r.nodes);
          others = r.others;
        }
    stand (Trees.assign a op at b) w h =
        let p = stand a w.2 h in
        let q = stand b w.3 (back p.others) in
        record { nodes = and (expression_begins P types a w.2 _ h) (both (places a) p.nodes q.nodes); others = q.others }
    stand (Trees.comma a at b) w h =
        let p = stand a w.1 h in
        let q = stand b w.2 (back p.others) in
        record { nodes = and (expression_begins P types a w.1 _ h) (both (places a) p.nodes q.nodes); others = q.others }
    stand (Trees.braces left all comma right) w h = absurd w

    arguments_stand : (first : Bool) (t : Trees.Arguments) → AreArguments types first t → {rest : List Lexeme}
        → EachToken P (spelled_arguments t rest) → Stand P (places_arguments t) rest
    arguments_stand first Trees.no_arguments w h = record { nodes = none; others = h }
    arguments_stand first (Trees.and_argument comma a more) w h =
        let p = stand a w.2 (comma_after comma h) in
        let q = arguments_stand false more w.3 p.others in
        record { nodes = both (places a) p.nodes q.nodes; others = q.others }

    optional_stand : (t : Trees.OptionalExpression) → IsOptional types t → {rest : List Lexeme}
        → EachToken P (spelled_optional t rest) → Stand P (places_optional t) rest
    optional_stand Trees.no_expression w h = record { nodes = none; others = h }
    optional_stand (Trees.some_expression a) w h = stand a w.1 h

    type_name_stand : (t : Trees.TypeName) → IsTypeName types t → {rest : List Lexeme}
        → EachToken P (spelled_type_name t rest) → Stand P (places_type_name t) rest
    type_name_stand (Trees.type_name specs d) w h =
        let p = specifiers_stand specs w.0 h in
        let q = declarator_stand d w.1 p.others in
        record { nodes = both (places_specifiers specs) p.nodes q.nodes; others = q.others }

    specifiers_stand : (t : Trees.Specifiers) → AreSpecifiers types t → {rest : List Lexeme}
        → EachToken P (spelled_specifiers t rest) → Stand P (places_specifiers t) rest
    specifiers_stand Trees.no_specifiers w h = absurd w
    specifiers_stand (Trees.and_specifier s more) w h =
        let p = specifier_stand s w.0 h in
        let q = more_specifiers_stand more w.1 p.others in
        record { nodes = both (places_specifier s) p.nodes q.nodes; others = q.others }

    more_specifiers_stand : (t : Trees.Specifiers) → AreMoreSpecifiers types t → {rest : List Lexeme}
        → EachToken P (spelled_specifiers t rest) → Stand P (places_specifiers t) rest
    more_specifiers_stand Trees.no_specifiers w h = record { nodes = none; others = h }
    more_specifiers_stand (Trees.and_specifier s more) w h =
        let p = specifier_stand s w.0 h in
        let q = more_specifiers_stand more w.1 p.others in
        record { nodes = both (places_specifier s) p.nodes q.nodes; others = q.others }

    specifier_stand : (t : Trees.Specifier) → IsSpecifier types t → {rest : List Lexeme}
        → EachToken P (spelled_specifier t rest) → Stand P (places_specifier t) rest
    specifier_stand (Trees.plain word at) w h = record { nodes = and (front h) none; others = back h }
    specifier_stand (Trees.typename x) w h = record { nodes = and (front h) none; others = back h }
    specifier_stand (Trees.struct_named at x) w h = record { nodes = and (front h) none; others = back (back h) }
    specifier_stand (Trees.struct_body at x left all right) w h =
        let p = member_declarations_stand all w.1 (back (tag_after x (back h))) in
        record { nodes = and (front h) p.nodes; others = back p.others }
    specifier_stand (Trees.enum_named at x) w h = record { nodes = and (front h) none; others = back (back h) }
    specifier_stand (Trees.enum_body at x left all comma right) w h =
        let p = enumerators_stand true all w.1 (back (tag_after x (back h))) in
        record { nodes = and (front h) p.nodes; others = back (comma_after comma p.others) }

    member_declarations_stand : (t : Trees.MemberDeclarations) → AreMemberDeclarations types t → {rest : List Lexeme}
        → EachToken P (spelled_member_declarations t rest) → Stand P (places_member_declarations t) rest
    member_declarations_stand Trees.no_member_declarations w h = record { nodes = none; others = h }
    member_declarations_stand (Trees.and_member_declaration specs all semicolon more) w h =
        let p = specifiers_stand specs w.0 h in
        let q = member_declarators_stand true all w.2 p.others in
        let r = member_declarations_stand more w.3 (back q.others) in
        record {
          nodes = and (specifiers_begin P types specs w.0 _ h)
              (both (places_specifiers specs ++ places_member_declarators all) (both (places_specifiers specs) p.nodes q.nodes) r.nodes);
          others = r.others;
        }

    member_declarators_stand : (first : Bool) (t : Trees.MemberDeclarators) → AreMemberDeclarators types first t → {rest : List Lexeme}
        → EachToken P (spelled_member_declarators t rest) → Stand P (places_member_declarators t) rest
    member_declarators_stand first Trees.no_member_declarators w h = record { nodes = none; others = h }
    member_declarators_stand first (Trees.and_member_declarator comma d more) w h =
        let p = declarator_stand d w.1 (comma_after comma h) in
        let q = member_declarators_stand false more w.3 p.others in
        record { nodes = both (places_declarator d) p.nodes q.nodes; others = q.others }

    enumerators_stand : (first : Bool) (t : Trees.Enumerators) → AreEnumerators types first t → {rest : List Lexeme}
        → EachToken P (spelled_enumerators t rest) → Stand P (places_enumerators t) rest
    enumerators_stand first Trees.no_enumerators w h = record { nodes = none; others = h }
    enumerators_stand first (Trees.and_enumerator comma x value more) w h =
        let p = enumerator_value_stand value w.2 (back (comma_after comma h)) in
        let q = enumerators_stand false more w.3 p.others in
        record { nodes = and (front (comma_after comma h)) (both (places_enumerator_value value) p.nodes q.nodes); others = q.others }

    enumerator_value_stand : (t : Trees.EnumeratorValue) → IsEnumeratorValue types t → {rest : List Lexeme}
        → EachToken P (spelled_enumerator_value t rest) → Stand P (places_enumerator_value t) rest
    enumerator_value_stand Trees.no_value w h = record { nodes = none; others = h }
    enumerator_value_stand (Trees.valued equal a) w h = let p = stand a w.1 (back h) in record { nodes = p.nodes; others = p.others }

    declarator_stand : (t : Trees.Declarator) → IsDeclarator types t → {rest : List Lexeme}
        → EachToken P (spelled_declarator t rest) → Stand P (places_declarator t) rest
    declarator_stand Trees.nothing w h = record { nodes = none; others = h }
    declarator_stand (Trees.named x) w h = record { nodes = and (front h) none; others = back h }
    declarator_stand (Trees.pointer at consts d) w h =
        let p = declarator_stand d w (consts_after consts (back h)) in
        record { nodes = and (front h) p.nodes; others = p.others }
    declarator_stand (Trees.enclosed left d right) w h =
        let p = declarator_stand d w.1 (back h) in
        record { nodes = and (front h) p.nodes; others = back p.others }
    declarator_stand (Trees.array d left bound right) w h =
        let p = declarator_stand d w.1 h in
        let q = optional_stand bound w.2 (back p.others) in
        record { nodes = and (declarator_begins P d _ _ h) (both (places_declarator d) p.nodes q.nodes); others = back q.others }
    declarator_stand (Trees.function d left all right) w h =
        let p = declarator_stand d w.1 h in
        let q = parameter_list_stand all w.2 (back p.others) in
        record { nodes = and (declarator_begins P d _ _ h) (both (places_declarator d) p.nodes q.nodes); others = back q.others }

    parameter_list_stand : (t : Trees.ParameterList) → IsParameterList types t → {rest : List Lexeme}
        → EachToken P (spelled_parameter_list t rest) → Stand P (places_parameter_list t) rest
    parameter_list_stand (Trees.void_alone at) w h = record { nodes = none; others = back h }
    parameter_list_stand (Trees.listed all) w h = parameters_stand true all w.1 h

    parameters_stand : (first : Bool) (t : Trees.Parameters) → AreParameters types first t → {rest : List Lexeme}
        → EachToken P (spelled_parameters t rest) → Stand P (places_parameters t) rest
    parameters_stand first Trees.no_parameters w h = record { nodes = none; others = h }
    parameters_stand first (Trees.and_parameter comma specs d more) w h =
        let p = specifiers_stand specs w.1 (comma_after comma h) in
        let q = declarator_stand d w.2 p.others in
        let r = parameters_stand false more w.3 q.others in
        record { nodes = both (places_specifiers specs ++ places_declarator d) (both (places_specifiers specs) p.nodes q.nodes) r.nodes; others = r.others }

  mutual
    initializer_stand : (t : Trees.Expression) → IsInitializer types t → {rest : List Lexeme}
        → EachToken P (spelled t rest) → Stand P (places_initializer t) rest
    initializer_stand (Trees.braces left all comma right) w h =
        let p = initializers_stand true all w.1 (back h) in
        record { nodes = and (front h) p.nodes; others = back (comma_after comma p.others) }
    initializer_stand a w h = let p = stand a w.1 h in record { nodes = and (expression_begins P types a w.1 _ h) p.nodes; others = p.others }

    initializers_stand : (first : Bool) (t : Trees.Arguments) → AreInitializers types first t → {rest : List Lexeme}
        → EachToken P (spelled_arguments t rest) → Stand P (places_initializers t) rest
    initializers_stand first Trees.no_arguments w h = record { nodes = none; others = h }
    initializers_stand first (Trees.and_argument comma a more) w h =
        let p = initializer_stand a w.1 (comma_after comma h) in
        let q = initializers_stand false more w.2 p.others in
        record { nodes = both (places_initializer a) p.nodes q.nodes; others = q.others }

  value_stand : (t : Option (ℕ × Trees.Expression)) → IsValue types t → {rest : List Lexeme}
      → EachToken P (spelled_value t rest) → Stand P (places_value t) rest
  value_stand None w h = record { nodes = none; others = h }
  value_stand (Some value) w h = let p = initializer_stand value.1 w (back h) in record { nodes = p.nodes; others = p.others }

  init_declarators_stand : (first : Bool) (t : List Trees.InitDeclarator) → AreInitDeclarators types first t → {rest : List Lexeme}
      → EachToken P (spelled_init_declarators t rest) → Stand P (places_init_declarators t) rest
  init_declarators_stand first [] w h = record { nodes = none; others = h }
  init_declarators_stand first (d ∷ more) w h =
      let p = declarator_stand d.declarator w.1 (comma_after d.comma h) in
      let q = value_stand d.value w.3 p.others in
      let r = init_declarators_stand false more w.4 q.others in
      record {
        nodes = both (places_declarator d.declarator ++ places_value d.value) (both (places_declarator d.declarator) p.nodes q.nodes) r.nodes;
        others = r.others;
      }

  declaration_stand : (t : Trees.Declaration) → IsDeclaration types t → {rest : List Lexeme}
      → EachToken P (spelled_declaration t rest) → Stand P (places_declaration t) rest
  declaration_stand d w h =
      let p = specifiers_stand d.specs w.0 h in
      let q = init_declarators_stand true d.all w.1 p.others in
      record { nodes = both (places_specifiers d.specs) p.nodes q.nodes; others = back q.others }

  if_any_stand : (t : Option Trees.Expression) → IsExpressionIfAny types t → {rest : List Lexeme}
      → EachToken P (spelled_if_any t rest) → Stand P (places_if_any t) rest
  if_any_stand None w h = record { nodes = none; others = h }
  if_any_stand (Some a) w h = stand a w h

  labels_stand : (t : List Trees.Label) → AreLabels types t → {rest : List Lexeme} → EachToken P (spelled_labels t rest) → Stand P (places_labels t) rest
  labels_stand [] w h = record { nodes = none; others = h }
  labels_stand (Trees.case at a colon ∷ more) w h =
      let p = stand a w.1 (back h) in
      let q = labels_stand more w.2 (back p.others) in
      record { nodes = both (places a) p.nodes q.nodes; others = q.others }
  labels_stand (Trees.default at colon ∷ more) w h = let p = labels_stand more w (back (back h)) in record { nodes = p.nodes; others = p.others }

  for_start_stand : (t : Trees.ForStart) → IsForStart types t → {rest : List Lexeme}
      → EachToken P (spelled_for_start t rest) → Stand P (places_for_start t) rest
  for_start_stand (Trees.starts_with a semicolon) w h = let p = if_any_stand a w h in record { nodes = p.nodes; others = back p.others }
  for_start_stand (Trees.declares d) w h = declaration_stand d w.1 h

  mutual
    statement_stand : (t : Trees.Statement) → IsStatement types t → {rest : List Lexeme}
        → EachToken P (spelled_statement t rest) → Stand P (places_statement t) rest
    statement_stand (Trees.block left items right) w h =
        let p = block_items_stand items w (back h) in
        record { nodes = and (front h) p.nodes; others = back p.others }
    statement_stand (Trees.evaluate a semicolon) w h =
        let p = if_any_stand a w h in
        record { nodes = and (if_any_begins P types a w _ _ h) p.nodes; others = back p.others }
    statement_stand (Trees.when at left a right one) w h =
        let p = stand a w.0 (back (back h)) in
        let q = statement_stand one w.1 (back p.others) in
        record { nodes = and (front h) (both (places a) p.nodes q.nodes); others = q.others }
    statement_stand (Trees.choose at left a right one else other) w h =
        let p = stand a w.1 (back (back h)) in
        let q = statement_stand one w.2 (back p.others) in
        let r = statement_stand other w.3 (back q.others) in
        record { nodes = and (front h) (both (places a ++ places_statement one) (both (places a) p.nodes q.nodes) r.nodes); others = r.others }
    statement_stand (Trees.while at left a right body) w h =
        let p = stand a w.0 (back (back h)) in
        let q = statement_stand body w.1 (back p.others) in
        record { nodes = and (front h) (both (places a) p.nodes q.nodes); others = q.others }
    statement_stand (Trees.do_while at body while left a right semicolon) w h =
        let p = statement_stand body w.0 (back h) in
        let q = stand a w.1 (back (back p.others)) in
        record { nodes = and (front h) (both (places_statement body) p.nodes q.nodes); others = back (back q.others) }
    statement_stand (Trees.for at left start test semicolon step right body) w h =
        let p = for_start_stand start w.0 (back (back h)) in
        let q = if_any_stand test w.1 p.others in
        let r = if_any_stand step w.2 (back q.others) in
        let s = statement_stand body w.3 (back r.others) in
        record {
          nodes = and (front h)
              (both (places_for_start start ++ places_if_any test ++ places_if_any step) (both (places_for_start start ++ places_if_any test)
              (both (places_for_start start) p.nodes q.nodes) r.nodes) s.nodes);
          others = s.others;
        }
    statement_stand (Trees.switch at left a right begin all end) w h =
        let p = stand a w.0 (back (back h)) in
        let q = switch_items_stand all w.1 (back (back p.others)) in
        record { nodes = and (front h) (both (places a) p.nodes q.nodes); others = back q.others }
    statement_stand (Trees.break at semicolon) w h = record { nodes = and (front h) none; others = back (back h) }
    statement_stand (Trees.continue at semicolon) w h = record { nodes = and (front h) none; others = back (back h) }
    statement_stand (Trees.return at a semicolon) w h = let p = if_any_stand a w (back h) in record { nodes = and (front h) p.nodes; others = back p.others }

    block_item_stand : (t : Trees.BlockItem) → IsBlockItem types t → {rest : List Lexeme}
        → EachToken P (spelled_block_item t rest) → Stand P (places_block_item t) rest
    block_item_stand (Trees.local d) w h = declaration_stand d w h
    block_item_stand (Trees.statement a) w h = statement_stand a w h

    block_items_stand : (t : Trees.BlockItems) → AreBlockItems types t → {rest : List Lexeme}
        → EachToken P (spelled_block_items t rest) → Stand P (places_block_items t) rest
    block_items_stand Trees.no_block_items w h = record { nodes = none; others = h }
    block_items_stand (Trees.and_block_item e more) w h =
        let p = block_item_stand e w.0 h in
        let q = block_items_stand more w.1 p.others in
        record { nodes = both (places_block_item e) p.nodes q.nodes; others = q.others }

    switch_item_stand : (t : Trees.SwitchItem) → IsSwitchItem types t → {rest : List Lexeme}
        → EachToken P (spelled_switch_item t rest) → Stand P (places_switch_item t) rest
    switch_item_stand (Trees.local_switch_item d) w h = declaration_stand d w.1 h
    switch_item_stand (Trees.labelled labels a) w h =
        let p = labels_stand labels w.0 h in
        let q = statement_stand a w.1 p.others in
        record { nodes = both (places_labels labels) p.nodes q.nodes; others = q.others }

    switch_items_stand : (t : Trees.SwitchItems) → AreSwitchItems types t → {rest : List Lexeme}
        → EachToken P (spelled_switch_items t rest) → Stand P (places_switch_items t) rest
    switch_items_stand Trees.no_switch_items w h = record { nodes = none; others = h }
    switch_items_stand (Trees.and_switch_item e more) w h =
        let p = switch_item_stand e w.0 h in
        let q = switch_items_stand more w.1 p.others in
        record { nodes = both (places_switch_item e) p.nodes q.nodes; others = q.others }

item_stand : (P : ℕ → Type 0) (types : List (List ℕ)) (t : Trees.Item) → IsItem types t → {rest : List Lexeme}
    → EachToken P (spelled_item t rest) → Stand P (places_item t) rest
item_stand P types (Trees.defines specs d left items right) w h =
    let p = specifiers_stand P types specs w.0 h in
    let q = declarator_stand P types d w.1 p.others in
    let r = block_items_stand P types items w.3 (back q.others) in
    record {
      nodes = and (specifiers_begin P types specs w.0 _ h)
          (both (places_specifiers specs ++ places_declarator d) (both (places_specifiers specs) p.nodes q.nodes) (and (front q.others) r.nodes));
      others = back r.others;
    }
item_stand P types (Trees.declaration d) w h =
    let p = declaration_stand P types d w h in
    record { nodes = and (specifiers_begin P types d.specs w.0 _ h) p.nodes; others = p.others }

pub items_stand : (P : ℕ → Type 0) (types : List (List ℕ)) (t : List Trees.Item) → AreItems types t → {rest : List Lexeme}
    → EachToken P (spelled_items t rest) → Stand P (places_items t) rest
items_stand P types [] w h = record { nodes = none; others = h }
items_stand P types (item ∷ items) w h =
    let p = item_stand P types item w.0 h in
    let q = items_stand P (types_after types item) items w.1 p.others in
    record { nodes = both (places_item item) p.nodes q.nodes; others = q.others }
