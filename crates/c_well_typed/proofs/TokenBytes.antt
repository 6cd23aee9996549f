-- The characters of string literals are bytes (C99 6.4.5, 5.2.1): of the tokens of a text, and of what stands behind a part of its tree.
use Rattle.std.proofs.Common.{ℕ, ◌≤◌, sym, subst, List, [], ◌∷◌, ◌++◌, map, length, arith}
use Rattle.std.proofs.lemmas.List.Elements.{recursion_from_All}
use Rattle.std.specs.Prelude.{Option, Some, None}
use Rattle.std.specs.List.{AllByRecursion}
use Rattle.c_lexer.proofs.StringBytes.{strings_have_bytes}
use Rattle.c_lexer.proofs.TextsOfTokens.{tokens_have_texts}
use Rattle.c_tokens.specs.declared.token.Token.{Token}
use Rattle.c_tokens.specs.declared.token.TokenKind.{TokenKind}
use Rattle.c_tokens.specs.declared.token.TokenKind.TheVariants as K
use Rattle.c_tokens.specs.Quoted.{Item, item_value}
use Rattle.c_tokens.specs.QuotedScan.{string_bytes}
use Rattle.c_tokens.specs.TokenTexts.{token_text, IsTextOf, HaveTexts}
use Rattle.c_tokens.specs.Words.{greatest_character}
use Rattle.c_ast.specs.declared.words.Spelling.{Spelling}
use Rattle.c_ast.specs.Lexemes.{lexemes_of}
use Rattle.c_ast.specs.Spelling.{Lexeme, spell, spelled, spelled_comma, spelled_texts, spelled_tag, spelled_consts, spelled_arguments, spelled_optional}
use Rattle.c_ast.specs.Spelling.{spelled_type_name, spelled_specifiers, spelled_specifier, spelled_member_declarations, spelled_member_declarators}
use Rattle.c_ast.specs.Spelling.{spelled_enumerators, spelled_enumerator_value, spelled_declarator, spelled_parameter_list, spelled_parameters, spelled_value}
use Rattle.c_ast.specs.Spelling.{spelled_init_declarators, spelled_declaration, spelled_if_any, spelled_labels, spelled_for_start, spelled_statement}
use Rattle.c_ast.specs.Spelling.{spelled_block_item, spelled_block_items, spelled_switch_item, spelled_switch_items}
use Rattle.c_ast.specs.Trees
use Rattle.c_ast.specs.TreesOfFiles.{IsTreeOf}
use Rattle.c_erasure.specs.Erasure.{literal_of}
use Rattle.c_well_typed.proofs.InitialStores.{AreBytes}

abbrev pub IsOfBytes : TokenKind → List ℕ → Type 0
IsOfBytes K.Text text = AreBytes (string_bytes text)
IsOfBytes kind text = Unit {0}

-- and each token stands at a place that is so
abbrev pub AreOfBytes : (ℕ → Type 0) → List Lexeme → Type 0
AreOfBytes P [] = Unit {0}
AreOfBytes P (t ∷ tokens) = (IsOfBytes t.kind t.text × P t.from) × AreOfBytes P tokens

-- wherever they stand
abbrev pub Anywhere : ℕ → Type 0
Anywhere at = Unit {0}

-- ---- of the tokens of a text

values_below : (items : List Item) → AllByRecursion (λ item. item_value item ≤ greatest_character) items → AreBytes (map item_value items)
values_below [] h = tt
values_below (item ∷ items) h = let l = h.0 in (omega (arith, l), values_below items h.1)

token_of_bytes : (kind : TokenKind) (text : List ℕ) → IsTextOf kind text → IsOfBytes kind text
token_of_bytes K.Text text h =
    let b = strings_have_bytes.of_one text h in
    subst AreBytes (sym b.3) (values_below b.0 (recursion_from_All (λ item. item_value item ≤ greatest_character) b.0 b.2))
token_of_bytes (K.Keyword k) text h = tt
token_of_bytes (K.Punctuator m) text h = tt
token_of_bytes K.Name text h = tt
token_of_bytes (K.Number n kind) text h = tt
token_of_bytes (K.Character n) text h = tt

tokens_of_bytes : (bytes : List ℕ) (tokens : List Token) → HaveTexts bytes tokens → AreOfBytes Anywhere (lexemes_of bytes tokens)
tokens_of_bytes bytes [] h = tt
tokens_of_bytes bytes (t ∷ tokens) h = ((token_of_bytes t.kind (token_text bytes t) h.1, tt), tokens_of_bytes bytes tokens h.2)

pub tree_of_bytes : (bytes : List ℕ) (items : List Trees.Item) → IsTreeOf bytes items → AreOfBytes Anywhere (spell items)
tree_of_bytes bytes items tree = subst (AreOfBytes Anywhere) tree.3.spelled (tokens_of_bytes bytes tree.0 (tokens_have_texts bytes tree.0 tree.1))

pub at_places : (P : ℕ → Type 0) (tokens : List Lexeme) → AreOfBytes Anywhere tokens → AllByRecursion (λ t. P t.from) tokens → AreOfBytes P tokens
at_places P [] h k = tt
at_places P (t ∷ tokens) h k = ((h.0.0, k.0), at_places P tokens h.1 k.1)

-- ---- of a literal

joined : (u v : List ℕ) → AreBytes u → AreBytes v → AreBytes (u ++ v)
joined [] v h k = k
joined (x ∷ u) v h k = (h.0, joined u v h.1 k)

module _ (P : ℕ → Type 0) where
  pub literal_of_bytes : (all : List Spelling) (rest : List Lexeme) → AreOfBytes P (spelled_texts all rest) → AreBytes (literal_of all)
  literal_of_bytes [] rest h = (omega arith, tt)
  literal_of_bytes (x ∷ more) rest h = joined (string_bytes x.text) (literal_of more) h.0.0 (literal_of_bytes more rest h.1)

  -- ---- behind a part

  pub behind_comma : (c : Option ℕ) (rest : List Lexeme) → AreOfBytes P (spelled_comma c rest) → AreOfBytes P rest
  behind_comma None rest h = h
  behind_comma (Some at) rest h = h.1

  behind_texts : (all : List Spelling) (rest : List Lexeme) → AreOfBytes P (spelled_texts all rest) → AreOfBytes P rest
  behind_texts [] rest h = h
  behind_texts (x ∷ more) rest h = behind_texts more rest h.1

  behind_tag : (x : Option Spelling) (rest : List Lexeme) → AreOfBytes P (spelled_tag x rest) → AreOfBytes P rest
  behind_tag None rest h = h
  behind_tag (Some x) rest h = h.1

  behind_consts : (all : List ℕ) (rest : List Lexeme) → AreOfBytes P (spelled_consts all rest) → AreOfBytes P rest
  behind_consts [] rest h = h
  behind_consts (at ∷ more) rest h = behind_consts more rest h.1

  mutual
    pub behind : (a : Trees.Expression) (rest : List Lexeme) → AreOfBytes P (spelled a rest) → AreOfBytes P rest
    behind (Trees.name x) rest h = h.1
    behind (Trees.number x n kind) rest h = h.1
    behind (Trees.character x n) rest h = h.1
    behind (Trees.texts all) rest h = behind_texts all rest h
    behind (Trees.paren left a right) rest h = (behind a _ h.1).1
    behind (Trees.index a left b right) rest h = (behind b _ (behind a _ h).1).1
    behind (Trees.call f left all right) rest h = (behind_all all _ (behind f _ h).1).1
    behind (Trees.dot a at x) rest h = (behind a _ h).1.1
    behind (Trees.arrow a at x) rest h = (behind a _ h).1.1
    behind (Trees.post a op at) rest h = (behind a _ h).1
    behind (Trees.pre op at a) rest h = behind a rest h.1
    behind (Trees.unary op at a) rest h = behind a rest h.1
    behind (Trees.sizeof_expression at a) rest h = behind a rest h.1
    behind (Trees.sizeof_type at left n right) rest h = (behind_type n _ h.1.1).1
    behind (Trees.cast left n right a) rest h = behind a rest (behind_type n _ h.1).1
    behind (Trees.binary a op at b) rest h = behind b rest (behind a _ h).1
    behind (Trees.cond a question b colon c) rest h = behind c rest (behind b _ (behind a _ h).1).1
    behind (Trees.assign a op at b) rest h = behind b rest (behind a _ h).1
    behind (Trees.comma a at b) rest h = behind b rest (behind a _ h).1
    behind (Trees.braces left all comma right) rest h = (behind_comma comma _ (behind_all all _ h.1)).1

    pub behind_all : (all : Trees.Arguments) (rest : List Lexeme) → AreOfBytes P (spelled_arguments all rest) → AreOfBytes P rest
    behind_all Trees.no_arguments rest h = h
    behind_all (Trees.and_argument comma a more) rest h = behind_all more rest (behind a _ (behind_comma comma _ h))

    behind_optional : (a : Trees.OptionalExpression) (rest : List Lexeme) → AreOfBytes P (spelled_optional a rest) → AreOfBytes P rest
    behind_optional Trees.no_expression rest h = h
    behind_optional (Trees.some_expression a) rest h = behind a rest h

    pub behind_type : (n : Trees.TypeName) (rest : List Lexeme) → AreOfBytes P (spelled_type_name n rest) → AreOfBytes P rest
    behind_type (Trees.type_name specs d) rest h = behind_declarator d rest (behind_specifiers specs _ h)

    pub behind_specifiers : (specs : Trees.Specifiers) (rest : List Lexeme) → AreOfBytes P (spelled_specifiers specs rest) → AreOfBytes P rest
    behind_specifiers Trees.no_specifiers rest h = h
    behind_specifiers (Trees.and_specifier s more) rest h = behind_specifiers more rest (behind_specifier s _ h)

    behind_specifier : (s : Trees.Specifier) (rest : List Lexeme) → AreOfBytes P (spelled_specifier s rest) → AreOfBytes P rest
    behind_specifier (Trees.plain word at) rest h = h.1
    behind_specifier (Trees.typename x) rest h = h.1
    behind_specifier (Trees.struct_named at x) rest h = h.1.1
    behind_specifier (Trees.struct_body at x left all right) rest h = (behind_members all _ (behind_tag x _ h.1).1).1
    behind_specifier (Trees.enum_named at x) rest h = h.1.1
    behind_specifier (Trees.enum_body at x left all comma right) rest h =
        (behind_comma comma _ (behind_enumerators all _ (behind_tag x _ h.1).1)).1

    behind_members : (all : Trees.MemberDeclarations) (rest : List Lexeme) → AreOfBytes P (spelled_member_declarations all rest) → AreOfBytes P rest
    behind_members Trees.no_member_declarations rest h = h
    behind_members (Trees.and_member_declaration specs ds semicolon more) rest h =
        behind_members more rest (behind_member_declarators ds _ (behind_specifiers specs _ h)).1

    behind_member_declarators : (ds : Trees.MemberDeclarators) (rest : List Lexeme) → AreOfBytes P (spelled_member_declarators ds rest) → AreOfBytes P rest
    behind_member_declarators Trees.no_member_declarators rest h = h
    behind_member_declarators (Trees.and_member_declarator comma d more) rest h =
        behind_member_declarators more rest (behind_declarator d _ (behind_comma comma _ h))

    behind_enumerators : (all : Trees.Enumerators) (rest : List Lexeme) → AreOfBytes P (spelled_enumerators all rest) → AreOfBytes P rest
    behind_enumerators Trees.no_enumerators rest h = h
    behind_enumerators (Trees.and_enumerator comma x value more) rest h =
        behind_enumerators more rest (behind_enumerator_value value _ (behind_comma comma _ h).1)

    behind_enumerator_value : (value : Trees.EnumeratorValue) (rest : List Lexeme) → AreOfBytes P (spelled_enumerator_value value rest) → AreOfBytes P rest
    behind_enumerator_value Trees.no_value rest h = h
    behind_enumerator_value (Trees.valued equal a) rest h = behind a rest h.1

    pub behind_declarator : (d : Trees.Declarator) (rest : List Lexeme) → AreOfBytes P (spelled_declarator d rest) → AreOfBytes P rest
    behind_declarator Trees.nothing rest h = h
    behind_declarator (Trees.named x) rest h = h.1
    behind_declarator (Trees.pointer at consts d) rest h = behind_declarator d rest (behind_consts consts _ h.1)
    behind_declarator (Trees.enclosed left d right) rest h = (behind_declarator d _ h.1).1
    behind_declarator (Trees.array d left length right) rest h = (behind_optional length _ (behind_declarator d _ h).1).1
    behind_declarator (Trees.function d left all right) rest h = (behind_list all _ (behind_declarator d _ h).1).1

    behind_list : (all : Trees.ParameterList) (rest : List Lexeme) → AreOfBytes P (spelled_parameter_list all rest) → AreOfBytes P rest
    behind_list (Trees.void_alone at) rest h = h.1
    behind_list (Trees.listed all) rest h = behind_parameters all rest h

    behind_parameters : (all : Trees.Parameters) (rest : List Lexeme) → AreOfBytes P (spelled_parameters all rest) → AreOfBytes P rest
    behind_parameters Trees.no_parameters rest h = h
    behind_parameters (Trees.and_parameter comma specs d more) rest h =
        behind_parameters more rest (behind_declarator d _ (behind_specifiers specs _ (behind_comma comma _ h)))

  -- ---- behind declarations and statements

  pub behind_value : (value : Option (ℕ × Trees.Expression)) (rest : List Lexeme) → AreOfBytes P (spelled_value value rest) → AreOfBytes P rest
  behind_value None rest h = h
  behind_value (Some value) rest h = behind value.1 rest h.1

  pub behind_declarators : (all : List Trees.InitDeclarator) (rest : List Lexeme) → AreOfBytes P (spelled_init_declarators all rest) → AreOfBytes P rest
  behind_declarators [] rest h = h
  behind_declarators (d ∷ more) rest h =
      behind_declarators more rest (behind_value d.value _ (behind_declarator d.declarator _ (behind_comma d.comma _ h)))

  pub behind_declaration : (d : Trees.Declaration) (rest : List Lexeme) → AreOfBytes P (spelled_declaration d rest) → AreOfBytes P rest
  behind_declaration d rest h = (behind_declarators d.all _ (behind_specifiers d.specs _ h)).1

  pub behind_if_any : (a : Option Trees.Expression) (rest : List Lexeme) → AreOfBytes P (spelled_if_any a rest) → AreOfBytes P rest
  behind_if_any None rest h = h
  behind_if_any (Some a) rest h = behind a rest h

  pub behind_labels : (all : List Trees.Label) (rest : List Lexeme) → AreOfBytes P (spelled_labels all rest) → AreOfBytes P rest
  behind_labels [] rest h = h
  behind_labels (Trees.case at a colon ∷ more) rest h = behind_labels more rest (behind a _ h.1).1
  behind_labels (Trees.default at colon ∷ more) rest h = behind_labels more rest h.1.1

  pub behind_start : (t : Trees.ForStart) (rest : List Lexeme) → AreOfBytes P (spelled_for_start t rest) → AreOfBytes P rest
  behind_start (Trees.starts_with a semicolon) rest h = (behind_if_any a _ h).1
  behind_start (Trees.declares d) rest h = behind_declaration d rest h

  mutual
    pub behind_statement : (t : Trees.Statement) (rest : List Lexeme) → AreOfBytes P (spelled_statement t rest) → AreOfBytes P rest
    behind_statement (Trees.block left items right) rest h = (behind_items items _ h.1).1
    behind_statement (Trees.evaluate a semicolon) rest h = (behind_if_any a _ h).1
    behind_statement (Trees.when at left a right one) rest h = behind_statement one rest (behind a _ h.1.1).1
    behind_statement (Trees.choose at left a right one middle other) rest h =
        behind_statement other rest (behind_statement one _ (behind a _ h.1.1).1).1
    behind_statement (Trees.while at left a right body) rest h = behind_statement body rest (behind a _ h.1.1).1
    behind_statement (Trees.do_while at body while left a right semicolon) rest h = (behind a _ (behind_statement body _ h.1).1.1).1.1
    behind_statement (Trees.for at left start test semicolon step right body) rest h =
        behind_statement body rest (behind_if_any step _ (behind_if_any test _ (behind_start start _ h.1.1)).1).1
    behind_statement (Trees.switch at left a right begin items end) rest h = (behind_switch_items items _ (behind a _ h.1.1).1.1).1
    behind_statement (Trees.break at semicolon) rest h = h.1.1
    behind_statement (Trees.continue at semicolon) rest h = h.1.1
    behind_statement (Trees.return at a semicolon) rest h = (behind_if_any a _ h.1).1

    pub behind_item : (t : Trees.BlockItem) (rest : List Lexeme) → AreOfBytes P (spelled_block_item t rest) → AreOfBytes P rest
    behind_item (Trees.local d) rest h = behind_declaration d rest h
    behind_item (Trees.statement a) rest h = behind_statement a rest h

    pub behind_items : (t : Trees.BlockItems) (rest : List Lexeme) → AreOfBytes P (spelled_block_items t rest) → AreOfBytes P rest
    behind_items Trees.no_block_items rest h = h
    behind_items (Trees.and_block_item e more) rest h = behind_items more rest (behind_item e _ h)

    pub behind_switch_item : (t : Trees.SwitchItem) (rest : List Lexeme) → AreOfBytes P (spelled_switch_item t rest) → AreOfBytes P rest
    behind_switch_item (Trees.local_switch_item d) rest h = behind_declaration d rest h
    behind_switch_item (Trees.labelled labels a) rest h = behind_statement a rest (behind_labels labels _ h)

    behind_switch_items : (t : Trees.SwitchItems) (rest : List Lexeme) → AreOfBytes P (spelled_switch_items t rest) → AreOfBytes P rest
    behind_switch_items Trees.no_switch_items rest h = h
    behind_switch_items (Trees.and_switch_item item more) rest h = behind_switch_items more rest (behind_switch_item item _ h)
