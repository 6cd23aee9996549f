-- In the tree of a text of at most 4 MiB string literals are short: they stand in the text one after the other (C99 6.4.5).
use Rattle.std.proofs.Common.{◌≡◌, ℕ, zero, suc, ◌+◌, ◌-◌, ◌≤◌, refl, subst, List, [], ◌∷◌, length, take, drop, arith, length-append}
use Rattle.std.specs.Prelude.{Bool, true, false, if◌then◌else◌, Option, Some, None, option_map}
use Rattle.std.specs.List.{list_any}
use Rattle.c_tokens.specs.declared.token.Token.{Token}
use Rattle.c_tokens.specs.QuotedScan.{item_at, with_item, values_in, is_too_great, body_of, bytes_with, string_bytes}
use Rattle.c_tokens.specs.TokenPlaces.{AreInOrder, TokensHavePlaces}
use Rattle.c_ast.specs.declared.words.Spelling.{Spelling}
use Rattle.c_ast.specs.Lexemes.{lexemes_of}
use Rattle.c_ast.specs.Spelling.{Lexeme, spelled_comma, spelled_texts, spelled_tag, spelled_consts, spelled, spelled_arguments, spelled_optional}
use Rattle.c_ast.specs.Spelling.{spelled_type_name}
use Rattle.c_ast.specs.Spelling.{spelled_specifiers, spelled_specifier, spelled_member_declarations, spelled_member_declarators, spelled_enumerators}
use Rattle.c_ast.specs.Spelling.{spelled_enumerator_value, spelled_declarator, spelled_parameter_list, spelled_parameters, spelled_value}
use Rattle.c_ast.specs.Spelling.{spelled_init_declarators}
use Rattle.c_ast.specs.Spelling.{spelled_declaration, spelled_if_any, spelled_labels, spelled_for_start, spelled_statement, spelled_block_item}
use Rattle.c_ast.specs.Spelling.{spelled_block_items}
use Rattle.c_ast.specs.Spelling.{spelled_switch_item, spelled_switch_items, spelled_item, spelled_items}
use Rattle.c_ast.specs.Trees
use Rattle.c_ast.specs.TreesOfFiles.{IsTreeOf}
use Rattle.c_erasure.specs.Erasure.{literal_of}
use Rattle.c_checking_units.proofs.TypeLimits.Literals.{Short, ShortArguments, ShortOptional, ShortTypeName, ShortSpecifiers, ShortSpecifier, ShortMembers}
use Rattle.c_checking_units.proofs.TypeLimits.Literals.{ShortMemberDeclarators, ShortEnumerators, ShortValue, ShortDeclarator, ShortParameterList}
use Rattle.c_checking_units.proofs.TypeLimits.Literals.{ShortParameters, ShortIfAny}
use Rattle.c_checking_units.proofs.TypeLimits.Literals.{ShortInitial, ShortInitDeclarators, ShortDeclaration, ShortLabels, ShortStart, ShortStatement}
use Rattle.c_checking_units.proofs.TypeLimits.Literals.{ShortBlockItem}
use Rattle.c_checking_units.proofs.TypeLimits.Literals.{ShortBlockItems, ShortSwitchItem, ShortSwitchItems, ShortItem, ShortItems}

-- ---- a literal has no more bytes than its spelling

values_few : (n : ℕ) (bytes values : List ℕ) → values_in n bytes ≡ Some values → length values ≤ n
values_few n [] values h = by_value n h
  where
    by_value : (n : ℕ) → values_in n [] ≡ Some values → length values ≤ n
    by_value zero h = let e : [] ≡ values = cc in subst (λ v. length v ≤ 0) e (omega arith)
    by_value (suc n) h = let e : [] ≡ values = cc in subst (λ v. length v ≤ suc n) e (omega arith)
values_few zero (b ∷ bytes) values h = cc
values_few (suc n) (b ∷ bytes) values h = by_item (item_at (b ∷ bytes)) (λ size later e. values_few n (drop size (b ∷ bytes)) later e) h
  where
    by_more : (v : ℕ) (o : Option (List ℕ)) → ((later : List ℕ) → o ≡ Some later → length later ≤ n) → option_map (λ values. v ∷ values) o ≡ Some values
        → length values ≤ suc n
    by_more v None k h = cc
    by_more v (Some later) k h =
        let e : v ∷ later ≡ values = cc in
        let l = k later refl in
        subst (λ v. length v ≤ suc n) e (omega (arith, l))

    by_item : (o : Option (ℕ × ℕ)) → ((size : ℕ) (later : List ℕ) → values_in n (drop size (b ∷ bytes)) ≡ Some later → length later ≤ n)
        → with_item o (λ size. values_in n (drop size (b ∷ bytes))) ≡ Some values → length values ≤ suc n
    by_item None k h = cc
    by_item (Some item) k h = by_more item.0 (values_in n (drop item.1 (b ∷ bytes))) (λ later e. k item.1 later e) h

taken_few : (n : ℕ) (xs : List ℕ) → length (take n xs) ≤ n
taken_few zero [] = omega arith
taken_few zero (x ∷ xs) = omega arith
taken_few (suc n) [] = omega arith
taken_few (suc n) (x ∷ xs) = let l = taken_few n xs in omega (arith, l)

taken_of : (n : ℕ) (xs : List ℕ) → length (take n xs) ≤ length xs
taken_of zero [] = omega arith
taken_of zero (x ∷ xs) = omega arith
taken_of (suc n) [] = omega arith
taken_of (suc n) (x ∷ xs) = let l = taken_of n xs in omega (arith, l)

dropped_of : (n : ℕ) (xs : List ℕ) → length (drop n xs) ≤ length xs - n
dropped_of zero [] = omega arith
dropped_of zero (x ∷ xs) = omega arith
dropped_of (suc n) [] = omega arith
dropped_of (suc n) (x ∷ xs) = let l = dropped_of n xs in omega (arith, l)

cut_few : (great : Bool) (values : List ℕ) (n : ℕ) → length values ≤ n → length (if great then [] else values) ≤ n
cut_few true values n h = omega arith
cut_few false values n h = h

bytes_few : (word : List ℕ) → length (string_bytes word) ≤ length word
unfolding string_bytes
bytes_few word = by_values (values_in (length (body_of word)) (body_of word)) (λ values e. values_few (length (body_of word)) (body_of word) values e)
  where
    by_values : (o : Option (List ℕ)) → ((values : List ℕ) → o ≡ Some values → length values ≤ length (body_of word)) → length (bytes_with o) ≤ length word
    by_values None k = omega arith
    by_values (Some values) k =
        let l = k values refl in
        let m = taken_few (length word - 2) (drop 1 word) in
        let few : length values ≤ length word = omega (arith, l, m) in cut_few (list_any is_too_great values) values (length word) few

-- ---- the bytes of some tokens

abbrev total : List Lexeme → ℕ
total [] = 0
total (l ∷ more) = length l.text + total more

abbrev most : ℕ
most = 4194304

record Few (rest : List Lexeme) : Type 0 where
  pub few : total rest ≤ most

behind : (l : Lexeme) (rest : List Lexeme) → Few (l ∷ rest) → Few rest
behind l rest h = record { few = let k = h.few in omega (arith, k) }

literal_few : (all : List Spelling) (rest : List Lexeme) → length (literal_of all) + total rest ≤ total (spelled_texts all rest) + 1
literal_few [] rest = omega arith
literal_few (x ∷ more) rest =
    let l = literal_few more rest in
    let b = bytes_few x.text in
    let a = length-append (string_bytes x.text) (literal_of more) in omega (arith, l, b, a)

texts_behind : (all : List Spelling) (rest : List Lexeme) → Few (spelled_texts all rest) → Few rest
texts_behind [] rest h = h
texts_behind (x ∷ more) rest h = texts_behind more rest (behind _ (spelled_texts more rest) h)

comma_behind : (comma : Option ℕ) (rest : List Lexeme) → Few (spelled_comma comma rest) → Few rest
comma_behind None rest h = h
comma_behind (Some at) rest h = behind _ rest h

tag_behind : (x : Option Spelling) (rest : List Lexeme) → Few (spelled_tag x rest) → Few rest
tag_behind None rest h = h
tag_behind (Some x) rest h = behind _ rest h

consts_behind : (all : List ℕ) (rest : List Lexeme) → Few (spelled_consts all rest) → Few rest
consts_behind [] rest h = h
consts_behind (at ∷ more) rest h = consts_behind more rest (behind _ (spelled_consts more rest) h)

-- ---- what is spelled is short, and so is what follows

mutual
  short : (a : Trees.Expression) (rest : List Lexeme) → Few (spelled a rest) → Few rest × Short a
  short (Trees.name x) rest h = (behind _ rest h, tt)
  short (Trees.number x n kind) rest h = (behind _ rest h, tt)
  short (Trees.character x n) rest h = (behind _ rest h, tt)
  short (Trees.texts all) rest h = (texts_behind all rest h, let l = literal_few all rest in let k = h.few in omega (arith, l, k))
  short (Trees.paren left a right) rest h = let p = short a _ (behind _ _ h) in (behind _ rest p.0, p.1)
  short (Trees.index a left b right) rest h = let p = short a _ h in let q = short b _ (behind _ _ p.0) in (behind _ rest q.0, (p.1, q.1))
  short (Trees.call f left all right) rest h =
      let p = short f _ h in let q = short_arguments all _ (behind _ _ p.0) in (behind _ rest q.0, (p.1, q.1))
  short (Trees.dot a at x) rest h = let p = short a _ h in (behind _ rest (behind _ _ p.0), p.1)
  short (Trees.arrow a at x) rest h = let p = short a _ h in (behind _ rest (behind _ _ p.0), p.1)
  short (Trees.post a op at) rest h = let p = short a _ h in (behind _ rest p.0, p.1)
  short (Trees.pre op at a) rest h = short a rest (behind _ _ h)
  short (Trees.unary op at a) rest h = short a rest (behind _ _ h)
  short (Trees.sizeof_expression at a) rest h = short a rest (behind _ _ h)
  short (Trees.sizeof_type at left n right) rest h = let p = short_type_name n _ (behind _ _ (behind _ _ h)) in (behind _ rest p.0, p.1)
  short (Trees.cast left n right a) rest h =
      let p = short_type_name n _ (behind _ _ h) in let q = short a rest (behind _ _ p.0) in (q.0, (p.1, q.1))
  short (Trees.binary a op at b) rest h = let p = short a _ h in let q = short b rest (behind _ _ p.0) in (q.0, (p.1, q.1))
  short (Trees.cond a question b colon c) rest h =
      let p = short a _ h in let q = short b _ (behind _ _ p.0) in let r = short c rest (behind _ _ q.0) in (r.0, (p.1, q.1, r.1))
  short (Trees.assign a op at b) rest h = let p = short a _ h in let q = short b rest (behind _ _ p.0) in (q.0, (p.1, q.1))
  short (Trees.comma a at b) rest h = let p = short a _ h in let q = short b rest (behind _ _ p.0) in (q.0, (p.1, q.1))
  short (Trees.braces left all comma right) rest h =
      let p = short_arguments all _ (behind _ _ h) in (behind _ rest (comma_behind comma _ p.0), p.1)

  short_arguments : (all : Trees.Arguments) (rest : List Lexeme) → Few (spelled_arguments all rest) → Few rest × ShortArguments all
  short_arguments Trees.no_arguments rest h = (h, tt)
  short_arguments (Trees.and_argument comma a more) rest h =
      let p = short a _ (comma_behind comma _ h) in let q = short_arguments more rest p.0 in (q.0, (p.1, q.1))

  short_optional : (a : Trees.OptionalExpression) (rest : List Lexeme) → Few (spelled_optional a rest) → Few rest × ShortOptional a
  short_optional Trees.no_expression rest h = (h, tt)
  short_optional (Trees.some_expression a) rest h = short a rest h

  short_type_name : (n : Trees.TypeName) (rest : List Lexeme) → Few (spelled_type_name n rest) → Few rest × ShortTypeName n
  short_type_name (Trees.type_name specs d) rest h =
      let p = short_specifiers specs _ h in let q = short_declarator d rest p.0 in (q.0, (p.1, q.1))

  short_specifiers : (specs : Trees.Specifiers) (rest : List Lexeme) → Few (spelled_specifiers specs rest) → Few rest × ShortSpecifiers specs
  short_specifiers Trees.no_specifiers rest h = (h, tt)
  short_specifiers (Trees.and_specifier x more) rest h =
      let p = short_specifier x _ h in let q = short_specifiers more rest p.0 in (q.0, (p.1, q.1))

  short_specifier : (x : Trees.Specifier) (rest : List Lexeme) → Few (spelled_specifier x rest) → Few rest × ShortSpecifier x
  short_specifier (Trees.plain word at) rest h = (behind _ rest h, tt)
  short_specifier (Trees.typename x) rest h = (behind _ rest h, tt)
  short_specifier (Trees.struct_named at x) rest h = (behind _ rest (behind _ _ h), tt)
  short_specifier (Trees.struct_body at x left all right) rest h =
      let p = short_members all _ (behind _ _ (tag_behind x _ (behind _ _ h))) in (behind _ rest p.0, p.1)
  short_specifier (Trees.enum_named at x) rest h = (behind _ rest (behind _ _ h), tt)
  short_specifier (Trees.enum_body at x left all comma right) rest h =
      let p = short_enumerators all _ (behind _ _ (tag_behind x _ (behind _ _ h))) in (behind _ rest (comma_behind comma _ p.0), p.1)

  short_members : (all : Trees.MemberDeclarations) (rest : List Lexeme) → Few (spelled_member_declarations all rest) → Few rest × ShortMembers all
  short_members Trees.no_member_declarations rest h = (h, tt)
  short_members (Trees.and_member_declaration specs ds semicolon more) rest h =
      let p = short_specifiers specs _ h in
      let q = short_member_declarators ds _ p.0 in
      let r = short_members more rest (behind _ _ q.0) in (r.0, (p.1, q.1, r.1))

  short_member_declarators : (all : Trees.MemberDeclarators) (rest : List Lexeme) → Few (spelled_member_declarators all rest)
      → Few rest × ShortMemberDeclarators all
  short_member_declarators Trees.no_member_declarators rest h = (h, tt)
  short_member_declarators (Trees.and_member_declarator comma d more) rest h =
      let p = short_declarator d _ (comma_behind comma _ h) in let q = short_member_declarators more rest p.0 in (q.0, (p.1, q.1))

  short_enumerators : (all : Trees.Enumerators) (rest : List Lexeme) → Few (spelled_enumerators all rest) → Few rest × ShortEnumerators all
  short_enumerators Trees.no_enumerators rest h = (h, tt)
  short_enumerators (Trees.and_enumerator comma x own more) rest h =
      let p = short_value own _ (behind _ _ (comma_behind comma _ h)) in let q = short_enumerators more rest p.0 in (q.0, (p.1, q.1))

  short_value : (own : Trees.EnumeratorValue) (rest : List Lexeme) → Few (spelled_enumerator_value own rest) → Few rest × ShortValue own
  short_value Trees.no_value rest h = (h, tt)
  short_value (Trees.valued equal a) rest h = short a rest (behind _ _ h)

  short_declarator : (d : Trees.Declarator) (rest : List Lexeme) → Few (spelled_declarator d rest) → Few rest × ShortDeclarator d
  short_declarator Trees.nothing rest h = (h, tt)
  short_declarator (Trees.named x) rest h = (behind _ rest h, tt)
  short_declarator (Trees.pointer at consts d) rest h = short_declarator d rest (consts_behind consts _ (behind _ _ h))
  short_declarator (Trees.enclosed left d right) rest h = let p = short_declarator d _ (behind _ _ h) in (behind _ rest p.0, p.1)
  short_declarator (Trees.array d left number right) rest h =
      let p = short_declarator d _ h in let q = short_optional number _ (behind _ _ p.0) in (behind _ rest q.0, (p.1, q.1))
  short_declarator (Trees.function d left all right) rest h =
      let p = short_declarator d _ h in let q = short_parameter_list all _ (behind _ _ p.0) in (behind _ rest q.0, (p.1, q.1))

  short_parameter_list : (all : Trees.ParameterList) (rest : List Lexeme) → Few (spelled_parameter_list all rest) → Few rest × ShortParameterList all
  short_parameter_list (Trees.void_alone at) rest h = (behind _ rest h, tt)
  short_parameter_list (Trees.listed all) rest h = short_parameters all rest h

  short_parameters : (all : Trees.Parameters) (rest : List Lexeme) → Few (spelled_parameters all rest) → Few rest × ShortParameters all
  short_parameters Trees.no_parameters rest h = (h, tt)
  short_parameters (Trees.and_parameter comma specs d more) rest h =
      let p = short_specifiers specs _ (comma_behind comma _ h) in
      let q = short_declarator d _ p.0 in
      let r = short_parameters more rest q.0 in (r.0, (p.1, q.1, r.1))

-- ---- declarations and statements

short_initial : (value : Option (ℕ × Trees.Expression)) (rest : List Lexeme) → Few (spelled_value value rest) → Few rest × ShortInitial value
short_initial None rest h = (h, tt)
short_initial (Some value) rest h = short value.1 rest (behind _ _ h)

short_init_declarators : (all : List Trees.InitDeclarator) (rest : List Lexeme) → Few (spelled_init_declarators all rest) → Few rest × ShortInitDeclarators all
short_init_declarators [] rest h = (h, tt)
short_init_declarators (d ∷ more) rest h =
    let p = short_declarator d.declarator _ (comma_behind d.comma _ h) in
    let q = short_initial d.value _ p.0 in
    let r = short_init_declarators more rest q.0 in (r.0, (p.1, q.1, r.1))

short_declaration : (d : Trees.Declaration) (rest : List Lexeme) → Few (spelled_declaration d rest) → Few rest × ShortDeclaration d
short_declaration d rest h =
    let p = short_specifiers d.specs _ h in let q = short_init_declarators d.all _ p.0 in (behind _ rest q.0, (p.1, q.1))

short_if_any : (a : Option Trees.Expression) (rest : List Lexeme) → Few (spelled_if_any a rest) → Few rest × ShortIfAny a
short_if_any None rest h = (h, tt)
short_if_any (Some a) rest h = short a rest h

short_labels : (all : List Trees.Label) (rest : List Lexeme) → Few (spelled_labels all rest) → Few rest × ShortLabels all
short_labels [] rest h = (h, tt)
short_labels (Trees.case at a colon ∷ more) rest h =
    let p = short a _ (behind _ _ h) in let q = short_labels more rest (behind _ _ p.0) in (q.0, (p.1, q.1))
short_labels (Trees.default at colon ∷ more) rest h = short_labels more rest (behind _ _ (behind _ _ h))

short_start : (start : Trees.ForStart) (rest : List Lexeme) → Few (spelled_for_start start rest) → Few rest × ShortStart start
short_start (Trees.starts_with a semicolon) rest h = let p = short_if_any a _ h in (behind _ rest p.0, p.1)
short_start (Trees.declares d) rest h = short_declaration d rest h

mutual
  short_statement : (a : Trees.Statement) (rest : List Lexeme) → Few (spelled_statement a rest) → Few rest × ShortStatement a
  short_statement (Trees.block left items right) rest h = let p = short_block_items items _ (behind _ _ h) in (behind _ rest p.0, p.1)
  short_statement (Trees.evaluate a semicolon) rest h = let p = short_if_any a _ h in (behind _ rest p.0, p.1)
  short_statement (Trees.when at left a right one) rest h =
      let p = short a _ (behind _ _ (behind _ _ h)) in let q = short_statement one rest (behind _ _ p.0) in (q.0, (p.1, q.1))
  short_statement (Trees.choose at left a right one middle other) rest h =
      let p = short a _ (behind _ _ (behind _ _ h)) in
      let q = short_statement one _ (behind _ _ p.0) in
      let r = short_statement other rest (behind _ _ q.0) in (r.0, (p.1, q.1, r.1))
  short_statement (Trees.while at left a right body) rest h =
      let p = short a _ (behind _ _ (behind _ _ h)) in let q = short_statement body rest (behind _ _ p.0) in (q.0, (p.1, q.1))
  short_statement (Trees.do_while at body while left a right semicolon) rest h =
      let p = short_statement body _ (behind _ _ h) in
      let q = short a _ (behind _ _ (behind _ _ p.0)) in (behind _ rest (behind _ _ q.0), (p.1, q.1))
  short_statement (Trees.for at left start test semicolon step right body) rest h =
      let p = short_start start _ (behind _ _ (behind _ _ h)) in
      let q = short_if_any test _ p.0 in
      let r = short_if_any step _ (behind _ _ q.0) in
      let t = short_statement body rest (behind _ _ r.0) in (t.0, (p.1, q.1, r.1, t.1))
  short_statement (Trees.switch at left a right begin items end) rest h =
      let p = short a _ (behind _ _ (behind _ _ h)) in
      let q = short_switch_items items _ (behind _ _ (behind _ _ p.0)) in (behind _ rest q.0, (p.1, q.1))
  short_statement (Trees.break at semicolon) rest h = (behind _ rest (behind _ _ h), tt)
  short_statement (Trees.continue at semicolon) rest h = (behind _ rest (behind _ _ h), tt)
  short_statement (Trees.return at a semicolon) rest h = let p = short_if_any a _ (behind _ _ h) in (behind _ rest p.0, p.1)

  short_block_item : (e : Trees.BlockItem) (rest : List Lexeme) → Few (spelled_block_item e rest) → Few rest × ShortBlockItem e
  short_block_item (Trees.local d) rest h = short_declaration d rest h
  short_block_item (Trees.statement a) rest h = short_statement a rest h

  short_block_items : (items : Trees.BlockItems) (rest : List Lexeme) → Few (spelled_block_items items rest) → Few rest × ShortBlockItems items
  short_block_items Trees.no_block_items rest h = (h, tt)
  short_block_items (Trees.and_block_item e more) rest h =
      let p = short_block_item e _ h in let q = short_block_items more rest p.0 in (q.0, (p.1, q.1))

  short_switch_item : (item : Trees.SwitchItem) (rest : List Lexeme) → Few (spelled_switch_item item rest) → Few rest × ShortSwitchItem item
  short_switch_item (Trees.local_switch_item d) rest h = short_declaration d rest h
  short_switch_item (Trees.labelled labels a) rest h =
      let p = short_labels labels _ h in let q = short_statement a rest p.0 in (q.0, (p.1, q.1))

  short_switch_items : (items : Trees.SwitchItems) (rest : List Lexeme) → Few (spelled_switch_items items rest) → Few rest × ShortSwitchItems items
  short_switch_items Trees.no_switch_items rest h = (h, tt)
  short_switch_items (Trees.and_switch_item item more) rest h =
      let p = short_switch_item item _ h in let q = short_switch_items more rest p.0 in (q.0, (p.1, q.1))

-- ---- files

short_item : (item : Trees.Item) (rest : List Lexeme) → Few (spelled_item item rest) → Few rest × ShortItem item
short_item (Trees.defines specs d left items right) rest h =
    let p = short_specifiers specs _ h in
    let q = short_declarator d _ p.0 in
    let r = short_block_items items _ (behind _ _ q.0) in (behind _ rest r.0, (p.1, q.1, r.1))
short_item (Trees.declaration d) rest h = short_declaration d rest h

short_items : (items : List Trees.Item) (rest : List Lexeme) → Few (spelled_items items rest) → ShortItems items
short_items [] rest h = tt
short_items (item ∷ more) rest h = let p = short_item item _ h in (p.1, short_items more rest p.0)

-- the tokens of a text have no more bytes than it
total_few : (bytes : List ℕ) (at : ℕ) (tokens : List Token) → AreInOrder at tokens → total (lexemes_of bytes tokens) ≤ length bytes - at
total_few bytes at [] h = omega arith
total_few bytes at (token ∷ tokens) h =
    let text = take (token.to - token.from) (drop token.from bytes) in
    let a = taken_few (token.to - token.from) (drop token.from bytes) in
    let b = taken_of (token.to - token.from) (drop token.from bytes) in
    let c = dropped_of token.from bytes in
    let r = total_few bytes token.to tokens h.2 in
    let l = h.0 in
    let m = h.1 in omega (arith, a, b, c, r, l, m)

pub texts_are_short : TokensHavePlaces → (bytes : List ℕ) (items : List Trees.Item) → IsTreeOf bytes items → length bytes ≤ 4194304 → ShortItems items
texts_are_short places bytes items t l =
    let few = total_few bytes 0 t.0 (places.in_order bytes t.0 t.1) in
    short_items items [] (subst Few t.3.spelled (record { few = omega (arith, few, l) }))
