-- A part of a tree begins at one of its tokens, and the names that it declares are tokens of it. What has no token begins at 0, where a file begins.
use Rattle.std.proofs.Common.{ℕ, List, [], ◌∷◌, ◌++◌, Option, Some, None}
use Rattle.std.specs.List.{AllByRecursion}
use Rattle.c_ast.specs.declared.words.Spelling.{Spelling}
use Rattle.c_ast.specs.Trees
use Rattle.c_ast.specs.Places.{first, first_text, first_specifiers, first_declarator}
use Rattle.c_ast.specs.Spelling.{Lexeme, spelled_tag, spelled_texts, spelled, spelled_specifiers, spelled_declarator, spelled_member_declarations}
use Rattle.c_ast.specs.Spelling.{spelled_member_declarators}
use Rattle.c_erasure.specs.Broken.{tag_place, if_named, names_of_members, member_names}
use Rattle.c_erasure.specs.Declarators.{declared_name}
use Rattle.c_checking_units.proofs.FaultPlaces.Tokens.{Tokens, front, back, comma_after, consts_after, declarator_behind, specifiers_behind}
use Rattle.c_checking_units.proofs.FaultPlaces.Tokens.{member_declarators_behind}

-- a name, where there is one, stands at such a place
abbrev pub IsNameAt : (ℕ → Type 0) → Option Spelling → Type 0
IsNameAt P None = Unit {0}
IsNameAt P (Some x) = P x.from

pub record Names (P : ℕ → Type 0) (all : List Spelling) : Type 0 where
  pub each : AllByRecursion (λ x. P x.from) all

no_names : {P : ℕ → Type 0} → Names P []
no_names = record { each = tt }

names_and : {P : ℕ → Type 0} (a : List Spelling) {b : List Spelling} → Names P a → Names P b → Names P (a ++ b)
names_and [] p q = q
names_and (x ∷ a) p q = record { each = (p.each.0, (names_and a (record { each = p.each.1 }) q).each) }

named_only : {P : ℕ → Type 0} (x : Option Spelling) → IsNameAt P x → Names P (if_named x)
named_only None p = no_names
named_only (Some x) p = record { each = (p, tt) }

-- where a tag stands, or else the keyword
pub tag_at : (P : ℕ → Type 0) (at : ℕ) (x : Option Spelling) → P at → IsNameAt P x → P (tag_place at x)
tag_at P at None p q = p
tag_at P at (Some x) p q = q

-- ... which is the token behind the keyword
pub tag_name_at : {P : ℕ → Type 0} (x : Option Spelling) (rest : List Lexeme) → Tokens P (spelled_tag x rest) → IsNameAt P x
tag_name_at None rest h = tt
tag_name_at (Some x) rest h = front h

module _ (P : ℕ → Type 0) (zero : P 0) where
  pub texts_begin : (all : List Spelling) (rest : List Lexeme) → Tokens P (spelled_texts all rest) → P (first_text all)
  texts_begin [] rest h = zero
  texts_begin (x ∷ more) rest h = front h

  pub begins : (t : Trees.Expression) (rest : List Lexeme) → Tokens P (spelled t rest) → P (first t)
  begins (Trees.name x) rest h = front h
  begins (Trees.number x n kind) rest h = front h
  begins (Trees.character x n) rest h = front h
  begins (Trees.texts all) rest h = texts_begin all _ h
  begins (Trees.paren left a right) rest h = front h
  begins (Trees.index a left b right) rest h = begins a _ h
  begins (Trees.call f left all right) rest h = begins f _ h
  begins (Trees.dot a at x) rest h = begins a _ h
  begins (Trees.arrow a at x) rest h = begins a _ h
  begins (Trees.post a op at) rest h = begins a _ h
  begins (Trees.pre op at a) rest h = front h
  begins (Trees.unary op at a) rest h = front h
  begins (Trees.sizeof_expression at a) rest h = front h
  begins (Trees.sizeof_type at left t right) rest h = front h
  begins (Trees.cast left t right a) rest h = front h
  begins (Trees.binary a op at b) rest h = begins a _ h
  begins (Trees.cond a question b colon c) rest h = begins a _ h
  begins (Trees.assign a op at b) rest h = begins a _ h
  begins (Trees.comma a at b) rest h = begins a _ h
  begins (Trees.braces left all comma right) rest h = front h

  pub specifiers_begin : (specs : Trees.Specifiers) (rest : List Lexeme) → Tokens P (spelled_specifiers specs rest) → P (first_specifiers specs)
  specifiers_begin Trees.no_specifiers rest h = zero
  specifiers_begin (Trees.and_specifier (Trees.plain word at) more) rest h = front h
  specifiers_begin (Trees.and_specifier (Trees.typename x) more) rest h = front h
  specifiers_begin (Trees.and_specifier (Trees.struct_named at x) more) rest h = front h
  specifiers_begin (Trees.and_specifier (Trees.struct_body at x left all right) more) rest h = front h
  specifiers_begin (Trees.and_specifier (Trees.enum_named at x) more) rest h = front h
  specifiers_begin (Trees.and_specifier (Trees.enum_body at x left all comma right) more) rest h = front h

  pub declarator_begins : (d : Trees.Declarator) (after : ℕ) (rest : List Lexeme) → Tokens P (spelled_declarator d rest) → P after
      → P (first_declarator d after)
  declarator_begins Trees.nothing after rest h p = p
  declarator_begins (Trees.named x) after rest h p = front h
  declarator_begins (Trees.pointer at consts d) after rest h p = front h
  declarator_begins (Trees.enclosed left d right) after rest h p = front h
  declarator_begins (Trees.array d left length right) after rest h p = declarator_begins d left _ h (front (declarator_behind P (λ at. []) d h).tokens)
  declarator_begins (Trees.function d left all right) after rest h p = declarator_begins d left _ h (front (declarator_behind P (λ at. []) d h).tokens)

  pub name_at : (d : Trees.Declarator) (rest : List Lexeme) → Tokens P (spelled_declarator d rest) → IsNameAt P (declared_name d)
  name_at Trees.nothing rest h = tt
  name_at (Trees.named x) rest h = front h
  name_at (Trees.pointer at consts d) rest h = name_at d _ (consts_after consts (back h))
  name_at (Trees.enclosed left d right) rest h = name_at d _ (back h)
  name_at (Trees.array d left length right) rest h = name_at d _ h
  name_at (Trees.function d left all right) rest h = name_at d _ h

  names_at : (ds : Trees.MemberDeclarators) (rest : List Lexeme) → Tokens P (spelled_member_declarators ds rest) → Names P (names_of_members ds)
  names_at Trees.no_member_declarators rest h = no_names
  names_at (Trees.and_member_declarator comma d more) rest h =
      let own = comma_after comma h in
      names_and (if_named (declared_name d)) (named_only (declared_name d) (name_at d _ own)) (names_at more _ (declarator_behind P (λ at. []) d own).tokens)

  pub member_names_at : (all : Trees.MemberDeclarations) (rest : List Lexeme) → Tokens P (spelled_member_declarations all rest)
      → Names P (member_names all)
  member_names_at Trees.no_member_declarations rest h = no_names
  member_names_at (Trees.and_member_declaration specs ds semicolon more) rest h =
      let behind = (specifiers_behind P (λ at. []) specs h).tokens in
      names_and (names_of_members ds) (names_at ds _ behind)
      (member_names_at more _ (back (member_declarators_behind P (λ at. []) ds behind).tokens))
