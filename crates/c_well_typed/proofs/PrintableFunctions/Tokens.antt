-- The values of a text's tokens (C99 6.4.4, 6.4.5): a number is one of a type that a literal can have, and the characters of a string literal are bytes.
use Rattle.std.proofs.Common.{◌≡◌, ℕ, ◌≤◌, ◌<◌, nat_le, Bool, true, false, refl, sym, subst, cond, List, [], ◌∷◌, ◌++◌, map, arith, Some, append_assoc, ap, ◌∙◌}
use Rattle.std.proofs.lemmas.Bool.{leb-true}
use Rattle.std.proofs.lemmas.List.Elements.{recursion_from_All}
use Rattle.std.specs.List.{AllByRecursion}
use Rattle.c_types.specs.declared.ty.IntKind.{IntKind}
use Rattle.c_types.specs.declared.ty.IntKind.TheVariants.{Int, UInt, Long, ULong}
use Rattle.c_types.specs.IntKinds.{greatest}
use Rattle.c_types.specs.Types.{integer}
use Rattle.c_lexer.proofs.StringBytes.{strings_have_bytes}
use Rattle.c_lexer.proofs.TextsOfTokens.{tokens_have_texts}
use Rattle.c_tokens.specs.declared.radix.Radix.{Radix}
use Rattle.c_tokens.specs.declared.radix.Radix.TheVariants.{Decimal, Octal, Hexadecimal}
use Rattle.c_tokens.specs.declared.radix.Suffix.{Suffix}
use Rattle.c_tokens.specs.declared.radix.Suffix.TheVariants as S
use Rattle.c_tokens.specs.declared.token.Token.{Token}
use Rattle.c_tokens.specs.declared.token.TokenKind.{TokenKind}
use Rattle.c_tokens.specs.declared.token.TokenKind.TheVariants as K
use Rattle.c_tokens.specs.Numbers.{kinds, first_holding, value}
use Rattle.c_tokens.specs.Quoted.{Item, item_value}
use Rattle.c_tokens.specs.QuotedScan.{string_bytes}
use Rattle.c_tokens.specs.TokenTexts.{token_text, IsTextOf, HaveTexts}
use Rattle.c_tokens.specs.Words.{greatest_character}
use Rattle.c_ast.specs.declared.words.Spelling.{Spelling}
use Rattle.c_ast.specs.Lexemes.{lexemes_of}
use Rattle.c_ast.specs.Spelling.{Lexeme, spell, spelled_texts}
use Rattle.c_ast.specs.Trees
use Rattle.c_ast.specs.TreesOfFiles.{IsTreeOf}
use Rattle.c_erasure.specs.Erasure.{literal_of}
use Rattle.c_erasure.specs.Marks.{Mark}
use Rattle.c_erasure.specs.MarkPlaces.Places.{Along}
use Rattle.c_well_typed.specs.Printable.Expressions.{IsConstant}

abbrev pub AreBytes : List ℕ → Type 0
AreBytes bytes = AllByRecursion (λ b. b < 256) bytes

abbrev pub HasValue : TokenKind → List ℕ → Type 0
HasValue (K.Number n kind) text = IsConstant (integer kind) n
HasValue K.Text text = AreBytes (string_bytes text)
HasValue kind text = Unit {0}

abbrev pub HaveValues : List Lexeme → Type 0
HaveValues [] = Unit {0}
HaveValues (t ∷ tokens) = HasValue t.kind t.text × HaveValues tokens

-- ---- numbers

abbrev IsConstantKind : IntKind → Type 0
IsConstantKind Int = Unit {0}
IsConstantKind UInt = Unit {0}
IsConstantKind Long = Unit {0}
IsConstantKind ULong = Unit {0}
IsConstantKind kind = ⊥

constant_kinds : (radix : Radix) (suffix : Suffix) → AllByRecursion IsConstantKind (kinds radix suffix)
constant_kinds Decimal S.Plain = (tt, (tt, tt))
constant_kinds Octal S.Plain = (tt, (tt, (tt, (tt, tt))))
constant_kinds Hexadecimal S.Plain = (tt, (tt, (tt, (tt, tt))))
constant_kinds Decimal S.Long = (tt, tt)
constant_kinds Octal S.Long = (tt, (tt, tt))
constant_kinds Hexadecimal S.Long = (tt, (tt, tt))
constant_kinds radix S.Unsigned = (tt, (tt, tt))
constant_kinds radix S.UnsignedLong = (tt, tt)
constant_kinds radix S.LongLong = tt

constant : (kind : IntKind) (n : ℕ) → IsConstantKind kind → nat_le n (greatest kind) ≡ true → IsConstant (integer kind) n
constant Int n k h = tt
constant UInt n k h = tt
constant ULong n k h = tt
constant Long n k h = let l = leb-true n (greatest Long) h in omega (arith, l)
constant kind n k h = absurd k

some_is : {A : Type 0} (x y : A) → Some x ≡ Some y → x ≡ y
some_is x y h = cc

held : (n : ℕ) (all : List IntKind) (kind : IntKind) → AllByRecursion IsConstantKind all → first_holding n all ≡ Some kind → IsConstant (integer kind) n
held n [] kind k h = cc
held n (first ∷ more) kind k h = by_size (nat_le n (greatest first)) refl h (held n more kind k.1)
  where
    by_size : (b : Bool) → nat_le n (greatest first) ≡ b → cond b (Some first) (first_holding n more) ≡ Some kind
        → (first_holding n more ≡ Some kind → IsConstant (integer kind) n) → IsConstant (integer kind) n
    by_size true l e later = subst (λ kind. IsConstant (integer kind) n) (some_is first kind e) (constant first n k.0 l)
    by_size false l e later = later e

-- ---- the tokens of a text

bytes : (items : List Item) → AllByRecursion (λ item. item_value item ≤ greatest_character) items → AreBytes (map item_value items)
bytes [] h = tt
bytes (item ∷ items) h = let l = h.0 in (omega (arith, l), bytes items h.1)

token_has_value : (kind : TokenKind) (text : List ℕ) → IsTextOf kind text → HasValue kind text
token_has_value (K.Number n kind) text h =
    let radix = h.0 in
    let digits = h.1 in
    subst (IsConstant (integer kind)) h.4 (held (value radix digits) (kinds radix h.2) kind (constant_kinds radix h.2) h.5)
token_has_value K.Text text h =
    let b = strings_have_bytes.of_one text h in
    subst AreBytes (sym b.3) (bytes b.0 (recursion_from_All (λ item. item_value item ≤ greatest_character) b.0 b.2))
token_has_value (K.Keyword word) text h = tt
token_has_value (K.Punctuator m) text h = tt
token_has_value K.Name text h = tt
token_has_value (K.Character n) text h = tt

tokens_have_values : (bytes : List ℕ) (tokens : List Token) → HaveTexts bytes tokens → HaveValues (lexemes_of bytes tokens)
tokens_have_values bytes [] h = tt
tokens_have_values bytes (t ∷ tokens) h = (token_has_value t.kind (token_text bytes t) h.1, tokens_have_values bytes tokens h.2)

pub tree_has_values : (bytes : List ℕ) (items : List Trees.Item) → IsTreeOf bytes items → HaveValues (spell items)
tree_has_values bytes items tree = subst HaveValues tree.3.spelled (tokens_have_values bytes tree.0 (tokens_have_texts bytes tree.0 tree.1))

-- ---- the tokens behind a part

of_rest : (own rest : List Lexeme) → HaveValues (own ++ rest) → HaveValues rest
of_rest [] rest h = h
of_rest (t ∷ own) rest h = of_rest own rest h.1

pub behind : {marks : List Mark} {tokens rest : List Lexeme} → Along marks tokens rest → HaveValues tokens → HaveValues rest
behind {rest = rest} p h = of_rest p.own rest (subst HaveValues p.whole h)

-- ---- string literals

both : (a b : List ℕ) → AreBytes a → AreBytes b → AreBytes (a ++ b)
both [] b h k = k
both (x ∷ a) b h k = (h.0, both a b h.1 k)

pub literal_has_bytes : (all : List Spelling) (rest : List Lexeme) → HaveValues (spelled_texts all rest) → AreBytes (literal_of all)
literal_has_bytes [] rest h = (omega arith, tt)
literal_has_bytes (x ∷ more) rest h = both (string_bytes x.text) (literal_of more) h.0 (literal_has_bytes more rest h.1)

-- a zero stands at the end
pub literal_ends : (all : List Spelling) → (front : List ℕ) × (literal_of all ≡ front ++ 0 ∷ [])
literal_ends [] = ([], refl)
literal_ends (x ∷ more) =
    let own = string_bytes x.text in
    let r = literal_ends more in
    (own ++ r.0, ap (λ bytes. own ++ bytes) r.1 ∙ sym (append_assoc own r.0 (0 ∷ [])))
