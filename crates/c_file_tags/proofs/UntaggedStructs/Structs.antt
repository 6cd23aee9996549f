-- The places of `struct` in a file.
use Rattle.std.proofs.Common.{◌≡◌, ℕ, ◌+◌, ◌<◌, ◌≤◌, List, [], ◌∷◌, ◌++◌, length, refl, sym, ap, ◌∙◌, arith}
use Rattle.std.specs.Prelude.{All}
use Rattle.std.specs.List.{AllByRecursion}
use Rattle.std.proofs.lemmas.List.Elements.{All-from_recursion, recursion_from_All}
use Rattle.lay_base.specs.declared.faults.Keyword.TheVariants as W
use Rattle.c_tokens.specs.declared.token.Token.{Token}
use Rattle.c_tokens.specs.declared.token.TokenKind.{TokenKind}
use Rattle.c_tokens.specs.declared.token.TokenKind.TheVariants as K
use Rattle.c_tokens.specs.Lexes.{Lexes}
use Rattle.c_tokens.specs.TokenTexts.{token_text, IsTextOf, HaveTexts, TokensHaveTexts}
use Rattle.c_tokens.specs.TokenPlaces.{IsPlaceIn, AreInOrder, TokensHavePlaces}
use Rattle.c_lexer.specs.Readings.{HaveOneReading}
use Rattle.c_ast.specs.Trees
use Rattle.c_ast.specs.Spelling.{spell}
use Rattle.c_ast.specs.Lexemes.{lexemes_of}
use Rattle.c_ast.specs.TreesOfFiles.{IsTreeOf}
use Rattle.c_erasure.specs.Files.{AreAscending}
use Rattle.c_erasure.specs.Untagged.{place_of_struct, structs_in}
use Rattle.c_file_tags.specs.UntaggedStructs.Untagged.{structs_of}

-- ---- they ascend

record Ascends (from : ℕ) (places : List ℕ) : Type 0 where
  pub from_there : AllByRecursion (λ place. from ≤ place) places
  pub ascending : AreAscending places

higher : (a b : ℕ) (places : List ℕ) → a ≤ b → AllByRecursion (λ place. b ≤ place) places → AllByRecursion (λ place. a ≤ place) places
higher a b [] h all = tt
higher a b (x ∷ places) h all = let l : b ≤ x = all.0 in (omega arith, higher a b places h all.1)

above : (a b : ℕ) (places : List ℕ) → a < b → AllByRecursion (λ place. b ≤ place) places → AllByRecursion (λ place. a < place) places
above a b [] h all = tt
above a b (x ∷ places) h all = let l : b ≤ x = all.0 in (omega arith, above a b places h all.1)

one_ascends : (at from to : ℕ) (kind : TokenKind) (text : List ℕ) (places : List ℕ) → at ≤ from → from ≤ to → to ≡ from + length text
    → IsTextOf kind text → Ascends to places → Ascends at (place_of_struct kind from ++ places)
one_ascends at from to (K.Keyword W.Struct) text places l m e t a =
    let long : length text ≡ 6 = ap length t in
    let next : from < to = omega (arith, long, e) in
    record {
      from_there = (l, higher at to places (omega arith) a.from_there);
      ascending = (All-from_recursion (λ place. from < place) places (above from to places next a.from_there), a.ascending);
    }
one_ascends at from to kind text places l m e t a = record { from_there = higher at to places (omega arith) a.from_there; ascending = a.ascending }

all_ascend : (bytes : List ℕ) (at : ℕ) (tokens : List Token) → AreInOrder at tokens → HaveTexts bytes tokens → Ascends at (structs_of tokens)
all_ascend bytes at [] o t = record { from_there = tt; ascending = tt }
all_ascend bytes at (token ∷ tokens) o t =
    one_ascends at token.from token.to token.kind (token_text bytes token) (structs_of tokens) o.0 o.1 t.0 t.1 (all_ascend bytes token.to tokens o.2 t.2)

pub structs_ascend : TokensHavePlaces → TokensHaveTexts → (bytes : List ℕ) (tokens : List Token) → Lexes bytes tokens → AreAscending (structs_of tokens)
structs_ascend p t bytes tokens l = (all_ascend bytes 0 tokens (p.in_order bytes tokens l) (t bytes tokens l)).ascending

-- ---- they are places of tokens

one_placed : (P : ℕ → Type 0) (kind : TokenKind) (at : ℕ) (places : List ℕ) → P at → AllByRecursion P places
    → AllByRecursion P (place_of_struct kind at ++ places)
one_placed P (K.Keyword W.Struct) at places h all = (h, all)
one_placed P kind at places h all = all

all_placed : (P : ℕ → Type 0) (tokens : List Token) → AllByRecursion (λ token. P token.from) tokens → AllByRecursion P (structs_of tokens)
all_placed P [] h = tt
all_placed P (token ∷ tokens) h = one_placed P token.kind token.from (structs_of tokens) h.0 (all_placed P tokens h.1)

pub structs_are_places : TokensHavePlaces → (bytes : List ℕ) (tokens : List Token) → Lexes bytes tokens → All (IsPlaceIn bytes) (structs_of tokens)
structs_are_places p bytes tokens l =
    All-from_recursion (IsPlaceIn bytes) (structs_of tokens)
    (all_placed (IsPlaceIn bytes) tokens (recursion_from_All (λ token. IsPlaceIn bytes token.from) tokens (p.of_tokens bytes tokens l)))

-- ---- they are those of the tree

of_lexemes : (bytes : List ℕ) (tokens : List Token) → structs_in (lexemes_of bytes tokens) ≡ structs_of tokens
of_lexemes bytes [] = refl
of_lexemes bytes (token ∷ tokens) = ap (λ more. place_of_struct token.kind token.from ++ more) (of_lexemes bytes tokens)

pub structs_of_tree : HaveOneReading → (bytes : List ℕ) (tokens : List Token) (items : List Trees.Item) → Lexes bytes tokens → IsTreeOf bytes items
    → structs_of tokens ≡ structs_in (spell items)
structs_of_tree one bytes tokens items l t =
    ap structs_of (one.one_list bytes t.0 tokens t.1 l) ∙ (sym (of_lexemes bytes t.0) ∙ ap structs_in t.3.spelled)
