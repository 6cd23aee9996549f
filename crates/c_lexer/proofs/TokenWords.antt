-- Which token a word is, as it is read from the left.
use Rattle.std.proofs.Common.{◌≡◌, ℕ, Bool, true, false, cond, leb, List, length, Option, Some, None, Ok, Err, refl, sym, ap, subst, ◌∙◌, arith}
use Rattle.std.proofs.lemmas.Bool.{cond-true, cond-false, leb-true, leb-false, le-leb, lt-leb}
use Rattle.std.proofs.lemmas.Option.{none-some}
use Rattle.lay_base.specs.declared.faults.Keyword.{Keyword}
use Rattle.c_tokens.specs.declared.part.Shape.{Shape}
use Rattle.c_tokens.specs.declared.part.Shape.TheVariants as S
use Rattle.c_tokens.specs.declared.token.TokenKind.{TokenKind}
use Rattle.c_tokens.specs.declared.token.TokenKind.TheVariants as K
use Rattle.c_tokens.specs.declared.fault.FaultKind.TheVariants.{BadLiteral, TooWide}
use Rattle.lay_base.specs.Keywords.{keyword_text}
use Rattle.lay_base.specs.KeywordScan.{keyword_of}
use Rattle.lay_base.proofs.Spellings.{keyword_found, keyword_short, keyword_taken}
use Rattle.c_lexer.specs.Scanning.{name_with, token_of}
use Rattle.c_tokens.specs.Words.{IsName, IsWord, IsToken, IsMalformed, IsTooWide}
use Rattle.c_lexer.proofs.TokenSays.{Says}
use Rattle.c_lexer.proofs.NumberWords.{number_read, wide_number_read, malformed_number_read, number_taken}
use Rattle.c_lexer.proofs.QuotedWords.{character_read, wide_character_read, malformed_character_read, character_taken, text_read, wide_text_read}
use Rattle.c_lexer.proofs.QuotedWords.{malformed_text_read, text_taken}

-- ---- names and keywords

-- the keyword that has the text of a name is found
keyword_read : (word : List ℕ) (keyword : Keyword) → IsName word → word ≡ keyword_text keyword → keyword_of word ≡ Some keyword
keyword_read word keyword w e = ap keyword_of e ∙ keyword_found keyword (λ none. absurd (subst IsName (e ∙ none) w))

name_read : (word : List ℕ) → IsToken S.Name word K.Name → token_of S.Name word ≡ Ok K.Name
name_read word t =
    let started : (o : Option Keyword) → keyword_of word ≡ o → name_with (length word) o ≡ Ok K.Name =
    λ o. elim o as (λ o. keyword_of word ≡ o → name_with (length word) o ≡ Ok K.Name) [
      | None ↦ λ _. cond-true (leb (length word) 255) _ _ (le-leb (length word) 255 t.0)
      | Some keyword ↦ λ h. absurd (t.1 keyword (keyword_taken word keyword h))
    ] in
    started (keyword_of word) refl

wide_name_read : (word : List ℕ) → IsTooWide S.Name word → token_of S.Name word ≡ Err TooWide
wide_name_read word t =
    let started : (o : Option Keyword) → keyword_of word ≡ o → name_with (length word) o ≡ Err TooWide =
    λ o. elim o as (λ o. keyword_of word ≡ o → name_with (length word) o ≡ Err TooWide) [
      | None ↦ λ _. cond-false (leb (length word) 255) _ _ (lt-leb (length word) 255 t)
      | Some keyword ↦ λ h. absurd (let e = ap length (keyword_taken word keyword h) in omega (arith, e, t, keyword_short keyword))
    ] in
    started (keyword_of word) refl

-- a word that is no keyword is a name, or too long
plain_says : (word : List ℕ) → IsName word → keyword_of word ≡ None → (b : Bool) → leb (length word) 255 ≡ b → Says S.Name word (cond b (Ok K.Name) (Err TooWide))
plain_says word w n true h = (leb-true (length word) 255 h, λ keyword e. none-some keyword (sym n ∙ keyword_read word keyword w e))
plain_says word w n false h = leb-false (length word) 255 h

name_says : (word : List ℕ) → IsName word → (o : Option Keyword) → keyword_of word ≡ o → Says S.Name word (name_with (length word) o)
name_says word w None h = plain_says word w h (leb (length word) 255) refl
name_says word w (Some keyword) h = keyword_taken word keyword h

-- ---- tokens

-- what is read for a word is true of it
pub token_taken : (shape : Shape) (word : List ℕ) → IsWord shape word → Says shape word (token_of shape word)
token_taken S.Name word w = name_says word w (keyword_of word) refl
token_taken S.Number word w = number_taken word
token_taken S.Character word w = character_taken word w
token_taken S.Text word w = text_taken word w
token_taken (S.Punctuator punctuator) word w = refl

pub token_read : (shape : Shape) (word : List ℕ) (kind : TokenKind) → IsWord shape word → IsToken shape word kind → token_of shape word ≡ Ok kind
token_read S.Name word (K.Keyword keyword) w t = ap (name_with (length word)) (keyword_read word keyword w t)
token_read S.Name word K.Name w t = name_read word t
token_read S.Name word _ w t = absurd t
token_read S.Number word (K.Number n kind) w t = number_read word t.0 t.1 t.2 n kind t.3 t.4 t.5
token_read S.Number word _ w t = absurd t
token_read S.Character word (K.Character n) w t = character_read word n t
token_read S.Character word _ w t = absurd t
token_read S.Text word K.Text w t = text_read word t
token_read S.Text word _ w t = absurd t
token_read (S.Punctuator punctuator) word (K.Punctuator m) w t = ap (λ m. Ok (K.Punctuator m)) (sym t)
token_read (S.Punctuator punctuator) word _ w t = absurd t

pub malformed_read : (shape : Shape) (word : List ℕ) → IsWord shape word → IsMalformed shape word → token_of shape word ≡ Err BadLiteral
malformed_read S.Name word w m = absurd m
malformed_read S.Number word w m = malformed_number_read word m
malformed_read S.Character word w m = malformed_character_read word w m
malformed_read S.Text word w m = malformed_text_read word w m
malformed_read (S.Punctuator punctuator) word w m = absurd m

pub wide_read : (shape : Shape) (word : List ℕ) → IsWord shape word → IsTooWide shape word → token_of shape word ≡ Err TooWide
wide_read S.Name word w t = wide_name_read word t
wide_read S.Number word w t = wide_number_read word t.0 t.1 t.2 t.3 t.4
wide_read S.Character word w t = wide_character_read word t
wide_read S.Text word w t = wide_text_read word t
wide_read (S.Punctuator punctuator) word w t = absurd t
