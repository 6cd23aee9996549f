-- The tokens of a text, and its first lexical fault (C99 6.4).
use Rattle.std.specs.Prelude.{◌≡◌, ℕ, ◌+◌, ◌==◌, ◌||◌, Bool, true, false, IsTrue, List, [], ◌∷◌, ◌++◌, length, ◌⊎◌}
use Rattle.c_tokens.specs.declared.part.PartKind.{PartKind}
use Rattle.c_tokens.specs.declared.part.PartKind.TheVariants as P
use Rattle.c_tokens.specs.declared.part.Shape.{Shape}
use Rattle.c_tokens.specs.declared.token.Token.{Token}
use Rattle.c_tokens.specs.declared.fault.FaultKind.{FaultKind}
use Rattle.c_tokens.specs.declared.fault.FaultKind.TheVariants as F
use Rattle.c_tokens.specs.Quoted.{IsInside}
use Rattle.c_tokens.specs.Words.{IsToken, IsMalformed, IsTooWide}
use Rattle.c_tokens.specs.Parts.{Part, text_of, has_end, Stands, AreParts, begins_line_after_parts}

-- the tokens begin with that of the part, where it is a word, and go on so
abbrev pub AreTokensFrom : ℕ → PartKind → List ℕ → (List Token → Type 0) → List Token → Type 0
AreTokensFrom at (P.Word shape) text GoOn [] = ⊥
AreTokensFrom at (P.Word shape) text GoOn (token ∷ tokens) = IsToken shape text token.kind × (token.from ≡ at) × (token.to ≡ at + length text) × GoOn tokens
AreTokensFrom at _ text GoOn tokens = GoOn tokens

-- the tokens of parts that begin at a byte of the file
abbrev pub AreTokens : ℕ → List Part → List Token → Type 0
AreTokens at [] tokens = tokens ≡ []
AreTokens at (part ∷ parts) tokens = AreTokensFrom at part.kind part.text (AreTokens (at + length part.text) parts) tokens

-- the text is the tokens' words in order, with white space, comments and directives between them
pub record Lexes (bytes : List ℕ) (tokens : List Token) : Type 0 where
  pub parts : List Part
  pub bytes_are : bytes ≡ text_of parts
  pub are_parts : AreParts true parts []
  pub are_tokens : AreTokens 0 parts tokens

-- a comment, a string or a character begins here that has no end
abbrev pub IsUnclosed : List ℕ → Type 0
IsUnclosed [] = ⊥
IsUnclosed (b ∷ bytes) =
    ((b ≡ 47) × (body : List ℕ) × (bytes ≡ 42 ∷ body) × (has_end body ≡ false))
    ⊎ (IsTrue (b == 34 || b == 39) × ((body after : List ℕ) → bytes ≡ body ++ b ∷ after → IsInside b false body → ⊥))

-- a word that has such a fault stands here
abbrev pub BeginsFaultyWord : (Shape → List ℕ → Type 0) → Bool → List ℕ → Type 0
BeginsFaultyWord IsFaulty begins_line bytes = (shape : Shape) × (word rest : List ℕ) × (bytes ≡ word ++ rest)
    × Stands begins_line (P.Word shape) word rest × IsFaulty shape word

-- what begins here, at the beginning of a line or not, has that fault
abbrev pub HasFault : FaultKind → Bool → List ℕ → Type 0
HasFault F.BadByte begins_line bytes = (bytes ≡ [] → ⊥) × (IsUnclosed bytes → ⊥)
    × ((kind : PartKind) (text rest : List ℕ) → bytes ≡ text ++ rest → Stands begins_line kind text rest → ⊥)
HasFault F.BadLiteral begins_line bytes = BeginsFaultyWord IsMalformed begins_line bytes
HasFault F.Unclosed begins_line bytes = IsUnclosed bytes
HasFault F.TooWide begins_line bytes = BeginsFaultyWord IsTooWide begins_line bytes

-- the bytes before that place are tokens, and what begins there has that fault
pub record LexFaultAt (bytes : List ℕ) (kind : FaultKind) (at : ℕ) : Type 0 where
  pub parts : List Part
  pub tokens : List Token
  pub rest : List ℕ
  pub bytes_are : bytes ≡ text_of parts ++ rest
  pub are_parts : AreParts true parts rest
  pub are_tokens : AreTokens 0 parts tokens
  pub place : at ≡ length (text_of parts)
  pub fault : HasFault kind (begins_line_after_parts true parts) rest
