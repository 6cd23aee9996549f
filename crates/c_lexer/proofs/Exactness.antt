-- Parts and words are read from the left exactly: what the lemmas on whole texts rest on.
use Rattle.std.proofs.Common.{◌≡◌, ◌<◌, ℕ, Bool, List, [], ◌++◌, length, Ok, Err, subst}
use Rattle.c_tokens.specs.declared.fault.FaultKind.{FaultKind}
use Rattle.c_tokens.specs.declared.fault.FaultKind.TheVariants as F
use Rattle.c_tokens.specs.declared.part.PartKind.{PartKind}
use Rattle.c_tokens.specs.declared.part.Shape.{Shape}
use Rattle.c_tokens.specs.declared.token.TokenKind.{TokenKind}
use Rattle.c_tokens.specs.Words.{IsWord, IsToken, IsMalformed, IsTooWide}
use Rattle.c_tokens.specs.Parts.{Stands}
use Rattle.c_tokens.specs.Lexes.{IsUnclosed, HasFault}
use Rattle.c_lexer.specs.Scanning.{part_at, token_of}
use Rattle.c_lexer.proofs.FrontParts.{part_read, part_taken, unclosed_read, fault_taken, bad_byte_read}
use Rattle.c_lexer.proofs.TokenSays.{Says}
use Rattle.c_lexer.proofs.TokenWords.{token_read, malformed_read, wide_read, token_taken}

pub record PartsAreExact : Type 0 where
  pub part_read : (begins_line : Bool) (kind : PartKind) (text rest : List ℕ) → Stands begins_line kind text rest → part_at begins_line (text ++ rest)
      ≡ Ok (kind, length text)
  pub part_taken : (begins_line : Bool) (bytes : List ℕ) (kind : PartKind) (size : ℕ) → part_at begins_line bytes ≡ Ok (kind, size)
      → (text rest : List ℕ) × (bytes ≡ text ++ rest) × (size ≡ length text) × (0 < size) × Stands begins_line kind text rest
  pub unclosed_read : (begins_line : Bool) (bytes : List ℕ) → IsUnclosed bytes → part_at begins_line bytes ≡ Err F.Unclosed
  pub fault_taken : (begins_line : Bool) (bytes : List ℕ) (fault : FaultKind) → (bytes ≡ [] → ⊥) → part_at begins_line bytes ≡ Err fault
      → HasFault fault begins_line bytes
  pub bad_byte_read : (begins_line : Bool) (bytes : List ℕ) → HasFault F.BadByte begins_line bytes → part_at begins_line bytes ≡ Err F.BadByte

-- what a word that is no token has
abbrev pub IsFaulty : FaultKind → Shape → List ℕ → Type 0
IsFaulty F.BadLiteral shape word = IsMalformed shape word
IsFaulty F.TooWide shape word = IsTooWide shape word
IsFaulty _ shape word = ⊥

pub record TokensAreExact : Type 0 where
  pub token_read : (shape : Shape) (word : List ℕ) (kind : TokenKind) → IsWord shape word → IsToken shape word kind → token_of shape word ≡ Ok kind
  pub malformed_read : (shape : Shape) (word : List ℕ) → IsWord shape word → IsMalformed shape word → token_of shape word ≡ Err F.BadLiteral
  pub wide_read : (shape : Shape) (word : List ℕ) → IsWord shape word → IsTooWide shape word → token_of shape word ≡ Err F.TooWide
  pub token_taken : (shape : Shape) (word : List ℕ) (kind : TokenKind) → IsWord shape word → token_of shape word ≡ Ok kind → IsToken shape word kind
  pub fault_taken : (shape : Shape) (word : List ℕ) (fault : FaultKind) → IsWord shape word → token_of shape word ≡ Err fault → IsFaulty fault shape word

pub parts_are_exact : PartsAreExact
parts_are_exact = record {
  part_read = part_read;
  part_taken = λ begins_line bytes kind size h. let s = part_taken begins_line bytes kind size h in (s.text, s.rest, s.is, s.size_is, s.longer, s.stands);
  unclosed_read = unclosed_read;
  fault_taken = fault_taken;
  bad_byte_read = bad_byte_read;
}

faulty : (fault : FaultKind) (shape : Shape) (word : List ℕ) → Says shape word (Err fault) → IsFaulty fault shape word
faulty F.BadByte shape word s = s
faulty F.BadLiteral shape word s = s
faulty F.Unclosed shape word s = s
faulty F.TooWide shape word s = s

pub tokens_are_exact : TokensAreExact
tokens_are_exact = record {
  token_read = token_read;
  malformed_read = malformed_read;
  wide_read = wide_read;
  token_taken = λ shape word kind w h. subst (Says shape word) h (token_taken shape word w);
  fault_taken = λ shape word fault w h. faulty fault shape word (subst (Says shape word) h (token_taken shape word w));
}
