-- What each answer of the functions that read a word says.
use Rattle.std.proofs.Common.{ℕ, List, Result, Ok, Err}
use Rattle.c_tokens.specs.declared.part.Shape.{Shape}
use Rattle.c_tokens.specs.declared.token.TokenKind.{TokenKind}
use Rattle.c_tokens.specs.declared.fault.FaultKind.{FaultKind}
use Rattle.c_tokens.specs.declared.fault.FaultKind.TheVariants as F
use Rattle.c_tokens.specs.Words.{IsToken, IsMalformed, IsTooWide}

-- an answer is that token, or says what is wrong with the word
abbrev pub Says : Shape → List ℕ → Result TokenKind FaultKind → Type 0
Says shape word (Ok kind) = IsToken shape word kind
Says shape word (Err F.BadLiteral) = IsMalformed shape word
Says shape word (Err F.TooWide) = IsTooWide shape word
Says shape word (Err _) = ⊥
