-- A text has one reading.
use Rattle.std.specs.Prelude.{◌≡◌, ℕ, List}
use Rattle.c_tokens.specs.declared.token.Token.{Token}
use Rattle.c_tokens.specs.declared.fault.FaultKind.{FaultKind}
use Rattle.c_tokens.specs.Lexes.{Lexes, LexFaultAt}

-- one list of tokens, or one first fault, and not both
pub record HaveOneReading : Type 0 where
  pub one_list : (bytes : List ℕ) (tokens others : List Token) → Lexes bytes tokens → Lexes bytes others → others ≡ tokens
  pub one_fault : (bytes : List ℕ) (kind other : FaultKind) (at place : ℕ) → LexFaultAt bytes kind at → LexFaultAt bytes other place
      → (other ≡ kind) × (place ≡ at)
  pub not_both : (bytes : List ℕ) (tokens : List Token) (kind : FaultKind) (at : ℕ) → Lexes bytes tokens → LexFaultAt bytes kind at → ⊥
