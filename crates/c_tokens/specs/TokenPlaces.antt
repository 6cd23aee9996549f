-- Tokens and faults stand at places of which lines are presumed, and in order.
use Rattle.std.specs.Prelude.{◌≡◌, ℕ, ◌≤◌, List, [], ◌∷◌, All, length, Some, slice_get}
use Rattle.lay_base.specs.declared.place.File.{File}
use Rattle.lay_base.specs.declared.place.Place.{Place}
use Rattle.c_tokens.specs.declared.token.Token.{Token}
use Rattle.c_tokens.specs.declared.fault.FaultKind.{FaultKind}
use Rattle.c_tokens.specs.Lexes.{Lexes, LexFaultAt}
use Rattle.c_tokens.specs.Presuming.{AreTokensBefore}

-- a place in the text, before which there are tokens
abbrev pub IsPlaceIn : List ℕ → ℕ → Type 0
IsPlaceIn bytes at = (at ≤ length bytes) × AreTokensBefore at bytes

-- such a place of one of some files
abbrev pub IsPlaceOf : List File → Place → Type 0
IsPlaceOf files place = (file : File) × (slice_get files place.file ≡ Some file) × IsPlaceIn file.bytes place.at

-- the tokens come one after the other, from a byte on
abbrev pub AreInOrder : ℕ → List Token → Type 0
AreInOrder at [] = Unit {0}
AreInOrder at (token ∷ tokens) = (at ≤ token.from) × (token.from ≤ token.to) × AreInOrder token.to tokens

pub record TokensHavePlaces : Type 0 where
  pub of_tokens : (bytes : List ℕ) (tokens : List Token) → Lexes bytes tokens → All (λ token. IsPlaceIn bytes token.from) tokens
  pub of_end : (bytes : List ℕ) (tokens : List Token) → Lexes bytes tokens → IsPlaceIn bytes (length bytes)
  pub of_fault : (bytes : List ℕ) (kind : FaultKind) (at : ℕ) → LexFaultAt bytes kind at → IsPlaceIn bytes at
  pub in_order : (bytes : List ℕ) (tokens : List Token) → Lexes bytes tokens → AreInOrder 0 tokens
  -- there are no more tokens than bytes
  pub few : (bytes : List ℕ) (tokens : List Token) → Lexes bytes tokens → length tokens ≤ length bytes
