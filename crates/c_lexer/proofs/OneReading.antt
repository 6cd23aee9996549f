-- A text has one reading: one list of tokens or one first fault.
use Rattle.std.proofs.Common.{◌≡◌, ℕ, true, List, length, Result, Ok, Err, ap, subst, arith}
use Rattle.c_tokens.specs.declared.fault.FaultKind.{FaultKind}
use Rattle.c_lexer.specs.declared.fault.LexFault.{LexFault}
use Rattle.c_lexer.specs.declared.fault.LexFault.TheVariants as L
use Rattle.c_tokens.specs.declared.part.PartKind.{PartKind}
use Rattle.c_tokens.specs.declared.token.Token.{Token}
use Rattle.c_tokens.specs.Lexes.{Lexes, LexFaultAt}
use Rattle.c_lexer.specs.Scanning.{Scanned, scan}
use Rattle.c_lexer.specs.Answers.{OnFault}
use Rattle.c_lexer.specs.Readings.{HaveOneReading}
use Rattle.c_lexer.proofs.Exactness.{PartsAreExact, TokensAreExact}
use Rattle.c_lexer.proofs.WholeTexts.{TextSays, lexes_read, fault_read, scan_taken}

-- ---- tokens and faults

same_tokens : (scanned : Scanned) (tokens others : List Token) → scanned ≡ Ok tokens → scanned ≡ Ok others → others ≡ tokens
same_tokens scanned tokens others a b = cc

same_fault : (scanned : Scanned) (fault other : FaultKind × ℕ) → scanned ≡ Err fault → scanned ≡ Err other → other ≡ fault
same_fault scanned fault other a b = cc

both_parts : (fault other : FaultKind × ℕ) → other ≡ fault → (other.0 ≡ fault.0) × (other.1 ≡ fault.1)
both_parts fault other e = (ap (λ z. z.0) e, ap (λ z. z.1) e)

tokens_or_fault : (scanned : Scanned) (tokens : List Token) (fault : FaultKind × ℕ) → scanned ≡ Ok tokens → scanned ≡ Err fault → ⊥
tokens_or_fault scanned tokens fault a b = cc

pub have_one_reading : PartsAreExact → TokensAreExact → HaveOneReading
have_one_reading p t = record {
  one_list = λ bytes tokens others a b. same_tokens (scan (length bytes) 0 true bytes) tokens others
      (lexes_read p t (length bytes) bytes tokens a (omega arith)) (lexes_read p t (length bytes) bytes others b (omega arith));
  one_fault = λ bytes kind other at place a b. both_parts (kind, at) (other, place)
      (same_fault (scan (length bytes) 0 true bytes) (kind, at) (other, place) (fault_read p t (length bytes) bytes kind at a (omega arith))
      (fault_read p t (length bytes) bytes other place b (omega arith)));
  not_both = λ bytes tokens kind at a b. tokens_or_fault (scan (length bytes) 0 true bytes) tokens (kind, at)
      (lexes_read p t (length bytes) bytes tokens a (omega arith)) (fault_read p t (length bytes) bytes kind at b (omega arith));
}

-- ---- what the scan of a text answers

answer_says : PartsAreExact → TokensAreExact → (bytes : List ℕ) (scanned : Scanned) → scan (length bytes) 0 true bytes ≡ scanned → TextSays bytes scanned
answer_says p t bytes scanned e = subst (TextSays bytes) e (scan_taken p t (length bytes) bytes (omega arith))

pub scanned_lexes : PartsAreExact → TokensAreExact → (bytes : List ℕ) (tokens : List Token) → scan (length bytes) 0 true bytes ≡ Ok tokens → Lexes bytes tokens
scanned_lexes p t bytes tokens e = answer_says p t bytes (Ok tokens) e

pub scanned_fault : PartsAreExact → TokensAreExact → (bytes : List ℕ) (fault : LexFault)
    → OnFault fault (λ kind at. scan (length bytes) 0 true bytes ≡ Err (kind, at)) → OnFault fault (LexFaultAt bytes)
scanned_fault p t bytes (L.BadByte at) e = answer_says p t bytes (Err _) e
scanned_fault p t bytes (L.BadLiteral at) e = answer_says p t bytes (Err _) e
scanned_fault p t bytes (L.Unclosed at) e = answer_says p t bytes (Err _) e
scanned_fault p t bytes (L.TooWide at) e = answer_says p t bytes (Err _) e
scanned_fault p t bytes (L.Memory want) e = tt

-- ---- the part at the front

pub same_answer : (r : Result (PartKind × ℕ) FaultKind) (a b : PartKind × ℕ) → r ≡ Ok a → r ≡ Ok b → a ≡ b
same_answer r a b p q = cc
