-- Whole texts: the tokens of a text, or its first fault, are read exactly.
use Rattle.std.proofs.Common.{◌≡◌, ◌≤◌, ◌<◌, ℕ, zero, suc, ◌+◌, Bool, true, false, List, [], ◌∷◌, ◌++◌, drop, length, Option, Some, None, Result, Ok}
use Rattle.std.proofs.Common.{Err, refl, ap, sym, subst, ◌∙◌, arith, append-nil, append_assoc, length-append, add-zero}
use Rattle.std.proofs.Math.Seq.{take-append_seam, drop-append_seam}
use Rattle.std.specs.Option.{option_to_list}
use Rattle.c_tokens.specs.declared.fault.FaultKind.{FaultKind}
use Rattle.c_tokens.specs.declared.fault.FaultKind.TheVariants as F
use Rattle.c_lexer.specs.declared.lexing.Step.{Step}
use Rattle.c_tokens.specs.declared.part.PartKind.{PartKind}
use Rattle.c_tokens.specs.declared.part.PartKind.TheVariants as P
use Rattle.c_tokens.specs.declared.part.Shape.{Shape}
use Rattle.c_tokens.specs.declared.token.Token.{Token}
use Rattle.c_tokens.specs.declared.token.TokenKind.{TokenKind}
use Rattle.c_tokens.specs.Words.{IsWord, IsToken}
use Rattle.c_tokens.specs.Parts.{Part, text_of, Stands, AreParts, begins_line_after_part, begins_line_after_parts}
use Rattle.c_tokens.specs.Lexes.{AreTokensFrom, AreTokens, Lexes, IsUnclosed, HasFault, LexFaultAt}
use Rattle.c_lexer.specs.Scanning.{part_at, token_of, begins_line_after_kind, token_in, step_with, step_over, step_at, Scanned, with_token, with_step, scan}
use Rattle.c_lexer.proofs.Exactness.{PartsAreExact, IsFaulty, TokensAreExact}
use Rattle.c_lexer.proofs.Scans.{with_front, front_nothing}
use Rattle.c_lexer.proofs.Strings.{drop_shorter}

-- ---- one part is read

pub line_after : (begins_line : Bool) (kind : PartKind) (text rest : List ℕ) → Stands begins_line kind text rest
    → begins_line_after_kind begins_line kind text ≡ begins_line_after_part begins_line (record { kind = kind; text = text })
line_after begins_line P.White text rest s = rw s.1 refl
line_after begins_line P.Comment text rest s = refl
line_after begins_line P.LineComment text rest s = refl
line_after begins_line P.Directive text rest s = refl
line_after begins_line (P.Word shape) text rest s = refl

-- what a step over the part gives
part_step : (p : PartsAreExact) (at : ℕ) (begins_line : Bool) (part : Part) (rest : List ℕ) → Stands begins_line part.kind part.text rest
    → step_at at begins_line (part.text ++ rest) ≡ step_with (length part.text) (begins_line_after_part begins_line part) (token_in at part.kind part.text)
unfolding step_at
part_step p at begins_line part rest s =
    ap (step_over at begins_line (part.text ++ rest)) (p.part_read begins_line part.kind part.text rest s)
    ∙ ap (λ t. step_with (length part.text) (begins_line_after_kind begins_line part.kind t) (token_in at part.kind t)) (take-append_seam part.text rest)
    ∙ ap (λ b. step_with (length part.text) b (token_in at part.kind part.text)) (line_after begins_line part.kind part.text rest s)

-- a part has a byte
pub part_long : (p : PartsAreExact) (begins_line : Bool) (part : Part) (rest : List ℕ) → Stands begins_line part.kind part.text rest → 0 < length part.text
part_long p begins_line part rest s =
    let t = p.part_taken begins_line (part.text ++ rest) part.kind (length part.text) (p.part_read begins_line part.kind part.text rest s) in t.4

scan_step : (n at : ℕ) (begins_line : Bool) (bytes : List ℕ) (step : Step) → 0 < length bytes → step_at at begins_line bytes ≡ Ok step
    → scan (suc n) at begins_line bytes ≡ with_token step.found (scan n (at + step.size) step.begins_line (drop step.size bytes))
unfolding scan
scan_step n at begins_line [] step h e = absurd (omega arith)
scan_step n at begins_line (b ∷ bytes) step h e = ap (λ r. with_step at r (λ step. scan n (at + step.size) step.begins_line (drop step.size (b ∷ bytes)))) e

scan_stop : (n at : ℕ) (begins_line : Bool) (bytes : List ℕ) (kind : FaultKind) → 0 < length bytes → length bytes ≤ n → step_at at begins_line bytes
    ≡ Err kind → scan n at begins_line bytes ≡ Err (kind, at)
unfolding scan
scan_stop n at begins_line [] kind h l e = absurd (omega arith)
scan_stop zero at begins_line (b ∷ bytes) kind h l e = absurd (omega arith)
scan_stop (suc n) at begins_line (b ∷ bytes) kind h l e = ap
    (λ r. with_step at r (λ step. scan n (at + step.size) step.begins_line (drop step.size (b ∷ bytes)))) e

scan_end : (n at : ℕ) (begins_line : Bool) → scan n at begins_line [] ≡ Ok []
unfolding scan
scan_end zero at begins_line = refl
scan_end (suc n) at begins_line = refl

part_scan : (p : PartsAreExact) (n at : ℕ) (begins_line : Bool) (part : Part) (rest : List ℕ) (found : Option Token)
    → Stands begins_line part.kind part.text rest → token_in at part.kind part.text ≡ Ok found → scan (suc n) at begins_line (part.text ++ rest)
    ≡ with_token found (scan n (at + length part.text) (begins_line_after_part begins_line part) rest)
part_scan p n at begins_line part rest found s is =
    let step : Step = record { found = found; size = length part.text; begins_line = begins_line_after_part begins_line part } in
    scan_step n at begins_line (part.text ++ rest) step (omega (arith, length-append part.text rest, part_long p begins_line part rest s))
    (part_step p at begins_line part rest s ∙ ap (step_with (length part.text) (begins_line_after_part begins_line part)) is)
    ∙ ap (λ l. with_token found (scan n (at + length part.text) (begins_line_after_part begins_line part) l)) (drop-append_seam part.text rest)

-- ---- parts are read

-- the token of a part, where it is one, and the tokens after it
record First (at : ℕ) (kind : PartKind) (text : List ℕ) (GoOn : List Token → Type 0) (tokens : List Token) : Type 0 where
  found : Option Token
  more : List Token
  is : token_in at kind text ≡ Ok found
  tokens_are : tokens ≡ option_to_list found ++ more
  go_on : GoOn more

same_token : (token : Token) (from to : ℕ) → from ≡ token.from → to ≡ token.to → record token { from = from; to = to } ≡ token
same_token token from to p q = rw (p, q) refl

word_first : (t : TokensAreExact) (at : ℕ) (shape : Shape) (text : List ℕ) (token : Token) → IsWord shape text → IsToken shape text token.kind
    → token.from ≡ at → token.to ≡ at + length text → token_in at (P.Word shape) text ≡ Ok (Some token)
word_first t at shape text token w is from to = rw (t.token_read shape text token.kind w is)
    (ap (λ x. Ok (Some x)) (same_token token at (at + length text) (sym from) (sym to)))

first_of_part : (t : TokensAreExact) (at : ℕ) (begins_line : Bool) (kind : PartKind) (text rest : List ℕ) (GoOn : List Token → Type 0)
    (tokens : List Token) → Stands begins_line kind text rest → AreTokensFrom at kind text GoOn tokens → First at kind text GoOn tokens
first_of_part t at begins_line (P.Word shape) text rest GoOn [] s h = absurd h
first_of_part t at begins_line (P.Word shape) text rest GoOn (token ∷ tokens) s h =
    record { found = Some token; more = tokens; is = word_first t at shape text token s.0 h.0 h.1 h.2; tokens_are = refl; go_on = h.3 }
first_of_part t at begins_line P.White text rest GoOn tokens s h = record { found = None; more = tokens; is = refl; tokens_are = refl; go_on = h }
first_of_part t at begins_line P.Comment text rest GoOn tokens s h = record { found = None; more = tokens; is = refl; tokens_are = refl; go_on = h }
first_of_part t at begins_line P.LineComment text rest GoOn tokens s h = record { found = None; more = tokens; is = refl; tokens_are = refl; go_on = h }
first_of_part t at begins_line P.Directive text rest GoOn tokens s h = record { found = None; more = tokens; is = refl; tokens_are = refl; go_on = h }

-- a token before others
token_front : (found : Option Token) (tokens : List Token) (scanned : Scanned) → with_token found (with_front tokens scanned)
    ≡ with_front (option_to_list found ++ tokens) scanned
token_front None tokens scanned = refl
token_front (Some token) tokens (Ok more) = refl
token_front (Some token) tokens (Err fault) = refl

-- the scan comes to what stands after the parts, with steps enough for it
record Comes (n at : ℕ) (begins_line : Bool) (parts : List Part) (rest : List ℕ) (tokens : List Token) : Type 0 where
  steps : ℕ
  enough : length rest ≤ steps
  is : scan n at begins_line (text_of parts ++ rest) ≡ with_front tokens
      (scan steps (at + length (text_of parts)) (begins_line_after_parts begins_line parts) rest)

comes_more : (p : PartsAreExact) (n at : ℕ) (begins_line : Bool) (part : Part) (parts : List Part) (rest : List ℕ) (tokens : List Token)
    (GoOn : List Token → Type 0) → Stands begins_line part.kind part.text (text_of parts ++ rest) → (f : First at part.kind part.text GoOn tokens)
    → Comes n (at + length part.text) (begins_line_after_part begins_line part) parts rest f.more → Comes (suc n) at begins_line (part ∷ parts) rest tokens
comes_more p n at begins_line part parts rest tokens GoOn s f c =
    let place : at + length part.text + length (text_of parts) ≡ at + length (part.text ++ text_of parts) =
    omega (arith, length-append part.text (text_of parts)) in
    record {
      steps = c.steps;
      enough = c.enough;
      is =
          ap (scan (suc n) at begins_line) (append_assoc part.text (text_of parts) rest)
          ∙ part_scan p n at begins_line part (text_of parts ++ rest) f.found s f.is
          ∙ ap (with_token f.found) c.is
          ∙ token_front f.found f.more _
          ∙ ap (λ l. with_front l (scan c.steps (at + length part.text + length (text_of parts))
          (begins_line_after_parts begins_line (part ∷ parts)) rest)) (sym f.tokens_are)
          ∙ ap (λ k. with_front tokens (scan c.steps k (begins_line_after_parts begins_line (part ∷ parts)) rest)) place;
    }

append_sizes : (a b c : List ℕ) → length ((a ++ b) ++ c) ≡ length a + length (b ++ c)
append_sizes a b c = omega (arith, length-append a b, length-append (a ++ b) c, length-append b c)

comes : (p : PartsAreExact) (t : TokensAreExact) (parts : List Part) (n at : ℕ) (begins_line : Bool) (rest : List ℕ) (tokens : List Token)
    → AreParts begins_line parts rest → AreTokens at parts tokens → length (text_of parts ++ rest) ≤ n → Comes n at begins_line parts rest tokens
comes p t [] n at begins_line rest tokens a k l = record { steps = n; enough = l; is = rw (k, add-zero at) (sym (front_nothing (scan n at begins_line rest))) }
comes p t (part ∷ parts) zero at begins_line rest tokens a k l =
    absurd (omega (
      arith,
      length-append part.text (text_of parts),
      length-append (part.text ++ text_of parts) rest,
      part_long p begins_line part (text_of parts ++ rest) a.0,
    ))
comes p t (part ∷ parts) (suc n) at begins_line rest tokens a k l =
    let f = first_of_part t at begins_line part.kind part.text (text_of parts ++ rest) (AreTokens (at + length part.text) parts) tokens a.0 k in
    let short : length (text_of parts ++ rest) ≤ n = omega (
      arith,
      append_sizes part.text (text_of parts) rest,
      part_long p begins_line part (text_of parts ++ rest) a.0,
    ) in
    comes_more p n at begins_line part parts rest tokens (AreTokens (at + length part.text) parts) a.0 f
    (comes p t parts n (at + length part.text) (begins_line_after_part begins_line part) rest f.more a.1 f.go_on short)

-- ---- tokens and faults are read

pub lexes_read : (p : PartsAreExact) (t : TokensAreExact) (n : ℕ) (bytes : List ℕ) (tokens : List Token) → Lexes bytes tokens → length bytes ≤ n
    → scan n 0 true bytes ≡ Ok tokens
lexes_read p t n bytes tokens l h =
    let whole : bytes ≡ text_of l.parts ++ [] = l.bytes_are ∙ sym (append-nil (text_of l.parts)) in
    let c = comes p t l.parts n 0 true [] tokens l.are_parts l.are_tokens (rw whole at h) in
    ap (scan n 0 true) whole ∙ c.is ∙ ap (with_front tokens) (scan_end c.steps _ _) ∙ ap Ok (append-nil tokens)

not_empty : (bytes : List ℕ) → (bytes ≡ [] → ⊥) → 0 < length bytes
not_empty [] h = absurd (h refl)
not_empty (b ∷ bytes) h = omega arith

unclosed_long : (bytes : List ℕ) → IsUnclosed bytes → 0 < length bytes
unclosed_long [] h = absurd h
unclosed_long (b ∷ bytes) h = omega arith

-- a step stops at a fault, which has a byte
abbrev IsStop : ℕ → Bool → List ℕ → FaultKind → Type 0
IsStop at begins_line bytes kind = (0 < length bytes) × (step_at at begins_line bytes ≡ Err kind)

part_stop : (at : ℕ) (begins_line : Bool) (bytes : List ℕ) (kind : FaultKind) → part_at begins_line bytes ≡ Err kind → step_at at begins_line bytes ≡ Err kind
unfolding step_at
part_stop at begins_line bytes kind e = ap (step_over at begins_line bytes) e

word_fault : (at : ℕ) (shape : Shape) (text : List ℕ) (kind : FaultKind) → token_of shape text ≡ Err kind → token_in at (P.Word shape) text ≡ Err kind
word_fault at shape text kind e = rw e refl

word_stop : (p : PartsAreExact) (at : ℕ) (begins_line : Bool) (shape : Shape) (bytes word rest : List ℕ) (kind : FaultKind) → bytes ≡ word ++ rest
    → Stands begins_line (P.Word shape) word rest → token_of shape word ≡ Err kind → IsStop at begins_line bytes kind
word_stop p at begins_line shape bytes word rest kind is s e =
    let part : Part = record { kind = P.Word shape; text = word } in (
      omega (arith, ap length is, length-append word rest, part_long p begins_line part rest s),
      ap (step_at at begins_line) is ∙ part_step p at begins_line part rest s ∙ ap (step_with (length word) false) (word_fault at shape word kind e),
    )

fault_stop : (p : PartsAreExact) (t : TokensAreExact) (kind : FaultKind) (at : ℕ) (begins_line : Bool) (bytes : List ℕ)
    → HasFault kind begins_line bytes → IsStop at begins_line bytes kind
fault_stop p t F.BadByte at begins_line bytes h = (not_empty bytes h.0, part_stop at begins_line bytes F.BadByte (p.bad_byte_read begins_line bytes h))
fault_stop p t F.BadLiteral at begins_line bytes h = word_stop p at begins_line h.0 bytes h.1 h.2 F.BadLiteral h.3 h.4 (t.malformed_read h.0 h.1 h.4.0 h.5)
fault_stop p t F.Unclosed at begins_line bytes h = (unclosed_long bytes h, part_stop at begins_line bytes F.Unclosed (p.unclosed_read begins_line bytes h))
fault_stop p t F.TooWide at begins_line bytes h = word_stop p at begins_line h.0 bytes h.1 h.2 F.TooWide h.3 h.4 (t.wide_read h.0 h.1 h.4.0 h.5)

pub fault_read : (p : PartsAreExact) (t : TokensAreExact) (n : ℕ) (bytes : List ℕ) (kind : FaultKind) (at : ℕ) → LexFaultAt bytes kind at
    → length bytes ≤ n → scan n 0 true bytes ≡ Err (kind, at)
fault_read p t n bytes kind at f h =
    let c = comes p t f.parts n 0 true f.rest f.tokens f.are_parts f.are_tokens (rw f.bytes_are at h) in
    let place : at ≡ 0 + length (text_of f.parts) = omega (arith, f.place) in
    let stop = fault_stop p t kind (0 + length (text_of f.parts)) (begins_line_after_parts true f.parts) f.rest f.fault in
    ap (scan n 0 true) f.bytes_are ∙ c.is
    ∙ ap (with_front f.tokens) (scan_stop c.steps _ _ f.rest kind stop.0 c.enough stop.1)
    ∙ ap (λ k. Err (kind, k)) (sym place)

-- ---- what one part gives is taken

-- the part that a step goes over
record SteppedOver (at : ℕ) (begins_line : Bool) (bytes : List ℕ) (step : Step) : Type 0 where
  part : Part
  rest : List ℕ
  is : bytes ≡ part.text ++ rest
  stands : Stands begins_line part.kind part.text rest
  found : token_in at part.kind part.text ≡ Ok step.found
  size : step.size ≡ length part.text
  after : step.begins_line ≡ begins_line_after_part begins_line part

abbrev StepSays : ℕ → Bool → List ℕ → Result Step FaultKind → Type 0
StepSays at begins_line bytes (Ok step) = SteppedOver at begins_line bytes step
StepSays at begins_line bytes (Err kind) = HasFault kind begins_line bytes

word_found : (at : ℕ) (shape : Shape) (text : List ℕ) (kind : TokenKind) → token_of shape text ≡ Ok kind → token_in at (P.Word shape) text
    ≡ Ok (Some (record { kind = kind; from = at; to = at + length text }))
word_found at shape text kind e = rw e refl

-- a word that is no token is faulty
faulty_word : (fault : FaultKind) (begins_line : Bool) (shape : Shape) (text rest : List ℕ) → Stands begins_line (P.Word shape) text rest
    → IsFaulty fault shape text → HasFault fault begins_line (text ++ rest)
faulty_word F.BadByte begins_line shape text rest s h = absurd h
faulty_word F.BadLiteral begins_line shape text rest s h = (shape, text, rest, refl, s, h)
faulty_word F.Unclosed begins_line shape text rest s h = absurd h
faulty_word F.TooWide begins_line shape text rest s h = (shape, text, rest, refl, s, h)

word_refused : (t : TokensAreExact) (at : ℕ) (begins_line : Bool) (shape : Shape) (text rest : List ℕ) (fault : FaultKind)
    (r : Result TokenKind FaultKind) → token_of shape text ≡ r → Stands begins_line (P.Word shape) text rest → token_in at (P.Word shape) text
    ≡ Err fault → HasFault fault begins_line (text ++ rest)
word_refused t at begins_line shape text rest fault (Ok kind) e s h = let f = word_found at shape text kind e in cc
word_refused t at begins_line shape text rest fault (Err other) e s h =
    let f = word_fault at shape text other e in
    let same : other ≡ fault = cc in
    faulty_word fault begins_line shape text rest s (t.fault_taken shape text fault s.0 (e ∙ ap Err same))

part_refused : (t : TokensAreExact) (at : ℕ) (begins_line : Bool) (kind : PartKind) (text rest : List ℕ) (fault : FaultKind)
    → Stands begins_line kind text rest → token_in at kind text ≡ Err fault → HasFault fault begins_line (text ++ rest)
part_refused t at begins_line (P.Word shape) text rest fault s h = word_refused t at begins_line shape text rest fault (token_of shape text) refl s h
part_refused t at begins_line P.White text rest fault s h = cc
part_refused t at begins_line P.Comment text rest fault s h = cc
part_refused t at begins_line P.LineComment text rest fault s h = cc
part_refused t at begins_line P.Directive text rest fault s h = cc

-- what is found in a part
found_says : (t : TokensAreExact) (at : ℕ) (begins_line : Bool) (part : Part) (rest : List ℕ) (r : Result (Option Token) FaultKind)
    → Stands begins_line part.kind part.text rest → token_in at part.kind part.text ≡ r
    → StepSays at begins_line (part.text ++ rest) (step_with (length part.text) (begins_line_after_part begins_line part) r)
found_says t at begins_line part rest (Ok found) s e = record { part = part; rest = rest; is = refl; stands = s; found = e; size = refl; after = refl }
found_says t at begins_line part rest (Err fault) s e = part_refused t at begins_line part.kind part.text rest fault s e

step_says : (p : PartsAreExact) (t : TokensAreExact) (at : ℕ) (begins_line : Bool) (bytes : List ℕ) (r : Result (PartKind × ℕ) FaultKind)
    → (bytes ≡ [] → ⊥) → part_at begins_line bytes ≡ r → StepSays at begins_line bytes (step_at at begins_line bytes)
step_says p t at begins_line bytes (Err fault) some e = rw (part_stop at begins_line bytes fault e) (p.fault_taken begins_line bytes fault some e)
step_says p t at begins_line bytes (Ok y) some e =
    let k = p.part_taken begins_line bytes y.0 y.1 e in
    let part : Part = record { kind = y.0; text = k.0 } in
    subst (λ l. StepSays at begins_line l (step_at at begins_line l)) (sym k.2)
    (rw (part_step p at begins_line part k.1 k.5) (found_says t at begins_line part k.1 (token_in at y.0 k.0) k.5 refl))

-- ---- what the scan answers is taken

-- the tokens from a byte of the file on
record Reads (at : ℕ) (begins_line : Bool) (bytes : List ℕ) (tokens : List Token) : Type 0 where
  parts : List Part
  is : bytes ≡ text_of parts
  are_parts : AreParts begins_line parts []
  are_tokens : AreTokens at parts tokens

-- the first fault from there on
record Stops (at : ℕ) (begins_line : Bool) (bytes : List ℕ) (kind : FaultKind) (place : ℕ) : Type 0 where
  parts : List Part
  tokens : List Token
  rest : List ℕ
  is : bytes ≡ text_of parts ++ rest
  are_parts : AreParts begins_line parts rest
  are_tokens : AreTokens at parts tokens
  place_is : place ≡ at + length (text_of parts)
  fault : HasFault kind (begins_line_after_parts begins_line parts) rest

abbrev Says : ℕ → Bool → List ℕ → Scanned → Type 0
Says at begins_line bytes (Ok tokens) = Reads at begins_line bytes tokens
Says at begins_line bytes (Err fault) = Stops at begins_line bytes fault.0 fault.1

-- the tokens of a part and of those after it
word_tokens : (t : TokensAreExact) (at : ℕ) (begins_line : Bool) (shape : Shape) (text rest : List ℕ) (found : Option Token) (GoOn : List Token
    → Type 0) (more : List Token) (r : Result TokenKind FaultKind) → token_of shape text ≡ r → Stands begins_line (P.Word shape) text rest
    → token_in at (P.Word shape) text ≡ Ok found → GoOn more → AreTokensFrom at (P.Word shape) text GoOn (option_to_list found ++ more)
word_tokens t at begins_line shape text rest found GoOn more (Err fault) e s h g = let f = word_fault at shape text fault e in cc
word_tokens t at begins_line shape text rest found GoOn more (Ok kind) e s h g =
    let f = word_found at shape text kind e in
    let same : found ≡ Some (record { kind = kind; from = at; to = at + length text }) = cc in
    rw same (t.token_taken shape text kind s.0 e, refl, refl, g)

part_tokens : (t : TokensAreExact) (at : ℕ) (begins_line : Bool) (kind : PartKind) (text rest : List ℕ) (found : Option Token) (GoOn : List Token
    → Type 0) (more : List Token) → Stands begins_line kind text rest → token_in at kind text ≡ Ok found → GoOn more
    → AreTokensFrom at kind text GoOn (option_to_list found ++ more)
part_tokens t at begins_line (P.Word shape) text rest found GoOn more s h g =
    word_tokens t at begins_line shape text rest found GoOn more (token_of shape text) refl s h g
part_tokens t at begins_line P.White text rest found GoOn more s h g = let same : found ≡ None = cc in rw same g
part_tokens t at begins_line P.Comment text rest found GoOn more s h g = let same : found ≡ None = cc in rw same g
part_tokens t at begins_line P.LineComment text rest found GoOn more s h g = let same : found ≡ None = cc in rw same g
part_tokens t at begins_line P.Directive text rest found GoOn more s h g = let same : found ≡ None = cc in rw same g

reads_more : (t : TokensAreExact) (at : ℕ) (begins_line : Bool) (bytes : List ℕ) (step : Step) (tokens : List Token)
    (u : SteppedOver at begins_line bytes step) → Reads (at + length u.part.text) (begins_line_after_part begins_line u.part) u.rest tokens
    → Reads at begins_line bytes (option_to_list step.found ++ tokens)
reads_more t at begins_line bytes step tokens u r = record {
  parts = u.part ∷ r.parts;
  is = u.is ∙ ap (λ l. u.part.text ++ l) r.is;
  are_parts = (subst (Stands begins_line u.part.kind u.part.text) (r.is ∙ sym (append-nil (text_of r.parts))) u.stands, r.are_parts);
  are_tokens = part_tokens t at begins_line u.part.kind u.part.text u.rest step.found
      (AreTokens (at + length u.part.text) r.parts) tokens u.stands u.found r.are_tokens;
}

stops_more : (t : TokensAreExact) (at : ℕ) (begins_line : Bool) (bytes : List ℕ) (step : Step) (kind : FaultKind) (place : ℕ)
    (u : SteppedOver at begins_line bytes step) → Stops (at + length u.part.text) (begins_line_after_part begins_line u.part) u.rest kind place
    → Stops at begins_line bytes kind place
stops_more t at begins_line bytes step kind place u r = record {
  parts = u.part ∷ r.parts;
  tokens = option_to_list step.found ++ r.tokens;
  rest = r.rest;
  is = u.is ∙ ap (λ l. u.part.text ++ l) r.is ∙ sym (append_assoc u.part.text (text_of r.parts) r.rest);
  are_parts = (subst (Stands begins_line u.part.kind u.part.text) r.is u.stands, r.are_parts);
  are_tokens = part_tokens t at begins_line u.part.kind u.part.text u.rest step.found
      (AreTokens (at + length u.part.text) r.parts) r.tokens u.stands u.found r.are_tokens;
  place_is = omega (arith, r.place_is, length-append u.part.text (text_of r.parts));
  fault = r.fault;
}

token_or_not : (found : Option Token) (tokens : List Token) → with_token found (Ok tokens) ≡ Ok (option_to_list found ++ tokens)
token_or_not None tokens = refl
token_or_not (Some token) tokens = refl

no_token : (found : Option Token) (fault : FaultKind × ℕ) → with_token found (Err fault) ≡ Err fault
no_token None fault = refl
no_token (Some token) fault = refl

-- what is said after a part, as said from its beginning
after_part : (t : TokensAreExact) (at : ℕ) (begins_line : Bool) (bytes : List ℕ) (step : Step) (scanned : Scanned)
    (u : SteppedOver at begins_line bytes step) → Says (at + length u.part.text) (begins_line_after_part begins_line u.part) u.rest scanned
    → Says at begins_line bytes (with_token step.found scanned)
after_part t at begins_line bytes step (Ok tokens) u r = rw token_or_not (reads_more t at begins_line bytes step tokens u r)
after_part t at begins_line bytes step (Err fault) u r = rw no_token (stops_more t at begins_line bytes step fault.0 fault.1 u r)

with_step_says : (t : TokensAreExact) (at : ℕ) (begins_line : Bool) (bytes : List ℕ) (r : Result Step FaultKind) (more : Step → Scanned)
    → StepSays at begins_line bytes r → ((step : Step) → SteppedOver at begins_line bytes step
    → Says (at + step.size) step.begins_line (drop step.size bytes) (more step)) → Says at begins_line bytes (with_step at r more)
with_step_says t at begins_line bytes (Err kind) more s g = record {
  parts = [];
  tokens = [];
  rest = bytes;
  is = refl;
  are_parts = tt;
  are_tokens =
      refl;
  place_is = sym (add-zero at);
  fault = s;
}
with_step_says t at begins_line bytes (Ok step) more u g =
    let rest : drop step.size bytes ≡ u.rest = ap (λ n. drop n bytes) u.size ∙ ap (drop (length u.part.text)) u.is ∙ drop-append_seam u.part.text u.rest in
    after_part t at begins_line bytes step (more step) u (rw (← rest, ← u.size, ← u.after) (g step u))

end_says : (n at : ℕ) (begins_line : Bool) → Says at begins_line [] (scan n at begins_line [])
end_says n at begins_line = rw (scan_end n at begins_line) (record { parts = []; is = refl; are_parts = tt; are_tokens = refl })

scan_says : (p : PartsAreExact) (t : TokensAreExact) (n at : ℕ) (begins_line : Bool) (bytes : List ℕ) → length bytes ≤ n
    → Says at begins_line bytes (scan n at begins_line bytes)
unfolding scan
scan_says p t n at begins_line [] h = end_says n at begins_line
scan_says p t zero at begins_line (b ∷ bytes) h = absurd (omega arith)
scan_says p t (suc n) at begins_line (b ∷ bytes) h =
    with_step_says t at begins_line (b ∷ bytes) (step_at at begins_line (b ∷ bytes))
    (λ step. scan n (at + step.size) step.begins_line (drop step.size (b ∷ bytes)))
    (step_says p t at begins_line (b ∷ bytes) (part_at begins_line (b ∷ bytes)) (λ e. cc) refl)
    (λ step u. scan_says p t n (at + step.size) step.begins_line (drop step.size (b ∷ bytes))
    (omega (arith, h, drop_shorter step.size b bytes (omega (arith, u.size, part_long p begins_line u.part u.rest u.stands)))))

-- the tokens of the text, or its first fault
abbrev pub TextSays : List ℕ → Scanned → Type 0
TextSays bytes (Ok tokens) = Lexes bytes tokens
TextSays bytes (Err fault) = LexFaultAt bytes fault.0 fault.1

from_start : (bytes : List ℕ) (scanned : Scanned) → Says 0 true bytes scanned → TextSays bytes scanned
from_start bytes (Ok tokens) r = record { parts = r.parts; bytes_are = r.is; are_parts = r.are_parts; are_tokens = r.are_tokens }
from_start bytes (Err fault) r = record {
  parts = r.parts;
  tokens = r.tokens;
  rest = r.rest;
  bytes_are = r.is;
  are_parts = r.are_parts;
  are_tokens =
      r.are_tokens;
  place = omega (arith, r.place_is);
  fault = r.fault;
}

pub scan_taken : (p : PartsAreExact) (t : TokensAreExact) (n : ℕ) (bytes : List ℕ) → length bytes ≤ n → TextSays bytes (scan n 0 true bytes)
scan_taken p t n bytes h = from_start bytes (scan n 0 true bytes) (scan_says p t n 0 true bytes h)
