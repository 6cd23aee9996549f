-- Steps of the loop over the parts of a text.
use Rattle.std.proofs.Common.{◌≡◌, ◌≤◌, ◌<◌, ℕ, zero, suc, ◌+◌, Bool, false, List, [], ◌∷◌, ◌++◌, take, drop, length, Option, Some, None, Ok, Err, refl, ap}
use Rattle.std.proofs.Common.{sym}
use Rattle.std.proofs.Common.{subst, ◌∙◌, arith, append-nil, append_assoc}
use Rattle.std.specs.Option.{option_to_list}
use Rattle.c_tokens.specs.declared.fault.FaultKind.{FaultKind}
use Rattle.c_tokens.specs.declared.fault.FaultKind.TheVariants as F
use Rattle.c_lexer.specs.declared.fault.LexFault.{LexFault}
use Rattle.c_lexer.specs.declared.lexing.Step.{Step}
use Rattle.c_tokens.specs.declared.token.Token.{Token}
use Rattle.c_lexer.specs.Answers.{OnFault}
use Rattle.c_tokens.specs.declared.part.PartKind.TheVariants as P
use Rattle.c_tokens.specs.declared.part.Shape.TheVariants as S
use Rattle.c_tokens.specs.declared.punctuator.Punctuator.{Punctuator}
use Rattle.c_tokens.specs.declared.token.TokenKind.TheVariants as K
use Rattle.c_lexer.specs.Scanning.{part_at, step_over, step_at, begins_line_after_kind, Scanned, with_token, with_step, scan, fault_at}
use Rattle.c_lexer.proofs.Strings.{drop_shorter}

-- the tokens so far, and those of the rest
abbrev pub with_front : List Token → Scanned → Scanned
with_front done (Ok more) = Ok (done ++ more)
with_front done (Err fault) = Err fault

-- some number of steps is enough for the rest, and gives with the tokens so far what the whole text gives
abbrev pub Goes : List Token → ℕ → Bool → List ℕ → Scanned → Type 0
Goes done at begins_line text whole = (n : ℕ) × (length text ≤ n) × (with_front done (scan n at begins_line text) ≡ whole)

pub front_nothing : (scanned : Scanned) → with_front [] scanned ≡ scanned
front_nothing (Ok more) = refl
front_nothing (Err fault) = refl

front_added : (done : List Token) (found : Option Token) (scanned : Scanned) → with_front done (with_token found scanned)
    ≡ with_front (done ++ option_to_list found) scanned
front_added done None scanned = ap (λ tokens. with_front tokens scanned) (sym (append-nil done))
front_added done (Some token) (Ok more) = ap Ok (sym (append_assoc done (token ∷ []) more))
front_added done (Some token) (Err fault) = refl

pub begins : (text : List ℕ) (at : ℕ) (begins_line : Bool) → Goes [] at begins_line text (scan (length text) at begins_line text)
begins text at begins_line = (length text, omega arith, front_nothing (scan (length text) at begins_line text))

pub goes_on : (done : List Token) (at : ℕ) (begins_line : Bool) (text rest : List ℕ) (step : Step) (whole : Scanned) → 0 < length text
    → step_at at begins_line text ≡ Ok step → 0 < step.size → rest ≡ drop step.size text → Goes done at begins_line text whole
    → Goes (done ++ option_to_list step.found) (at + step.size) step.begins_line rest whole
unfolding scan
goes_on done at begins_line [] rest step whole h t s d g = absurd (omega (arith, h))
goes_on done at begins_line (b ∷ text) rest step whole h t s d (zero, l, e) = absurd (omega (arith, l))
goes_on done at begins_line (b ∷ text) rest step whole h t s d (suc n, l, e) =
    let one : scan (suc n) at begins_line (b ∷ text) ≡ with_token step.found (scan n (at + step.size) step.begins_line (drop step.size (b ∷ text))) =
    ap (λ r. with_step at r (λ step. scan n (at + step.size) step.begins_line (drop step.size (b ∷ text)))) t in
    rw d (n, omega (arith, l, drop_shorter step.size b text s), sym (front_added done step.found _) ∙ sym (ap (with_front done) one) ∙ e)

at_fault : (kind : FaultKind) (at : ℕ) (Says : FaultKind → ℕ → Type 0) → Says kind at → OnFault (fault_at kind at) Says
at_fault F.BadByte at Says h = h
at_fault F.BadLiteral at Says h = h
at_fault F.Unclosed at Says h = h
at_fault F.TooWide at Says h = h

stops : (done : List Token) (at : ℕ) (begins_line : Bool) (text : List ℕ) (kind : FaultKind) (whole : Scanned) → 0 < length text
    → step_at at begins_line text ≡ Err kind → Goes done at begins_line text whole → whole ≡ Err (kind, at)
unfolding scan
stops done at begins_line [] kind whole h t g = absurd (omega (arith, h))
stops done at begins_line (b ∷ text) kind whole h t (zero, l, e) = absurd (omega (arith, l))
stops done at begins_line (b ∷ text) kind whole h t (suc n, l, e) =
    sym e ∙ ap (λ r. with_front done (with_step at r (λ step. scan n (at + step.size) step.begins_line (drop step.size (b ∷ text))))) t

pub stops_with : (fault : LexFault) (done : List Token) (at : ℕ) (begins_line : Bool) (text : List ℕ) (kind : FaultKind) (whole : Scanned) → fault
    ≡ fault_at kind at → 0 < length text → step_at at begins_line text ≡ Err kind → Goes done at begins_line text whole
    → OnFault fault (λ kind at. whole ≡ Err (kind, at))
stops_with fault done at begins_line text kind whole f h t g =
    subst (λ x. OnFault x (λ kind at. whole ≡ Err (kind, at))) (sym f)
    (at_fault kind at (λ kind at. whole ≡ Err (kind, at)) (stops done at begins_line text kind whole h t g))

pub ends : (done : List Token) (at : ℕ) (begins_line : Bool) (text : List ℕ) (whole : Scanned) → length text ≡ 0 → Goes done at begins_line text whole
    → whole ≡ Ok done
unfolding scan
ends done at begins_line [] whole h (zero, l, e) = sym e ∙ ap Ok (append-nil done)
ends done at begins_line [] whole h (suc n, l, e) = sym e ∙ ap Ok (append-nil done)
ends done at begins_line (b ∷ text) whole h g = absurd (omega (arith, h))

-- ---- parts of one byte

white_step : (at : ℕ) (begins_line after : Bool) (text : List ℕ) → part_at begins_line text ≡ Ok (P.White, 1)
    → begins_line_after_kind begins_line P.White (take 1 text) ≡ after
    → step_at at begins_line text ≡ Ok (record { found = None; size = 1; begins_line = after })
unfolding step_at
white_step at begins_line after text p l = ap (step_over at begins_line text) p ∙ ap (λ b. Ok (record { found = None; size = 1; begins_line = b })) l

pub goes_over_white : (done : List Token) (at : ℕ) (begins_line after : Bool) (text rest : List ℕ) (whole : Scanned) → 0 < length text
    → part_at begins_line text ≡ Ok (P.White, 1) → begins_line_after_kind begins_line P.White (take 1 text) ≡ after → rest ≡ drop 1 text
    → Goes done at begins_line text whole → Goes done (at + 1) after rest whole
goes_over_white done at begins_line after text rest whole h p l d g =
    let step : Step = record { found = None; size = 1; begins_line = after } in
    subst (λ all. Goes all (at + 1) after rest whole) (append-nil done)
    (goes_on done at begins_line text rest step whole h (white_step at begins_line after text p l) (omega arith) d g)

pub one_byte : (text : List ℕ) → 0 < length text → length (take 1 text) ≡ 1
one_byte [] h = absurd (omega (arith, h))
one_byte (b ∷ text) h = refl

pub step_over_one : (at : ℕ) (begins_line : Bool) (text : List ℕ) (punctuator : Punctuator) → 0 < length text
    → part_at begins_line text ≡ Ok (P.Word (S.Punctuator punctuator), 1)
    → Ok (record { found = Some (record { kind = K.Punctuator punctuator; from = at; to = at + 1 }); size = 1; begins_line = false })
    ≡ step_at at begins_line text
unfolding step_at
step_over_one at begins_line text punctuator h e =
    sym (ap (step_over at begins_line text) e
    ∙ ap (λ n. Ok (record { found = Some (record { kind = K.Punctuator punctuator; from = at; to = at + n }); size = 1; begins_line = false })) (one_byte text h))
