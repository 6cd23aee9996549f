-- Tokens and faults stand at places of which lines are presumed, and in order.
use Rattle.std.proofs.Common.{◌≡◌, ◌≤◌, ◌<◌, ℕ, ◌+◌, Bool, true, List, [], ◌∷◌, ◌++◌, take, length, refl, ap, sym, subst, ◌∙◌, arith, append_assoc}
use Rattle.std.proofs.Common.{append-nil, length-append}
use Rattle.std.specs.List.{All}
use Rattle.std.proofs.Math.Seq.{take-append_seam}
use Rattle.std.proofs.lemmas.List.Elements.{All-nil, All-cons, All-weaker}
use Rattle.c_tokens.specs.declared.fault.FaultKind.{FaultKind}
use Rattle.c_tokens.specs.declared.part.PartKind.{PartKind}
use Rattle.c_tokens.specs.declared.part.PartKind.TheVariants as P
use Rattle.c_tokens.specs.declared.token.Token.{Token}
use Rattle.c_tokens.specs.Parts.{Part, text_of, Stands, AreParts, begins_line_after_part}
use Rattle.c_tokens.specs.Lexes.{AreTokens, AreTokensFrom, Lexes, LexFaultAt}
use Rattle.c_tokens.specs.TokenPlaces.{IsPlaceIn, AreInOrder, TokensHavePlaces}
use Rattle.c_lexer.proofs.Exactness.{PartsAreExact}
use Rattle.c_lexer.proofs.WholeTexts.{part_long}
use Rattle.c_lexer.proofs.FrontTexts.{stands_before, parts_before}

-- the first of some parts end at a place, and are tokens
record Ends (at : ℕ) (begins_line : Bool) (bytes : List ℕ) (place : ℕ) : Type 0 where
  parts : List Part
  rest : List ℕ
  tokens : List Token
  is : bytes ≡ text_of parts ++ rest
  are_parts : AreParts begins_line parts []
  are_tokens : AreTokens at parts tokens
  place_is : place ≡ at + length (text_of parts)

none_yet : (at : ℕ) (begins_line : Bool) (bytes : List ℕ) (place : ℕ) → place ≡ at → Ends at begins_line bytes place
none_yet at begins_line bytes place e = record {
  parts = [];
  rest = bytes;
  tokens = [];
  is = refl;
  are_parts = tt;
  are_tokens = refl;
  place_is =
      omega (arith, e);
}

-- the token of a part before others
with_others : (at : ℕ) (kind : PartKind) (text : List ℕ) (GoOn Other : List Token → Type 0) (tokens others : List Token)
    → AreTokensFrom at kind text GoOn tokens → Other others → (all : List Token) × AreTokensFrom at kind text Other all
with_others at (P.Word shape) text GoOn Other [] others h o = absurd h
with_others at (P.Word shape) text GoOn Other (token ∷ tokens) others h o = (token ∷ others, (h.0, h.1, h.2, o))
with_others at P.White text GoOn Other tokens others h o = (others, o)
with_others at P.Comment text GoOn Other tokens others h o = (others, o)
with_others at P.LineComment text GoOn Other tokens others h o = (others, o)
with_others at P.Directive text GoOn Other tokens others h o = (others, o)

-- one part more before them
one_more : (at : ℕ) (begins_line : Bool) (part : Part) (parts : List Part) (tokens : List Token) (place : ℕ)
    → Stands begins_line part.kind part.text (text_of parts ++ [])
    → AreTokensFrom at part.kind part.text (AreTokens (at + length part.text) parts) tokens
    → Ends (at + length part.text) (begins_line_after_part begins_line part) (text_of parts) place → Ends at begins_line (part.text ++ text_of parts) place
one_more at begins_line part parts tokens place s h e =
    let all = with_others at part.kind part.text (AreTokens (at + length part.text) parts)
    (AreTokens (at + length part.text) e.parts) tokens e.tokens h e.are_tokens in
    let whole = subst (Stands begins_line part.kind part.text) (append-nil (text_of parts) ∙ e.is) s in
    let stands = subst (Stands begins_line part.kind part.text) (sym (append-nil (text_of e.parts)))
    (stands_before begins_line part.kind part.text (text_of e.parts) e.rest whole) in
    record {
      parts = part ∷ e.parts;
      rest = e.rest;
      tokens = all.0;
      is = ap (λ l. part.text ++ l) e.is ∙ sym (append_assoc part.text (text_of e.parts) e.rest);
      are_parts = (stands, e.are_parts);
      are_tokens = all.1;
      place_is = omega (arith, e.place_is, length-append part.text (text_of e.parts));
    }

-- each token of a part and of those after it
of_part : (kind : PartKind) (at : ℕ) (text : List ℕ) (P : ℕ → Type 0) (GoOn : List Token → Type 0) (tokens : List Token)
    → AreTokensFrom at kind text GoOn tokens → P at → ((more : List Token) → GoOn more → All (λ token. P token.from) more) → All (λ token. P token.from) tokens
of_part (P.Word shape) at text P GoOn [] h here more = absurd h
of_part (P.Word shape) at text P GoOn (token ∷ tokens) h here more = All-cons (λ token. P token.from) token tokens (subst P (sym h.1) here) (more tokens h.3)
of_part P.White at text P GoOn tokens h here more = more tokens h
of_part P.Comment at text P GoOn tokens h here more = more tokens h
of_part P.LineComment at text P GoOn tokens h here more = more tokens h
of_part P.Directive at text P GoOn tokens h here more = more tokens h

of_parts : (parts : List Part) (at : ℕ) (begins_line : Bool) (tokens : List Token) → AreParts begins_line parts [] → AreTokens at parts tokens
    → All (λ token. Ends at begins_line (text_of parts) token.from) tokens
of_parts [] at begins_line tokens a h = subst (All (λ token. Ends at begins_line [] token.from)) (sym h) (All-nil (λ token. Ends at begins_line [] token.from))
of_parts (part ∷ parts) at begins_line tokens a h =
    let Here : ℕ → Type 0 = Ends at begins_line (part.text ++ text_of parts) in
    let Later : ℕ → Type 0 = Ends (at + length part.text) (begins_line_after_part begins_line part) (text_of parts) in
    of_part part.kind at part.text Here (AreTokens (at + length part.text) parts) tokens h (none_yet at begins_line (part.text ++ text_of parts) at refl)
    (λ more m. All-weaker (λ token. Later token.from) (λ token. Here token.from)
    (λ token e. one_more at begins_line part parts tokens token.from a.0 h e) more
    (of_parts parts (at + length part.text) (begins_line_after_part begins_line part) more a.1 m))

place_from : (bytes : List ℕ) (place : ℕ) → Ends 0 true bytes place → IsPlaceIn bytes place
place_from bytes place e =
    let size : place ≡ length (text_of e.parts) = omega (arith, e.place_is) in
    let front : take place bytes ≡ text_of e.parts = ap (λ n. take n bytes) size ∙ ap (take (length (text_of e.parts))) e.is
    ∙ take-append_seam (text_of e.parts) e.rest in (
      omega (arith, size, ap length e.is, length-append (text_of e.parts) e.rest),
      (e.tokens, record { parts = e.parts; bytes_are = front; are_parts = e.are_parts; are_tokens = e.are_tokens }),
    )

of_tokens : (bytes : List ℕ) (tokens : List Token) → Lexes bytes tokens → All (λ token. IsPlaceIn bytes token.from) tokens
of_tokens bytes tokens l =
    let ends = subst (λ b. All (λ token. Ends 0 true b token.from) tokens) (sym l.bytes_are) (of_parts l.parts 0 true tokens l.are_parts l.are_tokens) in
    All-weaker (λ token. Ends 0 true bytes token.from) (λ token. IsPlaceIn bytes token.from) (λ token e. place_from bytes token.from e) tokens ends

of_end : (bytes : List ℕ) (tokens : List Token) → Lexes bytes tokens → IsPlaceIn bytes (length bytes)
of_end bytes tokens l = place_from bytes (length bytes) (record {
  parts = l.parts;
  rest = [];
  tokens = tokens;
  is = l.bytes_are
      ∙ sym (append-nil (text_of l.parts));
  are_parts = l.are_parts;
  are_tokens = l.are_tokens;
  place_is = omega (arith, ap length l.bytes_are);
})

of_fault : (bytes : List ℕ) (kind : FaultKind) (at : ℕ) → LexFaultAt bytes kind at → IsPlaceIn bytes at
of_fault bytes kind at f = place_from bytes at (record {
  parts = f.parts;
  rest = f.rest;
  tokens = f.tokens;
  is = f.bytes_are;
  are_parts =
      parts_before true f.parts [] f.rest f.are_parts;
  are_tokens = f.are_tokens;
  place_is = omega (arith, f.place);
})

-- ---- in order, and not too many

higher : (low high : ℕ) (tokens : List Token) → low ≤ high → AreInOrder high tokens → AreInOrder low tokens
higher low high [] l h = tt
higher low high (token ∷ tokens) l h = (omega (arith, h.0), h.1, h.2)

ordered_part : (kind : PartKind) (at : ℕ) (text : List ℕ) (GoOn : List Token → Type 0) (tokens : List Token) → AreTokensFrom at kind text GoOn tokens
    → ((more : List Token) → GoOn more → AreInOrder (at + length text) more) → AreInOrder at tokens
ordered_part (P.Word shape) at text GoOn [] h more = absurd h
ordered_part (P.Word shape) at text GoOn (token ∷ tokens) h more =
    (omega (arith, h.1), omega (arith, h.1, h.2), rw h.2 (more tokens h.3))
ordered_part P.White at text GoOn tokens h more = higher at (at + length text) tokens (omega arith) (more tokens h)
ordered_part P.Comment at text GoOn tokens h more = higher at (at + length text) tokens (omega arith) (more tokens h)
ordered_part P.LineComment at text GoOn tokens h more = higher at (at + length text) tokens (omega arith) (more tokens h)
ordered_part P.Directive at text GoOn tokens h more = higher at (at + length text) tokens (omega arith) (more tokens h)

ordered : (parts : List Part) (at : ℕ) (tokens : List Token) → AreTokens at parts tokens → AreInOrder at tokens
ordered [] at tokens h = subst (AreInOrder at) (sym h) tt
ordered (part ∷ parts) at tokens h = ordered_part part.kind at part.text (AreTokens (at + length part.text) parts) tokens h
    (λ more m. ordered parts (at + length part.text) more m)

few_in_part : (kind : PartKind) (at size : ℕ) (text : List ℕ) (GoOn : List Token → Type 0) (tokens : List Token) → 0 < length text
    → AreTokensFrom at kind text GoOn tokens → ((more : List Token) → GoOn more → length more ≤ size) → length tokens ≤ length text + size
few_in_part (P.Word shape) at size text GoOn [] l h more = absurd h
few_in_part (P.Word shape) at size text GoOn (token ∷ tokens) l h more = let m = more tokens h.3 in omega (arith, m)
few_in_part P.White at size text GoOn tokens l h more = let m = more tokens h in omega (arith, m)
few_in_part P.Comment at size text GoOn tokens l h more = let m = more tokens h in omega (arith, m)
few_in_part P.LineComment at size text GoOn tokens l h more = let m = more tokens h in omega (arith, m)
few_in_part P.Directive at size text GoOn tokens l h more = let m = more tokens h in omega (arith, m)

few_in_parts : (p : PartsAreExact) (parts : List Part) (at : ℕ) (begins_line : Bool) (tokens : List Token) → AreParts begins_line parts []
    → AreTokens at parts tokens → length tokens ≤ length (text_of parts)
few_in_parts p [] at begins_line tokens a h = omega (arith, ap length h)
few_in_parts p (part ∷ parts) at begins_line tokens a h =
    let n = few_in_part part.kind at (length (text_of parts)) part.text (AreTokens (at + length part.text) parts) tokens
    (part_long p begins_line part (text_of parts ++ []) a.0) h
    (λ more m. few_in_parts p parts (at + length part.text) (begins_line_after_part begins_line part) more a.1 m) in
    omega (arith, n, length-append part.text (text_of parts))

pub tokens_have_places : PartsAreExact → TokensHavePlaces
tokens_have_places p = record {
  of_tokens = of_tokens;
  of_end = of_end;
  of_fault = of_fault;
  in_order = λ bytes tokens l. ordered l.parts 0 tokens l.are_tokens;
  few = λ bytes tokens l. let n = few_in_parts p l.parts 0 true tokens l.are_parts l.are_tokens in omega (arith, n, ap length l.bytes_are);
}
