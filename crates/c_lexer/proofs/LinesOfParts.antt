-- What is presumed of a place, read from the left, is what the relation says.
use Rattle.std.proofs.Common.{◌≡◌, ◌≤◌, ◌<◌, ℕ, zero, suc, ◌+◌, ◌-◌, ◌^◌, Bool, true, false, List, [], ◌∷◌, ◌++◌, fold, take, drop, length, Option}
use Rattle.std.proofs.Common.{Some, None, Ok, Err, refl, ap, sym, subst, ◌∙◌, arith, cond, append-nil, length-append}
use Rattle.std.proofs.Math.Seq.{take-append_seam, drop-append_seam, take-append-add}
use Rattle.std.proofs.lemmas.List.{drop-take, take-append-drop}
use Rattle.c_tokens.specs.declared.directive.Directive.{Directive}
use Rattle.c_tokens.specs.declared.directive.Directive.TheVariants.{Silent, Renumbers}
use Rattle.c_tokens.specs.declared.part.PartKind.{PartKind}
use Rattle.c_tokens.specs.declared.part.PartKind.TheVariants as P
use Rattle.c_tokens.specs.declared.presumed.Lines.{Lines}
use Rattle.c_tokens.specs.declared.directive.NameRange.{NameRange}
use Rattle.c_tokens.specs.declared.fault.FaultKind.{FaultKind}
use Rattle.c_tokens.specs.declared.token.Token.{Token}
use Rattle.c_tokens.specs.Characters.{is_line_feed, value_of_digits}
use Rattle.c_tokens.specs.Directives.{name_text, flags_text, word_text, name_range, IsDirective, null, pragma, marker}
use Rattle.c_lexer.specs.DirectiveScan.{directive_in}
use Rattle.c_tokens.specs.Parts.{Part, text_of, Stands, AreParts, begins_line_after_part}
use Rattle.c_tokens.specs.Lexes.{Lexes}
use Rattle.c_lexer.specs.Scanning.{part_at, begins_line_after_kind}
use Rattle.c_tokens.specs.Presuming.{first_lines, after_byte, after_directive, Moves, Presumes, IsPresumed}
use Rattle.c_lexer.specs.PresumingScan.{with_directive, after_part, after_parts, last_line, AreSmall, LeadsOn, IsRead}
use Rattle.c_tokens.specs.declared.presumed.Presumed.{Presumed}
use Rattle.std.proofs.Props.{props}
use Rattle.std.proofs.Math.Logic.{∥∥₁_elim, ∥∥₁_map}
use Rattle.c_lexer.proofs.DirectiveLines.{directive_read, directive_taken}
use Rattle.c_lexer.proofs.Exactness.{PartsAreExact}
use Rattle.c_lexer.proofs.WholeTexts.{line_after, part_long}
use Rattle.c_lexer.proofs.OneReading.{same_answer}
use Rattle.c_lexer.proofs.FrontTexts.{stands_before}

-- ---- the relation and the function

moves_read : (at : ℕ) (begins_line : Bool) (kind : PartKind) (text rest : List ℕ) (lines : Lines) → Stands begins_line kind text rest
    → Moves at kind text lines (after_part at kind text lines)
moves_read at begins_line P.Directive text rest lines s = (s.0, s.1, s.2, s.6, rw s.2 (ap (λ o. with_directive at o lines) (directive_read s.0 s.1 s.6)))
moves_read at begins_line P.White text rest lines s = refl
moves_read at begins_line P.Comment text rest lines s = refl
moves_read at begins_line P.LineComment text rest lines s = refl
moves_read at begins_line (P.Word shape) text rest lines s = refl

pub presumes_read : (parts : List Part) (at : ℕ) (begins_line : Bool) (lines : Lines) → AreParts begins_line parts []
    → Presumes at parts lines (after_parts at parts lines)
presumes_read [] at begins_line lines a = refl
presumes_read (part ∷ parts) at begins_line lines a =
    let after = after_part at part.kind part.text lines in (
      after,
      moves_read at begins_line part.kind part.text (text_of parts ++ []) lines a.0,
      presumes_read parts (at + length part.text) (begins_line_after_part begins_line part) after a.1,
    )

-- ---- what a directive says is small

-- the number is below the limit, and the name is among so many bytes
abbrev pub FitsIn : ℕ → Directive → Type 0
FitsIn n Silent = Unit {0}
FitsIn n (Renumbers number None) = number ≤ 2147483647
FitsIn n (Renumbers number (Some name)) = (number ≤ 2147483647) × (name.from ≤ n) × (name.to ≤ n)

name_fits : (number place total : ℕ) (name : Option (List ℕ × List ℕ)) → number < 2 ^ 31 → place + length (name_text name) ≤ total
    → FitsIn total (Renumbers number (name_range place name))
name_fits number place total None small h = omega arith
name_fits number place total (Some name) small h =
    let size = length-append (name.0 ++ 34 ∷ name.1) (34 ∷ []) in
    let front = length-append name.0 (34 ∷ name.1) in
    (omega arith, omega arith, omega arith)

directive_is_small : (content : List ℕ) (directive : Directive) → IsDirective content directive → FitsIn (length content) directive
directive_is_small content directive (null blank) = tt
directive_is_small content directive (pragma front anything blank stops plain) = tt
directive_is_small content directive (marker m is) =
    let front = m.front ++ word_text m.worded m.middle ++ m.digits in
    name_fits (value_of_digits 10 m.digits) (length front) _ m.name is.small
    (omega (
      arith,
      length-append (front ++ name_text m.name ++ flags_text m.flags) m.back,
      length-append (front ++ name_text m.name) (flags_text m.flags),
      length-append front (name_text m.name),
    ))

pub directive_fits : (content : List ℕ) (directive : Directive) → directive_in content ≡ Some directive → FitsIn (length content) directive
directive_fits content directive h = directive_is_small content directive (directive_taken content directive h)

-- the name is among the bytes after '#'
pub name_within : (content : List ℕ) (directive : Directive) (number : ℕ) (found : Option NameRange) (name : NameRange) → Some directive
    ≡ directive_in content → directive ≡ Renumbers number found → found ≡ Some name → (name.from ≤ length content) × (name.to ≤ length content)
name_within content directive number found name e d f =
    let fits : FitsIn (length content) (Renumbers number (Some name)) = directive_fits content _ (sym e ∙ ap Some (d ∙ ap (Renumbers number) f)) in
    (fits.1, fits.2)

-- ---- lines are small

byte_small : (limit : ℕ) (lines : Lines) (b : ℕ) → AreSmall limit lines → AreSmall (limit + 1) (after_byte lines b)
byte_small limit lines b s = each (is_line_feed b)
  where
    each : (c : Bool) → AreSmall (limit + 1) (cond c (record { here = lines.next; next = record lines.next { line = lines.next.line + 1 } }) lines)
    each true = record { here = omega arith; next = omega arith }
    each false = record { here = omega arith; next = omega arith }

bytes_small : (text : List ℕ) (limit : ℕ) (lines : Lines) → AreSmall limit lines → AreSmall (limit + length text) (fold after_byte lines text)
bytes_small [] limit lines s = record { here = omega arith; next = omega arith }
bytes_small (b ∷ text) limit lines s =
    let more = bytes_small text (limit + 1) (after_byte lines b) (byte_small limit lines b s) in
    record { here = omega (arith, more.here); next = omega (arith, more.next) }

directive_small : (at n limit : ℕ) (directive : Directive) (lines : Lines) → FitsIn n directive → 2147483647 ≤ limit → AreSmall limit lines
    → AreSmall limit (after_directive at directive lines)
directive_small at n limit Silent lines f l s = s
directive_small at n limit (Renumbers number None) lines f l s = record { here = s.here; next = omega arith }
directive_small at n limit (Renumbers number (Some name)) lines f l s = record { here = s.here; next = omega (arith, f.0) }

found_small : (at limit : ℕ) (content : List ℕ) (lines : Lines) (found : Option Directive) → directive_in content ≡ found → 2147483647 ≤ limit
    → AreSmall limit lines → AreSmall limit (with_directive at found lines)
found_small at limit content lines None e l s = s
found_small at limit content lines (Some directive) e l s = directive_small at (length content) limit directive lines (directive_fits content directive e) l s

higher : (limit more : ℕ) (lines : Lines) → limit ≤ more → AreSmall limit lines → AreSmall more lines
higher limit more lines h s = record { here = omega arith; next = omega arith }

part_small : (at limit : ℕ) (kind : PartKind) (text : List ℕ) (lines : Lines) → 2147483647 ≤ limit → AreSmall limit lines
    → AreSmall (limit + length text) (after_part at kind text lines)
part_small at limit P.Directive [] lines l s = higher limit _ lines (omega arith) s
part_small at limit P.Directive (b ∷ content) lines l s = higher limit _ _ (omega arith) (found_small at limit content lines (directive_in content) refl l s)
part_small at limit P.White text lines l s = bytes_small text limit lines s
part_small at limit P.Comment text lines l s = bytes_small text limit lines s
part_small at limit P.LineComment text lines l s = bytes_small text limit lines s
part_small at limit (P.Word shape) text lines l s = bytes_small text limit lines s

-- ---- steps of the loop over the parts before the place

pub leads_begins : (whole : List ℕ) (tokens : List Token) (l : Lexes whole tokens) → LeadsOn (λ line. line ≡ last_line whole tokens l) 0 true whole first_lines
leads_begins whole tokens l = record {
  parts = l.parts;
  is = l.bytes_are;
  are_parts = l.are_parts;
  leads = refl;
  small =
      record { here = omega arith; next = omega arith };
}

pub presumed_from : (whole : List ℕ) (tokens : List Token) (l : Lexes whole tokens) (line : Presumed) → line ≡ last_line whole tokens l → IsPresumed whole line
presumed_from whole tokens l line e =
    record {
      parts = l.parts;
      last = after_parts 0 l.parts first_lines;
      bytes_are = l.bytes_are;
      are_parts = l.are_parts;
      presumes =
          presumes_read l.parts 0 true first_lines l.are_parts;
      here = e;
    }

-- after the first part of the rest
leads_after : (p : PartsAreExact) (Ends : Presumed → Type 0) (at : ℕ) (begins_line : Bool) (lines : Lines) (part : Part) (parts : List Part)
    → AreParts begins_line (part ∷ parts) [] → Ends (after_parts at (part ∷ parts) lines).here → AreSmall (2147483647 + at) lines
    → LeadsOn Ends (at + length part.text) (begins_line_after_kind begins_line part.kind part.text) (text_of parts) (after_part at part.kind part.text lines)
leads_after p Ends at begins_line lines part parts a leads small = record {
  parts = parts;
  is = refl;
  are_parts = rw (line_after begins_line part.kind part.text (text_of parts ++ []) a.0) a.1;
  leads = leads;
  small = higher (2147483647 + at + length part.text) _ _ (omega arith) (part_small at (2147483647 + at) part.kind part.text lines (omega arith) small);
}

-- the part that is read is that first part
leads_over : (p : PartsAreExact) (Ends : Presumed → Type 0) (at : ℕ) (begins_line : Bool) (rest : List ℕ) (lines : Lines) (parts : List Part) → rest
    ≡ text_of parts → AreParts begins_line parts [] → Ends (after_parts at parts lines).here → AreSmall (2147483647 + at) lines
    → (kind : PartKind) (size : ℕ) → part_at begins_line rest ≡ Ok (kind, size) → 0 < length rest
    → LeadsOn Ends (at + size) (begins_line_after_kind begins_line kind (take size rest)) (drop size rest) (after_part at kind (take size rest) lines)
leads_over p Ends at begins_line rest lines [] is a leads small kind size e h = absurd (omega (arith, ap length is))
leads_over p Ends at begins_line rest lines (part ∷ parts) is a leads small kind size e h =
    let more = text_of parts in
    let read = ap (part_at begins_line) (is ∙ ap (λ l. part.text ++ l) (sym (append-nil more)))
    ∙ p.part_read begins_line part.kind part.text (more ++ []) a.0 in
    let pairs = same_answer _ (kind, size) (part.kind, length part.text) e read in
    let kinds : kind ≡ part.kind = ap (λ z. z.0) pairs in
    let sizes : size ≡ length part.text = ap (λ z. z.1) pairs in
    let front : take (length part.text) rest ≡ part.text = ap (take (length part.text)) is ∙ take-append_seam part.text more in
    let back : drop (length part.text) rest ≡ more = ap (drop (length part.text)) is ∙ drop-append_seam part.text more in
    rw (kinds, sizes, front, back) (leads_after p Ends at begins_line lines part parts a leads small)

pub leads_more : (p : PartsAreExact) (Ends : Presumed → Type 0) (at : ℕ) (begins_line : Bool) (rest : List ℕ) (lines : Lines) (kind : PartKind)
    (size : ℕ) → part_at begins_line rest ≡ Ok (kind, size) → 0 < length rest → LeadsOn Ends at begins_line rest lines
    → LeadsOn Ends (at + size) (begins_line_after_kind begins_line kind (take size rest)) (drop size rest) (after_part at kind (take size rest) lines)
leads_more p Ends at begins_line rest lines kind size e h l = leads_over p Ends at begins_line rest lines l.parts l.is l.are_parts l.leads l.small kind size e h

parts_are_read : (p : PartsAreExact) (begins_line : Bool) (parts : List Part) (fault : FaultKind) → AreParts begins_line parts []
    → 0 < length (text_of parts) → part_at begins_line (text_of parts) ≡ Err fault → ⊥
parts_are_read p begins_line [] fault a h e = absurd (omega arith)
parts_are_read p begins_line (part ∷ parts) fault a h e =
    let read = ap (λ l. part_at begins_line (part.text ++ l)) (sym (append-nil (text_of parts)))
    ∙ p.part_read begins_line part.kind part.text (text_of parts ++ []) a.0 in
    cc

pub leads_never : (p : PartsAreExact) (Ends : Presumed → Type 0) (at : ℕ) (begins_line : Bool) (rest : List ℕ) (lines : Lines) (fault : FaultKind)
    → part_at begins_line rest ≡ Err fault → 0 < length rest → LeadsOn Ends at begins_line rest lines → ⊥
leads_never p Ends at begins_line rest lines fault e h l = parts_are_read p begins_line l.parts fault l.are_parts (rw l.is at h) (rw l.is at e)

no_parts : (p : PartsAreExact) (at : ℕ) (begins_line : Bool) (parts : List Part) (lines : Lines) → AreParts begins_line parts []
    → length (text_of parts) ≡ 0 → after_parts at parts lines ≡ lines
no_parts p at begins_line [] lines a h = refl
no_parts p at begins_line (part ∷ parts) lines a h = absurd (omega
    (arith, length-append part.text (text_of parts), part_long p begins_line part (text_of parts ++ []) a.0))

pub leads_ends : (p : PartsAreExact) (Ends : Presumed → Type 0) (at : ℕ) (begins_line : Bool) (rest : List ℕ) (lines : Lines) → length rest ≡ 0
    → LeadsOn Ends at begins_line rest lines → Ends lines.here
leads_ends p Ends at begins_line rest lines h l = subst (λ x. Ends x.here) (no_parts p at begins_line l.parts lines l.are_parts (rw l.is at h)) l.leads

-- ---- how far a text was read

take_all : (at : ℕ) (bytes : List ℕ) → take (at - 0) (drop 0 bytes) ≡ take at bytes
take_all at bytes = ap (λ n. take n bytes) (omega arith)

pub read_begins : (bytes : List ℕ) (lines : Lines) → lines ≡ first_lines → IsRead bytes (record { from = 0; begins_line = true; lines = lines })
read_begins bytes lines e at low high t = ∣ rw (e, take_all at bytes) (leads_begins (take at bytes) t.0 t.1) ∣₁

next : (n m : ℕ) → suc (n + m) ≡ suc n + m
next n m = omega arith

drop_none : (m : ℕ) → drop {A = ℕ} m [] ≡ []
drop_none zero = refl
drop_none (suc m) = refl

drop_drop : (n m : ℕ) (bytes : List ℕ) → drop m (drop n bytes) ≡ drop (n + m) bytes
drop_drop zero m bytes = ap (λ n. drop n bytes) (omega arith)
drop_drop (suc n) m [] = drop_none m ∙ sym (drop_none (suc n + m))
drop_drop (suc n) m (b ∷ bytes) = drop_drop n m bytes ∙ ap (λ k. drop k (b ∷ bytes)) (next n m)

take_take : (n m : ℕ) (bytes : List ℕ) → n ≤ m → take n (take m bytes) ≡ take n bytes
take_take zero m bytes h = refl
take_take (suc n) zero bytes h = absurd (omega (arith, h))
take_take (suc n) (suc m) [] h = refl
take_take (suc n) (suc m) (b ∷ bytes) h = ap (λ l. b ∷ l) (take_take n m bytes (omega (arith, h)))

-- a front of a text, after its first bytes
cut_after : (at from size : ℕ) (bytes : List ℕ) → from + size ≤ at → drop size (take (at - from) (drop from bytes))
    ≡ take (at - (from + size)) (drop (from + size) bytes)
cut_after at from size bytes h = ap (λ n. drop size (take n (drop from bytes))) (omega (arith, h))
    ∙ drop-take size (at - (from + size)) (drop from bytes) ∙ ap (take (at - (from + size))) (drop_drop from size bytes)

-- the part at the front of the rest is the part at the front of any cut of it that is as long
part_in_front : (p : PartsAreExact) (begins_line : Bool) (rest : List ℕ) (n size : ℕ) (kind : PartKind) → size ≤ n → part_at begins_line rest
    ≡ Ok (kind, size) → part_at begins_line (take n rest) ≡ Ok (kind, size)
part_in_front p begins_line rest n size kind h e =
    let k = p.part_taken begins_line rest kind size e in
    let text = k.0 in
    let after = k.1 in
    let more = take (n - size) after in
    let longer : n ≡ length text + (n - size) = omega (arith, h, k.3) in
    let cut : take n rest ≡ text ++ more = ap (λ m. take m rest) longer ∙ ap (take (length text + (n - size))) k.2 ∙ take-append-add text after (n - size) in
    let whole = subst (Stands begins_line kind text) (sym (take-append-drop (n - size) after)) k.5 in
    let stands = stands_before begins_line kind text more (drop (n - size) after) whole in
    ap (part_at begins_line) cut ∙ p.part_read begins_line kind text more stands ∙ ap (λ m. Ok (kind, m)) (sym k.3)

more_of_cut : (p : PartsAreExact) (Ends : Presumed → Type 0) (bytes : List ℕ) (from : ℕ) (begins_line : Bool) (lines : Lines) (kind : PartKind)
    (size at : ℕ) → part_at begins_line (drop from bytes) ≡ Ok (kind, size) → from + size ≤ at
    → LeadsOn Ends from begins_line (take (at - from) (drop from bytes)) lines
    → LeadsOn Ends (from + size) (begins_line_after_kind begins_line kind (take size (drop from bytes)))
    (take (at - (from + size)) (drop (from + size) bytes)) (after_part from kind (take size (drop from bytes)) lines)
more_of_cut p Ends bytes from begins_line lines kind size at e low l =
    let rest = take (at - from) (drop from bytes) in
    let long : 0 < size = (p.part_taken begins_line (drop from bytes) kind size e).4 in
    let read : part_at begins_line rest ≡ Ok (kind, size) = part_in_front p begins_line (drop from bytes) (at - from) size kind (omega (arith, low)) e in
    let some : 0 < length rest = let s = (p.part_taken begins_line rest kind size read) in omega (arith, long, s.3, ap length s.2, length-append s.0 s.1) in
    let next = leads_more p Ends from begins_line rest lines kind size read some l in
    let same : take size rest ≡ take size (drop from bytes) = take_take size (at - from) (drop from bytes) (omega (arith, low)) in
    rw (← cut_after at from size bytes low, ← same) next

-- after the next part of the text
pub read_more : (p : PartsAreExact) (bytes : List ℕ) (from : ℕ) (begins_line : Bool) (lines : Lines) (kind : PartKind) (size : ℕ)
    → part_at begins_line (drop from bytes) ≡ Ok (kind, size) → IsRead bytes (record { from = from; begins_line = begins_line; lines = lines })
    → IsRead bytes (record {
      from = from + size;
      begins_line = begins_line_after_kind begins_line kind (take size (drop from bytes));
      lines =
          after_part from kind (take size (drop from bytes)) lines;
    })
read_more p bytes from begins_line lines kind size e r at low high t =
    ∥∥₁_map (r at (omega (arith, low)) high t) (λ l. more_of_cut p (λ line. line
    ≡ last_line (take at bytes) t.0 t.1) bytes from begins_line lines kind size at e low l)

-- the bytes from one place up to another
pub between_places : (from at : ℕ) (bytes : List ℕ) → from ≤ at → drop from (take at bytes) ≡ take (at - from) (drop from bytes)
between_places from at bytes h = ap (λ n. drop from (take n bytes)) (omega (arith, h)) ∙ drop-take from (at - from) bytes

-- ---- what every reading of the rest says

le_once : (a b : ℕ) → IsProp (a ≤ b)
le_once a b = hlevel props

equal_once : (a b : ℕ) → IsProp (a ≡ b)
equal_once a b = hlevel props

never_once : IsProp ⊥
never_once = hlevel

abbrev line_with : ℕ → ℕ → ℕ → Presumed
line_with from to line = record { from = from; to = to; line = line }

same_line : (a b : Presumed) → a.from ≡ b.from → a.to ≡ b.to → a.line ≡ b.line → a ≡ b
same_line a b f t n = ap (λ x. line_with x a.to a.line) f ∙ ap (λ x. line_with b.from x a.line) t ∙ ap (line_with b.from b.to) n

pub cut_small : (Ends : Presumed → Type 0) (at : ℕ) (begins_line : Bool) (rest : List ℕ) (lines : Lines) → ∥ LeadsOn Ends at begins_line rest lines ∥₁
    → lines.next.line ≤ 2147483647 + at
cut_small Ends at begins_line rest lines l = ∥∥₁_elim l (le_once lines.next.line (2147483647 + at)) (λ l. l.small.next)

pub cut_never : (p : PartsAreExact) (Ends : Presumed → Type 0) (at : ℕ) (begins_line : Bool) (rest : List ℕ) (lines : Lines) (fault : FaultKind)
    → part_at begins_line rest ≡ Err fault → 0 < length rest → ∥ LeadsOn Ends at begins_line rest lines ∥₁ → ⊥
cut_never p Ends at begins_line rest lines fault e h l = ∥∥₁_elim l never_once (leads_never p Ends at begins_line rest lines fault e h)

pub cut_ends : (p : PartsAreExact) (line : Presumed) (at : ℕ) (begins_line : Bool) (rest : List ℕ) (lines : Lines) → length rest ≡ 0
    → ∥ LeadsOn (λ x. x ≡ line) at begins_line rest lines ∥₁ → lines.here ≡ line
cut_ends p line at begins_line rest lines h l =
    let ends = leads_ends p (λ x. x ≡ line) at begins_line rest lines h in
    same_line lines.here line
    (∥∥₁_elim l (equal_once lines.here.from line.from) (λ l. ap (λ x. x.from) (ends l)))
    (∥∥₁_elim l (equal_once lines.here.to line.to) (λ l. ap (λ x. x.to) (ends l)))
    (∥∥₁_elim l (equal_once lines.here.line line.line) (λ l. ap (λ x. x.line) (ends l)))
