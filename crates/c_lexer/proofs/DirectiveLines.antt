-- The directive that the bytes after '#' are is read, exactly.
use Rattle.std.proofs.Common.{◌≡◌, ℕ, ◌+◌, Bool, true, false, List, [], ◌++◌, length, take, drop, codes, Option, Some, None, refl, sym, ap, subst}
use Rattle.std.proofs.Common.{◌∙◌, arith, append_assoc, append-nil, add-zero, length-append}
use Rattle.std.specs.List.{prefix_len}
use Rattle.std.specs.Str.{bytes_eq}
use Rattle.std.proofs.lemmas.Bool.{cond_both, cond-true}
use Rattle.std.proofs.lemmas.Bool.Decides.{nat_tests}
use Rattle.std.proofs.lemmas.Option.{same_Some}
use Rattle.std.proofs.lemmas.Slice.Eq.{bytes_eq-Decides}
use Rattle.std.proofs.Math.Seq.{drop-append_seam}
use Rattle.c_tokens.specs.declared.directive.Directive.{Directive}
use Rattle.c_tokens.specs.declared.directive.Directive.TheVariants.{Silent, Renumbers}
use Rattle.c_tokens.specs.Characters.{is_blank, is_digit, goes_on_in_name, begins, value_of_digits}
use Rattle.c_tokens.specs.Directives.{AreBlank, AreDigits, IsWordGap, Marker, IsMarker, word_text, name_text, flags_text, name_range, marker_text}
use Rattle.c_tokens.specs.Directives.{directive_of, may_change_layout, IsDirective, null, pragma, marker}
use Rattle.c_lexer.specs.DirectiveScan.{marker_at, line_at, silent_unless, directive_after, directive_in}
use Rattle.c_lexer.proofs.RunLengths.{run_read, no_run, run_taken, run_front, run_rest, begins_whole, begins_other}
use Rattle.c_lexer.proofs.MarkerEnds.{End, digit_no_blank, end_read, end_taken}
use Rattle.c_lexer.proofs.Markers.{After, Numbered, after_read, after_taken, after_no_digit, at_read, at_taken, line_read, line_taken}

-- ---- after the blanks that follow the '#'

front_read : (front text : List ℕ) → AreBlank front → begins is_blank text ≡ false → directive_in (front ++ text) ≡ directive_after (length front) text
unfolding directive_in
front_read front text blank stops =
    rw (run_read is_blank front text blank stops, drop-append_seam front text) refl

-- a word is read whole, where no byte of a name stands after it
pragma_read : (at : ℕ) (anything : List ℕ) → begins goes_on_in_name anything ≡ false → may_change_layout anything ≡ false
    → directive_after at (codes "pragma" ++ anything) ≡ Some Silent
pragma_read at anything stops plain =
    let word : directive_after at (codes "pragma" ++ anything) ≡ silent_unless (may_change_layout anything) = rw (no_run goes_on_in_name anything stops) refl in
    word ∙ ap silent_unless plain

line_word_read : (at : ℕ) (rest : List ℕ) → begins goes_on_in_name rest ≡ false → directive_after at (codes "line" ++ rest) ≡ line_at (at + 4) rest
line_word_read at rest stops = rw (no_run goes_on_in_name rest stops) refl

-- ---- markers are read

blank_no_name : (b : ℕ) → is_blank b ≡ true → goes_on_in_name b ≡ false
blank_no_name b h = grind (arith, nat_tests)

-- the word "line", where it stands, and the blanks after it
word_read : (worded : Bool) (at : ℕ) (middle digits rest : List ℕ) (flags : List (List ℕ × List ℕ)) → IsWordGap worded middle flags → AreDigits digits
    → directive_after at (word_text worded middle ++ (digits ++ rest)) ≡ marker_at worded (at + length (word_text worded middle)) (digits ++ rest)
word_read false at middle digits rest flags w d =
    cond-true (begins is_digit (digits ++ rest)) _ _ (begins_whole is_digit digits rest d.0) ∙ ap (λ n. marker_at false n (digits ++ rest)) (sym (add-zero at))
word_read true at middle digits rest flags w d =
    let text = digits ++ rest in
    let size : at + 4 + length middle ≡ at + length (word_text true middle) = omega arith in
    line_word_read at (middle ++ text) (begins_other is_blank goes_on_in_name (middle ++ text) blank_no_name (begins_whole is_blank middle text w.0.0))
    ∙ line_read (at + 4) middle text w.0 (begins_other is_digit is_blank text digit_no_blank (begins_whole is_digit digits rest d.0))
    ∙ ap (λ n. marker_at true n text) size

word_no_blank : (worded : Bool) (middle text : List ℕ) → begins is_blank text ≡ false → begins is_blank (word_text worded middle ++ text) ≡ false
word_no_blank false middle text h = h
word_no_blank true middle text h = refl

-- after the word "line" there are no flags
no_flags : (worded : Bool) (middle : List ℕ) (flags : List (List ℕ × List ℕ)) → IsWordGap worded middle flags → worded ≡ true → flags ≡ []
no_flags true middle flags w e = w.1
no_flags false middle flags w e = cc

-- the pieces of a marker, the first one first
pieces : (front word digits name flags back : List ℕ) → front ++ word ++ digits ++ name ++ flags ++ back
    ≡ front ++ (word ++ (digits ++ (name ++ (flags ++ back))))
pieces front word digits name flags back = simp append_assoc

-- where the number ends
number_end : (front word digits : List ℕ) → length front + length word + length digits ≡ length (front ++ word ++ digits)
number_end front word digits = omega (arith, length-append (front ++ word) digits, length-append front word)

marker_read : (m : Marker) → IsMarker m → directive_in (marker_text m) ≡ Some (directive_of m)
marker_read m is =
    let word = word_text m.worded m.middle in
    let tail = flags_text m.flags ++ m.back in
    let rest = name_text m.name ++ tail in
    let ends = end_read m.worded m.flags m.back (no_flags m.worded m.middle m.flags is.word) is.flags is.back in
    let stops = begins_other is_digit is_blank (m.digits ++ rest) digit_no_blank (begins_whole is_digit m.digits rest is.digits.0) in
    ap directive_in (pieces m.front word m.digits (name_text m.name) (flags_text m.flags) m.back)
    ∙ front_read m.front (word ++ (m.digits ++ rest)) is.front (word_no_blank m.worded m.middle (m.digits ++ rest) stops)
    ∙ word_read m.worded (length m.front) m.middle m.digits rest m.flags is.word is.digits
    ∙ at_read m.worded (length m.front + length word) m.digits rest is.digits is.small (after_no_digit m.worded m.name tail is.name ends)
    ∙ after_read m.worded (value_of_digits 10 m.digits) (length m.front + length word + length m.digits) m.name tail is.name ends
    ∙ ap (λ n. Some (Renumbers (value_of_digits 10 m.digits) (name_range n m.name))) (number_end m.front word m.digits)

pub directive_read : (content : List ℕ) (directive : Directive) → IsDirective content directive → directive_in content ≡ Some directive
directive_read content directive (null blank) = ap directive_in (sym (append-nil content)) ∙ front_read content [] blank refl
directive_read content directive (pragma front anything blank stops plain) =
    ap directive_in (append_assoc front (codes "pragma") anything)
    ∙ front_read front (codes "pragma" ++ anything) blank refl
    ∙ pragma_read (length front) anything stops plain
directive_read content directive (marker m is) = marker_read m is

-- ---- what is read is a directive

-- bytes that are the same, with what they say
same_line : (a b : List ℕ) (d e : Directive) → a ≡ b → e ≡ d → IsDirective a d → IsDirective b e
same_line a b d e p q h = subst (IsDirective b) (sym q) (subst (λ l. IsDirective l d) p h)

-- the blanks after the word "line", where it stands, and nothing elsewhere
abbrev IsMiddle : Bool → List ℕ → Type 0
IsMiddle worded middle = (flags : List (List ℕ × List ℕ)) → (worded ≡ true → flags ≡ []) → IsWordGap worded middle flags

-- a marker of the pieces that were read
marker_of_pieces : (front : List ℕ) (worded : Bool) (middle text : List ℕ) (at : ℕ) (d : Directive) → AreBlank front → IsMiddle worded middle → at
    ≡ length front + length (word_text worded middle) → (n : Numbered worded at text d)
    (b : After worded (value_of_digits 10 n.digits) (at + length n.digits) n.rest d) → End worded b.tail
    → IsDirective (front ++ (word_text worded middle ++ text)) d
marker_of_pieces front worded middle text at d blank gap place n b e =
    let word = word_text worded middle in
    let m : Marker = record { worded = worded; front = front; middle = middle; digits = n.digits; name = b.name; flags = e.flags.flags; back = e.flags.back } in
    let is : IsMarker m = record {
      front = blank;
      word = gap e.flags.flags e.bare;
      digits = n.each;
      small = n.small;
      name = b.named;
      flags =
          e.flags.each;
      back = e.flags.blank;
    } in
    let text_is : marker_text m ≡ front ++ (word ++ text) =
    pieces front word n.digits (name_text b.name) (flags_text e.flags.flags) e.flags.back
    ∙ ap (λ l. front ++ (word ++ (n.digits ++ (name_text b.name ++ l)))) (sym e.flags.is)
    ∙ ap (λ l. front ++ (word ++ (n.digits ++ l))) (sym b.is)
    ∙ ap (λ l. front ++ (word ++ l)) (sym n.is) in
    let size : at + length n.digits ≡ length (front ++ word ++ n.digits) = ap (λ k. k + length n.digits) place ∙ number_end front word n.digits in
    same_line (marker_text m) (front ++ (word ++ text)) (directive_of m) d text_is (b.says
    ∙ ap (λ k. Renumbers (value_of_digits 10 n.digits) (name_range k b.name)) size) (marker m is)

-- what is read from the number on is a marker
marker_taken : (front : List ℕ) (worded : Bool) (middle text : List ℕ) (at : ℕ) (d : Directive) → AreBlank front → IsMiddle worded middle → at
    ≡ length front + length (word_text worded middle) → marker_at worded at text ≡ Some d → IsDirective (front ++ (word_text worded middle ++ text)) d
marker_taken front worded middle text at d blank gap place h =
    let n = at_taken worded at text d h in
    let b = after_taken worded (value_of_digits 10 n.digits) (at + length n.digits) n.rest d n.after in
    marker_of_pieces front worded middle text at d blank gap place n b (end_taken worded b.tail b.ends)

-- a word, and what stands after it
record Word (word text : List ℕ) : Type 0 where
  rest : List ℕ
  is : text ≡ word ++ rest
  stops : begins goes_on_in_name rest ≡ false
  size : prefix_len goes_on_in_name text ≡ length word
  after : drop (prefix_len goes_on_in_name text) text ≡ rest

word_taken : (word text : List ℕ) → bytes_eq (take (prefix_len goes_on_in_name text) text) word ≡ true → Word word text
word_taken word text h =
    let r = run_taken goes_on_in_name text in
    let same : r.front ≡ word = sym (run_front goes_on_in_name text r) ∙ (bytes_eq-Decides _ word).0 h in
    record { rest = r.rest; is = r.is ∙ ap (λ l. l ++ r.rest) same; stops = r.stops; size = r.size ∙ ap length same; after = run_rest goes_on_in_name text r }

-- `#` alone
null_taken : (front text : List ℕ) (d : Directive) → AreBlank front → bytes_eq text [] ≡ true → Some Silent ≡ Some d → IsDirective (front ++ text) d
null_taken front text d blank e h =
    same_line front (front ++ text) Silent d (sym (append-nil front) ∙ ap (λ l. front ++ l) (sym ((bytes_eq-Decides text []).0 e)))
    (sym (same_Some Silent d h)) (null blank)

silent_taken : (changes : Bool) (d : Directive) → silent_unless changes ≡ Some d → (changes ≡ false) × (Silent ≡ d)
silent_taken false d h = (refl, same_Some Silent d h)
silent_taken true d h = cc

pragma_taken : (front text : List ℕ) (d : Directive) → AreBlank front → (w : Word (codes "pragma") text) → silent_unless (may_change_layout w.rest) ≡ Some d
    → IsDirective (front ++ text) d
pragma_taken front text d blank w h =
    let s = silent_taken (may_change_layout w.rest) d h in
    same_line (front ++ codes "pragma" ++ w.rest) (front ++ text) Silent d (append_assoc front (codes "pragma") w.rest
    ∙ ap (λ l. front ++ l) (sym w.is)) (sym s.1) (pragma front w.rest blank w.stops s.0)

line_word_taken : (front text : List ℕ) (d : Directive) → AreBlank front → (w : Word (codes "line") text) → line_at (length front + 4) w.rest ≡ Some d
    → IsDirective (front ++ text) d
line_word_taken front text d blank w h =
    let s = line_taken (length front + 4) w.rest d h in
    subst (λ l. IsDirective (front ++ l) d) (ap (λ l. codes "line" ++ l) (sym s.is) ∙ sym w.is)
    (marker_taken front true s.gap s.rest (length front + 4 + length s.gap) d blank (λ flags bare. (s.blank, bare refl)) (omega arith) s.after)

-- what is read after the blanks that follow the '#'
after_front_taken : (front text : List ℕ) (d : Directive) → AreBlank front → directive_after (length front) text ≡ Some d → IsDirective (front ++ text) d
after_front_taken front text d blank h =
    let at = length front in
    let n = prefix_len goes_on_in_name text in
    let P : Option Directive → Type 0 = λ o. o ≡ Some d → IsDirective (front ++ text) d in
    cond_both (begins is_digit text) (marker_at false at text) _ P
    (λ _ h. marker_taken front false [] text at d blank (λ flags bare. refl) (sym (add-zero at)) h)
    (λ _. cond_both (bytes_eq text []) (Some Silent) _ P (null_taken front text d blank)
    (λ _. cond_both (bytes_eq (take n text) (codes "pragma")) (silent_unless (may_change_layout (drop n text))) _ P
    (λ e h. let w = word_taken (codes "pragma") text e in pragma_taken front text d blank w (subst (λ l. silent_unless (may_change_layout l) ≡ Some d) w.after h))
    (λ _. cond_both (bytes_eq (take n text) (codes "line")) (line_at (at + n) (drop n text)) None P
    (λ e h. let w = word_taken (codes "line") text e in line_word_taken front text d blank w (rw (w.after, w.size) at h))
    (λ _ h. cc))))
    h

pub directive_taken : (content : List ℕ) (directive : Directive) → directive_in content ≡ Some directive → IsDirective content directive
directive_taken content directive h =
    let r = run_taken is_blank content in
    subst (λ l. IsDirective l directive) (sym r.is)
    (after_front_taken r.front r.rest directive r.each (sym (front_read r.front r.rest r.each r.stops) ∙ subst (λ l. directive_in l ≡ Some directive) r.is h))
