-- A line marker from its number on: what is read is a marker, exactly.
use Rattle.std.proofs.Common.{◌≡◌, ℕ, ◌+◌, ◌-◌, ◌<◌, ◌^◌, Bool, true, false, cond, List, [], ◌∷◌, ◌++◌, length, drop, Option, Some, None, refl, sym}
use Rattle.std.proofs.Common.{ap, subst, ◌∙◌, arith, append_assoc}
use Rattle.std.specs.List.{All}
use Rattle.std.specs.Prelude.{◌==◌, nat_lt, ◌&&◌}
use Rattle.std.proofs.lemmas.Bool.{and_parts, and_from, cond_both, cond-true, lt-ltb, ltb-true}
use Rattle.std.proofs.lemmas.List.Elements.{All-head}
use Rattle.std.proofs.lemmas.Option.{same_Some}
use Rattle.std.proofs.Math.Seq.{take-append_seam, drop-append_seam}
use Rattle.c_tokens.specs.declared.directive.Directive.{Directive}
use Rattle.c_tokens.specs.declared.directive.Directive.TheVariants.{Renumbers}
use Rattle.c_tokens.specs.declared.directive.NameRange.{NameRange}
use Rattle.c_tokens.specs.Characters.{is_blank, is_digit, begins, value_of_digits}
use Rattle.c_lexer.specs.NumberScan.{capped_value}
use Rattle.c_tokens.specs.Quoted.{IsInside}
use Rattle.c_tokens.specs.QuotedScan.{quoted_length}
use Rattle.c_tokens.specs.Directives.{AreBlank, AreDigits, IsGap, IsMarkerName, name_text, name_range}
use Rattle.c_lexer.specs.DirectiveScan.{is_marker_end, renumbers_if, named, marker_after, marker_at, line_at}
use Rattle.c_lexer.proofs.RunLengths.{run_read, run_taken, begins_whole, begins_front, begins_byte, drop_after}
use Rattle.c_lexer.proofs.Quotes.{quoted_read, quoted_taken, Closed}
use Rattle.c_lexer.proofs.Capped.{capped_value_is}
use Rattle.c_lexer.proofs.MarkerEnds.{IsBlank, IsDigit, blank_no_digit, end_no_name, end_no_digit}

-- ---- after the number

-- a name begins after the blanks
opened : (worded : Bool) (number at : ℕ) (gap after : List ℕ) → AreBlank gap → marker_after worded number at (gap ++ 34 ∷ after)
    ≡ named worded number (at + length gap + 1) after (quoted_length 34 false after)
opened worded number at gap after blank =
    rw (run_read is_blank gap (34 ∷ after) blank refl, drop-append_seam gap (34 ∷ after), drop_after gap after 34) refl

-- no name begins there
unopened : (worded : Bool) (number at : ℕ) (gap rest : List ℕ) → AreBlank gap → begins is_blank rest ≡ false → begins (λ b. b == 34) rest ≡ false
    → marker_after worded number at (gap ++ rest) ≡ renumbers_if (is_marker_end worded (gap ++ rest)) number None
unopened worded number at gap rest blank stops other =
    rw (run_read is_blank gap rest blank stops, drop-append_seam gap rest, other) refl

same_range : (number : ℕ) (from x y : ℕ) → x ≡ y → Some (Renumbers number (Some (record { from = from; to = x })))
    ≡ Some (Renumbers number (Some (record { from = from; to = y })))
same_range number from x y e = rw e refl

-- a name is read, with what stands after it
name_read : (worded : Bool) (number at : ℕ) (gap inner tail : List ℕ) → AreBlank gap → IsInside 34 false inner → is_marker_end worded tail ≡ true
    → marker_after worded number at (gap ++ 34 ∷ (inner ++ 34 ∷ tail)) ≡ Some (Renumbers number (name_range at (Some (gap, inner))))
name_read worded number at gap inner tail blank inside h =
    opened worded number at gap (inner ++ 34 ∷ tail) blank
    ∙ rw (quoted_read 34 false inner tail (λ e. omega arith) inside, drop_after inner tail 34, h) (same_range number (at + length gap + 1) _ _ (omega arith))

pub after_read : (worded : Bool) (number at : ℕ) (name : Option (List ℕ × List ℕ)) (tail : List ℕ) → IsMarkerName name → is_marker_end worded tail
    ≡ true → marker_after worded number at (name_text name ++ tail) ≡ Some (Renumbers number (name_range at name))
after_read worded number at None tail is h = rw (end_no_name worded tail h, h) refl
after_read worded number at (Some name) tail is h =
    let e : name.0 ++ 34 ∷ name.1 ++ 34 ∷ [] ++ tail ≡ name.0 ++ 34 ∷ (name.1 ++ 34 ∷ tail) = simp append_assoc in
    ap (marker_after worded number at) e ∙ name_read worded number at name.0 name.1 tail is.0 is.1 h

-- the name, and what stands after it
pub record After (worded : Bool) (number at : ℕ) (text : List ℕ) (d : Directive) : Type 0 where
  pub name : Option (List ℕ × List ℕ)
  pub tail : List ℕ
  pub is : text ≡ name_text name ++ tail
  pub named : IsMarkerName name
  pub ends : is_marker_end worded tail ≡ true
  pub says : d ≡ Renumbers number (name_range at name)

-- what was asked for, and what was answered
renumbered : (c : Bool) (number : ℕ) (name : Option NameRange) (d : Directive) → renumbers_if c number name ≡ Some d → (c ≡ true) × (d ≡ Renumbers number name)
renumbered true number name d h = (refl, sym (same_Some (Renumbers number name) d h))
renumbered false number name d h = cc

closed_name : (worded : Bool) (number at : ℕ) (gap after : List ℕ) (d : Directive) (size : ℕ) → AreBlank gap → Closed 34 false after size
    → named worded number (at + length gap + 1) after (Some size) ≡ Some d → After worded number at (gap ++ 34 ∷ after) d
closed_name worded number at gap after d size blank c h =
    let q = renumbered _ number _ d h in
    let rest : drop size after ≡ c.rest = rw (c.is, c.size) (drop_after c.body c.rest 34) in
    let to : at + length gap + 1 + size - 1 ≡ at + length gap + 1 + length c.body = let e = c.size in omega (arith, e) in
    record {
      name = Some (gap, c.body);
      tail = c.rest;
      is = rw c.is (simp append_assoc);
      named = (blank, c.inside);
      ends = rw rest at q.0;
      says = q.1 ∙ ap (λ n. Renumbers number (Some (record { from = at + length gap + 1; to = n }))) to;
    }

some_name : (worded : Bool) (number at : ℕ) (gap after : List ℕ) (d : Directive) → AreBlank gap
    → named worded number (at + length gap + 1) after (quoted_length 34 false after) ≡ Some d → After worded number at (gap ++ 34 ∷ after) d
some_name worded number at gap after d blank =
    let P : Option ℕ → Type 0 = λ o. quoted_length 34 false after ≡ o → named worded number (at + length gap + 1) after o ≡ Some d
    → After worded number at (gap ++ 34 ∷ after) d in
    let none : P None = λ e h. cc in
    let some : (size : ℕ) → P (Some size) = λ size e h. closed_name worded number at gap after d size blank (quoted_taken 34 false after size e) h in
    let each : (o : Option ℕ) → P o = λ o. elim o as P [ None ↦ none | Some size ↦ some size ] in
    each (quoted_length 34 false after) refl

split_taken : (worded : Bool) (number at : ℕ) (gap rest : List ℕ) (d : Directive) → AreBlank gap → begins is_blank rest ≡ false
    → marker_after worded number at (gap ++ rest) ≡ Some d → After worded number at (gap ++ rest) d
split_taken worded number at gap rest d blank stops h =
    let P : Bool → Type 0 = λ c. begins (λ b. b == 34) rest ≡ c → After worded number at (gap ++ rest) d in
    let quote : P true = λ e.
    let b = begins_byte 34 rest e in
    subst (λ l. After worded number at (gap ++ l) d) (sym b.1)
    (some_name worded number at gap b.0 d blank (sym (opened worded number at gap b.0 blank)
    ∙ subst (λ l. marker_after worded number at (gap ++ l) ≡ Some d) b.1 h)) in
    let other : P false = λ e.
    let q = renumbered _ number None d (sym (unopened worded number at gap rest blank stops e) ∙ h) in
    record { name = None; tail = gap ++ rest; is = refl; named = tt; ends = q.0; says = q.1 } in
    let each : (c : Bool) → P c = λ c. elim c as P [ true ↦ quote | false ↦ other ] in
    each (begins (λ b. b == 34) rest) refl

pub after_taken : (worded : Bool) (number at : ℕ) (text : List ℕ) (d : Directive) → marker_after worded number at text ≡ Some d → After worded number at text d
after_taken worded number at text d h =
    let r = run_taken is_blank text in
    subst (λ l. After worded number at l d) (sym r.is) (split_taken worded number at r.front r.rest d r.each r.stops
    (subst (λ l. marker_after worded number at l ≡ Some d) r.is h))

-- ---- the number

-- what stands after a number does not go on in it
pub after_no_digit : (worded : Bool) (name : Option (List ℕ × List ℕ)) (tail : List ℕ) → IsMarkerName name → is_marker_end worded tail ≡ true
    → begins is_digit (name_text name ++ tail) ≡ false
after_no_digit worded None tail is h = end_no_digit worded tail h
after_no_digit worded (Some ([], inner)) tail is h = refl
after_no_digit worded (Some (b ∷ gap, inner)) tail is h = blank_no_digit b (All-head IsBlank b gap is.0)

small_number : (digits : List ℕ) → value_of_digits 10 digits < 2 ^ 31 → capped_value 10 digits ≡ value_of_digits 10 digits
small_number digits h = let e = capped_value_is 10 digits (omega arith) in omega (arith, e)

number_small : (digits : List ℕ) → capped_value 10 digits < 2 ^ 31 → value_of_digits 10 digits < 2 ^ 31
number_small digits h = let e = capped_value_is 10 digits (omega arith) in omega (arith, e)

-- from a number on, by its digits
numbered : (worded : Bool) (at : ℕ) (digits rest : List ℕ) → All IsDigit digits → begins is_digit rest ≡ false → marker_at worded at (digits ++ rest)
    ≡ cond (begins is_digit (digits ++ rest) && nat_lt (capped_value 10 digits) (2 ^ 31))
    (marker_after worded (capped_value 10 digits) (at + length digits) rest) None
numbered worded at digits rest each stops =
    rw (run_read is_digit digits rest each stops, take-append_seam digits rest, drop-append_seam digits rest) refl

pub at_read : (worded : Bool) (at : ℕ) (digits rest : List ℕ) → AreDigits digits → value_of_digits 10 digits < 2 ^ 31 → begins is_digit rest ≡ false
    → marker_at worded at (digits ++ rest) ≡ marker_after worded (value_of_digits 10 digits) (at + length digits) rest
at_read worded at digits rest d small stops =
    numbered worded at digits rest d.1 stops
    ∙ rw (small_number digits small) (cond-true _ _ _ (and_from _ _ (begins_whole is_digit digits rest d.0) (lt-ltb _ _ small)))

-- the number, and what was read after it
pub record Numbered (worded : Bool) (at : ℕ) (text : List ℕ) (d : Directive) : Type 0 where
  pub digits : List ℕ
  pub rest : List ℕ
  pub is : text ≡ digits ++ rest
  pub each : AreDigits digits
  pub small : value_of_digits 10 digits < 2 ^ 31
  pub after : marker_after worded (value_of_digits 10 digits) (at + length digits) rest ≡ Some d

pub at_taken : (worded : Bool) (at : ℕ) (text : List ℕ) (d : Directive) → marker_at worded at text ≡ Some d → Numbered worded at text d
at_taken worded at text d h =
    let r = run_taken is_digit text in
    let found = sym (numbered worded at r.front r.rest r.each r.stops) ∙ subst (λ l. marker_at worded at l ≡ Some d) r.is h in
    cond_both _ _ _ (λ o. o ≡ Some d → Numbered worded at text d)
    (λ c h.
    let a = and_parts _ _ c in
    let small = number_small r.front (ltb-true _ _ a.1) in
    record {
      digits = r.front;
      rest = r.rest;
      is = r.is;
      each = (begins_front is_digit r.front r.rest a.0 r.stops, r.each);
      small = small;
      after =
          subst (λ n. marker_after worded n (at + length r.front) r.rest ≡ Some d) (small_number r.front small) h;
    })
    (λ c h. cc)
    found

-- ---- after the word "line"

pub line_read : (at : ℕ) (gap rest : List ℕ) → IsGap gap → begins is_blank rest ≡ false → line_at at (gap ++ rest) ≡ marker_at true (at + length gap) rest
line_read at gap rest g stops =
    rw (begins_whole is_blank gap rest g.0, run_read is_blank gap rest g.1 stops, drop-append_seam gap rest) refl

-- the blanks, and what was read after them
pub record Spaced (at : ℕ) (text : List ℕ) (d : Directive) : Type 0 where
  pub gap : List ℕ
  pub rest : List ℕ
  pub is : text ≡ gap ++ rest
  pub blank : IsGap gap
  pub after : marker_at true (at + length gap) rest ≡ Some d

pub line_taken : (at : ℕ) (text : List ℕ) (d : Directive) → line_at at text ≡ Some d → Spaced at text d
line_taken at text d h =
    let r = run_taken is_blank text in
    let found = subst (λ l. line_at at l ≡ Some d) r.is h in
    cond_both (begins is_blank (r.front ++ r.rest)) _ None (λ o. o ≡ Some d → Spaced at text d)
    (λ c _.
    let gap : IsGap r.front = (begins_front is_blank r.front r.rest c r.stops, r.each) in
    record { gap = r.front; rest = r.rest; is = r.is; blank = gap; after = sym (line_read at r.front r.rest gap r.stops) ∙ found })
    (λ c h. cc)
    found
