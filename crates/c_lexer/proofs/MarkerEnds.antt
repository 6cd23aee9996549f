-- What stands after the number and the name of a line marker: flags and blanks, exactly.
use Rattle.std.proofs.Common.{◌≡◌, ℕ, ◌+◌, Bool, true, false, cond, IsTrue, ◌&&◌, List, [], ◌∷◌, ◌++◌, drop, refl, sym, ap, subst, ◌∙◌, one-add}
use Rattle.std.proofs.Common.{arith, append_assoc}
use Rattle.std.specs.List.{All, list_all, prefix_len}
use Rattle.std.specs.Prelude.{◌==◌}
use Rattle.std.proofs.lemmas.Bool.{and_parts, cond_both}
use Rattle.std.proofs.lemmas.Bool.Decides.{nat_tests}
use Rattle.std.proofs.lemmas.List.Elements.{All-nil, All-cons, All-head, All-tail}
use Rattle.std.proofs.lemmas.List.Sums.{AllPass-from_list_all, list_all-from_AllPass}
use Rattle.c_tokens.specs.Characters.{is_blank, is_digit, begins}
use Rattle.c_tokens.specs.Directives.{AreBlank, AreDigits, IsGap, flags_text}
use Rattle.c_lexer.specs.DirectiveScan.{are_flags, is_marker_end}

abbrev pub IsBlank : ℕ → Type 0
IsBlank b = IsTrue (is_blank b)

abbrev pub IsDigit : ℕ → Type 0
IsDigit b = IsTrue (is_digit b)

abbrev pub IsFlag : List ℕ × List ℕ → Type 0
IsFlag flag = IsGap flag.0 × AreDigits flag.1

pub digit_no_blank : (b : ℕ) → is_digit b ≡ true → is_blank b ≡ false
digit_no_blank b h = grind (arith, nat_tests)

pub blank_no_digit : (b : ℕ) → is_blank b ≡ true → is_digit b ≡ false
blank_no_digit b h = grind (arith, nat_tests)

-- ---- flags are read

blanks_read : (bytes text : List ℕ) → AreBlank bytes → are_flags true (bytes ++ text) ≡ are_flags true text
blanks_read [] text each = refl
blanks_read (b ∷ bytes) text each = rw (All-head IsBlank b bytes each) (blanks_read bytes text (All-tail IsBlank b bytes each))

-- after a gap a digit may come
gap_read : (may : Bool) (gap text : List ℕ) → IsGap gap → are_flags may (gap ++ text) ≡ are_flags true text
gap_read may [] text g = cc (g.0)
gap_read may (b ∷ gap) text g = rw g.0 (blanks_read gap text (All-tail IsBlank b gap g.1))

digits_read : (digits text : List ℕ) → All IsDigit digits → are_flags true (digits ++ text) ≡ are_flags true text
digits_read [] text each = refl
digits_read (d ∷ digits) text each =
    let h = All-head IsDigit d digits each in
    rw (digit_no_blank d h, h) (digits_read digits text (All-tail IsDigit d digits each))

back_read : (may : Bool) (back : List ℕ) → AreBlank back → are_flags may back ≡ true
back_read may [] each = refl
back_read may (b ∷ back) each = rw (All-head IsBlank b back each) (back_read true back (All-tail IsBlank b back each))

-- the pieces of flags, the first one first
flag_first : (flag : List ℕ × List ℕ) (more back : List ℕ) → flag.0 ++ flag.1 ++ more ++ back ≡ flag.0 ++ (flag.1 ++ (more ++ back))
flag_first flag more back = simp append_assoc

flags_read : (may : Bool) (flags : List (List ℕ × List ℕ)) (back : List ℕ) → All IsFlag flags → AreBlank back → are_flags may (flags_text flags ++ back) ≡ true
flags_read may [] back each blank = back_read may back blank
flags_read may (flag ∷ flags) back each blank =
    let h = All-head IsFlag flag flags each in
    ap (are_flags may) (flag_first flag (flags_text flags) back)
    ∙ gap_read may flag.0 (flag.1 ++ (flags_text flags ++ back)) h.0
    ∙ digits_read flag.1 (flags_text flags ++ back) h.1.1
    ∙ flags_read true flags back (All-tail IsFlag flag flags each) blank

-- flags, or blanks alone after the word "line"
pub end_read : (worded : Bool) (flags : List (List ℕ × List ℕ)) (back : List ℕ) → (worded ≡ true → flags ≡ []) → All IsFlag flags → AreBlank back
    → is_marker_end worded (flags_text flags ++ back) ≡ true
end_read true flags back bare each blank = rw (bare refl) (list_all-from_AllPass is_blank back blank)
end_read false flags back bare each blank = flags_read false flags back each blank

-- ---- what is read are flags

-- flags and blanks
pub record Flags (bytes : List ℕ) : Type 0 where
  pub flags : List (List ℕ × List ℕ)
  pub back : List ℕ
  pub is : bytes ≡ flags_text flags ++ back
  pub each : All IsFlag flags
  pub blank : AreBlank back

-- the same after more digits of a flag
record InFlag (bytes : List ℕ) : Type 0 where
  digits : List ℕ
  rest : List ℕ
  is : bytes ≡ digits ++ rest
  each : All IsDigit digits
  flags : Flags rest

-- no flag and blanks
back_alone : (back : List ℕ) → AreBlank back → Flags back
back_alone back blank = record { flags = []; back = back; is = refl; each = All-nil IsFlag; blank = blank }

-- a blank before flags
blank_first : (b : ℕ) (flags : List (List ℕ × List ℕ)) (back : List ℕ) → is_blank b ≡ true → All IsFlag flags → AreBlank back
    → Flags (b ∷ (flags_text flags ++ back))
blank_first b [] back h each blank = back_alone (b ∷ back) (All-cons IsBlank b back h blank)
blank_first b (flag ∷ flags) back h each blank =
    let f = All-head IsFlag flag flags each in
    let first : List ℕ × List ℕ = (b ∷ flag.0, flag.1) in
    record {
      flags = first ∷ flags;
      back = back;
      is = refl;
      each = All-cons IsFlag first flags ((h, All-cons IsBlank b flag.0 h f.0.1), f.1) (All-tail IsFlag flag flags each);
      blank = blank;
    }

-- a blank before the digits of a flag begins it
blank_before : (b : ℕ) (digits rest : List ℕ) → is_blank b ≡ true → All IsDigit digits → Flags rest → Flags (b ∷ (digits ++ rest))
blank_before b [] rest h each f = subst (λ l. Flags (b ∷ l)) (sym f.is) (blank_first b f.flags f.back h f.each f.blank)
blank_before b (d ∷ digits) rest h each f =
    let flag : List ℕ × List ℕ = (b ∷ [], d ∷ digits) in
    record {
      flags = flag ∷ f.flags;
      back = f.back;
      is = ap (λ l. b ∷ d ∷ (digits ++ l)) f.is ∙ ap (λ l. b ∷ d ∷ l) (sym (append_assoc digits (flags_text f.flags) f.back));
      each = All-cons IsFlag flag f.flags ((h, All-cons IsBlank b [] h (All-nil IsBlank)), (All-head IsDigit d digits each, each)) f.each;
      blank = f.blank;
    }

blank_more : (b : ℕ) (bytes : List ℕ) → is_blank b ≡ true → InFlag bytes → Flags (b ∷ bytes)
blank_more b bytes h i = subst (λ l. Flags (b ∷ l)) (sym i.is) (blank_before b i.digits i.rest h i.each i.flags)

digit_more : (b : ℕ) (bytes : List ℕ) → is_digit b ≡ true → InFlag bytes → InFlag (b ∷ bytes)
digit_more b bytes h i = record {
  digits = b ∷ i.digits;
  rest = i.rest;
  is = ap (λ l. b ∷ l) i.is;
  each =
      All-cons IsDigit b i.digits h i.each;
  flags = i.flags;
}

between : (bytes : List ℕ) → Flags bytes → InFlag bytes
between bytes f = record { digits = []; rest = bytes; is = refl; each = All-nil IsDigit; flags = f }

-- where a digit may come and where none may
in_flag : (bytes : List ℕ) → are_flags true bytes ≡ true → InFlag bytes
in_flag [] h = between [] (back_alone [] (All-nil IsBlank))
in_flag (b ∷ bytes) h =
    let P : Bool → Type 0 = λ c. is_blank b ≡ c → cond c (are_flags true bytes) (is_digit b && are_flags true bytes) ≡ true → InFlag (b ∷ bytes) in
    let at_blank : P true = λ e h. between (b ∷ bytes) (blank_more b bytes e (in_flag bytes h)) in
    let at_digit : P false = λ e h. let a = and_parts (is_digit b) (are_flags true bytes) h in digit_more b bytes a.0 (in_flag bytes a.1) in
    let each : (c : Bool) → P c = λ c. elim c as P [ true ↦ at_blank | false ↦ at_digit ] in
    each (is_blank b) refl h

flags_taken : (bytes : List ℕ) → are_flags false bytes ≡ true → Flags bytes
flags_taken [] h = back_alone [] (All-nil IsBlank)
flags_taken (b ∷ bytes) h =
    let P : Bool → Type 0 = λ c. is_blank b ≡ c → cond c (are_flags true bytes) false ≡ true → Flags (b ∷ bytes) in
    let at_blank : P true = λ e h. blank_more b bytes e (in_flag bytes h) in
    let elsewhere : P false = λ e h. cc in
    let each : (c : Bool) → P c = λ c. elim c as P [ true ↦ at_blank | false ↦ elsewhere ] in
    each (is_blank b) refl h

-- flags, of which there is none after the word "line"
pub record End (worded : Bool) (bytes : List ℕ) : Type 0 where
  pub flags : Flags bytes
  pub bare : worded ≡ true → flags.flags ≡ []

pub end_taken : (worded : Bool) (bytes : List ℕ) → is_marker_end worded bytes ≡ true → End worded bytes
unfolding back_alone
end_taken true bytes h = record { flags = back_alone bytes (AllPass-from_list_all is_blank bytes h); bare = λ _. refl }
end_taken false bytes h = record { flags = flags_taken bytes h; bare = λ e. cc }

-- ---- no name begins in flags

digit_no_quote : (b : ℕ) → is_digit b ≡ true → (b == 34) ≡ false
digit_no_quote b h = grind (arith, nat_tests)

flags_no_name : (may : Bool) (bytes : List ℕ) → are_flags may bytes ≡ true → begins (λ b. b == 34) (drop (prefix_len is_blank bytes) bytes) ≡ false
flags_no_name may [] h = refl
flags_no_name may (b ∷ bytes) h =
    let P : Bool → Type 0 = λ c. is_blank b ≡ c → cond c (are_flags true bytes) (may && is_digit b && are_flags true bytes) ≡ true
    → begins (λ b. b == 34) (drop (cond c (1 + prefix_len is_blank bytes) 0) (b ∷ bytes)) ≡ false in
    let at_blank : P true = λ e h. rw one-add (flags_no_name true bytes h) in
    let at_digit : P false = λ e h. digit_no_quote b (and_parts _ _ (and_parts _ _ h).0).1 in
    let each : (c : Bool) → P c = λ c. elim c as P [ true ↦ at_blank | false ↦ at_digit ] in
    each (is_blank b) refl h

pub end_no_name : (worded : Bool) (bytes : List ℕ) → is_marker_end worded bytes ≡ true → begins (λ b. b == 34) (drop (prefix_len is_blank bytes) bytes) ≡ false
end_no_name true bytes h = flags_no_name false bytes (back_read false bytes (AllPass-from_list_all is_blank bytes h))
end_no_name false bytes h = flags_no_name false bytes h

-- ---- nor does a digit

pub end_no_digit : (worded : Bool) (bytes : List ℕ) → is_marker_end worded bytes ≡ true → begins is_digit bytes ≡ false
end_no_digit worded [] h = refl
end_no_digit true (b ∷ bytes) h = blank_no_digit b (and_parts (is_blank b) (list_all is_blank bytes) h).0
end_no_digit false (b ∷ bytes) h =
    cond_both (is_blank b) (are_flags true bytes) false (λ c. c ≡ true → is_digit b ≡ false) (λ e _. blank_no_digit b e) (λ e h. cc) h
