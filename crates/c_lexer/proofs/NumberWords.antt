-- Numbers: reading a word from the left finds the integer constant that it is.
use Rattle.std.proofs.Common.{◌≡◌, ℕ, ◌<◌, ◌^◌, min, Bool, true, false, cond, eqb, leb, List, [], ◌∷◌, ◌++◌, ◌⊎◌, inl, inr, length, take, drop}
use Rattle.std.proofs.Common.{Option, Some, None, Result, Ok, Err, refl, sym, ap, subst, ◌∙◌, arith, IsTrue, append_assoc}
use Rattle.std.specs.Prelude.{◌&&◌, ◌||◌, ◌==◌}
use Rattle.std.specs.List.{All, prefix_len}
use Rattle.std.proofs.lemmas.Bool.{and_parts, cond_both, or_cases, false_from_ne_true, true≢false, leb-true, eqb-true}
use Rattle.std.proofs.lemmas.Bool.Decides.{nat_tests}
use Rattle.std.proofs.lemmas.List.{take_at, drop_at, take-append-drop}
use Rattle.std.proofs.lemmas.List.Elements.{All-head}
use Rattle.std.proofs.lemmas.Option.{same_Some}
use Rattle.c_types.specs.declared.ty.IntKind.{IntKind}
use Rattle.c_types.specs.declared.ty.IntKind.TheVariants as I
use Rattle.c_types.specs.IntKinds.{greatest}
use Rattle.c_tokens.specs.declared.part.Shape.TheVariants as S
use Rattle.c_tokens.specs.declared.token.TokenKind.{TokenKind}
use Rattle.c_tokens.specs.declared.token.TokenKind.TheVariants as K
use Rattle.c_tokens.specs.declared.fault.FaultKind.{FaultKind}
use Rattle.c_tokens.specs.declared.fault.FaultKind.TheVariants.{BadLiteral, TooWide}
use Rattle.c_tokens.specs.declared.radix.Radix.{Radix}
use Rattle.c_tokens.specs.declared.radix.Radix.TheVariants.{Decimal, Octal, Hexadecimal}
use Rattle.c_tokens.specs.declared.radix.Suffix.{Suffix}
use Rattle.c_tokens.specs.declared.radix.Suffix.TheVariants.{Plain, Unsigned, UnsignedLong, LongLong, Long}
use Rattle.c_tokens.specs.Characters.{is_digit, is_octal, is_hexadecimal, begins}
use Rattle.c_tokens.specs.Numbers.{base, IsConstant, suffix_texts, IsOneOf, IsInteger, kinds, first_holding, value, type_of}
use Rattle.c_lexer.specs.NumberScan.{capped_value, is_radix_letter, begins_hexadecimal, radix_at, is_digit_in, is_u, is_l, suffix_of_one}
use Rattle.c_lexer.specs.NumberScan.{suffix_of_two, suffix_of_three, suffix_at, typed_number, suffixed_number, number_after, number_from, number_of}
use Rattle.c_tokens.specs.Words.{IsMalformed}
use Rattle.c_lexer.proofs.Capped.{capped_value_is}
use Rattle.c_lexer.proofs.RunLengths.{run_read, run_each, run_begins}
use Rattle.c_lexer.proofs.TokenSays.{Says}

-- ---- values

value_capped : (radix : Radix) (digits : List ℕ) → capped_value (base radix) digits ≡ min (value radix digits) (2 ^ 32)
value_capped Decimal digits = capped_value_is 10 digits (omega arith)
value_capped Octal digits = capped_value_is 8 digits (omega arith)
value_capped Hexadecimal digits = capped_value_is 16 digits (omega arith)

greatest_small : (kind : IntKind) → greatest kind < 2 ^ 32
greatest_small I.Char = omega arith
greatest_small I.SChar = omega arith
greatest_small I.UChar = omega arith
greatest_small I.Short = omega arith
greatest_small I.UShort = omega arith
greatest_small I.Int = omega arith
greatest_small I.UInt = omega arith
greatest_small I.Long = omega arith
greatest_small I.ULong = omega arith

capped_holds : (n limit : ℕ) → limit < 2 ^ 32 → leb (min n (2 ^ 32)) limit ≡ leb n limit
capped_holds n limit h = grind (arith, nat_tests)

-- a capped value has the same type, and where it has one it is the value
typed_capped : (n : ℕ) (among : List IntKind) → typed_number (min n (2 ^ 32)) (first_holding (min n (2 ^ 32)) among) ≡ typed_number n (first_holding n among)
typed_capped n [] = refl
typed_capped n (kind ∷ more) =
    let m = min n (2 ^ 32) in
    let P : Bool → Type 0 = λ b. leb n (greatest kind) ≡ b → typed_number m (cond b (Some kind) (first_holding m more))
    ≡ typed_number n (cond b (Some kind) (first_holding n more)) in
    let held : P true = λ h. ap (λ v. Ok (K.Number v kind)) (let l = leb-true n (greatest kind) h in omega (arith, l, greatest_small kind)) in
    let each : (b : Bool) → P b = λ b. elim b as P [ true ↦ held | false ↦ λ _. typed_capped n more ] in
    ap (λ b. typed_number m (cond b (Some kind) (first_holding m more))) (capped_holds n (greatest kind) (greatest_small kind))
    ∙ each (leb n (greatest kind)) refl

-- ---- an integer constant is read

-- what is to be known of the bytes after the digits
abbrev IsEnd : Suffix → List ℕ → Type 0
IsEnd suffix tail = (suffix_at tail ≡ Some suffix) × (begins is_hexadecimal tail ≡ false) × (begins is_radix_letter tail ≡ false)

abbrev Each : (List ℕ → Type 0) → List (List ℕ) → Type 0
Each P [] = Unit {0}
Each P (text ∷ texts) = P text × Each P texts

one_of : (P : List ℕ → Type 0) (texts : List (List ℕ)) (tail : List ℕ) → IsOneOf texts tail → Each P texts → P tail
one_of P [] tail h each = absurd h
one_of P (text ∷ texts) tail (inl e) each = subst P (sym e) each.0
one_of P (text ∷ texts) tail (inr h) each = one_of P texts tail h each.1

suffix_ends : (suffix : Suffix) (tail : List ℕ) → IsOneOf (suffix_texts suffix) tail → IsEnd suffix tail
suffix_ends Plain tail h = one_of (IsEnd Plain) (suffix_texts Plain) tail h ((refl, refl, refl), tt)
suffix_ends Unsigned tail h = one_of (IsEnd Unsigned) (suffix_texts Unsigned) tail h ((refl, refl, refl), ((refl, refl, refl), tt))
suffix_ends Long tail h = one_of (IsEnd Long) (suffix_texts Long) tail h ((refl, refl, refl), ((refl, refl, refl), tt))
suffix_ends UnsignedLong tail h = one_of (IsEnd UnsignedLong) (suffix_texts UnsignedLong) tail h (
  (refl, refl, refl),
  (
    (refl, refl, refl),
    (
      (refl, refl, refl),
      ((refl, refl, refl), ((refl, refl, refl), ((refl, refl, refl), ((refl, refl, refl), ((refl, refl, refl), tt))))),
    ),
  ),
)
suffix_ends LongLong tail h = one_of (IsEnd LongLong) (suffix_texts LongLong) tail h (
  (refl, refl, refl),
  (
    (refl, refl, refl),
    (
      (refl, refl, refl),
      (
        (refl, refl, refl),
        (
          (refl, refl, refl),
          (
            (refl, refl, refl),
            ((refl, refl, refl), ((refl, refl, refl), ((refl, refl, refl), ((refl, refl, refl), tt)))),
          ),
        ),
      ),
    ),
  ),
)

digit_in_hexadecimal : (radix : Radix) (b : ℕ) → is_digit_in radix b ≡ true → is_hexadecimal b ≡ true
digit_in_hexadecimal Decimal b h = rw h refl
digit_in_hexadecimal Octal b h = grind (arith, nat_tests)
digit_in_hexadecimal Hexadecimal b h = h

-- where no hexadecimal digit stands, no digit of the radix does
no_digit : (radix : Radix) (tail : List ℕ) → begins is_hexadecimal tail ≡ false → begins (is_digit_in radix) tail ≡ false
no_digit radix [] h = refl
no_digit radix (b ∷ tail) h = false_from_ne_true (is_digit_in radix b) (λ d. true≢false (sym (digit_in_hexadecimal radix b d) ∙ h))

octal_no_letter : (b : ℕ) → is_octal b ≡ true → is_radix_letter b ≡ false
octal_no_letter b h = grind (arith, nat_tests)

no_hexadecimal : (digits tail : List ℕ) → All (λ d. IsTrue (is_octal d)) digits → begins is_radix_letter tail ≡ false
    → begins_hexadecimal (digits ++ tail) ≡ false
no_hexadecimal [] [] each h = refl
no_hexadecimal [] (b ∷ tail) each h = rw h refl
no_hexadecimal (d ∷ digits) tail each h = rw (octal_no_letter d (All-head (λ d. IsTrue (is_octal d)) d digits each)) refl

begins_append : (p : ℕ → Bool) (digits tail : List ℕ) → begins p digits ≡ true → begins p (digits ++ tail) ≡ true
begins_append p [] tail h = cc
begins_append p (d ∷ digits) tail h = h

-- the digits stand so far after the beginning of the text
record StartsAt (word : List ℕ) (radix : Radix) (digits tail : List ℕ) : Type 0 where
  front : ℕ
  radix_is : radix_at word ≡ Some (radix, front)
  after : drop front word ≡ digits ++ tail
  each : All (λ d. IsTrue (is_digit_in radix d)) digits

decimal_start : (digits tail : List ℕ) → IsTrue (begins (leb 49) digits) → All (λ d. IsTrue (is_digit d)) digits → radix_at (digits ++ tail) ≡ Some (Decimal, 0)
decimal_start [] tail h each = cc
decimal_start (d ∷ digits) tail h each =
    let other : eqb d 48 ≡ false = grind (arith, nat_tests) in
    rw (other, All-head (λ d. IsTrue (is_digit d)) d digits each) refl

constant_read : (radix : Radix) (digits text tail : List ℕ) → IsConstant radix digits text → begins is_radix_letter tail ≡ false
    → StartsAt (text ++ tail) radix digits tail
constant_read Decimal digits text tail c h = subst (λ l. StartsAt (l ++ tail) Decimal digits tail) (sym c.0)
    (record { front = 0; radix_is = decimal_start digits tail c.1 c.2; after = refl; each = c.2 })
constant_read Octal digits text tail c h = subst (λ l. StartsAt (l ++ tail) Octal digits tail) (sym c.0)
    (record { front = 1; radix_is = rw (no_hexadecimal digits tail c.1 h) refl; after = refl; each = c.1 })
constant_read Hexadecimal digits text tail c h = subst (λ l. StartsAt (l ++ tail) Hexadecimal digits tail) (sym c.1)
    (record { front = 2; radix_is = rw (c.2, begins_append is_hexadecimal digits tail c.3) refl; after = refl; each = c.4 })

after_read : (radix : Radix) (digits tail : List ℕ) (suffix : Suffix) → All (λ d. IsTrue (is_digit_in radix d)) digits → IsEnd suffix tail
    → number_after radix (digits ++ tail) ≡ typed_number (value radix digits) (type_of radix digits suffix)
after_read radix digits tail suffix each ends =
    let text = digits ++ tail in
    let read : List ℕ → List ℕ → Result TokenKind FaultKind = λ d t. suffixed_number radix (capped_value (base radix) d) (suffix_at t) in
    ap (λ n. read (take n text) (drop n text)) (run_read (is_digit_in radix) digits tail each (no_digit radix tail ends.1))
    ∙ ap (λ d. read d (drop (length digits) text)) (take_at digits tail (length digits) refl)
    ∙ ap (λ t. read digits t) (drop_at digits tail (length digits) refl)
    ∙ ap (λ o. suffixed_number radix (capped_value (base radix) digits) o) ends.0
    ∙ ap (λ n. typed_number n (first_holding n (kinds radix suffix))) (value_capped radix digits)
    ∙ typed_capped (value radix digits) (kinds radix suffix)

-- an integer constant is read with its value, and with its type where one holds it
pub integer_read : (word : List ℕ) (radix : Radix) (digits : List ℕ) (suffix : Suffix) → IsInteger word radix digits suffix → number_of word
    ≡ typed_number (value radix digits) (type_of radix digits suffix)
unfolding number_of
integer_read word radix digits suffix i =
    let ends = suffix_ends suffix i.tail i.suffixed in
    let start = constant_read radix digits i.text i.tail i.constant ends.2 in
    let whole = i.text ++ i.tail in
    ap (λ l. number_from l (radix_at l)) i.word_is
    ∙ ap (number_from whole) start.radix_is
    ∙ ap (number_after radix) start.after
    ∙ after_read radix digits i.tail suffix start.each ends

pub number_read : (word : List ℕ) (radix : Radix) (digits : List ℕ) (suffix : Suffix) (n : ℕ) (kind : IntKind) → IsInteger word radix digits suffix
    → value radix digits ≡ n → type_of radix digits suffix ≡ Some kind → number_of word ≡ Ok (K.Number n kind)
number_read word radix digits suffix n kind i v t = integer_read word radix digits suffix i ∙ ap (typed_number (value radix digits)) t
    ∙ ap (λ m. Ok (K.Number m kind)) v

pub wide_number_read : (word : List ℕ) (radix : Radix) (digits : List ℕ) (suffix : Suffix) → IsInteger word radix digits suffix
    → type_of radix digits suffix ≡ None → number_of word ≡ Err TooWide
wide_number_read word radix digits suffix i t = integer_read word radix digits suffix i ∙ ap (typed_number (value radix digits)) t

-- ---- what is read is an integer constant

u_cases : (P : ℕ → Type 0) (a : ℕ) → is_u a ≡ true → P 117 → P 85 → P a
u_cases P a h small large =
    let one : ((a == 117) ≡ true) ⊎ ((a == 85) ≡ true) → P a =
    elim [ inl e ↦ subst P (sym (eqb-true a 117 e)) small | inr e ↦ subst P (sym (eqb-true a 85 e)) large ] in
    one (or_cases (a == 117) (a == 85) h)

l_cases : (P : ℕ → Type 0) (a : ℕ) → is_l a ≡ true → P 108 → P 76 → P a
l_cases P a h small large =
    let one : ((a == 108) ≡ true) ⊎ ((a == 76) ≡ true) → P a =
    elim [ inl e ↦ subst P (sym (eqb-true a 108 e)) small | inr e ↦ subst P (sym (eqb-true a 76 e)) large ] in
    one (or_cases (a == 108) (a == 76) h)

-- the text is a suffix, and the answer names it
given : (text : List ℕ) (found suffix : Suffix) → IsOneOf (suffix_texts found) text → Some found ≡ Some suffix → IsOneOf (suffix_texts suffix) text
given text found suffix one e = subst (λ s. IsOneOf (suffix_texts s) text) (same_Some found suffix e) one

one_taken : (a : ℕ) (suffix : Suffix) → suffix_of_one a ≡ Some suffix → IsOneOf (suffix_texts suffix) (a ∷ [])
one_taken a suffix h =
    let text = a ∷ [] in
    let P : Option Suffix → Type 0 = λ o. o ≡ Some suffix → IsOneOf (suffix_texts suffix) text in
    cond_both (is_u a) _ _ P
    (λ u. given text Unsigned suffix (u_cases (λ a. IsOneOf (suffix_texts Unsigned) (a ∷ [])) a u (inl refl) (inr (inl refl))))
    (λ _. cond_both (is_l a) _ _ P
    (λ l. given text Long suffix (l_cases (λ a. IsOneOf (suffix_texts Long) (a ∷ [])) a l (inl refl) (inr (inl refl))))
    (λ _ e. cc)) h

-- "u" and "l" in either order
mixed : (a b : ℕ) → (is_u a && is_l b || is_l a && is_u b) ≡ true → IsOneOf (suffix_texts UnsignedLong) (a ∷ b ∷ [])
mixed a b h =
    let P : ℕ → ℕ → Type 0 = λ a b. IsOneOf (suffix_texts UnsignedLong) (a ∷ b ∷ []) in
    let ul : (is_u a && is_l b) ≡ true → P a b = λ e.
    let p = and_parts (is_u a) (is_l b) e in
    u_cases (λ a. P a b) a p.0 (l_cases (P 117) b p.1 (inl refl) (inr (inl refl))) (l_cases (P 85) b p.1 (inr (inr (inl refl))) (inr (inr (inr (inl refl))))) in
    let lu : (is_l a && is_u b) ≡ true → P a b = λ e.
    let p = and_parts (is_l a) (is_u b) e in
    l_cases (λ a. P a b) a p.0 (u_cases (P 108) b p.1 (inr (inr (inr (inr (inl refl))))) (inr (inr (inr (inr (inr (inl refl)))))))
    (u_cases (P 76) b p.1 (inr (inr (inr (inr (inr (inr (inl refl))))))) (inr (inr (inr (inr (inr (inr (inr (inl refl))))))))) in
    let either : ((is_u a && is_l b) ≡ true) ⊎ ((is_l a && is_u b) ≡ true) → P a b = elim [ inl e ↦ ul e | inr e ↦ lu e ] in
    either (or_cases _ _ h)

-- "l" twice, in the same case
doubled : (a b : ℕ) → (is_l a && a == b) ≡ true → IsOneOf (suffix_texts LongLong) (a ∷ b ∷ [])
doubled a b h =
    let p = and_parts (is_l a) (a == b) h in
    subst (λ b. IsOneOf (suffix_texts LongLong) (a ∷ b ∷ [])) (eqb-true a b p.1)
    (l_cases (λ a. IsOneOf (suffix_texts LongLong) (a ∷ a ∷ [])) a p.0 (inl refl) (inr (inl refl)))

two_taken : (a b : ℕ) (suffix : Suffix) → suffix_of_two a b ≡ Some suffix → IsOneOf (suffix_texts suffix) (a ∷ b ∷ [])
two_taken a b suffix h =
    let text = a ∷ b ∷ [] in
    let P : Option Suffix → Type 0 = λ o. o ≡ Some suffix → IsOneOf (suffix_texts suffix) text in
    cond_both (is_u a && is_l b || is_l a && is_u b) _ _ P
    (λ m. given text UnsignedLong suffix (mixed a b m))
    (λ _. cond_both (is_l a && a == b) _ _ P (λ d. given text LongLong suffix (doubled a b d)) (λ _ e. cc)) h

three_taken : (a b c : ℕ) (suffix : Suffix) → suffix_of_three a b c ≡ Some suffix → IsOneOf (suffix_texts suffix) (a ∷ b ∷ c ∷ [])
three_taken a b c suffix h =
    let P : ℕ → ℕ → ℕ → Type 0 = λ a b c. IsOneOf (suffix_texts LongLong) (a ∷ b ∷ c ∷ []) in
    let ull : (is_u a && is_l b && b == c) ≡ true → P a b c = λ e.
    let p = and_parts (is_u a && is_l b) (b == c) e in
    let q = and_parts (is_u a) (is_l b) p.0 in
    subst (P a b) (eqb-true b c p.1)
    (u_cases (λ a. P a b b) a q.0 (l_cases (λ b. P 117 b b) b q.1 (inr (inr (inl refl))) (inr (inr (inr (inl refl)))))
    (l_cases (λ b. P 85 b b) b q.1 (inr (inr (inr (inr (inl refl))))) (inr (inr (inr (inr (inr (inl refl)))))))) in
    let llu : (is_l a && a == b && is_u c) ≡ true → P a b c = λ e.
    let p = and_parts (is_l a && a == b) (is_u c) e in
    let q = and_parts (is_l a) (a == b) p.0 in
    subst (λ b. P a b c) (eqb-true a b q.1)
    (l_cases (λ a. P a a c) a q.0 (u_cases (P 108 108) c p.1 (inr (inr (inr (inr (inr (inr (inl refl)))))))
    (inr (inr (inr (inr (inr (inr (inr (inl refl)))))))))
    (u_cases (P 76 76) c p.1 (inr (inr (inr (inr (inr (inr (inr (inr (inl refl))))))))) (inr (inr (inr (inr (inr (inr (inr (inr (inr (inl refl)))))))))))) in
    let either : ((is_u a && is_l b && b == c) ≡ true) ⊎ ((is_l a && a == b && is_u c) ≡ true) → P a b c = elim [ inl e ↦ ull e | inr e ↦ llu e ] in
    cond_both (is_u a && is_l b && b == c || is_l a && a == b && is_u c) _ _ (λ o. o ≡ Some suffix → IsOneOf (suffix_texts suffix) (a ∷ b ∷ c ∷ []))
    (λ m. given (a ∷ b ∷ c ∷ []) LongLong suffix (either (or_cases _ _ m))) (λ _ e. cc) h

suffix_taken : (tail : List ℕ) (suffix : Suffix) → suffix_at tail ≡ Some suffix → IsOneOf (suffix_texts suffix) tail
suffix_taken [] suffix h = given [] Plain suffix (inl refl) h
suffix_taken (a ∷ []) suffix h = one_taken a suffix h
suffix_taken (a ∷ b ∷ []) suffix h = two_taken a b suffix h
suffix_taken (a ∷ b ∷ c ∷ []) suffix h = three_taken a b c suffix h
suffix_taken (a ∷ b ∷ c ∷ d ∷ tail) suffix h = cc

-- the run of digits after such a beginning
abbrev digits_in : List ℕ → Radix × ℕ → List ℕ
digits_in word start = let after = drop start.1 word in take (prefix_len (is_digit_in start.0) after) after

abbrev IsConstantFrom : List ℕ → Radix × ℕ → Type 0
IsConstantFrom word start = IsConstant start.0 (digits_in word start) (take start.1 word ++ digits_in word start)

hexadecimal_taken : (b : ℕ) (bytes : List ℕ) → b ≡ 48 → begins_hexadecimal bytes ≡ true → IsConstantFrom (b ∷ bytes) (Hexadecimal, 2)
hexadecimal_taken b [] e h = cc
hexadecimal_taken b (x ∷ bytes) e h =
    let p = and_parts (is_radix_letter x) (begins is_hexadecimal bytes) h in (
      x,
      ap (λ c. c ∷ x ∷ digits_in (b ∷ x ∷ bytes) (Hexadecimal, 2)) e,
      p.0,
      run_begins is_hexadecimal is_hexadecimal bytes p.1 p.1,
      run_each is_hexadecimal (prefix_len is_hexadecimal bytes) bytes (omega arith),
    )

constant_taken : (word : List ℕ) (start : Radix × ℕ) → radix_at word ≡ Some start → IsConstantFrom word start
constant_taken [] start h = cc
constant_taken (b ∷ bytes) start h =
    let word = b ∷ bytes in
    let P : Option (Radix × ℕ) → Type 0 = λ o. o ≡ Some start → IsConstantFrom word start in
    let found : (s : Radix × ℕ) → IsConstantFrom word s → P (Some s) = λ s c e. subst (IsConstantFrom word) (same_Some s start e) c in
    cond_both (b == 48) _ _ P
    (λ e. cond_both (begins_hexadecimal bytes) _ _ P
    (λ x. found (Hexadecimal, 2) (hexadecimal_taken b bytes (eqb-true b 48 e) x))
    (λ _. found (Octal, 1) (ap (λ c. c ∷ digits_in word (Octal, 1)) (eqb-true b 48 e), run_each is_octal (prefix_len is_octal bytes) bytes (omega arith))))
    (λ n. cond_both (is_digit b) _ _ P
    (λ d.
    let above : leb 49 b ≡ true = grind (arith, nat_tests) in
    found (Decimal, 0) (refl, run_begins is_digit (leb 49) word d above, run_each is_digit (prefix_len is_digit word) word (omega arith)))
    (λ _ e. cc)) h

integer_taken : (word : List ℕ) (start : Radix × ℕ) (suffix : Suffix) → radix_at word ≡ Some start
    → suffix_at (drop (prefix_len (is_digit_in start.0) (drop start.1 word)) (drop start.1 word)) ≡ Some suffix
    → IsInteger word start.0 (digits_in word start) suffix
integer_taken word start suffix h s =
    let after = drop start.1 word in
    let n = prefix_len (is_digit_in start.0) after in
    record {
      text = take start.1 word ++ digits_in word start;
      tail = drop n after;
      word_is = sym (append_assoc (take start.1 word) (take n after) (drop n after) ∙ ap (λ l. take start.1 word ++ l) (take-append-drop n after)
          ∙ take-append-drop start.1 word);
      constant = constant_taken word start h;
      suffixed = suffix_taken (drop n after) suffix s;
    }

-- the word is an integer constant, or reading it says that it is malformed
abbrev IsReadOrNot : List ℕ → Type 0
IsReadOrNot word = ((radix : Radix) × (digits : List ℕ) × (suffix : Suffix) × IsInteger word radix digits suffix) ⊎ (number_of word ≡ Err BadLiteral)

read_or_not : (word : List ℕ) → IsReadOrNot word
unfolding number_of
read_or_not word =
    let after : Radix × ℕ → List ℕ = λ start. drop start.1 word in
    let run : Radix × ℕ → ℕ = λ start. prefix_len (is_digit_in start.0) (after start) in
    let number : Radix × ℕ → Option Suffix → Result TokenKind FaultKind =
    λ start o. suffixed_number start.0 (capped_value (base start.0) (digits_in word start)) o in
    let ended : (start : Radix × ℕ) → radix_at word ≡ Some start → (o : Option Suffix) → suffix_at (drop (run start) (after start)) ≡ o
    → IsReadOrNot word = λ start h o. elim o as (λ o. suffix_at (drop (run start) (after start)) ≡ o → IsReadOrNot word) [
      | None ↦ λ s. inr (ap (number_from word) h ∙ ap (number start) s)
      | Some suffix ↦ λ s. inl (start.0, digits_in word start, suffix, integer_taken word start suffix h s)
    ] in
    let started : (o : Option (Radix × ℕ)) → radix_at word ≡ o → IsReadOrNot word = λ o. elim o as (λ o. radix_at word ≡ o → IsReadOrNot word) [
      | None ↦ λ h. inr (ap (number_from word) h)
      | Some start ↦ λ h. ended start h (suffix_at (drop (run start) (after start))) refl
    ] in
    started (radix_at word) refl

typed_says : (word : List ℕ) (radix : Radix) (digits : List ℕ) (suffix : Suffix) → IsInteger word radix digits suffix → (o : Option IntKind)
    → type_of radix digits suffix ≡ o → Says S.Number word (typed_number (value radix digits) o)
typed_says word radix digits suffix i None t = (radix, digits, suffix, i, t)
typed_says word radix digits suffix i (Some kind) t = (radix, digits, suffix, i, refl, t)

typed_not_malformed : (n : ℕ) (o : Option IntKind) → typed_number n o ≡ Err BadLiteral → ⊥
typed_not_malformed n None h = grind arith
typed_not_malformed n (Some kind) h = grind arith

-- what is read for any word is true of it
pub number_taken : (word : List ℕ) → Says S.Number word (number_of word)
number_taken word =
    let read : (radix : Radix) × (digits : List ℕ) × (suffix : Suffix) × IsInteger word radix digits suffix → Says S.Number word (number_of word) = λ i.
    subst (Says S.Number word) (sym (integer_read word i.0 i.1 i.2 i.3)) (typed_says word i.0 i.1 i.2 i.3 (type_of i.0 i.1 i.2) refl) in
    let unread : number_of word ≡ Err BadLiteral → Says S.Number word (number_of word) = λ e.
    let never : IsMalformed S.Number word = λ radix digits suffix i. typed_not_malformed (value radix digits) (type_of radix digits suffix)
    (sym (integer_read word radix digits suffix i) ∙ e) in
    subst (Says S.Number word) (sym e) never in
    let each : IsReadOrNot word → Says S.Number word (number_of word) = elim [ inl i ↦ read i | inr e ↦ unread e ] in
    each (read_or_not word)

pub malformed_number_read : (word : List ℕ) → IsMalformed S.Number word → number_of word ≡ Err BadLiteral
malformed_number_read word m =
    let each : IsReadOrNot word → number_of word ≡ Err BadLiteral = elim [ inl i ↦ absurd (m i.0 i.1 i.2 i.3) | inr e ↦ e ] in
    each (read_or_not word)
