-- The name, number or punctuator at the front of a text is read exactly. It is as long as a word can be there, and so is each
-- quoted word.
use Rattle.std.proofs.Common.{◌≡◌, ◌≢◌, ℕ, suc, ◌+◌, Bool, true, false, ◌&&◌, ◌||◌, List, [], ◌∷◌, ◌++◌, drop, length, Option, Some, None, refl, sym}
use Rattle.std.proofs.Common.{ap, subst, ◌∙◌, arith, append_assoc, length-append}
use Rattle.std.specs.Prelude.{◌==◌, IsTrue}
use Rattle.std.specs.List.{All, prefix_len}
use Rattle.std.proofs.lemmas.Bool.{and_parts, and_right, or_from, or_right, cond_both, false_from_ne_true, eq-eqb}
use Rattle.std.proofs.lemmas.Bool.Decides.{nat_tests}
use Rattle.std.proofs.lemmas.List.Elements.{All-nil, All-cons, All-head, All-tail, All-append}
use Rattle.std.proofs.lemmas.Option.{same_Some}
use Rattle.c_tokens.specs.declared.punctuator.Punctuator.{Punctuator}
use Rattle.c_tokens.specs.declared.part.Shape.{Shape}
use Rattle.c_tokens.specs.declared.part.Shape.TheVariants as S
use Rattle.c_tokens.specs.Characters.{is_letter, is_digit, goes_on_in_name, begins}
use Rattle.c_tokens.specs.Punctuators.{punctuator_text}
use Rattle.c_tokens.specs.Numbers.{begins_number, goes_on_in_number, GoOnInNumber, IsNumber}
use Rattle.c_lexer.specs.NumberScan.{number_length}
use Rattle.c_tokens.specs.Quoted.{IsQuoted, IsInside}
use Rattle.c_tokens.specs.QuotedScan.{quoted_length}
use Rattle.c_tokens.specs.Words.{IsName, IsWord, IsLongest}
use Rattle.c_lexer.specs.Scanning.{first_punctuator, punctuators, punctuator_word, word_at}
use Rattle.c_lexer.proofs.RunLengths.{run_read, run_taken}
use Rattle.c_lexer.proofs.Quotes.{quoted_read}
use Rattle.c_lexer.proofs.FirstPunctuators.{begins_punctuator, punctuator_begins, punctuator_no_digit, punctuator_no_number, punctuator_found}
use Rattle.c_lexer.proofs.FirstPunctuators.{found_taken, found_longest}
use Rattle.c_lexer.proofs.NumberRuns.{number_read, number_taken, digit_goes_on, number_whole, number_front}

-- a name, a number or a punctuator
abbrev pub IsUnquoted : Shape → Type 0
IsUnquoted S.Character = ⊥
IsUnquoted S.Text = ⊥
IsUnquoted _ = Unit {0}

-- ---- the first byte of a word

abbrev pub begins_shape : Shape → ℕ → Bool
begins_shape S.Name b = is_letter b
begins_shape S.Number b = is_digit b || b == 46
begins_shape S.Character b = b == 39
begins_shape S.Text b = b == 34
begins_shape (S.Punctuator punctuator) b = begins_punctuator b

digit_or_dot : (x y z : Bool) → (x || (y && z)) ≡ true → (x || y) ≡ true
digit_or_dot true y z h = refl
digit_or_dot false y z h = (and_parts y z h).0

quote_begins : (quote : ℕ) (word : List ℕ) → IsQuoted quote word → begins (λ b. b == quote) word ≡ true
quote_begins quote word w = rw w.1 (eq-eqb quote quote refl)

pub word_begins : (shape : Shape) (word : List ℕ) → IsWord shape word → begins (begins_shape shape) word ≡ true
word_begins S.Name [] w = absurd w
word_begins S.Name (b ∷ word) w = w.0
word_begins S.Number [] w = absurd w
word_begins S.Number (b ∷ word) w = digit_or_dot (is_digit b) (b == 46) (begins is_digit word) w.0
word_begins S.Character word w = quote_begins 39 word w
word_begins S.Text word w = quote_begins 34 word w
word_begins (S.Punctuator punctuator) word w = rw w (punctuator_begins punctuator)

-- no longer word of a shape begins as the word does
apart : (p : ℕ → Bool) (shape : Shape) (word more : List ℕ) → begins p word ≡ true → IsWord shape (word ++ more)
    → ((b : ℕ) → p b ≡ true → begins_shape shape b ≡ true → ⊥) → ⊥
apart p shape [] more h w f = cc
apart p shape (b ∷ word) more h w f = f b h (word_begins shape (b ∷ (word ++ more)) w)

-- ---- a longest word is read

-- a longest name is followed by no byte that goes on
name_ends : (b : ℕ) (word rest : List ℕ) → IsName (b ∷ word) → IsLongest (b ∷ word) rest → begins goes_on_in_name rest ≡ false
name_ends b word [] w l = refl
name_ends b word (c ∷ rest) w l =
    let Goes : ℕ → Type 0 = λ b. IsTrue (goes_on_in_name b) in
    false_from_ne_true _ (λ h.
    let more : IsName (b ∷ word ++ c ∷ []) = (w.0, All-append Goes word (c ∷ []) w.1 (All-cons Goes c [] h (All-nil Goes))) in
    let e : c ∷ [] ≡ [] = l S.Name (c ∷ []) rest refl more in cc)

digit_no_letter : (b : ℕ) (bytes : List ℕ) → begins_number (b ∷ bytes) ≡ true → is_letter b ≡ false
digit_no_letter b bytes h = let d = digit_or_dot (is_digit b) (b == 46) (begins is_digit bytes) h in grind (arith, nat_tests)

name_at : (b : ℕ) (bytes : List ℕ) → is_letter b ≡ true → word_at (b ∷ bytes) ≡ Some (S.Name, prefix_len goes_on_in_name bytes + 1)
name_at b bytes h = rw h refl

number_at : (b : ℕ) (bytes : List ℕ) → begins_number (b ∷ bytes) ≡ true → word_at (b ∷ bytes) ≡ Some (S.Number, number_length b bytes + 1)
number_at b bytes h = rw (digit_no_letter b bytes h, h) refl

punctuator_at : (word rest : List ℕ) → begins begins_punctuator word ≡ true → begins_number (word ++ rest) ≡ false → word_at (word ++ rest)
    ≡ punctuator_word (first_punctuator punctuators (word ++ rest))
punctuator_at [] rest h n = cc
punctuator_at (b ∷ word) rest h n = let e : is_letter b ≡ false = grind (arith, nat_tests) in rw (e, n) refl

-- a longest punctuator begins no number
no_number : (word rest : List ℕ) → begins begins_punctuator word ≡ true → begins is_digit (drop 1 word) ≡ false → IsLongest word rest
    → begins_number (word ++ rest) ≡ false
no_number [] rest h d l = cc
no_number (b ∷ []) [] h d l = let e : is_digit b ≡ false = grind (arith, nat_tests) in or_from _ _ e (and_right (b == 46) false refl)
no_number (b ∷ []) (c ∷ rest) h d l =
    let e : is_digit b ≡ false = grind (arith, nat_tests) in
    or_from _ _ e (false_from_ne_true _ (λ t.
    let g : goes_on_in_number b c ≡ true = digit_goes_on b c (and_parts (b == 46) (is_digit c) t).1 in
    let k : c ∷ [] ≡ [] = l S.Number (c ∷ []) rest refl (or_right (is_digit b) _ t, (g, tt)) in cc))
no_number (b ∷ c ∷ word) rest h d l = let e : is_digit b ≡ false = grind (arith, nat_tests) in or_from _ _ e (and_right (b == 46) (is_digit c) d)

one_more : (shape : Shape) (n k : ℕ) → n ≡ k → ◌≡◌ {A = Option (Shape × ℕ)} (Some (shape, n + 1)) (Some (shape, suc k))
one_more shape n k e = ap (λ m. Some (shape, m)) (omega (arith, e))

punctuator_read : (punctuator : Punctuator) (rest : List ℕ) → IsLongest (punctuator_text punctuator) rest
    → word_at (punctuator_text punctuator ++ rest) ≡ Some (S.Punctuator punctuator, length (punctuator_text punctuator))
punctuator_read punctuator rest l =
    punctuator_at (punctuator_text punctuator) rest (punctuator_begins punctuator)
    (no_number (punctuator_text punctuator) rest (punctuator_begins punctuator) (punctuator_no_digit punctuator) l)
    ∙ ap punctuator_word (punctuator_found punctuator rest (λ n. l (S.Punctuator n)))

-- a longest word is the one that is read
pub word_read : (shape : Shape) (word rest : List ℕ) → IsWord shape word → IsLongest word rest → IsUnquoted shape → word_at (word ++ rest)
    ≡ Some (shape, length word)
word_read S.Name [] rest w l u = absurd w
word_read S.Name (b ∷ word) rest w l u =
    name_at b (word ++ rest) w.0 ∙ one_more S.Name _ (length word) (run_read goes_on_in_name word rest w.1 (name_ends b word rest w l))
word_read S.Number [] rest w l u = absurd w
word_read S.Number (b ∷ word) rest w l u =
    let stops : (c : ℕ) (after : List ℕ) → rest ≡ c ∷ after → GoOnInNumber b (word ++ c ∷ []) → ⊥ =
    λ c after e g. (let k : c ∷ [] ≡ [] = l S.Number (c ∷ []) after e (number_whole (b ∷ word) (c ∷ []) w.0, g) in cc) in
    number_at b (word ++ rest) (number_whole (b ∷ word) rest w.0) ∙ one_more S.Number _ (length word) (number_read b word rest w.1 stops)
word_read S.Character word rest w l u = absurd u
word_read S.Text word rest w l u = absurd u
word_read (S.Punctuator punctuator) word rest w l u = rw w (punctuator_read punctuator rest (subst (λ v. IsLongest v rest) w l))

-- ---- what is read is a longest word

-- where the rest begins with no such byte, none of it goes on
no_more_name : (p : ℕ → Bool) (word more after rest : List ℕ) → rest ≡ more ++ after → begins p rest ≡ false → All (λ b. IsTrue (p b)) (word ++ more)
    → more ≡ []
no_more_name p [] [] after rest e h w = refl
no_more_name p [] (c ∷ more) after rest e h w = let k : p c ≡ false = subst (λ l. begins p l ≡ false) e h in let g =
    All-head (λ b. IsTrue (p b)) c more w in cc (k, g)
no_more_name p (b ∷ word) more after rest e h w = no_more_name p word more after rest e h (All-tail (λ b. IsTrue (p b)) b (word ++ more) w)

name_longest : (b : ℕ) (word rest : List ℕ) → is_letter b ≡ true → begins goes_on_in_name rest ≡ false → IsLongest (b ∷ word) rest
name_longest b word rest h s S.Name more after e w = no_more_name goes_on_in_name word more after rest e s w.1
name_longest b word rest h s S.Number more after e w = absurd (apart is_letter S.Number (b ∷ word) more h w (λ b h k. grind (arith, nat_tests)))
name_longest b word rest h s S.Character more after e w = absurd (apart is_letter S.Character (b ∷ word) more h w (λ b h k. grind (arith, nat_tests)))
name_longest b word rest h s S.Text more after e w = absurd (apart is_letter S.Text (b ∷ word) more h w (λ b h k. grind (arith, nat_tests)))
name_longest b word rest h s (S.Punctuator punctuator) more after e w =
    absurd (apart is_letter (S.Punctuator punctuator) (b ∷ word) more h w (λ b h k. grind (arith, nat_tests)))

number_longest : (b : ℕ) (word rest : List ℕ) → begins_number (b ∷ word) ≡ true
    → ((more after : List ℕ) → rest ≡ more ++ after → GoOnInNumber b (word ++ more) → more ≡ []) → IsLongest (b ∷ word) rest
number_longest b word rest h s S.Name more after e w = let n = digit_no_letter b word h in cc (n, w.0)
number_longest b word rest h s S.Number more after e w = s more after e w.1
number_longest b word rest h s S.Character more after e w = let d =
    digit_or_dot (is_digit b) (b == 46) (begins is_digit word) h in absurd
    (apart (begins_shape S.Number) S.Character (b ∷ word) more d w (λ b h k. grind (arith, nat_tests)))
number_longest b word rest h s S.Text more after e w = let d =
    digit_or_dot (is_digit b) (b == 46) (begins is_digit word) h in absurd
    (apart (begins_shape S.Number) S.Text (b ∷ word) more d w (λ b h k. grind (arith, nat_tests)))
number_longest b word rest h s (S.Punctuator punctuator) more after e w =
    let n = subst (λ l. begins_number l ≡ false) (sym w) (punctuator_no_number punctuator) in
    let k = number_whole (b ∷ word) more h in
    cc (n, k)

number_begins : (word : List ℕ) → IsNumber word → begins_number word ≡ true
number_begins [] w = absurd w
number_begins (b ∷ word) w = w.0

punctuator_longest : (punctuator : Punctuator) (rest : List ℕ) → first_punctuator punctuators (punctuator_text punctuator ++ rest) ≡ Some punctuator
    → begins_number (punctuator_text punctuator ++ rest) ≡ false → IsLongest (punctuator_text punctuator) rest
punctuator_longest punctuator rest h n S.Name more after e w =
    absurd (apart begins_punctuator S.Name (punctuator_text punctuator) more (punctuator_begins punctuator) w (λ b h k. grind (arith, nat_tests)))
punctuator_longest punctuator rest h n S.Number more after e w =
    let whole : punctuator_text punctuator ++ more ++ after ≡ punctuator_text punctuator ++ rest =
    append_assoc (punctuator_text punctuator) more after ∙ ap (λ l. punctuator_text punctuator ++ l) (sym e) in
    let k = subst (λ l. begins_number l ≡ true) whole (number_whole (punctuator_text punctuator ++ more) after (number_begins _ w)) in
    cc (n, k)
punctuator_longest punctuator rest h n S.Character more after e w =
    absurd (apart begins_punctuator S.Character (punctuator_text punctuator) more (punctuator_begins punctuator) w (λ b h k. grind (arith, nat_tests)))
punctuator_longest punctuator rest h n S.Text more after e w =
    absurd (apart begins_punctuator S.Text (punctuator_text punctuator) more (punctuator_begins punctuator) w (λ b h k. grind (arith, nat_tests)))
punctuator_longest punctuator rest h n (S.Punctuator other) more after e w = found_longest punctuator other rest more after h e w

-- the word at the front, and what stands after it
pub record FrontWord (bytes : List ℕ) (shape : Shape) (size : ℕ) : Type 0 where
  pub word : List ℕ
  pub rest : List ℕ
  pub is : bytes ≡ word ++ rest
  pub size_is : size ≡ length word
  pub can : IsWord shape word
  pub longest : IsLongest word rest

same_word : (bytes : List ℕ) (x y : Shape × ℕ) → Some x ≡ Some y → FrontWord bytes x.0 x.1 → FrontWord bytes y.0 y.1
same_word bytes x y h w = subst (λ y. FrontWord bytes y.0 y.1) (same_Some x y h) w

name_taken : (b : ℕ) (bytes : List ℕ) → is_letter b ≡ true → FrontWord (b ∷ bytes) S.Name (prefix_len goes_on_in_name bytes + 1)
name_taken b bytes h =
    let r = run_taken goes_on_in_name bytes in
    record {
      word = b ∷ r.front;
      rest = r.rest;
      is = ap (λ l. b ∷ l) r.is;
      size_is = let e = r.size in omega (arith, e);
      can = (h, r.each);
      longest =
          name_longest b r.front r.rest h r.stops;
    }

number_word : (b : ℕ) (bytes : List ℕ) → begins_number (b ∷ bytes) ≡ true → FrontWord (b ∷ bytes) S.Number (number_length b bytes + 1)
number_word b bytes h =
    let r = number_taken b bytes in
    let n = number_front b r.front r.rest r.stops (subst (λ l. begins_number (b ∷ l) ≡ true) r.is h) in
    record {
      word = b ∷ r.front;
      rest = r.rest;
      is = ap (λ l. b ∷ l) r.is;
      size_is = let e = r.size in omega (arith, e);
      can = (n, r.each);
      longest =
          number_longest b r.front r.rest n r.stops;
    }

punctuator_taken : (bytes : List ℕ) (found : Option Punctuator) (y : Shape × ℕ) → begins_number bytes ≡ false → first_punctuator punctuators bytes
    ≡ found → punctuator_word found ≡ Some y → FrontWord bytes y.0 y.1
punctuator_taken bytes None y n f h = cc
punctuator_taken bytes (Some punctuator) y n f h =
    let r = found_taken punctuator bytes f in
    let longest = punctuator_longest punctuator r.0 (subst (λ l. first_punctuator punctuators l ≡ Some punctuator) r.1 f)
    (subst (λ l. begins_number l ≡ false) r.1 n) in
    same_word bytes (S.Punctuator punctuator, length (punctuator_text punctuator)) y h
    (record { word = punctuator_text punctuator; rest = r.0; is = r.1; size_is = refl; can = refl; longest = longest })

word_taken_pair : (bytes : List ℕ) (y : Shape × ℕ) → word_at bytes ≡ Some y → FrontWord bytes y.0 y.1
word_taken_pair [] y h = cc
word_taken_pair (b ∷ bytes) y h =
    let P : Option (Shape × ℕ) → Type 0 = λ o. o ≡ Some y → FrontWord (b ∷ bytes) y.0 y.1 in
    cond_both (is_letter b) (Some (S.Name, prefix_len goes_on_in_name bytes + 1)) _ P
    (λ l h. same_word (b ∷ bytes) (S.Name, prefix_len goes_on_in_name bytes + 1) y h (name_taken b bytes l))
    (λ _. cond_both (begins_number (b ∷ bytes)) (Some (S.Number, number_length b bytes + 1)) (punctuator_word (first_punctuator punctuators (b ∷ bytes))) P
    (λ n h. same_word (b ∷ bytes) (S.Number, number_length b bytes + 1) y h (number_word b bytes n))
    (λ n h. punctuator_taken (b ∷ bytes) (first_punctuator punctuators (b ∷ bytes)) y n refl h))
    h

pub word_taken : (bytes : List ℕ) (shape : Shape) (size : ℕ) → word_at bytes ≡ Some (shape, size) → FrontWord bytes shape size
word_taken bytes shape size h = word_taken_pair bytes (shape, size) h

-- ---- quoted words

empty : (bytes : List ℕ) → length bytes ≡ 0 → bytes ≡ []
empty [] h = refl
empty (b ∷ bytes) h = absurd (omega (arith, h))

-- the first closing quote ends both bodies
one_close : (quote : ℕ) (body other more : List ℕ) → quote ≢ 10 → IsInside quote false body → IsInside quote false other → body ++ quote ∷ more
    ≡ other ++ quote ∷ [] → more ≡ []
one_close quote body other more n i k e =
    let found = sym (quoted_read quote false body more n i) ∙ ap (quoted_length quote false) e ∙ quoted_read quote false other [] n k in
    let size : length body + 1 ≡ length other + 1 = same_Some (length body + 1) (length other + 1) found in
    let whole = ap length e in
    empty more (omega (arith, size, whole, length-append body (quote ∷ more), length-append other (quote ∷ [])))

no_more_quoted : (quote other : ℕ) (word more : List ℕ) → quote ≢ 10 → IsQuoted quote word → IsQuoted other (word ++ more) → more ≡ []
no_more_quoted quote other word more n (body, is, i) (next, whole, k) =
    let e : quote ∷ (body ++ quote ∷ more) ≡ other ∷ (next ++ other ∷ []) = ap (λ l. quote ∷ l) (sym (append_assoc body (quote ∷ []) more))
    ∙ ap (λ l. l ++ more) (sym is) ∙ whole in
    let same : other ≡ quote = cc in
    let after : body ++ quote ∷ more ≡ next ++ other ∷ [] = cc in
    one_close quote body next more n i (subst (λ q. IsInside q false next) same k) (subst (λ q. body ++ quote ∷ more ≡ next ++ q ∷ []) same after)

pub quote_no_line_feed : (quote : ℕ) → IsTrue (quote == 34 || quote == 39) → quote ≢ 10
quote_no_line_feed quote q e = let k : false ≡ true = subst (λ b. (b == 34 || b == 39) ≡ true) e q in cc

-- a quoted word never goes on
pub quoted_longest : (quote : ℕ) (word rest : List ℕ) → IsTrue (quote == 34 || quote == 39) → IsQuoted quote word → IsLongest word rest
quoted_longest quote word rest q w S.Name more after e v = absurd
    (apart (λ b. b == quote) S.Name word more (quote_begins quote word w) v (λ b h k. grind (arith, nat_tests)))
quoted_longest quote word rest q w S.Number more after e v =
    absurd (apart (λ b. b == quote) S.Number word more (quote_begins quote word w) v (λ b h k. grind (arith, nat_tests)))
quoted_longest quote word rest q w S.Character more after e v = no_more_quoted quote 39 word more (quote_no_line_feed quote q) w v
quoted_longest quote word rest q w S.Text more after e v = no_more_quoted quote 34 word more (quote_no_line_feed quote q) w v
quoted_longest quote word rest q w (S.Punctuator punctuator) more after e v =
    absurd (apart (λ b. b == quote) (S.Punctuator punctuator) word more (quote_begins quote word w) v (λ b h k. grind (arith, nat_tests)))
