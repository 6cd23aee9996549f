-- What stands between quotes: reading from the left finds its characters and escapes.
use Rattle.std.proofs.Common.{◌≡◌, ℕ, zero, suc, ◌+◌, ◌≤◌, ◌<◌, min, Bool, true, false, eqb, List, [], ◌∷◌, ◌++◌, length, take, drop, Option, Some}
use Rattle.std.proofs.Common.{None, refl, sym, ap, subst, ◌∙◌, arith, IsTrue, inl, inr, ◌⊎◌}
use Rattle.std.specs.Prelude.{◌==◌, unwrap_or, option_map, is_some, IsSome}
use Rattle.std.specs.List.{All, prefix_len}
use Rattle.std.proofs.lemmas.Bool.{cond-true, cond_both, cases_lt, false_from_ne_true, true≢false, eqb-true, eqb-false, ne_eqb}
use Rattle.std.proofs.lemmas.Bool.Decides.{nat_tests}
use Rattle.std.proofs.lemmas.List.{take_at, take-append-drop, length-take-le}
use Rattle.std.proofs.lemmas.List.Sums.{prefix_len-le-length}
use Rattle.std.proofs.lemmas.Option.{same_Some}
use Rattle.c_tokens.specs.Characters.{is_octal, is_hexadecimal, begins, value_of_digits}
use Rattle.c_tokens.specs.Quoted.{Item, plain, simple, octal, hexadecimal, item_text, simple_value, IsItem, item_value}
use Rattle.c_tokens.specs.QuotedScan.{capped_character, digits_at, escape_at, item_at, is_too_great}
use Rattle.c_lexer.proofs.Capped.{fold_capped}
use Rattle.c_lexer.proofs.RunLengths.{run_read, run_reaches, run_each, run_stops, run_begins, run_some}

-- ---- values

-- what is read for an item: its value, that of digits only up to 256
abbrev pub read_value : Item → ℕ
read_value (plain b) = b
read_value (simple b) = unwrap_or (simple_value b) 0
read_value (octal digits) = min (value_of_digits 8 digits) 256
read_value (hexadecimal digits) = min (value_of_digits 16 digits) 256

capped_great : (n : ℕ) → is_too_great (min n 256) ≡ is_too_great n
capped_great n = grind (arith, nat_tests)

-- it is above 255 where the value is
pub read_great : (item : Item) → is_too_great (read_value item) ≡ is_too_great (item_value item)
read_great (plain b) = refl
read_great (simple b) = refl
read_great (octal digits) = capped_great (value_of_digits 8 digits)
read_great (hexadecimal digits) = capped_great (value_of_digits 16 digits)

-- below that it is the value
pub read_small : (item : Item) → item_value item ≤ 255 → read_value item ≡ item_value item
read_small (plain b) h = refl
read_small (simple b) h = refl
read_small (octal digits) h = omega (arith, h)
read_small (hexadecimal digits) h = omega (arith, h)

-- ---- one item is read

-- the letter or punctuator of a simple escape is no octal digit and no "x"
record IsApart (b : ℕ) : Type 0 where
  no_octal : is_octal b ≡ false
  no_x : eqb b 120 ≡ false

octal_no_escape : (b : ℕ) → is_octal b ≡ true → simple_value b ≡ None
octal_no_escape b h =
    let other : (c : ℕ) → is_octal c ≡ false → eqb c b ≡ false = λ c q. ne_eqb c b (λ e. true≢false (sym (subst (λ x. is_octal x ≡ true) (sym e) h) ∙ q)) in
    rw (
      other 39 refl,
      other 34 refl,
      other 63 refl,
      other 92 refl,
      other 97 refl,
      other 98 refl,
      other 102 refl,
      other 110 refl,
      other 114 refl,
      other 116 refl,
      other 118 refl,
    ) refl

escape_apart : (b : ℕ) → IsSome (simple_value b) → IsApart b
escape_apart b h =
    let absent : simple_value b ≡ None → ⊥ = λ e. let n : is_some {T = ℕ} None ≡ true = subst (λ o. is_some o ≡ true) e h in true≢false (sym n) in
    record {
      no_octal = false_from_ne_true (is_octal b) (λ o. absent (octal_no_escape b o));
      no_x = ne_eqb b 120 (λ e. absent (ap simple_value e));
    }

-- one byte more before what was found
abbrev after_one : Option (ℕ × ℕ) → Option (ℕ × ℕ)
after_one = option_map (λ it. (it.0, it.1 + 1))

-- a value of one byte
abbrev of_one : Option ℕ → Option (ℕ × ℕ)
of_one = option_map (λ value. (value, 1))

simple_found : (o : Option ℕ) → IsSome o → after_one (of_one o) ≡ Some (unwrap_or o 0, 2)
simple_found None h = cc
simple_found (Some value) h = refl

-- so many digits in front are read
digits_read : (k : ℕ) (digits rest : List ℕ) (n : ℕ) → n ≡ length digits → 0 < n → digits_at (suc k) n (digits ++ rest)
    ≡ Some (min (value_of_digits (suc k) digits) 256, length digits)
digits_read k digits rest zero e h = absurd (omega (arith, h))
digits_read k digits rest (suc n) e h =
    ap (λ d. Some (capped_character (suc k) d, suc n)) (take_at digits rest (suc n) (sym e))
    ∙ ap (λ v. Some (v, suc n)) (fold_capped (suc k) 0 256 digits (omega arith))
    ∙ ap (λ m. Some (min (value_of_digits (suc k) digits) 256, m)) e

octal_count : (digits rest : List ℕ) → All (λ d. IsTrue (is_octal d)) digits → length digits ≤ 3 → (length digits < 3 → begins is_octal rest ≡ false)
    → min (prefix_len is_octal (digits ++ rest)) 3 ≡ length digits
octal_count digits rest each short stops =
    let few : length digits < 3 → min (prefix_len is_octal (digits ++ rest)) 3 ≡ length digits = λ l. let e =
    run_read is_octal digits rest each (stops l) in omega (arith, e, short) in
    let three : 3 ≤ length digits → min (prefix_len is_octal (digits ++ rest)) 3 ≡ length digits = λ l. let m =
    run_reaches is_octal digits rest each in omega (arith, m, l, short) in
    let either : (length digits < 3) ⊎ (3 ≤ length digits) → min (prefix_len is_octal (digits ++ rest)) 3 ≡ length digits =
    elim [ inl l ↦ few l | inr l ↦ three l ] in
    either (cases_lt (length digits) 3)

begun_long : (p : ℕ → Bool) (digits : List ℕ) → begins p digits ≡ true → 0 < length digits
begun_long p [] h = cc
begun_long p (d ∷ digits) h = omega arith

octal_branch : (digits rest : List ℕ) → begins is_octal digits ≡ true → escape_at (digits ++ rest)
    ≡ digits_at 8 (min (prefix_len is_octal (digits ++ rest)) 3) (digits ++ rest)
octal_branch [] rest h = cc
octal_branch (d ∷ digits) rest h = cond-true (is_octal d) _ _ h

pub item_read : (item : Item) (rest : List ℕ) → IsItem item rest → item_at (item_text item ++ rest) ≡ Some (read_value item, length (item_text item))
item_read (plain b) rest i = rw (ne_eqb b 92 i) refl
item_read (simple b) rest i = let a = escape_apart b i in rw (a.no_octal, a.no_x) (simple_found (simple_value b) i)
item_read (octal digits) rest i =
    ap after_one (octal_branch digits rest i.0 ∙ digits_read 7 digits rest _ (octal_count digits rest i.1 i.2 i.3) (let e =
    octal_count digits rest i.1 i.2 i.3 in omega (arith, e, begun_long is_octal digits i.0)))
    ∙ ap (λ n. Some (min (value_of_digits 8 digits) 256, n)) (omega arith)
item_read (hexadecimal digits) rest i =
    let count = run_read is_hexadecimal digits rest i.1 i.2 in
    ap (λ o. after_one (after_one o)) (digits_read 15 digits rest _ count (omega (arith, count, begun_long is_hexadecimal digits i.0)))
    ∙ ap (λ n. Some (min (value_of_digits 16 digits) 256, n)) (omega arith)

-- ---- what is read is an item

-- an item in front, as found
pub record IsItemAt (bytes : List ℕ) (found : ℕ × ℕ) : Type 0 where
  pub item : Item
  pub rest : List ℕ
  pub bytes_are : bytes ≡ item_text item ++ rest
  pub is_item : IsItem item rest
  pub found_is : found ≡ (read_value item, length (item_text item))

-- what a mapped answer came from
map_taken : {A B : Type 0} (f : A → B) (o : Option A) (y : B) → option_map f o ≡ Some y → (x : A) × (o ≡ Some x) × (f x ≡ y)
map_taken f None y h = cc
map_taken f (Some x) y h = (x, refl, same_Some (f x) y h)

-- the value and the length of digits that were found, with the bytes before them
digits_found : (k n front : ℕ) (text : List ℕ) (x : ℕ × ℕ) → n ≤ length text → Some (capped_character (suc k) (take n text), n) ≡ Some x
    → ◌≡◌ {A = ℕ × ℕ} (x.0, x.1 + front) (min (value_of_digits (suc k) (take n text)) 256, length (take n text) + front)
digits_found k n front text x fits h =
    ap (λ y. (y.0, y.1 + front)) (sym (same_Some (capped_character (suc k) (take n text), n) x h))
    ∙ ap (λ v. (v, n + front)) (fold_capped (suc k) 0 256 (take n text) (omega arith))
    ∙ ap (λ m. (min (value_of_digits (suc k) (take n text)) 256, m + front)) (sym (length-take-le n text fits))

octal_taken : (n b : ℕ) (bytes : List ℕ) (x : ℕ × ℕ) → is_octal b ≡ true → n ≡ min (prefix_len is_octal (b ∷ bytes)) 3 → digits_at 8 n (b ∷ bytes)
    ≡ Some x → IsItemAt (92 ∷ b ∷ bytes) (x.0, x.1 + 1)
octal_taken zero b bytes x o e h = cc
octal_taken (suc m) b bytes x o e h =
    let text = b ∷ bytes in
    let fits : suc m ≤ length text = omega (arith, e, prefix_len-le-length is_octal text) in
    let size = length-take-le (suc m) text fits in
    record {
      item = octal (take (suc m) text);
      rest = drop (suc m) text;
      bytes_are = ap (λ l. 92 ∷ l) (sym (take-append-drop (suc m) text));
      is_item = (
        o,
        run_each is_octal (suc m) text (omega (arith, e)),
        omega (arith, size, e),
        λ l. let whole : prefix_len is_octal text ≡ suc m =
            omega (arith, l, size, e) in subst (λ n. begins is_octal (drop n text) ≡ false) whole (run_stops is_octal text),
      );
      found_is = digits_found 7 (suc m) 1 text x fits h ∙ ap (λ n. (min (value_of_digits 8 (take (suc m) text)) 256, n)) (omega arith);
    }

hexadecimal_taken : (n : ℕ) (bytes : List ℕ) (x : ℕ × ℕ) → n ≡ prefix_len is_hexadecimal bytes → digits_at 16 n bytes ≡ Some x
    → IsItemAt (92 ∷ 120 ∷ bytes) (x.0, x.1 + 1 + 1)
hexadecimal_taken zero bytes x e h = cc
hexadecimal_taken (suc m) bytes x e h =
    let fits : suc m ≤ length bytes = omega (arith, e, prefix_len-le-length is_hexadecimal bytes) in
    let some : begins is_hexadecimal bytes ≡ true = run_some is_hexadecimal bytes (omega (arith, e)) in
    record {
      item = hexadecimal (take (suc m) bytes);
      rest = drop (suc m) bytes;
      bytes_are = ap (λ l. 92 ∷ 120 ∷ l) (sym (take-append-drop (suc m) bytes));
      is_item = (
        rw e (run_begins is_hexadecimal is_hexadecimal bytes some some),
        run_each is_hexadecimal (suc m) bytes (omega (arith, e)),
        rw e (run_stops is_hexadecimal bytes),
      );
      found_is = ap (λ n. (x.0, n)) (omega arith) ∙ digits_found 15 (suc m) 2 bytes x fits h
          ∙ ap (λ n. (min (value_of_digits 16 (take (suc m) bytes)) 256, n)) (omega arith);
    }

escape_taken : (bytes : List ℕ) (x : ℕ × ℕ) → escape_at bytes ≡ Some x → IsItemAt (92 ∷ bytes) (x.0, x.1 + 1)
escape_taken [] x h = cc
escape_taken (b ∷ bytes) x h =
    let Goal : Type 0 = IsItemAt (92 ∷ b ∷ bytes) (x.0, x.1 + 1) in
    let P : Option (ℕ × ℕ) → Type 0 = λ o. o ≡ Some x → Goal in
    cond_both (is_octal b) _ _ P (λ o. octal_taken _ b bytes x o refl)
    (λ _. cond_both (b == 120) _ _ P
    (λ e h.
    let m = map_taken (λ it. (it.0, it.1 + 1)) (digits_at 16 (prefix_len is_hexadecimal bytes) bytes) x h in
    subst (λ c. IsItemAt (92 ∷ c ∷ bytes) (x.0, x.1 + 1)) (sym (eqb-true b 120 e))
    (subst (λ y. IsItemAt (92 ∷ 120 ∷ bytes) (y.0, y.1 + 1)) m.2 (hexadecimal_taken _ bytes m.0 refl m.1)))
    (λ _ h.
    let m = map_taken (λ value. (value, 1)) (simple_value b) x h in
    record {
      item = simple b;
      rest = bytes;
      bytes_are = refl;
      is_item = ap is_some m.1;
      found_is = ap (λ y. (y.0, y.1 + 1)) (sym m.2) ∙ ap (λ o. (unwrap_or o 0, 2)) (sym m.1);
    })) h

pub item_taken : (bytes : List ℕ) (found : ℕ × ℕ) → item_at bytes ≡ Some found → IsItemAt bytes found
item_taken [] found h = cc
item_taken (b ∷ bytes) found h =
    cond_both (b == 92) _ _ (λ o. o ≡ Some found → IsItemAt (b ∷ bytes) found)
    (λ e h.
    let m = map_taken (λ it. (it.0, it.1 + 1)) (escape_at bytes) found h in
    subst (λ c. IsItemAt (c ∷ bytes) found) (sym (eqb-true b 92 e)) (subst (IsItemAt (92 ∷ bytes)) m.2 (escape_taken bytes m.0 m.1)))
    (λ e h. record { item = plain b; rest = bytes; bytes_are = refl; is_item = eqb-false b 92 e; found_is = sym (same_Some (b, 1) found h) }) h
