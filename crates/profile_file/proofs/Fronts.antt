-- Numbers and names, as the reader finds them and as the text has them.
use Rattle.std.proofs.Common.{◌≡◌, ℕ, zero, suc, ◌+◌, ◌*◌, ◌-◌, ◌≤◌, ◌<◌, Bool, true, false, not, List, [], ◌∷◌, ◌++◌, length, take, drop, get_or}
use Rattle.std.proofs.Common.{Option, Some, None, refl, sym, ap, ◌∙◌, arith, fold, subst}
use Rattle.std.specs.Prelude.{decimal, if◌then◌else◌, nat_le, option_map, ◌==◌, ◌&&◌}
use Rattle.std.specs.Int.{IsInRange}
use Rattle.std.specs.List.{list_all, prefix_len}
use Rattle.std.specs.Str.{bytes_eq}
use Rattle.std.proofs.lemmas.Bool.{and_parts, and_from}
use Rattle.std.proofs.lemmas.Bool.Decides.{nat_tests}
use Rattle.std.proofs.lemmas.Fmt.{decimal_digit, decimal-digits_value, digits_decimal, digits_value-decimal, first_decimal}
use Rattle.std.proofs.lemmas.List.{take-append-drop}
use Rattle.std.proofs.lemmas.List.Sums.{fold-append}
use Rattle.std.proofs.lemmas.Slice.Eq.{bytes_eq-Decides}
use Rattle.std.proofs.lemmas.Str.Parse.{IsDigitsTest, IsNumeralModel, numerals_by_fold}
use Rattle.std.proofs.Math.Seq.{take-append_seam, drop-append_seam}
use Rattle.profile_file.specs.Text.{IsName, goes_on_in_name, greatest_count}
use Rattle.profile_file.proofs.Names.{is_a_name, name_passes}
use Rattle.profile_file.specs.Reading.{after, count_at, count_before, has_no_leading_zero, is_digit, is_name, is_numeral, name_at, name_before, number_of}
use Rattle.profile_file.specs.Reading.{value_of_digits}

pub none_some : {A : Type 0} (x : A) → None ≡ Some x → ⊥
none_some x e = cc

pub some_same : {A : Type 0} (x y : A) → Some x ≡ Some y → x ≡ y
some_same x y e = cc

false_is_true : false ≡ true → ⊥
false_is_true h = cc

-- ---- numbers

-- digits more only add to the value
fold_grows : (n : ℕ) (digits : List ℕ) → n ≤ fold (λ m d. m * 10 + (d - 48)) n digits
fold_grows n [] = omega arith
fold_grows n (d ∷ digits) = omega (arith, fold_grows (n * 10 + (d - 48)) digits)

too_great : (word : List ℕ) → greatest_count < value_of_digits word → number_of word ≡ None
too_great word h = go (is_numeral word) refl
  where
    small : is_numeral word ≡ true → nat_le (value_of_digits word) greatest_count ≡ true
    small e = (and_parts (list_all is_digit word) (nat_le (value_of_digits word) greatest_count)
        (and_parts (has_no_leading_zero word) (list_all is_digit word && nat_le (value_of_digits word) greatest_count) e).1).1

    not_small : nat_le (value_of_digits word) greatest_count ≡ true → ⊥
    not_small e = grind (arith, nat_tests)

    go : (b : Bool) → is_numeral word ≡ b → (if b then Some (value_of_digits word) else None) ≡ None
    go true e = absurd (not_small (small e))
    go false e = refl

-- where the first digits make too great a number, the word is none
pub too_large : (word : List ℕ) (i : ℕ) → greatest_count < value_of_digits (take i word) → number_of word ≡ None
too_large word i h =
    let whole : value_of_digits word ≡ fold (λ m d. m * 10 + (d - 48)) (value_of_digits (take i word)) (drop i word) =
    ap value_of_digits (sym (take-append-drop i word)) ∙ fold-append (λ m d. m * 10 + (d - 48)) 0 (take i word) (drop i word) in
    too_great word (omega (arith, whole, fold_grows (value_of_digits (take i word)) (drop i word), h))

in_range : (c : ℕ) → is_digit c ≡ true → IsInRange 48 57 c
in_range c h = let parts = and_parts (nat_le 48 c) (nat_le c 57) h in (grind (arith, nat_tests), grind (arith, nat_tests))

is_in_range : (c : ℕ) → IsInRange 48 57 c → is_digit c ≡ true
is_in_range c h = and_from (nat_le 48 c) (nat_le c 57) (grind (arith, nat_tests)) (grind (arith, nat_tests))

digits_test : IsDigitsTest (λ ds. list_all is_digit ds ≡ true)
digits_test = record {
  empty = refl;
  parts = λ c cs h. (let parts = and_parts (is_digit c) (list_all is_digit cs) h in (in_range c parts.0, parts.1));
  more = λ c cs r h. and_from (is_digit c) (list_all is_digit cs) (is_in_range c r) h;
}

own : IsNumeralModel (λ ds. list_all is_digit ds ≡ true) value_of_digits
own = numerals_by_fold (λ ds. list_all is_digit ds ≡ true) digits_test (λ n ds. fold (λ m d. m * 10 + (d - 48)) n ds)
    (record { empty = λ n. refl; more = λ n c cs r. refl })

pub decimal_digits : (v : ℕ) → v ≤ greatest_count → list_all is_digit (decimal v) ≡ true
decimal_digits v le = digits_decimal own v (omega arith)

-- the digits of a number are read as the number
no_zero_before : (ds : List ℕ) → 48 < get_or ds 0 0 → has_no_leading_zero ds ≡ true
no_zero_before [] h = absurd (let l : 48 < 0 = h in omega arith)
no_zero_before (d ∷ []) h = refl
no_zero_before (d ∷ e ∷ ds) h = let l : 48 < d = h in grind (arith, nat_tests)

no_leading_zero : (v : ℕ) → v ≤ greatest_count → has_no_leading_zero (decimal v) ≡ true
no_leading_zero zero le = ap has_no_leading_zero (decimal_digit 0 (omega arith))
no_leading_zero (suc v) le = no_zero_before (decimal (suc v)) (first_decimal (suc v) (omega arith) (omega arith))

pub number_read : (v : ℕ) → v ≤ greatest_count → number_of (decimal v) ≡ Some v
number_read v le =
    let value : value_of_digits (decimal v) ≡ v = digits_value-decimal own v (omega arith) in
    let small : nat_le v greatest_count ≡ true = grind (arith, nat_tests) in
    rw (no_leading_zero v le, decimal_digits v le, value, small) refl

-- what is read as a number is its digits
leading : (ds : List ℕ) → has_no_leading_zero ds ≡ true → (0 < length ds) × (get_or ds 0 0 ≡ 48 → length ds ≡ 1)
leading [] h = absurd (false_is_true h)
leading (d ∷ []) h = (omega arith, λ e. refl)
leading (d ∷ e ∷ ds) h = (omega arith, λ same. absurd (let s : d ≡ 48 = same in not_zero d s h))
  where
    not_zero : (d : ℕ) → d ≡ 48 → not (d == 48) ≡ true → ⊥
    not_zero d s h = grind (arith, nat_tests)

pub number_taken : (ds : List ℕ) (v : ℕ) → number_of ds ≡ Some v → (v ≤ greatest_count) × (decimal v ≡ ds)
number_taken ds v e = go (is_numeral ds) refl e
  where
    known : is_numeral ds ≡ true → value_of_digits ds ≡ v → (v ≤ greatest_count) × (decimal v ≡ ds)
    known h is =
        let first = and_parts (has_no_leading_zero ds) (list_all is_digit ds && nat_le (value_of_digits ds) greatest_count) h in
        let second = and_parts (list_all is_digit ds) (nat_le (value_of_digits ds) greatest_count) first.1 in
        let small : value_of_digits ds ≤ greatest_count = (let s = second.1 in grind (arith, nat_tests)) in
        let zeros = leading ds first.0 in
        (omega (arith, small, is), ap decimal (sym is) ∙ decimal-digits_value own ds second.0 zeros.0 zeros.1 (omega (arith, small)))

    go : (b : Bool) → is_numeral ds ≡ b → (if b then Some (value_of_digits ds) else None) ≡ Some v → (v ≤ greatest_count) × (decimal v ≡ ds)
    go true h f = known h (some_same (value_of_digits ds) v f)
    go false h f = absurd (none_some v f)

-- ---- runs of bytes

run_up_to : (p : ℕ → Bool) (xs : List ℕ) (b : ℕ) (ys : List ℕ) → list_all p xs ≡ true → p b ≡ false → prefix_len p (xs ++ b ∷ ys) ≡ length xs
run_up_to p [] b ys all e = rw e refl
run_up_to p (x ∷ xs) b ys all e =
    let parts = and_parts (p x) (list_all p xs) all in
    let later = run_up_to p xs b ys parts.1 e in
    rw parts.0 (omega (arith, later))

-- ---- a number that ends a line

pub count_read : (v : ℕ) (more : List ℕ) → v ≤ greatest_count → count_at (decimal v ++ 10 ∷ more) ≡ Some (v, more)
count_read v more le =
    let text = decimal v ++ 10 ∷ more in
    let run : prefix_len is_digit text ≡ length (decimal v) = run_up_to is_digit (decimal v) 10 more (decimal_digits v le) refl in
    let cut : count_at text ≡ count_before (take (length (decimal v)) text) (drop (length (decimal v)) text) = ap (λ n. count_before (take n text) (drop n text)) run in
    let parts : count_before (take (length (decimal v)) text) (drop (length (decimal v)) text) ≡ count_before (decimal v) (10 ∷ more) =
    rw (take-append_seam (decimal v) (10 ∷ more), drop-append_seam (decimal v) (10 ∷ more)) refl in
    cut ∙ parts ∙ ap (option_map (λ n. (n, more))) (number_read v le)

map_taken : {A B : Type 0} (f : A → B) (o : Option A) (y : B) → option_map f o ≡ Some y → (x : A) × (o ≡ Some x) × (f x ≡ y)
map_taken f None y h = absurd (none_some y h)
map_taken f (Some x) y h = (x, refl, some_same (f x) y h)

is_byte : (b k : ℕ) → (b == k) ≡ true → b ≡ k
is_byte b k h = grind (arith, nat_tests)

before_taken : (ds rest : List ℕ) (v : ℕ) (more : List ℕ) → count_before ds rest ≡ Some (v, more) → (v ≤ greatest_count) × (ds ++ rest ≡ decimal v ++ 10 ∷ more)
before_taken ds [] v more e = absurd (none_some (v, more) e)
before_taken ds (b ∷ rest) v more e = go (b == 10) refl e
  where
    known : (b == 10) ≡ true → ((n : ℕ) × (number_of ds ≡ Some n) × ◌≡◌ {A = ℕ × List ℕ} (n, rest) (v, more)) → (v ≤ greatest_count) × (ds ++ b ∷ rest ≡ decimal v ++ 10 ∷ more)
    known is found =
        let n_is : found.0 ≡ v = ap (λ q. q.0) found.2 in
        let rest_is : rest ≡ more = ap (λ q. q.1) found.2 in
        let taken = number_taken ds v (found.1 ∙ ap Some n_is) in
        (taken.0, ap (λ xs. xs ++ b ∷ rest) (sym taken.1) ∙ ap (λ c. decimal v ++ c ∷ rest) (is_byte b 10 is) ∙ ap (λ xs. decimal v ++ 10 ∷ xs) rest_is)

    go : (c : Bool) → (b == 10) ≡ c → ◌≡◌ {A = Option (ℕ × List ℕ)} (if c then option_map {U = ℕ × List ℕ} (λ n. (n, rest)) (number_of ds) else None) (Some (v, more))
        → (v ≤ greatest_count) × (ds ++ b ∷ rest ≡ decimal v ++ 10 ∷ more)
    go true is f = known is (map_taken {B = ℕ × List ℕ} (λ n. (n, rest)) (number_of ds) (v, more) f)
    go false is f = absurd (none_some {A = ℕ × List ℕ} (v, more) f)

pub count_taken : (text : List ℕ) (v : ℕ) (more : List ℕ) → count_at text ≡ Some (v, more) → (v ≤ greatest_count) × (text ≡ decimal v ++ 10 ∷ more)
count_taken text v more e =
    let n = prefix_len is_digit text in
    let taken = before_taken (take n text) (drop n text) v more e in
    (taken.0, sym (take-append-drop n text) ∙ taken.1)

-- ---- names

pub name_read : (name more : List ℕ) → IsName name → name_at (name ++ 32 ∷ more) ≡ Some (name, more)
name_read name more h =
    let text = name ++ 32 ∷ more in
    let run : prefix_len goes_on_in_name text ≡ length name = run_up_to goes_on_in_name name 32 more h.goes_on refl in
    let cut : name_at text ≡ name_before (take (length name) text) (drop (length name) text) = ap (λ n. name_before (take n text) (drop n text)) run in
    let parts : name_before (take (length name) text) (drop (length name) text) ≡ name_before name (32 ∷ more) =
    rw (take-append_seam name (32 ∷ more), drop-append_seam name (32 ∷ more)) refl in
    let whole : name_before name (32 ∷ more) ≡ Some (name, more) = rw (name_passes name h) refl in
    cut ∙ parts ∙ whole

name_before_taken : (front rest name more : List ℕ) → name_before front rest ≡ Some (name, more) → IsName name × (front ++ rest ≡ name ++ 32 ∷ more)
name_before_taken front [] name more e = absurd (none_some (name, more) e)
name_before_taken front (b ∷ rest) name more e = go (b == 32 && is_name front) refl e
  where
    known : (b == 32 && is_name front) ≡ true → ◌≡◌ {A = List ℕ × List ℕ} (front, rest) (name, more) → IsName name × (front ++ b ∷ rest ≡ name ++ 32 ∷ more)
    known h same =
        let parts = and_parts (b == 32) (is_name front) h in
        let front_is : front ≡ name = ap (λ q. q.0) same in
        let rest_is : rest ≡ more = ap (λ q. q.1) same in
        (subst IsName front_is (is_a_name front parts.1), ap (λ xs. xs ++ b ∷ rest) front_is ∙ ap (λ c. name ++ c ∷ rest) (is_byte b 32 parts.0) ∙ ap (λ xs. name ++ 32 ∷ xs) rest_is)

    go : (c : Bool) → (b == 32 && is_name front) ≡ c → ◌≡◌ {A = Option (List ℕ × List ℕ)} (if◌then◌else◌ {A = Option (List ℕ × List ℕ)} c (Some (front, rest)) None) (Some (name, more))
        → IsName name × (front ++ b ∷ rest ≡ name ++ 32 ∷ more)
    go true h f = known h (some_same {A = List ℕ × List ℕ} (front, rest) (name, more) f)
    go false h f = absurd (none_some {A = List ℕ × List ℕ} (name, more) f)

pub name_taken : (text name more : List ℕ) → name_at text ≡ Some (name, more) → IsName name × (text ≡ name ++ 32 ∷ more)
name_taken text name more e =
    let n = prefix_len goes_on_in_name text in
    let taken = name_before_taken (take n text) (drop n text) name more e in
    (taken.0, sym (take-append-drop n text) ∙ taken.1)

-- ---- what stands behind some bytes

pub after_front : (front rest : List ℕ) → after front (front ++ rest) ≡ Some rest
after_front front rest =
    let same : bytes_eq front front ≡ true = (bytes_eq-Decides front front).1 refl in
    rw (take-append_seam front rest, drop-append_seam front rest, same) refl

pub after_taken : (front text rest : List ℕ) → after front text ≡ Some rest → text ≡ front ++ rest
after_taken front text rest e = go (bytes_eq (take (length front) text) front) refl e
  where
    go : (c : Bool) → bytes_eq (take (length front) text) front ≡ c → (if c then Some (drop (length front) text) else None) ≡ Some rest → text ≡ front ++ rest
    go true h f =
        sym (take-append-drop (length front) text) ∙ ap (λ xs. xs ++ drop (length front) text) ((bytes_eq-Decides (take (length front) text) front).0 h)
        ∙ ap (λ xs. front ++ xs) (some_same (drop (length front) text) rest f)
    go false h f = absurd (none_some rest f)
