-- A word is the spelling of one keyword or of none, and that one is found.
use Rattle.std.proofs.Common.{◌≡◌, ℕ, zero, suc, Bor, ◌+◌, ◌<◌, ◌≤◌, Bool, true, false, List, [], ◌∷◌, ◌++◌, length, map, get_or, Option, Some, None, refl, sym}
use Rattle.std.proofs.Common.{ap}
use Rattle.std.proofs.Common.{◌∙◌, arith, add-zero}
use Rattle.std.specs.Prelude.{◌≢◌, ◌==◌, ◌&&◌, bytes_eq, nat_le}
use Rattle.std.specs.List.{list_all}
use Rattle.std.proofs.lemmas.Bool.{and_parts, cond_both, leb-true, eqb-true}
use Rattle.std.proofs.lemmas.List.{get_or-map}
use Rattle.std.proofs.lemmas.Option.{same_Some}
use Rattle.std.proofs.lemmas.Slice.Eq.{bytes_eq-Decides}
use Rattle.lay_base.specs.declared.faults.Keyword.{Keyword}
use Rattle.lay_base.specs.declared.faults.Keyword.TheVariants as K
use Rattle.lay_base.specs.Keywords.{keyword_text, left_out, left_out_plain, left_out_of_C99, left_out_of_C11, left_out_of_GCC, left_out_beside}
use Rattle.lay_base.specs.KeywordScan.{begins_with_underscore, found_in, left_out_of, number_from, kept, kept_rows, kept_or, keyword_of}

one_on : (n k : ℕ) → n + 1 + k ≡ n + suc k
one_on n k = omega arith

none_on : (k : ℕ) → 0 + k ≡ k
none_on k = omega arith

-- ---- what is found has that text

-- each row has the spelling of its keyword
abbrev AreRows : List (List ℕ × Keyword) → Type 0
AreRows [] = Unit {0}
AreRows (row ∷ rows) = (row.0 ≡ keyword_text row.1) × AreRows rows

rows_are : (keywords : List Keyword) → AreRows (map (λ keyword. (keyword_text keyword, keyword)) keywords)
rows_are [] = tt
rows_are (keyword ∷ keywords) = (refl, rows_are keywords)

row_taken : (rows : List (List ℕ × Keyword)) (word : List ℕ) (keyword : Keyword) → AreRows rows → found_in rows word ≡ Some keyword → word ≡ keyword_text keyword
unfolding found_in
row_taken [] word keyword a h = cc
row_taken (row ∷ rows) word keyword a h =
    cond_both (bytes_eq row.0 word) (Some row.1) (found_in rows word) (λ o. o ≡ Some keyword → word ≡ keyword_text keyword)
    (λ e h. sym ((bytes_eq-Decides row.0 word).0 e) ∙ a.0 ∙ ap keyword_text (same_Some row.1 keyword h))
    (λ _. row_taken rows word keyword a.1) h

-- the texts are those of the numbers from n on
abbrev AreNumbered : ℕ → List (List ℕ) → Type 0
AreNumbered n texts = (k : ℕ) → k < length texts → get_or left_out (n + k) [] ≡ get_or texts k []

number_taken : (n : ℕ) (texts : List (List ℕ)) (word : List ℕ) (keyword : Keyword) → AreNumbered n texts → number_from n texts word ≡ Some keyword
    → word ≡ keyword_text keyword
unfolding number_from
number_taken n [] word keyword a h = cc
number_taken n (text ∷ texts) word keyword a h =
    cond_both (bytes_eq text word) (Some (K.LeftOut n)) (number_from (n + 1) texts word) (λ o. o ≡ Some keyword → word ≡ keyword_text keyword)
    (λ e h. sym ((bytes_eq-Decides text word).0 e) ∙ sym (a 0 (omega arith)) ∙ ap (λ m. get_or left_out m []) (add-zero n)
    ∙ ap keyword_text (same_Some (K.LeftOut n) keyword h))
    (λ _. number_taken (n + 1) texts word keyword (λ k below. ap (λ m. get_or left_out m []) (one_on n k) ∙ a (suc k) (omega (arith, below)))) h

front_at : (texts more : List (List ℕ)) (k : ℕ) → k < length texts → get_or (texts ++ more) k [] ≡ get_or texts k []
front_at [] more k below = absurd (omega (arith, below))
front_at (text ∷ texts) more zero below = refl
front_at (text ∷ texts) more (suc k) below = front_at texts more k (omega (arith, below))

abbrev others : List (List ℕ)
others = left_out_of_C99 ++ left_out_of_C11 ++ left_out_of_GCC ++ left_out_beside

left_out_taken : (word : List ℕ) (keyword : Keyword) → left_out_of word ≡ Some keyword → word ≡ keyword_text keyword
left_out_taken word keyword h =
    cond_both (begins_with_underscore word) (number_from 0 left_out word) (number_from 0 left_out_plain word) (λ o. o ≡ Some keyword → word ≡ keyword_text keyword)
    (λ _. number_taken 0 left_out word keyword (λ k below. ap (λ m. get_or left_out m []) (none_on k)))
    (λ _. number_taken 0 left_out_plain word keyword (λ k below. ap (λ m. get_or left_out m []) (none_on k) ∙ front_at left_out_plain others k below)) h

pub keyword_taken : (word : List ℕ) (keyword : Keyword) → keyword_of word ≡ Some keyword → word ≡ keyword_text keyword
unfolding keyword_of
keyword_taken word keyword h = go (found_in kept_rows word) refl h
  where
    go : (o : Option Keyword) → found_in kept_rows word ≡ o → kept_or o word ≡ Some keyword → word ≡ keyword_text keyword
    go (Some k) e h = row_taken kept_rows word keyword (rows_are kept) (e ∙ h)
    go None e h = left_out_taken word keyword h

-- ---- each keyword is found

abbrev is_numbered : ℕ → Option Keyword → Bool
is_numbered n (Some (K.LeftOut m)) = m == n
is_numbered n _ = false

is_the_number : (n : ℕ) (found : Option Keyword) → is_numbered n found ≡ true → found ≡ Some (K.LeftOut n)
is_the_number n (Some (K.LeftOut m)) h = ap (λ m. Some (K.LeftOut m)) (eqb-true m n h)
is_the_number n _ h = cc

-- is each of these texts found, under the numbers from n on?
abbrev are_found : ℕ → List (List ℕ) → Bool
are_found n [] = true
are_found n (text ∷ texts) = is_numbered n (keyword_of text) && are_found (n + 1) texts

number_found : (n : ℕ) (texts : List (List ℕ)) → are_found n texts ≡ true → (k : ℕ) → k < length texts → keyword_of (get_or texts k []) ≡ Some (K.LeftOut (n + k))
number_found n [] h k below = absurd (omega (arith, below))
number_found n (text ∷ texts) h zero below =
    is_the_number n (keyword_of text) (and_parts _ _ h).0 ∙ ap (λ m. Some (K.LeftOut m)) (sym (add-zero n))
number_found n (text ∷ texts) h (suc k) below =
    number_found (n + 1) texts (and_parts _ _ h).1 k (omega (arith, below)) ∙ ap (λ m. Some (K.LeftOut m)) (one_on n k)

all_found : are_found 0 left_out ≡ true
unfolding keyword_of found_in number_from
all_found = refl

past : (texts : List (List ℕ)) (k : ℕ) → get_or texts k [] ≢ [] → k < length texts
past [] k h = absurd (h refl)
past (text ∷ texts) zero h = omega arith
past (text ∷ texts) (suc k) h = let e = past texts k h in omega (arith, e)

pub keyword_found : (keyword : Keyword) → keyword_text keyword ≢ [] → keyword_of (keyword_text keyword) ≡ Some keyword
unfolding keyword_of found_in
keyword_found K.Auto h = refl
keyword_found K.Break h = refl
keyword_found K.Case h = refl
keyword_found K.Char h = refl
keyword_found K.Const h = refl
keyword_found K.Continue h = refl
keyword_found K.Default h = refl
keyword_found K.Do h = refl
keyword_found K.Else h = refl
keyword_found K.Enum h = refl
keyword_found K.Extern h = refl
keyword_found K.For h = refl
keyword_found K.If h = refl
keyword_found K.Int h = refl
keyword_found K.Long h = refl
keyword_found K.Register h = refl
keyword_found K.Return h = refl
keyword_found K.Short h = refl
keyword_found K.Signed h = refl
keyword_found K.Sizeof h = refl
keyword_found K.Static h = refl
keyword_found K.Struct h = refl
keyword_found K.Switch h = refl
keyword_found K.Typedef h = refl
keyword_found K.Unsigned h = refl
keyword_found K.Void h = refl
keyword_found K.While h = refl
keyword_found (K.LeftOut n) h = number_found 0 left_out all_found n (past left_out n h) ∙ ap (λ m. Some (K.LeftOut m)) (none_on n)

-- ---- no keyword is long

short_at : (texts : List (List ℕ)) (k : ℕ) → list_all (λ text. nat_le (length text) 255) texts ≡ true → length (get_or texts k []) ≤ 255
short_at [] k h = omega arith
short_at (text ∷ texts) zero h = leb-true (length text) 255 (and_parts _ _ h).0
short_at (text ∷ texts) (suc k) h = short_at texts k (and_parts _ _ h).1

pub keyword_short : (keyword : Keyword) → length (keyword_text keyword) ≤ 255
keyword_short K.Auto = omega arith
keyword_short K.Break = omega arith
keyword_short K.Case = omega arith
keyword_short K.Char = omega arith
keyword_short K.Const = omega arith
keyword_short K.Continue = omega arith
keyword_short K.Default = omega arith
keyword_short K.Do = omega arith
keyword_short K.Else = omega arith
keyword_short K.Enum = omega arith
keyword_short K.Extern = omega arith
keyword_short K.For = omega arith
keyword_short K.If = omega arith
keyword_short K.Int = omega arith
keyword_short K.Long = omega arith
keyword_short K.Register = omega arith
keyword_short K.Return = omega arith
keyword_short K.Short = omega arith
keyword_short K.Signed = omega arith
keyword_short K.Sizeof = omega arith
keyword_short K.Static = omega arith
keyword_short K.Struct = omega arith
keyword_short K.Switch = omega arith
keyword_short K.Typedef = omega arith
keyword_short K.Unsigned = omega arith
keyword_short K.Void = omega arith
keyword_short K.While = omega arith
keyword_short (K.LeftOut n) = short_at left_out n refl

-- ---- a text by its number

pub text_there : (texts : List (Bor (List ℕ))) (n : ℕ) (other : Bor (List ℕ)) → n < length texts → (get_or texts n other).now ≡ get_or (map (λ text. text.now) texts) n []
text_there texts n other below = sym (get_or-map (λ text. text.now) texts n other [] below)

pub text_past : (texts : List (Bor (List ℕ))) (n : ℕ) → length texts ≤ n → [] ≡ get_or (map (λ text. text.now) texts) n []
text_past [] n past = refl
text_past (text ∷ texts) zero past = absurd (omega (arith, past))
text_past (text ∷ texts) (suc n) past = text_past texts n (omega (arith, past))
