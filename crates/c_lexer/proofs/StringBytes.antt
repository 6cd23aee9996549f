-- The bytes of string literals, read from the left.
use Rattle.std.proofs.Common.{◌≡◌, ◌≤◌, ◌<◌, ℕ, true, false, List, [], ◌∷◌, ◌++◌, length, take, drop, map, flat_map, Option, Some, None, refl}
use Rattle.std.proofs.Common.{ap, sym, ◌∙◌, arith, append-nil, append_assoc}
use Rattle.std.specs.Prelude.{option_map}
use Rattle.std.specs.List.{All, list_any}
use Rattle.std.proofs.lemmas.Bool.{or_parts, lt-leb, le-leb}
use Rattle.std.proofs.lemmas.List.Elements.{All-head, All-tail}
use Rattle.c_tokens.specs.Quoted.{Item, item_value, HasItems}
use Rattle.c_tokens.specs.QuotedScan.{item_at, values_in, is_too_great, body_of, bytes_with, string_bytes}
use Rattle.c_tokens.specs.Strings.{IsStringLiteral, AreBytesOf, AreBytesOfAll}
use Rattle.c_lexer.specs.StringBytes.{StringsHaveBytes}
use Rattle.c_lexer.proofs.Items.{read_value, read_small}
use Rattle.c_lexer.proofs.QuotedWords.{items_read, body_read}
use Rattle.c_lexer.proofs.Strings.{values_step}

-- ---- the bytes of a literal

abbrev Small : Item → Type 0
Small item = item_value item ≤ 255

small_values : (items : List Item) → All Small items → map read_value items ≡ map item_value items
small_values [] a = refl
small_values (item ∷ items) a = rw (read_small item (All-head Small item items a), small_values items (All-tail Small item items a)) refl

no_great : (items : List Item) → All Small items → list_any is_too_great (map item_value items) ≡ false
no_great [] a = refl
no_great (item ∷ items) a = rw (
  lt-leb 256 (item_value item) (let small = All-head Small item items a in omega (arith, small)),
  no_great items (All-tail Small item items a),
) refl

-- what is read in the body of a literal
literal_read : (text : List ℕ) (items : List Item) (has : HasItems 34 items text) → All Small items → values_in (length (body_of text)) (body_of text)
    ≡ Some (map item_value items)
literal_read text items has a =
    ap (λ b. values_in (length b) b) (body_read 34 has.0 text has.1)
    ∙ items_read items (length has.0) has.0 has.2 (omega arith)
    ∙ ap Some (small_values items a)

bytes_read : (text : List ℕ) (items : List Item) (has : HasItems 34 items text) → All Small items → string_bytes text ≡ map item_value items
unfolding string_bytes
bytes_read text items has a = ap bytes_with (literal_read text items has a) ∙ rw (no_great items a) refl

pub of_one : (text : List ℕ) → IsStringLiteral text → AreBytesOf text (string_bytes text)
of_one text t = (t.0, t.1, t.2, bytes_read text t.0 t.1 t.2)

of_all : (texts : List (List ℕ)) → All IsStringLiteral texts → AreBytesOfAll texts (flat_map string_bytes texts)
of_all [] a = refl
of_all (text ∷ texts) a = (
  string_bytes text,
  flat_map string_bytes texts,
  of_one text (All-head IsStringLiteral text texts a),
  of_all texts (All-tail IsStringLiteral text texts a),
  refl,
)

no_others : (text bytes others : List ℕ) → AreBytesOf text bytes → AreBytesOf text others → others ≡ bytes
no_others text bytes others a b = b.3 ∙ sym (bytes_read text b.0 b.1 b.2) ∙ bytes_read text a.0 a.1 a.2 ∙ sym a.3

pub strings_have_bytes : StringsHaveBytes
strings_have_bytes = record { of_one = of_one; of_all = of_all; no_others = no_others }

-- ---- steps of the loop over the characters of a text

abbrev with_read : (read : List ℕ) → Option (List ℕ) → Option (List ℕ)
with_read read more = option_map (λ values. read ++ values) more

-- the values that were read, none of them too great, stand behind what was there first, and before those of the rest
pub record ReadsOn (first done rest body : List ℕ) : Type 0 where
  pub read : List ℕ
  pub done_is : done ≡ first ++ read
  pub small : list_any is_too_great read ≡ false
  pub whole : values_in (length body) body ≡ with_read read (values_in (length rest) rest)

nothing_read : (o : Option (List ℕ)) → o ≡ with_read [] o
nothing_read None = refl
nothing_read (Some values) = refl

pub reads_begin : (first body : List ℕ) → ReadsOn first first body body
reads_begin first body = record {
  read = [];
  done_is = sym (append-nil first);
  small = refl;
  whole = nothing_read (values_in (length body) body);
}

one_more : (read : List ℕ) (value : ℕ) (o : Option (List ℕ)) → with_read read (option_map (λ values. value ∷ values) o) ≡ with_read (read ++ value ∷ []) o
one_more read value None = refl
one_more read value (Some values) = ap Some (sym (append_assoc read (value ∷ []) values))

any_in_both : (some more : List ℕ) → list_any is_too_great some ≡ false → list_any is_too_great (some ++ more) ≡ list_any is_too_great more
any_in_both [] more h = refl
any_in_both (value ∷ some) more h =
    let h = or_parts (is_too_great value) (list_any is_too_great some) h in rw h.0 (any_in_both some more h.1)

is_small : (value : ℕ) → value ≤ 255 → list_any is_too_great (value ∷ []) ≡ false
is_small value h = rw (lt-leb 256 value (omega (arith, h))) refl

pub reads_more : (first done rest body : List ℕ) (value size : ℕ) → item_at rest ≡ Some (value, size) → value ≤ 255 → ReadsOn first done rest body
    → ReadsOn first (done ++ value ∷ []) (drop size rest) body
reads_more first done rest body value size item h r = record {
  read = r.read ++ value ∷ [];
  done_is = rw r.done_is (append_assoc first r.read (value ∷ []));
  small = any_in_both r.read (value ∷ []) r.small ∙ is_small value h;
  whole = r.whole ∙ ap (with_read r.read) (values_step rest (value, size) item) ∙ one_more r.read value (values_in (length (drop size rest)) (drop size rest));
}

-- ---- and its ends

kept : (first read : List ℕ) → take (length first) (first ++ read) ≡ first
kept [] read = refl
kept (x ∷ first) read = ap (λ more. x ∷ more) (kept first read)

first_kept : (first done rest body : List ℕ) → ReadsOn first done rest body → take (length first) done ≡ first
first_kept first done rest body r = ap (take (length first)) r.done_is ∙ kept first r.read

-- no more than what was there first, where no bytes are in the body
nothing : (first done rest text : List ℕ) → ReadsOn first done rest (body_of text) → bytes_with (values_in (length (body_of text)) (body_of text)) ≡ []
    → take (length first) done ≡ first ++ string_bytes text
unfolding string_bytes
nothing first done rest text r none =
    first_kept first done rest (body_of text) r ∙ sym (append-nil first) ∙ ap (λ bytes. first ++ bytes) (sym none)

pub reads_none : (first done rest text : List ℕ) → item_at rest ≡ None → 0 < length rest → ReadsOn first done rest (body_of text)
    → take (length first) done ≡ first ++ string_bytes text
reads_none first done [] text none more r = absurd (omega (arith, more))
reads_none first done (b ∷ rest) text none more r =
    let stops : values_in (length (b ∷ rest)) (b ∷ rest) ≡ None = rw none refl in
    nothing first done (b ∷ rest) text r (ap bytes_with (r.whole ∙ ap (with_read r.read) stops))

great_any : (value : ℕ) (more : List ℕ) → 255 < value → list_any is_too_great (value ∷ more) ≡ true
great_any value more h = rw (le-leb 256 value (omega (arith, h))) refl

great_bytes : (read : List ℕ) (value : ℕ) (o : Option (List ℕ)) → list_any is_too_great read ≡ false → 255 < value
    → bytes_with (with_read read (option_map (λ values. value ∷ values) o)) ≡ []
great_bytes read value None small h = refl
great_bytes read value (Some more) small h = rw (any_in_both read (value ∷ more) small ∙ great_any value more h) refl

pub reads_great : (first done rest text : List ℕ) (value size : ℕ) → item_at rest ≡ Some (value, size) → 255 < value → ReadsOn first done rest (body_of text)
    → take (length first) done ≡ first ++ string_bytes text
reads_great first done rest text value size item h r =
    nothing first done rest text r
    (ap bytes_with (r.whole ∙ ap (with_read r.read) (values_step rest (value, size) item))
    ∙ great_bytes r.read value (values_in (length (drop size rest)) (drop size rest)) r.small h)

all_small : (read : List ℕ) → list_any is_too_great read ≡ false → bytes_with (Some (read ++ [])) ≡ read
all_small read small = rw (append-nil read) (rw small refl)

pub reads_end : (first done rest text : List ℕ) → length rest ≡ 0 → ReadsOn first done rest (body_of text) → done ≡ first ++ string_bytes text
unfolding string_bytes
reads_end first done [] text h r = r.done_is ∙ ap (λ bytes. first ++ bytes) (sym (ap bytes_with r.whole ∙ all_small r.read r.small))
reads_end first done (b ∷ rest) text h r = absurd (omega (arith, h))
