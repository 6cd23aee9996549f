-- Character constants and string literals: reading a word from the left finds its characters.
use Rattle.std.proofs.Common.{◌≡◌, ℕ, zero, suc, ◌+◌, ◌-◌, ◌≤◌, ◌<◌, Bool, true, false, cond, List, [], ◌∷◌, ◌++◌, length, take, drop, map, Option}
use Rattle.std.proofs.Common.{Some, None, Ok, Err, refl, sym, ap, subst, ◌∙◌, arith, inl, inr, ◌⊎◌, length-append}
use Rattle.std.specs.Prelude.{◌==◌, option_map}
use Rattle.std.specs.List.{All, Any, list_any}
use Rattle.std.proofs.lemmas.Bool.{cond-true, cond-false, or_parts, eqb-true, eq-eqb, leb-true, leb-false, le-leb, lt-leb}
use Rattle.std.proofs.lemmas.List.{take_at, drop_at, nil_from_length}
use Rattle.std.proofs.lemmas.List.Elements.{All-nil, All-cons, All-weaker}
use Rattle.std.proofs.lemmas.List.Folds.{list_any_none, Any-from_list_any, list_any-from_Any}
use Rattle.std.proofs.lemmas.Option.{same_Some}
use Rattle.c_tokens.specs.declared.part.Shape.TheVariants as S
use Rattle.c_tokens.specs.declared.token.TokenKind.{TokenKind}
use Rattle.c_tokens.specs.declared.token.TokenKind.TheVariants as K
use Rattle.c_tokens.specs.declared.fault.FaultKind.TheVariants.{BadLiteral, TooWide}
use Rattle.c_tokens.specs.Quoted.{IsQuoted, Item, item_text, item_value, AreItems, HasItems}
use Rattle.c_tokens.specs.QuotedScan.{item_at, with_item, values_in, is_too_great, body_of, character_with, text_with, character_of, string_of}
use Rattle.c_tokens.specs.Words.{IsToken, IsMalformed, IsTooWide}
use Rattle.c_lexer.proofs.Items.{read_value, read_great, read_small, item_read, IsItemAt, item_taken}
use Rattle.c_lexer.proofs.TokenSays.{Says}

-- ---- the items of a body

item_long : (item : Item) → 0 < length (item_text item)
item_long (Item.plain b) = omega arith
item_long (Item.simple b) = omega arith
item_long (Item.octal digits) = omega arith
item_long (Item.hexadecimal digits) = omega arith

values_end : (n : ℕ) → values_in n [] ≡ Some []
values_end zero = refl
values_end (suc n) = refl

values_more : (n : ℕ) (body : List ℕ) → 0 < length body → values_in (suc n) body ≡ with_item (item_at body) (λ size. values_in n (drop size body))
values_more n [] h = absurd (omega (arith, h))
values_more n (b ∷ body) h = refl

-- the items of a body are read, where enough steps are allowed
pub items_read : (items : List Item) (n : ℕ) (body : List ℕ) → AreItems items body → length body ≤ n → values_in n body ≡ Some (map read_value items)
items_read [] n body are h = ap (values_in n) are ∙ values_end n
items_read (item ∷ items) zero body are h =
    let e = ap length are.1 in absurd (omega (arith, h, e, length-append (item_text item) are.0, item_long item))
items_read (item ∷ items) (suc n) body are h =
    let whole = item_text item ++ are.0 in
    let size : length body ≡ length (item_text item) + length are.0 = ap length are.1 ∙ length-append (item_text item) are.0 in
    ap (values_in (suc n)) are.1
    ∙ values_more n whole (omega (arith, length-append (item_text item) are.0, item_long item))
    ∙ ap (λ o. with_item o (λ size. values_in n (drop size whole))) (item_read item are.0 are.2)
    ∙ ap (λ rest. option_map (λ values. read_value item ∷ values) (values_in n rest)) (drop_at (item_text item) are.0 (length (item_text item)) refl)
    ∙ ap (option_map (λ values. read_value item ∷ values)) (items_read items n are.0 are.3 (omega (arith, h, size, item_long item)))

-- the first value, and what the rest gives
record WithItem (o : Option (ℕ × ℕ)) (more : ℕ → Option (List ℕ)) (values : List ℕ) : Type 0 where
  found : ℕ × ℕ
  rest : List ℕ
  item_is : o ≡ Some found
  more_is : more found.1 ≡ Some rest
  values_are : values ≡ found.0 ∷ rest

with_item_taken : (o : Option (ℕ × ℕ)) (more : ℕ → Option (List ℕ)) (values : List ℕ) → with_item o more ≡ Some values → WithItem o more values
with_item_taken None more values h = cc
with_item_taken (Some found) more values h =
    let P : Option (List ℕ) → Type 0 = λ r. more found.1 ≡ r → option_map (λ values. found.0 ∷ values) r ≡ Some values → WithItem (Some found) more values in
    let each : (r : Option (List ℕ)) → P r = λ r. elim r as P [
      | None ↦ λ e h. cc
      | Some rest ↦ λ e h. record { found = found; rest = rest; item_is = refl; more_is = e; values_are = sym (same_Some (found.0 ∷ rest) values h) }
    ] in
    each (more found.1) refl h

-- what stands after the item that was found
item_after : (bytes : List ℕ) (found : ℕ × ℕ) (it : IsItemAt bytes found) → drop found.1 bytes ≡ it.rest
item_after bytes found it =
    ap (λ f. drop f.1 bytes) it.found_is
    ∙ ap (drop (length (item_text it.item))) it.bytes_are
    ∙ drop_at (item_text it.item) it.rest (length (item_text it.item)) refl

-- what is read is the items of the body
pub items_taken : (n : ℕ) (body values : List ℕ) → length body ≤ n → values_in n body ≡ Some values
    → (items : List Item) × AreItems items body × (values ≡ map read_value items)
items_taken zero [] values h e = ([], refl, sym (same_Some [] values e))
items_taken (suc n) [] values h e = ([], refl, sym (same_Some [] values e))
items_taken zero (b ∷ body) values h e = absurd (omega (arith, h))
items_taken (suc n) (b ∷ body) values h e =
    let whole = b ∷ body in
    let w = with_item_taken (item_at whole) (λ size. values_in n (drop size whole)) values e in
    let it = item_taken whole w.found w.item_is in
    let size : length whole ≡ length (item_text it.item) + length it.rest = ap length it.bytes_are ∙ length-append (item_text it.item) it.rest in
    let more = items_taken n it.rest w.rest (omega (arith, h, size, item_long it.item)) (ap (values_in n) (sym (item_after whole w.found it)) ∙ w.more_is) in
    (it.item ∷ more.0, (it.rest, it.bytes_are, it.is_item, more.1), w.values_are ∙ ap (λ v. v.0 ∷ w.rest) it.found_is ∙ ap (λ l. read_value it.item ∷ l) more.2)

-- ---- words

-- what stands between the quotes is found
pub body_read : (quote : ℕ) (body word : List ℕ) → word ≡ quote ∷ body ++ quote ∷ [] → body_of word ≡ body
body_read quote body word e =
    let size : length word - 2 ≡ length body = let n = ap length e in omega (arith, n, length-append body (quote ∷ [])) in
    ap (λ n. take n (drop 1 word)) size ∙ ap (λ l. take (length body) (drop 1 l)) e ∙ take_at body (quote ∷ []) (length body) refl

-- what is read for the word that is one item
one_item : (item : Item) (word : List ℕ) → HasItems 39 (item ∷ []) word → character_of word
    ≡ cond (is_too_great (read_value item)) (Err TooWide) (Ok (K.Character (read_value item)))
unfolding character_of
one_item item word has =
    let are = has.2 in
    let text = item_text item in
    let whole = text ++ are.0 in
    let alone : length text ≡ length whole = let n = ap length are.3 in omega (arith, n, length-append text are.0) in
    ap (λ b. character_with (length b) (item_at b)) (body_read 39 has.0 word has.1 ∙ are.1)
    ∙ ap (character_with (length whole)) (item_read item are.0 are.2)
    ∙ cond-true (length text == length whole) _ _ (eq-eqb (length text) (length whole) alone)

pub character_read : (word : List ℕ) (n : ℕ) → IsToken S.Character word (K.Character n) → character_of word ≡ Ok (K.Character n)
character_read word n t =
    let small : item_value t.0 ≤ 255 = rw t.2 t.3 in
    one_item t.0 word t.1
    ∙ ap (λ b. cond b (Err TooWide) (Ok (K.Character (read_value t.0)))) (read_great t.0 ∙ lt-leb 256 (item_value t.0) (omega (arith, small)))
    ∙ ap (λ m. Ok (K.Character m)) (read_small t.0 small ∙ t.2)

pub wide_character_read : (word : List ℕ) → IsTooWide S.Character word → character_of word ≡ Err TooWide
wide_character_read word t =
    one_item t.0 word t.1
    ∙ ap (λ b. cond b (Err TooWide) (Ok (K.Character (read_value t.0)))) (read_great t.0 ∙ le-leb 256 (item_value t.0) t.2)

-- an answer that is no fault of form
not_malformed : (b : Bool) (kind : TokenKind) → cond b (Err TooWide) (Ok kind) ≡ Err BadLiteral → ⊥
not_malformed true kind h = grind arith
not_malformed false kind h = grind arith

-- the word is one item, or reading it says that it is malformed
abbrev IsCharacterOrNot : List ℕ → Type 0
IsCharacterOrNot word = ((item : Item) × HasItems 39 (item ∷ []) word) ⊎ (character_of word ≡ Err BadLiteral)

character_or_not : (word : List ℕ) → IsQuoted 39 word → IsCharacterOrNot word
unfolding character_of
character_or_not word q =
    let body = q.0 in
    let size = length body in
    let inner : character_of word ≡ character_with size (item_at body) = ap (λ b. character_with (length b) (item_at b)) (body_read 39 body word q.1) in
    let measured : (found : ℕ × ℕ) → IsItemAt body found → (c : Bool) → (found.1 == size) ≡ c → item_at body ≡ Some found → IsCharacterOrNot word =
    λ found it c. elim c as (λ c. (found.1 == size) ≡ c → item_at body ≡ Some found → IsCharacterOrNot word) [
      | true ↦ λ e h.
          let n : length (item_text it.item) ≡ size = ap (λ f. f.1) (sym it.found_is) ∙ eqb-true found.1 size e in
          let none : it.rest ≡ [] = nil_from_length it.rest (let m =
          ap length it.bytes_are in omega (arith, m, n, length-append (item_text it.item) it.rest)) in
          inl (it.item, (body, q.1, (it.rest, it.bytes_are, it.is_item, none)))
      | false ↦ λ e h. inr (inner ∙ ap (character_with size) h ∙ cond-false (found.1 == size) _ _ e)
    ] in
    let started : (o : Option (ℕ × ℕ)) → item_at body ≡ o → IsCharacterOrNot word = λ o. elim o as (λ o. item_at body ≡ o → IsCharacterOrNot word) [
      | None ↦ λ h. inr (inner ∙ ap (character_with size) h)
      | Some found ↦ λ h. measured found (item_taken body found h) (found.1 == size) refl h
    ] in
    started (item_at body) refl

one_item_says : (item : Item) (word : List ℕ) → HasItems 39 (item ∷ []) word → (b : Bool) → is_too_great (item_value item) ≡ b
    → Says S.Character word (cond b (Err TooWide) (Ok (K.Character (read_value item))))
one_item_says item word has true h = (item, has, leb-true 256 (item_value item) h)
one_item_says item word has false h =
    let small : item_value item ≤ 255 = let l = leb-false 256 (item_value item) h in omega (arith, l) in
    (item, has, sym (read_small item small), rw (read_small item small) small)

-- what is read for a quoted word is true of it
pub character_taken : (word : List ℕ) → IsQuoted 39 word → Says S.Character word (character_of word)
character_taken word q =
    let one : (item : Item) × HasItems 39 (item ∷ []) word → Says S.Character word (character_of word) = λ i.
    subst (Says S.Character word) (sym (one_item i.0 word i.1)) (one_item_says i.0 word i.1 (is_too_great (read_value i.0)) (sym (read_great i.0))) in
    let none : character_of word ≡ Err BadLiteral → Says S.Character word (character_of word) = λ e.
    let never : IsMalformed S.Character word = λ item has. not_malformed (is_too_great (read_value item)) (K.Character (read_value item))
    (sym (one_item item word has) ∙ e) in
    subst (Says S.Character word) (sym e) never in
    let each : IsCharacterOrNot word → Says S.Character word (character_of word) = elim [ inl i ↦ one i | inr e ↦ none e ] in
    each (character_or_not word q)

pub malformed_character_read : (word : List ℕ) → IsQuoted 39 word → IsMalformed S.Character word → character_of word ≡ Err BadLiteral
malformed_character_read word q m =
    let each : IsCharacterOrNot word → character_of word ≡ Err BadLiteral = elim [ inl i ↦ absurd (m i.0 i.1) | inr e ↦ e ] in
    each (character_or_not word q)

-- ---- strings

great_items : (items : List Item) → list_any is_too_great (map read_value items) ≡ list_any (λ item. is_too_great (item_value item)) items
great_items [] = refl
great_items (item ∷ items) = rw (read_great item, great_items items) refl

-- what is read for the word that is these items
all_items : (items : List Item) (word : List ℕ) → HasItems 34 items word → string_of word
    ≡ cond (list_any (λ item. is_too_great (item_value item)) items) (Err TooWide) (Ok K.Text)
unfolding string_of
all_items items word has =
    let body = has.0 in
    ap (λ b. text_with (values_in (length b) b)) (body_read 34 body word has.1)
    ∙ ap text_with (items_read items (length body) body has.2 (omega arith))
    ∙ ap (λ b. cond b (Err TooWide) (Ok K.Text)) (great_items items)

pub text_read : (word : List ℕ) → IsToken S.Text word K.Text → string_of word ≡ Ok K.Text
text_read word t =
    all_items t.0 word t.1
    ∙ ap (λ b. cond b (Err TooWide) (Ok K.Text)) (list_any_none (λ item. is_too_great (item_value item)) t.0
    (All-weaker (λ item. item_value item ≤ 255) (λ item. is_too_great (item_value item) ≡ false)
    (λ item small. lt-leb 256 (item_value item) (omega (arith, small))) t.0 t.2))

pub wide_text_read : (word : List ℕ) → IsTooWide S.Text word → string_of word ≡ Err TooWide
wide_text_read word t =
    let great : Any (λ item. is_too_great (item_value item) ≡ true) t.0 = (t.2.0, t.2.1, t.2.2, t.2.3, le-leb 256 (item_value t.2.1) t.2.4) in
    all_items t.0 word t.1 ∙ ap (λ b. cond b (Err TooWide) (Ok K.Text)) (list_any-from_Any (λ item. is_too_great (item_value item)) t.0 great)

-- the word is items, or reading it says that it is malformed
abbrev IsTextOrNot : List ℕ → Type 0
IsTextOrNot word = ((items : List Item) × HasItems 34 items word) ⊎ (string_of word ≡ Err BadLiteral)

text_or_not : (word : List ℕ) → IsQuoted 34 word → IsTextOrNot word
unfolding string_of
text_or_not word q =
    let body = q.0 in
    let inner : string_of word ≡ text_with (values_in (length body) body) = ap (λ b. text_with (values_in (length b) b)) (body_read 34 body word q.1) in
    let started : (o : Option (List ℕ)) → values_in (length body) body ≡ o → IsTextOrNot word =
    λ o. elim o as (λ o. values_in (length body) body ≡ o → IsTextOrNot word) [
      | None ↦ λ h. inr (inner ∙ ap text_with h)
      | Some values ↦ λ h. let t = items_taken (length body) body values (omega arith) h in inl (t.0, (body, q.1, t.1))
    ] in
    started (values_in (length body) body) refl

each_small : (items : List Item) → list_any (λ item. is_too_great (item_value item)) items ≡ false → All (λ item. item_value item ≤ 255) items
each_small [] h = All-nil (λ item. item_value item ≤ 255)
each_small (item ∷ items) h =
    let p = or_parts (is_too_great (item_value item)) (list_any (λ item. is_too_great (item_value item)) items) h in
    let small : item_value item ≤ 255 = let l = leb-false 256 (item_value item) p.0 in omega (arith, l) in
    All-cons (λ item. item_value item ≤ 255) item items small (each_small items p.1)

all_items_say : (items : List Item) (word : List ℕ) → HasItems 34 items word → (b : Bool) → list_any (λ item. is_too_great (item_value item)) items
    ≡ b → Says S.Text word (cond b (Err TooWide) (Ok K.Text))
all_items_say items word has true h =
    let great = Any-from_list_any (λ item. is_too_great (item_value item)) items h in
    (items, has, (great.0, great.1, great.2, great.3, leb-true 256 (item_value great.1) great.4))
all_items_say items word has false h = (items, has, each_small items h)

-- what is read for a quoted word is true of it
pub text_taken : (word : List ℕ) → IsQuoted 34 word → Says S.Text word (string_of word)
text_taken word q =
    let all : (items : List Item) × HasItems 34 items word → Says S.Text word (string_of word) = λ i.
    subst (Says S.Text word) (sym (all_items i.0 word i.1)) (all_items_say i.0 word i.1 (list_any (λ item. is_too_great (item_value item)) i.0) refl) in
    let none : string_of word ≡ Err BadLiteral → Says S.Text word (string_of word) = λ e.
    let never : IsMalformed S.Text word = λ items has. not_malformed (list_any (λ item. is_too_great (item_value item)) items) K.Text
    (sym (all_items items word has) ∙ e) in
    subst (Says S.Text word) (sym e) never in
    let each : IsTextOrNot word → Says S.Text word (string_of word) = elim [ inl i ↦ all i | inr e ↦ none e ] in
    each (text_or_not word q)

pub malformed_text_read : (word : List ℕ) → IsQuoted 34 word → IsMalformed S.Text word → string_of word ≡ Err BadLiteral
malformed_text_read word q m =
    let each : IsTextOrNot word → string_of word ≡ Err BadLiteral = elim [ inl i ↦ absurd (m i.0 i.1) | inr e ↦ e ] in
    each (text_or_not word q)
