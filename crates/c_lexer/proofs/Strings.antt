-- Steps of the loop over the characters of a string.
use Rattle.std.proofs.Common.{◌≡◌, ◌≤◌, ◌<◌, ℕ, zero, suc, ◌+◌, Bool, true, false, ◌||◌, List, [], ◌∷◌, drop, length, Option, Some, None, ◌==◌}
use Rattle.std.proofs.Common.{Result, Ok, Err, refl, ap, sym, ◌∙◌, arith, cond}
use Rattle.std.proofs.lemmas.Option.{same_Some}
use Rattle.std.specs.List.{list_any}
use Rattle.std.specs.Option.{option_map}
use Rattle.c_tokens.specs.declared.fault.FaultKind.{FaultKind}
use Rattle.c_tokens.specs.declared.fault.FaultKind.TheVariants.{BadLiteral, TooWide}
use Rattle.c_tokens.specs.declared.token.TokenKind.{TokenKind}
use Rattle.c_tokens.specs.declared.token.TokenKind.TheVariants.{Text}
use Rattle.c_tokens.specs.QuotedScan.{item_at, escape_at, with_item, values_in, is_too_great, text_with}

-- what the rest of a body gives, where a character before it was too great or none was
abbrev pub text_after : Bool → Option (List ℕ) → Result TokenKind FaultKind
text_after wide None = Err BadLiteral
text_after wide (Some values) = cond (wide || list_any is_too_great values) (Err TooWide) (Ok Text)

pub text_begins : (o : Option (List ℕ)) → text_after false o ≡ text_with o
text_begins None = refl
text_begins (Some values) = refl

drop_length : (n : ℕ) (bytes : List ℕ) → length (drop n bytes) ≤ length bytes
drop_length zero bytes = omega arith
drop_length (suc n) [] = omega arith
drop_length (suc n) (b ∷ bytes) = omega (arith, drop_length n bytes)

longer_takes : (o : Option (ℕ × ℕ)) (y : ℕ × ℕ) → option_map (λ it. (it.0, it.1 + 1)) o ≡ Some y → 0 < y.1
longer_takes None y h = cc
longer_takes (Some it) y h = let e : it.1 + 1 ≡ y.1 = ap (λ z. z.1) (same_Some (it.0, it.1 + 1) y h) in omega (arith, e)

-- each character takes a byte
pub item_takes : (text : List ℕ) (y : ℕ × ℕ) → item_at text ≡ Some y → 0 < y.1
item_takes [] y h = cc
item_takes (b ∷ bytes) y h =
    let P : Bool → Type 0 = λ c. cond c (option_map (λ it. (it.0, it.1 + 1)) (escape_at bytes)) (Some (b, 1)) ≡ Some y → 0 < y.1 in
    let at_false : P false = λ e. (let k : 1 ≡ y.1 = ap (λ z. z.1) (same_Some (b, 1) y e) in omega (arith, k)) in
    let each : (c : Bool) → P c = λ c. elim c as P [ true ↦ longer_takes (escape_at bytes) y | false ↦ at_false ] in
    each (b == 92) h

pub drop_shorter : (n : ℕ) (b : ℕ) (bytes : List ℕ) → 0 < n → length (drop n (b ∷ bytes)) ≤ length bytes
drop_shorter zero b bytes h = absurd (omega (arith, h))
drop_shorter (suc n) b bytes h = drop_length n bytes

-- more steps than bytes change nothing
values_enough : (n m : ℕ) (text : List ℕ) → length text ≤ n → length text ≤ m → values_in n text ≡ values_in m text
values_enough n m [] h k = refl
values_enough zero m (b ∷ text) h k = absurd (omega (arith, h))
values_enough (suc n) zero (b ∷ text) h k = absurd (omega (arith, k))
values_enough (suc n) (suc m) (b ∷ text) h k =
    let P : Option (ℕ × ℕ) → Type 0 = λ o. item_at (b ∷ text) ≡ o → with_item o (λ size. values_in n (drop size (b ∷ text)))
    ≡ with_item o (λ size. values_in m (drop size (b ∷ text))) in
    let some : (y : ℕ × ℕ) → P (Some y) = λ y e.
    let short = drop_shorter y.1 b text (item_takes (b ∷ text) y e) in
    ap (option_map (λ values. y.0 ∷ values)) (values_enough n m (drop y.1 (b ∷ text)) (omega (arith, short, h)) (omega (arith, short, k))) in
    let each : (o : Option (ℕ × ℕ)) → P o = λ o. elim o as P [ None ↦ λ e. refl | Some y ↦ some y ] in
    each (item_at (b ∷ text)) refl

-- the values of a body are those of its first character and of its rest
pub values_step : (text : List ℕ) (y : ℕ × ℕ) → item_at text ≡ Some y → values_in (length text) text
    ≡ option_map (λ values. y.0 ∷ values) (values_in (length (drop y.1 text)) (drop y.1 text))
values_step [] y h = cc
values_step (b ∷ text) y h =
    rw h (ap (option_map (λ values. y.0 ∷ values)) (values_enough (length text) (length (drop y.1 (b ∷ text))) (drop y.1 (b ∷ text))
    (drop_shorter y.1 b text (item_takes (b ∷ text) y h)) (omega arith)))

or_apart : (a b c : Bool) → (a || (b || c)) ≡ ((a || b) || c)
or_apart true b c = refl
or_apart false b c = refl

after_one : (wide : Bool) (value : ℕ) (o : Option (List ℕ)) → text_after wide (option_map (λ values. value ∷ values) o)
    ≡ text_after (wide || is_too_great value) o
after_one wide value None = refl
after_one wide value (Some values) = rw (or_apart wide (is_too_great value) (list_any is_too_great values)) refl

pub text_kept : (wide now : Bool) (text rest : List ℕ) (value size : ℕ) (found : Result TokenKind FaultKind) → now ≡ (wide || is_too_great value)
    → rest ≡ drop size text → item_at text ≡ Some (value, size) → text_after wide (values_in (length text) text) ≡ found
    → text_after now (values_in (length rest) rest) ≡ found
text_kept wide now text rest value size found w r h e = rw (w, r) (sym (after_one wide value (values_in (length (drop size text)) (drop size text)))
    ∙ sym (ap (text_after wide) (values_step text (value, size) h)) ∙ e)

pub text_stops : (wide : Bool) (text : List ℕ) → item_at text ≡ None → 0 < length text → text_after wide (values_in (length text) text) ≡ Err BadLiteral
text_stops wide [] h k = absurd (omega (arith, k))
text_stops wide (b ∷ text) h k = rw h refl
