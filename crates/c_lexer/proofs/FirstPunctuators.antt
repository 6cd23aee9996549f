-- The first punctuator of the table that is a front of a text.
use Rattle.std.proofs.Common.{◌≡◌, ℕ, Bool, true, false, ◌&&◌, ◌||◌, cond, List, [], ◌∷◌, ◌++◌, drop, Some, refl, sym, ap, subst, ◌∙◌, append_assoc}
use Rattle.std.specs.Prelude.{◌==◌, not}
use Rattle.std.proofs.lemmas.Bool.{and_parts, and_from, cond_both, false_from_ne_true, eqb-true, eq-eqb}
use Rattle.std.proofs.lemmas.Option.{same_Some}
use Rattle.c_tokens.specs.declared.punctuator.Punctuator.{Punctuator}
use Rattle.c_tokens.specs.declared.punctuator.Punctuator.TheVariants as M
use Rattle.c_tokens.specs.Characters.{is_white, is_digit, goes_on_in_name, begins}
use Rattle.c_tokens.specs.Punctuators.{punctuator_text}
use Rattle.c_tokens.specs.Numbers.{begins_number}
use Rattle.c_lexer.specs.Scanning.{is_front, first_punctuator, punctuators}

-- ---- fronts

cons_same : (a b : ℕ) (xs ys : List ℕ) → a ≡ b → xs ≡ ys → a ∷ xs ≡ b ∷ ys
cons_same a b xs ys p q = cc

pub front_taken : (word bytes : List ℕ) → is_front word bytes ≡ true → (after : List ℕ) × (bytes ≡ word ++ after)
front_taken [] bytes h = (bytes, refl)
front_taken (w ∷ word) [] h = cc
front_taken (w ∷ word) (b ∷ bytes) h =
    let a = and_parts (w == b) (is_front word bytes) h in
    let r = front_taken word bytes a.1 in
    (r.0, cons_same b w bytes (word ++ r.0) (sym (eqb-true w b a.0)) r.1)

front_itself : (word after : List ℕ) → is_front word (word ++ after) ≡ true
front_itself [] after = refl
front_itself (b ∷ word) after = rw (eq-eqb b b refl) (front_itself word after)

-- what is a front of a front
front_of : (u v after : List ℕ) → is_front u v ≡ true → is_front u (v ++ after) ≡ true
front_of [] v after h = refl
front_of (w ∷ u) [] after h = cc
front_of (w ∷ u) (b ∷ v) after h = let a = and_parts (w == b) (is_front u v) h in and_from _ _ a.0 (front_of u v after a.1)

-- where no front of the rest makes more of a word, whether u is a front does not hang on the rest
same_fronts : (u v rest : List ℕ) → ((more after : List ℕ) → rest ≡ more ++ after → u ≡ v ++ more → more ≡ []) → is_front u (v ++ rest) ≡ is_front u v
same_fronts [] v rest f = refl
same_fronts (w ∷ u) [] rest f =
    false_from_ne_true _ (λ h. let r = front_taken (w ∷ u) rest h in let e : w ∷ u ≡ [] = f (w ∷ u) r.0 r.1 refl in cc)
same_fronts (w ∷ u) (b ∷ v) rest f =
    let P : Bool → Type 0 = λ c. (w == b) ≡ c → (c && is_front u (v ++ rest)) ≡ (c && is_front u v) in
    let same : P true = λ h. same_fronts u v rest (λ more after p q. f more after p (cons_same w b u (v ++ more) (eqb-true w b h) q)) in
    let each : (c : Bool) → P c = λ c. elim c as P [ true ↦ same | false ↦ λ h. refl ] in
    each (w == b) refl

-- ---- the first punctuator

found_front : (table : List Punctuator) (m : Punctuator) (bytes : List ℕ) → first_punctuator table bytes ≡ Some m → is_front (punctuator_text m) bytes ≡ true
found_front [] m bytes h = cc
found_front (n ∷ table) m bytes h =
    cond_both (is_front (punctuator_text n) bytes) (Some n) (first_punctuator table bytes) (λ o. o ≡ Some m → is_front (punctuator_text m) bytes ≡ true)
    (λ e q. subst (λ x. is_front (punctuator_text x) bytes ≡ true) (same_Some n m q) e)
    (λ e q. found_front table m bytes q)
    h

-- the punctuator that was found, and what stands after it
pub found_taken : (m : Punctuator) (bytes : List ℕ) → first_punctuator punctuators bytes ≡ Some m → (after : List ℕ) × (bytes ≡ punctuator_text m ++ after)
found_taken m bytes h = front_taken (punctuator_text m) bytes (found_front punctuators m bytes h)

-- the first punctuator that is a front is the first that is a front of a longer front
first_of_front : (table : List Punctuator) (m : Punctuator) (v after : List ℕ) → first_punctuator table (v ++ after) ≡ Some m
    → is_front (punctuator_text m) v ≡ true → first_punctuator table v ≡ Some m
first_of_front [] m v after h f = cc
first_of_front (n ∷ table) m v after h f =
    let P : Bool → Bool → Type 0 = λ c d. (d ≡ true → c ≡ true) → (first_punctuator table (v ++ after) ≡ Some m → first_punctuator table v ≡ Some m)
    → (n ≡ m → d ≡ true) → cond c (Some n) (first_punctuator table (v ++ after)) ≡ Some m → cond d (Some n) (first_punctuator table v) ≡ Some m in
    let both : P true true = λ i g k h. h in
    let whole : P true false = λ i g k h. let e : false ≡ true = k (same_Some n m h) in cc in
    let part : P false true = λ i g k h. let e : false ≡ true = i refl in cc in
    let neither : P false false = λ i g k h. g h in
    let each : (c d : Bool) → P c d = λ c d. elim c as (λ x. P x d) [
      | true ↦ elim d as
          (λ y. P true y) [ true ↦ both | false ↦ whole ]
      | false ↦ elim d as (λ y. P false y) [ true ↦ part | false ↦ neither ]
    ] in
    each (is_front (punctuator_text n) (v ++ after)) (is_front (punctuator_text n) v) (front_of (punctuator_text n) v after)
    (λ q. first_of_front table m v after q f) (λ e. subst (λ x. is_front (punctuator_text x) v ≡ true) (sym e) f) h

-- each punctuator is the first that is a front of it
first_itself : (m : Punctuator) → first_punctuator punctuators (punctuator_text m) ≡ Some m
first_itself M.OpenSquare = refl
first_itself _ = refl

same_first : (table : List Punctuator) (m : Punctuator) (rest : List ℕ)
    → ((n : Punctuator) (more after : List ℕ) → rest ≡ more ++ after → punctuator_text m ++ more ≡ punctuator_text n → more ≡ [])
    → first_punctuator table (punctuator_text m ++ rest) ≡ first_punctuator table (punctuator_text m)
same_first [] m rest l = refl
same_first (n ∷ table) m rest l = rw (
  same_fronts (punctuator_text n) (punctuator_text m) rest (λ more after p q. l n more after p (sym q)),
  same_first table m rest l,
) refl

-- a punctuator that no front of the rest makes longer is found
pub punctuator_found : (m : Punctuator) (rest : List ℕ) → ((n : Punctuator) (more after : List ℕ) → rest ≡ more ++ after → punctuator_text m ++ more
    ≡ punctuator_text n → more ≡ []) → first_punctuator punctuators (punctuator_text m ++ rest) ≡ Some m
punctuator_found m rest l = same_first punctuators m rest l ∙ first_itself m

no_more : (u more : List ℕ) → u ++ more ≡ u → more ≡ []
no_more [] more h = h
no_more (b ∷ u) more h = no_more u more (let e : u ++ more ≡ u = cc in e)

-- no front of the rest makes the punctuator that is found longer
pub found_longest : (m n : Punctuator) (rest more after : List ℕ) → first_punctuator punctuators (punctuator_text m ++ rest) ≡ Some m → rest
    ≡ more ++ after → punctuator_text m ++ more ≡ punctuator_text n → more ≡ []
found_longest m n rest more after h e w =
    let whole : punctuator_text m ++ rest ≡ punctuator_text n ++ after = ap (λ l. punctuator_text m ++ l) e
    ∙ sym (append_assoc (punctuator_text m) more after) ∙ ap (λ l. l ++ after) w in
    let first : first_punctuator punctuators (punctuator_text n) ≡ Some m =
    first_of_front punctuators m (punctuator_text n) after (subst (λ l. first_punctuator punctuators l ≡ Some m) whole h)
    (subst (λ l. is_front (punctuator_text m) l ≡ true) w (front_itself (punctuator_text m) more)) in
    let same : n ≡ m = same_Some n m (sym (first_itself n) ∙ first) in
    no_more (punctuator_text m) more (w ∙ ap punctuator_text same)

-- ---- the bytes of punctuators

-- no byte that begins a name, a quoted word, white space or a directive, and no digit
abbrev pub begins_punctuator : ℕ → Bool
begins_punctuator b = not (goes_on_in_name b || is_white b || b == 34 || b == 35 || b == 39)

pub punctuator_begins : (m : Punctuator) → begins begins_punctuator (punctuator_text m) ≡ true
punctuator_begins M.OpenSquare = refl
punctuator_begins _ = refl

pub punctuator_no_digit : (m : Punctuator) → begins is_digit (drop 1 (punctuator_text m)) ≡ false
punctuator_no_digit M.OpenSquare = refl
punctuator_no_digit _ = refl

pub punctuator_no_number : (m : Punctuator) → begins_number (punctuator_text m) ≡ false
punctuator_no_number M.OpenSquare = refl
punctuator_no_number _ = refl
