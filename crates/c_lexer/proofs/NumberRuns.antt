-- How far a number goes on, exactly.
use Rattle.std.proofs.Common.{◌≡◌, ℕ, Bool, true, false, ◌&&◌, ◌||◌, List, [], ◌∷◌, ◌++◌, length, refl, ap, arith}
use Rattle.std.specs.Prelude.{◌==◌}
use Rattle.std.proofs.lemmas.Bool.{or_left, or_right, false_from_ne_true}
use Rattle.c_tokens.specs.Characters.{is_digit}
use Rattle.c_tokens.specs.Numbers.{begins_number, goes_on_in_number, GoOnInNumber}
use Rattle.c_lexer.specs.NumberScan.{number_length}

pub number_read : (before : ℕ) (word rest : List ℕ) → GoOnInNumber before word
    → ((c : ℕ) (after : List ℕ) → rest ≡ c ∷ after → GoOnInNumber before (word ++ c ∷ []) → ⊥) → number_length before (word ++ rest) ≡ length word
number_read before [] [] g f = refl
number_read before [] (c ∷ rest) g f =
    let e : goes_on_in_number before c ≡ false = false_from_ne_true _ (λ h. f c rest refl (h, tt)) in
    rw e refl
number_read before (b ∷ word) rest g f =
    rw (g.0, number_read b word rest g.1 (λ c after e h. f c after e (g.0, h))) (omega arith)

or_alone : (x y : Bool) → (x || (y && false)) ≡ true → x ≡ true
or_alone true y h = refl
or_alone false true h = cc
or_alone false false h = cc

-- the bytes that go on, and the others
pub record NumberRun (before : ℕ) (bytes : List ℕ) : Type 0 where
  pub front : List ℕ
  pub rest : List ℕ
  pub is : bytes ≡ front ++ rest
  pub each : GoOnInNumber before front
  pub size : number_length before bytes ≡ length front
  pub stops : (more after : List ℕ) → rest ≡ more ++ after → GoOnInNumber before (front ++ more) → more ≡ []

front_empty : (more after : List ℕ) → [] ≡ more ++ after → more ≡ []
front_empty [] after e = refl
front_empty (c ∷ more) after e = cc

no_byte_more : (before b : ℕ) (bytes more after : List ℕ) → goes_on_in_number before b ≡ false → b ∷ bytes ≡ more ++ after → GoOnInNumber before more
    → more ≡ []
no_byte_more before b bytes [] after h e g = refl
no_byte_more before b bytes (c ∷ more) after h e g = let same : b ≡ c = cc in let k : goes_on_in_number before c ≡ false = rw same at h in cc (k, g.0)

-- every text has such a run
pub number_taken : (before : ℕ) (bytes : List ℕ) → NumberRun before bytes
number_taken before [] = record { front = []; rest = []; is = refl; each = tt; size = refl; stops = λ more after e g. front_empty more after e }
number_taken before (b ∷ bytes) =
    let P : Bool → Type 0 = λ c. goes_on_in_number before b ≡ c → NumberRun before (b ∷ bytes) in
    let goes_on : P true = λ h.
    let r = number_taken b bytes in
    record {
      front = b ∷ r.front;
      rest = r.rest;
      is = ap (λ l. b ∷ l) r.is;
      each = (h, r.each);
      size = rw (h, r.size) (omega arith);
      stops =
          λ more after e g. r.stops more after e g.1;
    } in
    let ends : P false = λ h. record {
      front = [];
      rest = b ∷ bytes;
      is = refl;
      each = tt;
      size = rw h refl;
      stops =
          λ more after e g. no_byte_more before b bytes more after h e g;
    } in
    let each : (c : Bool) → P c = λ c. elim c as P [ true ↦ goes_on | false ↦ ends ] in
    each (goes_on_in_number before b) refl

-- ---- the first bytes

-- a digit goes on after each byte
pub digit_goes_on : (before b : ℕ) → is_digit b ≡ true → goes_on_in_number before b ≡ true
digit_goes_on before b h = or_left _ _ (or_left _ _ (or_right _ _ h))

-- what begins a number begins one with more after it
pub number_whole : (word rest : List ℕ) → begins_number word ≡ true → begins_number (word ++ rest) ≡ true
number_whole [] rest h = cc
number_whole (b ∷ []) rest h = or_left _ _ (or_alone (is_digit b) (b == 46) h)
number_whole (b ∷ c ∷ word) rest h = h

-- a dot before the rest of a run is before its front
pub number_front : (b : ℕ) (front rest : List ℕ) → ((more after : List ℕ) → rest ≡ more ++ after → GoOnInNumber b (front ++ more) → more ≡ [])
    → begins_number (b ∷ (front ++ rest)) ≡ true → begins_number (b ∷ front) ≡ true
number_front b [] [] f h = h
number_front b [] (c ∷ rest) f h =
    let other : is_digit c ≡ false = false_from_ne_true _ (λ d. let e : c ∷ [] ≡ [] = f (c ∷ []) rest refl (digit_goes_on b c d, tt) in cc) in
    rw other at h
number_front b (c ∷ front) rest f h = h
