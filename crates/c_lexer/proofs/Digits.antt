-- Runs of digits are digits.
use Rattle.std.proofs.Common.{◌≡◌, ℕ, Bool, true, false, ◌&&◌, List, [], ◌∷◌, take, min, zero, suc, ◌+◌, ◌≤◌, refl, arith, cond}
use Rattle.std.proofs.lemmas.Bool.Decides.{nat_tests}
use Rattle.std.specs.List.{prefix_len, list_all}
use Rattle.c_tokens.specs.Characters.{is_digit, is_octal, is_hexadecimal}

run_passes : (p q : ℕ → Bool) → ((b : ℕ) → p b ≡ true → q b ≡ true) → (text : List ℕ) → list_all q (take (prefix_len p text) text) ≡ true
run_passes p q h [] = refl
run_passes p q h (b ∷ text) =
    let P : Bool → Type 0 = λ c. p b ≡ c → list_all q (take (cond c (1 + prefix_len p text) 0) (b ∷ text)) ≡ true in
    let at_true : P true = λ e. (let s : 1 + prefix_len p text ≡ suc (prefix_len p text) = omega arith in rw (s, h b e) (run_passes p q h text)) in
    let each : (c : Bool) → P c = λ c. elim c as P [ true ↦ at_true | false ↦ λ e. refl ] in
    each (p b) refl

pub octal_run_passes : (text : List ℕ) (n : ℕ) → n ≡ prefix_len is_octal text → list_all is_hexadecimal (take n text) ≡ true
octal_run_passes text n e = rw e (run_passes is_octal is_hexadecimal (λ b h. grind (arith, nat_tests)) text)

front_passes : (q : ℕ → Bool) (n m : ℕ) (text : List ℕ) → m ≤ n → list_all q (take n text) ≡ true → list_all q (take m text) ≡ true
front_passes q n zero text l h = refl
front_passes q zero (suc m) text l h = absurd (omega (arith, l))
front_passes q (suc n) (suc m) [] l h = refl
front_passes q (suc n) (suc m) (b ∷ text) l h =
    let P : Bool → Type 0 = λ c. (c && list_all q (take n text)) ≡ true → (c && list_all q (take m text)) ≡ true in
    let each : (c : Bool) → P c = λ c. elim c as P [ true ↦ front_passes q n m text (omega (arith, l)) | false ↦ λ e. e ] in
    each (q b) h

pub octal_front_passes : (text : List ℕ) (n : ℕ) → n ≡ min (prefix_len is_octal text) 3 → list_all is_hexadecimal (take n text) ≡ true
octal_front_passes text n e = front_passes is_hexadecimal (prefix_len is_octal text) n text (omega (arith, e))
    (octal_run_passes text (prefix_len is_octal text) refl)

pub decimal_run_passes : (text : List ℕ) (n : ℕ) → n ≡ prefix_len is_digit text → list_all is_hexadecimal (take n text) ≡ true
decimal_run_passes text n e = rw e (run_passes is_digit is_hexadecimal (λ b h. grind (arith, nat_tests)) text)

pub hexadecimal_run_passes : (text : List ℕ) (n : ℕ) → n ≡ prefix_len is_hexadecimal text → list_all is_hexadecimal (take n text) ≡ true
hexadecimal_run_passes text n e = rw e (run_passes is_hexadecimal is_hexadecimal (λ b h. h) text)
