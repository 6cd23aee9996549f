-- The bytes of string literals that initialize an array are found (C99 6.7.8).
use Rattle.std.proofs.Common.{◌≡◌, ℕ, zero, suc, ◌+◌, ◌≤◌, ◌<◌, true, false, refl, sym, ap, ◌∙◌, subst, List, [], ◌∷◌, ◌++◌, length}
use Rattle.std.proofs.Common.{length-append, arith, inl, inr, take}
use Rattle.std.proofs.lemmas.Bool.Decides.{nat_tests}
use Rattle.std.specs.Prelude.{◌⊎◌, Some, Ok, ◌==◌, nat_le}
use Rattle.c_types.specs.Types.{CType, integer, array}
use Rattle.c_types.specs.IntKinds.{width}
use Rattle.c_ast.specs.declared.words.Spelling.{Spelling}
use Rattle.c_erasure.specs.Erasure.{literal_of}
use Rattle.c_erasure.specs.Initializers.{IsTextOf, is_character}
use Rattle.c_erasure.specs.Checking.Answers.{◌>>=◌}
use Rattle.c_erasure.specs.Checking.Initializers.{bytes_in, text_of_array, text_part}
use Rattle.c_checking_laws.proofs.Results.{ok}

within : (n m : ℕ) → n ≤ m → nat_le n m ≡ true
within n m h = grind (arith, nat_tests)

longer : (n m : ℕ) → m < n → nat_le n m ≡ false
longer n m h = grind (arith, nat_tests)

same : (n m : ℕ) → n ≡ m → (n == m) ≡ true
same n m h = grind (arith, nat_tests)

first_part : (bytes : List ℕ) (n : ℕ) → length bytes ≡ n → take n (bytes ++ 0 ∷ []) ≡ bytes
first_part [] zero e = refl
first_part [] (suc n) e = absurd (omega (arith, e))
first_part (x ∷ bytes) zero e = absurd (omega (arith, e))
first_part (x ∷ bytes) (suc n) e = ap (λ z. x ∷ z) (first_part bytes n (omega (arith, e)))

bytes_back : (from n : ℕ) (all bytes : List ℕ) → ((all ≡ bytes) × (length bytes ≤ n)) ⊎ ((all ≡ bytes ++ 0 ∷ []) × (length bytes ≡ n))
    → bytes_in from n all ≡ Ok bytes
bytes_back from n all bytes (inl h) =
    let l : nat_le (length all) n ≡ true = subst (λ all. nat_le (length all) n ≡ true) (sym h.0) (within (length bytes) n h.1) in
    rw l (ap ok h.0)
bytes_back from n all bytes (inr h) =
    let m : length all ≡ n + 1 = ap length h.0 ∙ length-append bytes (0 ∷ []) ∙ ap (λ k. k + 1) h.1 in
    let l : nat_le (length all) n ≡ false = longer (length all) n (omega (arith, m)) in
    let k : (length all == n + 1) ≡ true = same (length all) (n + 1) m in
    rw (l, k) (ap (λ all. ok (take n all)) h.0 ∙ ap ok (first_part bytes n h.1))

pub character_of : (u : CType) (n : ℕ) (all : List Spelling) (bytes : List ℕ) → IsTextOf (array u n) all bytes → is_character u ≡ true
character_of u n all bytes h =
    let e : u ≡ integer h.0 = cc in
    subst (λ u. is_character u ≡ true) (sym e) (same (width h.0) 1 h.3)

pub text_back : (from at n : ℕ) (u : CType) (all : List Spelling) (bytes : List ℕ) → IsTextOf (array u n) all bytes
    → text_of_array from at n true (Some all) ≡ Ok (text_part at bytes)
text_back from at n u all bytes h =
    let e : n ≡ h.1 = cc in
    let f = subst (λ m. ((literal_of all ≡ bytes) × (length bytes ≤ m)) ⊎ ((literal_of all ≡ bytes ++ 0 ∷ []) × (length bytes ≡ m))) (sym e) h.4 in
    ap (λ r. r >>= λ bytes. ok (text_part at bytes)) (bytes_back from n (literal_of all) bytes f)
