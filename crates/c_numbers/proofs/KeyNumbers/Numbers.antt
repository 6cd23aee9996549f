-- Equality of numbers, read from either side.
use Rattle.std.proofs.Common.{◌≡◌, ℕ, Bool, true, false, ◌||◌, List, [], ◌∷◌, ◌++◌, refl, sym, ap, ◌∙◌}
use Rattle.std.specs.Prelude.{◌==◌, if◌then◌else◌}
use Rattle.std.specs.List.{list_any}
use Rattle.std.proofs.lemmas.Bool.{eq-eqb, eqb-true}
use Rattle.c_numbers.specs.KeyNumbers.Numbers.{with_number}

alike : (a b : Bool) → (a ≡ true → b ≡ true) → (b ≡ true → a ≡ true) → a ≡ b
alike true b f g = sym (f refl)
alike false true f g = g refl
alike false false f g = refl

turned : (n m : ℕ) → (n == m) ≡ (m == n)
turned n m = alike _ _ (λ h. eq-eqb m n (sym (eqb-true n m h))) (λ h. eq-eqb n m (sym (eqb-true m n h)))

pub either_way : (number : ℕ) (numbers : List ℕ) → list_any (λ n. number == n) numbers ≡ list_any (λ n. n == number) numbers
either_way number [] = refl
either_way number (n ∷ more) = ap (λ b. b || list_any (λ n. number == n) more) (turned number n) ∙ ap (λ b. (n == number) || b) (either_way number more)

pub added_is : (numbers : List ℕ) (number : ℕ) → (if list_any (λ n. number == n) numbers then numbers else numbers ++ number ∷ []) ≡ with_number numbers number
added_is numbers number = ap (λ b. if b then numbers else numbers ++ number ∷ []) (either_way number numbers)
