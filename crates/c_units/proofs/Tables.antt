-- A number is in a set exactly where it is in the list of which the set is made.
use Rattle.std.proofs.Common.{◌≡◌, ℕ, Bool, true, false, ◌||◌, List, [], ◌∷◌, ◌++◌, fold, refl, sym, ap, ◌∙◌}
use Rattle.std.specs.Prelude.{◌==◌, if◌then◌else◌}
use Rattle.std.proofs.lemmas.Bool.Decides.{Decides-eqb}
use Rattle.std.proofs.lemmas.List.Folds.{list_any-append}
use Rattle.c_numbers.specs.KeyNumbers.Numbers.{with_number}
use Rattle.c_erasure.specs.Units.{is_among}

either : (b : Bool) → (b || false) ≡ b
either true = refl
either false = refl

joined : (a b c : Bool) → ((a || b) || c) ≡ (a || (b || c))
joined true b c = refl
joined false b c = refl

added : (set : List ℕ) (p n : ℕ) → is_among (with_number set p) n ≡ (is_among set n || (p == n))
added set p n = go (is_among set p) refl
  where
    same : (b : Bool) → (p == n) ≡ b → is_among set p ≡ true → is_among set n ≡ (is_among set n || b)
    same false k e = sym (either (is_among set n))
    same true k e =
        let at : is_among set n ≡ true = ap (is_among set) (sym ((Decides-eqb p n).0 k)) ∙ e in
        rw at refl

    go : (b : Bool) → is_among set p ≡ b → is_among (if b then set else set ++ p ∷ []) n ≡ (is_among set n || (p == n))
    go true e = same (p == n) refl e
    go false e = list_any-append (λ m. m == n) set (p ∷ []) ∙ ap (λ b. is_among set n || b) (either (p == n))

among : (numbers set : List ℕ) (n : ℕ) → is_among (fold with_number set numbers) n ≡ (is_among set n || is_among numbers n)
among [] set n = sym (either (is_among set n))
among (p ∷ more) set n =
    among more (with_number set p) n ∙ ap (λ b. b || is_among more n) (added set p n) ∙ joined (is_among set n) (p == n) (is_among more n)

pub gathered : (numbers set : List ℕ) → set ≡ fold with_number [] numbers → is_among set ≡ is_among numbers
gathered numbers set h =
    let at : (n : ℕ) → is_among set n ≡ is_among numbers n = λ n. ap (λ them. is_among them n) h ∙ among numbers [] n in
    λ i n. at n i
