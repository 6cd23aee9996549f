-- What is kept of each record is the first of its violations.
use Rattle.std.proofs.Common.{◌≡◌, Option, Some, None, ap, ℕ, zero, suc, length, replicate, ◌==◌, Bool, true, false, List, [], ◌∷◌, refl, sym, ◌∙◌, subst, rules}
use Rattle.std.specs.Prelude.{if◌then◌else◌, fold, slice_get, slice_set}
use Rattle.std.specs.Option.{option_map}
use Rattle.std.proofs.lemmas.Bool.{eqb-true, eqb-false}
use Rattle.std.proofs.lemmas.List.{length-replicate}
use Rattle.legality.specs.declared.violation.Violation.{Violation}
use Rattle.legality.specs.Breaches.{Breach}
use Rattle.legality.specs.Firsts.{former, marked, set_if}
use Rattle.legality.specs.Verdicts.{AreVerdicts, Judges}
use Rattle.legality.proofs.First.{first_among, judges}

set_there : {X : Type 0} (l : List X) (n : ℕ) (old new : X) → slice_get l n ≡ Some old → slice_get (slice_set l n new) n ≡ Some new
set_there [] n old new h = cc
set_there (x ∷ l) zero old new h = refl
set_there (x ∷ l) (suc n) old new h = set_there l n old new h

set_elsewhere : {X : Type 0} (l : List X) (n m : ℕ) (new : X) → (n ≡ m → ⊥) → slice_get (slice_set l n new) m ≡ slice_get l m
set_elsewhere [] n m new h = refl
set_elsewhere (x ∷ l) zero zero new h = absurd (h refl)
set_elsewhere (x ∷ l) zero (suc m) new h = refl
set_elsewhere (x ∷ l) (suc n) zero new h = refl
set_elsewhere (x ∷ l) (suc n) (suc m) new h = set_elsewhere l n m new (λ e. h (ap suc e))

abbrev Kept : List (Option Violation) → ℕ → List Breach → Option (Option Violation)
Kept l number more = option_map (λ best. first_among best number more) (slice_get l number)

-- one mark more
step : (l : List (Option Violation)) (number : ℕ) (b : Breach) (more : List Breach) → Kept (marked l b) number more ≡ Kept l number (b ∷ more)
step l number b more = go (slice_get l b.of) refl (b.of == number) refl
  where
    go : (o : Option (Option Violation)) → slice_get l b.of ≡ o → (e : Bool) → (b.of == number) ≡ e
        → option_map (λ best. first_among best number more) (slice_get (set_if l b o) number)
        ≡ option_map (λ best. first_among (if e then former best b.by else best) number more) (slice_get l number)
    go None h false p = refl
    go None h true p = let s : slice_get l number ≡ None = subst (λ n. slice_get l n ≡ None) (eqb-true b.of number p) h in
        ap (option_map (λ best. first_among best number more)) s ∙ sym (ap (option_map (λ best. first_among (former best b.by) number more)) s)
    go (Some old) h false p = ap (option_map (λ best. first_among best number more)) (set_elsewhere l b.of number (former old b.by) (eqb-false b.of number p))
    go (Some old) h true p =
        let q : b.of ≡ number = eqb-true b.of number p in
        let s : slice_get l number ≡ Some old = subst (λ n. slice_get l n ≡ Some old) q h in
        let t : slice_get (slice_set l b.of (former old b.by)) number ≡ Some (former old b.by)
        = subst (λ n. slice_get (slice_set l b.of (former old b.by)) n ≡ Some (former old b.by)) q (set_there l b.of old (former old b.by) h) in
        ap (option_map (λ best. first_among best number more)) t ∙ sym (ap (option_map (λ best. first_among (former best b.by) number more)) s)

same : (o : Option (Option Violation)) → o ≡ option_map (λ best. best) o
same None = refl
same (Some best) = refl

pub marks : (l : List (Option Violation)) (number : ℕ) (all : List Breach)
    → slice_get (fold marked l all) number ≡ option_map (λ best. first_among best number all) (slice_get l number)
marks l number [] = same (slice_get l number)
marks l number (b ∷ more) = marks (marked l b) number more ∙ step l number b more

-- ---- the verdicts

none_at : (count number : ℕ) (found : Option Violation) → slice_get (replicate count None) number ≡ Some found → found ≡ None
none_at zero number found h = absurd (let k : None ≡ Some found = h in cc)
none_at (suc count) zero found h = let k : Some None ≡ Some found = h in cc
none_at (suc count) (suc number) found h = none_at count number found h

keeps_length : (firsts : List (Option Violation)) (b : Breach) → length (marked firsts b) ≡ length firsts
keeps_length firsts b = go (slice_get firsts b.of)
  where
    go : (o : Option (Option Violation)) → length (set_if firsts b o) ≡ length firsts
    go None = refl
    go (Some old) = search rules

all_keep_length : (firsts : List (Option Violation)) (all : List Breach) → length (fold marked firsts all) ≡ length firsts
all_keep_length firsts [] = refl
all_keep_length firsts (b ∷ more) = all_keep_length (marked firsts b) more ∙ keeps_length firsts b

found_at : (count number : ℕ) (all : List Breach) (found : Option Violation)
    → slice_get (fold marked (replicate count None) all) number ≡ Some found → found ≡ first_among None number all
found_at count number all found h = go (slice_get (replicate count None) number) refl (sym h ∙ marks (replicate count None) number all)
  where
    go : (o : Option (Option Violation)) → slice_get (replicate count None) number ≡ o
        → Some found ≡ option_map (λ best. first_among best number all) o → found ≡ first_among None number all
    go None e k = absurd (let m : Some found ≡ None = k in cc)
    go (Some old) e k =
        let m : Some found ≡ Some (first_among old number all) = k in
        let n : found ≡ first_among old number all = cc in
        n ∙ ap (λ best. first_among best number all) (none_at count number old e)

pub are_verdicts : (count : ℕ) (all : List Breach) → AreVerdicts all count (fold marked (replicate count None) all)
are_verdicts count all = record {
  counted = all_keep_length (replicate count None) all ∙ length-replicate count None;
  judged = λ number found h. subst (Judges all number) (sym (found_at count number all found h)) (judges number all);
}
