-- Code that is kept with its last step first: the step that comes next, and what is left behind a jump.
use Rattle.std.proofs.Common.{◌≡◌, ◌≤◌, ap, sym, ◌∙◌, ℕ, zero, suc, ◌+◌, ◌-◌, List, [], ◌∷◌, ◌++◌, length, Option, Some, reverse, take, drop}
use Rattle.std.proofs.Common.{slice_get, arith, take_all, length-drop, unwrap_or, get_or}
use Rattle.std.proofs.Math.Seq.{drop-append_seam}
use Rattle.std.proofs.lemmas.Grind.{reverse_onto}
use Rattle.std.proofs.lemmas.List.{length-reverse, reverse-append, take-append-drop}
use Rattle.std.proofs.lemmas.Option.{unwrap_or-slice_get}
use Rattle.tac_ir.specs.Code.{data_of, left, led as led_to}
use Rattle.tac_ir.specs.declared.step.Routine.{Routine}
use Rattle.tac_ir.specs.declared.step.Step.{Step}
use Rattle.tac_ir.specs.declared.step.Target.TheVariants as To

next_suc : (code : List Step) (n : ℕ) (i : Step) → slice_get code n ≡ Some i → reverse (take (suc n) code) ≡ i ∷ reverse (take n code)
next_suc [] n i e = cc
next_suc (j ∷ more) zero i e = let same : j ≡ i = cc in ap (λ (k : Step). k ∷ []) same
next_suc (j ∷ more) (suc n) i e =
    reverse_onto (take (suc n) more) j [] ∙ ap (λ (l : List Step). l ++ j ∷ []) (next_suc more n i e)
    ∙ ap (λ (l : List Step). i ∷ l) (sym (reverse_onto (take n more) j []))

pub next : (code : List Step) (n : ℕ) (i : Step) → slice_get code n ≡ Some i → reverse (take (n + 1) code) ≡ i ∷ reverse (take n code)
next code n i e = ap (λ (m : ℕ). reverse (take m code)) (let h : n + 1 ≡ suc n = omega arith in h) ∙ next_suc code n i e

pub led : (code : List Step) (n : ℕ) → reverse (take n code) ≡ left n (reverse code)
led code n = sym (
    ap (λ (m : ℕ). drop (m - n) (reverse code)) (length-reverse code)
    ∙ ap (λ (m : ℕ). drop m (reverse code)) (sym (length-reverse (drop n code) ∙ length-drop n code))
    ∙ ap (λ (c : List Step). drop (length (reverse (drop n code))) c) (ap (λ (c : List Step). reverse c) (sym (take-append-drop n code)) ∙ reverse-append
    (take n code) (drop n code))
    ∙ drop-append_seam (reverse (drop n code)) (reverse (take n code)))

pub led_label : (g : Routine) (l : ℕ) (n : Option ℕ) → n ≡ slice_get g.labels l → reverse (take (unwrap_or n 0) g.code) ≡ led_to (data_of g) (To.Label l)
led_label g l n is = ap (λ (m : ℕ). reverse (take m g.code)) (ap (λ (o : Option ℕ). unwrap_or o 0) is ∙ unwrap_or-slice_get g.labels l 0) ∙ led g.code
    (get_or g.labels l 0)

-- the step that stands first comes next where more are left than there are
pub first_of : (code : List Step) (n k : ℕ) (i : Step) → length code ≤ n → length code ≡ k + 1 → slice_get code k ≡ Some i
    → reverse (take n code) ≡ i ∷ reverse (take k code)
first_of code n k i past last e =
    ap (λ (l : List Step). reverse l) (take_all n code past ∙ sym (take_all (k + 1) code (omega arith))) ∙ next code k i e
