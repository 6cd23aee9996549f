-- Register 0 stays 0.
use Rattle.std.proofs.Common.{◌≡◌, ℕ, zero, suc, false, List, [], ◌∷◌, refl, rules, sym, ap, slice_set}
use Rattle.std.specs.Prelude.{◌==◌, slice_index}
use Rattle.rv_isa.specs.Step.{with_register}

pub set_again : (registers : List ℕ) (r value : ℕ) → slice_index registers 0 ≡ 0
    → slice_set (slice_set registers r value) 0 0 ≡ with_register registers r value
set_again [] zero value is = refl
set_again [] (suc r) value is = let e : (suc r == 0) ≡ false = search rules in rw e refl
set_again (first ∷ more) zero value is = ap (λ x. x ∷ more) (sym is)
set_again (first ∷ more) (suc r) value is =
    let e : (suc r == 0) ≡ false = search rules in
    rw e (ap (λ x. x ∷ slice_set more r value) (sym is))
