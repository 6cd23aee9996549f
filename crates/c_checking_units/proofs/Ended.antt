-- How many definitions ended before a byte is no less than before an earlier one.
use Rattle.std.proofs.Common.{◌≡◌, ℕ, ◌≤◌, Bool, true, false, List, [], ◌∷◌, refl, cond, arith}
use Rattle.std.proofs.lemmas.Bool.Decides.{nat_tests}
use Rattle.std.specs.Prelude.{nat_lt}
use Rattle.c_erasure.specs.Scopes.{ended}

one_grows : (end at by : ℕ) → at ≤ by → cond (nat_lt end at) 1 0 ≤ cond (nat_lt end by) 1 0
one_grows end at by l = by_tests (nat_lt end at) (nat_lt end by) refl refl
  where
    by_tests : (a b : Bool) → nat_lt end at ≡ a → nat_lt end by ≡ b → cond a 1 0 ≤ cond b 1 0
    by_tests true true e f = omega arith
    by_tests true false e f = absurd (grind (arith, nat_tests, e, f, l))
    by_tests false true e f = omega arith
    by_tests false false e f = omega arith

pub ended_grows : (ends : List ℕ) (at by : ℕ) → at ≤ by → ended ends at ≤ ended ends by
ended_grows [] at by l = omega arith
ended_grows (end ∷ ends) at by l =
    let m = ended_grows ends at by l in
    let o = one_grows end at by l in
    omega (arith, m, o)
