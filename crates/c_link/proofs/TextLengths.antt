-- The lengths of strings, and one more.
use Rattle.std.proofs.Common.{◌≡◌, ℕ, ◌+◌, List, [], ◌∷◌, ◌++◌, arith}
use Rattle.std.specs.Int.{next_multiple_of}
use Rattle.c_link.specs.Texts.{rounded}

pub one_more : (lengths : List ℕ) (n : ℕ) → rounded (lengths ++ n ∷ []) ≡ rounded lengths + next_multiple_of n 4
one_more [] n = omega arith
one_more (m ∷ more) n = omega (arith, one_more more n)
