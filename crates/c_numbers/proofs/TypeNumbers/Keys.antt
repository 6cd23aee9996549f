-- Keys that are written piece by piece.
use Rattle.std.proofs.Common.{◌≡◌, ℕ, List, [], ◌∷◌, ◌++◌, append_assoc}

pub two_appended : (key : List ℕ) (a b : ℕ) → (key ++ a ∷ []) ++ b ∷ [] ≡ key ++ a ∷ b ∷ []
two_appended key a b = append_assoc key (a ∷ []) (b ∷ [])

pub one_appended : (key : List ℕ) (a : ℕ) (more : List ℕ) → (key ++ a ∷ []) ++ more ≡ key ++ a ∷ more
one_appended key a more = append_assoc key (a ∷ []) more

pub pair_appended : (key : List ℕ) (a b : ℕ) (more : List ℕ) → (key ++ a ∷ b ∷ []) ++ more ≡ key ++ a ∷ b ∷ more
pair_appended key a b more = append_assoc key (a ∷ b ∷ []) more
