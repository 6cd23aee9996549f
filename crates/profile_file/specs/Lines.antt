-- Which bytes are the text of a profile, and at which line other bytes break off.
use Rattle.std.specs.Prelude.{◌≡◌, ℕ, ◌+◌, ◌==◌, if◌then◌else◌, List, [], ◌∷◌, take, Result, Ok, Err}
use Rattle.c_typed.specs.declared.run_counts.counts.Counts.{Counts}
use Rattle.profile_file.specs.declared.fault.ProfileFault.{ProfileFault}
use Rattle.profile_file.specs.declared.fault.ProfileFault.TheVariants.{BadProfile, Memory}
use Rattle.profile_file.specs.Text.{IsProfile, profile_text}

-- a byte in front of the first line
abbrev pub with_byte : ℕ → List (List ℕ) → List (List ℕ)
with_byte b [] = (b ∷ []) ∷ []
with_byte b (line ∷ more) = (b ∷ line) ∷ more

-- each line with the line feed that ends it; behind the last line feed is one more line, which has none and may be empty
abbrev pub lines_of : List ℕ → List (List ℕ)
lines_of [] = [] ∷ []
lines_of (b ∷ more) = if b == 10 then (10 ∷ []) ∷ lines_of more else with_byte b (lines_of more)

-- the first so many lines are those of the text of some counts
abbrev pub Begins : (count : ℕ) → List ℕ → Type 0
Begins count bytes = (c : Counts) × IsProfile c × (take count (lines_of bytes) ≡ take count (lines_of (profile_text c)))

-- the lines before this one, the first of which is 1, begin the text of some counts, and with it they begin none
pub record BreaksAt (line : ℕ) (bytes : List ℕ) : Type 0 where
  pub before : ℕ
  pub is : line ≡ before + 1
  pub begins : Begins before bytes
  pub breaks : Begins line bytes → ⊥

abbrev pub ReadGives : Result Counts ProfileFault → List ℕ → Type 0
ReadGives (Ok c) bytes = IsProfile c × (profile_text c ≡ bytes)
ReadGives (Err (BadProfile line)) bytes = BreaksAt line bytes
ReadGives (Err (Memory want)) bytes = Unit {0}
