-- The verdict on a record: none where it may be laid out anew, else its first violation.
use Rattle.std.specs.Prelude.{◌≡◌, ℕ, false, List, Option, Some, None, MatchOption, length, slice_get}
use Rattle.legality.specs.declared.violation.Violation.{Violation}
use Rattle.legality.specs.Breaches.{Breach, IsIn, breach}
use Rattle.legality.specs.Firsts.{stands_before}

-- the record has it, and has none that stands before it
pub record IsFirst (all : List Breach) (number : ℕ) (v : Violation) : Type 0 where
  pub is : IsIn (breach number v) all
  pub first : (w : Violation) → IsIn (breach number w) all → stands_before w v ≡ false

-- the record is legal
abbrev pub HasNone : List Breach → ℕ → Type 0
HasNone all number = (v : Violation) → IsIn (breach number v) all → ⊥

-- a violation is found exactly where there is one, and is the first
abbrev pub Judges : List Breach → ℕ → Option Violation → Type 0
Judges all number found = MatchOption found (HasNone all number) (IsFirst all number)

-- a verdict for each of so many records
pub record AreVerdicts (all : List Breach) (count : ℕ) (verdicts : List (Option Violation)) : Type 0 where
  pub counted : length verdicts ≡ count
  pub judged : (number : ℕ) → (found : Option Violation) → slice_get verdicts number ≡ Some found → Judges all number found

abbrev pub if_found : Option (Option Violation) → Option Violation
if_found None = None
if_found (Some found) = found

-- the verdict on the record of that number; none past the last
abbrev pub verdict_of : (verdicts : List (Option Violation)) → (number : ℕ) → Option Violation
verdict_of verdicts number = if_found (slice_get verdicts number)
