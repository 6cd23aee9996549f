-- How often functions were entered and the bodies of loops began, by their numbers.
use Rattle.std.specs.Prelude.{◌≡◌, ℕ, ◌+◌, ◌-◌, ◌^◌, min, List, length, map, Option, Some, None, slice_get, slice_set}

pub record Counting : Type 0 where
  -- of each function
  pub entries : List ℕ
  -- of each loop of each function
  pub begins : List (List ℕ)

-- as many as before
pub record KeepsShape (old new : Counting) : Type 0 where
  pub entries : length new.entries ≡ length old.entries
  pub begins : map length new.begins ≡ map length old.begins

-- a count stops at its last value
abbrev pub one_more : ℕ → ℕ
one_more n = min (n + 1) (2 ^ 64 - 1)

-- one of the counts rises, where there is one
abbrev pub risen : List ℕ → (k : ℕ) → Option ℕ → List ℕ
risen all k None = all
risen all k (Some n) = slice_set all k (one_more n)

abbrev pub raised : List ℕ → (k : ℕ) → List ℕ
raised all k = risen all k (slice_get all k)

abbrev pub raised_in : List (List ℕ) → (g l : ℕ) → Option (List ℕ) → List (List ℕ)
raised_in all g l None = all
raised_in all g l (Some loops) = slice_set all g (raised loops l)

-- a function is entered
abbrev pub with_entry : Counting → (function : ℕ) → Counting
with_entry c f = record c { entries = raised c.entries f }

-- the body of a loop of a function begins
abbrev pub with_begin : Counting → (function loop : ℕ) → Counting
with_begin c g l = record c { begins = raised_in c.begins g l (slice_get c.begins g) }
