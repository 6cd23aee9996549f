-- Marks of the records that nothing has held back so far: what holds a record back clears its mark.
use Rattle.std.specs.Prelude.{◌≡◌, ℕ, Bool, false, List, fold, slice_set}

-- numbers past the list's end are those of no record of the program
abbrev pub cleared : List Bool → (number : ℕ) → List Bool
cleared marks number = slice_set marks number false

abbrev pub Clears : (old new : List Bool) → List ℕ → Type 0
Clears old new numbers = new ≡ fold cleared old numbers
