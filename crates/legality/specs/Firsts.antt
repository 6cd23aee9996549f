-- The first violation of each record, as it is kept: by file, by byte, then in the order of the tests.
use Rattle.std.specs.Prelude.{◌≡◌, ℕ, nat_lt, Bool, if◌then◌else◌, List, Option, Some, None, fold, slice_get, slice_set}
use Rattle.c_typed.specs.RunCounts.Order.{is_less_or}
use Rattle.legality.specs.declared.violation.Test.{Test}
use Rattle.legality.specs.declared.violation.Test.TheVariants.{Cstt, Cstf, Atkn, Libc, Ind, Mset, Nest, Size, Objt, Copy}
use Rattle.legality.specs.declared.violation.Violation.{Violation}
use Rattle.legality.specs.Breaches.{Breach}

-- the row of a test
abbrev pub row : Test → ℕ
row Cstt = 0
row Cstf = 1
row Atkn = 2
row Libc = 3
row Ind = 4
row Mset = 5
row Nest = 6
row Size = 7
row Objt = 8
row Copy = 9

abbrev pub stands_before : Violation → Violation → Bool
stands_before x y = is_less_or x.place.file y.place.file (is_less_or x.place.at y.place.at (nat_lt (row x.test) (row y.test)))

-- the former of two, of which the first may be missing
abbrev pub former : Option Violation → Violation → Option Violation
former None y = Some y
former (Some x) y = if stands_before y x then Some y else Some x

abbrev pub set_if : List (Option Violation) → Breach → Option (Option Violation) → List (Option Violation)
set_if firsts b None = firsts
set_if firsts b (Some best) = slice_set firsts b.of (former best b.by)

-- numbers past the list's end are those of no record of the program
abbrev pub marked : List (Option Violation) → Breach → List (Option Violation)
marked firsts b = set_if firsts b (slice_get firsts b.of)

abbrev pub Marks : (old new : List (Option Violation)) → List Breach → Type 0
Marks old new more = new ≡ fold marked old more
