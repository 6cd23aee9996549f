-- The functions that a program defines, in the order of the files and places of their definitions.
use Rattle.std.specs.Prelude.{ℕ, ◌+◌, ◌==◌, nat_lt, ◌≡◌, Bool, true, ◌&&◌, ◌||◌, if◌then◌else◌, List, [], ◌∷◌, is_some}
use Rattle.std.specs.List.{AllByRecursion}
use Rattle.std.specs.List.Sorted.{IsPermutation}
use Rattle.c_typed.specs.declared.run_counts.order.Defined.{Defined}
use Rattle.c_typed.specs.Programs.{FunctionData, ProgramData}

-- those of a list, whose numbers go on from k
abbrev pub defined_from : (k : ℕ) → List FunctionData → List Defined
defined_from k [] = []
defined_from k (f ∷ more) = if is_some f.body then record { number = k; place = f.place } ∷ defined_from (k + 1) more else defined_from (k + 1) more

abbrev pub defined_in : ProgramData → List Defined
defined_in p = defined_from 0 p.functions

-- by a number, and where that is the same, by what comes later
abbrev pub is_less_or : (a b : ℕ) → (later : Bool) → Bool
is_less_or a b later = nat_lt a b || (a == b && later)

-- by the file, the place in it and the number
abbrev pub stands_before : Defined → Defined → Bool
stands_before x y = is_less_or x.place.file y.place.file (is_less_or x.place.at y.place.at (nat_lt x.number y.number))

-- ---- a list in this order

abbrev pub put_in_order : Defined → List Defined → List Defined
put_in_order x [] = x ∷ []
put_in_order x (y ∷ more) = if stands_before x y then x ∷ y ∷ more else y ∷ put_in_order x more

abbrev pub in_order : List Defined → List Defined
in_order [] = []
in_order (x ∷ more) = put_in_order x (in_order more)

abbrev pub profile_order : ProgramData → List Defined
profile_order p = in_order (defined_in p)

-- each stands before all that come after it
abbrev pub Ascends : List Defined → Type 0
Ascends [] = Unit {0}
Ascends (x ∷ more) = AllByRecursion (λ y. stands_before x y ≡ true) more × Ascends more

-- what an order of the defined functions is
pub record IsProfileOrder (p : ProgramData) (order : List Defined) : Type 0 where
  pub permutation : IsPermutation (defined_in p) order
  pub ascends : Ascends order
