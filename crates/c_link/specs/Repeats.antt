-- Things under names, one after another, each against the one of its name that stands for those before it.
use Rattle.std.specs.Prelude.{ℕ, Bool, List, [], ◌∷◌, ◌++◌, map, Option, Some, None, slice_get}
use Rattle.c_numbers.specs.KeyNumbers.Keys.{position}
use Rattle.c_link.specs.Joining.{chosen, under}
use Rattle.c_link.specs.Placing.{place}
use Rattle.c_link.specs.Gaps.{Trouble}

abbrev pub told_if_any : {A : Type 0} → (A → A → List Trouble) → Option A → A → List Trouble
told_if_any told None x = []
told_if_any told (Some first) x = told first x

-- of a name the first is kept that is defined, or else the first; `keys` are the names, each once
module _ {A : Type 0} (name : A → List ℕ) (is_defined : A → Bool) (told : A → A → List Trouble) where
  abbrev pub repeats : (keys : List (List ℕ)) → (kept : List A) → List A → List Trouble
  repeats keys kept [] = []
  repeats keys kept (x ∷ more) =
      told_if_any told (slice_get kept (position keys (name x))) x ++ repeats keys (place is_defined kept (position keys (name x)) x) more

  -- the one of a name among some
  abbrev pub of_that_name : List ℕ → List A → Option A
  of_that_name x all = chosen is_defined (under x (map {B = List ℕ × A} (λ y. (name y, y)) all))
