-- Which records hold which by value: as fields, as elements of arrays in them, and through records that do.
use Rattle.std.specs.Prelude.{◌≡◌, ◌⊎◌, ◌↔◌, ℕ, ◌==◌, Bool, true, false, ◌||◌, if◌then◌else◌, IsTrue, List, [], ◌∷◌, ◌++◌, Some, fold, length, get_or, slice_get}
use Rattle.c_types.specs.Objects.{is_object}
use Rattle.c_types.specs.Types.{CType, array, structure, Field, Record}

abbrev pub is_among : ℕ → List ℕ → Bool
is_among r [] = false
is_among r (s ∷ more) = s == r || is_among r more

-- those that are not among all
abbrev pub new_in : (all more : List ℕ) → List ℕ
new_in all [] = []
new_in all (r ∷ more) = if is_among r all then new_in all more else r ∷ new_in all more

-- the records of which an object of a type holds one or is one, by what each record holds
abbrev pub held_in : (holdings : List (List ℕ)) → CType → List ℕ
held_in holdings (structure r) = get_or holdings r []
held_in holdings (array t n) = held_in holdings t
held_in holdings t = []

abbrev pub with_field : (holdings : List (List ℕ)) → List ℕ → Field → List ℕ
with_field holdings all f = all ++ new_in all (held_in holdings f.ty)

-- what each record holds, itself first; it holds records before it alone
abbrev pub with_record : (holdings : List (List ℕ)) → Record → List (List ℕ)
with_record holdings r = holdings ++ fold (with_field holdings) (length holdings ∷ []) r.fields ∷ []

abbrev pub holdings_of : List Record → List (List ℕ)
holdings_of records = fold with_record [] records

-- ---- what that is

abbrev pub IsFieldOf : Field → List Field → Type 0
IsFieldOf f [] = ⊥
IsFieldOf f (g ∷ more) = (f ≡ g) ⊎ IsFieldOf f more

-- an object of a type is a record, or holds one by value
pub data Holds (records : List Record) : CType → ℕ → Type 0 where
  itself : (r : ℕ) → Holds records (structure r) r
  in_element : (t : CType) → (n r : ℕ) → Holds records t r → Holds records (array t n) r
  in_field : (s r : ℕ) → (owner : Record) → (f : Field) → slice_get records s ≡ Some owner → IsFieldOf f owner.fields → Holds records f.ty r
      → Holds records (structure s) r

-- just what each object type holds is found
abbrev pub HoldingsAreExact : List Record → Type 0
HoldingsAreExact records = (t : CType) (r : ℕ) → IsTrue (is_object (length records) t)
    → (is_among r (held_in (holdings_of records) t) ≡ true) ↔ Holds records t r
