-- What is missing, as it is looked for: references by keys, and the least number of a structure that no file completes.
use Rattle.std.specs.Prelude.{ℕ, Bool, false, true, not, ◌&&◌, if◌then◌else◌, nat_le, nat_lt, List, [], ◌∷◌, ◌++◌, ◌+◌, map, fold, get_or, Option, Some, None}
use Rattle.std.specs.Prelude.{is_some}
use Rattle.c_numbers.specs.KeyNumbers.Keys.{is_among, with_key}
use Rattle.c_types.specs.Types.{CType}
use Rattle.c_typed.specs.declared.program.Object.{Object}
use Rattle.c_typed.specs.Programs.{FunctionData}
use Rattle.c_typed.specs.References.{Reference, an_object, a_function}
use Rattle.c_link.specs.Gaps.{Trouble, structures_in}

-- ---- references as keys

abbrev pub key_of : Reference → List ℕ
key_of (an_object n) = 0 ∷ n ∷ []
key_of (a_function f) = 1 ∷ f ∷ []

abbrev pub keys_of : List Reference → List (List ℕ)
keys_of all = fold with_key [] (map key_of all)

abbrev pub nowhere : (is_used is_defined : Bool) → Trouble → List Trouble
nowhere is_used is_defined t = if is_used && not is_defined then t ∷ [] else []

abbrev pub object_nowhere : List (List ℕ) → ℕ → Object → List Trouble
object_nowhere used n o = nowhere (is_among used (key_of (an_object n))) (is_some o.initial) (record { name = o.name; place = o.place; first = o.place })

abbrev pub function_nowhere : List (List ℕ) → ℕ → FunctionData → List Trouble
function_nowhere used n f = nowhere (is_among used (key_of (a_function n))) (is_some f.body) (record { name = f.name; place = f.place; first = f.place })

abbrev pub objects_nowhere : List (List ℕ) → ℕ → List Object → List Trouble
objects_nowhere used n [] = []
objects_nowhere used n (o ∷ more) = object_nowhere used n o ++ objects_nowhere used (n + 1) more

abbrev pub functions_nowhere : List (List ℕ) → ℕ → List FunctionData → List Trouble
functions_nowhere used n [] = []
functions_nowhere used n (f ∷ more) = function_nowhere used n f ++ functions_nowhere used (n + 1) more

-- ---- the least number from some number on

abbrev pub lesser_of : Option ℕ → ℕ → Option ℕ
lesser_of None n = Some n
lesser_of (Some m) n = if nat_lt n m then Some n else Some m

abbrev pub lesser : (count : ℕ) → Option ℕ → ℕ → Option ℕ
lesser count best n = if nat_le count n then lesser_of best n else best

abbrev pub least_among : (count : ℕ) → Option ℕ → List ℕ → Option ℕ
least_among count best all = fold (lesser count) best all

abbrev pub least_in : (count : ℕ) → CType → Option ℕ
least_in count t = least_among count None (structures_in t)

abbrev pub lesser_if_any : Option ℕ → Option ℕ → Option ℕ
lesser_if_any best None = best
lesser_if_any best (Some n) = lesser_of best n

-- the least found before and that of the type with a number
abbrev pub lesser_at : List (Option ℕ) → Option ℕ → ℕ → Option ℕ
lesser_at leasts best n = lesser_if_any best (get_or leasts n None)

abbrev pub have_none : List (Option ℕ) → Bool
have_none [] = true
have_none (least ∷ more) = if is_some least then false else have_none more
