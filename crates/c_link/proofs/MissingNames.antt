-- What is looked for among the keys of all references is what is used and not defined.
use Rattle.std.proofs.Common.{◌≡◌, ℕ, ◌+◌, ◌==◌, length, Bool, true, false, ◌&&◌, ◌||◌, List, [], ◌∷◌, ◌++◌, Option, All, fold, map, refl, sym, ap}
use Rattle.std.proofs.Common.{◌∙◌}
use Rattle.std.specs.Prelude.{if◌then◌else◌, None, Some, is_some, nat_lt, MatchOption}
use Rattle.std.specs.List.{list_any}
use Rattle.std.specs.Option.{option_map}
use Rattle.std.specs.Str.{bytes_eq}
use Rattle.std.proofs.lemmas.List.Elements.{All-cons, All-head, All-nil, All-tail}
use Rattle.std.proofs.lemmas.List.Folds.{list_any-append}
use Rattle.std.proofs.lemmas.Slice.Eq.{bytes_eq-Decides}
use Rattle.c_typed.specs.declared.program.Object.{Object}
use Rattle.c_typed.specs.declared.program.Function.{Function}
use Rattle.c_typed.specs.declared.statement.Statement.{Statement}
use Rattle.c_typed.specs.Programs.{FunctionData, ProgramData, data_of}
use Rattle.c_typed.specs.Views.{statement_of}
use Rattle.c_typed.specs.References.{Reference, an_object, a_function}
use Rattle.std.proofs.lemmas.Bool.{ltb-false, ltb-true}
use Rattle.c_numbers.proofs.KeyNumbers.Laws.{absent, found}
use Rattle.c_numbers.specs.KeyNumbers.Keys.{is_among, position, with_key}
use Rattle.c_link.specs.Clashes.{trouble_of}
use Rattle.c_link.specs.declared.troubles.Trouble as troubles
use Rattle.c_link.specs.Earliest.{earliest_of}
use Rattle.c_link.specs.Gaps.{HasNone, IsEarliest, IsMissing, Trouble, all_missing, all_references, is_function, is_object, missing_functions, missing_objects}
use Rattle.c_link.specs.Missing.{functions_nowhere, key_of, keys_of, nowhere, objects_nowhere}
use Rattle.c_link.proofs.Earliest.{earliest_or_none}

-- ---- what is among keys that are added one after another

or_false : (a : Bool) → a ≡ (a || false)
or_false true = refl
or_false false = refl

or_true : (a : Bool) → true ≡ (a || true)
or_true true = refl
or_true false = refl

or_assoc : (a b c : Bool) → ((a || b) || c) ≡ (a || (b || c))
or_assoc true b c = refl
or_assoc false b c = refl

with_one : (known : List (List ℕ)) (x y : List ℕ) → is_among (with_key known y) x ≡ (is_among known x || bytes_eq x y)
with_one known x y = go (is_among known y) refl
  where
    there : (b : Bool) → bytes_eq x y ≡ b → is_among known y ≡ true → is_among known x ≡ (is_among known x || b)
    there false e h = or_false (is_among known x)
    there true e h = ap (is_among known) ((bytes_eq-Decides x y).0 e) ∙ h ∙ or_true (is_among known x)

    go : (b : Bool) → is_among known y ≡ b → is_among (if b then known else known ++ y ∷ []) x ≡ (is_among known x || bytes_eq x y)
    go true h = there (bytes_eq x y) refl h
    go false h = list_any-append (bytes_eq x) known (y ∷ []) ∙ ap (λ b. is_among known x || b) (sym (or_false (bytes_eq x y)))

among_all : (x : List ℕ) (xs known : List (List ℕ)) → is_among (fold with_key known xs) x ≡ (is_among known x || list_any (bytes_eq x) xs)
among_all x [] known = or_false (is_among known x)
among_all x (y ∷ more) known =
    among_all x more (with_key known y) ∙ ap (λ b. b || list_any (bytes_eq x) more) (with_one known x y)
    ∙ or_assoc (is_among known x) (bytes_eq x y) (list_any (bytes_eq x) more)

-- a key is there where it has a place
pub among_is : (keys : List (List ℕ)) (x : List ℕ) → nat_lt (position keys x) (length keys) ≡ is_among keys x
among_is keys x = go (nat_lt (position keys x) (length keys)) refl
  where
    go : (b : Bool) → nat_lt (position keys x) (length keys) ≡ b → b ≡ is_among keys x
    go true e = sym (found keys x (ltb-true (position keys x) (length keys) e))
    go false e = sym (absent keys x (ltb-false (position keys x) (length keys) e))

-- ---- references

and_true : (a : Bool) → (a && true) ≡ a
and_true true = refl
and_true false = refl

any_object : (n : ℕ) (all : List Reference) → list_any (bytes_eq (key_of (an_object n))) (map key_of all) ≡ list_any (is_object n) all
any_object n [] = refl
any_object n (an_object m ∷ more) = ap (λ b. b || list_any (bytes_eq (key_of (an_object n))) (map key_of more)) (and_true (n == m))
    ∙ ap (λ b. (n == m) || b) (any_object n more)
any_object n (a_function m ∷ more) = any_object n more

any_function : (n : ℕ) (all : List Reference) → list_any (bytes_eq (key_of (a_function n))) (map key_of all) ≡ list_any (is_function n) all
any_function n [] = refl
any_function n (a_function m ∷ more) = ap (λ b. b || list_any (bytes_eq (key_of (a_function n))) (map key_of more)) (and_true (n == m))
    ∙ ap (λ b. (n == m) || b) (any_function n more)
any_function n (an_object m ∷ more) = any_function n more

object_is_used : (n : ℕ) (all : List Reference) → is_among (keys_of all) (key_of (an_object n)) ≡ list_any (is_object n) all
object_is_used n all = among_all (key_of (an_object n)) (map key_of all) [] ∙ any_object n all

function_is_used : (n : ℕ) (all : List Reference) → is_among (keys_of all) (key_of (a_function n)) ≡ list_any (is_function n) all
function_is_used n all = among_all (key_of (a_function n)) (map key_of all) [] ∙ any_function n all

objects_are : (all : List Reference) (n : ℕ) (os : List Object) → objects_nowhere (keys_of all) n os ≡ missing_objects all n os
objects_are all n [] = refl
objects_are all n (o ∷ more) =
    let t : Trouble = record { name = o.name; place = o.place; first = o.place } in
    ap (λ b. nowhere b (is_some o.initial) t ++ objects_nowhere (keys_of all) (n + 1) more) (object_is_used n all)
    ∙ ap (λ rest. nowhere (list_any (is_object n) all) (is_some o.initial) t ++ rest) (objects_are all (n + 1) more)

functions_are : (all : List Reference) (n : ℕ) (fs : List FunctionData) → functions_nowhere (keys_of all) n fs ≡ missing_functions all n fs
functions_are all n [] = refl
functions_are all n (f ∷ more) =
    let t : Trouble = record { name = f.name; place = f.place; first = f.place } in
    ap (λ b. nowhere b (is_some f.body) t ++ functions_nowhere (keys_of all) (n + 1) more) (function_is_used n all)
    ∙ ap (λ rest. nowhere (list_any (is_function n) all) (is_some f.body) t ++ rest) (functions_are all (n + 1) more)

pub nowhere_is : (p : ProgramData) (used : List (List ℕ)) → used ≡ keys_of (all_references p)
    → objects_nowhere used 0 p.objects ++ functions_nowhere used 0 p.functions ≡ all_missing p
nowhere_is p used h =
    let all = all_references p in
    ap (λ them. objects_nowhere them 0 p.objects ++ functions_nowhere them 0 p.functions) h
    ∙ ap (λ os. os ++ functions_nowhere (keys_of all) 0 p.functions) (objects_are all 0 p.objects)
    ∙ ap (λ fs. missing_objects all 0 p.objects ++ fs) (functions_are all 0 p.functions)

pub missing_or_none : (p : ProgramData) (o : Option troubles.Trouble) → option_map trouble_of o ≡ earliest_of (all_missing p)
    → MatchOption o (HasNone (IsMissing p)) (λ t. IsEarliest (IsMissing p) (trouble_of t))
missing_or_none p o h = earliest_or_none (IsMissing p) (all_missing p) (λ t w. w) (λ t w. w) o h

-- ---- where all are defined, none is missing

false_is_true : false ≡ true → ⊥
false_is_true h = cc

defined_nowhere : (is_used is_defined : Bool) (t : Trouble) → is_defined ≡ true → nowhere is_used is_defined t ≡ []
defined_nowhere true true t h = refl
defined_nowhere false true t h = refl
defined_nowhere true false t h = absurd (false_is_true h)
defined_nowhere false false t h = refl

no_object : (all : List Reference) (n : ℕ) (os : List Object) → All (λ o. is_some o.initial ≡ true) os → missing_objects all n os ≡ []
no_object all n [] h = refl
no_object all n (o ∷ more) h =
    let t : Trouble = record { name = o.name; place = o.place; first = o.place } in
    ap (λ them. them ++ missing_objects all (n + 1) more) (defined_nowhere (list_any (is_object n) all) (is_some o.initial) t (All-head (λ o. is_some o.initial ≡ true) o more h))
    ∙ no_object all (n + 1) more (All-tail (λ o. is_some o.initial ≡ true) o more h)

no_function : (all : List Reference) (n : ℕ) (fs : List FunctionData) → All (λ f. is_some f.body ≡ true) fs → missing_functions all n fs ≡ []
no_function all n [] h = refl
no_function all n (f ∷ more) h =
    let t : Trouble = record { name = f.name; place = f.place; first = f.place } in
    ap (λ them. them ++ missing_functions all (n + 1) more) (defined_nowhere (list_any (is_function n) all) (is_some f.body) t (All-head (λ f. is_some f.body ≡ true) f more h))
    ∙ no_function all (n + 1) more (All-tail (λ f. is_some f.body ≡ true) f more h)

has_body : (o : Option (Statement ℕ)) → is_some o ≡ true → is_some (option_map statement_of o) ≡ true
has_body None h = h
has_body (Some s) h = refl

pub have_bodies : (fs : List Function) → All (λ f. is_some f.body ≡ true) fs → All (λ f. is_some f.body ≡ true) (map data_of fs)
have_bodies [] h = All-nil (λ f. is_some f.body ≡ true)
have_bodies (f ∷ more) h =
    All-cons (λ f. is_some f.body ≡ true) (data_of f) (map data_of more) (has_body f.body (All-head (λ f. is_some f.body ≡ true) f more h))
    (have_bodies more (All-tail (λ f. is_some f.body ≡ true) f more h))

pub none_missing : (p : ProgramData) → All (λ o. is_some o.initial ≡ true) p.objects → All (λ f. is_some f.body ≡ true) p.functions → [] ≡ all_missing p
none_missing p h k =
    let all = all_references p in
    sym (ap (λ them. them ++ missing_functions all 0 p.functions) (no_object all 0 p.objects h) ∙ no_function all 0 p.functions k)
