-- A program has no more functions than it has nodes: each is one of a unit's, and those that are one thing are one (C99 6.2.2).
use Rattle.std.proofs.Common.{◌≡◌, ℕ, suc, ◌+◌, ◌≤◌, Bool, true, false, refl, sym, ap, subst, List, [], ◌∷◌, flat_map, fold, length, arith}
use Rattle.std.proofs.Common.{inl, inr}
use Rattle.std.proofs.lemmas.List.{length-append}
use Rattle.std.specs.Prelude.{if◌then◌else◌, Option, Some, None}
use Rattle.c_typed.specs.Programs.{FunctionData, UnitData, ProgramData}
use Rattle.c_numbers.specs.KeyNumbers.Keys.{is_among, new_keys}
use Rattle.c_link.specs.Joining.{all_functions, all_functions_in, chosen, function_identities, functions, if_any, is_function_defined, joined, numbered_from}
use Rattle.c_link.specs.Joining.{under}
use Rattle.c_link.proofs.JoinedRecords.{IsAmong}
use Rattle.c_well_typed.specs.Within.{ProgramsHaveFewFunctions}
use Rattle.c_well_typed.proofs.FileFunctions.{HasFewFunctions, units_have_few_functions}
use Rattle.c_well_typed.proofs.Limits.{programs_are_within_limits}
use Rattle.c_well_typed.proofs.Programs.{each_unit}

-- ---- lists that are no longer than others

one_at_most : {A : Type 0} (x : Option A) → length (if_any x) ≤ 1
one_at_most None = omega arith
one_at_most (Some x) = omega arith

each_at_most : {A B : Type 0} (pick : A → Option B) (all : List A) → length (flat_map (λ x. if_any (pick x)) all) ≤ length all
each_at_most pick [] = omega arith
each_at_most pick (x ∷ all) =
    omega (arith, length-append (if_any (pick x)) (flat_map (λ x. if_any (pick x)) all), one_at_most (pick x), each_at_most pick all)

new_at_most : (known all : List (List ℕ)) → length (new_keys known all) ≤ length all
new_at_most known [] = omega arith
new_at_most known (x ∷ all) = by_test (is_among known x) (new_at_most known all) (new_at_most (x ∷ known) all)
  where
    by_test : (b : Bool) → length (new_keys known all) ≤ length all → length (new_keys (x ∷ known) all) ≤ length all
        → length (if b then new_keys known all else x ∷ new_keys (x ∷ known) all) ≤ suc (length all)
    by_test true l k = omega (arith, l)
    by_test false l k = omega (arith, k)

-- ---- the functions of units

as_many : (k n : ℕ) (all : List FunctionData) → length (function_identities k n all) ≡ length all
as_many k n [] = refl
as_many k n (f ∷ all) = ap suc (as_many k (n + 1) all)

abbrev identities : ℕ → List UnitData → List (List ℕ)
identities k units = flat_map (λ (u : ℕ × UnitData). function_identities u.0 0 u.1.functions) (numbered_from k units)

units_few : (k n : ℕ) (units : List UnitData) → ((u : UnitData) → IsAmong u units → HasFewFunctions u)
    → n + length (identities k units) ≤ fold (λ n u. n + u.nodes) n units
units_few k n [] each = omega arith
units_few k n (u ∷ more) each =
    let own = function_identities k 0 u.functions in
    let few = each u (inl refl) in
    let rest = units_few (k + 1) (n + u.nodes) more (λ v i. each v (inr i)) in
    omega (arith, length-append own (identities (k + 1) more), as_many k 0 u.functions, few, rest)

joined_few : (units : List UnitData) → ((u : UnitData) → IsAmong u units → HasFewFunctions u) → length (functions units) ≤ (joined units).nodes
joined_few units each =
    let all = each_at_most (λ i. chosen is_function_defined (under i (all_functions_in units))) (all_functions units) in
    let keys = new_at_most [] (identities 0 units) in
    let few = units_few 0 0 units each in
    omega (arith, all, keys, few)

pub programs_have_few_functions : ProgramsHaveFewFunctions
programs_have_few_functions files p h =
    let e = h.program.joined_units in
    let limits = programs_are_within_limits files p h in
    let nodes = limits.nodes in
    let each = each_unit HasFewFunctions (λ number file u own. units_have_few_functions number file.name file.bytes own.items u own.erases)
    0 files h.units h.of_files in
    let few = subst (λ (p : ProgramData). length p.functions ≤ p.nodes) (sym e) (joined_few h.units each) in
    omega (arith, few, nodes)
