-- The functions of a program have no more loops than it has nodes.
use Rattle.std.proofs.Common.{◌≡◌, ◌∙◌, ℕ, ◌+◌, ◌≤◌, refl, sym, ap, subst, List, [], ◌∷◌, fold, arith, inl, inr}
use Rattle.std.proofs.lemmas.List.Elements.{recursion_from_All, All-from_recursion}
use Rattle.std.specs.Prelude.{Option, Some, None, All}
use Rattle.std.specs.List.{AllByRecursion}
use Rattle.std.specs.Option.{option_map}
use Rattle.c_typed.specs.RunCounts.Loops.{loops_in_body, loops_of}
use Rattle.c_typed.specs.Mapped.{Renaming, mapped_statement}
use Rattle.c_typed.specs.Programs.{FunctionData, UnitData, ProgramData}
use Rattle.c_typed.specs.Trees as Typed
use Rattle.c_tokens.specs.TokenPlaces.{TokensHavePlaces}
use Rattle.c_numbers.specs.NewNumbers.Parts.{function_in}
use Rattle.c_link.specs.Joining.{joined, tables, renaming, functions, is_function_defined, function_identities}
use Rattle.c_link.proofs.JoinedRecords.{IsAmong, among_at}
use Rattle.c_well_typed.specs.Within.{ProgramsHaveFewLoops}
use Rattle.c_well_typed.proofs.FileLoops.{HasFewLoops, units_have_few_loops}
use Rattle.c_well_typed.proofs.JoinedFunctions.{each_is, is_each}
use Rattle.c_well_typed.proofs.Limits.{programs_are_within_limits}
use Rattle.c_well_typed.proofs.LookedUp.{of_unit as found_unit, unit_among}
use Rattle.c_well_typed.proofs.Programs.{each_unit}
use Rattle.c_well_typed.proofs.StatementLoops.{loops_mapped}

loops_again : (m : Renaming ℕ ℕ) (body : Option (Typed.Statement ℕ)) → loops_in_body (option_map (mapped_statement m) body) ≡ loops_in_body body
loops_again m None = refl
loops_again m (Some s) = loops_mapped m s

abbrev sum_from : ℕ → List UnitData → ℕ
sum_from k units = fold (λ n u. n + u.nodes) k units

at_least : (k : ℕ) (units : List UnitData) → k ≤ sum_from k units
at_least k [] = omega arith
at_least k (u ∷ more) = let r = at_least (k + u.nodes) more in omega (arith, r)

one_of : (k : ℕ) (u : UnitData) (units : List UnitData) → IsAmong u units → u.nodes ≤ sum_from k units
one_of k u [] i = absurd i
one_of k u (v ∷ more) (inl e) =
    let r = at_least (k + v.nodes) more in
    let s : u.nodes ≡ v.nodes = ap (λ (u : UnitData). u.nodes) e in
    omega (arith, r, s)
one_of k u (v ∷ more) (inr i) = one_of (k + v.nodes) u more i

joined_few : (units : List UnitData) → ((u : UnitData) → IsAmong u units → HasFewLoops u) → All (λ f. loops_of f ≤ (joined units).nodes) (functions units)
joined_few units each =
    All-from_recursion (λ (f : FunctionData). loops_of f ≤ (joined units).nodes) (functions units)
    (each_is (λ (f : FunctionData). loops_of f ≤ (joined units).nodes) (functions units) one)
  where
    one : (f : FunctionData) → IsAmong f (functions units) → loops_of f ≤ (joined units).nodes
    one f i =
        let z = found_unit (λ (o : FunctionData). o.is_linked) (λ (o : FunctionData). o.name) (λ (u : UnitData). u.functions) is_function_defined
        (λ k u o. function_in (renaming (tables units) k u) o) function_identities (λ k n. refl) (λ k n x more. refl) units f i in
        let u = z.1 in
        let there = unit_among 0 units (z.0, u) z.2 in
        let own = is_each (λ (f : FunctionData). loops_of f ≤ u.nodes) u.functions
        (recursion_from_All (λ (f : FunctionData). loops_of f ≤ u.nodes) u.functions (each u there)) z.4 (among_at u.functions z.3 z.4 z.5) in
        let few = one_of 0 u units there in
        let same : loops_of f ≡ loops_of z.4 = ap loops_of z.6 ∙ loops_again (renaming (tables units) z.0 u) z.4.body in
        omega (arith, own, few, same)

abbrev IsFew : FunctionData → Type 0
IsFew f = loops_of f ≤ 131072

lower : (n : ℕ) (all : List FunctionData) → n ≤ 131072 → AllByRecursion (λ (f : FunctionData). loops_of f ≤ n) all → AllByRecursion IsFew all
lower n [] l h = tt
lower n (f ∷ all) l h = let k = h.0 in (omega (arith, l, k), lower n all l h.1)

pub programs_have_few_loops : TokensHavePlaces → ProgramsHaveFewLoops
programs_have_few_loops places files p h =
    let e = h.program.joined_units in
    let limits = programs_are_within_limits files p h in
    let each = each_unit HasFewLoops (λ number file u own. units_have_few_loops places number file.name file.bytes own.items u own.tree own.erases)
    0 files h.units h.of_files in
    let few = subst (λ (p : ProgramData). All (λ f. loops_of f ≤ p.nodes) p.functions) (sym e) (joined_few h.units each) in
    All-from_recursion IsFew p.functions
    (lower p.nodes p.functions limits.nodes (recursion_from_All (λ (f : FunctionData). loops_of f ≤ p.nodes) p.functions few))
