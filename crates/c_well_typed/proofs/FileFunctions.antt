-- The unit of a file has no more functions than the file's tree has nodes: each has a declaration among the names of the file (C99 6.7, 6.9.1).
use Rattle.std.proofs.Common.{◌≡◌, ℕ, ◌<◌, ◌≤◌, Bool, true, false, ◌||◌, sym, ap, subst, List, [], ◌∷◌, map, length, arith, eqb, inl, inr}
use Rattle.std.proofs.lemmas.Bool.Decides.{nat_tests}
use Rattle.std.proofs.lemmas.List.{length-map}
use Rattle.std.proofs.lemmas.List.Elements.{recursion_from_All}
use Rattle.std.proofs.lemmas.Map.Steps.{le-length_from_below}
use Rattle.std.proofs.lemmas.Option.{slice_get_cases}
use Rattle.std.specs.Prelude.{◌⊎◌, ◌≢◌, Some, None, slice_get, get_or}
use Rattle.std.specs.List.{list_any}
use Rattle.c_types.specs.Types.{CType}
use Rattle.c_ast.specs.Sizes.{size_items}
use Rattle.c_ast.specs.Trees
use Rattle.c_typed.specs.Programs.{UnitData}
use Rattle.c_erasure.specs.Erasing.{ErasesTo}
use Rattle.c_erasure.specs.Files.{declarations_of, ErasesItem, IsFileOf}
use Rattle.c_erasure.specs.Scopes.{How, Entity, a_function, Bound, FileScope}
use Rattle.c_erasure.specs.Units as Units
use Rattle.c_well_typed.proofs.NamesOfTrees.{names_few}

-- the number of a function; that of what is none is of no matter
abbrev function_number : Entity → ℕ
function_number (a_function n t) = n
function_number e = 0

abbrev function_numbers : List Bound → List ℕ
function_numbers names = map (λ (b : Bound). function_number b.entity) names

same_number : (n : ℕ) → eqb n n ≡ true
same_number n = grind (arith, nat_tests)

or_true : (a b : Bool) → b ≡ true → (a || b) ≡ true
or_true true b h = cc
or_true false b h = h

number_among : (names : List Bound) (n : ℕ) (t : CType) (all : List How) → all ≢ [] → declarations_of names (a_function n t) all
    → list_any (eqb n) (function_numbers names) ≡ true
number_among [] n t all some h = absurd (some h)
number_among (b ∷ names) n t all some (inl h) =
    let e : eqb n (function_number b.entity) ≡ true = subst (λ e. eqb n (function_number e) ≡ true) (sym h.0) (same_number n) in
    ap (λ a. a || list_any (eqb n) (function_numbers names)) e
number_among (b ∷ names) n t all some (inr h) =
    or_true (eqb n (function_number b.entity)) (list_any (eqb n) (function_numbers names)) (number_among names n t all some h.1)

at_number : {A : Type 0} (xs : List A) (n : ℕ) → n < length xs → (x : A) × (slice_get xs n ≡ Some x)
at_number {A} xs n h = by_place (slice_get_cases xs n).1
  where
    by_place : ((x : A) × (n < length xs) × (slice_get xs n ≡ Some x) × (get_or xs n x ≡ x)) ⊎ ((length xs ≤ n) × (slice_get xs n ≡ None))
        → (x : A) × (slice_get xs n ≡ Some x)
    by_place (inl k) = (k.0, k.2)
    by_place (inr k) = let past = k.0 in absurd (omega (arith, past, h))

functions_few : (items : List Trees.Item) (f : FileScope) → IsFileOf items f → length f.functions ≤ (size_items items).nodes
functions_few items f h =
    let all = le-length_from_below (function_numbers f.names) (length f.functions)
    (λ n below. let g = at_number f.functions n below in let d = h.functions n g.0 g.1 in number_among f.names n g.0.ty d.0 d.1 d.2) in
    let numbers = length-map f.names (λ (b : Bound). function_number b.entity) in
    let places = length-map f.names (λ (b : Bound). b.from) in
    let beginnings = ap length h.names in
    let few = names_few f.untagged f items (recursion_from_All (ErasesItem f) items h.each_item) in
    omega (arith, all, numbers, places, beginnings, few)

abbrev pub HasFewFunctions : UnitData → Type 0
HasFewFunctions u = length u.functions ≤ u.nodes

pub units_have_few_functions : (file : ℕ) (name bytes : List ℕ) (items : List Trees.Item) (u : UnitData) → ErasesTo file name bytes items u
    → HasFewFunctions u
units_have_few_functions file name bytes items u e =
    let f = e.annotated in
    subst HasFewFunctions (sym e.unit)
    (subst (λ n. n ≤ (size_items items).nodes) (sym (length-map f.functions (Units.function f))) (functions_few items f e.of_tree))
