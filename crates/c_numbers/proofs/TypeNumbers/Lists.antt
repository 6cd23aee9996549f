-- Lists of types, each renumbered.
use Rattle.std.proofs.Common.{◌≡◌, ℕ, ◌≤◌, List, [], ◌∷◌, length, take, map, refl, sym, ap, ◌∙◌, rules}
use Rattle.std.proofs.lemmas.List.{take_all}
use Rattle.c_types.specs.Types.{and_type, function}
use Rattle.c_types.specs.Views.{listed, type_of}
use Rattle.c_types.specs.declared.ty.Ty.{Ty, the_lemmas}
use Rattle.c_types.specs.declared.ty.Ty.TheVariants as T
use Rattle.c_numbers.specs.TypeNumbers.Renumbered.{renumbered, all_renumbered}

all_listed : (number : ℕ → ℕ) (all : List Ty) → listed (map (λ t. renumbered number (type_of t)) all) ≡ all_renumbered number (listed (map type_of all))
all_listed number [] = refl
all_listed number (t ∷ more) = ap (and_type (renumbered number (type_of t))) (all_listed number more)

renumbered_list : (number : ℕ → ℕ) (all done : List Ty) → map type_of done ≡ map (λ t. renumbered number (type_of t)) all
    → listed (map type_of done) ≡ all_renumbered number (listed (map type_of all))
renumbered_list number all done h = ap listed h ∙ all_listed number all

function_is : (result : Ty) (all : List Ty) → type_of (T.Function result all) ≡ function (type_of result) (listed (map type_of all))
function_is result all = search (rules, the_lemmas)

function_renumbered : (number : ℕ → ℕ) (result returned : Ty) (all copies : List Ty) → type_of returned ≡ renumbered number (type_of result)
    → map type_of copies ≡ map (λ t. renumbered number (type_of t)) all → type_of (T.Function returned copies)
    ≡ renumbered number (type_of (T.Function result all))
function_renumbered number result returned all copies h i =
    function_is returned copies
    ∙ ap (λ t. function t (listed (map type_of copies))) h
    ∙ ap (function (renumbered number (type_of result))) (renumbered_list number all copies i)
    ∙ ap (renumbered number) (sym (function_is result all))

-- the same of a loop that went through all of them
pub function_of_loop : (number : ℕ → ℕ) (result returned : Ty) (all copies : List Ty) (i : ℕ) → length all ≤ i
    → type_of returned ≡ renumbered number (type_of result) → map type_of copies ≡ map (λ t. renumbered number (type_of t)) (take i all)
    → type_of (T.Function returned copies) ≡ renumbered number (type_of (T.Function result all))
function_of_loop number result returned all copies i n h e =
    function_renumbered number result returned all copies h (e ∙ ap (map (λ t. renumbered number (type_of t))) (take_all i all n))
