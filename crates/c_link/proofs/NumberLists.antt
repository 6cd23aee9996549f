-- Tables of numbers.
use Rattle.std.proofs.Common.{◌≡◌, ℕ, List, map, get_or, ap, ◌∙◌, rules}
use Rattle.std.proofs.Math.ListN.{get_or-map}
use Rattle.std.proofs.lemmas.Option.{unwrap_or-slice_get}
use Rattle.c_types.specs.declared.ty.Ty.{the_lemmas}
use Rattle.c_types.specs.declared.ty.Ty.TheVariants as T
use Rattle.c_types.specs.Types.{void}
use Rattle.c_types.specs.Views.{type_of}
use Rattle.c_numbers.specs.declared.new_numbers.numbers.Numbers.{Numbers}
use Rattle.c_numbers.specs.NewNumbers.Numbers.{number_at}

pub numbers_are : {A : Type 0} (number : A → ℕ) (none : A) (all : List A) (numbers : Numbers) → numbers.entries ≡ map number all → numbers.otherwise ≡ number none
    → number_at numbers ≡ (λ n. number (get_or all n none))
numbers_are number none all numbers h e =
    let at : (n : ℕ) → number_at numbers n ≡ number (get_or all n none) =
    λ n. unwrap_or-slice_get numbers.entries n numbers.otherwise ∙ ap (λ xs. get_or xs n numbers.otherwise) h ∙ ap (get_or (map number all) n) e
    ∙ get_or-map number all n none in
    λ i n. at n i

pub void_is : type_of T.Void ≡ void
void_is = search (rules, the_lemmas)
