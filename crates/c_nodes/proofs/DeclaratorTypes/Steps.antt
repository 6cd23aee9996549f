-- The steps of a declarator, of which the last one in the program's list is taken first.
use Rattle.std.proofs.Common.{◌≡◌, ◌∙◌, ℕ, List, [], ◌∷◌, ◌++◌, refl, ap}
use Rattle.std.specs.Prelude.{Bool, true, false, if◌then◌else◌, nat_lt, map, Ok, Err}
use Rattle.std.proofs.lemmas.List.{reverse-append}
use Rattle.c_types.specs.Types.{CType, CTypes, array, function, pointer, Record}
use Rattle.c_types.specs.Objects.{parts}
use Rattle.c_erasure.specs.Broken.{Fault, too_big}
use Rattle.c_erasure.specs.Declarators.{Shape}
use Rattle.c_erasure.specs.Checking.Answers.{Answer, ◌>>=◌}
use Rattle.c_erasure.specs.Checking.Declaring as Declaring
use Rattle.c_erasure.specs.Checking.Declaring.{derived, element, result_type, small, to_array, to_function}
use Rattle.c_nodes.proofs.Limits.{small_pointer}
use Rattle.c_nodes.specs.declared.declarator_types.declarators.Derivation.{Derivation}
use Rattle.c_nodes.specs.DeclaratorTypes.DeclaratorViews.{array_in, function_in, of_limited_parts, derivation_of, derivations_of}

pub next_step : (steps rest : List Derivation) (step : Derivation) → steps ≡ rest ++ step ∷ []
    → derivations_of steps ≡ derivation_of step ∷ derivations_of rest
next_step steps rest step h = ap derivations_of h ∙ ap (map derivation_of) (reverse-append rest (step ∷ []))

-- what follows two answers follows the second
in_turn : {A B C : Type 0} (r : Answer A) (f : A → Answer B) (g : B → Answer C) → (r >>= λ x. f x >>= g) ≡ ((r >>= f) >>= g)
in_turn (Ok x) f g = refl
in_turn (Err fault) f g = refl

-- where a test decides, what follows does so with whatever stands there
decided : {A B C : Type 0} (b : Bool) (x : A) (y : B) (e : Fault) (g : B → Answer C)
    → ((if b then Ok x else Err e) >>= λ u. g y) ≡ ((if b then Ok y else Err e) >>= g)
decided true x y e g = refl
decided false x y e g = refl

limited : {C : Type 0} (records : List Record) (at : ℕ) (t : CType) (g : CType → Answer C)
    → (small records at (pointer t) >>= λ u. g t) ≡ (of_limited_parts at t >>= g)
limited records at t g =
    ap (λ b. (if b then Ok (pointer t) else Err (too_big at)) >>= λ u. g t) (small_pointer records t)
    ∙ decided (nat_lt (parts t) 1024) (pointer t) t (too_big at) g

pub array_step : (records : List Record) (count at n : ℕ) (t : CType) (more : List Declaring.Derivation)
    → derived records (to_array count at n ∷ more) t ≡ (array_in records count at n t >>= λ u. derived records more u)
unfolding derived
array_step records count at n t more =
    in_turn (element records count at t) (λ e. small records at (array e n)) (λ u. derived records more u)

function_from : (records : List Record) (at : ℕ) (parameters : CTypes) (r : Answer CType) (g : CType → Answer Shape)
    → (r >>= λ t. small records at (pointer (function t parameters)) >>= λ u. g (function t parameters))
    ≡ ((r >>= λ t. of_limited_parts at (function t parameters)) >>= g)
function_from records at parameters (Ok t) g = limited records at (function t parameters) g
function_from records at parameters (Err fault) g = refl

pub function_step : (records : List Record) (at : ℕ) (parameters : CTypes) (t : CType) (more : List Declaring.Derivation)
    → derived records (to_function at parameters ∷ more) t ≡ (function_in at parameters t >>= λ u. derived records more u)
unfolding derived
function_step records at parameters t more = function_from records at parameters (result_type at t) (λ u. derived records more u)
