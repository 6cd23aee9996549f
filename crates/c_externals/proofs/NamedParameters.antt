-- Parameters one after another.
use Rattle.std.proofs.Common.{◌≡◌, ◌≢◌, ◌==◌, true, false, ℕ, suc, ◌+◌, List, [], ◌∷◌, Option, Some, None, length, refl, ap, ◌∙◌}
use Rattle.c_types.specs.Types.{CType}
use Rattle.c_types.specs.Views.{listed, types_of}
use Rattle.c_types.specs.declared.ty.Ty.{Ty}
use Rattle.c_ast.specs.Trees
use Rattle.c_ast.specs.declared.words.Spelling.{Spelling}
use Rattle.c_ast.specs.Views.{OneParameter, parameters_of}
use Rattle.c_erasure.specs.Declarators.{declared_name}
use Rattle.c_erasure.specs.Checking.Files.{received_by, named_parameters, received_if_named}

-- as many parameters as types
pub unlike : (all : List OneParameter) (types : List CType) (k : ℕ) → length all ≢ length types → named_parameters (parameters_of all) (listed types) k ≡ None
unlike [] [] k h = absurd (h refl)
unlike [] (t ∷ more) k h = refl
unlike (p ∷ more) [] k h = refl
unlike (p ∷ more) (t ∷ types) k h = ap (received_if_named (declared_name p.2) k t) (unlike more types (k + 1) (λ e. h (ap suc e))) ∙ go (declared_name p.2)
  where
    go : (x : Option Spelling) → received_if_named x k t None ≡ None
    go None = refl
    go (Some x) = refl

-- `void` alone, in a function that takes something
pub with_types : (at : ℕ) (types : List Ty) → (length types == 0) ≡ false → received_by (Some (Trees.void_alone at)) (types_of types) ≡ None
unfolding received_by
with_types at [] h = absurd (let e : true ≡ false = h in cc)
with_types at (t ∷ types) h = refl
