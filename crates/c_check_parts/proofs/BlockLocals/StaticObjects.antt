-- An object of a block that is made before the program starts: it is bound, then its initializer is found, and it is replaced.
use Rattle.std.proofs.Common.{◌≡◌, ◌∙◌, sym, ap}
use Rattle.std.specs.Prelude.{Ok, Some}
use Rattle.lay_base.specs.declared.place.Place.{Place}
use Rattle.c_types.specs.Types.{CType}
use Rattle.c_ast.specs.declared.words.Spelling.{Spelling}
use Rattle.c_ast.specs.Places.{first_declarator}
use Rattle.c_ast.specs.Trees
use Rattle.c_typed.specs.Trees as Typed
use Rattle.c_erasure.specs.Erasure.{place_in}
use Rattle.c_erasure.specs.Noted.{Noted}
use Rattle.c_erasure.specs.Scopes.{AnObject, FileScope, Scope}
use Rattle.c_erasure.specs.Checking.Answers.{◌>>=◌, moved}
use Rattle.c_erasure.specs.Checking.Statements.{constants_if_any, declare_static, objects_in, replaced_object, static_object, with_static}
use Rattle.c_check_parts.specs.BlockLocals.Parts.{object_at, with_new_object}

pub static_found : (s : Scope) (d : Trees.InitDeclarator) (x : Spelling) (t : CType) (place : Place) (one : Scope) (i : Typed.Initializer Noted)
    (f : FileScope) (o : AnObject) → place ≡ place_in s (first_declarator d.declarator x.from) → one ≡ with_new_object s x place t
    → constants_if_any d.value one t ≡ Ok (i, f) → o ≡ object_at x.text place t (Some i)
    → declare_static s d x t ≡ Ok (Typed.no_statements, moved one (replaced_object f (objects_in s) o))
static_found s d x t place one i f o p q h e =
    let w : one ≡ with_static s d x t = q ∙ ap (λ place. with_new_object s x place t) p in
    ap (λ r. r >>= λ j. Ok (Typed.no_statements, moved (with_static s d x t) (replaced_object j.1 (objects_in s) (static_object s d x t (Some j.0)))))
    (ap (λ v. constants_if_any d.value v t) (sym w) ∙ h)
    ∙ ap (λ v. Ok (Typed.no_statements, moved v (replaced_object f (objects_in s) (static_object s d x t (Some i))))) (sym w)
    ∙ ap (λ o. Ok (Typed.no_statements, moved one (replaced_object f (objects_in s) o))) (ap (λ place. object_at x.text place t (Some i)) (sym p) ∙ sym e)
