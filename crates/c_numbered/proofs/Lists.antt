-- Lists of expressions, statements and arms, each made anew.
use Rattle.std.proofs.Common.{◌≡◌, ◌≤◌, ℕ, List, [], ◌∷◌, ◌++◌, append-nil, drop, length, map, refl, ap, sym, ◌∙◌}
use Rattle.std.proofs.lemmas.List.{at_drop_all}
use Rattle.c_typed.specs.Mapped.{Renaming, mapped, mapped_all, mapped_statement, mapped_statements, mapped_arms}
use Rattle.c_typed.specs.Trees
use Rattle.c_typed.specs.declared.expression.Expression.{Expression as Typed}
use Rattle.c_typed.specs.declared.statement.Arm.{Arm as TypedArm}
use Rattle.c_typed.specs.declared.statement.Statement.{Statement as TypedStatement}
use Rattle.c_types.specs.declared.ty.Ty.{Ty}
use Rattle.c_erasure.specs.Noted.{Noted}
use Rattle.c_annotated.specs.Views.{arm_of as noted_arm, arms_of as noted_arms, expression_of as noted_expression, expressions_of as noted_expressions}
use Rattle.c_annotated.specs.Views.{OneArm as NotedArm, statement_of as noted_statement, statements_of as noted_statements}
use Rattle.c_annotated.specs.Trees.{Expression, Arm, Statement}
use Rattle.c_typed.specs.Views.{arm_of, arms_of, expression_of, expressions_of, statement_of, statements_of}
use Rattle.c_numbered.specs.Numbered.{numbered, numbered_arm}

-- all items are made where nothing is left of them
whole : {X Y Z : Type 0} (g : Y → Z) (f : X → Y) (done : List Z) (all : List X) (i : ℕ) → done ++ map g (map f (drop i all)) ≡ map g (map f all)
    → length all ≤ i → done ≡ map g (map f all)
whole g f done all i h e = sym (append-nil done) ∙ sym (ap (λ rest. done ++ map g rest) (at_drop_all (map f) all i e)) ∙ h

listed : (m : Renaming Noted ℕ) (all : List (Trees.Expression Noted)) → expressions_of (map (mapped m) all) ≡ mapped_all m (noted_expressions all)
listed m [] = refl
listed m (e ∷ more) = ap (Trees.and_expression (mapped m e)) (listed m more)

pub all_mapped : (m : Renaming Noted ℕ) (all : List Expression) (done : List (Typed ℕ)) (i : ℕ)
    → map expression_of done ++ map (mapped m) (map noted_expression (drop i all)) ≡ map (mapped m) (map noted_expression all) → length all ≤ i
    → expressions_of (map expression_of done) ≡ mapped_all m (noted_expressions (map noted_expression all))
all_mapped m all done i h e =
    ap expressions_of (whole (mapped m) noted_expression (map expression_of done) all i h e) ∙ listed m (map noted_expression all)

statements_listed : (m : Renaming Noted ℕ) (all : List (Trees.Statement Noted)) → statements_of (map (mapped_statement m) all) ≡ mapped_statements m (noted_statements all)
statements_listed m [] = refl
statements_listed m (s ∷ more) = ap (Trees.and_statement (mapped_statement m s)) (statements_listed m more)

pub all_statements_mapped : (m : Renaming Noted ℕ) (all : List Statement) (done : List (TypedStatement ℕ)) (i : ℕ)
    → map statement_of done ++ map (mapped_statement m) (map noted_statement (drop i all)) ≡ map (mapped_statement m) (map noted_statement all)
    → length all ≤ i → statements_of (map statement_of done) ≡ mapped_statements m (noted_statements (map noted_statement all))
all_statements_mapped m all done i h e =
    ap statements_of (whole (mapped_statement m) noted_statement (map statement_of done) all i h e) ∙ statements_listed m (map noted_statement all)

arms_listed : (types : List Ty) (all : List NotedArm) → arms_of (map (numbered_arm types) all) ≡ mapped_arms (numbered types) (noted_arms all)
arms_listed types [] = refl
arms_listed types (a ∷ more) =
    let one = numbered_arm types a in
    ap (Trees.and_arm one.0 one.1 one.2) (arms_listed types more)

pub all_arms_mapped : (types : List Ty) (all : List Arm) (done : List (TypedArm ℕ)) (i : ℕ)
    → map arm_of done ++ map (numbered_arm types) (map noted_arm (drop i all)) ≡ map (numbered_arm types) (map noted_arm all) → length all ≤ i
    → arms_of (map arm_of done) ≡ mapped_arms (numbered types) (noted_arms (map noted_arm all))
all_arms_mapped types all done i h e =
    ap arms_of (whole (numbered_arm types) noted_arm (map arm_of done) all i h e) ∙ arms_listed types (map noted_arm all)
