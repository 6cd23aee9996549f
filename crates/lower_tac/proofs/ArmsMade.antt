-- The arms of a `switch` that have been made, and one more, which comes before them.
use Rattle.std.proofs.Common.{◌≡◌, ℕ, List, [], ◌∷◌, ◌++◌, map, rules, sym, ap, ◌∙◌, Bor}
use Rattle.std.specs.Prelude.{reverse}
use Rattle.std.proofs.lemmas.List.{map-append, reverse-append}
use Rattle.c_typed.specs.Programs.{ProgramData}
use Rattle.c_typed.specs.declared.program.Local.{Local}
use Rattle.c_typed.specs.declared.statement.Arm.{Arm, the_lemmas}
use Rattle.c_typed.specs.Trees as T
use Rattle.c_typed.specs.Views.{arm_of, arms_of, statement_of, statements_of}
use Rattle.tac_ir.specs.declared.step.Target.{Target}
use Rattle.lower_tac.specs.declared.ways.Exits.{Exits}
use Rattle.lower_tac.specs.Statements.{ArmsOut, Out, arms_code, here, statements_code}

abbrev pub arms_made : List (Bor (Arm ℕ)) → T.Arms ℕ
arms_made ys = arms_of (map arm_of (reverse (map (λ y. y.now) ys)))

own_statements : (arm : Arm ℕ) → (arm_of arm).2 ≡ statements_of (map statement_of arm.statements)
own_statements arm = search (rules, the_lemmas)

back_more : (ys : List (Bor (Arm ℕ))) (arm : Bor (Arm ℕ)) → reverse (map (λ y. y.now) (ys ++ arm ∷ [])) ≡ arm.now ∷ reverse (map (λ y. y.now) ys)
back_more ys arm = ap reverse (map-append (λ (y : Bor (Arm ℕ)). y.now) ys (arm ∷ [])) ∙ reverse-append (map (λ (y : Bor (Arm ℕ)). y.now) ys) (arm.now ∷ [])

module _ (p : ProgramData) (g : ℕ) (l : List Local) (x : Exits) where
  pub arm_more : (ys : List (Bor (Arm ℕ))) (arm : Bor (Arm ℕ)) (o0 o1 o2 : Out) (was s1 s2 : List Target)
      → s1 ≡ (arms_code p g l (arms_made ys) x o0).starts ++ was → o1 ≡ (arms_code p g l (arms_made ys) x o0).out
      → o2 ≡ statements_code p g l (statements_of (map statement_of arm.now.statements)) x o1 → s2 ≡ here o2 ∷ s1
      → (s2 ≡ (arms_code p g l (arms_made (ys ++ arm ∷ [])) x o0).starts ++ was) × (o2 ≡ (arms_code p g l (arms_made (ys ++ arm ∷ [])) x o0).out)
  arm_more ys arm o0 o1 o2 was s1 s2 starts out made start =
      let rest = arms_code p g l (arms_made ys) x o0 in
      let whole : arms_code p g l (arms_made (ys ++ arm ∷ [])) x o0 ≡ arms_code p g l (arms_of (map arm_of (arm.now ∷ reverse (map (λ y. y.now) ys)))) x o0
      = ap (λ (all : List (Arm ℕ)). arms_code p g l (arms_of (map arm_of all)) x o0) (back_more ys arm) in
      let is : o2 ≡ statements_code p g l (arm_of arm.now).2 x rest.out
      = made ∙ ap (λ (all : T.Statements ℕ). statements_code p g l all x o1) (sym (own_statements arm.now)) ∙ ap (statements_code p g l (arm_of arm.now).2 x) out in (
        start ∙ ap (λ (o : Out). here o ∷ s1) is ∙ ap (◌∷◌ (here (statements_code p g l (arm_of arm.now).2 x rest.out))) starts ∙ ap (λ (o : ArmsOut). o.starts ++ was) (sym whole),
        is ∙ ap (λ (o : ArmsOut). o.out) (sym whole),
      )
