-- In a well typed function the locals stand in the scopes that declare them.
use Rattle.std.proofs.Common.{◌≡◌, ℕ, zero, suc, ◌+◌, List, ◌∷◌, ◌++◌, length, get_or, Bool, true, false, Option, Some, None, refl, ap, ◌∙◌, arith}
use Rattle.c_types.specs.Types.{CType}
use Rattle.c_typed.specs.Mapped.{of_types, mapped_statement, mapped_statements, mapped_arms}
use Rattle.c_typed.specs.Programs.{FunctionData}
use Rattle.c_typed.specs.Trees as T
use Rattle.c_typed.specs.Trees.{Statement, Statements, Arms}
use Rattle.c_typed.specs.Typed.{Declared}
use Rattle.c_typed.specs.TypedStatements.{declared_by, declared_by_arms, IsTypedStatement, AreTyped, AreTypedArms}
use Rattle.c_well_typed.specs.WellTyped.{Lists, ty, of_program, count_up, declared_in, HasBody, IsTypedFunction}
use Rattle.code_bounds.specs.LoweredLaws.{TypedHaveScopes}
use Rattle.code_bounds.specs.Scopes.{HasScopes, IsScoped, AreScoped, AreScopedArms, IsScopedBody}

module _ (f : ℕ → CType) where
  -- ---- types stand for numbers, and what is declared is the same

  same_declared : (all : Statements ℕ) → declared_by (mapped_statements (of_types f) all) ≡ declared_by all
  same_declared T.no_statements = refl
  same_declared (T.and_statement (T.evaluate e) more) = same_declared more
  same_declared (T.and_statement (T.block own all) more) = same_declared more
  same_declared (T.and_statement (T.declare n i) more) = ap (λ (all : List ℕ). n ∷ all) (same_declared more)
  same_declared (T.and_statement (T.when e one) more) = same_declared more
  same_declared (T.and_statement (T.when_else e one other) more) = same_declared more
  same_declared (T.and_statement (T.while e body) more) = same_declared more
  same_declared (T.and_statement (T.do_while body e) more) = same_declared more
  same_declared (T.and_statement (T.for own start test step body) more) = same_declared more
  same_declared (T.and_statement (T.switch e own arms) more) = same_declared more
  same_declared (T.and_statement T.break more) = same_declared more
  same_declared (T.and_statement T.continue more) = same_declared more
  same_declared (T.and_statement (T.return e) more) = same_declared more

  same_in_arms : (arms : Arms ℕ) → declared_by_arms (mapped_arms (of_types f) arms) ≡ declared_by_arms arms
  same_in_arms T.no_arms = refl
  same_in_arms (T.and_arm cases is_default all more) =
      ap (λ (a : List ℕ). a ++ declared_by_arms (mapped_arms (of_types f) more)) (same_declared all) ∙ ap (λ (a : List ℕ). declared_by all ++ a)
      (same_in_arms more)

  module _ (d : Declared) (result : CType) where
    mutual
      scoped : (loop switch : Bool) (s : Statement ℕ) → IsTypedStatement d result loop switch (mapped_statement (of_types f) s) → IsScoped s
      scoped loop switch (T.evaluate e) h = tt
      scoped loop switch (T.block own all) h = (h.0 ∙ same_declared all, all_scoped loop switch all h.1)
      scoped loop switch (T.declare n i) h = tt
      scoped loop switch (T.when e one) h = scoped loop switch one h.2
      scoped loop switch (T.when_else e one other) h = (scoped loop switch one h.2, scoped loop switch other h.3)
      scoped loop switch (T.while e body) h = scoped true switch body h.2
      scoped loop switch (T.do_while body e) h = scoped true switch body h.0
      scoped loop switch (T.for own start test step body) h = (h.0 ∙ same_declared start, all_scoped false false start h.1, scoped true switch body h.4)
      scoped loop switch (T.switch e own arms) h = (h.2 ∙ same_in_arms arms, arms_scoped loop arms h.6)
      scoped loop switch T.break h = tt
      scoped loop switch T.continue h = tt
      scoped loop switch (T.return e) h = tt

      all_scoped : (loop switch : Bool) (all : Statements ℕ) → AreTyped d result loop switch (mapped_statements (of_types f) all) → AreScoped all
      all_scoped loop switch T.no_statements h = tt
      all_scoped loop switch (T.and_statement s more) h = (scoped loop switch s h.0, all_scoped loop switch more h.1)

      arms_scoped : (loop : Bool) (arms : Arms ℕ) → AreTypedArms d result loop (mapped_arms (of_types f) arms) → AreScopedArms arms
      arms_scoped loop T.no_arms h = tt
      arms_scoped loop (T.and_arm cases is_default all more) h = (all_scoped loop true all h.0, arms_scoped loop more h.1)

so_many : (k n : ℕ) → length (count_up k n) ≡ n
so_many k zero = refl
so_many k (suc n) = let h = so_many (k + 1) n in omega (arith, h)

has_scopes : (l : Lists) (f : FunctionData) → IsTypedFunction l f → HasScopes f
has_scopes l f h = by_body f.body h.5
  where
    by_body : (b : Option (Statement ℕ)) → HasBody l f h.0 h.1 b → IsScopedBody f b
    by_body None h = tt
    by_body (Some body) i =
        (scoped (ty l) (declared_in l f) h.0 false false body i.3.1, ap (λ (all : List ℕ). length all) i.3.2 ∙ so_many (length f.parameters) (length f.locals))

pub typed_have_scopes : TypedHaveScopes
typed_have_scopes p typed k d h = has_scopes (of_program p) (get_or p.functions k d) (typed.functions k d h)
