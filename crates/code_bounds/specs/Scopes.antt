-- Locals stand in the scopes that declare them, each in one, as in each well typed function.
use Rattle.std.specs.Prelude.{◌≡◌, ℕ, length, Option, Some, None}
use Rattle.c_typed.specs.Programs.{FunctionData}
use Rattle.c_typed.specs.Trees as T
use Rattle.c_typed.specs.Trees.{Statement, Statements, Arms}
use Rattle.c_typed.specs.TypedStatements.{declared_by, declared_by_arms, all_declared}

-- each scope makes the locals that its statements declare
abbrev mutual
  pub IsScoped : Statement ℕ → Type 0
  IsScoped (T.block own all) = (own ≡ declared_by all) × AreScoped all
  IsScoped (T.when e one) = IsScoped one
  IsScoped (T.when_else e one other) = IsScoped one × IsScoped other
  IsScoped (T.while e body) = IsScoped body
  IsScoped (T.do_while body e) = IsScoped body
  IsScoped (T.for own start test step body) = (own ≡ declared_by start) × AreScoped start × IsScoped body
  IsScoped (T.switch e own arms) = (own ≡ declared_by_arms arms) × AreScopedArms arms
  IsScoped (T.evaluate e) = Unit {0}
  IsScoped (T.declare n initial) = Unit {0}
  IsScoped T.break = Unit {0}
  IsScoped T.continue = Unit {0}
  IsScoped (T.return e) = Unit {0}

  pub AreScoped : Statements ℕ → Type 0
  AreScoped T.no_statements = Unit {0}
  AreScoped (T.and_statement s more) = IsScoped s × AreScoped more

  pub AreScopedArms : Arms ℕ → Type 0
  AreScopedArms T.no_arms = Unit {0}
  AreScopedArms (T.and_arm cases is_default all more) = AreScoped all × AreScopedArms more

-- and there are as many locals as are declared
abbrev pub IsScopedBody : FunctionData → Option (Statement ℕ) → Type 0
IsScopedBody f None = Unit {0}
IsScopedBody f (Some body) = IsScoped body × (length (all_declared body) ≡ length f.locals)

abbrev pub HasScopes : FunctionData → Type 0
HasScopes f = IsScopedBody f f.body
