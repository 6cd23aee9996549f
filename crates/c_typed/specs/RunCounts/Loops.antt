-- The loops of a function, numbered in the order of the text.
use Rattle.std.specs.Prelude.{ℕ, ◌+◌, Option, Some, None, slice_get}
use Rattle.c_typed.specs.Programs.{FunctionData, ProgramData}
use Rattle.c_typed.specs.Trees as T
use Rattle.c_typed.specs.Trees.{Statement, Statements, Arms}
use Rattle.c_typed.specs.Views.{AStatement}

abbrev mutual
  pub loops_in : {X : Type 0} → Statement X → ℕ
  loops_in (T.evaluate e) = 0
  loops_in (T.block locals all) = loops_in_all all
  loops_in (T.declare x initial) = 0
  loops_in (T.when e one) = loops_in one
  loops_in (T.when_else e one other) = loops_in one + loops_in other
  loops_in (T.while e body) = loops_in body + 1
  loops_in (T.do_while body e) = loops_in body + 1
  loops_in (T.for locals start test step body) = loops_in body + 1
  loops_in (T.switch e locals arms) = loops_in_arms arms
  loops_in T.break = 0
  loops_in T.continue = 0
  loops_in (T.return e) = 0

  pub loops_in_all : {X : Type 0} → Statements X → ℕ
  loops_in_all T.no_statements = 0
  loops_in_all (T.and_statement s more) = loops_in s + loops_in_all more

  pub loops_in_arms : {X : Type 0} → Arms X → ℕ
  loops_in_arms T.no_arms = 0
  loops_in_arms (T.and_arm cases is_default all more) = loops_in_all all + loops_in_arms more

-- of a function, none where it is only declared
abbrev pub loops_in_body : Option AStatement → ℕ
loops_in_body None = 0
loops_in_body (Some body) = loops_in body

abbrev pub loops_of : FunctionData → ℕ
loops_of f = loops_in_body f.body

-- of the function of that number
abbrev pub loops_of_any : Option FunctionData → ℕ
loops_of_any None = 0
loops_of_any (Some f) = loops_of f

abbrev pub loops_at : ProgramData → ℕ → ℕ
loops_at p number = loops_of_any (slice_get p.functions number)
