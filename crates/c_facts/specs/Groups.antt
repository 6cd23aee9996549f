-- Groups of accesses: a function, or a loop with its condition, step and body. A profile counts how often each was entered or begun.
use Rattle.std.specs.Prelude.{◌≡◌, ℕ, suc, Bool, true, false, if◌then◌else◌, List, [], ◌∷◌, flat_map, length, map, Option, Some, None}
use Rattle.std.specs.List.{All}
use Rattle.c_typed.specs.declared.run_counts.counts.Counts.{Counts}
use Rattle.c_typed.specs.Programs.{ProgramData}
use Rattle.c_typed.specs.RunCounts.Order.{profile_order}
use Rattle.c_typed.specs.RunCounts.Stale.{Fits, loops_in_each}
use Rattle.c_typed.specs.Trees as T
use Rattle.c_typed.specs.Trees.{Arms, Statement, Statements}
use Rattle.c_facts.specs.declared.fact.Fact.{Fact}
use Rattle.c_facts.specs.declared.fact.Fact.TheVariants.{FunctionBegins, LoopBegins}
use Rattle.c_facts.specs.Programs.{facts_at, facts_of}

abbrev pub begins_group : Fact → Bool
begins_group FunctionBegins = true
begins_group LoopBegins = true
begins_group fact = false

-- how many groups begin
abbrev pub groups_in : List Fact → ℕ
groups_in [] = 0
groups_in (fact ∷ more) = if begins_group fact then suc (groups_in more) else groups_in more

-- the counts of a profile one behind the other: of each function its entries, and then the begins of its loops
abbrev pub counts_in : Counts → List ℕ
counts_in c = flat_map (λ f. f.entries ∷ f.loops) c.functions

-- ---- what stands first in a `for`: declarations, or an expression (C99 6.8.5)

abbrev pub ArePlain : Statements ℕ → Type 0
ArePlain T.no_statements = Unit {0}
ArePlain (T.and_statement (T.evaluate e) more) = ArePlain more
ArePlain (T.and_statement (T.declare n initial) more) = ArePlain more
ArePlain all = ⊥

abbrev mutual
  pub StartsPlainly : Statement ℕ → Type 0
  StartsPlainly (T.evaluate e) = Unit {0}
  StartsPlainly (T.block locals all) = AllStartPlainly all
  StartsPlainly (T.declare n initial) = Unit {0}
  StartsPlainly (T.when e one) = StartsPlainly one
  StartsPlainly (T.when_else e one other) = StartsPlainly one × StartsPlainly other
  StartsPlainly (T.while e body) = StartsPlainly body
  StartsPlainly (T.do_while body e) = StartsPlainly body
  StartsPlainly (T.for locals start test step body) = ArePlain start × StartsPlainly body
  StartsPlainly (T.switch e locals arms) = ArmsStartPlainly arms
  StartsPlainly T.break = Unit {0}
  StartsPlainly T.continue = Unit {0}
  StartsPlainly (T.return e) = Unit {0}

  pub AllStartPlainly : Statements ℕ → Type 0
  AllStartPlainly T.no_statements = Unit {0}
  AllStartPlainly (T.and_statement s more) = StartsPlainly s × AllStartPlainly more

  pub ArmsStartPlainly : Arms ℕ → Type 0
  ArmsStartPlainly T.no_arms = Unit {0}
  ArmsStartPlainly (T.and_arm cases is_default all more) = AllStartPlainly all × ArmsStartPlainly more

abbrev pub BodyStartsPlainly : Option (Statement ℕ) → Type 0
BodyStartsPlainly None = Unit {0}
BodyStartsPlainly (Some body) = StartsPlainly body

abbrev pub LoopsStartPlainly : ProgramData → Type 0
LoopsStartPlainly p = All (λ f. BodyStartsPlainly f.body) p.functions

-- ---- laws

-- function by function, in each there begin as many loops as are counted
abbrev pub LoopsMeetCounts : Type 0
LoopsMeetCounts = (c : Counts) (p : ProgramData) → LoopsStartPlainly p → Fits c p
    → map (λ f. groups_in (facts_at p f.number)) (profile_order p) ≡ loops_in_each c

abbrev pub GroupsMeetCounts : Type 0
GroupsMeetCounts = (c : Counts) (p : ProgramData) → LoopsStartPlainly p → Fits c p → groups_in (facts_of p) ≡ length (counts_in c)
