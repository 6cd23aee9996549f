-- The locals that statements declare, and the labels of their arms, stay where allocations are recognised, and with other things for types and numbers.
use Rattle.std.proofs.Common.{◌≡◌, ◌+◌, refl, ap, List, ◌∷◌, ◌++◌}
use Rattle.c_typed.specs.Mapped.{Renaming, mapped_statement, mapped_statements, mapped_arms}
use Rattle.c_typed.specs.Trees as Trees
use Rattle.c_typed.specs.TypedStatements.{declared_by, declared_by_arms, all_declared, all_declared_by, all_declared_by_arms, all_cases, defaults, one_if}
use Rattle.c_erasure.specs.Noted.{Noted}
use Rattle.c_erasure.specs.Units.{recognised_statement, recognised_statements, recognised_arms}

both : {A : Type 0} {a b c d : List A} → a ≡ b → c ≡ d → a ++ c ≡ b ++ d
both {a} {b} {c} {d} e f = rw (e, f) refl

-- ---- with other types and numbers

module _ {T S : Type 0} (m : Renaming T S) where
  pub declared_mapped : (all : Trees.Statements T) → declared_by (mapped_statements m all) ≡ declared_by all
  declared_mapped Trees.no_statements = refl
  declared_mapped (Trees.and_statement (Trees.declare n initial) more) = ap (λ l. n ∷ l) (declared_mapped more)
  declared_mapped (Trees.and_statement s more) = declared_mapped more

  pub declared_arms_mapped : (arms : Trees.Arms T) → declared_by_arms (mapped_arms m arms) ≡ declared_by_arms arms
  declared_arms_mapped Trees.no_arms = refl
  declared_arms_mapped (Trees.and_arm cases is_default all more) = both (declared_mapped all) (declared_arms_mapped more)

  pub cases_mapped : (arms : Trees.Arms T) → all_cases (mapped_arms m arms) ≡ all_cases arms
  cases_mapped Trees.no_arms = refl
  cases_mapped (Trees.and_arm cases is_default all more) = ap (λ l. cases ++ l) (cases_mapped more)

  pub defaults_mapped : (arms : Trees.Arms T) → defaults (mapped_arms m arms) ≡ defaults arms
  defaults_mapped Trees.no_arms = refl
  defaults_mapped (Trees.and_arm cases is_default all more) = ap (λ n. one_if is_default + n) (defaults_mapped more)

  mutual
    pub all_declared_mapped : (s : Trees.Statement T) → all_declared (mapped_statement m s) ≡ all_declared s
    all_declared_mapped (Trees.evaluate e) = refl
    all_declared_mapped (Trees.block locals all) = statements_mapped all
    all_declared_mapped (Trees.declare n initial) = refl
    all_declared_mapped (Trees.when e one) = all_declared_mapped one
    all_declared_mapped (Trees.when_else e one other) = both (all_declared_mapped one) (all_declared_mapped other)
    all_declared_mapped (Trees.while e body) = all_declared_mapped body
    all_declared_mapped (Trees.do_while body e) = all_declared_mapped body
    all_declared_mapped (Trees.for locals start test step body) = both (statements_mapped start) (all_declared_mapped body)
    all_declared_mapped (Trees.switch e locals arms) = arms_mapped arms
    all_declared_mapped Trees.break = refl
    all_declared_mapped Trees.continue = refl
    all_declared_mapped (Trees.return e) = refl

    statements_mapped : (all : Trees.Statements T) → all_declared_by (mapped_statements m all) ≡ all_declared_by all
    statements_mapped Trees.no_statements = refl
    statements_mapped (Trees.and_statement s more) = both (all_declared_mapped s) (statements_mapped more)

    arms_mapped : (arms : Trees.Arms T) → all_declared_by_arms (mapped_arms m arms) ≡ all_declared_by_arms arms
    arms_mapped Trees.no_arms = refl
    arms_mapped (Trees.and_arm cases is_default all more) = both (statements_mapped all) (arms_mapped more)

-- ---- where allocations are recognised

pub declared_recognised : (all : Trees.Statements Noted) → declared_by (recognised_statements all) ≡ declared_by all
declared_recognised Trees.no_statements = refl
declared_recognised (Trees.and_statement (Trees.declare n initial) more) = ap (λ l. n ∷ l) (declared_recognised more)
declared_recognised (Trees.and_statement s more) = declared_recognised more

pub declared_arms_recognised : (arms : Trees.Arms Noted) → declared_by_arms (recognised_arms arms) ≡ declared_by_arms arms
declared_arms_recognised Trees.no_arms = refl
declared_arms_recognised (Trees.and_arm cases is_default all more) = both (declared_recognised all) (declared_arms_recognised more)

pub cases_recognised : (arms : Trees.Arms Noted) → all_cases (recognised_arms arms) ≡ all_cases arms
cases_recognised Trees.no_arms = refl
cases_recognised (Trees.and_arm cases is_default all more) = ap (λ l. cases ++ l) (cases_recognised more)

pub defaults_recognised : (arms : Trees.Arms Noted) → defaults (recognised_arms arms) ≡ defaults arms
defaults_recognised Trees.no_arms = refl
defaults_recognised (Trees.and_arm cases is_default all more) = ap (λ n. one_if is_default + n) (defaults_recognised more)

mutual
  pub all_declared_recognised : (s : Trees.Statement Noted) → all_declared (recognised_statement s) ≡ all_declared s
  all_declared_recognised (Trees.evaluate e) = refl
  all_declared_recognised (Trees.block locals all) = statements_recognised all
  all_declared_recognised (Trees.declare n initial) = refl
  all_declared_recognised (Trees.when e one) = all_declared_recognised one
  all_declared_recognised (Trees.when_else e one other) = both (all_declared_recognised one) (all_declared_recognised other)
  all_declared_recognised (Trees.while e body) = all_declared_recognised body
  all_declared_recognised (Trees.do_while body e) = all_declared_recognised body
  all_declared_recognised (Trees.for locals start test step body) = both (statements_recognised start) (all_declared_recognised body)
  all_declared_recognised (Trees.switch e locals arms) = arms_recognised arms
  all_declared_recognised Trees.break = refl
  all_declared_recognised Trees.continue = refl
  all_declared_recognised (Trees.return e) = refl

  statements_recognised : (all : Trees.Statements Noted) → all_declared_by (recognised_statements all) ≡ all_declared_by all
  statements_recognised Trees.no_statements = refl
  statements_recognised (Trees.and_statement s more) = both (all_declared_recognised s) (statements_recognised more)

  arms_recognised : (arms : Trees.Arms Noted) → all_declared_by_arms (recognised_arms arms) ≡ all_declared_by_arms arms
  arms_recognised Trees.no_arms = refl
  arms_recognised (Trees.and_arm cases is_default all more) = both (statements_recognised all) (arms_recognised more)
