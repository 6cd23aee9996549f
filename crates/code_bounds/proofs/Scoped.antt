-- Where each scope makes the locals that it declares, each kind of thing pays its share.
use Rattle.std.proofs.Common.{◌≡◌, ℕ, ◌+◌, ◌*◌, ◌≤◌, List, [], ◌∷◌, ◌++◌, length, refl, ap, arith, if◌then◌else◌, Bool, true, false}
use Rattle.c_typed.specs.declared.program.Local.{Local}
use Rattle.c_typed.specs.Trees as T
use Rattle.c_typed.specs.Trees.{Statement, Statements, Arms}
use Rattle.c_typed.specs.TypedStatements.{declared_by, declared_by_arms, all_declared, all_declared_by, all_declared_by_arms}
use Rattle.c_well_typed.specs.ProgramWeights.Weights.{weight_of_statement, weight_of_statements, weight_of_arms, weight_of_parameters, weight_of_locals}
use Rattle.code_bounds.specs.Prices.{Prices, paid, price_of_parameters}
use Rattle.code_bounds.specs.Scopes.{IsScoped, AreScoped, AreScopedArms}
use Rattle.code_bounds.proofs.Outs.{each}
use Rattle.code_bounds.proofs.Statements.{price, price_of_all, price_of_arms}

pub each_append : {A : Type 0} (k : ℕ) (a b : List A) → each k (a ++ b) ≡ each k a + each k b
each_append k [] b = omega arith
each_append k (x ∷ a) b = let h = each_append k a b in omega (arith, h)

pub each_alike : {A B : Type 0} (k : ℕ) (a : List A) (b : List B) → length a ≡ length b → each k a ≡ each k b
each_alike k [] [] e = refl
each_alike k [] (y ∷ b) e = cc
each_alike k (x ∷ a) [] e = cc
each_alike k (x ∷ a) (y ∷ b) e = let h = each_alike k a b (let q : length (x ∷ a) ≡ length (y ∷ b) = e in omega (arith, q)) in omega (arith, h)

-- so much for a declaration
abbrev pub for_own : (k : ℕ) → Statement ℕ → ℕ
for_own k (T.declare n i) = k
for_own k s = 0

pub one_declared : (k : ℕ) (s : Statement ℕ) (more : Statements ℕ) → each k (declared_by (T.and_statement s more)) ≡ for_own k s + each k (declared_by more)
one_declared k (T.evaluate e) more = omega arith
one_declared k (T.block own all) more = omega arith
one_declared k (T.declare n i) more = omega arith
one_declared k (T.when e one) more = omega arith
one_declared k (T.when_else e one other) more = omega arith
one_declared k (T.while e body) more = omega arith
one_declared k (T.do_while body e) more = omega arith
one_declared k (T.for own start test step body) more = omega arith
one_declared k (T.switch e own arms) more = omega arith
one_declared k T.break more = omega arith
one_declared k T.continue more = omega arith
one_declared k (T.return e) more = omega arith

module _ (c : Prices) where
  abbrev own_each : List ℕ → ℕ
  own_each own = each c.step own

  mutual
    pub statement_pays : (s : Statement ℕ) → IsScoped s → price c s + 8 * for_own c.step s ≤ weight_of_statement (paid c) s + 5 * own_each (all_declared s)
    statement_pays (T.evaluate e) i = omega arith
    statement_pays (T.block own all) i =
        let h = statements_pay all i.1 in let q : own_each own ≡ own_each (declared_by all) = ap own_each i.0 in omega (arith, h, q)
    statement_pays (T.declare n x) i = omega arith
    statement_pays (T.when e one) i = let h = statement_pays one i in omega (arith, h)
    statement_pays (T.when_else e one other) i =
        let h = statement_pays one i.0 in let k = statement_pays other i.1 in
        let a = each_append c.step (all_declared one) (all_declared other) in omega (arith, h, k, a)
    statement_pays (T.while e body) i = let h = statement_pays body i in omega (arith, h)
    statement_pays (T.do_while body e) i = let h = statement_pays body i in omega (arith, h)
    statement_pays (T.for own start test step body) i =
        let h = statements_pay start i.1 in
        let k = statement_pays body i.2 in
        let q : own_each own ≡ own_each (declared_by start) = ap own_each i.0 in
        let a = each_append c.step (all_declared_by start) (all_declared body) in omega (arith, h, k, q, a)
    statement_pays (T.switch e own arms) i =
        let h = arms_pay arms i.1 in let q : own_each own ≡ own_each (declared_by_arms arms) = ap own_each i.0 in omega (arith, h, q)
    statement_pays T.break i = omega arith
    statement_pays T.continue i = omega arith
    statement_pays (T.return e) i = omega arith

    pub statements_pay : (all : Statements ℕ) → AreScoped all
        → price_of_all c all + 8 * own_each (declared_by all) ≤ weight_of_statements (paid c) all + 5 * own_each (all_declared_by all)
    statements_pay T.no_statements i = omega arith
    statements_pay (T.and_statement s more) i =
        let h = statement_pays s i.0 in
        let k = statements_pay more i.1 in
        let a = one_declared c.step s more in
        let b = each_append c.step (all_declared s) (all_declared_by more) in omega (arith, h, k, a, b)

    pub arms_pay : (arms : Arms ℕ) → AreScopedArms arms
        → price_of_arms c arms + 8 * own_each (declared_by_arms arms) ≤ weight_of_arms (paid c) arms + 5 * own_each (all_declared_by_arms arms)
    arms_pay T.no_arms i = omega arith
    arms_pay (T.and_arm cases is_default all more) i =
        let h = statements_pay all i.0 in
        let k = arms_pay more i.1 in
        let a = each_append c.step (declared_by all) (declared_by_arms more) in
        let b = each_append c.step (all_declared_by all) (all_declared_by_arms more) in omega (arith, h, k, a, b)

  local_pays : (block : Bool) (w : ℕ) (more : ℕ) → w ≡ 5 * more → (if block then 5 * c.step else 5 * c.step) + w ≡ 5 * (c.step + more)
  local_pays true w more e = omega (arith, e)
  local_pays false w more e = omega (arith, e)

  pub locals_pay : (all : List Local) → weight_of_locals (paid c) all ≡ 5 * each c.step all
  locals_pay [] = omega arith
  locals_pay (l ∷ more) = local_pays l.block (weight_of_locals (paid c) more) (each c.step more) (locals_pay more)

  pub parameters_pay : (all : List Local) → weight_of_parameters (paid c) all ≡ 4 * each c.step all + price_of_parameters c all
  parameters_pay [] = omega arith
  parameters_pay (l ∷ more) = let h = parameters_pay more in omega (arith, h)
