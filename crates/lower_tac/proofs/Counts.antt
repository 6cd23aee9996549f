-- How many arguments there are, and what those of a list ask for.
use Rattle.std.proofs.Common.{◌≡◌, ℕ, zero, suc, ◌+◌, ◌-◌, ◌<◌, ◌≤◌, List, [], ◌∷◌, ◌++◌, length, map, get_or, refl, rules, sym, ap, ◌∙◌, arith, Bor}
use Rattle.std.specs.Prelude.{reverse, take}
use Rattle.std.specs.List.{sum_by}
use Rattle.std.proofs.lemmas.List.{get_or-reverse, length-reverse, map-append, reverse-append}
use Rattle.std.proofs.lemmas.List.Recursion.{is_sum_by}
use Rattle.std.proofs.lemmas.List.Sorted.{IsPermutation-reverse, sum_by-IsPermutation}
use Rattle.std.proofs.lemmas.List.Sums.{sum_by_more_le}
use Rattle.c_typed.specs.declared.expression.Expression.{Expression}
use Rattle.c_typed.specs.declared.statement.Arm.{Arm, the_lemmas}
use Rattle.c_typed.specs.declared.statement.InitializerPart.{InitializerPart}
use Rattle.c_typed.specs.declared.statement.Statement.{Statement}
use Rattle.c_typed.specs.Views.{arm_of, arms_of, expression_of, expressions_of, part_of, part_value_of, statement_of, statements_of}
use Rattle.lower_tac.specs.Asked.{asked, asked_by_all, asked_by_arms, asked_by_parts, asked_by_statement, asked_by_statements, asked_by_value}
use Rattle.lower_tac.specs.Expressions.{count_of}

pub count_is : (all : List (Expression ℕ)) → count_of (expressions_of (map expression_of all)) ≡ length all
count_is [] = refl
count_is (e ∷ all) = ap suc (count_is all)

-- ---- arguments: each asks for one at least

pub each_asks : (all : List (Expression ℕ)) → length all ≤ asked_by_all (expressions_of (map expression_of all))
each_asks [] = omega arith
each_asks (e ∷ all) = let r = each_asks all in omega (arith, r)

argument_asks : (all : List (Expression ℕ)) (i : ℕ) (e : Expression ℕ) → i < length all → e ≡ get_or all i e
    → i + asked (expression_of e) < asked_by_all (expressions_of (map expression_of all))
argument_asks [] i e h q = absurd (omega arith)
argument_asks (x ∷ all) zero e h q =
    let s : asked (expression_of e) ≡ asked (expression_of x) = ap (λ (e : Expression ℕ). asked (expression_of e)) q in omega (arith, s)
argument_asks (x ∷ all) (suc i) e h q = let r = argument_asks all i e (omega arith) q in omega (arith, r)

-- the one that comes after so many from the back
pub from_back_asks : (all : List (Expression ℕ)) (k at d : ℕ) (e : Expression ℕ) → k < length (reverse all) → e ≡ get_or (reverse all) k e → at + k ≡ d + length all
    → at - 1 + asked (expression_of e) < d + asked_by_all (expressions_of (map expression_of all))
from_back_asks all k at d e h q sum =
    let n : length (reverse all) ≡ length all = length-reverse all in
    let r = argument_asks all (length all - 1 - k) e (omega (arith, n, h)) (q ∙ get_or-reverse all k e (omega (arith, n, h))) in
    omega (arith, n, h, r, sum)

-- ---- parts of an initializer

pub part_asks : (all : List (InitializerPart ℕ)) (k : ℕ) (d : InitializerPart ℕ) → k < length all
    → asked_by_value (part_value_of (get_or all k d).value) ≤ asked_by_parts (map part_of all)
part_asks [] k d h = absurd (omega arith)
part_asks (x ∷ all) zero d h = omega arith
part_asks (x ∷ all) (suc k) d h = let r = part_asks all k d (omega arith) in omega (arith, r)

-- ---- statements and arms: those from the back, and one more

module _ {X : Type 0} (total : List X → ℕ) (own : X → ℕ) (none : total [] ≡ 0) (more : (x : X) (xs : List X) → total (x ∷ xs) ≡ own x + total xs) where
  from_back : (all ys : List X) (k : ℕ) (x : X) → ys ≡ take k (reverse all) → k < length (reverse all) → x ≡ get_or (reverse all) k x
      → total (reverse ys) + own x ≤ total all
  from_back all ys k x e h q =
      let a : total (reverse ys) ≡ sum_by own ys = is_sum_by total own none more (reverse ys) ∙ sum_by-IsPermutation own ys (reverse ys) (IsPermutation-reverse ys) in
      let b : total all ≡ sum_by own (reverse all) =
      is_sum_by total own none more all ∙ sym (sum_by-IsPermutation own all (reverse all) (IsPermutation-reverse all)) in
      let c = sum_by_more_le own (reverse all) k x h in
      let d : own x ≡ own (get_or (reverse all) k x) = ap own q in
      let f : sum_by own ys ≡ sum_by own (take k (reverse all)) = ap (sum_by own) e in
      omega (arith, a, b, c, d, f)

abbrev pub asked_by_made : List (Statement ℕ) → ℕ
asked_by_made all = asked_by_statements (statements_of (map statement_of all))

pub statement_asks : (all ys : List (Statement ℕ)) (k : ℕ) (s : Statement ℕ) → ys ≡ take k (reverse all) → k < length (reverse all)
    → s ≡ get_or (reverse all) k s → asked_by_made (reverse ys) + asked_by_statement (statement_of s) ≤ asked_by_made all
statement_asks = from_back asked_by_made (λ s. asked_by_statement (statement_of s)) refl (λ s more. refl)

abbrev pub asked_by_made_arms : List (Arm ℕ) → ℕ
asked_by_made_arms all = asked_by_arms (arms_of (map arm_of all))

own_asks : (arm : Arm ℕ) → asked_by_statements (arm_of arm).2 ≡ asked_by_statements (statements_of (map statement_of arm.statements))
own_asks arm = search (rules, the_lemmas)

pub arm_asks : (all ys : List (Arm ℕ)) (k : ℕ) (arm : Arm ℕ) → ys ≡ take k (reverse all) → k < length (reverse all)
    → arm ≡ get_or (reverse all) k arm
    → asked_by_made_arms (reverse ys) + asked_by_statements (statements_of (map statement_of arm.statements)) ≤ asked_by_made_arms all
arm_asks = from_back asked_by_made_arms (λ arm. asked_by_statements (statements_of (map statement_of arm.statements))) refl
    (λ arm more. ap (λ n. n + asked_by_made_arms more) (own_asks arm))

pub arms_more : (ys : List (Bor (Arm ℕ))) (arm : Bor (Arm ℕ)) → asked_by_made_arms (reverse (map (λ s. s.now) (ys ++ arm ∷ [])))
    ≡ asked_by_statements (statements_of (map statement_of arm.now.statements)) + asked_by_made_arms (reverse (map (λ s. s.now) ys))
arms_more ys arm =
    let back : reverse (map (λ (s : Bor (Arm ℕ)). s.now) (ys ++ arm ∷ [])) ≡ arm.now ∷ reverse (map (λ (s : Bor (Arm ℕ)). s.now) ys) =
    ap reverse (map-append (λ (s : Bor (Arm ℕ)). s.now) ys (arm ∷ [])) ∙ reverse-append (map (λ (s : Bor (Arm ℕ)). s.now) ys) (arm.now ∷ []) in
    ap asked_by_made_arms back ∙ ap (λ n. n + asked_by_made_arms (reverse (map (λ (s : Bor (Arm ℕ)). s.now) ys))) (own_asks arm.now)
