-- What stands for a statement has no more loops than that has nodes (C99 6.8.5); mapping and recognising leaves loops as they are.
use Rattle.std.proofs.Common.{◌≡◌, ℕ, zero, suc, ◌+◌, ◌≤◌, Bool, true, false, refl, sym, ap, subst, List, [], ◌∷◌, arith, inl, inr}
use Rattle.std.specs.Prelude.{◌⊎◌, Some, None}
use Rattle.c_types.specs.declared.ty.IntKind.{IntKind}
use Rattle.c_types.specs.Types.{CType}
use Rattle.c_ast.specs.Sizes.{size_statement, size_block_item, size_block_items, size_switch_item, size_switch_items}
use Rattle.c_ast.specs.Trees
use Rattle.c_typed.specs.RunCounts.Loops.{loops_in, loops_in_all, loops_in_arms}
use Rattle.c_typed.specs.Mapped.{Renaming, mapped_statement, mapped_statements, mapped_arms}
use Rattle.c_typed.specs.Trees as Typed
use Rattle.c_erasure.specs.Noted.{Noted}
use Rattle.c_erasure.specs.Scopes.{Scope, inside}
use Rattle.c_erasure.specs.Statements.{Statement, Statements, Arms, followed_by, with_object, with_variable, DeclareAll, IsLocalDeclaration, with_first}
use Rattle.c_erasure.specs.Statements.{IsArranged}
use Rattle.c_erasure.specs.Statements.{ErasesStatement, ErasesItem, EraseItems, ErasesSwitchItem, EraseSwitchItems}
use Rattle.c_erasure.specs.Units.{recognised_statement, recognised_statements, recognised_arms}

-- ---- as many as before

module _ {T S : Type 0} (m : Renaming T S) where
  mutual
    pub loops_mapped : (s : Typed.Statement T) → loops_in (mapped_statement m s) ≡ loops_in s
    loops_mapped (Typed.evaluate e) = refl
    loops_mapped (Typed.block locals all) = all_mapped all
    loops_mapped (Typed.declare n initial) = refl
    loops_mapped (Typed.when e one) = loops_mapped one
    loops_mapped (Typed.when_else e one other) = rw (loops_mapped one, loops_mapped other) refl
    loops_mapped (Typed.while e body) = ap (λ n. n + 1) (loops_mapped body)
    loops_mapped (Typed.do_while body e) = ap (λ n. n + 1) (loops_mapped body)
    loops_mapped (Typed.for locals start test step body) = ap (λ n. n + 1) (loops_mapped body)
    loops_mapped (Typed.switch e locals arms) = arms_mapped arms
    loops_mapped Typed.break = refl
    loops_mapped Typed.continue = refl
    loops_mapped (Typed.return e) = refl

    all_mapped : (all : Typed.Statements T) → loops_in_all (mapped_statements m all) ≡ loops_in_all all
    all_mapped Typed.no_statements = refl
    all_mapped (Typed.and_statement s more) = rw (loops_mapped s, all_mapped more) refl

    arms_mapped : (arms : Typed.Arms T) → loops_in_arms (mapped_arms m arms) ≡ loops_in_arms arms
    arms_mapped Typed.no_arms = refl
    arms_mapped (Typed.and_arm cases is_default all more) = rw (all_mapped all, arms_mapped more) refl

mutual
  pub loops_recognised : (s : Typed.Statement Noted) → loops_in (recognised_statement s) ≡ loops_in s
  loops_recognised (Typed.evaluate e) = refl
  loops_recognised (Typed.block locals all) = all_recognised all
  loops_recognised (Typed.declare n initial) = refl
  loops_recognised (Typed.when e one) = loops_recognised one
  loops_recognised (Typed.when_else e one other) = rw (loops_recognised one, loops_recognised other) refl
  loops_recognised (Typed.while e body) = ap (λ n. n + 1) (loops_recognised body)
  loops_recognised (Typed.do_while body e) = ap (λ n. n + 1) (loops_recognised body)
  loops_recognised (Typed.for locals start test step body) = ap (λ n. n + 1) (loops_recognised body)
  loops_recognised (Typed.switch e locals arms) = arms_recognised arms
  loops_recognised Typed.break = refl
  loops_recognised Typed.continue = refl
  loops_recognised (Typed.return e) = refl

  all_recognised : (all : Typed.Statements Noted) → loops_in_all (recognised_statements all) ≡ loops_in_all all
  all_recognised Typed.no_statements = refl
  all_recognised (Typed.and_statement s more) = rw (loops_recognised s, all_recognised more) refl

  arms_recognised : (arms : Typed.Arms Noted) → loops_in_arms (recognised_arms arms) ≡ loops_in_arms arms
  arms_recognised Typed.no_arms = refl
  arms_recognised (Typed.and_arm cases is_default all more) = rw (all_recognised all, arms_recognised more) refl

-- ---- no more than nodes

few : (all own : Statements) (n : ℕ) → all ≡ own → loops_in_all own ≤ n → loops_in_all all ≤ n
few all own n e h = subst (λ all. loops_in_all all ≤ n) (sym e) h

of_one : (st own : Statement) (n : ℕ) → st ≡ own → loops_in own ≤ n → loops_in st ≤ n
of_one st own n e h = subst (λ st. loops_in st ≤ n) (sym e) h

followed : (own rest : Statements) → loops_in_all (followed_by own rest) ≡ loops_in_all own + loops_in_all rest
followed Typed.no_statements rest = omega arith
followed (Typed.and_statement s more) rest = let r = followed more rest in omega (arith, r)

declared_none : (ds : List Trees.InitDeclarator) (s : Scope) (static : Bool) (base : CType) (all : Statements) (after : Scope)
    → DeclareAll ds s static base all after → loops_in_all all ≤ 0
declared_none [] s static base all after h = few all _ 0 h.0 (omega arith)
declared_none (d ∷ more) s true base all after h = declared_none more (with_object s h.0 h.2 h.1) true base all after h.5
declared_none (d ∷ more) s false base all after h =
    let r = declared_none more (with_variable s h.0 h.2 h.1) false base h.4 after h.9 in
    few all _ 0 h.7 (omega (arith, r))

local_none : (d : Trees.Declaration) (s : Scope) (all : Statements) (after : Scope) → IsLocalDeclaration d s all after → loops_in_all all ≤ 0
local_none d s all after h = by_storage h.3
  where
    by_storage : {A B : Type 0} → (A × DeclareAll d.all s true h.0 all after) ⊎ (B × DeclareAll d.all s false h.0 all after) → loops_in_all all ≤ 0
    by_storage (inl k) = declared_none d.all s true h.0 all after k.1
    by_storage (inr k) = declared_none d.all s false h.0 all after k.1

first : (all : Statements) (arms : Arms) → loops_in_arms (with_first all arms) ≡ loops_in_all all + loops_in_arms arms
first Typed.no_statements arms = omega arith
first (Typed.and_statement s more) arms = refl

arranged : (cases : List ℕ) (defaults : ℕ) (own : Statements) (later : Arms) (all : Statements) (arms : Arms)
    → IsArranged cases defaults own later all arms → loops_in_all all + loops_in_arms arms ≡ loops_in_all own + loops_in_arms later
arranged [] zero own later all arms h = rw (h.0, h.1) refl
arranged [] (suc n) own later all arms h = rw (h.0, h.2) (omega arith)
arranged (v ∷ cases) n own later all arms h = rw (h.0, h.2) (omega arith)

mutual
  statement_few : (a : Trees.Statement) (s : Scope) (st : Statement) → ErasesStatement a s st → loops_in st ≤ (size_statement a).nodes
  statement_few (Trees.block left items right) s st h =
      let r = items_few items (inside s) h.0 h.2 in of_one st _ _ h.1 (omega (arith, r))
  statement_few (Trees.evaluate None semicolon) s st h = of_one st _ _ h (omega arith)
  statement_few (Trees.evaluate (Some a) semicolon) s st h = of_one st _ _ h.1 (omega arith)
  statement_few (Trees.when at left a right one) s st h = let r = statement_few one s h.1 h.4 in of_one st _ _ h.2 (omega (arith, r))
  statement_few (Trees.choose at left a right one middle other) s st h =
      let r = statement_few one s h.1 h.5 in let q = statement_few other s h.2 h.6 in of_one st _ _ h.3 (omega (arith, r, q))
  statement_few (Trees.while at left a right body) s st h = let r = statement_few body s h.1 h.4 in of_one st _ _ h.2 (omega (arith, r))
  statement_few (Trees.do_while at body while left a right semicolon) s st h =
      let r = statement_few body s h.0 h.3 in of_one st _ _ h.2 (omega (arith, r))
  statement_few (Trees.for at left start test semicolon step right body) s st h =
      let r = statement_few body h.1 h.4 h.9 in of_one st _ _ h.5 (omega (arith, r))
  statement_few (Trees.switch at left a right begin items end) s st h =
      let r = switch_items_few items (inside s) h.1 h.2 h.3 h.7 in
      let q = first h.2 h.3 in
      of_one st _ _ h.4 (omega (arith, r, q))
  statement_few (Trees.break at semicolon) s st h = of_one st _ _ h (omega arith)
  statement_few (Trees.continue at semicolon) s st h = of_one st _ _ h (omega arith)
  statement_few (Trees.return at None semicolon) s st h = of_one st _ _ h (omega arith)
  statement_few (Trees.return at (Some a) semicolon) s st h = of_one st _ _ h.1 (omega arith)

  item_few : (t : Trees.BlockItem) (s : Scope) (all : Statements) (after : Scope) → ErasesItem t s all after
      → loops_in_all all ≤ (size_block_item t).nodes
  item_few (Trees.local d) s all after h = let r = local_none d s all after h in omega (arith, r)
  item_few (Trees.statement a) s all after h = let r = statement_few a s h.0 h.2 in few all _ _ h.1 (omega (arith, r))

  pub items_few : (t : Trees.BlockItems) (s : Scope) (all : Statements) → EraseItems t s all → loops_in_all all ≤ (size_block_items t).nodes
  items_few Trees.no_block_items s all h = few all _ _ h (omega arith)
  items_few (Trees.and_block_item t more) s all h =
      let r = item_few t s h.0 h.2 h.4 in
      let q = items_few more h.2 h.1 h.5 in
      let e = followed h.0 h.1 in
      few all _ _ h.3 (omega (arith, r, q, e))

  switch_item_few : (t : Trees.SwitchItem) (s : Scope) (kind : IntKind) (cases : List ℕ) (defaults : ℕ) (all : Statements) (after : Scope)
      → ErasesSwitchItem t s kind cases defaults all after → loops_in_all all ≤ (size_switch_item t).nodes
  switch_item_few (Trees.local_switch_item d) s kind cases defaults all after h = let r = local_none d s all after h.2 in omega (arith, r)
  switch_item_few (Trees.labelled labels a) s kind cases defaults all after h =
      let r = statement_few a s h.1.0 h.1.2 in few all _ _ h.1.1 (omega (arith, r))

  switch_items_few : (t : Trees.SwitchItems) (s : Scope) (kind : IntKind) (all : Statements) (arms : Arms) → EraseSwitchItems t s kind all arms
      → loops_in_all all + loops_in_arms arms ≤ (size_switch_items t).nodes
  switch_items_few Trees.no_switch_items s kind all arms h = rw (h.0, h.1) (omega arith)
  switch_items_few (Trees.and_switch_item t more) s kind all arms h =
      let r = switch_item_few t s kind h.0 h.1 h.2 h.5 h.6 in
      let q = switch_items_few more h.5 kind h.3 h.4 h.7 in
      let e = followed h.2 h.3 in
      let o = arranged h.0 h.1 (followed_by h.2 h.3) h.4 all arms h.8 in
      omega (arith, r, q, e, o)
