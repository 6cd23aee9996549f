-- Where a block, what stands first in a `for`, or a statement behind a condition stops, a rule is broken (C99 6.8).
use Rattle.std.proofs.Common.{◌≡◌, ℕ, Bool, true, false, refl, ◌∙◌, subst, List, ◌++◌, length, inl, inr}
use Rattle.std.specs.Prelude.{◌⊎◌, Option, Some, None, Ok, Err}
use Rattle.c_types.specs.Types.{CType}
use Rattle.c_ast.specs.Trees
use Rattle.c_ast.specs.Places.{first_specifiers}
use Rattle.c_erasure.specs.Broken.{Fault, IsBroken, HasNoValue}
use Rattle.c_erasure.specs.BrokenStatements.{IsBrokenDeclaration, IsBrokenIfAny, IsNoTest, IsBrokenStart}
use Rattle.c_erasure.specs.BrokenStatements.{IsBrokenStatement}
use Rattle.c_erasure.specs.Literals.{literals, made_by_start, made_by}
use Rattle.c_erasure.specs.Noted.{Expression}
use Rattle.c_erasure.specs.Scopes.{ALocal, FileScope, Scope, inside, declared}
use Rattle.c_erasure.specs.Specifiers.{storage_of}
use Rattle.c_erasure.specs.Statements.{Statements, IsStart}
use Rattle.c_erasure.specs.Checking.Statements.{value_of_expression, value_if_any, condition, condition_if_any, start_of, local_declaration}
use Rattle.c_erasure.specs.Checking.Statements.{performed}
use Rattle.c_checking_laws.proofs.InRange.{IsInRange}
use Rattle.c_checking_laws.proofs.FaultResults.{bound_err}
use Rattle.c_checking_laws.proofs.WholeFiles.Longer.{seen}
use Rattle.c_checking_laws.proofs.WholeFiles.Scoped.{then_in}
use Rattle.c_checking_laws.proofs.WholeFiles.StatementLaws.{IsStartInRange, IsStatementInRange}
use Rattle.c_checking_laws.proofs.WholeFiles.StatementParts.{same_seen, inside_within, condition_as}
use Rattle.c_checking_laws.proofs.WholeFiles.Statements.{test_as, effect_as, IsStartFound, start_found}
use Rattle.c_checking_units.proofs.FirstStops.Clear.{AreFresh, fresh_left}
use Rattle.c_checking_units.proofs.FirstStops.DeclaredLocals.{objects_declared_by}
use Rattle.c_checking_units.proofs.FirstStops.DeclarationStops.{declaration_stops}
use Rattle.c_checking_units.proofs.FirstStops.InnerAdditions.{at_value, at_if_any, at_start, at_statement}
use Rattle.c_checking_laws.proofs.Within.{Additions, both}
use Rattle.c_checking_units.proofs.FirstStops.JumpFaults.{static_fault}
use Rattle.c_checking_units.proofs.FirstStops.Stopped.{Stopped, inner_left, stopped_here, stopped_more, IsIn, stopped_later, fresh_later, in_later, in_same}
use Rattle.c_checking_units.proofs.FirstStops.ValueStops.{value_stops, test_stops, effect_stops}
use Rattle.c_checking_units.proofs.FirstStops.StatementTimely.{IsStartTimely, IsStatementTimely}

abbrev pub StatementIsBroken : CType → Trees.Statement → Bool → Bool → Fault → Scope → Type 0
StatementIsBroken result a loop switch fault s = IsBrokenStatement result a s loop switch fault

module _ (untagged : ℕ → List ℕ) (ends : List ℕ) (f : FileScope) where
  -- ---- blocks

  pub inside_in : (s : Scope) → IsIn untagged ends f s → IsIn untagged ends f (inside s)
  inside_in s p = record {
    within = inside_within untagged f s p.within;
    ends_are = p.ends_are;
    steady = p.steady;
    orderly = p.orderly;
    locals_are = p.locals_are;
    laid = p.laid;
  }

  -- what stops in a block stops in the scope around it
  pub block_stops : {k : Additions} (s : Scope) (Is Js : Scope → Type 0) → ((s : Scope) → Is (inside s) → Js s) → Stopped k (inside s) Is → Stopped k s Js
  block_stops s Is Js is b = record {
    file = b.file;
    locals = b.locals;
    reaches = b.reaches;
    goes = b.goes;
    is = is (seen s b.file b.locals) b.is;
  }

  -- ---- what stands first in a `for`

  pub start_stops : (start : Trees.ForStart) (s : Scope) → IsIn untagged ends f s → IsStartInRange f.ends (length f.records) start → IsStartTimely untagged ends f start
      → AreFresh s.file (made_by_start start) → (fault : Fault) → start_of start s ≡ Err fault
      → Stopped (at_start start) s (λ s. IsBrokenStart start s fault)
  start_stops (Trees.starts_with None semicolon) s p n t fresh fault h = cc
  start_stops (Trees.starts_with (Some a) semicolon) s p n t fresh fault h =
      bound_err (value_of_expression a s) _ fault (Stopped (at_value a) s (λ s. IsBroken a s fault ⊎ HasNoValue a s fault)) h
      (λ e. value_stops untagged ends f a s p n t fault e) (λ x e h. cc)
  start_stops (Trees.declares d) s p n t fresh fault h =
      let k = at_start (Trees.declares d) in
      let Is = λ (s : Scope). IsBrokenStart (Trees.declares d) s fault in
      static_fault (first_specifiers d.specs) (storage_of d.specs) (local_declaration d s) fault (Stopped k s Is) h
      (λ b. stopped_here k s Is (inr b))
      (λ e. stopped_more (λ s. IsBrokenDeclaration d s fault) Is (λ g w. w) (λ s b. inl b) (declaration_stops untagged ends f d s p n t fresh fault e))

  module _ (result : CType) where
    -- ---- one lemma for each statement with parts of its own

    -- a statement behind a condition
    pub behind_condition : (a : Trees.Expression) (s : Scope) (l : Additions) → IsIn untagged ends f s → IsInRange a
        → AreFresh s.file (literals a ++ l.made) → (x : Expression × Scope) → condition a s ≡ Ok x → (Is Js : Scope → Type 0) → ((s : Scope) → Js s → Is s)
        → (IsIn untagged ends f x.1 → AreFresh x.1.file l.made → Stopped l x.1 Js) → Stopped (both (at_value a) l) s Is
    behind_condition a s l p i fresh x e Is Js is stops =
        let v = condition_as untagged f a s i p.within x e in
        stopped_later untagged ends f s _ _ _ _ _ v.found p l fresh Is Js
        (λ g k c b. is (seen s g k) (subst Js (same_seen untagged f s x.1 v.stays g k) b))
        (stops (in_same untagged ends f s _ _ _ _ _ v.found p (fresh_left (literals a) l.made fresh) refl)
        (fresh_later untagged ends f s _ _ _ _ _ v.found l.made fresh))

    -- what is broken in the scope that what stands first leaves
    abbrev InStart : Trees.ForStart → Statements → (Scope → Type 0) → Scope → Type 0
    InStart start all Is s = (after : Scope) × IsStart start s all after × Is after

    abbrev IsNoTestOf : Trees.ForStart → Statements → Option Trees.Expression → Fault → Scope → Type 0
    IsNoTestOf start all test fault s = InStart start all (λ s. IsNoTest test s fault) s

    abbrev IsNoStepOf : Trees.ForStart → Statements → Option Trees.Expression → Fault → Scope → Type 0
    IsNoStepOf start all step fault s = InStart start all (λ s. IsBrokenIfAny step s fault) s

    abbrev IsNoBodyOf : Trees.ForStart → Statements → Trees.Statement → Bool → Fault → Scope → Type 0
    IsNoBodyOf start all body switch fault s = InStart start all (StatementIsBroken result body true switch fault) s

    pub value_of_switch : (at from : ℕ) (a : Trees.Expression) (to begin : ℕ) (items : Trees.SwitchItems) (end : ℕ) (s : Scope) (loop switch : Bool) (fault : Fault)
        → IsBroken a s fault ⊎ HasNoValue a s fault → StatementIsBroken result (Trees.switch at from a to begin items end) loop switch fault s
    value_of_switch at from a to begin items end s loop switch fault (inl b) = inl b
    value_of_switch at from a to begin items end s loop switch fault (inr b) = inr (inl b)

    pub value_of_return : (at : ℕ) (a : Trees.Expression) (semicolon : ℕ) (s : Scope) (loop switch : Bool) (fault : Fault)
        → IsBroken a s fault ⊎ HasNoValue a s fault → StatementIsBroken result (Trees.return at (Some a) semicolon) loop switch fault s
    value_of_return at a semicolon s loop switch fault (inl b) = inl b
    value_of_return at a semicolon s loop switch fault (inr b) = inr (inl b)

    -- `for`: its body is read in the scope of what stands first
    pub for_stops : (at from : ℕ) (start : Trees.ForStart) (test : Option Trees.Expression) (semicolon : ℕ) (step : Option Trees.Expression) (to : ℕ)
        (body : Trees.Statement) (s : Scope) (loop switch : Bool) → IsIn untagged ends f s
        → IsStatementInRange f.ends (length f.records) (Trees.for at from start test semicolon step to body)
        → IsStatementTimely untagged ends f (Trees.for at from start test semicolon step to body)
        → AreFresh s.file (made_by (Trees.for at from start test semicolon step to body)) → (fault : Fault)
        → performed result (Trees.for at from start test semicolon step to body) s loop switch ≡ Err fault
        → ((c : Scope) → IsIn untagged ends f c → AreFresh c.file (made_by body) → performed result body c true switch ≡ Err fault
        → Stopped (at_statement body) c (StatementIsBroken result body true switch fault))
        → Stopped (at_statement (Trees.for at from start test semicolon step to body)) s
        (StatementIsBroken result (Trees.for at from start test semicolon step to body) loop switch fault)
    unfolding performed
    for_stops at from start test semicolon step to body s loop switch p n t fresh fault h in_body =
        let w = at_start start in
        let x = at_if_any test in
        let y = at_if_any step in
        let z = at_statement body in
        let k = both (both (both w x) y) z in
        let Is = StatementIsBroken result (Trees.for at from start test semicolon step to body) loop switch fault in
        let i = inside_in s p in
        let three = fresh_left (w.made ++ x.made ++ y.made) z.made fresh in
        let two = fresh_left (w.made ++ x.made) y.made three in
        bound_err (start_of start (inside s)) _ fault (Stopped k s Is) h
        (λ e. block_stops s (λ s. IsBrokenStart start s fault) Is (λ s b. inl b)
        (stopped_more (λ s. IsBrokenStart start s fault) (λ s. IsBrokenStart start s fault)
        (λ v m. inner_left (both (both w x) y) z v (inner_left (both w x) y v (inner_left w x v m))) (λ s b. b)
        (start_stops start (inside s) i n.0 t.0 (fresh_left w.made x.made two) fault e)))
        (λ all e h.
        let u = start_found untagged f result start (inside s) n.0 i.within all e in
        let a = in_later untagged ends f (inside s) _ _ _ _ _ u i (fresh_left w.made x.made two)
        (λ is m v t g. objects_declared_by (declared (seen (inside s) all.1.file all.1.locals)) result false false all.0 is.is_typed m v t g) in
        let in_test = fresh_later untagged ends f (inside s) _ _ _ _ _ u x.made two in
        bound_err (condition_if_any test all.1) _ fault (Stopped k s Is) h
        (λ e. block_stops s (λ s. IsNoTestOf start all.0 test fault s) Is (λ s b. inr (all.0, b.0, b.1, inl b.2))
        (stopped_more (λ s. IsNoTestOf start all.0 test fault s) (λ s. IsNoTestOf start all.0 test fault s)
        (λ v m. inner_left (both (both w x) y) z v (inner_left (both w x) y v m)) (λ s b. b)
        (stopped_later untagged ends f (inside s) _ _ _ _ _ u i x two (λ s. IsNoTestOf start all.0 test fault s) (λ s. IsNoTest test s fault)
        (λ g l is b. (seen all.1 g l, is.starts, b))
        (test_stops untagged ends f test all.1 a n.1 t.1 in_test fault e))))
        (λ first_test e h.
        let v = test_as untagged f test all.1 n.1 a.within first_test e in
        let b = in_same untagged ends f all.1 _ _ _ _ _ v.found a in_test refl in
        let one = then_in untagged f (inside s) all.1 first_test.1 _ _ _ _ _ _ (IsStartFound untagged f start result (inside s) all.0 all.1) _ _ u v.found
        (λ g l ex laid goes is js. is) in
        let in_step = fresh_later untagged ends f (inside s) _ _ _ _ _ one y.made three in
        let here = λ (g : FileScope) (l : List ALocal). same_seen untagged f all.1 first_test.1 v.stays g l in
        bound_err (value_if_any step first_test.1) _ fault (Stopped k s Is) h
        (λ e. block_stops s (λ s. IsNoStepOf start all.0 step fault s) Is (λ s b. inr (all.0, b.0, b.1, inr (inl b.2)))
        (stopped_more (λ s. IsNoStepOf start all.0 step fault s) (λ s. IsNoStepOf start all.0 step fault s) (inner_left (both (both w x) y) z) (λ s b. b)
        (stopped_later untagged ends f (inside s) _ _ _ _ _ one i y three (λ s. IsNoStepOf start all.0 step fault s) (λ s. IsBrokenIfAny step s fault)
        (λ g l is b. (seen all.1 g l, is.starts, subst (λ s. IsBrokenIfAny step s fault) (here g l) b))
        (effect_stops untagged ends f step first_test.1 b n.2 t.2 fault e))))
        (λ last_step e h.
        let d = effect_as untagged f step first_test.1 n.2 b.within last_step e in
        let c = in_same untagged ends f first_test.1 _ _ _ _ _ d.found b in_step refl in
        let all_three = then_in untagged f (inside s) first_test.1 last_step.1 _ _ _ _ _ _ (IsStartFound untagged f start result (inside s) all.0 all.1) _ _ one d.found
        (λ g l ex laid goes is js. is) in
        bound_err (performed result body last_step.1 true switch) _ fault (Stopped k s Is) h
        (λ e. block_stops s (λ s. IsNoBodyOf start all.0 body switch fault s) Is (λ s b. inr (all.0, b.0, b.1, inr (inr b.2)))
        (stopped_later untagged ends f (inside s) _ _ _ _ _ all_three i z fresh (λ s. IsNoBodyOf start all.0 body switch fault s)
        (StatementIsBroken result body true switch fault)
        (λ g l is b. (
          seen all.1 g l,
          is.starts,
          subst (StatementIsBroken result body true switch fault) (same_seen untagged f first_test.1 last_step.1 d.stays g l ∙ here g l) b,
        ))
        (in_body last_step.1 c (fresh_later untagged ends f (inside s) _ _ _ _ _ all_three z.made fresh) e)))
        (λ b e h. cc))))
