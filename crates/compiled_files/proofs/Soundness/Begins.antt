-- Where a scope within a statement makes a local, the statement's code has what begins it.
use Rattle.std.proofs.Common.{◌≡◌, ℕ, ◌⊎◌, inl, inr, false, List, [], ◌∷◌, length, Option, Some, None}
use Rattle.std.specs.Prelude.{◌-◌}
use Rattle.c_typed.specs.Programs.{ProgramData}
use Rattle.c_typed.specs.RunCounts.Loops.{loops_in_all}
use Rattle.c_typed.specs.Trees as T
use Rattle.c_typed.specs.Trees.{Expression, Statement, Statements, Arms}
use Rattle.c_typed.specs.Typed.{at_of}
use Rattle.c_typed.specs.declared.program.Local.{Local}
use Rattle.lower_tac.specs.Parts.{Steps, temp}
use Rattle.lower_tac.specs.declared.ways.Exits.{Exits}
use Rattle.lower_tac.specs.Statements.{Out, before, by, here, with_label, with_loops, in_loop, in_switch, begins_code, chosen_code, test_code, effect_if_any}
use Rattle.lower_tac.specs.Statements.{arms_code, enters_at_once, enters_by_test, have_blocks, round, scope_code, scope_end, scope_exits, scoped_code}
use Rattle.lower_tac.specs.Statements.{statement_code, statements_code}
use Rattle.rv_code.specs.declared.layout.Places.{Places}
use Rattle.tac_ir.specs.Code.{Code, RoutineData}
use Rattle.tac_ir.specs.declared.step.Step.{Step}
use Rattle.tac_ir.specs.declared.step.Step.TheVariants as S
use Rattle.tac_ir.specs.declared.step.Target.{Target}
use Rattle.tac_ir.specs.declared.step.Target.TheVariants as To
use Rattle.compiled_files.proofs.Soundness.Sitting.{ArmsSit, OwnSit, StatementSits, StatementsSit}
use Rattle.compiled_files.proofs.Soundness.Adding as Adding
use Rattle.compiled_files.proofs.Soundness.Scoping as Scoping
use Rattle.compiled_files.proofs.Soundness.Stating as Stating

abbrev pub In : ℕ → List ℕ → Type 0
In n [] = ⊥
In n (m ∷ more) = (n ≡ m) ⊎ In n more

-- a scope within a statement makes that local
abbrev mutual
  pub Begun : ℕ → Statement ℕ → Type 0
  Begun n (T.evaluate e) = ⊥
  Begun n (T.block own all) = In n own ⊎ BegunAmong n all
  Begun n (T.declare m i) = ⊥
  Begun n (T.when e one) = Begun n one
  Begun n (T.when_else e one other) = Begun n one ⊎ Begun n other
  Begun n (T.while e body) = Begun n body
  Begun n (T.do_while body e) = Begun n body
  Begun n (T.for own start test step body) = In n own ⊎ BegunAmong n start ⊎ Begun n body
  Begun n (T.switch e own arms) = In n own ⊎ BegunInArms n arms
  Begun n T.break = ⊥
  Begun n T.continue = ⊥
  Begun n (T.return e) = ⊥

  pub BegunAmong : ℕ → Statements ℕ → Type 0
  BegunAmong n T.no_statements = ⊥
  BegunAmong n (T.and_statement s more) = Begun n s ⊎ BegunAmong n more

  pub BegunInArms : ℕ → Arms ℕ → Type 0
  BegunInArms n T.no_arms = ⊥
  BegunInArms n (T.and_arm cases is_default all more) = BegunAmong n all ⊎ BegunInArms n more

module _ (p : ProgramData) (c : Code) (places : Places) (g : RoutineData) (size : ℕ → ℕ) (Here : ℕ → Type 0) (locals : List Local) (P : Steps → Type 0)
    (add : (s : Step) (code : Steps) → Adding.Good p c places g size Here s → P code → P (s ∷ code)) (k : ℕ)
    (low : Adding.Low p c places g size Here (length locals)) (n : ℕ)
    -- what begins it gives what is to be shown
    (start : (own : List ℕ) → In n own → (code : Steps) → P (begins_code p k locals own code)) where
  abbrev Q : Out → Type 0
  Q = Scoping.Q p c places g size Here locals P add

  abbrev Gives : (Exits → Out → Out) → Type 0
  Gives make = (x : Exits) (out : Out) → Q (make x out)

  started : (own : List ℕ) → In n own → (make : Exits → Out → Out) → Gives (scoped_code p k locals own make)
  started own i make x out = λ more e. start own i (scope_code p k locals (have_blocks p k locals own) own make x out).code

  within : (own : List ℕ) → OwnSit p c (length places.objects) Here locals size own → (make : Exits → Out → Out) → Gives make
      → Gives (scoped_code p k locals own make)
  within own s make gives x out =
      Scoping.by_adds p c places g size Here locals P add (begins_code p k locals own) (Scoping.begins_add p c places g size Here locals P add k own s)
      (scope_code p k locals (have_blocks p k locals own) own make x out)
      (gives (scope_exits p k locals (have_blocks p k locals own) own x out) (scope_end p k locals (have_blocks p k locals own) own x out))

  in_round : (test : Target → Steps → Steps) (step : Steps → Steps) (enters : Target → Steps → Steps) (body : (on_break on_continue : Target) → Out → Out)
      → ((to : Target) (code : Steps) → P code → P (enters to code)) → ((b m : Target) (inner : Out) → Q (body b m inner))
      → (out : Out) → Q (round p k locals test step enters body out)
  in_round test step enters body enter bodies out = λ more e.
      let tested = by (test (To.Label (length out.labels))) (with_label out) in
      let stepped = by step tested in
      let inner = body (here out) (here stepped) stepped in
      enter (here tested) (S.Began k (inner.loops - 1) ∷ inner.code)
      (add (S.Began k (inner.loops - 1)) inner.code (tt, tt, tt, tt) (bodies (here out) (here stepped) stepped more e))

  in_loop_gives : (test step : Option (Expression ℕ)) (enters : Target → Steps → Steps) → ((to : Target) (code : Steps) → P code → P (enters to code))
      → (body : Statement ℕ) → Gives (statement_code p k locals body)
      → Gives (λ x out. round p k locals (test_code p k locals test) (effect_if_any p k locals step) enters
      (λ b m out. statement_code p k locals body (in_loop b m x) out) out)
  in_loop_gives test step enters enter body gives x out =
      in_round (test_code p k locals test) (effect_if_any p k locals step) enters (λ b m out. statement_code p k locals body (in_loop b m x) out) enter
      (λ b m inner. gives (in_loop b m x) inner) out

  by_test : (to : Target) (code : Steps) → P code → P (enters_by_test p k locals to code)
  by_test = Stating.by_test p c places g size Here locals P add k low

  at_once : (to : Target) (code : Steps) → P code → P (enters_at_once p k locals to code)
  at_once = Stating.at_once_adds p c places g size Here locals P add k low

  mutual
    pub begun : (s : Statement ℕ) → StatementSits p c (length places.objects) Here locals size s → Begun n s → Gives (statement_code p k locals s)
    begun (T.evaluate e) s i x out = absurd i
    begun (T.block own all) s (inl i) x out = started own i (λ x out. statements_code p k locals all x out) x out
    begun (T.block own all) s (inr i) x out = within own s.0 (λ x out. statements_code p k locals all x out) (begun_among all s.1 i) x out
    begun (T.declare m initial) s i x out = absurd i
    begun (T.when e one) s i x out = λ more end.
        Stating.branch_adds p c places g size Here locals P add k low e s.0 false (here out) (statement_code p k locals one x out).code
        (begun one s.1 i x out more end)
    begun (T.when_else e one other) s (inl i) x out = λ more end.
        let rest = statement_code p k locals other x out in
        let jumped = before (S.Jump (here out)) rest in
        Stating.branch_adds p c places g size Here locals P add k low e s.0 false (here rest) (statement_code p k locals one x jumped).code
        (begun one s.1 i x jumped more end)
    begun (T.when_else e one other) s (inr i) x out = λ more end.
        let rest = statement_code p k locals other x out in
        let jumped = before (S.Jump (here out)) rest in
        let a : Q rest = begun other s.2 i x out in
        let b : Q jumped = λ more e. Stating.jump_adds p c places g size Here locals P add k low (here out) rest.code (a more e) in
        Stating.branch_adds p c places g size Here locals P add k low e s.0 false (here rest) (statement_code p k locals one x jumped).code
        (Stating.statement_adds p c places g size Here locals P add k low one s.1 x jumped b more end)
    begun (T.while e body) s i x out = in_loop_gives (Some e) None (enters_by_test p k locals) by_test body (begun body s.1 i) x out
    begun (T.do_while body e) s i x out = in_loop_gives (Some e) None (enters_at_once p k locals) at_once body (begun body s.0 i) x out
    begun (T.for own first test step body) s (inl i) x out =
        started own i (λ x out. statements_code p k locals first x (with_loops (loops_in_all first)
        (round p k locals (test_code p k locals test) (effect_if_any p k locals step) (enters_by_test p k locals)
        (λ b m out. statement_code p k locals body (in_loop b m x) out) out))) x out
    begun (T.for own first test step body) s (inr (inl i)) x out =
        within own s.0 (λ x out. statements_code p k locals first x (with_loops (loops_in_all first)
        (round p k locals (test_code p k locals test) (effect_if_any p k locals step) (enters_by_test p k locals)
        (λ b m out. statement_code p k locals body (in_loop b m x) out) out)))
        (λ x out. begun_among first s.1 i x (with_loops (loops_in_all first)
        (round p k locals (test_code p k locals test) (effect_if_any p k locals step) (enters_by_test p k locals)
        (λ b m out. statement_code p k locals body (in_loop b m x) out) out))) x out
    begun (T.for own first test step body) s (inr (inr i)) x out =
        within own s.0 (λ x out. statements_code p k locals first x (with_loops (loops_in_all first)
        (round p k locals (test_code p k locals test) (effect_if_any p k locals step) (enters_by_test p k locals)
        (λ b m out. statement_code p k locals body (in_loop b m x) out) out)))
        (λ x out. Stating.statements_add p c places g size Here locals P add k low first s.1 x (with_loops (loops_in_all first)
        (round p k locals (test_code p k locals test) (effect_if_any p k locals step) (enters_by_test p k locals)
        (λ b m out. statement_code p k locals body (in_loop b m x) out) out))
        (in_loop_gives test step (enters_by_test p k locals) by_test body (begun body s.4 i) x out)) x out
    begun (T.switch e own arms) s (inl i) x out = λ more end.
        let make = λ (x : Exits) (out : Out). chosen_code (temp (at_of e) (length locals)) arms (here out)
        (arms_code p k locals arms (in_switch (here out) x) out) in
        Stating.number_adds p c places g size Here locals P add k low e s.0 (scoped_code p k locals own make (in_switch (here out) x) out).code
        (started own i make (in_switch (here out) x) out more end)
    begun (T.switch e own arms) s (inr i) x out = λ more end.
        let make = λ (x : Exits) (out : Out). chosen_code (temp (at_of e) (length locals)) arms (here out)
        (arms_code p k locals arms (in_switch (here out) x) out) in
        Stating.number_adds p c places g size Here locals P add k low e s.0 (scoped_code p k locals own make (in_switch (here out) x) out).code
        (within own s.1 make
        (λ x out. Stating.chosen_ends p c places g size Here locals P add k low (temp (at_of e) (length locals)) tt arms s.2 (here out)
        (arms_code p k locals arms (in_switch (here out) x) out) (begun_in_arms arms s.2 i (in_switch (here out) x) out)) (in_switch (here out) x) out more end)
    begun T.break s i x out = absurd i
    begun T.continue s i x out = absurd i
    begun (T.return e) s i x out = absurd i

    pub begun_among : (all : Statements ℕ) → StatementsSit p c (length places.objects) Here locals size all → BegunAmong n all
        → Gives (statements_code p k locals all)
    begun_among T.no_statements s i x out = absurd i
    begun_among (T.and_statement one more) s (inl i) x out = begun one s.0 i x (statements_code p k locals more x out)
    begun_among (T.and_statement one more) s (inr i) x out =
        Stating.statement_adds p c places g size Here locals P add k low one s.0 x (statements_code p k locals more x out) (begun_among more s.1 i x out)

    pub begun_in_arms : (arms : Arms ℕ) → ArmsSit p c (length places.objects) Here locals size arms → BegunInArms n arms → (x : Exits) (out : Out)
        → Q (arms_code p k locals arms x out).out
    begun_in_arms T.no_arms s i x out = absurd i
    begun_in_arms (T.and_arm cases is_default all more) s (inl i) x out = begun_among all s.1 i x (arms_code p k locals more x out).out
    begun_in_arms (T.and_arm cases is_default all more) s (inr i) x out =
        Stating.statements_add p c places g size Here locals P add k low all s.1 x (arms_code p k locals more x out).out (begun_in_arms more s.2 i x out)
