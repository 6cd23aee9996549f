-- The code of statements that sit has good steps.
use Rattle.std.proofs.Common.{◌≡◌, ℕ, suc, ◌+◌, ◌<◌, ◌≤◌, ◌^◌, Bool, true, false, List, [], ◌∷◌, ◌++◌, length, Option, Some, None, refl, sym, subst, ◌∙◌}
use Rattle.std.proofs.Common.{arith, slice_get, if◌then◌else◌, append_assoc}
use Rattle.std.specs.Prelude.{get_or}
use Rattle.lay_base.specs.declared.faults.UndefinedKind.TheVariants as K
use Rattle.c_typed.specs.Constants.{ty}
use Rattle.c_typed.specs.Programs.{ProgramData}
use Rattle.c_typed.specs.RunCounts.Loops.{loops_in_all}
use Rattle.c_typed.specs.Trees as T
use Rattle.c_typed.specs.Trees.{Expression, PartValue, Initializer, Statement, Statements, Arms}
use Rattle.c_typed.specs.Typed.{at_of, path_at, path_ty}
use Rattle.c_typed.specs.declared.program.Local.{Local}
use Rattle.c_meaning.specs.Program.{size_at, access_at}
use Rattle.lower_tac.specs.Parts.{Steps, Part, temp, operand, code_of}
use Rattle.lower_tac.specs.Expressions.{value_code, effect_code, branch_code, named_root}
use Rattle.lower_tac.specs.declared.ways.Exits.{Exits}
use Rattle.lower_tac.specs.declared.ways.ReturnWay.TheVariants.{AtOnce as at_once, BehindEnds as behind_ends}
use Rattle.lower_tac.specs.declared.ways.ReturnWay.{ReturnWay}
use Rattle.lower_tac.specs.Statements.{Out, before, here, with_loops, in_loop, in_switch, ArmsOut}
use Rattle.lower_tac.specs.Statements.{default_start, cases_code, dispatch_code, chosen_code, return_code, test_code, effect_if_any, record_code, put_code}
use Rattle.lower_tac.specs.Statements.{parts_code, initial_code, declare_code, round, enters_by_test, enters_at_once, scoped_code, statement_code}
use Rattle.lower_tac.specs.Statements.{statements_code, arms_code, number_code, part, place}
use Rattle.rv_code.specs.declared.layout.Places.{Places}
use Rattle.tac_ir.specs.Code.{Code, RoutineData}
use Rattle.tac_ir.specs.declared.step.Operand.{Operand}
use Rattle.tac_ir.specs.declared.step.Step.{Step}
use Rattle.tac_ir.specs.declared.step.Step.TheVariants as S
use Rattle.tac_ir.specs.declared.step.Target.{Target}
use Rattle.compiled_files.proofs.Soundness.Sitting.{CasesSit, PartsSit, SitsDeclaration, SitsIfAny, SitsInitializer, SitsValue, ArmsSit, StatementSits, StatementsSit}
use Rattle.compiled_files.proofs.Soundness.Adding as Adding
use Rattle.compiled_files.proofs.Soundness.Assigning as Assigning
use Rattle.compiled_files.proofs.Soundness.Walking as Walking
use Rattle.compiled_files.proofs.Soundness.Scoping as Scoping

-- the element behind some others
behind : (a : List (List ℕ)) (x : List ℕ) (more : List (List ℕ)) → get_or (a ++ x ∷ more) (length a) [] ≡ x
behind [] x more = refl
behind (y ∷ a) x more = behind a x more

module _ (p : ProgramData) (c : Code) (places : Places) (g : RoutineData) (size : ℕ → ℕ) (Here : ℕ → Type 0) (locals : List Local) (P : Steps → Type 0)
    (add : (s : Step) (code : Steps) → Adding.Good p c places g size Here s → P code → P (s ∷ code)) (k : ℕ)
    (low : Adding.Low p c places g size Here (length locals)) where
  abbrev Fine : Part → Type 0
  Fine = Adding.Fine p c places g size Here P add

  abbrev Sit : Expression ℕ → Type 0
  Sit = Adding.Sit p c places g size Here locals

  abbrev SitPath : T.Path ℕ → Type 0
  SitPath = Adding.SitPath p c places g size Here locals

  abbrev Q : Out → Type 0
  Q = Scoping.Q p c places g size Here locals P add

  abbrev Makes : (Exits → Out → Out) → Type 0
  Makes = Scoping.Makes p c places g size Here locals P add k

  abbrev here_room : ℕ
  here_room = length locals

  lower : Adding.Low p c places g size Here (suc (length locals))
  lower = omega (arith, low)

  fine : (e : Expression ℕ) → Sit e → Fine (part p k locals e)
  fine e s = Assigning.value_fine p c places g size Here locals P add e s (Walking.value_adds p c places g size Here locals P add e s)

  fine_place : (q : T.Path ℕ) → SitPath q → Fine (place p k locals q)
  fine_place q s = Assigning.place_fine p c places g size Here locals P add false q s (Walking.path_adds p c places g size Here locals P add false q s)

  effect_adds : (e : Expression ℕ) → Sit e → (code : Steps) → P code → P (effect_code p locals e here_room code)
  effect_adds e s code h = Walking.effect_adds p c places g size Here locals P add e s here_room code low h

  pub branch_adds : (e : Expression ℕ) → Sit e → (when : Bool) (to : Target) (code : Steps) → P code → P (branch_code p locals e when to here_room code)
  branch_adds e s when to code h = Walking.branch_adds p c places g size Here locals P add e s when to here_room code low h

  pub jump_adds : (to : Target) (code : Steps) → P code → P (S.Jump to ∷ code)
  jump_adds = Scoping.jump_adds p c places g size Here locals P add

  clear_adds : (t : ℕ) (code : Steps) → P code → P (S.Clear t ∷ code)
  clear_adds = Scoping.clear_adds p c places g size Here locals P add

  pub test_adds : (e : Option (Expression ℕ)) → SitsIfAny p c (length places.objects) Here locals e → (to : Target) (code : Steps) → P code
      → P (test_code p k locals e to code)
  test_adds None s to code h = jump_adds to code h
  test_adds (Some e) s to code h = branch_adds e s true to code h

  pub if_any_adds : (e : Option (Expression ℕ)) → SitsIfAny p c (length places.objects) Here locals e → (code : Steps) → P code
      → P (effect_if_any p k locals e code)
  if_any_adds None s code h = h
  if_any_adds (Some e) s code h = effect_adds e s code h

  -- the number of a `switch`
  pub number_adds : (e : Expression ℕ) → Sit e → (code : Steps) → P code → P (number_code p k locals e code)
  number_adds e s code h =
      Adding.one_adds p c places g size Here P add (fine e s) here_room (S.Number here_room (at_of e) (operand (part p k locals e) here_room)) code low
      (λ f. ((f, tt), tt, tt, tt)) h

  return_adds : (e : Option (Expression ℕ)) → SitsIfAny p c (length places.objects) Here locals e → (way : ReturnWay) (code : Steps) → P code
      → P (return_code p k locals e way code)
  return_adds None s at_once code h = add (S.Return None) code (tt, tt, tt, tt) h
  return_adds None s (behind_ends to) code h = clear_adds here_room (S.Jump to ∷ code) (jump_adds to code h)
  return_adds (Some e) s at_once code h =
      Adding.one_adds p c places g size Here P add (fine e s) here_room (S.Return (Some (operand (part p k locals e) here_room))) code low
      (λ f. ((f, tt), tt, tt, tt)) h
  return_adds (Some e) s (behind_ends to) code h =
      Adding.held_adds p c places g size Here P add (fine e s) here_room (S.Jump to ∷ code) low (jump_adds to code h)

  -- ---- initializers

  record_adds : (o : Option ℕ) (x offset : ℕ) → offset ≤ size x → (q : T.Path ℕ) → SitPath q → size_at p (path_ty q) < 2 ^ 32 → (code : Steps) → P code
      → P (record_code p k locals o x offset q code)
  record_adds (Some y) x offset within q s small code h =
      add (S.Inside here_room (path_at q) x offset) (S.Fail K.Dead (path_at q) ∷ code) (tt, within, tt, tt)
      (Assigning.fail_adds p c places g size Here locals P add (path_at q) code h)
  record_adds None x offset within q s small code h =
      let last = S.CopyRecord (path_at q) (size_at p (path_ty q)) (temp (path_at q) here_room) (operand (place p k locals q) (suc here_room)) in
      add (S.Inside here_room (path_at q) x offset) (code_of (place p k locals q) (suc here_room) (last ∷ code)) (tt, within, tt, tt)
      (Adding.one_adds p c places g size Here P add (fine_place q s) (suc here_room) last code lower (λ f. ((tt, (f, tt)), small, tt, tt)) h)

  put_adds : (x offset : ℕ) (v : PartValue ℕ) → SitsValue p c (length places.objects) Here locals size x offset v → (out : Out) → Q out
      → Q (put_code p k locals x offset v out)
  put_adds x offset (T.value e) s out h more end =
      let last = S.Store (at_of e) (access_at p (ty e)) (temp (at_of e) here_room) (operand (part p k locals e) (suc here_room)) in
      add (S.Inside here_room (at_of e) x offset) (code_of (part p k locals e) (suc here_room) (last ∷ out.code)) (tt, s.0, tt, tt)
      (Adding.one_adds p c places g size Here P add (fine e s.1) (suc here_room) last out.code lower (λ f. ((tt, (f, tt)), tt, tt, tt)) (h more end))
  put_adds x offset (T.record_of q) s out h more end = record_adds (named_root p locals q) x offset s.0 q s.1 s.2 out.code (h more end)
  put_adds x offset (T.text bytes) s out h more end =
      let e : out.texts ++ bytes ∷ more ≡ g.texts = sym (append_assoc out.texts (bytes ∷ []) more) ∙ end in
      let is : get_or g.texts (length out.texts) [] ≡ bytes = subst (λ all. get_or all (length out.texts) [] ≡ bytes) e (behind out.texts bytes more) in
      add (S.Text x offset (length out.texts)) out.code (tt, subst (λ (b : List ℕ). offset + length b ≤ size x) (sym is) s, tt, tt) (h (bytes ∷ more) e)

  parts_add : (x : ℕ) (all : List (T.Part ℕ)) → PartsSit p c (length places.objects) Here locals size x all → (out : Out) → Q out
      → Q (parts_code p k locals x all out)
  parts_add x [] s out h = h
  parts_add x (one ∷ more) s out h = put_adds x one.offset one.value s.0 (parts_code p k locals x more out) (parts_add x more s.1 out h)

  initial_adds : (x n : ℕ) (block : Bool) → (block ≡ true → n ≡ size x) → (i : Initializer ℕ)
      → SitsInitializer p c (length places.objects) Here locals size block x i
      → (out : Out) → Q out → Q (initial_code p k locals x n block i out)
  initial_adds x n true sized (T.whole e) s out h = put_adds x 0 (T.value e) s out h
  initial_adds x n true sized (T.whole_record q) s out h = put_adds x 0 (T.record_of q) s out h
  initial_adds x n true sized (T.parts all) s out h = λ more e.
      add (S.Zeros x n) (parts_code p k locals x all out).code (tt, (let z = sized refl in omega (arith, z)), tt, tt) (parts_add x all s out h more e)
  initial_adds x n false sized (T.whole e) s out h = λ more end.
      Assigning.named_adds p c places g size Here locals P add (at_of e) x (value_code p locals e) (part p k locals e)
      (Walking.value_adds p c places g size Here locals P add e s)
      here_room None out.code low (h more end)
  initial_adds x n false sized (T.whole_record q) s out h = h
  initial_adds x n false sized (T.parts all) s out h = h

  declare_adds : (x : ℕ) (o : Option Local) (i : Option (Initializer ℕ)) → SitsDeclaration p c (length places.objects) Here locals size o x i → (out : Out)
      → Q out
      → Q (declare_code p k locals o x i out)
  declare_adds x None i s out h = h
  declare_adds x (Some l) None s out h = λ more end. by_block l.block refl (h more end)
    where
      by_block : (b : Bool) → l.block ≡ b → P out.code → P ((if b then S.Forget x (size_at p l.ty) else S.Clear x) ∷ out.code)
      by_block true e h = add (S.Forget x (size_at p l.ty)) out.code (tt, (let z = s.0 e in omega (arith, z)), tt, tt) h
      by_block false e h = clear_adds x out.code h
  declare_adds x (Some l) (Some i) s out h = initial_adds x (size_at p l.ty) l.block s.0 i s.1 out h

  -- ---- `switch`

  cases_add : (a : Operand) → Adding.Fits p c places g size Here a → (start : Target) (cases : List ℕ)
      → CasesSit p c (length places.objects) Here locals size cases
      → (code : Steps) → P code → P (cases_code a start cases code)
  cases_add a f start [] s code h = h
  cases_add a f start (v ∷ more) s code h = add (S.Case v a start) (cases_code a start more code) ((f, tt), s.0, tt, tt) (cases_add a f start more s.1 code h)

  dispatch_adds : (a : Operand) → Adding.Fits p c places g size Here a → (arms : Arms ℕ) → ArmsSit p c (length places.objects) Here locals size arms
      → (starts : List Target)
      → (code : Steps) → P code → P (dispatch_code a arms starts code)
  dispatch_adds a f T.no_arms s starts code h = h
  dispatch_adds a f (T.and_arm cases is_default all more) s [] code h = h
  dispatch_adds a f (T.and_arm cases is_default all more) s (start ∷ starts) code h =
      cases_add a f start cases s.0 (dispatch_code a more starts code) (dispatch_adds a f more s.2 starts code h)

  -- where the arms are there
  pub chosen_ends : (a : Operand) → Adding.Fits p c places g size Here a → (arms : Arms ℕ) → ArmsSit p c (length places.objects) Here locals size arms
      → (to : Target)
      → (made : ArmsOut) → Q made.out → Q (chosen_code a arms to made)
  chosen_ends a f arms s to made h more e =
      let jump = default_start to arms made.starts in
      dispatch_adds a f arms s made.starts (S.Jump jump ∷ made.out.code) (jump_adds jump made.out.code (h more e))

  chosen_adds : (a : Operand) → Adding.Fits p c places g size Here a → (arms : Arms ℕ) → ArmsSit p c (length places.objects) Here locals size arms
      → ((x : Exits) (out : Out) → Q out → Q (arms_code p k locals arms x out).out)
      → Makes (λ x out. chosen_code a arms (here out) (arms_code p k locals arms (in_switch (here out) x) out))
  chosen_adds a f arms s adds x out h =
      chosen_ends a f arms s (here out) (arms_code p k locals arms (in_switch (here out) x) out) (adds (in_switch (here out) x) out h)

  -- ---- loops

  loop_adds : (test step : Option (Expression ℕ)) → SitsIfAny p c (length places.objects) Here locals test
      → SitsIfAny p c (length places.objects) Here locals step
      → (enters : Target → Steps → Steps) → ((to : Target) (code : Steps) → P code → P (enters to code)) → (body : Statement ℕ)
      → Makes (statement_code p k locals body)
      → Makes (λ x out. round p k locals (test_code p k locals test) (effect_if_any p k locals step) enters
      (λ b n out. statement_code p k locals body (in_loop b n x) out) out)
  loop_adds test step t s enters enter body adds x out h =
      Scoping.round_adds p c places g size Here locals P add k (test_code p k locals test) (effect_if_any p k locals step) enters
      (λ b n out. statement_code p k locals body (in_loop b n x) out) (test_adds test t) (if_any_adds step s) enter
      (λ b n inner q. adds (in_loop b n x) inner q) out h

  pub by_test : (to : Target) (code : Steps) → P code → P (enters_by_test p k locals to code)
  by_test to code h = jump_adds to code h

  pub at_once_adds : (to : Target) (code : Steps) → P code → P (enters_at_once p k locals to code)
  at_once_adds to code h = h

  -- ---- statements

  mutual
    pub statement_adds : (s : Statement ℕ) → StatementSits p c (length places.objects) Here locals size s → Makes (statement_code p k locals s)
    statement_adds (T.evaluate e) s x out h = λ more end. effect_adds e s out.code (h more end)
    statement_adds (T.block own all) s x out h =
        Scoping.scoped_adds p c places g size Here locals P add k own s.0 (λ x out. statements_code p k locals all x out) (statements_add all s.1) x out h
    statement_adds (T.declare n i) s x out h = declare_adds n (slice_get locals n) i s out h
    statement_adds (T.when e one) s x out h = λ more end.
        branch_adds e s.0 false (here out) (statement_code p k locals one x out).code (statement_adds one s.1 x out h more end)
    statement_adds (T.when_else e one other) s x out h = λ more end.
        let rest = statement_code p k locals other x out in
        let jumped = before (S.Jump (here out)) rest in
        let a : Q rest = statement_adds other s.2 x out h in
        let b : Q jumped = λ more e. jump_adds (here out) rest.code (a more e) in
        branch_adds e s.0 false (here rest) (statement_code p k locals one x jumped).code (statement_adds one s.1 x jumped b more end)
    statement_adds (T.while e body) s x out h =
        loop_adds (Some e) None s.0 tt (enters_by_test p k locals) by_test body (statement_adds body s.1) x out h
    statement_adds (T.do_while body e) s x out h =
        loop_adds (Some e) None s.1 tt (enters_at_once p k locals) at_once_adds body (statement_adds body s.0) x out h
    statement_adds (T.for own start test step body) s x out h =
        let loop = λ (x : Exits) (out : Out). round p k locals (test_code p k locals test) (effect_if_any p k locals step) (enters_by_test p k locals)
        (λ b n out. statement_code p k locals body (in_loop b n x) out) out in
        Scoping.scoped_adds p c places g size Here locals P add k own s.0
        (λ x out. statements_code p k locals start x (with_loops (loops_in_all start) (loop x out)))
        (λ x out h. statements_add start s.1 x (with_loops (loops_in_all start) (loop x out))
        (loop_adds test step s.2 s.3 (enters_by_test p k locals) by_test body (statement_adds body s.4) x out h)) x out h
    statement_adds (T.switch e own arms) s x out h = λ more end.
        let a = temp (at_of e) here_room in
        let make = λ (x : Exits) (out : Out). chosen_code a arms (here out) (arms_code p k locals arms (in_switch (here out) x) out) in
        number_adds e s.0 (scoped_code p k locals own make (in_switch (here out) x) out).code
        (Scoping.scoped_adds p c places g size Here locals P add k own s.1 make (chosen_adds a tt arms s.2 (arms_add arms s.2))
        (in_switch (here out) x) out h more end)
    statement_adds T.break s x out h = λ more end. Scoping.exit_adds p c places g size Here locals P add k x.on_break out.code (h more end)
    statement_adds T.continue s x out h = λ more end. Scoping.exit_adds p c places g size Here locals P add k x.on_continue out.code (h more end)
    statement_adds (T.return e) s x out h = λ more end. return_adds e s x.on_return out.code (h more end)

    pub statements_add : (all : Statements ℕ) → StatementsSit p c (length places.objects) Here locals size all → Makes (statements_code p k locals all)
    statements_add T.no_statements s x out h = h
    statements_add (T.and_statement one more) s x out h = statement_adds one s.0 x (statements_code p k locals more x out) (statements_add more s.1 x out h)

    pub arms_add : (arms : Arms ℕ) → ArmsSit p c (length places.objects) Here locals size arms → (x : Exits) (out : Out) → Q out
        → Q (arms_code p k locals arms x out).out
    arms_add T.no_arms s x out h = h
    arms_add (T.and_arm cases is_default all more) s x out h = statements_add all s.1 x (arms_code p k locals more x out).out (arms_add more s.2 x out h)
