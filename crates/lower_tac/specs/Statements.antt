-- The code of statements, and of functions (C99 6.8, 6.9.1).
use Rattle.std.specs.Prelude.{ℕ, suc, ◌+◌, ◌-◌, ◌==◌, Bool, true, false, ◌||◌, if◌then◌else◌, List, [], ◌∷◌, ◌++◌, length, map, Option, Some, None, slice_get, slice_set}
use Rattle.lay_base.specs.declared.faults.UndefinedKind.TheVariants as K
use Rattle.c_typed.specs.declared.program.Local.{Local}
use Rattle.c_typed.specs.Trees as T
use Rattle.c_typed.specs.Trees.{Expression, PartValue, Initializer, Statement, Statements, Arms}
use Rattle.c_typed.specs.Constants.{ty}
use Rattle.c_typed.specs.Programs.{ProgramData, FunctionData}
use Rattle.c_typed.specs.RunCounts.Loops.{loops_in_all, loops_of}
use Rattle.c_typed.specs.Typed.{at_of, path_at, path_ty}
use Rattle.c_meaning.specs.Program.{size_at, access_at, all_locals}
use Rattle.c_meaning.specs.Run.{main_place, numbers}
use Rattle.tac_ir.specs.Code.{Code, RoutineData}
use Rattle.tac_ir.specs.declared.step.Operand.{Operand}
use Rattle.tac_ir.specs.declared.step.Operand.TheVariants as O
use Rattle.tac_ir.specs.declared.step.Parameter.{Parameter}
use Rattle.tac_ir.specs.declared.step.Step.{Step}
use Rattle.tac_ir.specs.declared.step.Step.TheVariants as S
use Rattle.tac_ir.specs.declared.step.Target.{Target}
use Rattle.tac_ir.specs.declared.step.Target.TheVariants as To
use Rattle.lower_tac.specs.declared.ways.Exit.{Exit}
use Rattle.lower_tac.specs.declared.ways.Exit.TheVariants.{Leads as leads, Leaves as leaves}
use Rattle.lower_tac.specs.declared.ways.Exits.{Exits}
use Rattle.lower_tac.specs.declared.ways.ReturnWay.{ReturnWay}
use Rattle.lower_tac.specs.declared.ways.ReturnWay.TheVariants.{AtOnce as at_once, BehindEnds as behind_ends}
use Rattle.lower_tac.specs.Parts.{Steps, Part, temp, operand, code_of, held}
use Rattle.lower_tac.specs.Expressions.{value_code, effect_code, branch_code, path_code, part_of, place_of, named_root, assign_named}

-- ---- the code that is there, with its labels and texts, and how many loops of the function stand before it

pub record Out : Type 0 where
  pub code : Steps
  pub labels : List ℕ
  pub texts : List (List ℕ)
  pub loops : ℕ

abbrev pub before : Step → Out → Out
before s out = record out { code = s ∷ out.code }

abbrev pub by : (Steps → Steps) → Out → Out
by make out = record out { code = make out.code }

-- ... and so many more
abbrev pub with_loops : ℕ → Out → Out
with_loops k out = record out { loops = out.loops + k }

-- where the code that is there begins
abbrev pub here : Out → Target
here out = To.Left (length out.code)

-- a label to which code leads that is made before the label is set
abbrev pub with_label : Out → Out
with_label out = record out { labels = out.labels ++ 0 ∷ [] }

abbrev pub label_of : Out → ℕ
label_of out = length out.labels

abbrev pub marked : (label : ℕ) → Out → Out
marked l out = record out { labels = slice_set out.labels l (length out.code) }

-- ---- ways out of a statement

abbrev pub in_loop : (on_break on_continue : Target) → Exits → Exits
in_loop b c x = record { on_break = leads b; on_continue = leads c; on_return = x.on_return }

abbrev pub in_switch : (on_break : Target) → Exits → Exits
in_switch b x = record { on_break = leads b; on_continue = x.on_continue; on_return = x.on_return }

-- ---- `switch` (6.8.4.2)

-- the arm that is entered where no case fits, or else what is behind the arms
abbrev pub default_start : {X : Type 0} → (behind : Target) → Arms X → List Target → Target
default_start behind (T.and_arm cases is_default all more) (start ∷ starts) = if is_default then start else default_start behind more starts
default_start behind arms starts = behind

abbrev pub cases_code : Operand → Target → List ℕ → Steps → Steps
cases_code a start [] code = code
cases_code a start (v ∷ more) code = S.Case v a start ∷ cases_code a start more code

abbrev pub dispatch_code : {X : Type 0} → Operand → Arms X → List Target → Steps → Steps
dispatch_code a (T.and_arm cases is_default all more) (start ∷ starts) code = cases_code a start cases (dispatch_code a more starts code)
dispatch_code a arms starts code = code

pub record ArmsOut : Type 0 where
  pub out : Out
  pub starts : List Target

abbrev pub chosen_code : {X : Type 0} → Operand → Arms X → (behind : Target) → ArmsOut → Out
chosen_code a arms behind made = by (λ code. dispatch_code a arms made.starts (S.Jump (default_start behind arms made.starts) ∷ code)) made.out

module _ (p : ProgramData) (g : ℕ) (locals : List Local) where
  -- ---- scopes

  abbrev pub begin_code : Option Local → (x : ℕ) → Steps → Steps
  begin_code None x code = code
  begin_code (Some l) x code = if l.block then S.Begin x (size_at p l.ty) ∷ code else S.Clear x ∷ code

  abbrev pub begins_code : List ℕ → Steps → Steps
  begins_code [] code = code
  begins_code (x ∷ more) code = begin_code (slice_get locals x) x (begins_code more code)

  abbrev pub end_code : Option Local → (x : ℕ) → Steps → Steps
  end_code None x code = code
  end_code (Some l) x code = if l.block then S.End x ∷ code else code

  abbrev pub ends_code : List ℕ → Steps → Steps
  ends_code [] code = code
  ends_code (x ∷ more) code = end_code (slice_get locals x) x (ends_code more code)

  -- ---- the end of the function: that of `main` returns 0 (5.1.2.2.3)

  abbrev pub fallen : Option Operand
  fallen = if g == p.main then Some (O.Word 0) else None

  abbrev pub exit_code : Exit → Steps → Steps
  exit_code (leads to) code = S.Jump to ∷ code
  exit_code leaves code = S.Return fallen ∷ code

  -- temporaries stand behind the locals
  abbrev pub room : ℕ
  room = length locals

  abbrev pub part : Expression ℕ → Part
  part e = part_of p locals e (value_code p locals e)

  abbrev pub place : T.Path ℕ → Part
  place q = place_of p locals q (path_code p locals false q)

  -- a value that is a number, in the first temporary
  abbrev pub number_code : Expression ℕ → Steps → Steps
  number_code e code = code_of (part e) room (S.Number room (at_of e) (operand (part e) room) ∷ code)

  -- a value that stands in the first temporary is returned
  abbrev pub back_code : ReturnWay → Steps → Steps
  back_code at_once code = S.ReturnHeld room ∷ code
  back_code (behind_ends to) code = S.Jump to ∷ code

  abbrev pub return_code : Option (Expression ℕ) → ReturnWay → Steps → Steps
  return_code None at_once code = S.Return None ∷ code
  return_code None (behind_ends to) code = S.Clear room ∷ S.Jump to ∷ code
  return_code (Some e) at_once code = code_of (part e) room (S.Return (Some (operand (part e) room)) ∷ code)
  return_code (Some e) (behind_ends to) code = held (part e) room (S.Jump to ∷ code)

  -- ---- scopes with blocks: each way out ends them in one place, which the way through jumps over

  abbrev pub is_block : Option Local → Bool
  is_block None = false
  is_block (Some l) = l.block

  abbrev pub have_blocks : List ℕ → Bool
  have_blocks [] = false
  have_blocks (x ∷ more) = is_block (slice_get locals x) || have_blocks more

  -- the ends, and then the way out
  abbrev pub ending : List ℕ → (Steps → Steps) → Out → Out
  ending own way = by (λ code. ends_code own (way code))

  abbrev pub break_end : List ℕ → Exits → Out → Out
  break_end own x = ending own (exit_code x.on_break)

  abbrev pub continue_end : List ℕ → Exits → Out → Out
  continue_end own x = ending own (exit_code x.on_continue)

  abbrev pub return_end : List ℕ → Exits → Out → Out
  return_end own x = ending own (back_code x.on_return)

  -- from the back: the ends on the way through, and those of a return, a continue and a break
  abbrev pub through : List ℕ → Out → Out
  through own out = by (ends_code own) out

  abbrev pub returned : List ℕ → Exits → Out → Out
  returned own x out = return_end own x (through own out)

  abbrev pub continued : List ℕ → Exits → Out → Out
  continued own x out = continue_end own x (returned own x out)

  abbrev pub broken : List ℕ → Exits → Out → Out
  broken own x out = break_end own x (continued own x out)

  -- what stands behind a scope's statements, and their ways out
  abbrev pub scope_end : (blocks : Bool) → List ℕ → Exits → Out → Out
  scope_end false own x out = out
  scope_end true own x out = before (S.Jump (here (through own out))) (broken own x out)

  abbrev pub scope_exits : (blocks : Bool) → List ℕ → Exits → Out → Exits
  scope_exits false own x out = x
  scope_exits true own x out = record {
    on_break = leads (here (broken own x out));
    on_continue = leads (here (continued own x out));
    on_return = behind_ends (here (returned own x out));
  }

  abbrev pub scope_code : (blocks : Bool) → List ℕ → (Exits → Out → Out) → Exits → Out → Out
  scope_code blocks own make x out = make (scope_exits blocks own x out) (scope_end blocks own x out)

  abbrev pub scoped_code : List ℕ → (Exits → Out → Out) → Exits → Out → Out
  scoped_code own make x out = by (begins_code own) (scope_code (have_blocks own) own make x out)

  abbrev pub test_code : Option (Expression ℕ) → Target → Steps → Steps
  test_code None to code = S.Jump to ∷ code
  test_code (Some e) to code = branch_code p locals e true to room code

  abbrev pub effect_if_any : Option (Expression ℕ) → Steps → Steps
  effect_if_any None code = code
  effect_if_any (Some e) code = effect_code p locals e room code

  -- ---- initializers of locals (6.7.8)

  -- a record from a named local is none
  abbrev pub record_code : Option ℕ → (x offset : ℕ) → T.Path ℕ → Steps → Steps
  record_code (Some y) x offset q code = S.Inside room (path_at q) x offset ∷ S.Fail K.Dead (path_at q) ∷ code
  record_code None x offset q code = S.Inside room (path_at q) x offset ∷ code_of (place q) (suc room)
      (S.CopyRecord (path_at q) (size_at p (path_ty q)) (temp (path_at q) room) (operand (place q) (suc room)) ∷ code)

  abbrev pub put_code : (x offset : ℕ) → PartValue ℕ → Out → Out
  put_code x offset (T.value e) out = by (λ code. S.Inside room (at_of e) x offset ∷ code_of (part e) (suc room)
      (S.Store (at_of e) (access_at p (ty e)) (temp (at_of e) room) (operand (part e) (suc room)) ∷ code)) out
  put_code x offset (T.record_of q) out = by (record_code (named_root p locals q) x offset q) out
  put_code x offset (T.text bytes) out = before (S.Text x offset (length out.texts)) (record out { texts = out.texts ++ bytes ∷ [] })

  abbrev pub parts_code : (x : ℕ) → List (T.Part ℕ) → Out → Out
  parts_code x [] out = out
  parts_code x (one ∷ more) out = put_code x one.offset one.value (parts_code x more out)

  abbrev pub initial_code : (x size : ℕ) → (block : Bool) → Initializer ℕ → Out → Out
  initial_code x size true (T.whole e) out = put_code x 0 (T.value e) out
  initial_code x size true (T.whole_record q) out = put_code x 0 (T.record_of q) out
  initial_code x size true (T.parts all) out = before (S.Zeros x size) (parts_code x all out)
  initial_code x size false (T.whole e) out = by (assign_named p (at_of e) x (value_code p locals e) (part e) room None) out
  initial_code x size false i out = out

  abbrev pub declare_code : Option Local → (x : ℕ) → Option (Initializer ℕ) → Out → Out
  declare_code None x i out = out
  declare_code (Some l) x None out = before (if l.block then S.Forget x (size_at p l.ty) else S.Clear x) out
  declare_code (Some l) x (Some i) out = initial_code x (size_at p l.ty) l.block i out

  -- ---- loops (6.8.5): the body, the step of a `for`, the test, which leads to the body's label; `enters` stands before the body

  abbrev pub round : (test : Target → Steps → Steps) → (step : Steps → Steps) → (enters : (test : Target) → Steps → Steps)
      → (body : (on_break on_continue : Target) → Out → Out) → Out → Out
  round test step enters body out =
      let l = label_of out in
      let tested = by (test (To.Label l)) (with_label out) in
      let stepped = by step tested in
      let inner = body (here out) (here stepped) stepped in
      by (enters (here tested)) (marked l (before (S.Began g (inner.loops - 1)) (record inner { loops = inner.loops - 1 })))

  abbrev pub enters_by_test : Target → Steps → Steps
  enters_by_test test code = S.Jump test ∷ code

  abbrev pub enters_at_once : Target → Steps → Steps
  enters_at_once test code = code

  -- ---- statements (6.8)

  abbrev mutual
    pub statement_code : Statement ℕ → Exits → Out → Out
    statement_code (T.evaluate e) x out = by (effect_code p locals e room) out
    statement_code (T.block own all) x out = scoped_code own (λ x out. statements_code all x out) x out
    statement_code (T.declare n i) x out = declare_code (slice_get locals n) n i out
    statement_code (T.when e one) x out = by (branch_code p locals e false (here out) room) (statement_code one x out)
    statement_code (T.when_else e one other) x out =
        let rest = statement_code other x out in
        by (branch_code p locals e false (here rest) room) (statement_code one x (before (S.Jump (here out)) rest))
    statement_code (T.while e body) x out =
        round (test_code (Some e)) (λ code. code) enters_by_test (λ b c out. statement_code body (in_loop b c x) out) out
    statement_code (T.do_while body e) x out =
        round (test_code (Some e)) (λ code. code) enters_at_once (λ b c out. statement_code body (in_loop b c x) out) out
    statement_code (T.for own start test step body) x out =
        scoped_code own (λ x out. statements_code start x (with_loops (loops_in_all start)
        (round (test_code test) (effect_if_any step) enters_by_test (λ b c out. statement_code body (in_loop b c x) out) out))) x out
    statement_code (T.switch e own arms) x out =
        by (number_code e) (scoped_code own (λ x out. chosen_code (temp (at_of e) room) arms (here out) (arms_code arms (in_switch (here out) x) out)) (in_switch (here out) x) out)
    statement_code T.break x out = by (exit_code x.on_break) out
    statement_code T.continue x out = by (exit_code x.on_continue) out
    statement_code (T.return e) x out = by (return_code e x.on_return) out

    pub statements_code : Statements ℕ → Exits → Out → Out
    statements_code T.no_statements x out = out
    statements_code (T.and_statement s more) x out = statement_code s x (statements_code more x out)

    pub arms_code : Arms ℕ → Exits → Out → ArmsOut
    arms_code T.no_arms x out = record { out = out; starts = [] }
    arms_code (T.and_arm cases is_default all more) x out =
        let rest = arms_code more x out in
        let made = statements_code all x rest.out in
        record { out = made; starts = here made ∷ rest.starts }

-- ---- functions

module _ (p : ProgramData) where
  abbrev pub parameter_of : Local → Parameter
  parameter_of l = record { block = l.block; size = size_at p l.ty; access = access_at p l.ty }

  abbrev pub function_exits : Exits
  function_exits = record { on_break = leaves; on_continue = leaves; on_return = at_once }

  -- nothing stands behind a function's end, and all of its loops before it
  abbrev pub last_code : (g : ℕ) → FunctionData → Out
  last_code g f = record { code = S.Return (fallen p g (all_locals f)) ∷ []; labels = []; texts = []; loops = loops_of f }

  abbrev pub parameters_of : FunctionData → List ℕ
  parameters_of f = numbers (length f.parameters)

  abbrev pub body_code : (g : ℕ) → FunctionData → Statement ℕ → Out
  body_code g f body = scope_code p g (all_locals f) (have_blocks p g (all_locals f) (parameters_of f)) (parameters_of f) (λ x out. statement_code p g (all_locals f) body x out)
      function_exits (last_code g f)

  abbrev pub routine_of : FunctionData → Out → RoutineData
  routine_of f out = record {
    ty = f.ty;
    locals = map (λ l. l.block) (all_locals f);
    parameters = map parameter_of f.parameters;
    code = out.code;
    labels = out.labels;
    texts = out.texts;
  }

  abbrev pub no_code : Out
  no_code = record { code = []; labels = []; texts = []; loops = 0 }

  abbrev pub code_if_any : (g : ℕ) → FunctionData → Option (Statement ℕ) → Out
  code_if_any g f None = no_code
  code_if_any g f (Some body) = body_code g f body

  abbrev pub routines_from : (g : ℕ) → List FunctionData → List RoutineData
  routines_from g [] = []
  routines_from g (f ∷ more) = routine_of f (code_if_any g f f.body) ∷ routines_from (suc g) more

  abbrev pub lowered : Code
  lowered = record { routines = routines_from 0 p.functions; main = p.main; place = main_place p }
