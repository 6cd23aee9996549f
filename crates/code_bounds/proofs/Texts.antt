-- The texts of code are those of the source.
use Rattle.std.proofs.Common.{◌≡◌, ℕ, suc, ◌+◌, ◌≤◌, Bool, true, false, List, [], ◌∷◌, ◌++◌, length, map, Option, Some, None, arith}
use Rattle.c_typed.specs.declared.program.Local.{Local}
use Rattle.c_typed.specs.Programs.{FunctionData, ProgramData}
use Rattle.c_typed.specs.RunCounts.Loops.{loops_in_all}
use Rattle.c_typed.specs.Trees as T
use Rattle.c_typed.specs.Trees.{PartValue, Initializer, Statement, Statements, Arms}
use Rattle.c_typed.specs.Typed.{at_of}
use Rattle.c_meaning.specs.Program.{all_locals, size_at}
use Rattle.c_link.specs.Texts.{text_bytes, texts_in_parts, texts_in_initial, texts_in, texts_in_all, texts_in_arms, texts_in_body, texts_in_functions}
use Rattle.lower_tac.specs.Parts.{Steps, temp}
use Rattle.lower_tac.specs.declared.ways.Exits.{Exits}
use Rattle.lower_tac.specs.Statements.{Out, before, here, with_loops, in_loop, in_switch, chosen_code}
use Rattle.lower_tac.specs.Statements.{have_blocks, scope_code, scoped_code, put_code, parts_code, initial_code, declare_code, round, test_code}
use Rattle.lower_tac.specs.Statements.{effect_if_any}
use Rattle.lower_tac.specs.Statements.{enters_by_test, enters_at_once, statement_code, statements_code, arms_code, room}
use Rattle.lower_tac.specs.Statements.{function_exits, last_code, parameters_of, code_if_any, routines_from}
use Rattle.tac_ir.specs.declared.step.Step.TheVariants as S
use Rattle.tac_ir.specs.declared.step.Target.{Target}
use Rattle.rv_code.specs.Frames.{end_from, whole_words}
use Rattle.rv_code.specs.Programs.{all_texts_end}
use Rattle.code_bounds.specs.CompiledLaws.{TextsAreWithin}

-- ---- the bytes of texts, each rounded up to whole words

abbrev pub bytes_of_texts : List (List ℕ) → ℕ
bytes_of_texts [] = 0
bytes_of_texts (t ∷ more) = whole_words (length t) + bytes_of_texts more

one_more : (texts : List (List ℕ)) (t : List ℕ) → bytes_of_texts (texts ++ t ∷ []) ≡ bytes_of_texts texts + whole_words (length t)
one_more [] t = omega arith
one_more (u ∷ texts) t = let h = one_more texts t in omega (arith, h)

pub end_is : (at : ℕ) (texts : List (List ℕ)) → end_from at (map length texts) ≡ at + bytes_of_texts texts
end_is at [] = omega arith
end_is at (t ∷ more) = let h = end_is (at + whole_words (length t)) more in omega (arith, h)

abbrev bytes : Out → ℕ
bytes out = bytes_of_texts out.texts

-- so many bytes are added at most
abbrev Adds : ℕ → (Exits → Out → Out) → Type 0
Adds n make = (x : Exits) (out : Out) → bytes (make x out) ≤ n + bytes out

module _ (p : ProgramData) (g : ℕ) (locals : List Local) where
  scope_adds : (blocks : Bool) (own : List ℕ) (n : ℕ) (make : Exits → Out → Out) → Adds n make → Adds n (scope_code p g locals blocks own make)
  scope_adds false own n make adds x out = adds x out
  scope_adds true own n make adds x out = adds _ _

  scoped_adds : (own : List ℕ) (n : ℕ) (make : Exits → Out → Out) → Adds n make → Adds n (scoped_code p g locals own make)
  scoped_adds own n make adds x out = scope_adds (have_blocks p g locals own) own n make adds x out

  put_adds : (x offset : ℕ) (v : PartValue ℕ) (out : Out) → bytes (put_code p g locals x offset v out) ≤ text_bytes v + bytes out
  put_adds x offset (T.value e) out = omega arith
  put_adds x offset (T.record_of q) out = omega arith
  put_adds x offset (T.text text) out = let h = one_more out.texts text in omega (arith, h)

  parts_add : (x : ℕ) (all : List (T.Part ℕ)) (out : Out) → bytes (parts_code p g locals x all out) ≤ texts_in_parts all + bytes out
  parts_add x [] out = omega arith
  parts_add x (one ∷ more) out =
      let a = put_adds x one.offset one.value (parts_code p g locals x more out) in let b = parts_add x more out in omega (arith, a, b)

  initial_adds : (x size : ℕ) (block : Bool) (i : Initializer ℕ) (out : Out)
      → bytes (initial_code p g locals x size block i out) ≤ texts_in_initial (Some i) + bytes out
  initial_adds x size true (T.whole e) out = omega arith
  initial_adds x size true (T.whole_record q) out = omega arith
  initial_adds x size true (T.parts all) out = let a = parts_add x all out in omega (arith, a)
  initial_adds x size false (T.whole e) out = omega arith
  initial_adds x size false (T.whole_record q) out = omega arith
  initial_adds x size false (T.parts all) out = omega arith

  declare_adds : (x : ℕ) (o : Option Local) (i : Option (Initializer ℕ)) (out : Out)
      → bytes (declare_code p g locals o x i out) ≤ texts_in_initial i + bytes out
  declare_adds x None i out = omega arith
  declare_adds x (Some l) None out = omega arith
  declare_adds x (Some l) (Some i) out = initial_adds x (size_at p l.ty) l.block i out

  round_adds : (test : Target → Steps → Steps) (step : Steps → Steps) (enters : Target → Steps → Steps) (body : (b k : Target) → Out → Out) (n : ℕ)
      → ((b k : Target) (out : Out) → bytes (body b k out) ≤ n + bytes out) → (out : Out) → bytes (round p g locals test step enters body out) ≤ n + bytes out
  round_adds test step enters body n adds out = adds _ _ _

  mutual
    statement_adds : (s : Statement ℕ) → Adds (texts_in s) (statement_code p g locals s)
    statement_adds (T.evaluate e) x out = omega arith
    statement_adds (T.block own all) x out = scoped_adds own (texts_in_all all) (λ x out. statements_code p g locals all x out) (statements_add all) x out
    statement_adds (T.declare n i) x out = declare_adds n _ i out
    statement_adds (T.when e one) x out = statement_adds one x out
    statement_adds (T.when_else e one other) x out =
        let a = statement_adds other x out in
        let b = statement_adds one x (before (S.Jump (here out)) (statement_code p g locals other x out)) in omega (arith, a, b)
    statement_adds (T.while e body) x out =
        round_adds (test_code p g locals (Some e)) (λ code. code) (enters_by_test p g locals)
        (λ b k out. statement_code p g locals body (in_loop b k x) out) (texts_in body) (λ b k out. statement_adds body (in_loop b k x) out) out
    statement_adds (T.do_while body e) x out =
        round_adds (test_code p g locals (Some e)) (λ code. code) (enters_at_once p g locals)
        (λ b k out. statement_code p g locals body (in_loop b k x) out) (texts_in body) (λ b k out. statement_adds body (in_loop b k x) out) out
    statement_adds (T.for own start test step body) x out =
        scoped_adds own (texts_in_all start + texts_in body)
        (λ x out. statements_code p g locals start x (with_loops (loops_in_all start)
        (round p g locals (test_code p g locals test) (effect_if_any p g locals step)
        (enters_by_test p g locals) (λ b k out. statement_code p g locals body (in_loop b k x) out) out)))
        (λ x out.
        let a = round_adds (test_code p g locals test) (effect_if_any p g locals step) (enters_by_test p g locals)
        (λ b k out. statement_code p g locals body (in_loop b k x) out) (texts_in body) (λ b k out. statement_adds body (in_loop b k x) out) out in
        let b = statements_add start x (with_loops (loops_in_all start)
        (round p g locals (test_code p g locals test) (effect_if_any p g locals step)
        (enters_by_test p g locals) (λ b k out. statement_code p g locals body (in_loop b k x) out) out)) in omega (arith, a, b)) x out
    statement_adds (T.switch e own arms) x out =
        scoped_adds own (texts_in_arms arms)
        (λ x out. chosen_code (temp (at_of e) (room p g locals)) arms (here out) (arms_code p g locals arms (in_switch (here out) x) out))
        (λ x out. arms_add arms (in_switch (here out) x) out) (in_switch (here out) x) out
    statement_adds T.break x out = omega arith
    statement_adds T.continue x out = omega arith
    statement_adds (T.return e) x out = omega arith

    statements_add : (all : Statements ℕ) → Adds (texts_in_all all) (statements_code p g locals all)
    statements_add T.no_statements x out = omega arith
    statements_add (T.and_statement s more) x out =
        let a = statements_add more x out in let b = statement_adds s x (statements_code p g locals more x out) in omega (arith, a, b)

    arms_add : (arms : Arms ℕ) (x : Exits) (out : Out) → bytes (arms_code p g locals arms x out).out ≤ texts_in_arms arms + bytes out
    arms_add T.no_arms x out = omega arith
    arms_add (T.and_arm cases is_default all more) x out =
        let a = arms_add more x out in
        let b = statements_add all x (arms_code p g locals more x out).out in omega (arith, a, b)

-- ---- functions

pub function_adds : (p : ProgramData) (g : ℕ) (f : FunctionData) (b : Option (Statement ℕ)) → bytes (code_if_any p g f b) ≤ texts_in_body b
function_adds p g f None = omega arith
function_adds p g f (Some body) =
    let a = scope_adds p g (all_locals f) (have_blocks p g (all_locals f) (parameters_of p f)) (parameters_of p f) (texts_in body)
    (λ x out. statement_code p g (all_locals f) body x out) (statement_adds p g (all_locals f) body) (function_exits p) (last_code p g f) in omega (arith, a)

functions_add : (p : ProgramData) (g at : ℕ) (all : List FunctionData) → all_texts_end at (routines_from p g all) ≤ at + texts_in_functions all
functions_add p g at [] = omega arith
functions_add p g at (f ∷ more) =
    let out = code_if_any p g f f.body in
    let a = end_is at out.texts in
    let b = function_adds p g f f.body in
    let d = functions_add p (suc g) (end_from at (map length out.texts)) more in omega (arith, a, b, d)

pub texts_are_within : TextsAreWithin
texts_are_within p at = functions_add p 0 at p.functions
