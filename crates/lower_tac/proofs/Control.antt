-- The code of each statement does what the statement does.
use Rattle.std.proofs.Common.{◌≡◌, ℕ, ◌+◌, List, Option, Some, refl, ap}
use Rattle.lay_base.specs.declared.place.Place.{Place}
use Rattle.c_typed.specs.declared.program.Local.{Local}
use Rattle.c_typed.specs.Programs.{ProgramData}
use Rattle.c_typed.specs.RunCounts.Loops.{loops_in, loops_in_all}
use Rattle.c_typed.specs.Trees as T
use Rattle.c_typed.specs.Trees.{Statement, Statements, Arms}
use Rattle.block_memory.specs.RunWorlds.Doing.{Doing, ◌>>=◌}
use Rattle.block_memory.specs.RunWorlds.Ways.{and_then}
use Rattle.block_memory.specs.declared.run_worlds.value.Value.{Value}
use Rattle.block_memory.specs.declared.run_worlds.way.Way.{Way}
use Rattle.c_meaning.specs.Frames.{Frame}
use Rattle.c_meaning.specs.Statements.{execute, execute_all}
use Rattle.tac_ir.specs.Code.{Code, RoutineData}
use Rattle.tac_ir.specs.Running.{Caller}
use Rattle.lower_tac.specs.declared.ways.Exits.{Exits}
use Rattle.lower_tac.specs.Statements.{Out, with_loops, statement_code, statements_code}
use Rattle.lower_tac.proofs.Making.{ends_same}
use Rattle.lower_tac.proofs.Calls as Calls
use Rattle.lower_tac.proofs.StatementsCover as Statements
use Rattle.lower_tac.proofs.StatementsCover.{Extends, extends_then}
use Rattle.lower_tac.proofs.LoopsCover as Loops
use Rattle.lower_tac.proofs.Declarations as Declarations
use Rattle.lower_tac.proofs.Switch as Switch
use Rattle.lower_tac.proofs.Switch.{AllDo, none_do, more_do}

module _ (p : ProgramData) (c : Code) (n : ℕ) (locals : List Local) (cs : List Caller) (g : RoutineData) (h : ℕ) (call : Place → (f : ℕ) → List Value → Doing Frame (Option Value))
    (callees : Calls.Calls p c n call) (routines : Calls.Routines p c) where
  abbrev Does : (l count : ℕ) → Doing Frame Way → (Exits → Out → Out) → Type 0
  Does = Statements.Does p c n locals cs g h call callees routines

  -- what stands before a loop has its loops counted from the same number on
  ahead_does : {m o : Doing Frame Way} {make more : Exits → Out → Out} (l one_count other_count : ℕ) → Does l one_count m make → Does l other_count o more
      → Does l other_count (m >>= and_then o) (λ x out. make x (with_loops one_count (more x out)))
  ahead_does {m} {o} {make} {more} l one_count other_count one other = record {
    extends = λ x out. extends_then (other.extends x out) (extends_then (counted x out) (one.extends x (with_loops one_count (more x out))));
    counts = λ x out q. one.counts x (with_loops one_count (more x out)) (loops x out q);
    does = λ x out rest b f own w lt q j z ways next.
        one.does x (with_loops one_count (more x out)) (λ way. and_then o way rest) b f own w lt (loops x out q) j z
        (record { breaks = ways.breaks; continues = ways.continues; gives = ways.gives; direct = ways.direct })
        (λ f own w j. other.does x out rest b f own w lt q j
        (Statements.final p c n locals cs g h call callees routines (extends_then (counted x out) (one.extends x (with_loops one_count (more x out)))) z) ways next);
  }
    where
      counted : (x : Exits) (out : Out) → Extends (more x out) (with_loops one_count (more x out))
      counted x out = record { code = ends_same; labels = λ k v e. e; texts = λ k v e. e }

      loops : (x : Exits) (out : Out) → out.loops ≡ l + other_count → (more x out).loops + one_count ≡ l + one_count
      loops x out q = ap (λ (k : ℕ). k + one_count) (other.counts x out q)

  mutual
    pub statement_does : (l : ℕ) (s : Statement ℕ) → Does l (loops_in s) (execute p call h locals n l s) (λ x out. statement_code p h locals s x out)
    statement_does l (T.evaluate e) = Statements.evaluate_does p c n locals cs g h call callees routines l e
    statement_does l (T.block own all) = Statements.scoped_does p c n locals cs g h call callees routines l (loops_in_all all) own (statements_do l all)
    statement_does l (T.declare x i) = Declarations.declare_does p c n locals cs g h call callees routines l x i
    statement_does l (T.when e one) = Statements.when_does p c n locals cs g h call callees routines l (loops_in one) e (statement_does l one)
    statement_does l (T.when_else e one other) =
        Statements.when_else_does p c n locals cs g h call callees routines l (loops_in one) (loops_in other) e (statement_does l one) (statement_does (l + loops_in one) other)
    statement_does l (T.while e body) =
        Loops.loop_does p c n locals cs g h call callees routines l (loops_in body) (Loops.tests_do p c n locals cs g h call callees routines (Some e))
        (Loops.no_step p c n locals cs g h call callees routines) (statement_does (l + 1) body)
    statement_does l (T.do_while body e) =
        Loops.behind_does p c n locals cs g h call callees routines l (loops_in body) (Loops.tests_do p c n locals cs g h call callees routines (Some e))
        (Loops.no_step p c n locals cs g h call callees routines) (statement_does (l + 1) body) (λ code. refl)
    statement_does l (T.for own start test step body) =
        Statements.scoped_does p c n locals cs g h call callees routines l (loops_in body + 1) own
        (ahead_does l (loops_in_all start) (loops_in body + 1) (statements_do l start)
        (Loops.loop_does p c n locals cs g h call callees routines l (loops_in body) (Loops.tests_do p c n locals cs g h call callees routines test)
        (Loops.steps_do p c n locals cs g h call callees routines step) (statement_does (l + 1) body)))
    statement_does l (T.switch e own arms) = Switch.switch_does p c n locals cs g h call callees routines l e own arms (arms_do l arms)
    statement_does l T.break = Statements.break_does p c n locals cs g h call callees routines l
    statement_does l T.continue = Statements.continue_does p c n locals cs g h call callees routines l
    statement_does l (T.return e) = Statements.return_does p c n locals cs g h call callees routines l e

    statements_do : (l : ℕ) (all : Statements ℕ) → Does l (loops_in_all all) (execute_all p call h locals n l all) (λ x out. statements_code p h locals all x out)
    statements_do l T.no_statements = Statements.empty_does p c n locals cs g h call callees routines l
    statements_do l (T.and_statement s more) =
        Statements.sequence_does p c n locals cs g h call callees routines l (loops_in s) (loops_in_all more) (statement_does l s) (statements_do (l + loops_in s) more)

    arms_do : (l : ℕ) (arms : Arms ℕ) → AllDo p c n locals cs g h call callees routines l arms
    arms_do l T.no_arms = none_do
    arms_do l (T.and_arm cases is_default all more) = more_do (statements_do l all) (arms_do (l + loops_in_all all) more)
