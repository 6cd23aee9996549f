-- `switch` (C99 6.8.4.2).
use Rattle.std.proofs.Common.{◌≡◌, ℕ, zero, suc, ◌+◌, ◌<◌, Bool, true, false, ◌==◌, ◌||◌, List, [], ◌∷◌, Option, Some, None, refl, sym, ap, ◌∙◌, subst, arith, length, if◌then◌else◌, slice_get}
use Rattle.std.specs.List.{list_any}
use Rattle.lay_base.specs.declared.faults.UndefinedKind.TheVariants as K
use Rattle.lay_base.specs.declared.place.Place.{Place}
use Rattle.c_typed.specs.declared.program.Local.{Local}
use Rattle.c_typed.specs.Programs.{ProgramData}
use Rattle.c_typed.specs.RunCounts.Loops.{loops_in_all, loops_in_arms}
use Rattle.c_typed.specs.Trees as T
use Rattle.c_typed.specs.Trees.{Expression, Statements, Arms}
use Rattle.c_typed.specs.Typed.{at_of}
use Rattle.block_memory.specs.RunWorlds.Doing.{Rest, Doing, ◌>>=◌, pure, tested}
use Rattle.block_memory.specs.RunWorlds.Scalars.{as_word}
use Rattle.block_memory.specs.RunWorlds.Ways.{and_then}
use Rattle.block_memory.specs.RunWorlds.Worlds.{World, End}
use Rattle.block_memory.specs.declared.run_worlds.value.Value.{Value}
use Rattle.block_memory.specs.declared.run_worlds.value.Value.TheVariants.{Word as word, Pointer as pointer}
use Rattle.block_memory.specs.declared.run_worlds.way.Way.{Way}
use Rattle.block_memory.specs.declared.run_worlds.way.Way.TheVariants.{ByBreak as by_break}
use Rattle.block_memory.specs.declared.run_worlds.way.Way.TheVariants.{Normally as normally}
use Rattle.c_meaning.specs.Expressions.{used}
use Rattle.c_meaning.specs.Frames.{Frame, begin_all, finish_all, scoped}
use Rattle.c_meaning.specs.Statements.{execute_all, enter, arm_of, default_arm, or_default, behind_switch}
use Rattle.c_meaning.specs.declared.frame.Slot.TheVariants.{ByName as by_name}
use Rattle.tac_ir.specs.Code.{Code, RoutineData, left, led}
use Rattle.tac_ir.specs.Covering.{Covers}
use Rattle.tac_ir.specs.Running.{Caller, with_temp, as_number, no_place}
use Rattle.tac_ir.specs.declared.step.Operand.{Operand}
use Rattle.tac_ir.specs.declared.step.Step.TheVariants as S
use Rattle.tac_ir.specs.declared.step.Target.{Target}
use Rattle.lower_tac.specs.Parts.{Steps, temp, operand}
use Rattle.lower_tac.specs.Expressions.{value_code, part_of}
use Rattle.lower_tac.specs.declared.ways.Exits.{Exits}
use Rattle.lower_tac.specs.Statements.{Out, by, here, in_switch, number_code, scope_code, scoped_code, have_blocks, begins_code, cases_code, dispatch_code, chosen_code, default_start, ArmsOut, statements_code, arms_code}
use Rattle.lower_tac.proofs.Blind.{back, stays}
use Rattle.lower_tac.proofs.Base.{Standing, Reads, reads_temp, standing_scratch, temp_same}
use Rattle.lower_tac.proofs.Making as Making
use Rattle.lower_tac.proofs.Making.{Ends, ends_same, ends_more, ends_behind, ends_then, left_there}
use Rattle.lower_tac.proofs.Calls as Calls
use Rattle.lower_tac.proofs.NodesCover as Nodes
use Rattle.lower_tac.proofs.ScopesCover as Scopes
use Rattle.lower_tac.proofs.StatementsCover as Statements
use Rattle.lower_tac.proofs.StatementsCover.{Extends, same_out, extends_then, by_extends}

module _ (p : ProgramData) (c : Code) (n : ℕ) (locals : List Local) (cs : List Caller) (g : RoutineData) (h : ℕ) (call : Place → (f : ℕ) → List Value → Doing Frame (Option Value))
    (callees : Calls.Calls p c n call) (routines : Calls.Routines p c) where
  abbrev at : (code : Steps) → Frame → World → (steps : ℕ) → End
  at = Making.at p c n locals cs g

  abbrev room : ℕ
  room = length locals

  abbrev Final : Out → Type 0
  Final = Statements.Final p c n locals cs g h call callees routines

  abbrev final : {out whole : Out} → Extends out whole → Final whole → Final out
  final = Statements.final p c n locals cs g h call callees routines

  abbrev Does : (l count : ℕ) → Doing Frame Way → (Exits → Out → Out) → Type 0
  Does = Statements.Does p c n locals cs g h call callees routines

  abbrev Leaves : Exits → ℕ → Rest Frame Way → Type 0
  Leaves = Statements.Leaves p c n locals cs g h call callees routines

  there : {e : End} (code : Steps) (own : Frame) (w : World) → Ends code g.code → Covers e (at code own w) → Covers e (at (left (length code) g.code) own w)
  there {e} code own w is z = subst (λ (s : Steps). Covers e (at s own w)) (sym (left_there is)) z

  -- ---- the arms

  -- where an arm begins, or behind them all
  abbrev start_code : Arms ℕ → (k : ℕ) → Exits → Out → Steps
  start_code T.no_arms k x out = out.code
  start_code (T.and_arm cases is_default all more) zero x out = (statements_code p h locals all x (arms_code p h locals more x out).out).code
  start_code (T.and_arm cases is_default all more) (suc k) x out = start_code more k x out

  first_start : (arms : Arms ℕ) (x : Exits) (out : Out) → start_code arms 0 x out ≡ (arms_code p h locals arms x out).out.code
  first_start T.no_arms x out = refl
  first_start (T.and_arm cases is_default all more) x out = refl

  -- what each arm's statements do
  pub data AllDo : (l : ℕ) → Arms ℕ → Type 0 where
    none_do : {l : ℕ} → AllDo l T.no_arms
    more_do : {l : ℕ} {cases : List ℕ} {is_default : Bool} {all : Statements ℕ} {more : Arms ℕ}
        → Does l (loops_in_all all) (execute_all p call h locals n l all) (λ x out. statements_code p h locals all x out) → AllDo (l + loops_in_all all) more
        → AllDo l (T.and_arm cases is_default all more)

  arms_extend : (l : ℕ) (arms : Arms ℕ) → AllDo l arms → (x : Exits) (out : Out) → Extends out (arms_code p h locals arms x out).out
  arms_extend l T.no_arms none_do x out = same_out
  arms_extend l (T.and_arm cases is_default all more) (more_do one other) x out =
      extends_then (arms_extend (l + loops_in_all all) more other x out) (one.extends x (arms_code p h locals more x out).out)

  arms_count : (l : ℕ) (arms : Arms ℕ) → AllDo l arms → (x : Exits) (out : Out) → out.loops ≡ l + loops_in_arms arms → (arms_code p h locals arms x out).out.loops ≡ l
  arms_count l T.no_arms none_do x out q = omega (arith, q)
  arms_count l (T.and_arm cases is_default all more) (more_do one other) x out q =
      one.counts x (arms_code p h locals more x out).out (arms_count (l + loops_in_all all) more other x out (omega (arith, q)))

  enters : (l : ℕ) (arms : Arms ℕ) → AllDo l arms → (k : ℕ) (x : Exits) (out : Out) (rest : Rest Frame Way) (b : ℕ) (f own : Frame) (w : World) → b < n
      → out.loops ≡ l + loops_in_arms arms → Standing locals b f own w → Final (arms_code p h locals arms x out).out → Leaves x b rest
      → ((f own : Frame) (w : World) → Standing locals b f own w → Covers (rest normally f w) (at out.code own w))
      → Covers (enter p call h locals n l (Some k) arms rest f w) (at (start_code arms k x out) own w)
  enters l T.no_arms none_do k x out rest b f own w lt q j z ways next = next f own w j
  enters l (T.and_arm cases is_default all more) (more_do one other) zero x out rest b f own w lt q j z ways next =
      let inner = (arms_code p h locals more x out).out in
      let count = arms_count (l + loops_in_all all) more other x out (omega (arith, q)) in
      one.does x inner (λ way. and_then (enter p call h locals n (l + loops_in_all all) (Some zero) more) way rest) b f own w lt count j z
      (record { breaks = ways.breaks; continues = ways.continues; gives = ways.gives; direct = ways.direct })
      (λ f own w j. subst (λ (s : Steps). Covers (enter p call h locals n (l + loops_in_all all) (Some zero) more rest f w) (at s own w)) (first_start more x out)
      (enters (l + loops_in_all all) more other zero x out rest b f own w lt (omega (arith, q)) j (final (one.extends x inner) z) ways next))
  enters l (T.and_arm cases is_default all more) (more_do one other) (suc k) x out rest b f own w lt q j z ways next =
      enters (l + loops_in_all all) more other k x out rest b f own w lt (omega (arith, q)) j (final (one.extends x (arms_code p h locals more x out).out) z) ways next

  -- ---- which arm is entered

  cases_cover : {e : End} (a : Operand) (v : ℕ) (start : Target) (cases : List ℕ) (code : Steps) (own : Frame) (w : World) → Reads own a (word v)
      → (list_any (λ c. c == v) cases ≡ true → Covers e (at (led g start) own w))
      → (list_any (λ c. c == v) cases ≡ false → Covers e (at code own w))
      → Covers e (at (cases_code a start cases code) own w)
  cases_cover a v start [] code own w r hit miss = miss refl
  cases_cover {e} a v start (z ∷ cases) code own w r hit miss =
      back (λ k. r.is (λ u own w. tested no_place (as_word u) (λ v own w. at (if z == v then led g start else cases_code a start cases code) own w k) own w) w) (by_test (z == v) refl (λ hit miss. cases_cover a v start cases code own w r hit miss))
    where
      by_test : (t : Bool) → (z == v) ≡ t
          → ((list_any (λ c. c == v) cases ≡ true → Covers e (at (led g start) own w)) → (list_any (λ c. c == v) cases ≡ false → Covers e (at code own w))
          → Covers e (at (cases_code a start cases code) own w))
          → Covers e (at (if t then led g start else cases_code a start cases code) own w)
      by_test true is again = hit (ap (λ (t : Bool). t || list_any (λ c. c == v) cases) is)
      by_test false is again = again (λ q. hit (ap (λ (t : Bool). t || list_any (λ c. c == v) cases) is ∙ q))
          (λ q. miss (ap (λ (t : Bool). t || list_any (λ c. c == v) cases) is ∙ q))

  dispatches : {e : End} (a : Operand) (v : ℕ) (l : ℕ) (arms : Arms ℕ) → AllDo l arms → (k : ℕ) (x : Exits) (out : Out) (code : Steps) (own : Frame) (w : World) → Reads own a (word v)
      → Final (arms_code p h locals arms x out).out
      → ((i : ℕ) → arm_of v k arms ≡ Some (k + i) → Covers e (at (start_code arms i x out) own w))
      → (arm_of v k arms ≡ None → Covers e (at code own w))
      → Covers e (at (dispatch_code a arms (arms_code p h locals arms x out).starts code) own w)
  dispatches a v l T.no_arms none_do k x out code own w r z hit miss = miss refl
  dispatches {e} a v l (T.and_arm cases is_default all more) (more_do one other) k x out code own w r z hit miss =
      let inner = (arms_code p h locals more x out).out in
      let made = statements_code p h locals all x inner in
      cases_cover a v (here made) cases (dispatch_code a more (arms_code p h locals more x out).starts code) own w r
      (λ q. there made.code own w z.code (hit 0 (ap (λ (t : Bool). if t then Some k else arm_of v (k + 1) more) q ∙ ap Some (let s : k ≡ k + 0 = omega arith in s))))
      (λ q. dispatches a v (l + loops_in_all all) more other (k + 1) x out code own w r (final (one.extends x inner) z)
      (λ i s. hit (suc i) (ap (λ (t : Bool). if t then Some k else arm_of v (k + 1) more) q ∙ s ∙ ap Some (let s : k + 1 + i ≡ k + suc i = omega arith in s)))
      (λ s. miss (ap (λ (t : Bool). if t then Some k else arm_of v (k + 1) more) q ∙ s)))

  defaults : {e : End} (l : ℕ) (arms : Arms ℕ) → AllDo l arms → (k : ℕ) (x : Exits) (out : Out) (own : Frame) (w : World) → Final (arms_code p h locals arms x out).out
      → (last : Out) → Ends last.code g.code
      → ((i : ℕ) → default_arm k arms ≡ Some (k + i) → Covers e (at (start_code arms i x out) own w))
      → (default_arm k arms ≡ None → Covers e (at last.code own w))
      → Covers e (at (led g (default_start (here last) arms (arms_code p h locals arms x out).starts)) own w)
  defaults l T.no_arms none_do k x out own w z last ends hit miss = there last.code own w ends (miss refl)
  defaults {e} l (T.and_arm cases true all more) (more_do one other) k x out own w z last ends hit miss =
      there (statements_code p h locals all x (arms_code p h locals more x out).out).code own w z.code (hit 0 (ap Some (let s : k ≡ k + 0 = omega arith in s)))
  defaults {e} l (T.and_arm cases false all more) (more_do one other) k x out own w z last ends hit miss =
      defaults (l + loops_in_all all) more other (k + 1) x out own w (final (one.extends x (arms_code p h locals more x out).out) z) last ends
      (λ i s. hit (suc i) (s ∙ ap Some (let s : k + 1 + i ≡ k + suc i = omega arith in s))) miss

  -- ---- the whole

  abbrev chosen : ℕ → Arms ℕ → Option ℕ
  chosen v arms = or_default (arm_of v 0 arms) (default_arm 0 arms)

  abbrev a_operand : Expression ℕ → Operand
  a_operand e = temp (at_of e) room

  abbrev made : Arms ℕ → Exits → Out → ArmsOut
  made arms x out = arms_code p h locals arms (in_switch (here out) x) out

  abbrev inner : Expression ℕ → Arms ℕ → Exits → Out → Out
  inner e arms x out = chosen_code (a_operand e) arms (here out) (made arms x out)

  cases_end : (a : Operand) (start : Target) (cases : List ℕ) (code : Steps) → Ends code (cases_code a start cases code)
  cases_end a start [] code = ends_same
  cases_end a start (z ∷ cases) code = ends_then (cases_end a start cases code) (ends_more _ ends_same)

  dispatch_ends : (a : Operand) (arms : Arms ℕ) (starts : List Target) (code : Steps) → Ends code (dispatch_code a arms starts code)
  dispatch_ends a T.no_arms starts code = ends_same
  dispatch_ends a (T.and_arm cases is_default all more) [] code = ends_same
  dispatch_ends a (T.and_arm cases is_default all more) (start ∷ starts) code =
      ends_then (dispatch_ends a more starts code) (cases_end a start cases (dispatch_code a more starts code))

  chosen_extends : (e : Expression ℕ) (arms : Arms ℕ) (x : Exits) (out : Out) → Extends (made arms x out).out (inner e arms x out)
  chosen_extends e arms x out =
      let jump = S.Jump (default_start (here out) arms (made arms x out).starts) in
      record {
        code = ends_then (ends_more jump ends_same) (dispatch_ends (a_operand e) arms (made arms x out).starts (jump ∷ (made arms x out).out.code));
        labels = λ k v e. e;
        texts = λ k v e. e;
      }

  inner_extends : (l : ℕ) (e : Expression ℕ) (arms : Arms ℕ) → AllDo l arms → (x : Exits) (out : Out) → Extends out (inner e arms x out)
  inner_extends l e arms all x out = extends_then (arms_extend l arms all (in_switch (here out) x) out) (chosen_extends e arms x out)

  by_value : (l : ℕ) (e : Expression ℕ) (arms : Arms ℕ) → AllDo l arms → (x : Exits) (out : Out) (rest : Rest Frame Way) (b : ℕ) → b < n → out.loops ≡ l + loops_in_arms arms
      → Final (inner e arms x out) → Leaves x b rest → (rest by_break ≡ rest normally)
      → ((f own : Frame) (w : World) → Standing locals b f own w → Covers (rest normally f w) (at out.code own w))
      → (v : ℕ) (f new : Frame) (w : World) → Standing locals b f new w → slice_get new room ≡ Some (by_name (Some (word v)))
      → Covers (enter p call h locals n l (chosen v arms) arms rest f w) (at (inner e arms x out).code new w)
  by_value l e arms all x out rest b lt q z ways same next v f new w j s =
      dispatches (a_operand e) v l arms all 0 (in_switch (here out) x) out (S.Jump (default_start (here out) arms (made arms x out).starts) ∷ (made arms x out).out.code)
      new w reads made_final (λ i is. by_arm i is) (λ none. back (λ k. refl)
      (defaults l arms all 0 (in_switch (here out) x) out new w made_final out last.code (λ i is. by_default i none is) (λ no_default. by_none none no_default)))
    where
      reads : Reads new (a_operand e) (word v)
      reads = reads_temp room K.NoValue (at_of e) (word v) s

      made_final : Final (made arms x out).out
      made_final = final (chosen_extends e arms x out) z

      last : Final out
      last = final (arms_extend l arms all (in_switch (here out) x) out) made_final

      arm_ways : Leaves (in_switch (here out) x) b rest
      arm_ways = record {
        breaks = λ code f own' w j. back (λ k. refl) (there out.code own' w last.code
            (subst (λ (r : Frame → World → End). Covers (r f w) (at out.code own' w)) (sym same) (next f own' w j)));
        continues = λ code f own' w j. ways.continues code f own' w j;
        gives = λ code o f own' w j s. ways.gives code o f own' w j s;
        direct = λ is code a o f own' w j s. ways.direct is code a o f own' w j s;
      }

      at_arm : (o : Option ℕ) (i : ℕ) → o ≡ Some i → Covers (enter p call h locals n l o arms rest f w)
          (at (start_code arms i (in_switch (here out) x) out) new w)
      at_arm o i is =
          subst (λ (o : Option ℕ). Covers (enter p call h locals n l o arms rest f w) (at (start_code arms i (in_switch (here out) x) out) new w)) (sym is)
          (enters l arms all i (in_switch (here out) x) out rest b f new w lt q j made_final arm_ways next)

      zero_more : (i : ℕ) → 0 + i ≡ i
      zero_more i = omega arith

      by_arm : (i : ℕ) → arm_of v 0 arms ≡ Some (0 + i)
          → Covers (enter p call h locals n l (chosen v arms) arms rest f w) (at (start_code arms i (in_switch (here out) x) out) new w)
      by_arm i is = at_arm (chosen v arms) i (ap (λ (o : Option ℕ). or_default o (default_arm 0 arms)) (is ∙ ap Some (zero_more i)))

      by_default : (i : ℕ) → arm_of v 0 arms ≡ None → default_arm 0 arms ≡ Some (0 + i)
          → Covers (enter p call h locals n l (chosen v arms) arms rest f w) (at (start_code arms i (in_switch (here out) x) out) new w)
      by_default i none is = at_arm (chosen v arms) i (ap (λ (o : Option ℕ). or_default o (default_arm 0 arms)) none ∙ is ∙ ap Some (zero_more i))

      by_none : arm_of v 0 arms ≡ None → default_arm 0 arms ≡ None
          → Covers (enter p call h locals n l (chosen v arms) arms rest f w) (at out.code new w)
      by_none none no_default =
          subst (λ (o : Option ℕ). Covers (enter p call h locals n l o arms rest f w) (at out.code new w))
          (sym (ap (λ (o : Option ℕ). or_default o (default_arm 0 arms)) none ∙ no_default)) (next f new w j)

  -- ---- the value, which is a number

  uses : (e : Expression ℕ) → Making.Uses p c n locals cs g Value (part_of p locals e (value_code p locals e)) (used p call e) (λ v. v)
  uses e = Nodes.uses p c n locals cs g call e (Nodes.value_does p c n locals cs g call callees routines e)

  abbrev tested_operand : Expression ℕ → Operand
  tested_operand e = operand (part_of p locals e (value_code p locals e)) room

  number_ends : (e : Expression ℕ) (code : Steps) → Ends code (number_code p h locals e code)
  number_ends e code =
      ends_then (ends_more _ ends_same) (Making.code_ends p c n locals cs g (uses e) room (S.Number room (at_of e) (tested_operand e) ∷ code))

  number_does : (e : Expression ℕ) (code : Steps) (rest : Rest Frame ℕ) (b : ℕ) (f own : Frame) (w : World) → b < n → Standing locals b f own w
      → Ends (number_code p h locals e code) g.code
      → ((v : ℕ) (f own : Frame) (w : World) → Standing locals b f own w → slice_get own room ≡ Some (by_name (Some (word v))) → Covers (rest v f w) (at code own w))
      → Covers ((used p call e >>= λ v. tested (at_of e) (as_word v)) rest f w) (at (number_code p h locals e code) own w)
  number_does e code rest b f own w lt j ends next =
      Making.code_does p c n locals cs g (uses e) room (S.Number room (at_of e) (tested_operand e) ∷ code) (λ v. tested (at_of e) (as_word v) rest) (later (at_of e))
      b own f own w lt (Statements.joined p c n locals cs g h call callees routines j) ends (λ f own w j k. refl)
      (λ v f own w j r. by_sort v f own w j.now)
    where
      later : Place → ℕ → Rest Frame Value
      later place k v = tested place (as_number v) (λ z own w. at code (with_temp room (by_name (Some z)) own) w k)

      by_sort : (v : Value) (f own : Frame) (w : World) → Standing locals b f own w → Covers (tested (at_of e) (as_word v) rest f w) (λ k. later (at_of e) k v own w)
      by_sort (pointer q) f own w j = stays
      by_sort (word v) f own w j =
          next v f (with_temp room (by_name (Some (word v))) own) w (standing_scratch locals room (Some (word v)) j (omega arith)) (temp_same room (by_name (Some (word v))) own)

  -- ---- the whole: the value is found, the scope begins, and one of the arms is entered

  pub switch_does : (l : ℕ) (e : Expression ℕ) (own : List ℕ) (arms : Arms ℕ) → AllDo l arms
      → Does l (loops_in_arms arms)
      (used p call e >>= λ v. tested (at_of e) (as_word v) >>= λ k. scoped p locals own (enter p call h locals n l (or_default (arm_of k 0 arms) (default_arm 0 arms)) arms) >>= λ way. pure (behind_switch way))
      (λ x out. by (number_code p h locals e) (scoped_code p h locals own (λ x out. inner e arms x out) (in_switch (here out) x) out))
  switch_does l e own arms all = record {
    extends = λ x out. extends_then (scope_extends x out) (extends_then (begins_extends x out) (number_extends x out));
    counts = λ x out q. Statements.scope_counts p c n locals cs g h call callees routines own l (loops_in_arms arms) blocks make
        (λ x out q. arms_count l arms all (in_switch (here out) x) out q) (in_switch (here out) x) out q;
    does = λ x out rest b f now w lt q j z ways next.
        let ended = final (begins_extends x out) (final (number_extends x out) z) in
        let last = final (scope_extends x out) ended in
        let ways_out : Leaves (in_switch (here out) x) b (λ way. rest (behind_switch way)) = record {
          breaks = λ code f own w j. back (λ k. refl) (there out.code own w last.code (next f own w j));
          continues = λ code f own w j. ways.continues code f own w j;
          gives = λ code o f own w j s. ways.gives code o f own w j s;
          direct = λ is code a o f own w j s. ways.direct is code a o f own w j s;
        } in
        number_does e (scoped_code p h locals own make (in_switch (here out) x) out).code
        (λ v. scoped p locals own (enter p call h locals n l (chosen v arms) arms) (λ way. rest (behind_switch way)))
        b f now w lt j z.code
        (λ v f now w j s. begins.does (scope x out).code (λ u. enter p call h locals n l (chosen v arms) arms (λ way. finish_all p own (λ u. rest (behind_switch way)))) b f now w j
        (λ f new w j behind. Statements.scope_covers p c n locals cs g h call callees routines own blocks refl make (inner_extends l e arms all)
        (enter p call h locals n l (chosen v arms) arms) (in_switch (here out) x) out (λ way. rest (behind_switch way)) b f new w ended ways_out next
        (λ x out loops z ways next. by_value l e arms all x out (λ way. finish_all p own (λ u. rest (behind_switch way))) b lt (loops ∙ q) z ways refl next v f new w j
        (behind room (omega arith) (by_name (Some (word v))) s))));
  }
    where
      begins : Scopes.Acts p c n locals cs g h (begin_all p locals own) (begins_code p h locals own)
      begins = Scopes.begin_acts p c n locals cs g h own

      blocks : Bool
      blocks = have_blocks p h locals own

      make : Exits → Out → Out
      make x out = inner e arms x out

      scope : Exits → Out → Out
      scope x out = scope_code p h locals blocks own make (in_switch (here out) x) out

      scope_extends : (x : Exits) (out : Out) → Extends out (scope x out)
      scope_extends x out = Statements.scope_extends p c n locals cs g h call callees routines own blocks make (inner_extends l e arms all) (in_switch (here out) x) out

      begins_extends : (x : Exits) (out : Out) → Extends (scope x out) (scoped_code p h locals own make (in_switch (here out) x) out)
      begins_extends x out = by_extends (begins_code p h locals own) (begins.ends (scope x out).code)

      number_extends : (x : Exits) (out : Out) → Extends (scoped_code p h locals own make (in_switch (here out) x) out)
          (by (number_code p h locals e) (scoped_code p h locals own make (in_switch (here out) x) out))
      number_extends x out = by_extends (number_code p h locals e) (number_ends e (scoped_code p h locals own make (in_switch (here out) x) out).code)
