-- Loops (C99 6.8.5): by the turns that are left.
use Rattle.std.proofs.Common.{◌≡◌, ℕ, zero, suc, ◌+◌, ◌-◌, ◌<◌, ◌≤◌, ◌≢◌, ◌⊎◌, Bool, true, false, List, [], ◌∷◌, ◌++◌, Option, Some, None, inl, inr, refl, sym, ap, ◌∙◌, subst, arith, length, if◌then◌else◌, slice_get, slice_set}
use Rattle.std.proofs.lemmas.Option.{get_or_from_slice_get}
use Rattle.std.specs.Prelude.{get_or}
use Rattle.lay_base.specs.declared.place.Place.{Place}
use Rattle.c_typed.specs.declared.program.Local.{Local}
use Rattle.c_typed.specs.Programs.{ProgramData}
use Rattle.c_typed.specs.Trees.{Expression}
use Rattle.block_memory.specs.RunWorlds.Doing.{Rest, Doing, ◌>>=◌, ◌>>◌, pure, turn, turn_of, note}
use Rattle.block_memory.specs.RunWorlds.Events.{Event, began}
use Rattle.block_memory.specs.RunWorlds.Ways.{and_again, loop, loop_behind}
use Rattle.block_memory.specs.RunWorlds.Worlds.{World, End}
use Rattle.block_memory.specs.declared.run_worlds.value.Value.{Value}
use Rattle.block_memory.specs.declared.run_worlds.way.Way.{Way}
use Rattle.block_memory.specs.declared.run_worlds.way.Way.TheVariants.{Normally as normally}
use Rattle.c_meaning.specs.Frames.{Frame}
use Rattle.c_meaning.specs.Statements.{tests_if_any, done_if_any, begins}
use Rattle.tac_ir.specs.Code.{Code, RoutineData, left, led}
use Rattle.tac_ir.specs.Covering.{Covers}
use Rattle.tac_ir.specs.Running.{Caller}
use Rattle.tac_ir.specs.declared.step.Step.TheVariants as S
use Rattle.tac_ir.specs.declared.step.Target.{Target}
use Rattle.tac_ir.specs.declared.step.Target.TheVariants as To
use Rattle.lower_tac.specs.Parts.{Steps}
use Rattle.lower_tac.specs.declared.ways.Exits.{Exits}
use Rattle.lower_tac.specs.Statements.{Out, before, by, here, with_label, label_of, marked, in_loop, test_code, effect_if_any, round, enters_by_test, enters_at_once}
use Rattle.lower_tac.proofs.Blind.{stays, back}
use Rattle.lower_tac.proofs.Base.{Standing, equal_or_not}
use Rattle.lower_tac.proofs.Making as Making
use Rattle.lower_tac.proofs.Making.{Ends, ends_same, ends_more, ends_behind, ends_then, left_there}
use Rattle.lower_tac.proofs.Calls as Calls
use Rattle.lower_tac.proofs.NodesCover as Nodes
use Rattle.lower_tac.proofs.StatementsCover as Statements
use Rattle.lower_tac.proofs.StatementsCover.{Extends, same_out, extends_then, by_extends}

-- ---- a turn begins on both sides

pub turn_covers : (event : Event) (rest : Rest Frame (Unit {0})) (f own : Frame) (w : World) (other : ℕ → Rest Frame (Unit {0}))
    → ((t : ℕ) → w.turns ≡ suc t → Covers (rest tt f (record w { turns = t; trace = event ∷ w.trace })) (λ k. other k tt own (record w { turns = t; trace = event ∷ w.trace })))
    → Covers ((turn >> note event) rest f w) (λ k. (turn >> note event) (other k) own w)
turn_covers event rest f own w other next = by_turns w.turns refl
  where
    by_turns : (t : ℕ) → w.turns ≡ t → Covers ((turn_of t >> note event) rest f w) (λ k. (turn_of t >> note event) (other k) own w)
    by_turns zero e = stays
    by_turns (suc t) e = next t e

-- ---- labels

label_there : (labels : List ℕ) (v : ℕ) → slice_get (labels ++ v ∷ []) (length labels) ≡ Some v
label_there [] v = refl
label_there (l ∷ labels) v = label_there labels v

label_stays : (labels more : List ℕ) (k v : ℕ) → slice_get labels k ≡ Some v → slice_get (labels ++ more) k ≡ Some v
label_stays [] more k v e = cc
label_stays (l ∷ labels) more zero v e = e
label_stays (l ∷ labels) more (suc k) v e = label_stays labels more k v e

label_below : (labels : List ℕ) (k v : ℕ) → slice_get labels k ≡ Some v → k < length labels
label_below [] k v e = cc
label_below (l ∷ labels) zero v e = omega arith
label_below (l ∷ labels) (suc k) v e = let h : k < length labels = label_below labels k v e in omega (arith, h)

label_set : (labels : List ℕ) (k v o : ℕ) → slice_get labels k ≡ Some o → slice_get (slice_set labels k v) k ≡ Some v
label_set [] k v o e = cc
label_set (l ∷ labels) zero v o e = refl
label_set (l ∷ labels) (suc k) v o e = label_set labels k v o e

label_other : (labels : List ℕ) (k i v : ℕ) → i ≢ k → slice_get (slice_set labels k v) i ≡ slice_get labels i
label_other [] k i v n = refl
label_other (l ∷ labels) zero zero v n = absurd (n refl)
label_other (l ∷ labels) zero (suc i) v n = refl
label_other (l ∷ labels) (suc k) zero v n = refl
label_other (l ∷ labels) (suc k) (suc i) v n = label_other labels k i v (λ q. n (ap suc q))

module _ (p : ProgramData) (c : Code) (n : ℕ) (locals : List Local) (cs : List Caller) (g : RoutineData) (h : ℕ) (call : Place → (f : ℕ) → List Value → Doing Frame (Option Value))
    (callees : Calls.Calls p c n call) (routines : Calls.Routines p c) where
  abbrev at : (code : Steps) → Frame → World → (steps : ℕ) → End
  at = Making.at p c n locals cs g

  abbrev Final : Out → Type 0
  Final = Statements.Final p c n locals cs g h call callees routines

  abbrev Does : (l count : ℕ) → Doing Frame Way → (Exits → Out → Out) → Type 0
  Does = Statements.Does p c n locals cs g h call callees routines

  abbrev Leaves : Exits → ℕ → Rest Frame Way → Type 0
  Leaves = Statements.Leaves p c n locals cs g h call callees routines

  abbrev final : {out whole : Out} → Extends out whole → Final whole → Final out
  final = Statements.final p c n locals cs g h call callees routines

  there : {e : End} (code : Steps) (own : Frame) (w : World) → Ends code g.code → Covers e (at code own w) → Covers e (at (left (length code) g.code) own w)
  there {e} code own w is z = subst (λ (s : Steps). Covers e (at s own w)) (sym (left_there is)) z

  -- fewer turns are left
  fewer : {b d : ℕ} {f own : Frame} {w : World} → d ≤ b → Standing locals d f own w → Standing locals b f own w
  fewer {b = b} {d = d} {w = w} le j = record { slots = j.slots; size = j.size; kinds = j.kinds; turns = (let t : w.turns ≤ d = j.turns in omega (arith, t, le)); blocks = j.blocks }

  -- ---- the test, which leads to the body

  pub record Tests (m : Doing Frame Bool) (make : Target → Steps → Steps) : Type 0 where
    pub ends : (to : Target) (code : Steps) → Ends code (make to code)
    pub does : (to : Target) (code : Steps) (rest : Rest Frame Bool) (b : ℕ) (f own : Frame) (w : World) → b < n → Standing locals b f own w → Ends (make to code) g.code
        → ((t : Bool) (f own : Frame) (w : World) → Standing locals b f own w → Covers (rest t f w) (at (if t then led g to else code) own w))
        → Covers (m rest f w) (at (make to code) own w)

  goes_where : (t : Bool) (to code : Steps) → (if (if t then true else false) then to else code) ≡ (if t then to else code)
  goes_where true to code = refl
  goes_where false to code = refl

  pub tests_do : (e : Option (Expression ℕ)) → Tests (tests_if_any p call e) (test_code p h locals e)
  tests_do None = record {
    ends = λ to code. ends_more _ ends_same;
    does = λ to code rest b f own w lt j e next. back (λ k. refl) (next true f own w j);
  }
  tests_do (Some e) =
      let one = Nodes.branch_does p c n locals cs g call callees routines e in
      record {
        ends = λ to code. one.ends true to (length locals) code;
        does = λ to code rest b f own w lt j z next.
            one.does true to (length locals) code rest b own f own w lt (Statements.joined p c n locals cs g h call callees routines j) z
            (λ t f own w j. subst (λ (s : Steps). Covers (rest t f w) (at s own w)) (sym (goes_where t (led g to) code)) (next t f own w j.now));
      }

  -- ---- the step of a `for`

  pub record Plain (m : Doing Frame (Unit {0})) (make : Steps → Steps) : Type 0 where
    pub ends : (code : Steps) → Ends code (make code)
    pub does : (code : Steps) (rest : Rest Frame (Unit {0})) (b : ℕ) (f own : Frame) (w : World) → b < n → Standing locals b f own w → Ends (make code) g.code
        → ((f own : Frame) (w : World) → Standing locals b f own w → Covers (rest tt f w) (at code own w))
        → Covers (m rest f w) (at (make code) own w)

  pub no_step : Plain (pure tt) (λ code. code)
  no_step = record { ends = λ code. ends_same; does = λ code rest b f own w lt j e next. next f own w j }

  pub steps_do : (e : Option (Expression ℕ)) → Plain (done_if_any p call e) (effect_if_any p h locals e)
  steps_do None = no_step
  steps_do (Some e) =
      let one = Nodes.effect_does p c n locals cs g call callees routines e in
      record {
        ends = λ code. one.ends (length locals) code;
        does = λ code rest b f own w lt j z next.
            one.does (length locals) code (λ o. rest tt) b own f own w lt (Statements.joined p c n locals cs g h call callees routines j) z (λ o f own w j. next f own w j.now);
      }

  -- ---- what a loop is made of

  module _ {t : Doing Frame Bool} {s : Doing Frame (Unit {0})} {m : Doing Frame Way} {test : Target → Steps → Steps} {step : Steps → Steps} {body : Exits → Out → Out}
      (l count : ℕ) (the_test : Tests t test) (the_step : Plain s step) (the_body : Does (l + 1) count m body) where
    abbrev tested_out : Out → Out
    tested_out out = by (test (To.Label (label_of out))) (with_label out)

    abbrev stepped_out : Out → Out
    stepped_out out = by step (tested_out out)

    abbrev inner_out : Exits → Out → Out
    inner_out x out = body (in_loop (here out) (here (stepped_out out)) x) (stepped_out out)

    abbrev begun_out : Exits → Out → Out
    begun_out x out = marked (label_of out) (before (S.Began h ((inner_out x out).loops - 1)) (record (inner_out x out) { loops = (inner_out x out).loops - 1 }))

    label_extends : (out : Out) → Extends out (with_label out)
    label_extends out = record { code = ends_same; labels = λ k v e. label_stays out.labels (0 ∷ []) k v e; texts = λ k v e. e }

    test_extends : (out : Out) → Extends (with_label out) (tested_out out)
    test_extends out = by_extends (test (To.Label (label_of out))) (the_test.ends (To.Label (label_of out)) out.code)

    step_extends : (out : Out) → Extends (tested_out out) (stepped_out out)
    step_extends out = by_extends step (the_step.ends (tested_out out).code)

    body_extends : (x : Exits) (out : Out) → Extends (stepped_out out) (inner_out x out)
    body_extends x out = the_body.extends (in_loop (here out) (here (stepped_out out)) x) (stepped_out out)

    -- the label of the body is set last, and no other changes
    out_extends : (x : Exits) (out : Out) → Extends out (begun_out x out)
    out_extends x out = record {
      code = ends_more _ all.code;
      labels = λ k v e. label_other (inner_out x out).labels (label_of out) k (length (begun_out x out).code)
          (let b : k < length out.labels = label_below out.labels k v e in λ (q : k ≡ length out.labels). omega (arith, q, b)) ∙ all.labels k v e;
      texts = all.texts;
    }
      where
        all : Extends out (inner_out x out)
        all = extends_then (label_extends out) (extends_then (test_extends out) (extends_then (step_extends out) (body_extends x out)))

    set_label : (x : Exits) (out : Out) → slice_get (begun_out x out).labels (label_of out) ≡ Some (length (begun_out x out).code)
    set_label x out = label_set (inner_out x out).labels (label_of out) (length (begun_out x out).code) 0
        ((body_extends x out).labels (label_of out) 0 (label_there out.labels 0))

    loops_are : (x : Exits) (out : Out) → out.loops ≡ l + (count + 1) → (inner_out x out).loops ≡ l + 1
    loops_are x out q = the_body.counts (in_loop (here out) (here (stepped_out out)) x) (stepped_out out) (omega (arith, q))

    -- where the body begins
    label_leads : (x : Exits) (out : Out) → Final (begun_out x out) → left (get_or g.labels (label_of out) 0) g.code ≡ (begun_out x out).code
    label_leads x out z =
        ap (λ k. left k g.code) (get_or_from_slice_get g.labels (label_of out) (length (begun_out x out).code) 0 (z.labels (label_of out) (length (begun_out x out).code)
        (λ (q : length (begun_out x out).code ≡ 0). omega (arith, q)) (set_label x out)))
        ∙ left_there z.code

    to_body : {e : End} (x : Exits) (out : Out) (own : Frame) (w : World) → Final (begun_out x out) → Covers e (at (begun_out x out).code own w)
        → Covers e (at (left (get_or g.labels (label_of out) 0) g.code) own w)
    to_body {e} x out own w z q = subst (λ (s : Steps). Covers e (at s own w)) (sym (label_leads x out z)) q

    -- what is made before the body's label is set
    begun_inner : (x : Exits) (out : Out) → Final (begun_out x out) → Final (inner_out x out)
    begun_inner x out z = record { code = ends_behind z.code; labels = inner_labels; texts = z.texts }
      where
        some_same : {A : Type 0} {a b : A} → Some a ≡ Some b → a ≡ b
        some_same e = cc

        unset : slice_get (inner_out x out).labels (label_of out) ≡ Some 0
        unset = (body_extends x out).labels (label_of out) 0 (label_there out.labels 0)

        inner_labels : (k v : ℕ) → v ≢ 0 → slice_get (inner_out x out).labels k ≡ Some v → slice_get g.labels k ≡ Some v
        inner_labels k v m e = by_equal (equal_or_not k (label_of out))
          where
            by_equal : ((k ≡ label_of out) ⊎ (k ≢ label_of out)) → slice_get g.labels k ≡ Some v
            by_equal (inl same) = absurd (m (sym (some_same (sym unset ∙ sym (ap (slice_get (inner_out x out).labels) same) ∙ e))))
            by_equal (inr other) = z.labels k v m (label_other (inner_out x out).labels (label_of out) k (length (begun_out x out).code) other ∙ e)

    fewer_ways : {d b : ℕ} {rest : Rest Frame Way} (x : Exits) → d ≤ b → Leaves x b rest → Leaves x d rest
    fewer_ways x le ways = record {
      breaks = λ code f own w r. ways.breaks code f own w (fewer le r);
      continues = λ code f own w r. ways.continues code f own w (fewer le r);
      gives = λ code o f own w r s. ways.gives code o f own w (fewer le r) s;
      direct = λ is code a o f own w r s. ways.direct is code a o f own w (fewer le r) s;
    }

    -- a body that begins: what is done behind it is covered from where the step begins
    begun_covers : (x : Exits) (out : Out) (again : Doing Frame Way) (rest : Rest Frame Way) (k b : ℕ) (f own : Frame) (w : World) → b < suc k → b < n → out.loops ≡ l + (count + 1)
        → Standing locals b f own w → Final (begun_out x out) → Leaves x b rest
        → ((f own : Frame) (w : World) → Standing locals b f own w → Covers (rest normally f w) (at out.code own w))
        → ((d : ℕ) (f own : Frame) (w : World) → d < k → d ≤ b → Standing locals d f own w → Covers (again rest f w) (at (stepped_out out).code own w))
        → Covers ((begins p call h locals n l >> m >>= and_again again) rest f w) (at (begun_out x out).code own w)
    begun_covers x out again rest k b f own w small lt q j z ways next once_more =
        let number : (inner_out x out).loops - 1 ≡ l = (let e = loops_are x out q in omega (arith, e)) in
        subst (λ (i : ℕ). Covers ((begins p call h locals n l >> m >>= and_again again) rest f w) (at (S.Began h i ∷ (inner_out x out).code) own w)) (sym number)
        (back (λ k. refl) (turn_covers (began h l) (λ u. m (λ way. and_again again way rest)) f own w (λ k u own w. at (inner_out x out).code own w k)
        (λ d e. by_turn d e)))
      where
        inner : Final (inner_out x out)
        inner = begun_inner x out z

        stepped : Final (stepped_out out)
        stepped = final (body_extends x out) inner

        first : Final out
        first = final (extends_then (label_extends out) (extends_then (test_extends out) (step_extends out))) stepped

        by_turn : (d : ℕ) → w.turns ≡ suc d → Covers (m (λ way. and_again again way rest) f (record w { turns = d; trace = began h l ∷ w.trace }))
            (at (inner_out x out).code own (record w { turns = d; trace = began h l ∷ w.trace }))
        by_turn d e =
            let u : World = record w { turns = d; trace = began h l ∷ w.trace } in
            let left_turns : w.turns ≤ b = j.turns in
            let below : d < k = omega (arith, e, left_turns, small) in
            let fewer_turns : d ≤ b = omega (arith, e, left_turns) in
            let now : Standing locals d f own u = record { slots = j.slots; size = j.size; kinds = j.kinds; turns = (let r : u.turns ≤ d = omega arith in r); blocks = j.blocks } in
            the_body.does (in_loop (here out) (here (stepped_out out)) x) (stepped_out out) (λ way. and_again again way rest) d f own u
            (omega (arith, fewer_turns, lt)) (omega (arith, q)) now inner
            (record {
              breaks = λ code f own w r. back (λ k. refl) (there out.code own w first.code (next f own w (fewer fewer_turns r)));
              continues = λ code f own w r. back (λ k. refl) (there (stepped_out out).code own w stepped.code (once_more d f own w below fewer_turns r));
              gives = λ code o f own w r s. ways.gives code o f own w (fewer fewer_turns r) s;
              direct = λ is code a o f own w r s. ways.direct is code a o f own w (fewer fewer_turns r) s;
            })
            (λ f own w r. once_more d f own w below fewer_turns r)

    -- ---- a loop whose test stands before its body, from the test on

    loop_covers : (x : Exits) (out : Out) (rest : Rest Frame Way) (z : Final (begun_out x out)) (q : out.loops ≡ l + (count + 1)) (k b : ℕ) (f own : Frame) (w : World) → b < k → b < n
        → Standing locals b f own w → Leaves x b rest
        → ((f own : Frame) (w : World) → Standing locals b f own w → Covers (rest normally f w) (at out.code own w))
        → Covers (loop (begins p call h locals n l) k t s m rest f w) (at (tested_out out).code own w)
    loop_covers x out rest z q zero b f own w small lt j ways next = absurd (let r : b < 0 = small in omega (arith, r))
    loop_covers x out rest z q (suc k) b f own w small lt j ways next =
        the_test.does (To.Label (label_of out)) out.code
        (λ goes. (if goes then (begins p call h locals n l >> m >>= and_again (s >> loop (begins p call h locals n l) k t s m)) else pure normally) rest)
        b f own w lt j tested.code (λ goes f own w j. by_test goes f own w j
        (λ d f own w below le j. loop_covers x out rest z q k d f own w below (omega (arith, le, lt)) j (fewer_ways x le ways) (λ f own w j. next f own w (fewer le j))))
      where
        tested : Final (tested_out out)
        tested = final (extends_then (step_extends out) (body_extends x out)) (begun_inner x out z)

        by_test : (goes : Bool) (f own : Frame) (w : World) → Standing locals b f own w
            → ((d : ℕ) (f own : Frame) (w : World) → d < k → d ≤ b → Standing locals d f own w
            → Covers (loop (begins p call h locals n l) k t s m rest f w) (at (tested_out out).code own w))
            → Covers ((if goes then (begins p call h locals n l >> m >>= and_again (s >> loop (begins p call h locals n l) k t s m)) else pure normally) rest f w)
            (at (if goes then left (get_or g.labels (label_of out) 0) g.code else out.code) own w)
        by_test false f own w j again = next f own w j
        by_test true f own w j again = to_body x out own w z (begun_covers x out (s >> loop (begins p call h locals n l) k t s m) rest k b f own w small lt q j z ways next
            (λ d f own w below le j. the_step.does (tested_out out).code (λ u. loop (begins p call h locals n l) k t s m rest) d f own w (omega (arith, le, lt)) j
            (final (body_extends x out) (begun_inner x out z)).code
            (λ f own w j. again d f own w below le j)))

    -- ---- a loop whose test stands behind its body, from the body on

    behind_covers : (x : Exits) (out : Out) (rest : Rest Frame Way) (z : Final (begun_out x out)) (q : out.loops ≡ l + (count + 1))
        → ((code : Steps) → step code ≡ code) → (k b : ℕ) (f own : Frame) (w : World) → b < k → b < n
        → Standing locals b f own w → Leaves x b rest
        → ((f own : Frame) (w : World) → Standing locals b f own w → Covers (rest normally f w) (at out.code own w))
        → Covers (loop_behind (begins p call h locals n l) k m t rest f w) (at (begun_out x out).code own w)
    behind_covers x out rest z q same zero b f own w small lt j ways next = absurd (let r : b < 0 = small in omega (arith, r))
    behind_covers x out rest z q same (suc k) b f own w small lt j ways next =
        begun_covers x out (t >>= λ goes. if goes then loop_behind (begins p call h locals n l) k m t else pure normally) rest k b f own w small lt q j z ways next
        (λ d f own w below le j. from_test d f own w below le j
        (λ e f own w small le j. behind_covers x out rest z q same k e f own w small (omega (arith, le, lt)) j (fewer_ways x le ways) (λ f own w j. next f own w (fewer le j))))
      where
        tested : Final (tested_out out)
        tested = final (extends_then (step_extends out) (body_extends x out)) (begun_inner x out z)

        from_test : (d : ℕ) (f own : Frame) (w : World) → d < k → d ≤ b → Standing locals d f own w
            → ((e : ℕ) (f own : Frame) (w : World) → e < k → e ≤ b → Standing locals e f own w
            → Covers (loop_behind (begins p call h locals n l) k m t rest f w) (at (begun_out x out).code own w))
            → Covers ((t >>= λ goes. if goes then loop_behind (begins p call h locals n l) k m t else pure normally) rest f w) (at (step (tested_out out).code) own w)
        from_test d f own w below le j again =
            subst (λ (s : Steps). Covers ((t >>= λ goes. if goes then loop_behind (begins p call h locals n l) k m t else pure normally) rest f w) (at s own w)) (sym (same (tested_out out).code))
            (the_test.does (To.Label (label_of out)) out.code (λ goes. (if goes then loop_behind (begins p call h locals n l) k m t else pure normally) rest)
            d f own w (omega (arith, le, lt)) j tested.code (λ goes f own w j. by_test goes f own w j))
          where
            by_test : (goes : Bool) (f own : Frame) (w : World) → Standing locals d f own w
                → Covers ((if goes then loop_behind (begins p call h locals n l) k m t else pure normally) rest f w)
                (at (if goes then left (get_or g.labels (label_of out) 0) g.code else out.code) own w)
            by_test false f own w j = next f own w (fewer le j)
            by_test true f own w j = to_body x out own w z (again d f own w below le j)

    -- ---- loops as statements

    counted_loops : (x : Exits) (out : Out) → out.loops ≡ l + (count + 1) → (begun_out x out).loops ≡ l
    counted_loops x out q = let e = loops_are x out q in omega (arith, e)

    pub loop_does : Does l (count + 1) (loop (begins p call h locals n l) n t s m) (λ x out. round p h locals test step (enters_by_test p h locals) (λ b c out. body (in_loop b c x) out) out)
    loop_does = record {
      extends = λ x out. extends_then (out_extends x out) (enter x out);
      counts = λ x out q. counted_loops x out q;
      does = λ x out rest b f own w lt q j z ways next.
          let begun = final (enter x out) z in
          let tested = final (extends_then (step_extends out) (body_extends x out)) (begun_inner x out begun) in
          back (λ k. refl) (there (tested_out out).code own w tested.code (loop_covers x out rest begun q n b f own w lt lt j ways next));
    }
      where
        enter : (x : Exits) (out : Out) → Extends (begun_out x out) (by (enters_by_test p h locals (here (tested_out out))) (begun_out x out))
        enter x out = by_extends (enters_by_test p h locals (here (tested_out out))) (ends_more _ ends_same)

    pub behind_does : ((code : Steps) → step code ≡ code)
        → Does l (count + 1) (loop_behind (begins p call h locals n l) n m t) (λ x out. round p h locals test step (enters_at_once p h locals) (λ b c out. body (in_loop b c x) out) out)
    behind_does same = record {
      extends = λ x out. out_extends x out;
      counts = λ x out q. counted_loops x out q;
      does = λ x out rest b f own w lt q j z ways next. behind_covers x out rest (begun x out z) q same n b f own w lt lt j ways next;
    }
      where
        begun : (x : Exits) (out : Out) → Final (by (enters_at_once p h locals (here (tested_out out))) (begun_out x out)) → Final (begun_out x out)
        begun x out z = record { code = z.code; labels = z.labels; texts = z.texts }
