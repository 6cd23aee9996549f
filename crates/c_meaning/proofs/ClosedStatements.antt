-- What two executions do is related where what their calls do is.
use Rattle.std.proofs.Common.{◌≡◌, refl, ℕ, zero, suc, ◌+◌, Bool, true, false, List, [], ◌∷◌, Option, Some, None, slice_get, if◌then◌else◌}
use Rattle.lay_base.specs.declared.faults.UndefinedKind.TheVariants as K
use Rattle.lay_base.specs.declared.place.Place.{Place}
use Rattle.c_typed.specs.declared.program.Local.{Local}
use Rattle.c_typed.specs.Trees as T
use Rattle.c_typed.specs.Trees.{Expression, Path, PartValue, Part, Initializer, Statement, Statements, Arms}
use Rattle.c_typed.specs.Constants.{ty}
use Rattle.c_typed.specs.Programs.{ProgramData}
use Rattle.c_typed.specs.Typed.{at_of, path_ty, path_at}
use Rattle.block_memory.specs.declared.kinds.BlockKind.TheVariants as Kind
use Rattle.memory_words.specs.declared.cell_words.pointer.Ptr.TheVariants as P
use Rattle.block_memory.specs.RunWorlds.Doing.{Doing, ◌>>=◌, ◌>>◌, pure, turn, note}
use Rattle.block_memory.specs.RunWorlds.Events.{Event, began}
use Rattle.block_memory.specs.RunWorlds.Scalars.{as_word}
use Rattle.block_memory.specs.declared.run_worlds.value.Value.{Value}
use Rattle.block_memory.specs.RunWorlds.Operators.{is_true}
use Rattle.block_memory.specs.RunWorlds.Ways.{and_then, and_again, loop, loop_behind}
use Rattle.block_memory.specs.declared.run_worlds.way.Way.{Way}
use Rattle.block_memory.specs.declared.run_worlds.way.Way.TheVariants.{Normally as normally, ByBreak as by_break, ByContinue as by_continue}
use Rattle.block_memory.specs.declared.run_worlds.way.Way.TheVariants.{ByReturn as by_return}
use Rattle.c_meaning.specs.Expressions.{used}
use Rattle.c_meaning.specs.Frames.{Frame, begin, end_slot, finish, begin_all, finish_all, end_of, end_all, scoped, emptied}
use Rattle.c_meaning.specs.declared.frame.Spot.TheVariants.{Placed as placed}
use Rattle.c_meaning.specs.declared.frame.Slot.{Slot}
use Rattle.c_meaning.specs.declared.frame.Slot.TheVariants.{ByName as by_name, InBlock as in_block}
use Rattle.c_typed.specs.RunCounts.Loops.{loops_in, loops_in_all}
use Rattle.c_meaning.specs.Program.{access_at, size_at}
use Rattle.c_meaning.specs.Statements.{behind_switch, arm_of, default_arm, or_default}
use Rattle.c_meaning.specs.Statements.{initial_place, dead_at, put_part, put_parts, initial_in, initial_by_name, initial, declared, tests, tests_if_any, done}
use Rattle.c_meaning.specs.Statements.{done_if_any, returned}
use Rattle.c_meaning.specs.Statements.{execute, execute_all, enter}
use Rattle.c_meaning.proofs.Closed.{Relation}
use Rattle.c_meaning.proofs.ClosedRuns as Runs
use Rattle.c_meaning.proofs.ClosedExpressions as Expressions
use Rattle.c_meaning.proofs.ClosedExpressions.{Calls}

module _ (r : Relation) where
  abbrev Itself : (A : Type 0) → Doing Frame A → Type 0
  Itself A m = Runs.Itself r Frame A m

  by_bind : {A B : Type 0} {m : Doing Frame A} {next : A → Doing Frame B} → Itself A m → ((x : A) → Itself B (next x)) → Itself B (m >>= next)
  by_bind one other = Runs.by_bind r one other

  bind : {b : ℕ} {A B : Type 0} {m m' : Doing Frame A} {next next' : A → Doing Frame B} → r.Related b Frame A m m'
      → ((x : A) → r.Related b Frame B (next x) (next' x)) → r.Related b Frame B (m >>= next) (m' >>= next')
  bind one other = Runs.bind r one other

  -- ---- scopes

  by_end_of : (s : Slot) → Itself (Unit {0}) (end_of s)
  by_end_of (in_block (Some b)) = Runs.by_end r b
  by_end_of (in_block None) = Runs.by_pure r tt
  by_end_of (by_name v) = Runs.by_pure r tt

  pub by_end_all : (f : Frame) → Itself (Unit {0}) (end_all f)
  by_end_all [] = Runs.by_pure r tt
  by_end_all (s ∷ more) = by_bind (by_end_of s) (λ a. by_end_all more)

  module _ (p : ProgramData) where
    by_end_slot : (x : ℕ) (s : Option Slot) → Itself (Unit {0}) (end_slot p x s)
    by_end_slot x (Some (in_block (Some b))) = by_bind (Runs.by_end r b) (λ a. Expressions.by_with_slot r x (in_block None))
    by_end_slot x (Some (in_block None)) = Runs.by_pure r tt
    by_end_slot x (Some (by_name v)) = Runs.by_pure r tt
    by_end_slot x None = Runs.by_pure r tt

    by_finish : (x : ℕ) → Itself (Unit {0}) (finish p x)
    by_finish x = by_bind (Expressions.by_slot_now r x) (by_end_slot x)

    pub by_begin : (x : ℕ) (l : Option Local) → Itself (Unit {0}) (begin p x l)
    by_begin x None = Runs.by_pure r tt
    by_begin x (Some l) = by_kind l.block refl
      where
        by_kind : (block : Bool) → l.block ≡ block → Itself (Unit {0}) (begin p x (Some l))
        by_kind true e = rw e (by_bind (by_finish x) (λ a. by_bind (Runs.by_make r (size_at p l.ty) Kind.Local) (λ b. Expressions.by_with_slot r x (in_block (Some b)))))
        by_kind false e = rw e (Expressions.by_with_slot r x (by_name None))

    pub by_begin_all : (locals : List Local) (numbers : List ℕ) → Itself (Unit {0}) (begin_all p locals numbers)
    by_begin_all locals [] = Runs.by_pure r tt
    by_begin_all locals (x ∷ more) = by_bind (by_begin x (slice_get locals x)) (λ a. by_begin_all locals more)

    pub by_finish_all : (numbers : List ℕ) → Itself (Unit {0}) (finish_all p numbers)
    by_finish_all [] = Runs.by_pure r tt
    by_finish_all (x ∷ more) = by_bind (by_finish x) (λ a. by_finish_all more)

    scoped_alike : {b : ℕ} {A : Type 0} (locals : List Local) (numbers : List ℕ) {m m' : Doing Frame A} → r.Related b Frame A m m'
        → r.Related b Frame A (scoped p locals numbers m) (scoped p locals numbers m')
    scoped_alike locals numbers one = bind (by_begin_all locals numbers _) (λ a. bind one (λ x. bind (by_finish_all numbers _) (λ c. r.on_pure _ _ _ x)))

    pub by_emptied : (x type : ℕ) (s : Option Slot) → Itself (Unit {0}) (emptied p x type s)
    by_emptied x type (Some (in_block (Some b))) = by_bind (Runs.by_memory r) (λ m. Runs.by_with_memory r _)
    by_emptied x type (Some (in_block None)) = Runs.by_pure r tt
    by_emptied x type (Some (by_name v)) = Expressions.by_with_slot r x (by_name None)
    by_emptied x type None = Runs.by_pure r tt

  -- ---- ways and loops

  pub and_then_alike : {b : ℕ} {m m' : Doing Frame Way} → r.Related b Frame Way m m' → (way : Way) → r.Related b Frame Way (and_then m way) (and_then m' way)
  and_then_alike one normally = one
  and_then_alike one by_break = r.on_pure _ _ _ by_break
  and_then_alike one by_continue = r.on_pure _ _ _ by_continue
  and_then_alike one (by_return v) = r.on_pure _ _ _ (by_return v)

  pub and_again_alike : {b : ℕ} {m m' : Doing Frame Way} → r.Related b Frame Way m m' → (way : Way) → r.Related b Frame Way (and_again m way) (and_again m' way)
  and_again_alike one normally = one
  and_again_alike one by_continue = one
  and_again_alike one by_break = r.on_pure _ _ _ normally
  and_again_alike one (by_return v) = r.on_pure _ _ _ (by_return v)

  pub choice_alike : {b : ℕ} {A : Type 0} (test : Bool) {m m' n n' : Doing Frame A} → r.Related b Frame A m m' → r.Related b Frame A n n'
      → r.Related b Frame A (if test then m else n) (if test then m' else n')
  choice_alike true one other = one
  choice_alike false one other = other

  -- related where n and m bound calls and loops
  abbrev pub Under : (n m : ℕ) (A : Type 0) → Doing Frame A → Doing Frame A → Type 0
  Under n m A d d' = (b : ℕ) → r.Fuels b n m → r.Related b Frame A d d'

  one_more : {n m : ℕ} {A : Type 0} {d d' : Doing Frame A} → Under (suc n) (suc m) A d d' → Under n m A d d'
  one_more one b h = one b (r.one_more b _ _ h)

  pub loop_alike : (event : Event) (n m : ℕ) (test test' : Doing Frame Bool) (step step' : Doing Frame (Unit {0})) (body body' : Doing Frame Way)
      → Under n m Bool test test' → Under n m (Unit {0}) step step' → Under n m Way body body'
      → Under n m Way (loop (turn >> note event) n test step body) (loop (turn >> note event) m test' step' body')
  loop_alike event zero zero test test' step step' body body' t s d b h =
      bind (t b h) (λ goes. choice_alike goes (r.on_none b _ _ h) (r.on_pure b _ _ normally))
  loop_alike event zero (suc m) test test' step step' body body' t s d b h = absurd (r.not_left b m h)
  loop_alike event (suc n) zero test test' step step' body body' t s d b h = absurd (r.not_right b n h)
  loop_alike event (suc n) (suc m) test test' step step' body body' t s d b h =
      bind (t b h) (λ goes. choice_alike goes (r.on_turn b n m _ _ _ _ h (again (loop_alike event n m test test' step step' body body' (one_more t) (one_more s) (one_more d)))) (r.on_pure b _ _ normally))
    where
      again : Under n m Way (loop (turn >> note event) n test step body) (loop (turn >> note event) m test' step' body')
          → (c : ℕ) → r.Fuels c n m → r.Related c Frame Way (note event >> (body >>= and_again (step >> loop (turn >> note event) n test step body)))
          (note event >> (body' >>= and_again (step' >> loop (turn >> note event) m test' step' body')))
      again more c k = bind (Runs.by_note r event c) (λ a. bind (one_more d c k) (and_again_alike (bind (one_more s c k) (λ a. more c k))))

  pub loop_behind_alike : (event : Event) (n m : ℕ) (body body' : Doing Frame Way) (test test' : Doing Frame Bool) → Under n m Way body body'
      → Under n m Bool test test'
      → Under n m Way (loop_behind (turn >> note event) n body test) (loop_behind (turn >> note event) m body' test')
  loop_behind_alike event zero zero body body' test test' d t b h = r.on_none b _ _ h
  loop_behind_alike event zero (suc m) body body' test test' d t b h = absurd (r.not_left b m h)
  loop_behind_alike event (suc n) zero body body' test test' d t b h = absurd (r.not_right b n h)
  loop_behind_alike event (suc n) (suc m) body body' test test' d t b h =
      r.on_turn b n m _ _ _ _ h (again (loop_behind_alike event n m body body' test test' (one_more d) (one_more t)))
    where
      again : Under n m Way (loop_behind (turn >> note event) n body test) (loop_behind (turn >> note event) m body' test')
          → (c : ℕ) → r.Fuels c n m → r.Related c Frame Way
          (note event >> (body >>= and_again (test >>= λ goes. if goes then loop_behind (turn >> note event) n body test else pure normally)))
          (note event >> (body' >>= and_again (test' >>= λ goes. if goes then loop_behind (turn >> note event) m body' test' else pure normally)))
      again more c k = bind (Runs.by_note r event c) (λ a. bind (one_more d c k) (and_again_alike
          (bind (one_more t c k) (λ goes. choice_alike goes (more c k) (r.on_pure c _ _ normally)))))

  module _ (p : ProgramData) (call call' : Calls) where
    -- ---- initializers and parts of statements

    module _ (b : ℕ) (calls : (place : Place) (f : ℕ) (values : List Value) → r.Related b Frame (Option Value) (call place f values) (call' place f values)) where
      abbrev Alike : (A : Type 0) → (m m' : Doing Frame A) → Type 0
      Alike A m m' = r.Related b Frame A m m'

      used_alike : (e : Expression ℕ) → Alike Value (used p call e) (used p call' e)
      used_alike e = Expressions.used_alike r p call call' b calls e

      put_part_alike : (block offset : ℕ) (part : PartValue ℕ) → Alike (Unit {0}) (put_part p call block offset part) (put_part p call' block offset part)
      put_part_alike block offset (T.value e) = bind (used_alike e) (λ v. Runs.by_store r (at_of e) (P.Block block offset) (access_at p (ty e)) v b)
      put_part_alike block offset (T.record_of q) =
          bind (Expressions.spot_alike r p call call' b calls false q) (λ s. Expressions.by_copy_record r (path_at q) (size_at p (path_ty q)) (placed (P.Block block offset)) s b)
      put_part_alike block offset (T.text bytes) = bind (Runs.by_memory r b) (λ m. Runs.by_with_memory r _ b)

      put_parts_alike : (block : ℕ) (all : List (Part ℕ)) → Alike (Unit {0}) (put_parts p call block all) (put_parts p call' block all)
      put_parts_alike block [] = r.on_pure b _ _ tt
      put_parts_alike block (part ∷ more) = bind (put_part_alike block part.offset part.value) (λ a. put_parts_alike block more)

      initial_in_alike : (block size : ℕ) (i : Initializer ℕ) → Alike (Unit {0}) (initial_in p call block size i) (initial_in p call' block size i)
      initial_in_alike block size (T.whole e) = put_part_alike block 0 (T.value e)
      initial_in_alike block size (T.whole_record q) = put_part_alike block 0 (T.record_of q)
      initial_in_alike block size (T.parts all) = bind (bind (Runs.by_memory r b) (λ m. Runs.by_with_memory r _ b)) (λ a. put_parts_alike block all)

      by_name_alike : (x : ℕ) (i : Initializer ℕ) → Alike (Unit {0}) (initial_by_name p call x i) (initial_by_name p call' x i)
      by_name_alike x (T.whole e) = bind (used_alike e) (λ v. Expressions.by_with_slot r x (by_name (Some v)) b)
      by_name_alike x (T.whole_record q) = r.on_pure b _ _ tt
      by_name_alike x (T.parts all) = r.on_pure b _ _ tt

      dead_at_alike : (place : Option Place) → Alike (Unit {0}) (dead_at place) (dead_at place)
      dead_at_alike None = r.on_pure b _ _ tt
      dead_at_alike (Some place) = Runs.by_undefined r K.Dead place b

      initial_alike : (x size : ℕ) (i : Initializer ℕ) (s : Option Slot) → Alike (Unit {0}) (initial p call x size i s) (initial p call' x size i s)
      initial_alike x size i (Some (in_block (Some block))) = initial_in_alike block size i
      initial_alike x size i (Some (in_block None)) = dead_at_alike (initial_place i)
      initial_alike x size i (Some (by_name v)) = by_name_alike x i
      initial_alike x size i None = dead_at_alike (initial_place i)

      declared_alike : (x : ℕ) (l : Option Local) (i : Option (Initializer ℕ)) → Alike (Unit {0}) (declared p call x l i) (declared p call' x l i)
      declared_alike x None i = r.on_pure b _ _ tt
      declared_alike x (Some l) None = bind (Expressions.by_slot_now r x b) (λ s. by_emptied p x l.ty s b)
      declared_alike x (Some l) (Some i) = bind (Expressions.by_slot_now r x b) (initial_alike x (size_at p l.ty) i)

      pub tests_alike : (e : Expression ℕ) → Alike Bool (tests p call e) (tests p call' e)
      tests_alike e = bind (used_alike e) (λ v. r.on_pure b _ _ (is_true v))

      pub tests_if_any_alike : (e : Option (Expression ℕ)) → Alike Bool (tests_if_any p call e) (tests_if_any p call' e)
      tests_if_any_alike None = r.on_pure b _ _ true
      tests_if_any_alike (Some e) = tests_alike e

      pub done_alike : (e : Expression ℕ) → Alike (Unit {0}) (done p call e) (done p call' e)
      done_alike e = bind (Expressions.value_alike r p call call' b calls e) (λ v. r.on_pure b _ _ tt)

      pub done_if_any_alike : (e : Option (Expression ℕ)) → Alike (Unit {0}) (done_if_any p call e) (done_if_any p call' e)
      done_if_any_alike None = r.on_pure b _ _ tt
      done_if_any_alike (Some e) = done_alike e

      returned_alike : (e : Option (Expression ℕ)) → Alike Way (returned p call e) (returned p call' e)
      returned_alike None = r.on_pure b _ _ (by_return None)
      returned_alike (Some e) = bind (used_alike e) (λ v. r.on_pure b _ _ (by_return (Some v)))

    -- ---- statements

    module _ (n m : ℕ) (calls : (b : ℕ) → r.Fuels b n m → (place : Place) (f : ℕ) (values : List Value) → r.Related b Frame (Option Value) (call place f values) (call' place f values))
        (g : ℕ) (locals : List Local) where
      mutual
        pub execute_alike : (l : ℕ) (s : Statement ℕ) → Under n m Way (execute p call g locals n l s) (execute p call' g locals m l s)
        execute_alike l (T.evaluate e) b h = bind (done_alike b (calls b h) e) (λ a. r.on_pure b _ _ normally)
        execute_alike l (T.block own all) b h = scoped_alike p locals own (execute_all_alike l all b h)
        execute_alike l (T.declare x i) b h = bind (declared_alike b (calls b h) x (slice_get locals x) i) (λ a. r.on_pure b _ _ normally)
        execute_alike l (T.when e one) b h = bind (tests_alike b (calls b h) e) (λ goes. choice_alike goes (execute_alike l one b h) (r.on_pure b _ _ normally))
        execute_alike l (T.when_else e one other) b h =
            bind (tests_alike b (calls b h) e) (λ goes. choice_alike goes (execute_alike l one b h) (execute_alike (l + loops_in one) other b h))
        execute_alike l (T.while e body) b h =
            loop_alike (began g l) n m _ _ _ _ _ _ (λ b h. tests_alike b (calls b h) e) (λ b h. r.on_pure b _ _ tt) (execute_alike (l + 1) body) b h
        execute_alike l (T.do_while body e) b h = loop_behind_alike (began g l) n m _ _ _ _ (execute_alike (l + 1) body) (λ b h. tests_alike b (calls b h) e) b h
        execute_alike l (T.for own start test step body) b h =
            scoped_alike p locals own (bind (execute_all_alike l start b h) (and_then_alike (loop_alike (began g l) n m _ _ _ _ _ _
            (λ b h. tests_if_any_alike b (calls b h) test) (λ b h. done_if_any_alike b (calls b h) step) (execute_alike (l + 1) body) b h)))
        execute_alike l (T.switch e own arms) b h =
            bind (used_alike b (calls b h) e) (λ v. bind (Runs.by_tested r (at_of e) (as_word v) b) (λ n. bind (scoped_alike p locals own
            (enter_alike l (or_default (arm_of n 0 arms) (default_arm 0 arms)) arms b h)) (λ way. r.on_pure b _ _ (behind_switch way))))
        execute_alike l T.break b h = r.on_pure b _ _ by_break
        execute_alike l T.continue b h = r.on_pure b _ _ by_continue
        execute_alike l (T.return e) b h = returned_alike b (calls b h) e

        pub execute_all_alike : (l : ℕ) (all : Statements ℕ) → Under n m Way (execute_all p call g locals n l all) (execute_all p call' g locals m l all)
        execute_all_alike l T.no_statements b h = r.on_pure b _ _ normally
        execute_all_alike l (T.and_statement s more) b h = bind (execute_alike l s b h) (and_then_alike (execute_all_alike (l + loops_in s) more b h))

        pub enter_alike : (l : ℕ) (arm : Option ℕ) (arms : Arms ℕ) → Under n m Way (enter p call g locals n l arm arms) (enter p call' g locals m l arm arms)
        enter_alike l None arms b h = r.on_pure b _ _ normally
        enter_alike l (Some k) T.no_arms b h = r.on_pure b _ _ normally
        enter_alike l (Some zero) (T.and_arm cases is_default all more) b h =
            bind (execute_all_alike l all b h) (and_then_alike (enter_alike (l + loops_in_all all) (Some zero) more b h))
        enter_alike l (Some (suc k)) (T.and_arm cases is_default all more) b h = enter_alike (l + loops_in_all all) (Some k) more b h
