-- An undefined step of a statement stands at a place in it, where that holds of what its calls do.
use Rattle.std.proofs.Common.{◌≡◌, refl, ℕ, zero, suc, ◌+◌, Bool, true, false, List, [], ◌∷◌, Option, Some, None, slice_get}
use Rattle.lay_base.specs.declared.faults.UndefinedKind.TheVariants as K
use Rattle.lay_base.specs.declared.place.Place.{Place}
use Rattle.block_memory.specs.declared.kinds.BlockKind.TheVariants as Kind
use Rattle.c_typed.specs.RunCounts.Loops.{loops_in, loops_in_all}
use Rattle.c_typed.specs.declared.program.Local.{Local}
use Rattle.c_typed.specs.Trees as T
use Rattle.c_typed.specs.Trees.{Expression, Path, path, PartValue, Part, Initializer, Statement, Statements, Arms}
use Rattle.c_typed.specs.Constants.{ty}
use Rattle.c_typed.specs.Programs.{ProgramData}
use Rattle.c_typed.specs.Typed.{at_of, path_ty, path_at}
use Rattle.memory_words.specs.declared.cell_words.pointer.Ptr.TheVariants as P
use Rattle.block_memory.specs.RunWorlds.Doing.{Doing, ◌>>=◌, ◌>>◌, turn, note}
use Rattle.block_memory.specs.RunWorlds.Events.{Event, began}
use Rattle.block_memory.specs.RunWorlds.Scalars.{as_word}
use Rattle.block_memory.specs.declared.run_worlds.value.Value.{Value}
use Rattle.c_meaning.specs.Frames.{Frame, begin, end_slot, finish, end_of, end_all, begin_all, finish_all, scoped, emptied}
use Rattle.c_meaning.specs.declared.frame.Spot.TheVariants.{Placed as placed}
use Rattle.c_meaning.specs.declared.frame.Slot.{Slot}
use Rattle.c_meaning.specs.declared.frame.Slot.TheVariants.{ByName as by_name, InBlock as in_block}
use Rattle.block_memory.specs.declared.run_worlds.way.Way.{Way}
use Rattle.block_memory.specs.declared.run_worlds.way.Way.TheVariants.{Normally as normally, ByBreak as by_break, ByContinue as by_continue}
use Rattle.block_memory.specs.declared.run_worlds.way.Way.TheVariants.{ByReturn as by_return}
use Rattle.c_meaning.specs.Expressions.{used}
use Rattle.block_memory.specs.RunWorlds.Operators.{is_true}
use Rattle.block_memory.specs.RunWorlds.Ways.{and_then, and_again, loop, loop_behind}
use Rattle.c_meaning.specs.Program.{size_at, access_at}
use Rattle.c_meaning.specs.Statements.{behind_switch, arm_of, default_arm, or_default, put_part, put_parts}
use Rattle.c_meaning.specs.Statements.{part_place, or_later, parts_place, initial_place, dead_at, initial_in, initial_by_name, initial, declared, tests}
use Rattle.c_meaning.specs.Statements.{tests_if_any, done, done_if_any, returned, execute, execute_all, enter}
use Rattle.c_undefined_places.specs.Placed.{IsPlaced, IsPlacedPath, IsPlacedValue, ArePlacedParts, IsPlacedInitializer, IsPlacedInitial, IsPlacedIfAny}
use Rattle.c_undefined_places.specs.Placed.{IsPlacedStatement, ArePlacedStatements, ArePlacedArms}
use Rattle.c_undefined_places.proofs.Standing as Runs
use Rattle.c_undefined_places.proofs.StandingExpressions as Expressions
use Rattle.c_undefined_places.proofs.StandingExpressions.{Calls}

module _ (Is : Place → Type 0) where
  abbrev Stands : {A : Type 0} → Doing Frame A → Type 0
  Stands m = Runs.Stands Is m

  bind : {A B : Type 0} {m : Doing Frame A} {next : A → Doing Frame B} → Stands m → ((x : A) → Stands (next x)) → Stands (m >>= next)
  bind one other = Runs.bind Is one other

  path_place : (q : Path ℕ) → IsPlacedPath Is q → Is (path_at q)
  path_place (path t at step) h = h.0

  -- ---- the place of an initializer

  abbrev StandsIfAny : Option Place → Type 0
  StandsIfAny None = Unit {0}
  StandsIfAny (Some place) = Is place

  part_stands : (part : PartValue ℕ) → IsPlacedValue Is part → StandsIfAny (part_place part)
  part_stands (T.value e) h = Expressions.own_place Is e h
  part_stands (T.record_of q) h = path_place q h
  part_stands (T.text bytes) h = tt

  later_stands : (place later : Option Place) → StandsIfAny place → StandsIfAny later → StandsIfAny (or_later place later)
  later_stands None later h k = k
  later_stands (Some place) later h k = h

  parts_stand : (all : List (Part ℕ)) → ArePlacedParts Is all → StandsIfAny (parts_place all)
  parts_stand [] h = tt
  parts_stand (part ∷ more) h = later_stands (part_place part.value) (parts_place more) (part_stands part.value h.0) (parts_stand more h.1)

  initial_stands : (i : Initializer ℕ) → IsPlacedInitializer Is i → StandsIfAny (initial_place i)
  initial_stands (T.whole e) h = Expressions.own_place Is e h
  initial_stands (T.whole_record q) h = path_place q h
  initial_stands (T.parts all) h = parts_stand all h

  by_dead_at : (place : Option Place) → StandsIfAny place → Stands (dead_at place)
  by_dead_at None h = Runs.by_pure Is tt
  by_dead_at (Some place) h = Runs.by_undefined Is K.Dead place h

  -- ---- scopes

  by_end_of : (s : Slot) → Stands (end_of s)
  by_end_of (in_block (Some b)) = Runs.by_end Is b
  by_end_of (in_block None) = Runs.by_pure Is tt
  by_end_of (by_name v) = Runs.by_pure Is tt

  pub by_end_all : (f : Frame) → Stands (end_all f)
  by_end_all [] = Runs.by_pure Is tt
  by_end_all (s ∷ more) = bind (by_end_of s) (λ a. by_end_all more)

  module _ (p : ProgramData) where
    by_end_slot : (x : ℕ) (s : Option Slot) → Stands (end_slot p x s)
    by_end_slot x (Some (in_block (Some b))) = bind (Runs.by_end Is b) (λ a. Expressions.by_with_slot Is x (in_block None))
    by_end_slot x (Some (in_block None)) = Runs.by_pure Is tt
    by_end_slot x (Some (by_name v)) = Runs.by_pure Is tt
    by_end_slot x None = Runs.by_pure Is tt

    by_finish : (x : ℕ) → Stands (finish p x)
    by_finish x = bind (Expressions.by_slot_now Is x) (by_end_slot x)

    pub by_begin : (x : ℕ) (l : Option Local) → Stands (begin p x l)
    by_begin x None = Runs.by_pure Is tt
    by_begin x (Some l) = by_kind l.block refl
      where
        by_kind : (block : Bool) → l.block ≡ block → Stands (begin p x (Some l))
        by_kind true e =
            rw e (bind (by_finish x) (λ a. bind (Runs.by_make Is (size_at p l.ty) Kind.Local) (λ b. Expressions.by_with_slot Is x (in_block (Some b)))))
        by_kind false e = rw e (Expressions.by_with_slot Is x (by_name None))

    by_begin_all : (locals : List Local) (numbers : List ℕ) → Stands (begin_all p locals numbers)
    by_begin_all locals [] = Runs.by_pure Is tt
    by_begin_all locals (x ∷ more) = bind (by_begin x (slice_get locals x)) (λ a. by_begin_all locals more)

    pub by_finish_all : (numbers : List ℕ) → Stands (finish_all p numbers)
    by_finish_all [] = Runs.by_pure Is tt
    by_finish_all (x ∷ more) = bind (by_finish x) (λ a. by_finish_all more)

    by_scoped : {A : Type 0} (locals : List Local) (numbers : List ℕ) {m : Doing Frame A} → Stands m → Stands (scoped p locals numbers m)
    by_scoped locals numbers one =
        bind (by_begin_all locals numbers) (λ a. bind one (λ x. bind (by_finish_all numbers) (λ c. Runs.by_pure Is x)))

    by_emptied : (x type : ℕ) (s : Option Slot) → Stands (emptied p x type s)
    by_emptied x type (Some (in_block (Some b))) = bind (Runs.by_memory Is) (λ m. Runs.by_with_memory Is _)
    by_emptied x type (Some (in_block None)) = Runs.by_pure Is tt
    by_emptied x type (Some (by_name v)) = Expressions.by_with_slot Is x (by_name None)
    by_emptied x type None = Runs.by_pure Is tt

  -- ---- ways and loops

  by_and_then : {m : Doing Frame Way} → Stands m → (way : Way) → Stands (and_then m way)
  by_and_then one normally = one
  by_and_then one by_break = Runs.by_pure Is by_break
  by_and_then one by_continue = Runs.by_pure Is by_continue
  by_and_then one (by_return v) = Runs.by_pure Is (by_return v)

  by_and_again : {m : Doing Frame Way} → Stands m → (way : Way) → Stands (and_again m way)
  by_and_again one normally = one
  by_and_again one by_continue = one
  by_and_again one by_break = Runs.by_pure Is normally
  by_and_again one (by_return v) = Runs.by_pure Is (by_return v)

  by_loop : (event : Event) (n : ℕ) (test : Doing Frame Bool) (step : Doing Frame (Unit {0})) (body : Doing Frame Way) → Stands test → Stands step
      → Stands body → Stands (loop (turn >> note event) n test step body)
  by_loop event zero test step body t s b = bind t (λ goes. Runs.by_choice Is goes (Runs.by_stop Is) (Runs.by_pure Is normally))
  by_loop event (suc n) test step body t s b =
      bind t (λ goes. Runs.by_choice Is goes (bind (bind (bind (Runs.by_turn Is) (λ a. Runs.by_note Is event)) (λ a. b))
      (by_and_again (bind s (λ a. by_loop event n test step body t s b)))) (Runs.by_pure Is normally))

  by_loop_behind : (event : Event) (n : ℕ) (body : Doing Frame Way) (test : Doing Frame Bool) → Stands body → Stands test
      → Stands (loop_behind (turn >> note event) n body test)
  by_loop_behind event zero body test b t = Runs.by_stop Is
  by_loop_behind event (suc n) body test b t =
      bind (bind (bind (Runs.by_turn Is) (λ a. Runs.by_note Is event)) (λ a. b))
      (by_and_again (bind t (λ goes. Runs.by_choice Is goes (by_loop_behind event n body test b t) (Runs.by_pure Is normally))))

  module _ (p : ProgramData) (call : Calls) (calls : (place : Place) → Is place → (f : ℕ) (values : List Value) → Stands (call place f values)) where
    -- ---- initializers and parts of statements

    by_used : (e : Expression ℕ) → IsPlaced Is e → Stands (used p call e)
    by_used e h = Expressions.by_used Is p call calls e h

    by_part : (block offset : ℕ) (part : PartValue ℕ) → IsPlacedValue Is part → Stands (put_part p call block offset part)
    by_part block offset (T.value e) h =
        bind (by_used e h) (λ v. Runs.by_store Is (at_of e) (P.Block block offset) (access_at p (ty e)) v (Expressions.own_place Is e h))
    by_part block offset (T.record_of q) h =
        bind (Expressions.by_spot Is p call calls false q h)
        (λ s. Expressions.by_copy_record Is (path_at q) (size_at p (path_ty q)) (placed (P.Block block offset)) s (path_place q h))
    by_part block offset (T.text bytes) h = bind (Runs.by_memory Is) (λ m. Runs.by_with_memory Is _)

    by_parts : (block : ℕ) (all : List (Part ℕ)) → ArePlacedParts Is all → Stands (put_parts p call block all)
    by_parts block [] h = Runs.by_pure Is tt
    by_parts block (part ∷ more) h = bind (by_part block part.offset part.value h.0) (λ a. by_parts block more h.1)

    by_initial_in : (block size : ℕ) (i : Initializer ℕ) → IsPlacedInitializer Is i → Stands (initial_in p call block size i)
    by_initial_in block size (T.whole e) h = by_part block 0 (T.value e) h
    by_initial_in block size (T.whole_record q) h = by_part block 0 (T.record_of q) h
    by_initial_in block size (T.parts all) h = bind (bind (Runs.by_memory Is) (λ m. Runs.by_with_memory Is _)) (λ a. by_parts block all h)

    by_initial_by_name : (x : ℕ) (i : Initializer ℕ) → IsPlacedInitializer Is i → Stands (initial_by_name p call x i)
    by_initial_by_name x (T.whole e) h = bind (by_used e h) (λ v. Expressions.by_with_slot Is x (by_name (Some v)))
    by_initial_by_name x (T.whole_record q) h = Runs.by_pure Is tt
    by_initial_by_name x (T.parts all) h = Runs.by_pure Is tt

    by_initial : (x size : ℕ) (i : Initializer ℕ) (s : Option Slot) → IsPlacedInitializer Is i → Stands (initial p call x size i s)
    by_initial x size i (Some (in_block (Some block))) h = by_initial_in block size i h
    by_initial x size i (Some (in_block None)) h = by_dead_at (initial_place i) (initial_stands i h)
    by_initial x size i (Some (by_name v)) h = by_initial_by_name x i h
    by_initial x size i None h = by_dead_at (initial_place i) (initial_stands i h)

    by_declared : (x : ℕ) (l : Option Local) (i : Option (Initializer ℕ)) → IsPlacedInitial Is i → Stands (declared p call x l i)
    by_declared x None i h = Runs.by_pure Is tt
    by_declared x (Some l) None h = bind (Expressions.by_slot_now Is x) (λ s. by_emptied p x l.ty s)
    by_declared x (Some l) (Some i) h = bind (Expressions.by_slot_now Is x) (λ s. by_initial x (size_at p l.ty) i s h)

    by_tests : (e : Expression ℕ) → IsPlaced Is e → Stands (tests p call e)
    by_tests e h = bind (by_used e h) (λ v. Runs.by_pure Is (is_true v))

    by_tests_if_any : (e : Option (Expression ℕ)) → IsPlacedIfAny Is e → Stands (tests_if_any p call e)
    by_tests_if_any None h = Runs.by_pure Is true
    by_tests_if_any (Some e) h = by_tests e h

    by_done : (e : Expression ℕ) → IsPlaced Is e → Stands (done p call e)
    by_done e h = bind (Expressions.by_value Is p call calls e h) (λ v. Runs.by_pure Is tt)

    by_done_if_any : (e : Option (Expression ℕ)) → IsPlacedIfAny Is e → Stands (done_if_any p call e)
    by_done_if_any None h = Runs.by_pure Is tt
    by_done_if_any (Some e) h = by_done e h

    by_returned : (e : Option (Expression ℕ)) → IsPlacedIfAny Is e → Stands (returned p call e)
    by_returned None h = Runs.by_pure Is (by_return None)
    by_returned (Some e) h = bind (by_used e h) (λ v. Runs.by_pure Is (by_return (Some v)))

    -- ---- statements

    module _ (n g : ℕ) (locals : List Local) where
      mutual
        pub by_execute : (l : ℕ) (s : Statement ℕ) → IsPlacedStatement Is s → Stands (execute p call g locals n l s)
        by_execute l (T.evaluate e) h = bind (by_done e h) (λ a. Runs.by_pure Is normally)
        by_execute l (T.block own all) h = by_scoped p locals own (by_execute_all l all h)
        by_execute l (T.declare x i) h = bind (by_declared x (slice_get locals x) i h) (λ a. Runs.by_pure Is normally)
        by_execute l (T.when e one) h = bind (by_tests e h.0) (λ goes. Runs.by_choice Is goes (by_execute l one h.1) (Runs.by_pure Is normally))
        by_execute l (T.when_else e one other) h =
            bind (by_tests e h.0) (λ goes. Runs.by_choice Is goes (by_execute l one h.1) (by_execute (l + loops_in one) other h.2))
        by_execute l (T.while e body) h = by_loop (began g l) n _ _ _ (by_tests e h.0) (Runs.by_pure Is tt) (by_execute (l + 1) body h.1)
        by_execute l (T.do_while body e) h = by_loop_behind (began g l) n _ _ (by_execute (l + 1) body h.0) (by_tests e h.1)
        by_execute l (T.for own start test step body) h =
            by_scoped p locals own (bind (by_execute_all l start h.0) (by_and_then
            (by_loop (began g l) n _ _ _ (by_tests_if_any test h.1) (by_done_if_any step h.2) (by_execute (l + 1) body h.3))))
        by_execute l (T.switch e own arms) h =
            bind (by_used e h.0) (λ v. bind (Runs.by_tested Is (at_of e) (as_word v) (Expressions.own_place Is e h.0)) (λ k.
            bind (by_scoped p locals own (by_enter l (or_default (arm_of k 0 arms) (default_arm 0 arms)) arms h.1))
            (λ way. Runs.by_pure Is (behind_switch way))))
        by_execute l T.break h = Runs.by_pure Is by_break
        by_execute l T.continue h = Runs.by_pure Is by_continue
        by_execute l (T.return e) h = by_returned e h

        by_execute_all : (l : ℕ) (all : Statements ℕ) → ArePlacedStatements Is all → Stands (execute_all p call g locals n l all)
        by_execute_all l T.no_statements h = Runs.by_pure Is normally
        by_execute_all l (T.and_statement s more) h = bind (by_execute l s h.0) (by_and_then (by_execute_all (l + loops_in s) more h.1))

        by_enter : (l : ℕ) (arm : Option ℕ) (arms : Arms ℕ) → ArePlacedArms Is arms → Stands (enter p call g locals n l arm arms)
        by_enter l None arms h = Runs.by_pure Is normally
        by_enter l (Some k) T.no_arms h = Runs.by_pure Is normally
        by_enter l (Some zero) (T.and_arm cases is_default all more) h =
            bind (by_execute_all l all h.0) (by_and_then (by_enter (l + loops_in_all all) (Some zero) more h.1))
        by_enter l (Some (suc k)) (T.and_arm cases is_default all more) h = by_enter (l + loops_in_all all) (Some k) more h.1
