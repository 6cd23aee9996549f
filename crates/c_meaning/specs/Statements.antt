-- What a statement does, and how it is left (C99 6.8).
use Rattle.std.specs.Prelude.{ℕ, zero, suc, ◌+◌, ◌==◌, Bool, true, false, if◌then◌else◌, List, [], ◌∷◌, map, replicate, Option, Some, None, slice_get}
use Rattle.std.specs.List.{list_any}
use Rattle.lay_base.specs.declared.faults.UndefinedKind.TheVariants as K
use Rattle.lay_base.specs.declared.place.Place.{Place}
use Rattle.c_typed.specs.declared.program.Local.{Local}
use Rattle.c_typed.specs.Trees as T
use Rattle.c_typed.specs.Trees.{Expression, Path, PartValue, Part, Initializer, Statement, Statements, Arms}
use Rattle.c_typed.specs.Constants.{ty}
use Rattle.c_typed.specs.Programs.{ProgramData}
use Rattle.c_typed.specs.Typed.{at_of, path_ty, path_at}
use Rattle.memory_words.specs.declared.cell_words.cell.Cell.TheVariants.{Byte}
use Rattle.memory_words.specs.declared.cell_words.pointer.Ptr.TheVariants as P
use Rattle.block_memory.specs.Blocks.{with_cells}
use Rattle.block_memory.specs.RunWorlds.Doing.{Doing, ◌>>=◌, ◌>>◌, pure, is_undefined, tested, memory_now, with_memory, turn, note}
use Rattle.block_memory.specs.RunWorlds.Events.{began}
use Rattle.block_memory.specs.RunWorlds.Scalars.{as_word, store}
use Rattle.block_memory.specs.declared.run_worlds.value.Value.{Value}
use Rattle.block_memory.specs.RunWorlds.Ways.{and_then, loop, loop_behind}
use Rattle.block_memory.specs.declared.run_worlds.way.Way.{Way}
use Rattle.block_memory.specs.declared.run_worlds.way.Way.TheVariants.{Normally as normally, ByBreak as by_break, ByContinue as by_continue}
use Rattle.block_memory.specs.declared.run_worlds.way.Way.TheVariants.{ByReturn as by_return}
use Rattle.block_memory.specs.RunWorlds.Operators.{is_true}
use Rattle.c_meaning.specs.Expressions.{value, used, spot, copy_record}
use Rattle.c_meaning.specs.Frames.{Frame, with_slot, slot_now, scoped, emptied}
use Rattle.c_meaning.specs.declared.frame.Spot.TheVariants.{Placed as placed}
use Rattle.c_meaning.specs.declared.frame.Slot.{Slot}
use Rattle.c_meaning.specs.declared.frame.Slot.TheVariants.{ByName as by_name, InBlock as in_block}
use Rattle.c_typed.specs.RunCounts.Loops.{loops_in, loops_in_all}
use Rattle.c_meaning.specs.Program.{access_at, size_at}

-- ---- `switch` (6.8.4.2)

-- behind the body of a `switch`
abbrev pub behind_switch : Way → Way
behind_switch by_break = normally
behind_switch way = way

-- the number of the arm with that case value, counted from k on; no two have the same
abbrev pub arm_of : (v k : ℕ) → Arms ℕ → Option ℕ
arm_of v k T.no_arms = None
arm_of v k (T.and_arm cases is_default all more) = if list_any (λ c. c == v) cases then Some k else arm_of v (k + 1) more

abbrev pub default_arm : (k : ℕ) → Arms ℕ → Option ℕ
default_arm k T.no_arms = None
default_arm k (T.and_arm cases is_default all more) = if is_default then Some k else default_arm (k + 1) more

abbrev pub or_default : Option ℕ → Option ℕ → Option ℕ
or_default None d = d
or_default (Some k) d = Some k

-- ---- initializers of locals (6.7.8)

-- the first expression of an initializer stands there
abbrev pub part_place : PartValue ℕ → Option Place
part_place (T.value e) = Some (at_of e)
part_place (T.record_of q) = Some (path_at q)
part_place (T.text bytes) = None

abbrev pub or_later : Option Place → Option Place → Option Place
or_later None later = later
or_later (Some place) later = Some place

abbrev pub parts_place : List (Part ℕ) → Option Place
parts_place [] = None
parts_place (part ∷ more) = or_later (part_place part.value) (parts_place more)

abbrev pub initial_place : Initializer ℕ → Option Place
initial_place (T.whole e) = Some (at_of e)
initial_place (T.whole_record q) = Some (path_at q)
initial_place (T.parts all) = parts_place all

-- outside of its scope a local is no place (own); no program of files comes there
abbrev pub dead_at : Option Place → Doing Frame (Unit {0})
dead_at None = pure tt
dead_at (Some place) = is_undefined K.Dead place

module _ (p : ProgramData) (call : Place → (f : ℕ) → List Value → Doing Frame (Option Value)) where
  -- a part at an offset of a block
  abbrev pub put_part : (b offset : ℕ) → PartValue ℕ → Doing Frame (Unit {0})
  put_part b offset (T.value e) = used p call e >>= λ v. store (at_of e) (P.Block b offset) (access_at p (ty e)) v
  put_part b offset (T.record_of q) = spot p call false q >>= λ s. copy_record (path_at q) (size_at p (path_ty q)) (placed (P.Block b offset)) s
  put_part b offset (T.text bytes) = memory_now >>= λ m. with_memory (with_cells m b offset (map Byte bytes))

  abbrev pub put_parts : (b : ℕ) → List (Part ℕ) → Doing Frame (Unit {0})
  put_parts b [] = pure tt
  put_parts b (part ∷ more) = put_part b part.offset part.value >> put_parts b more

  -- all is zero before the first part is stored (own)
  abbrev pub zero_in : (b size : ℕ) → Doing Frame (Unit {0})
  zero_in b size = memory_now >>= λ m. with_memory (with_cells m b 0 (replicate size (Byte 0)))

  abbrev pub initial_in : (b size : ℕ) → Initializer ℕ → Doing Frame (Unit {0})
  initial_in b size (T.whole e) = put_part b 0 (T.value e)
  initial_in b size (T.whole_record q) = put_part b 0 (T.record_of q)
  initial_in b size (T.parts all) = zero_in b size >> put_parts b all

  abbrev pub initial_by_name : (local : ℕ) → Initializer ℕ → Doing Frame (Unit {0})
  initial_by_name x (T.whole e) = used p call e >>= λ v. with_slot x (by_name (Some v))
  initial_by_name x i = pure tt

  abbrev pub initial : (local size : ℕ) → Initializer ℕ → Option Slot → Doing Frame (Unit {0})
  initial x size i (Some (in_block (Some b))) = initial_in b size i
  initial x size i (Some (by_name v)) = initial_by_name x i
  initial x size i s = dead_at (initial_place i)

  abbrev pub declared : (local : ℕ) → Option Local → Option (Initializer ℕ) → Doing Frame (Unit {0})
  declared x None i = pure tt
  declared x (Some l) None = slot_now x >>= emptied p x l.ty
  declared x (Some l) (Some i) = slot_now x >>= initial x (size_at p l.ty) i

  -- ---- statements

  abbrev pub tests : Expression ℕ → Doing Frame Bool
  tests e = used p call e >>= λ v. pure (is_true v)

  abbrev pub tests_if_any : Option (Expression ℕ) → Doing Frame Bool
  tests_if_any None = pure true
  tests_if_any (Some e) = tests e

  abbrev pub done : Expression ℕ → Doing Frame (Unit {0})
  done e = value p call e >> pure tt

  abbrev pub done_if_any : Option (Expression ℕ) → Doing Frame (Unit {0})
  done_if_any None = pure tt
  done_if_any (Some e) = done e

  abbrev pub returned : Option (Expression ℕ) → Doing Frame Way
  returned None = pure (by_return None)
  returned (Some e) = used p call e >>= λ v. pure (by_return (Some v))

  -- in the function of that number with these locals; n is no less than the turns that are left, and so many loops stand before
  module _ (g : ℕ) (locals : List Local) (n : ℕ) where
    abbrev pub begins : (loop : ℕ) → Doing Frame (Unit {0})
    begins l = turn >> note (began g l)

    abbrev mutual
      pub execute : (loops : ℕ) → Statement ℕ → Doing Frame Way
      execute l (T.evaluate e) = done e >> pure normally
      execute l (T.block own all) = scoped p locals own (execute_all l all)
      execute l (T.declare x i) = declared x (slice_get locals x) i >> pure normally
      execute l (T.when e one) = tests e >>= λ goes. if goes then execute l one else pure normally
      execute l (T.when_else e one other) = tests e >>= λ goes. if goes then execute l one else execute (l + loops_in one) other
      execute l (T.while e body) = loop (begins l) n (tests e) (pure tt) (execute (l + 1) body)
      execute l (T.do_while body e) = loop_behind (begins l) n (execute (l + 1) body) (tests e)
      execute l (T.for own start test step body) = scoped p locals own (execute_all l start
          >>= and_then (loop (begins l) n (tests_if_any test) (done_if_any step) (execute (l + 1) body)))
      execute l (T.switch e own arms) = do
        v ← used p call e
        n ← tested (at_of e) (as_word v)
        way ← scoped p locals own (enter l (or_default (arm_of n 0 arms) (default_arm 0 arms)) arms)
        pure (behind_switch way)
      execute l T.break = pure by_break
      execute l T.continue = pure by_continue
      execute l (T.return e) = returned e

      pub execute_all : (loops : ℕ) → Statements ℕ → Doing Frame Way
      execute_all l T.no_statements = pure normally
      execute_all l (T.and_statement s more) = execute l s >>= and_then (execute_all (l + loops_in s) more)

      -- all arms from one on, or none
      pub enter : (loops : ℕ) → (arm : Option ℕ) → Arms ℕ → Doing Frame Way
      enter l None arms = pure normally
      enter l (Some k) T.no_arms = pure normally
      enter l (Some zero) (T.and_arm cases is_default all more) = execute_all l all >>= and_then (enter (l + loops_in_all all) (Some zero) more)
      enter l (Some (suc k)) (T.and_arm cases is_default all more) = enter (l + loops_in_all all) (Some k) more
