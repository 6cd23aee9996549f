-- Each step of the engine is the step of the run.
use Rattle.std.proofs.Common.{ℕ, ◌*◌, ◌^◌, ◌==◌, Bool, true, false, not, if◌then◌else◌, nat_lt, List, [], ◌∷◌, map, replicate}
use Rattle.std.proofs.Common.{Option, Some, None, slice_get, get_or}
use Rattle.std.specs.Prelude.{ℤ, pos, ◌*ℤ◌, ◌+ℤ◌}
use Rattle.lay_base.specs.declared.faults.UndefinedKind.TheVariants as K
use Rattle.lay_base.specs.declared.place.Place.{Place}
use Rattle.c_types.specs.Types.{integer}
use Rattle.c_typed.specs.Conversions.{number_of}
use Rattle.memory_words.specs.declared.cell_words.cell.Cell.{Cell}
use Rattle.memory_words.specs.declared.cell_words.cell.Cell.TheVariants.{Byte, Empty}
use Rattle.memory_words.specs.declared.cell_words.pointer.Ptr.TheVariants as P
use Rattle.block_memory.specs.Blocks.{with_cells}
use Rattle.block_memory.specs.RunWorlds.Doing.{◌>>=◌, is_undefined, memory_now, tested, with_memory}
use Rattle.block_memory.specs.RunWorlds.Library as Library
use Rattle.block_memory.specs.RunWorlds.LibraryCalls as LibraryCalls
use Rattle.block_memory.specs.RunWorlds.LibraryCalls.{is_same_place}
use Rattle.block_memory.specs.RunWorlds.Operators.{converted, null_or_pointer, is_true, flag, unary, binary, moved_from, distance, compared, updated}
use Rattle.block_memory.specs.RunWorlds.Scalars.{as_word, pointer_of, load, store, load_in, store_in}
use Rattle.block_memory.specs.declared.run_worlds.value.Value.{Value}
use Rattle.block_memory.specs.declared.run_worlds.value.Value.TheVariants.{Pointer as pointer}
use Rattle.c_meaning.specs.Expressions.{element_of, field_in, field_through, is_subscript, part_in, part_of}
use Rattle.c_meaning.specs.declared.frame.Slot.{Slot}
use Rattle.c_meaning.specs.declared.frame.Slot.TheVariants.{ByName as by_name, InBlock as in_block}
use Rattle.c_meaning.specs.declared.frame.Spot.TheVariants.{Placed as placed}
use Rattle.source_state.specs.Steps.Cores.{Core, done}
use Rattle.source_state.specs.Steps.Locals.{slot, emptied}
use Rattle.source_state.specs.Steps.Memories.{changed, copy_record, with_text, zeroed}
use Rattle.source_state.proofs.Steps.Calls.{begun_part}
use Rattle.source_state.proofs.Steps.Locals.{with_slot_part}
use Rattle.source_state.proofs.Steps.Memories.{allocate_part, copy_part, load_part, now_put_part, reached_part, store_part}
use Rattle.source_state.proofs.Steps.Parts.{Part, pure_part}
use Rattle.tac_ir.specs.Code.{led}
use Rattle.tac_ir.specs.Running as Run
use Rattle.tac_ir.specs.Running.{address, as_number, does, no_place, type_in, type_of_sort, value_in}
use Rattle.tac_ir.specs.declared.step.Step.{Step}
use Rattle.tac_ir.specs.declared.step.Step.TheVariants as S
use Rattle.tac_ir.specs.declared.step.Target.{Target}
use Rattle.tac_engine.specs.States.{State, goes, with_core, putting, found, finding, number, jumped, jumps_if, through, part, element, read_row, with_found}
use Rattle.tac_engine.specs.Steps.{allocated, calls, calls_through, enacted, inside, library, returned, written}
use Rattle.tac_engine.proofs.CallsSame.{begin_part, calls_same, calls_through_same, finish_part, returned_same}
use Rattle.tac_engine.proofs.LibrarySame.{library_same}
use Rattle.tac_engine.proofs.Same.{Course, types_of, code_in, Same, going, same_any, same_both, same_changing, same_doing, same_finding, same_found, same_goes}
use Rattle.tac_engine.proofs.Same.{same_if, same_looking}
use Rattle.tac_engine.proofs.Same.{same_put, same_read, same_row, same_undefined}

module _ (s : State) where
  -- a temporary takes a value, and the run goes on
  abbrev puts : (t : ℕ) → Value → Course
  puts t v next = Run.put t v (λ u. going s next)

  puts_same : (t : ℕ) (v : Value) → Same s (puts t v) (putting t v s)
  puts_same t v = record { shows = (same_put t v s).shows }

  -- ---- places

  through_same : (t : ℕ) (at : Place) (v : Value) (by : ℤ)
      → Same s (λ next. field_through at (pointer_of v) by (λ q. puts t (address q) next)) (through t at v by s)
  through_same t at v by = record {
    shows = (same_looking at (field_in s.core.memory (pointer_of v) by) (λ q. puts t (pointer q)) (λ q. putting t (pointer q) s)
        (reached_part at (pointer_of v) by s.core) (λ q. puts_same t (pointer q))).shows;
  }

  part_same : (t : ℕ) (at : Place) (by : ℤ) (v : Value)
      → Same s (λ next. part_of at by (placed (pointer_of v)) (λ q. puts t (address q) next)) (part t at by v s)
  part_same t at by v = record {
    shows = (same_finding at (part_in s.core.memory (pointer_of v) by) s (λ q. puts t (pointer q)) (λ q. putting t (pointer q) s)
        (λ q. puts_same t (pointer q))).shows;
  }

  element_same : (t : ℕ) (at : Place) (n : ℕ) (addressed : Bool) (size : ℕ) (i : ℤ) (v : Value)
      → Same s (λ next. element_of at n size addressed (placed (pointer_of v)) i (λ q. puts t (address q) next)) (element t at n addressed size i v s)
  element_same t at n addressed size i v = same_if (is_subscript n addressed i) (part_of at (i *ℤ pos size) (placed (pointer_of v)))
      (is_undefined K.Subscript at)
      (λ q. puts t (address q)) (part_same t at (i *ℤ pos size) v) (record { shows = (same_undefined K.Subscript at s).shows })

  -- ---- jumps

  jump_same : (to : Target) (test : Bool) → Same s (λ next. next s.callers s.routine (if test then led s.routine to else s.more))
      (if test then goes (jumped to s) else goes s)
  jump_same to true = record { shows = (same_goes (jumped to s)).shows }
  jump_same to false = record { shows = (same_goes s).shows }

  -- ---- blocks of locals

  inside_same : (t : ℕ) (at : Place) (by : ℕ) (o : Option Slot) → Same s (λ next. Run.inside at by o (λ v. puts t v next)) (inside t at by o s)
  inside_same t at by (Some (in_block (Some b))) = record { shows = (puts_same t (pointer (P.Block b by))).shows }
  inside_same t at by (Some (in_block None)) = record { shows = (same_undefined K.Dead at s).shows }
  inside_same t at by (Some (by_name v)) = record { shows = (same_undefined K.Dead at s).shows }
  inside_same t at by None = record { shows = (same_undefined K.Dead at s).shows }

  written_same : (by : ℕ) (cells : List Cell) (change : (b : ℕ) → Core → Core) (o : Option Slot)
      → ((b : ℕ) → Part s.core (memory_now >>= λ m. with_memory (with_cells m b by cells)) (done tt (change b s.core)))
      → Same s (λ next. Run.written by cells o (λ u. going s next)) (written change o s)
  written_same by cells change (Some (in_block (Some b))) h = record {
    shows = (same_doing {s = s} (λ u. going s) (λ u s. goes s) (h b)
        (λ u c. record { shows = (same_goes (with_core c s)).shows })).shows;
  }
  written_same by cells change (Some (in_block None)) h = record { shows = (same_goes s).shows }
  written_same by cells change (Some (by_name v)) h = record { shows = (same_goes s).shows }
  written_same by cells change None h = record { shows = (same_goes s).shows }

  emptied_part : (x size : ℕ) (o : Option Slot) (c : Core) → Part c (Run.emptied x size o) (done tt (emptied x size o c))
  emptied_part x size (Some (in_block (Some b))) c = now_put_part b 0 (replicate size Empty) c
  emptied_part x size (Some (in_block None)) c = pure_part tt c
  emptied_part x size (Some (by_name v)) c = with_slot_part x (by_name None) c
  emptied_part x size None c = pure_part tt c

  -- ---- allocations

  allocated_same : (t : ℕ) (at : Place) (r size : ℕ) (all : Bool) (n : ℕ)
      → Same s (λ next. LibraryCalls.allocated_count at r size n all (λ v. puts t v next)) (allocated t at size n all s)
  allocated_same t at r size all n =
      same_if (nat_lt (n * size) (2 ^ 28)) (Library.allocate (Some (r, n)) (n * size) all) (is_undefined K.Huge at) (puts t)
      (same_doing (puts t) (λ v s. putting t v s) (allocate_part (Some (r, n)) (n * size) all s.core)
      (λ v c. record { shows = (same_put t v (with_core c s)).shows }))
      (record { shows = (same_undefined K.Huge at s).shows })

  -- ---- each step

  pub alike : (i : Step) → Same s (λ next. does (types_of s) (code_in s) next s.callers s.routine i s.more) (enacted i s)
  alike (S.Set t a) = same_read a s (puts t) (λ v. putting t v s) (puts_same t)
  alike (S.Clear t) = record { shows = (same_any t None s).shows }
  alike (S.Unary t at op a) = same_read a s (λ v next. tested at (unary op v) (λ x. puts t x next)) (λ v. found t at (unary op v) s)
      (λ v. same_found t at (unary op v) s)
  alike (S.Not t a) = same_read a s (λ v. puts t (flag (not (is_true v)))) (λ v. putting t (flag (not (is_true v))) s)
      (λ v. puts_same t (flag (not (is_true v))))
  alike (S.Convert t at kind a) = same_read a s (λ v next. tested at (converted (integer kind) v) (λ x. puts t x next))
      (λ v. found t at (converted (integer kind) v) s) (λ v. same_found t at (converted (integer kind) v) s)
  alike (S.AsPointer t at a) = same_read a s (λ v next. tested at (null_or_pointer v) (λ x. puts t x next)) (λ v. found t at (null_or_pointer v) s)
      (λ v. same_found t at (null_or_pointer v) s)
  alike (S.Number t at a) = same_read a s (λ v next. tested at (as_number v) (λ x. puts t x next)) (λ v. found t at (as_number v) s)
      (λ v. same_found t at (as_number v) s)
  alike (S.Binary t at op kind right a b) = same_both a b s (λ v w next. tested at (binary op kind v right w) (λ x. puts t x next))
      (λ v w. found t at (binary op kind v right w) s) (λ v w. same_found t at (binary op kind v right w) s)
  alike (S.Compare t at op kind a b) = same_both a b s (λ v w next. memory_now (λ m. tested at (compared op m kind v w) (λ x. puts t x next)))
      (λ v w. found t at (compared op s.core.memory kind v w) s) (λ v w. record { shows = (same_found t at (compared op s.core.memory kind v w) s).shows })
  alike (S.Move t at op size left kind a b) =
      same_both a b s (λ v w next. memory_now (λ m. tested at (moved_from left m op size kind v w) (λ x. puts t x next)))
      (λ v w. found t at (moved_from left s.core.memory op size kind v w) s)
      (λ v w. record { shows = (same_found t at (moved_from left s.core.memory op size kind v w) s).shows })
  alike (S.Distance t at size a b) = same_both a b s (λ v w next. tested at (distance size v w) (λ x. puts t x next))
      (λ v w. found t at (distance size v w) s) (λ v w. same_found t at (distance size v w) s)
  alike (S.Update t at op size sort right a b) =
      same_both b a s (λ w v next. memory_now (λ m. tested at (updated m op size (type_of_sort sort) v (integer right) w) (λ x. puts t x next)))
      (λ w v. found t at (updated s.core.memory op size (type_of_sort sort) v (integer right) w) s)
      (λ w v. record { shows = (same_found t at (updated s.core.memory op size (type_of_sort sort) v (integer right) w) s).shows })
  alike (S.Field t at by a) = same_read a s (λ v next. field_through at (pointer_of v) (pos by) (λ q. puts t (address q) next)) (λ v. through t at v (pos by) s)
      (λ v. through_same t at v (pos by))
  alike (S.ElementField t at size kind by a b) =
      same_both a b s
      (λ v w next. tested at (as_word w) (λ n. field_through at (pointer_of v) (number_of kind n *ℤ pos size +ℤ pos by) (λ q. puts t (address q) next)))
      (λ v w. number at w s (λ n. through t at v (number_of kind n *ℤ pos size +ℤ pos by) s))
      (λ v w. same_finding at (as_word w) s
      (λ n next. field_through at (pointer_of v) (number_of kind n *ℤ pos size +ℤ pos by) (λ q. puts t (address q) next))
      (λ n. through t at v (number_of kind n *ℤ pos size +ℤ pos by) s) (λ n. through_same t at v (number_of kind n *ℤ pos size +ℤ pos by)))
  alike (S.Element t at n size addressed kind a b) =
      same_both a b s
      (λ v w next. tested at (as_word w) (λ i. element_of at n size addressed (placed (pointer_of v)) (number_of kind i) (λ q. puts t (address q) next)))
      (λ v w. number at w s (λ i. element t at n addressed size (number_of kind i) v s))
      (λ v w. same_finding at (as_word w) s
      (λ i next. element_of at n size addressed (placed (pointer_of v)) (number_of kind i) (λ q. puts t (address q) next))
      (λ i. element t at n addressed size (number_of kind i) v s) (λ i. element_same t at n addressed size (number_of kind i) v))
  alike (S.Part t at by a) = same_read a s (λ v next. part_of at (pos by) (placed (pointer_of v)) (λ q. puts t (address q) next)) (λ v. part t at (pos by) v s)
      (λ v. part_same t at (pos by) v)
  alike (S.Inside t at x by) = record { shows = (inside_same t at by (slot s.core x)).shows }
  alike (S.Load t at access a) = same_read a s (λ q next. load at (pointer_of q) access (λ v. puts t v next))
      (λ q. found t at (load_in s.core.memory (pointer_of q) access) s)
      (λ q. same_looking at (load_in s.core.memory (pointer_of q) access) (puts t) (λ v. putting t v s) (load_part at (pointer_of q) access s.core)
      (puts_same t))
  alike (S.Store at access a b) = same_both a b s (λ q v next. store at (pointer_of q) access v (λ u. going s next)) _
      (λ q v. same_changing at (changed (store_in s.core.memory (pointer_of q) access v) s.core) (going s) (λ s. goes s)
      (store_part at (pointer_of q) access v s.core)
      (λ c. record { shows = (same_goes (with_core c s)).shows }))
  alike (S.CopyRecord at size a b) = same_both a b s (λ q r next. LibraryCalls.assign_record at size (pointer_of q) (pointer_of r) (λ u. going s next)) _
      (λ q r. record {
        shows = (same_changing at (copy_record size (placed (pointer_of q)) (placed (pointer_of r)) s.core) (going s) (λ s. goes s)
            (copy_part at (pointer_of q) (pointer_of r) size (is_same_place (pointer_of q) (pointer_of r)) s.core)
            (λ c. record { shows = (same_goes (with_core c s)).shows })).shows;
      })
  alike (S.Jump to) = record { shows = (same_goes (jumped to s)).shows }
  alike (S.Branch when a to) = same_read a s (λ v next. next s.callers s.routine (if (if is_true v then when else not when) then led s.routine to else s.more))
      (λ v. jumps_if when to v s) (λ v. jump_same to (if is_true v then when else not when))
  alike (S.Test at op kind when a b to) = same_both a b s
      (λ v w next. memory_now (λ m. tested at (compared op m kind v w)
      (λ z. next s.callers s.routine (if (if is_true z then when else not when) then led s.routine to else s.more))))
      (λ v w. finding at (compared op s.core.memory kind v w) s (λ z. jumps_if when to z s))
      (λ v w. record {
        shows = (same_finding at (compared op s.core.memory kind v w) s
            (λ z next. next s.callers s.routine (if (if is_true z then when else not when) then led s.routine to else s.more)) (λ z. jumps_if when to z s)
            (λ z. jump_same to (if is_true z then when else not when))).shows;
      })
  alike (S.Case n a to) = same_read a s
      (λ v next. tested no_place (as_word v) (λ k. next s.callers s.routine (if n == k then led s.routine to else s.more)))
      (λ v. number no_place v s (λ k. if n == k then goes (jumped to s) else goes s))
      (λ v. same_finding no_place (as_word v) s (λ k next. next s.callers s.routine (if n == k then led s.routine to else s.more))
      (λ k. if n == k then goes (jumped to s) else goes s) (λ k. jump_same to (n == k)))
  alike (S.Call t at f all) = same_row at s all.first all.count
      (λ vs next own. Run.calls (types_of s) (code_in s) next at f
      (record { to = t; routine = s.routine; more = s.more; frame = own } ∷ s.callers) (slice_get (code_in s).routines f) vs own)
      (λ vs. calls (Some t) at f vs s) (λ vs. calls_same t at vs s f)
  alike (S.CallThrough t at type a all) = same_read a s
      (λ v next. Run.read_row at all.first all.count (λ vs own. Run.calls_through (types_of s) (code_in s) next at
      (type_in (types_of s) type) (pointer_of v) (record { to = t; routine = s.routine; more = s.more; frame = own } ∷ s.callers) vs own))
      (λ v. with_found (read_row at all.first all.count s.core) s (λ vs. calls_through t at type (pointer_of v) vs s))
      (λ v. same_row at s all.first all.count
      (λ vs next own. Run.calls_through (types_of s) (code_in s) next at
      (type_in (types_of s) type) (pointer_of v) (record { to = t; routine = s.routine; more = s.more; frame = own } ∷ s.callers) vs own)
      (λ vs. calls_through t at type (pointer_of v) vs s) (λ vs. calls_through_same t at vs s type (pointer_of v)))
  alike (S.Library t at which all) = same_row at s all.first all.count
      (λ vs next. LibraryCalls.library at which vs (λ v. Run.put_any t v (λ u. going s next)))
      (λ vs. library t at which vs s) (λ vs. library_same t s at which vs)
  alike (S.Allocate t at r size all a) = same_read a s (λ v next. LibraryCalls.allocated at r size v all (λ x. puts t x next))
      (λ v. number at v s (λ n. allocated t at size n all s))
      (λ v. same_finding at (as_word v) s (λ n next. LibraryCalls.allocated_count at r size n all (λ x. puts t x next)) (λ n. allocated t at size n all s)
      (allocated_same t at r size all))
  alike (S.Begin x size) = same_doing (λ u. going s) (λ u s. goes s) (begin_part x true size s.core)
      (λ u c. record { shows = (same_goes (with_core c s)).shows })
  alike (S.End x) = same_doing (λ u. going s) (λ u s. goes s) (finish_part x s.core) (λ u c. record { shows = (same_goes (with_core c s)).shows })
  alike (S.Forget x size) = record {
    shows = (same_doing {s = s} (λ u. going s) (λ u s. goes s) (emptied_part x size (slot s.core x) s.core)
        (λ u c. record { shows = (same_goes (with_core c s)).shows })).shows;
  }
  alike (S.Zeros x size) = record {
    shows = (written_same 0 (replicate size (Byte 0)) (λ b c. zeroed true b size c) (slot s.core x)
        (λ b. now_put_part b 0 (replicate size (Byte 0)) s.core)).shows;
  }
  alike (S.Text x by n) = record {
    shows = (written_same by (map Byte (get_or s.routine.texts n [])) (λ b c. with_text b by (get_or s.routine.texts n []) c)
        (slot s.core x) (λ b. now_put_part b by (map Byte (get_or s.routine.texts n [])) s.core)).shows;
  }
  alike (S.Began f l) = same_doing (λ u. going s) (λ u s. goes s) (begun_part f l s.core) (λ u c. record { shows = (same_goes (with_core c s)).shows })
  alike (S.Return None) = record { shows = (returned_same None s.callers s).shows }
  alike (S.Return (Some a)) = same_read a s
      (λ v next. Run.leaves (λ u own w. Run.returns (types_of s) (code_in s) next s.callers (Some v) w))
      (λ v. returned (Some v) s.callers s) (λ v. returned_same (Some v) s.callers s)
  alike (S.ReturnHeld t) = record { shows = (returned_same (value_in (slot s.core t)) s.callers s).shows }
  alike (S.Fail kind at) = record { shows = (same_undefined kind at s).shows }
