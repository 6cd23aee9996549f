-- What the parts of steps add to a world.
use Rattle.std.proofs.Common.{refl, ℕ, zero, suc, ◌+◌, Bool, true, false, if◌then◌else◌, List, [], ◌∷◌, replicate, Option, Some, None, slice_get, slice_set, ℤ, pos}
use Rattle.std.specs.Prelude.{◌*ℤ◌}
use Rattle.lay_base.specs.declared.faults.UndefinedKind.{UndefinedKind}
use Rattle.lay_base.specs.declared.faults.UndefinedKind.TheVariants as K
use Rattle.lay_base.specs.declared.place.Place.{Place}
use Rattle.memory_words.specs.declared.cell_words.cell.Cell.{Cell}
use Rattle.memory_words.specs.declared.cell_words.cell.Cell.TheVariants.{Empty}
use Rattle.memory_words.specs.declared.cell_words.pointer.Ptr.{Ptr}
use Rattle.memory_words.specs.declared.cell_words.pointer.Ptr.TheVariants as P
use Rattle.block_memory.specs.Blocks.{with_cells}
use Rattle.block_memory.specs.declared.kinds.BlockKind.TheVariants as Kind
use Rattle.block_memory.specs.RunWorlds.Doing.{is_undefined}
use Rattle.block_memory.specs.RunWorlds.Events.{reached}
use Rattle.block_memory.specs.RunWorlds.Worlds.{World}
use Rattle.block_memory.specs.declared.run_worlds.value.Value.{Value}
use Rattle.block_memory.specs.declared.run_worlds.value.Value.TheVariants.{Word as word, Pointer as pointer}
use Rattle.c_meaning.specs.Expressions.{part_in, part_of, is_subscript, element_of, field_in, field_through}
use Rattle.c_meaning.specs.Frames.{Frame, with_slot, slot_now, end_of, end_all}
use Rattle.c_meaning.specs.Outcomes.{comes}
use Rattle.c_meaning.specs.declared.frame.Slot.{Slot}
use Rattle.c_meaning.specs.declared.frame.Slot.TheVariants.{ByName as by_name, InBlock as in_block}
use Rattle.c_meaning.specs.declared.frame.Spot.{Spot}
use Rattle.c_meaning.specs.declared.frame.Spot.TheVariants.{Kept as kept, Placed as placed}
use Rattle.tac_ir.specs.Running.{with_temp, put_any, put, held, read, read_any, read_row, inside, written, end_slot, begin, emptied, received, receive}
use Rattle.tac_ir.specs.declared.step.Operand.{Operand}
use Rattle.tac_ir.specs.declared.step.Operand.TheVariants as O
use Rattle.tac_ir.specs.declared.step.Parameter.{Parameter}
use Rattle.compiled_files.proofs.CodeRuns.Adding.{Adds, from, still_same, by_pure, by_undefined, by_bind, by_tested, by_memory, by_changed, cells_longer, by_block_end, by_make}
use Rattle.compiled_files.proofs.CodeRuns.Library.{by_note_in, by_store}

-- ---- frames

-- what only looks at the frame, or changes it
pub by_own : {A : Type 0} (get : Frame → A) (set : Frame → Frame) (f : Frame) (w : World) → Adds A (λ rest g v. rest (get g) (set g) v) f w
by_own get set f w = record { outcome = comes (get f) (set f) w; is = λ rest. refl; still = still_same w }

pub by_slot_now : (x : ℕ) (f : Frame) (w : World) → Adds (Option Slot) (slot_now x) f w
by_slot_now x f w = by_own (λ g. slice_get g x) (λ g. g) f w

pub by_with_slot : (x : ℕ) (s : Slot) (f : Frame) (w : World) → Adds (Unit {0}) (with_slot x s) f w
by_with_slot x s f w = by_own (λ g. tt) (λ g. slice_set g x s) f w

pub by_put_any : (t : ℕ) (v : Option Value) (f : Frame) (w : World) → Adds (Unit {0}) (put_any t v) f w
by_put_any t v f w = by_own (λ g. tt) (λ g. with_temp t (by_name v) g) f w

pub by_put : (t : ℕ) (v : Value) (f : Frame) (w : World) → Adds (Unit {0}) (put t v) f w
by_put t v f w = by_put_any t (Some v) f w

pub by_held : (kind : UndefinedKind) (at : Place) (s : Option Slot) (f : Frame) (w : World) → Adds Value (held kind at s) f w
by_held kind at (Some (by_name (Some v))) f w = by_pure v f w
by_held kind at (Some (by_name None)) f w = by_undefined kind at f w
by_held kind at (Some (in_block (Some b))) f w = by_pure (pointer (P.Block b 0)) f w
by_held kind at (Some (in_block None)) f w = by_undefined kind at f w
by_held kind at None f w = by_undefined kind at f w

pub by_read : (a : Operand) (f : Frame) (w : World) → Adds Value (read a) f w
by_read (O.Word n) f w = by_pure (word n) f w
by_read O.Null f w = by_pure (pointer P.Null) f w
by_read (O.Function g) f w = by_pure (pointer (P.Function g)) f w
by_read (O.Object n) f w = by_pure (pointer (P.Block n 0)) f w
by_read (O.Temp kind t at) f w = by_bind (by_slot_now t f w) (by_held kind at)

pub by_read_any : (a : Option Operand) (f : Frame) (w : World) → Adds (Option Value) (read_any a) f w
by_read_any None f w = by_pure None f w
by_read_any (Some a) f w = by_bind (by_read a f w) (λ v. by_pure (Some v))

pub by_read_row : (at : Place) (first count : ℕ) (f : Frame) (w : World) → Adds (List Value) (read_row at first count) f w
by_read_row at t zero f w = by_pure [] f w
by_read_row at t (suc n) f w =
    by_bind (by_slot_now t f w) (λ s g v. by_bind (by_held K.Call at s g v) (λ x h u. by_bind (by_read_row at (t + 1) n h u) (λ xs. by_pure (x ∷ xs))))

-- ---- blocks of locals

pub by_inside : (at : Place) (offset : ℕ) (s : Option Slot) (f : Frame) (w : World) → Adds Value (inside at offset s) f w
by_inside at offset (Some (in_block (Some b))) f w = by_pure (pointer (P.Block b offset)) f w
by_inside at offset (Some (in_block None)) f w = by_undefined K.Dead at f w
by_inside at offset (Some (by_name v)) f w = by_undefined K.Dead at f w
by_inside at offset None f w = by_undefined K.Dead at f w

pub by_written : (offset : ℕ) (cells : List Cell) (s : Option Slot) (f : Frame) (w : World) → Adds (Unit {0}) (written offset cells s) f w
by_written offset cells (Some (in_block (Some b))) f w =
    from (still_same w) (by_changed (with_cells w.memory b offset cells) f w (cells_longer w.memory b offset cells)) (λ rest. refl)
by_written offset cells (Some (in_block None)) f w = by_pure tt f w
by_written offset cells (Some (by_name v)) f w = by_pure tt f w
by_written offset cells None f w = by_pure tt f w

pub by_end_slot : (x : ℕ) (s : Option Slot) (f : Frame) (w : World) → Adds (Unit {0}) (end_slot x s) f w
by_end_slot x (Some (in_block (Some b))) f w = by_bind (by_block_end b f w) (λ u. by_with_slot x (in_block None))
by_end_slot x (Some (in_block None)) f w = by_pure tt f w
by_end_slot x (Some (by_name v)) f w = by_pure tt f w
by_end_slot x None f w = by_pure tt f w

pub by_begin : (x : ℕ) (block : Bool) (size : ℕ) (f : Frame) (w : World) → Adds (Unit {0}) (begin x block size) f w
by_begin x true size f w =
    by_bind (by_bind (by_bind (by_slot_now x f w) (by_end_slot x)) (λ u. by_make size Kind.Local)) (λ b. by_with_slot x (in_block (Some b)))
by_begin x false size f w = by_with_slot x (by_name None) f w

pub by_emptied : (x size : ℕ) (s : Option Slot) (f : Frame) (w : World) → Adds (Unit {0}) (emptied x size s) f w
by_emptied x size (Some (in_block (Some b))) f w =
    from (still_same w) (by_changed (with_cells w.memory b 0 (replicate size Empty)) f w (cells_longer w.memory b 0 (replicate size Empty))) (λ rest. refl)
by_emptied x size (Some (in_block None)) f w = by_pure tt f w
by_emptied x size (Some (by_name v)) f w = by_with_slot x (by_name None) f w
by_emptied x size None f w = by_pure tt f w

by_end_of : (s : Slot) (f : Frame) (w : World) → Adds (Unit {0}) (end_of s) f w
by_end_of (in_block (Some b)) f w = by_block_end b f w
by_end_of (in_block None) f w = by_pure tt f w
by_end_of (by_name v) f w = by_pure tt f w

pub by_end_all : (all : Frame) (f : Frame) (w : World) → Adds (Unit {0}) (end_all all) f w
by_end_all [] f w = by_pure tt f w
by_end_all (s ∷ more) f w = by_bind (by_end_of s f w) (λ u. by_end_all more)

-- ---- functions

by_received : (at : Place) (x : ℕ) (r : Parameter) (v : Value) (s : Option Slot) (f : Frame) (w : World) → Adds (Unit {0}) (received at x r v s) f w
by_received at x r v (Some (in_block (Some b))) f w = by_store at (P.Block b 0) r.access v f w
by_received at x r v (Some (in_block None)) f w = by_with_slot x (by_name (Some v)) f w
by_received at x r v (Some (by_name o)) f w = by_with_slot x (by_name (Some v)) f w
by_received at x r v None f w = by_with_slot x (by_name (Some v)) f w

pub by_receive : (at : Place) (x : ℕ) (parameters : List Parameter) (values : List Value) (f : Frame) (w : World)
    → Adds (Unit {0}) (receive at x parameters values) f w
by_receive at x (r ∷ more) (v ∷ rest) f w =
    by_bind (by_bind (by_begin x r.block r.size f w) (λ u g z. by_bind (by_slot_now x g z) (by_received at x r v))) (λ u. by_receive at (x + 1) more rest)
by_receive at x [] values f w = by_pure tt f w
by_receive at x (r ∷ more) [] f w = by_pure tt f w

-- ---- places

pub by_part_of : (at : Place) (offset : ℤ) (s : Spot) (f : Frame) (w : World) → Adds Spot (part_of at offset s) f w
by_part_of at offset (placed q) f w = by_bind (by_memory f w) (λ m g v. by_bind (by_tested at (part_in m q offset) g v) (λ p. by_pure (placed p)))
by_part_of at offset (kept x) f w = by_undefined K.Dead at f w

by_element_if : (test : Bool) (at : Place) (offset : ℤ) (s : Spot) (f : Frame) (w : World)
    → Adds Spot (if test then part_of at offset s else is_undefined K.Subscript at) f w
by_element_if true at offset s f w = by_part_of at offset s f w
by_element_if false at offset s f w = by_undefined K.Subscript at f w

pub by_element_of : (at : Place) (n size : ℕ) (addressed : Bool) (s : Spot) (i : ℤ) (f : Frame) (w : World) → Adds Spot (element_of at n size addressed s i) f w
by_element_of at n size addressed s i f w = by_element_if (is_subscript n addressed i) at (i *ℤ pos size) s f w

pub by_field_through : (at : Place) (q : Ptr) (offset : ℤ) (f : Frame) (w : World) → Adds Spot (field_through at q offset) f w
by_field_through at q offset f w =
    by_bind (by_memory f w) (λ m g v. by_bind (by_tested at (field_in m q offset) g v)
    (λ r h u. by_bind (by_note_in m r (λ b at. reached b at) h u (λ b at. refl)) (λ a. by_pure (placed r))))
