-- What does not look at the frame: it comes to a result, or to the end of the run, whatever stands behind it. So both sides may do it, each in its own frame.
use Rattle.std.proofs.Common.{◌≡◌, ℕ, zero, suc, ◌+◌, ◌≤◌, ◌⊎◌, inl, inr, Bool, true, false, ◌&&◌, List, [], ◌∷◌, Option, Some, None, refl, sym, ap, ◌∙◌, subst, arith, length, if◌then◌else◌, Ok, Err, nat_lt}
use Rattle.std.specs.Prelude.{ℤ}
use Rattle.lay_base.specs.declared.faults.UndefinedKind.{UndefinedKind}
use Rattle.lay_base.specs.declared.faults.RoomKind.TheVariants.{Live, Depth}
use Rattle.lay_base.specs.declared.place.Place.{Place}
use Rattle.memory_words.specs.declared.cell_words.pointer.Ptr.{Ptr}
use Rattle.memory_words.specs.declared.cell_words.pointer.Ptr.TheVariants as P
use Rattle.block_memory.specs.Blocks.{Memory, kind}
use Rattle.block_memory.specs.declared.kinds.Access.{Access}
use Rattle.block_memory.specs.declared.kinds.BlockKind.{BlockKind}
use Rattle.block_memory.specs.Lifetimes.{is_heap, with_block, with_end}
use Rattle.block_memory.specs.Tested.{Tested}
use Rattle.block_memory.specs.RunWorlds.Doing.{Rest, Doing, ◌>>=◌, pure, tested, is_undefined, memory_now, with_memory, note, turn, turn_of, make, end, deeper, enter}
use Rattle.block_memory.specs.RunWorlds.Events.{Event, entered}
use Rattle.block_memory.specs.RunWorlds.Scalars.{load, store, note_if, note_in, load_in, store_in, width_of}
use Rattle.block_memory.specs.RunWorlds.Events as Ev
use Rattle.block_memory.specs.declared.run_worlds.value.Value.{Value}
use Rattle.block_memory.specs.RunWorlds.Worlds.{World, End, ends, goes_on, undefined, out_of_room, greatest_depth, greatest_live, live_bytes}
use Rattle.c_meaning.specs.Expressions.{field_in, field_through}
use Rattle.c_meaning.specs.Frames.{Frame, end_of, end_all}
use Rattle.c_meaning.specs.declared.frame.Slot.{Slot}
use Rattle.c_meaning.specs.declared.frame.Slot.TheVariants.{ByName as by_name, InBlock as in_block}
use Rattle.block_memory.specs.RunWorlds.Library as Library
use Rattle.block_memory.specs.Blocks.{with_cells}
use Rattle.block_memory.specs.Ranges as Ranges
use Rattle.block_memory.specs.declared.kinds.BlockKind.TheVariants as Kind
use Rattle.memory_words.specs.declared.cell_words.cell.Cell.TheVariants.{Byte}
use Rattle.block_memory.specs.declared.run_worlds.value.Value.TheVariants.{Word as word, Pointer as pointer}
use Rattle.std.specs.Prelude.{replicate, ◌%◌, ◌^◌, ◌-◌}
use Rattle.c_meaning.specs.declared.frame.Spot.{Spot}
use Rattle.c_meaning.specs.declared.frame.Spot.TheVariants.{Placed as placed}
use Rattle.tac_ir.specs.Covering.{Covers}

abbrev pub after : {A : Type 0} → ((A × World) ⊎ End) → Rest Frame A → Frame → End
after (inl x) rest f = rest x.0 f x.1
after (inr e) rest f = e

abbrev pub IsWithin : {A : Type 0} → ((A × World) ⊎ End) → (turns : ℕ) → Type 0
IsWithin (inl x) t = x.1.turns ≤ t
IsWithin (inr e) t = Unit {0}

pub record Blind (A : Type 0) (m : Doing Frame A) (w : World) : Type 0 where
  pub outcome : (A × World) ⊎ End
  pub is : (rest : Rest Frame A) (f : Frame) → m rest f w ≡ after outcome rest f
  pub within : IsWithin outcome w.turns

-- ---- the parts of which the steps are made

pub gives : {A : Type 0} (x : A) (w : World) → Blind A (pure x) w
gives x w = record { outcome = inl (x, w); is = λ rest f. refl; within = omega arith }

pub fails : {A : Type 0} (k : UndefinedKind) (at : Place) (w : World) → Blind A (is_undefined k at) w
fails k at w = record { outcome = inr (undefined k at w); is = λ rest f. refl; within = tt }

pub tests : {A : Type 0} (at : Place) (r : Tested A) (w : World) → Blind A (tested at r) w
tests at (Ok x) w = record { outcome = inl (x, w); is = λ rest f. refl; within = omega arith }
tests at (Err k) w = record { outcome = inr (undefined k at w); is = λ rest f. refl; within = tt }

pub sees : (w : World) → Blind Memory memory_now w
sees w = record { outcome = inl (w.memory, w); is = λ rest f. refl; within = omega arith }

pub writes : (m : Memory) (w : World) → Blind (Unit {0}) (with_memory m) w
writes m w = record { outcome = inl (tt, record w { memory = m }); is = λ rest f. refl; within = omega arith }

pub notes : (event : Event) (w : World) → Blind (Unit {0}) (note event) w
notes event w = record { outcome = inl (tt, record w { trace = event ∷ w.trace }); is = λ rest f. refl; within = omega arith }

turns_by : (n : ℕ) (w : World) → w.turns ≡ n → Blind (Unit {0}) (turn_of n) w
turns_by zero w e = record { outcome = inr (goes_on w); is = λ rest f. refl; within = tt }
turns_by (suc n) w e = record { outcome = inl (tt, record w { turns = n }); is = λ rest f. refl; within = omega (arith, e) }

pub takes_turn : (w : World) → Blind (Unit {0}) turn w
takes_turn w = let t = turns_by w.turns w refl in record { outcome = t.outcome; is = t.is; within = t.within }

deepens_by : (b : Bool) (w : World) → Blind (Unit {0}) (λ rest f w. if b then out_of_room Depth (w.depth + 1) w else rest tt f (record w { depth = w.depth + 1 })) w
deepens_by true w = record { outcome = inr (out_of_room Depth (w.depth + 1) w); is = λ rest f. refl; within = tt }
deepens_by false w = record { outcome = inl (tt, record w { depth = w.depth + 1 }); is = λ rest f. refl; within = omega arith }

pub deepens : (w : World) → Blind (Unit {0}) deeper w
deepens w = let t = deepens_by (w.is_limited && nat_lt greatest_depth (w.depth + 1)) w in record { outcome = t.outcome; is = t.is; within = t.within }

makes_by : (b : Bool) (size : ℕ) (which : BlockKind) (w : World)
    → Blind ℕ (λ rest f w. if b then out_of_room Live (live_bytes w.memory + size) w else rest (length w.memory) f (record w { memory = with_block w.memory size which })) w
makes_by true size which w = record { outcome = inr (out_of_room Live (live_bytes w.memory + size) w); is = λ rest f. refl; within = tt }
makes_by false size which w = record { outcome = inl (length w.memory, record w { memory = with_block w.memory size which }); is = λ rest f. refl; within = omega arith }

pub makes : (size : ℕ) (which : BlockKind) (w : World) → Blind ℕ (make size which) w
makes size which w = let t = makes_by (w.is_limited && nat_lt greatest_live (live_bytes w.memory + size)) size which w in
    record { outcome = t.outcome; is = t.is; within = t.within }

-- ---- one behind the other

pub then_blind : {A B : Type 0} {m : Doing Frame A} {next : A → Doing Frame B} {w : World} → Blind A m w → ((x : A) (u : World) → Blind B (next x) u) → Blind B (m >>= next) w
then_blind {A} {B} {m} {next} {w} one other = by one.outcome one.is one.within
  where
    by : (o : (A × World) ⊎ End) → ((rest : Rest Frame A) (f : Frame) → m rest f w ≡ after o rest f) → IsWithin o w.turns → Blind B (m >>= next) w
    by (inr e) is within = record { outcome = inr e; is = λ rest f. is (λ x. next x rest) f; within = tt }
    by (inl x) is within = let z = other x.0 x.1 in record {
      outcome = z.outcome;
      is = λ rest f. is (λ x. next x rest) f ∙ z.is rest f;
      within = still z.outcome z.within;
    }
      where
        still : (o : (B × World) ⊎ End) → IsWithin o x.1.turns → IsWithin o w.turns
        still (inl y) h = let g : x.1.turns ≤ w.turns = within in omega arith
        still (inr e) h = tt

-- ---- what steps do

notes_if : (b : Bool) (event : Event) (w : World) → Blind (Unit {0}) (note_if b event) w
notes_if true event w = notes event w
notes_if false event w = gives tt w

notes_in : (m : Memory) (q : Ptr) (event : (block at : ℕ) → Event) (w : World) → Blind (Unit {0}) (note_in m q event) w
notes_in m (P.Block b at) event w = notes_if (is_heap (kind m b)) (event b at) w
notes_in m P.Null event w = gives tt w
notes_in m (P.Function f) event w = gives tt w

pub loads : (at : Place) (q : Ptr) (access : Access) (w : World) → Blind Value (load at q access) w
loads at q access w =
    let tell : (m : Memory) → Value → Doing Frame Value = (λ (m : Memory) v. note_in m q (λ b at. Ev.loaded b at (width_of access)) >>= λ a. pure v) in
    then_blind {next = λ m. tested at (load_in m q access) >>= tell m} (sees w) (λ m w. then_blind {next = tell m} (tests at (load_in m q access) w)
    (λ v w. then_blind {next = λ a. pure v} (notes_in m q (λ b at. Ev.loaded b at (width_of access)) w) (λ u w. gives v w)))

pub stores : (at : Place) (q : Ptr) (access : Access) (v : Value) (w : World) → Blind (Unit {0}) (store at q access v) w
stores at q access v w =
    let tell : Memory → Doing Frame (Unit {0}) = (λ (m : Memory). note_in m q (λ b at. Ev.stored b at (width_of access))) in
    then_blind {next = λ m. tested at (store_in m q access v) >>= λ n. with_memory n >>= λ a. tell m} (sees w)
    (λ m w. then_blind {next = λ n. with_memory n >>= λ a. tell m} (tests at (store_in m q access v) w)
    (λ n w. then_blind {next = λ a. tell m} (writes n w) (λ u w. notes_in m q (λ b at. Ev.stored b at (width_of access)) w)))

pub enters : (g : ℕ) (w : World) → Blind (Unit {0}) (enter g) w
enters g w = then_blind (then_blind (takes_turn w) (λ u w. deepens w)) (λ u w. notes (entered g) w)

pub leads_through : (at : Place) (q : Ptr) (by : ℤ) (w : World) → Blind Spot (field_through at q by) w
leads_through at q by w =
    let tell : (m : Memory) → Ptr → Doing Frame Spot = (λ (m : Memory) r. note_in m r (λ b at. Ev.reached b at) >>= λ a. pure (placed r)) in
    then_blind {next = λ m. tested at (field_in m q by) >>= tell m} (sees w) (λ m w. then_blind {next = tell m} (tests at (field_in m q by) w)
    (λ r w. then_blind {next = λ a. pure (placed r)} (notes_in m r (λ b at. Ev.reached b at) w) (λ u w. gives (placed r) w)))

pub allocates : (elements : Option (ℕ × ℕ)) (n : ℕ) (all : Bool) (w : World) → Blind Value (Library.allocate elements n all) w
allocates elements n all w =
    then_blind {next = λ b. Library.zeroed all b n >>= λ a. note (Ev.allocated b elements n) >>= λ c. pure (pointer (P.Block b 0))} (makes n Kind.Heap w)
    (λ b w. then_blind {next = λ a. note (Ev.allocated b elements n) >>= λ c. pure (pointer (P.Block b 0))} (clears all b w)
    (λ u w. then_blind {next = λ c. pure (pointer (P.Block b 0))} (notes (Ev.allocated b elements n) w) (λ u w. gives (pointer (P.Block b 0)) w)))
  where
    clears : (all : Bool) (b : ℕ) (w : World) → Blind (Unit {0}) (Library.zeroed all b n) w
    clears false b w = gives tt w
    clears true b w = then_blind {next = λ m. with_memory (with_cells m b 0 (replicate n (Byte 0)))} (sees w) (λ m w. writes (with_cells m b 0 (replicate n (Byte 0))) w)

-- what changes memory, or not, and has a result
pub becomes : {A : Type 0} (at : Place) (of : Memory → Tested Memory) (x : A) (w : World) → Blind A (memory_now >>= λ m. tested at (of m) >>= λ n. with_memory n >>= λ a. pure x) w
becomes at of x w =
    then_blind {next = λ m. tested at (of m) >>= λ n. with_memory n >>= λ a. pure x} (sees w) (λ m w. then_blind {next = λ n. with_memory n >>= λ a. pure x} (tests at (of m) w)
    (λ n w. then_blind {next = λ a. pure x} (writes n w) (λ u w. gives x w)))

pub copies : (at : Place) (to from : Ptr) (n : ℕ) (overlap : Bool) (w : World) → Blind Value (Library.copy at to from n overlap) w
copies at to from n overlap w = becomes at (λ m. Ranges.copy m to from n overlap) (pointer to) w

pub fills : (at : Place) (to : Ptr) (byte n : ℕ) (w : World) → Blind Value (Library.fill at to byte n) w
fills at to byte n w = becomes at (λ m. Ranges.fill m to (byte % 2 ^ 8) n) (pointer to) w

pub puts : (v : ℕ) (w : World) → Blind Value (Library.putchar v) w
puts v w = then_blind {next = λ a. pure (word (v % 2 ^ 8))} (notes (Ev.put (v % 2 ^ 8)) w) (λ u w. gives (word (v % 2 ^ 8)) w)

pub reads : (w : World) → Blind Value Library.getchar w
reads w = let t = by w.input in record { outcome = t.outcome; is = t.is; within = t.within }
  where
    by : (input : List ℕ) → Blind Value (Library.next_of input) w
    by [] = record { outcome = inl (word (2 ^ 32 - 1), record w { trace = Ev.got None ∷ w.trace }); is = λ rest f. refl; within = omega arith }
    by (byte ∷ more) = record { outcome = inl (word byte, record w { input = more; trace = Ev.got (Some byte) ∷ w.trace }); is = λ rest f. refl; within = omega arith }

pub exits : {A : Type 0} (v : ℕ) (w : World) → Blind A (Library.exit v) w
exits v w = record { outcome = inr (ends (v % 2 ^ 8) w); is = λ rest f. refl; within = tt }

ends_block : (z : ℕ) (w : World) → Blind (Unit {0}) (end z) w
ends_block z w = record { outcome = inl (tt, record w { memory = with_end w.memory z }); is = λ rest f. refl; within = omega arith }

ends_slot : (s : Slot) (w : World) → Blind (Unit {0}) (end_of s) w
ends_slot (by_name v) w = gives tt w
ends_slot (in_block None) w = gives tt w
ends_slot (in_block (Some z)) w = ends_block z w

pub ends_frame : (f : Frame) (w : World) → Blind (Unit {0}) (end_all f) w
ends_frame [] w = gives tt w
ends_frame (s ∷ f) w = then_blind {next = λ u. end_all f} (ends_slot s w) (λ u w. ends_frame f w)

-- ---- both sides do it

pub stays : {e : End} → Covers e (λ m. e)
stays = record { steps = 0; is = λ m. refl }

pub back : {e : End} {run later : ℕ → End} → ((m : ℕ) → run (suc m) ≡ later m) → Covers e later → Covers e run
back {run = run} same c = record {
  steps = suc c.steps;
  is = λ m. ap run (let h : suc c.steps + m ≡ suc (c.steps + m) = omega arith in h) ∙ same (c.steps + m) ∙ c.is m;
}

pub same_run : {e : End} {run later : ℕ → End} → ((m : ℕ) → run m ≡ later m) → Covers e later → Covers e run
same_run same c = record { steps = c.steps; is = λ m. same (c.steps + m) ∙ c.is m }

pub blind_covers : {A : Type 0} {m : Doing Frame A} {w : World} (one : Blind A m w) (rest : Rest Frame A) (f own : Frame) (other : ℕ → Rest Frame A)
    → ((x : A) (u : World) → u.turns ≤ w.turns → Covers (rest x f u) (λ k. other k x own u)) → Covers (m rest f w) (λ k. m (other k) own w)
blind_covers {A} {m} {w} one rest f own other next =
    subst (λ e. Covers e (λ k. m (other k) own w)) (sym (one.is rest f)) (same_run (λ k. one.is (other k) own) (by one.outcome one.within))
  where
    by : (o : (A × World) ⊎ End) → IsWithin o w.turns → Covers (after o rest f) (λ k. after o (other k) own)
    by (inl x) h = next x.0 x.1 h
    by (inr e) h = stays

-- ---- the other way: what is covered is still covered one step later, and an end is the end

pub ahead : {e : End} {run later : ℕ → End} → ((m : ℕ) → run (suc m) ≡ later m) → Covers e run → Covers e later
ahead {run = run} same c = record {
  steps = c.steps;
  is = λ m. sym (same (c.steps + m)) ∙ ap run (let h : suc (c.steps + m) ≡ c.steps + suc m = omega arith in h) ∙ c.is (suc m);
}

pub over : {e end : End} {run : ℕ → End} → ((m : ℕ) → run (suc m) ≡ end) → Covers e run → e ≡ end
over {run = run} same c = sym (c.is 1) ∙ ap run (let h : c.steps + 1 ≡ suc c.steps = omega arith in h) ∙ same c.steps
