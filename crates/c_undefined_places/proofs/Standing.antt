-- Where an end of a run is undefined, its place is so, if that holds of what the rest of the run comes to: of each operation on a world.
use Rattle.std.proofs.Common.{ℕ, zero, suc, ◌+◌, ◌-◌, ◌%◌, ◌^◌, Bool, true, false, List, [], ◌∷◌, Option, None, Ok, Err, if◌then◌else◌, nat_lt}
use Rattle.std.specs.Prelude.{◌&&◌}
use Rattle.lay_base.specs.declared.faults.UndefinedKind.{UndefinedKind}
use Rattle.lay_base.specs.declared.place.Place.{Place}
use Rattle.block_memory.specs.declared.kinds.Access.{Access}
use Rattle.block_memory.specs.declared.kinds.BlockKind.{BlockKind}
use Rattle.block_memory.specs.declared.kinds.BlockKind.TheVariants.{Heap}
use Rattle.memory_words.specs.declared.cell_words.pointer.Ptr.{Ptr}
use Rattle.memory_words.specs.declared.cell_words.pointer.Ptr.TheVariants as P
use Rattle.block_memory.specs.Blocks.{Memory, kind}
use Rattle.block_memory.specs.Lifetimes.{is_heap, with_end}
use Rattle.block_memory.specs.Lifetimes as Lifetimes
use Rattle.block_memory.specs.Ranges as Ranges
use Rattle.block_memory.specs.Tested.{Tested}
use Rattle.block_memory.specs.RunWorlds.Doing.{Rest, Doing, ◌>>=◌, pure, is_undefined, tested, memory_now, with_memory, note, turn_of, turn, make, end}
use Rattle.block_memory.specs.RunWorlds.Doing.{deeper, leave}
use Rattle.block_memory.specs.RunWorlds.Doing.{apart}
use Rattle.block_memory.specs.RunWorlds.Events.{Event, put, got, allocated, freed, loaded, stored}
use Rattle.block_memory.specs.RunWorlds.Library.{zeroed, allocate, note_freed, free, copy, fill, compare, putchar, next_of, getchar, exit}
use Rattle.block_memory.specs.RunWorlds.Scalars.{width_of, load_in, store_in, note_if, note_in, load, store}
use Rattle.block_memory.specs.declared.run_worlds.value.Value.{Value}
use Rattle.block_memory.specs.declared.run_worlds.value.Value.TheVariants.{Word as word, Pointer as pointer}
use Rattle.block_memory.specs.RunWorlds.Worlds.{World, End, ends, goes_on, undefined, out_of_room, greatest_live, greatest_depth, live_bytes}

module _ (Is : Place → Type 0) where
  -- where the end is undefined, its place is so
  abbrev pub EndsAt : End → Type 0
  EndsAt (undefined kind place w) = Is place
  EndsAt (ends status w) = Unit {0}
  EndsAt (goes_on w) = Unit {0}
  EndsAt (out_of_room kind counted w) = Unit {0}

  -- a part of a run keeps that of its rest
  pub record Stands {F A : Type 0} (m : Doing F A) : Type 0 where
    pub stands : (rest : Rest F A) (f : F) (w : World) → ((x : A) (g : F) (v : World) → EndsAt (rest x g v)) → EndsAt (m rest f w)

  pub by_pure : {F A : Type 0} (x : A) → Stands {F = F} {A = A} (pure x)
  by_pure x = record { stands = λ rest f w h. h x f w }

  pub bind : {F A B : Type 0} {m : Doing F A} {next : A → Doing F B} → Stands m → ((x : A) → Stands (next x)) → Stands (m >>= next)
  bind {F} {A} {B} {m} {next} one other =
      record { stands = λ rest f w h. one.stands (λ x. next x rest) f w (λ x g v. (other x).stands rest g v h) }

  pub by_choice : {F A : Type 0} (test : Bool) {m n : Doing F A} → Stands m → Stands n → Stands (if test then m else n)
  by_choice true one other = one
  by_choice false one other = other

  either_ends : (test : Bool) (x y : End) → EndsAt x → EndsAt y → EndsAt (if test then x else y)
  either_ends true x y h k = h
  either_ends false x y h k = k

  -- ---- ends

  pub by_undefined : {F A : Type 0} (kind : UndefinedKind) (place : Place) → Is place → Stands {F = F} {A = A} (is_undefined kind place)
  by_undefined kind place p = record { stands = λ rest f w h. p }

  pub by_tested : {F A : Type 0} (place : Place) (t : Tested A) → Is place → Stands {F = F} {A = A} (tested place t)
  by_tested place (Ok x) p = by_pure x
  by_tested place (Err kind) p = by_undefined kind place p

  pub by_stop : {F A : Type 0} → Stands {F = F} {A = A} (λ rest f w. goes_on w)
  by_stop = record { stands = λ rest f w h. tt }

  pub by_exit : {F A : Type 0} (v : ℕ) → Stands {F = F} {A = A} (exit v)
  by_exit v = record { stands = λ rest f w h. tt }

  -- ---- the world

  pub by_memory : {F : Type 0} → Stands {F = F} {A = Memory} memory_now
  by_memory = record { stands = λ rest f w h. h w.memory f w }

  pub by_with_memory : {F : Type 0} (m : Memory) → Stands {F = F} {A = Unit {0}} (with_memory m)
  by_with_memory m = record { stands = λ rest f w h. h tt f (record w { memory = m }) }

  pub by_note : {F : Type 0} (event : Event) → Stands {F = F} {A = Unit {0}} (note event)
  by_note event = record { stands = λ rest f w h. h tt f (record w { trace = event ∷ w.trace }) }

  by_turn_of : {F : Type 0} (n : ℕ) → Stands {F = F} {A = Unit {0}} (turn_of n)
  by_turn_of zero = by_stop
  by_turn_of (suc n) = record { stands = λ rest f w h. h tt f (record w { turns = n }) }

  pub by_turn : {F : Type 0} → Stands {F = F} {A = Unit {0}} turn
  by_turn = record { stands = λ rest f w h. (by_turn_of w.turns).stands rest f w h }

  pub by_make : {F : Type 0} (size : ℕ) (kind : BlockKind) → Stands {F = F} {A = ℕ} (make size kind)
  by_make size kind =
      record { stands = λ rest f w h. either_ends (w.is_limited && nat_lt greatest_live (live_bytes w.memory + size)) _ _ tt (h _ f _) }

  pub by_end : {F : Type 0} (block : ℕ) → Stands {F = F} {A = Unit {0}} (end block)
  by_end block = record { stands = λ rest f w h. h tt f (record w { memory = with_end w.memory block }) }

  pub by_deeper : {F : Type 0} → Stands {F = F} {A = Unit {0}} deeper
  by_deeper = record { stands = λ rest f w h. either_ends (w.is_limited && nat_lt greatest_depth (w.depth + 1)) _ _ tt (h tt f _) }

  pub by_leave : {F : Type 0} → Stands {F = F} {A = Unit {0}} leave
  by_leave = record { stands = λ rest f w h. h tt f _ }

  pub by_own : {F A : Type 0} (get : F → A) (set : F → F) → Stands {F = F} {A = A} (λ rest f w. rest (get f) (set f) w)
  by_own get set = record { stands = λ rest f w h. h (get f) (set f) w }

  pub by_apart : {F A : Type 0} (own : F) {m : Doing F A} → Stands m → Stands (apart own m)
  by_apart own one = record { stands = λ rest f w h. one.stands (λ x g after. rest x f after) own w (λ x g v. h x f v) }

  -- ---- accesses

  by_note_if : {F : Type 0} (test : Bool) (event : Event) → Stands {F = F} {A = Unit {0}} (note_if test event)
  by_note_if true event = by_note event
  by_note_if false event = by_pure tt

  pub by_note_in : {F : Type 0} (m : Memory) (p : Ptr) (event : (block at : ℕ) → Event) → Stands {F = F} {A = Unit {0}} (note_in m p event)
  by_note_in m (P.Block b at) event = by_note_if (is_heap (kind m b)) (event b at)
  by_note_in m P.Null event = by_pure tt
  by_note_in m (P.Function f) event = by_pure tt

  pub by_load : {F : Type 0} (place : Place) (p : Ptr) (access : Access) → Is place → Stands {F = F} {A = Value} (load place p access)
  by_load place p access i =
      bind by_memory (λ m. bind (by_tested place (load_in m p access) i) (λ v. bind (by_note_in m p (λ b at. loaded b at (width_of access))) (λ a. by_pure v)))

  pub by_store : {F : Type 0} (place : Place) (p : Ptr) (access : Access) (v : Value) → Is place → Stands {F = F} {A = Unit {0}} (store place p access v)
  by_store place p access v i =
      bind by_memory (λ m. bind (by_tested place (store_in m p access v) i)
      (λ n. bind (by_with_memory n) (λ a. by_note_in m p (λ b at. stored b at (width_of access)))))

  -- ---- the library

  by_zeroed : {F : Type 0} (zero : Bool) (block size : ℕ) → Stands {F = F} {A = Unit {0}} (zeroed zero block size)
  by_zeroed false block size = by_pure tt
  by_zeroed true block size = bind by_memory (λ m. by_with_memory _)

  pub by_allocate : {F : Type 0} (elements : Option (ℕ × ℕ)) (size : ℕ) (cleared : Bool) → Stands {F = F} {A = Value} (allocate elements size cleared)
  by_allocate elements size cleared =
      bind (by_make size Heap) (λ b. bind (by_zeroed cleared b size) (λ a. bind (by_note (allocated b elements size)) (λ c. by_pure (pointer (P.Block b 0)))))

  by_note_freed : {F : Type 0} (p : Ptr) → Stands {F = F} {A = Unit {0}} (note_freed p)
  by_note_freed (P.Block b at) = by_note (freed b)
  by_note_freed P.Null = by_pure tt
  by_note_freed (P.Function f) = by_pure tt

  pub by_free : {F : Type 0} (place : Place) (p : Ptr) → Is place → Stands {F = F} {A = Unit {0}} (free place p)
  by_free place p i = bind by_memory (λ m. bind (by_tested place (Lifetimes.free m p) i) (λ n. bind (by_with_memory n) (λ a. by_note_freed p)))

  pub by_copy : {F : Type 0} (place : Place) (to from : Ptr) (count : ℕ) (overlap : Bool) → Is place → Stands {F = F} {A = Value} (copy place to from count overlap)
  by_copy place to from count overlap i =
      bind by_memory (λ m. bind (by_tested place (Ranges.copy m to from count overlap) i) (λ n. bind (by_with_memory n) (λ a. by_pure (pointer to))))

  pub by_fill : {F : Type 0} (place : Place) (to : Ptr) (byte count : ℕ) → Is place → Stands {F = F} {A = Value} (fill place to byte count)
  by_fill place to byte count i =
      bind by_memory (λ m. bind (by_tested place (Ranges.fill m to (byte % 2 ^ 8) count) i) (λ n. bind (by_with_memory n) (λ a. by_pure (pointer to))))

  pub by_compare : {F : Type 0} (place : Place) (p q : Ptr) (count : ℕ) → Is place → Stands {F = F} {A = Value} (compare place p q count)
  by_compare place p q count i = bind by_memory (λ m. bind (by_tested place (Ranges.compare m p q count) i) (λ z. by_pure _))

  pub by_putchar : {F : Type 0} (v : ℕ) → Stands {F = F} {A = Value} (putchar v)
  by_putchar v = bind (by_note (put (v % 2 ^ 8))) (λ a. by_pure (word (v % 2 ^ 8)))

  by_next : {F : Type 0} (input : List ℕ) → Stands {F = F} {A = Value} (next_of input)
  by_next [] = bind (by_note (got None)) (λ a. by_pure (word (2 ^ 32 - 1)))
  by_next (byte ∷ more) = record { stands = λ rest f w h. h (word byte) f _ }

  pub by_getchar : {F : Type 0} → Stands {F = F} {A = Value} getchar
  by_getchar = record { stands = λ rest f w h. (by_next w.input).stands rest f w h }
