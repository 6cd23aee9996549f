-- Each operation on a world is related to itself, by a relation that its parts keep.
use Rattle.std.proofs.Common.{ℕ, ◌%◌, ◌^◌, Bool, true, false, Option, Ok, Err}
use Rattle.lay_base.specs.declared.faults.UndefinedKind.{UndefinedKind}
use Rattle.lay_base.specs.declared.place.Place.{Place}
use Rattle.block_memory.specs.declared.kinds.Access.{Access}
use Rattle.block_memory.specs.declared.kinds.BlockKind.{BlockKind}
use Rattle.block_memory.specs.declared.kinds.BlockKind.TheVariants.{Heap}
use Rattle.memory_words.specs.declared.cell_words.pointer.Ptr.{Ptr}
use Rattle.memory_words.specs.declared.cell_words.pointer.Ptr.TheVariants as P
use Rattle.block_memory.specs.Blocks.{Memory, kind}
use Rattle.block_memory.specs.Lifetimes.{is_heap, with_end}
use Rattle.block_memory.specs.Lifetimes as Lifetimes
use Rattle.block_memory.specs.Ranges as Ranges
use Rattle.block_memory.specs.Tested.{Tested}
use Rattle.block_memory.specs.RunWorlds.Doing.{Doing, ◌>>=◌, pure, is_undefined, tested, memory_now, with_memory, note, make, end}
use Rattle.block_memory.specs.RunWorlds.Events.{Event, put, allocated, freed, loaded, stored}
use Rattle.block_memory.specs.RunWorlds.Library.{zeroed, allocate, note_freed, free, copy, fill, compare, putchar, getchar, exit}
use Rattle.block_memory.specs.RunWorlds.Scalars.{width_of, load_in, store_in, note_if, note_in, load, store}
use Rattle.block_memory.specs.declared.run_worlds.value.Value.{Value}
use Rattle.block_memory.specs.declared.run_worlds.value.Value.TheVariants.{Word as word, Pointer as pointer}
use Rattle.c_meaning.proofs.Closed.{Relation}

module _ (r : Relation) where
  -- itself
  abbrev pub Itself : (F A : Type 0) → Doing F A → Type 0
  Itself F A m = (b : ℕ) → r.Related b F A m m

  pub by_pure : {F A : Type 0} (x : A) → Itself F A (pure x)
  by_pure x b = r.on_pure b _ _ x

  pub bind : {b : ℕ} {F A B : Type 0} {m m' : Doing F A} {next next' : A → Doing F B} → r.Related b F A m m' → ((x : A) → r.Related b F B (next x) (next' x))
      → r.Related b F B (m >>= next) (m' >>= next')
  bind one other = r.on_bind _ _ _ _ _ _ _ _ one other

  -- the same, of what is related to itself
  pub by_bind : {F A B : Type 0} {m : Doing F A} {next : A → Doing F B} → Itself F A m → ((x : A) → Itself F B (next x)) → Itself F B (m >>= next)
  by_bind one other b = bind (one b) (λ x. other x b)

  pub by_undefined : {F A : Type 0} (kind : UndefinedKind) (place : Place) → Itself F A (is_undefined kind place)
  by_undefined kind place b = r.on_undefined b _ _ kind place

  pub by_tested : {F A : Type 0} (place : Place) (t : Tested A) → Itself F A (tested place t)
  by_tested place (Ok x) = by_pure x
  by_tested place (Err kind) = by_undefined kind place

  pub by_memory : {F : Type 0} → Itself F Memory memory_now
  by_memory b = r.on_memory b _

  pub by_with_memory : {F : Type 0} (m : Memory) → Itself F (Unit {0}) (with_memory m)
  by_with_memory m b = r.on_with_memory b _ m

  pub by_note : {F : Type 0} (event : Event) → Itself F (Unit {0}) (note event)
  by_note event b = r.on_note b _ event

  pub by_make : {F : Type 0} (size : ℕ) (kind : BlockKind) → Itself F ℕ (make size kind)
  by_make size kind b = r.on_make b _ size kind

  pub by_end : {F : Type 0} (block : ℕ) → Itself F (Unit {0}) (end block)
  by_end block = by_bind by_memory (λ m. by_with_memory (with_end m block))

  pub by_own : {F A : Type 0} (get : F → A) (set : F → F) → Itself F A (λ rest f w. rest (get f) (set f) w)
  by_own get set b = r.on_own b _ _ get set

  -- ---- accesses

  by_note_if : {F : Type 0} (test : Bool) (event : Event) → Itself F (Unit {0}) (note_if test event)
  by_note_if true event = by_note event
  by_note_if false event = by_pure tt

  pub by_note_in : {F : Type 0} (m : Memory) (p : Ptr) (event : (block at : ℕ) → Event) → Itself F (Unit {0}) (note_in m p event)
  by_note_in m (P.Block b at) event = by_note_if (is_heap (kind m b)) (event b at)
  by_note_in m P.Null event = by_pure tt
  by_note_in m (P.Function f) event = by_pure tt

  pub by_load : {F : Type 0} (place : Place) (p : Ptr) (access : Access) → Itself F Value (load place p access)
  by_load place p access =
      by_bind by_memory (λ m. by_bind (by_tested place (load_in m p access)) (λ v. by_bind (by_note_in m p (λ b at. loaded b at (width_of access))) (λ a. by_pure v)))

  pub by_store : {F : Type 0} (place : Place) (p : Ptr) (access : Access) (v : Value) → Itself F (Unit {0}) (store place p access v)
  by_store place p access v =
      by_bind by_memory (λ m. by_bind (by_tested place (store_in m p access v)) (λ n. by_bind (by_with_memory n) (λ a. by_note_in m p (λ b at. stored b at (width_of access)))))

  -- ---- the library

  by_zeroed : {F : Type 0} (zero : Bool) (block size : ℕ) → Itself F (Unit {0}) (zeroed zero block size)
  by_zeroed false block size = by_pure tt
  by_zeroed true block size = by_bind by_memory (λ m. by_with_memory _)

  pub by_allocate : {F : Type 0} (elements : Option (ℕ × ℕ)) (size : ℕ) (cleared : Bool) → Itself F Value (allocate elements size cleared)
  by_allocate elements size cleared =
      by_bind (by_make size Heap) (λ b. by_bind (by_zeroed cleared b size) (λ a. by_bind (by_note (allocated b elements size)) (λ c. by_pure (pointer (P.Block b 0)))))

  by_note_freed : {F : Type 0} (p : Ptr) → Itself F (Unit {0}) (note_freed p)
  by_note_freed (P.Block b at) = by_note (freed b)
  by_note_freed P.Null = by_pure tt
  by_note_freed (P.Function f) = by_pure tt

  pub by_free : {F : Type 0} (place : Place) (p : Ptr) → Itself F (Unit {0}) (free place p)
  by_free place p = by_bind by_memory (λ m. by_bind (by_tested place (Lifetimes.free m p)) (λ n. by_bind (by_with_memory n) (λ a. by_note_freed p)))

  pub by_copy : {F : Type 0} (place : Place) (to from : Ptr) (count : ℕ) (overlap : Bool) → Itself F Value (copy place to from count overlap)
  by_copy place to from count overlap =
      by_bind by_memory (λ m. by_bind (by_tested place (Ranges.copy m to from count overlap)) (λ n. by_bind (by_with_memory n) (λ a. by_pure (pointer to))))

  pub by_fill : {F : Type 0} (place : Place) (to : Ptr) (byte count : ℕ) → Itself F Value (fill place to byte count)
  by_fill place to byte count =
      by_bind by_memory (λ m. by_bind (by_tested place (Ranges.fill m to (byte % 2 ^ 8) count)) (λ n. by_bind (by_with_memory n) (λ a. by_pure (pointer to))))

  pub by_compare : {F : Type 0} (place : Place) (p q : Ptr) (count : ℕ) → Itself F Value (compare place p q count)
  by_compare place p q count = by_bind by_memory (λ m. by_bind (by_tested place (Ranges.compare m p q count)) (λ z. by_pure _))

  pub by_putchar : {F : Type 0} (v : ℕ) → Itself F Value (putchar v)
  by_putchar v = by_bind (by_note (put (v % 2 ^ 8))) (λ a. by_pure (word (v % 2 ^ 8)))

  pub by_getchar : {F : Type 0} → Itself F Value getchar
  by_getchar b = r.on_getchar b _

  pub by_exit : {F A : Type 0} (v : ℕ) → Itself F A (exit v)
  by_exit v b = r.on_end b _ _ (v % 2 ^ 8)
