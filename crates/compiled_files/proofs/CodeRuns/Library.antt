-- What accesses, the library, and assignments of records add to a world.
use Rattle.std.proofs.Common.{◌≡◌, refl, ℕ, zero, suc, ◌-◌, ◌*◌, ◌%◌, ◌^◌, Bool, true, false, ◌&&◌, ◌||◌, not, nat_lt, if◌then◌else◌, List, [], ◌∷◌, replicate, Option, Some, None, Ok, Err, arith}
use Rattle.std.specs.Int.{w32, cast_unsigned}
use Rattle.lay_base.specs.declared.faults.UndefinedKind.TheVariants as K
use Rattle.lay_base.specs.declared.place.Place.{Place}
use Rattle.c_types.specs.IntKinds.{width}
use Rattle.c_typed.specs.declared.operators.LibraryFunction.{LibraryFunction}
use Rattle.c_typed.specs.declared.operators.LibraryFunction.TheVariants as L
use Rattle.memory_words.specs.declared.cell_words.cell.Cell.TheVariants.{Byte}
use Rattle.memory_words.specs.declared.cell_words.pointer.Ptr.{Ptr}
use Rattle.memory_words.specs.declared.cell_words.pointer.Ptr.TheVariants as P
use Rattle.block_memory.specs.declared.kinds.Access.{Access}
use Rattle.block_memory.specs.declared.kinds.Access.TheVariants.{Number, Pointer}
use Rattle.block_memory.specs.declared.kinds.BlockKind.TheVariants.{Heap}
use Rattle.block_memory.specs.Accesses.{place, must, store_number, store_pointer}
use Rattle.block_memory.specs.Blocks.{Memory, kind, cells, is_live, with_cells}
use Rattle.block_memory.specs.Lifetimes.{is_heap, with_end}
use Rattle.block_memory.specs.Lifetimes as Lifetimes
use Rattle.block_memory.specs.Ranges.{do_overlap}
use Rattle.block_memory.specs.Ranges as Ranges
use Rattle.block_memory.specs.RunWorlds.Doing.{Doing, ◌>>=◌, is_undefined}
use Rattle.block_memory.specs.RunWorlds.Events.{Event, put, got, allocated, freed, loaded, stored}
use Rattle.block_memory.specs.RunWorlds.Library.{zeroed, allocate, note_freed, free, copy, fill, compare, putchar, next_of, getchar}
use Rattle.block_memory.specs.RunWorlds.LibraryCalls as Calls
use Rattle.block_memory.specs.RunWorlds.LibraryCalls.{allocated_count, the, given, number, address, library, is_same_place, assign_record}
use Rattle.block_memory.specs.RunWorlds.Scalars.{as_word, as_pointer, width_of, load_in, store_in, note_if, note_in, load, store}
use Rattle.block_memory.specs.RunWorlds.Worlds.{World}
use Rattle.block_memory.specs.declared.run_worlds.value.Value.{Value}
use Rattle.block_memory.specs.declared.run_worlds.value.Value.TheVariants.{Word as word, Pointer as pointer}
use Rattle.c_meaning.specs.Frames.{Frame}
use Rattle.c_meaning.specs.Outcomes.{comes}
use Rattle.compiled_files.specs.CodeRuns.Active.{active}
use Rattle.compiled_files.proofs.CodeRuns.Adding.{Adds, Gives, gives_bind, Longer, cells_longer, end_longer, from, still_same, by_pure, by_undefined, by_end, by_bind}
use Rattle.compiled_files.proofs.CodeRuns.Adding.{by_test, by_tested, by_memory, by_note, by_change, by_changed, by_make}

-- ---- what memory becomes has no fewer blocks

number_longer : (m : Memory) (p : Ptr) (access : _) (v : ℕ) → Gives (Longer m) (store_number m p access v)
number_longer m p kind v = gives_bind (Longer m) (place m p (width kind) (width kind) true) _ (λ at. cells_longer m at.0 at.1 _)

pointer_longer : (m : Memory) (p : Ptr) (type : ℕ) (q : Ptr) → Gives (Longer m) (store_pointer m p type q)
pointer_longer m p type q = gives_bind (Longer m) (place m p 4 4 true) _ (λ at. cells_longer m at.0 at.1 _)

store_longer : (m : Memory) (p : Ptr) (access : Access) (v : Value) → Gives (Longer m) (store_in m p access v)
store_longer m p (Number kind) v = gives_bind (Longer m) (as_word v) _ (λ n. number_longer m p kind n)
store_longer m p (Pointer type) v = gives_bind (Longer m) (as_pointer v) _ (λ q. pointer_longer m p type q)

freed_if : (m : Memory) (b : ℕ) (test : Bool) → Gives (Longer m) (if test then Ok (with_end m b) else Err K.Free)
freed_if m b true = end_longer m b
freed_if m b false = tt

free_longer : (m : Memory) (p : Ptr) → Gives (Longer m) (Lifetimes.free m p)
free_longer m P.Null = omega arith
free_longer m (P.Block b zero) = freed_if m b (is_live m b && is_heap (kind m b))
free_longer m (P.Block b (suc at)) = tt
free_longer m (P.Function f) = tt

copy_longer : (m : Memory) (to from : Ptr) (count : ℕ) (overlap : Bool) → Gives (Longer m) (Ranges.copy m to from count overlap)
copy_longer m to from zero overlap = omega arith
copy_longer m to from (suc n) overlap =
    gives_bind (Longer m) (place m to (suc n) 1 true) _ (λ a. gives_bind (Longer m) (place m from (suc n) 1 false) _
    (λ b. gives_bind (Longer m) (must (overlap || not (do_overlap a b (suc n))) K.Overlap) _ (λ c. cells_longer m a.0 a.1 (cells m b.0 b.1 (suc n)))))

fill_longer : (m : Memory) (to : Ptr) (byte count : ℕ) → Gives (Longer m) (Ranges.fill m to byte count)
fill_longer m to byte zero = omega arith
fill_longer m to byte (suc n) = gives_bind (Longer m) (place m to (suc n) 1 true) _ (λ a. cells_longer m a.0 a.1 _)

-- ---- accesses

by_note_if : (test : Bool) (e : Event) (f : Frame) (w : World) → active (e ∷ w.trace) ≡ active w.trace → Adds (Unit {0}) (note_if test e) f w
by_note_if true e f w h = by_note e f w h
by_note_if false e f w h = by_pure tt f w

pub by_note_in : (m : Memory) (p : Ptr) (event : (block at : ℕ) → Event) (f : Frame) (w : World)
    → ((block at : ℕ) → active (event block at ∷ w.trace) ≡ active w.trace) → Adds (Unit {0}) (note_in m p event) f w
by_note_in m (P.Block b at) event f w h = by_note_if (is_heap (kind m b)) (event b at) f w (h b at)
by_note_in m P.Null event f w h = by_pure tt f w
by_note_in m (P.Function g) event f w h = by_pure tt f w

pub by_load : (place : Place) (p : Ptr) (access : Access) (f : Frame) (w : World) → Adds Value (load place p access) f w
by_load place p access f w =
    by_bind (by_memory f w) (λ m g v. by_bind (by_tested place (load_in m p access) g v)
    (λ x h u. by_bind (by_note_in m p (λ b at. loaded b at (width_of access)) h u (λ b at. refl)) (λ a. by_pure x)))

pub by_store : (place : Place) (p : Ptr) (access : Access) (v : Value) (f : Frame) (w : World) → Adds (Unit {0}) (store place p access v) f w
by_store place p access v f w =
    from (still_same w) (by_test (Longer w.memory) place (store_in w.memory p access v) (store_longer w.memory p access v)
    (λ n h. by_change n h (by_note_in w.memory p (λ b at. stored b at (width_of access)) f (record w { memory = n }) (λ b at. refl)))) (λ rest. refl)

-- ---- the library

by_zeroed : (zero : Bool) (block size : ℕ) (f : Frame) (w : World) → Adds (Unit {0}) (zeroed zero block size) f w
by_zeroed false block size f w = by_pure tt f w
by_zeroed true block size f w = from (still_same w) (by_changed (with_cells w.memory block 0 (replicate size (Byte 0))) f w (cells_longer w.memory block 0 _)) (λ rest. refl)

by_allocate : (elements : Option (ℕ × ℕ)) (size : ℕ) (cleared : Bool) (f : Frame) (w : World) → Adds Value (allocate elements size cleared) f w
by_allocate elements size cleared f w =
    by_bind (by_make size Heap f w) (λ b g v. by_bind (by_zeroed cleared b size g v)
    (λ a h u. by_bind (by_note (allocated b elements size) h u refl) (λ c. by_pure (pointer (P.Block b 0)))))

by_note_freed : (p : Ptr) (f : Frame) (w : World) → Adds (Unit {0}) (note_freed p) f w
by_note_freed (P.Block b at) f w = by_note (freed b) f w refl
by_note_freed P.Null f w = by_pure tt f w
by_note_freed (P.Function g) f w = by_pure tt f w

by_free : (place : Place) (p : Ptr) (f : Frame) (w : World) → Adds (Unit {0}) (free place p) f w
by_free place p f w =
    from (still_same w) (by_test (Longer w.memory) place (Lifetimes.free w.memory p) (free_longer w.memory p)
    (λ n h. by_change n h (by_note_freed p f (record w { memory = n })))) (λ rest. refl)

by_copy : (place : Place) (to source : Ptr) (count : ℕ) (overlap : Bool) (f : Frame) (w : World) → Adds Value (copy place to source count overlap) f w
by_copy place to source count overlap f w =
    from (still_same w) (by_test (Longer w.memory) place (Ranges.copy w.memory to source count overlap) (copy_longer w.memory to source count overlap)
    (λ n h. by_change n h (by_pure (pointer to) f (record w { memory = n })))) (λ rest. refl)

by_fill : (place : Place) (to : Ptr) (byte count : ℕ) (f : Frame) (w : World) → Adds Value (fill place to byte count) f w
by_fill place to byte count f w =
    from (still_same w) (by_test (Longer w.memory) place (Ranges.fill w.memory to (byte % 2 ^ 8) count) (fill_longer w.memory to (byte % 2 ^ 8) count)
    (λ n h. by_change n h (by_pure (pointer to) f (record w { memory = n })))) (λ rest. refl)

by_compare : (place : Place) (p q : Ptr) (count : ℕ) (f : Frame) (w : World) → Adds Value (compare place p q count) f w
by_compare place p q count f w = by_bind (by_memory f w) (λ m g v. by_bind (by_tested place (Ranges.compare m p q count) g v) (λ z. by_pure (word (cast_unsigned w32 z))))

by_putchar : (v : ℕ) (f : Frame) (w : World) → Adds Value (putchar v) f w
by_putchar v f w = by_bind (by_note (put (v % 2 ^ 8)) f w refl) (λ a. by_pure (word (v % 2 ^ 8)))

next_adds : (input : List ℕ) (f : Frame) (w : World) → Adds Value (next_of input) f w
next_adds [] f w = by_bind (by_note (got None) f w refl) (λ a. by_pure (word (2 ^ 32 - 1)))
next_adds (byte ∷ more) f w = record {
  outcome = comes (word byte) f (record w { input = more; trace = got (Some byte) ∷ w.trace });
  is = λ rest. refl;
  still = record { onward = record { trace = (got (Some byte) ∷ [], refl); blocks = omega arith }; active = refl };
}

by_getchar : (f : Frame) (w : World) → Adds Value getchar f w
by_getchar f w = from (still_same w) (next_adds w.input f w) (λ rest. refl)

-- ---- calls of it

by_count : (test : Bool) (place : Place) (r count size : ℕ) (cleared : Bool) (f : Frame) (w : World)
    → Adds Value (if test then allocate (Some (r, count)) size cleared else is_undefined K.Huge place) f w
by_count true place r count size cleared f w = by_allocate (Some (r, count)) size cleared f w
by_count false place r count size cleared f w = by_undefined K.Huge place f w

pub by_allocated : (place : Place) (r size : ℕ) (count : Value) (cleared : Bool) (f : Frame) (w : World) → Adds Value (Calls.allocated place r size count cleared) f w
by_allocated place r size count cleared f w =
    by_bind (by_tested place (as_word count) f w) (λ n. by_count (nat_lt (n * size) (2 ^ 28)) place r n (n * size) cleared)

by_given : {m : Doing Frame Value} {f : Frame} {w : World} → Adds Value m f w → Adds (Option Value) (given m) f w
by_given one = by_bind one (λ v. by_pure (Some v))

by_number : {A : Type 0} {next : ℕ → Doing Frame A} (place : Place) (v : Value) (f : Frame) (w : World) → ((n : ℕ) (g : Frame) (u : World) → Adds A (next n) g u)
    → Adds A (number place v >>= next) f w
by_number place v f w other = by_bind (by_tested place (as_word v) f w) other

by_address : {A : Type 0} {next : Ptr → Doing Frame A} (place : Place) (v : Value) (f : Frame) (w : World) → ((p : Ptr) (g : Frame) (u : World) → Adds A (next p) g u)
    → Adds A (address place v >>= next) f w
by_address place v f w other = by_bind (by_tested place (as_pointer v) f w) other

-- three arguments: two of them pointers, or one
by_ranges : {A : Type 0} {next : Ptr → Ptr → ℕ → Doing Frame A} (place : Place) (v x y : Value) (f : Frame) (w : World)
    → ((p q : Ptr) (n : ℕ) (g : Frame) (u : World) → Adds A (next p q n) g u)
    → Adds A (address place v >>= λ p. address place x >>= λ q. number place y >>= λ n. next p q n) f w
by_ranges place v x y f w other = by_address place v f w (λ p g u. by_address place x g u (λ q h s. by_number place y h s (λ n. other p q n)))

pub by_library : (place : Place) (which : LibraryFunction) (all : List Value) (f : Frame) (w : World) → Adds (Option Value) (library place which all) f w
by_library place L.Malloc (v ∷ []) f w = by_number place v f w (λ n g u. by_given (by_allocate None n false g u))
by_library place L.Calloc (v ∷ x ∷ []) f w = by_number place v f w (λ n g u. by_number place x g u (λ k h s. by_given (by_allocate None (n * k) true h s)))
by_library place L.Free (v ∷ []) f w = by_address place v f w (λ p g u. by_bind (by_free place p g u) (λ a. by_pure None))
by_library place L.Memcpy (v ∷ x ∷ y ∷ []) f w = by_ranges place v x y f w (λ p q n g u. by_given (by_copy place p q n false g u))
by_library place L.Memmove (v ∷ x ∷ y ∷ []) f w = by_ranges place v x y f w (λ p q n g u. by_given (by_copy place p q n true g u))
by_library place L.Memset (v ∷ x ∷ y ∷ []) f w =
    by_address place v f w (λ p g u. by_number place x g u (λ byte h s. by_number place y h s (λ n i t. by_given (by_fill place p byte n i t))))
by_library place L.Memcmp (v ∷ x ∷ y ∷ []) f w = by_ranges place v x y f w (λ p q n g u. by_given (by_compare place p q n g u))
by_library place L.Putchar (v ∷ []) f w = by_number place v f w (λ n g u. by_given (by_putchar n g u))
by_library place L.Getchar [] f w = by_given (by_getchar f w)
by_library place L.Exit (v ∷ []) f w = by_number place v f w (λ n. by_end (n % 2 ^ 8))
by_library place which all f w = by_undefined K.Call place f w

pub by_assign_record : (place : Place) (size : ℕ) (to from : Ptr) (f : Frame) (w : World) → Adds (Unit {0}) (assign_record place size to from) f w
by_assign_record place size to from f w = by_bind (by_copy place to from size (is_same_place to from) f w) (λ a. by_pure tt)
