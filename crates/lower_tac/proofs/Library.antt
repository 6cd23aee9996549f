-- What the library does comes to a result or an end, whatever stands behind it.
use Rattle.std.proofs.Common.{ℕ, ◌*◌, ◌^◌, Bool, true, false, List, [], ◌∷◌, Option, Some, None, if◌then◌else◌, nat_lt}
use Rattle.lay_base.specs.declared.faults.UndefinedKind.TheVariants as K
use Rattle.lay_base.specs.declared.place.Place.{Place}
use Rattle.std.specs.Int.{w32, cast_unsigned}
use Rattle.c_typed.specs.declared.operators.LibraryFunction.{LibraryFunction}
use Rattle.c_typed.specs.declared.operators.LibraryFunction.TheVariants as L
use Rattle.memory_words.specs.declared.cell_words.pointer.Ptr.{Ptr}
use Rattle.memory_words.specs.declared.cell_words.pointer.Ptr.TheVariants as P
use Rattle.block_memory.specs.Lifetimes as Lifetimes
use Rattle.block_memory.specs.Ranges as Ranges
use Rattle.block_memory.specs.RunWorlds.Doing.{Doing, ◌>>=◌, pure, tested, with_memory, is_undefined}
use Rattle.block_memory.specs.RunWorlds.Events as Ev
use Rattle.block_memory.specs.RunWorlds.Library as Library
use Rattle.block_memory.specs.RunWorlds.LibraryCalls.{library, number, address, allocated, allocated_count, assign_record, given, is_same_place}
use Rattle.block_memory.specs.RunWorlds.Scalars.{as_word, as_pointer}
use Rattle.block_memory.specs.RunWorlds.Worlds.{World}
use Rattle.block_memory.specs.declared.run_worlds.value.Value.{Value}
use Rattle.block_memory.specs.declared.run_worlds.value.Value.TheVariants.{Word as word}
use Rattle.c_meaning.specs.Frames.{Frame}
use Rattle.lower_tac.proofs.Blind.{Blind, then_blind, gives, fails, tests, sees, writes, notes, allocates, copies, fills, puts, reads, exits}

pub some : {m : Doing Frame Value} {w : World} → Blind Value m w → Blind (Option Value) (given m) w
some one = then_blind {next = λ v. pure (Some v)} one (λ v w. gives (Some v) w)

notes_freed : (q : Ptr) (w : World) → Blind (Unit {0}) (Library.note_freed q) w
notes_freed (P.Block b at) w = notes (Ev.freed b) w
notes_freed P.Null w = gives tt w
notes_freed (P.Function f) w = gives tt w

frees : (at : Place) (q : Ptr) (w : World) → Blind (Unit {0}) (Library.free at q) w
frees at q w =
    then_blind {next = λ m. tested at (Lifetimes.free m q) >>= λ n. with_memory n >>= λ a. Library.note_freed q} (sees w) (λ m w.
    then_blind {next = λ n. with_memory n >>= λ a. Library.note_freed q} (tests at (Lifetimes.free m q) w) (λ n w.
    then_blind {next = λ a. Library.note_freed q} (writes n w) (λ a w. notes_freed q w)))

compares : (at : Place) (q r : Ptr) (n : ℕ) (w : World) → Blind Value (Library.compare at q r n) w
compares at q r n w =
    then_blind {next = λ m. tested at (Ranges.compare m q r n) >>= λ z. pure (word (cast_unsigned w32 z))} (sees w) (λ m w.
    then_blind {next = λ z. pure (word (cast_unsigned w32 z))} (tests at (Ranges.compare m q r n) w) (λ z w. gives (word (cast_unsigned w32 z)) w))

-- an argument is tested first
with_number : {A : Type 0} {next : ℕ → Doing Frame A} (at : Place) (v : Value) (w : World) → ((n : ℕ) (w : World) → Blind A (next n) w) → Blind A (number at v >>= next) w
with_number {A} {next} at v w other = then_blind {next = next} (tests at (as_word v) w) other

with_address : {A : Type 0} {next : Ptr → Doing Frame A} (at : Place) (v : Value) (w : World) → ((q : Ptr) (w : World) → Blind A (next q) w) → Blind A (address at v >>= next) w
with_address {A} {next} at v w other = then_blind {next = next} (tests at (as_pointer v) w) other

pub libraries : (at : Place) (which : LibraryFunction) (all : List Value) (w : World) → Blind (Option Value) (library at which all) w
libraries at L.Malloc [] w = fails K.Call at w
libraries at L.Malloc (v ∷ []) w = with_number {next = λ n. given (Library.allocate None n false)} at v w (λ n w. some (allocates None n false w))
libraries at L.Malloc (v ∷ u ∷ all) w = fails K.Call at w
libraries at L.Calloc [] w = fails K.Call at w
libraries at L.Calloc (v ∷ []) w = fails K.Call at w
libraries at L.Calloc (v ∷ u ∷ []) w =
    with_number {next = λ n. number at u >>= λ k. given (Library.allocate None (n * k) true)} at v w (λ n w.
    with_number {next = λ k. given (Library.allocate None (n * k) true)} at u w (λ k w. some (allocates None (n * k) true w)))
libraries at L.Calloc (v ∷ u ∷ x ∷ all) w = fails K.Call at w
libraries at L.Free [] w = fails K.Call at w
libraries at L.Free (v ∷ []) w =
    with_address {next = λ q. Library.free at q >>= λ a. pure None} at v w (λ q w. then_blind {next = λ a. pure None} (frees at q w) (λ a w. gives None w))
libraries at L.Free (v ∷ u ∷ all) w = fails K.Call at w
libraries at L.Memcpy [] w = fails K.Call at w
libraries at L.Memcpy (v ∷ []) w = fails K.Call at w
libraries at L.Memcpy (v ∷ u ∷ []) w = fails K.Call at w
libraries at L.Memcpy (v ∷ u ∷ x ∷ []) w =
    with_address {next = λ q. address at u >>= λ r. number at x >>= λ n. given (Library.copy at q r n false)} at v w (λ q w.
    with_address {next = λ r. number at x >>= λ n. given (Library.copy at q r n false)} at u w (λ r w.
    with_number {next = λ n. given (Library.copy at q r n false)} at x w (λ n w. some (copies at q r n false w))))
libraries at L.Memcpy (v ∷ u ∷ n ∷ x ∷ all) w = fails K.Call at w
libraries at L.Memmove [] w = fails K.Call at w
libraries at L.Memmove (v ∷ []) w = fails K.Call at w
libraries at L.Memmove (v ∷ u ∷ []) w = fails K.Call at w
libraries at L.Memmove (v ∷ u ∷ x ∷ []) w =
    with_address {next = λ q. address at u >>= λ r. number at x >>= λ n. given (Library.copy at q r n true)} at v w (λ q w.
    with_address {next = λ r. number at x >>= λ n. given (Library.copy at q r n true)} at u w (λ r w.
    with_number {next = λ n. given (Library.copy at q r n true)} at x w (λ n w. some (copies at q r n true w))))
libraries at L.Memmove (v ∷ u ∷ n ∷ x ∷ all) w = fails K.Call at w
libraries at L.Memset [] w = fails K.Call at w
libraries at L.Memset (v ∷ []) w = fails K.Call at w
libraries at L.Memset (v ∷ u ∷ []) w = fails K.Call at w
libraries at L.Memset (v ∷ u ∷ x ∷ []) w =
    with_address {next = λ q. number at u >>= λ byte. number at x >>= λ n. given (Library.fill at q byte n)} at v w (λ q w.
    with_number {next = λ byte. number at x >>= λ n. given (Library.fill at q byte n)} at u w (λ byte w.
    with_number {next = λ n. given (Library.fill at q byte n)} at x w (λ n w. some (fills at q byte n w))))
libraries at L.Memset (v ∷ u ∷ n ∷ x ∷ all) w = fails K.Call at w
libraries at L.Memcmp [] w = fails K.Call at w
libraries at L.Memcmp (v ∷ []) w = fails K.Call at w
libraries at L.Memcmp (v ∷ u ∷ []) w = fails K.Call at w
libraries at L.Memcmp (v ∷ u ∷ x ∷ []) w =
    with_address {next = λ q. address at u >>= λ r. number at x >>= λ n. given (Library.compare at q r n)} at v w (λ q w.
    with_address {next = λ r. number at x >>= λ n. given (Library.compare at q r n)} at u w (λ r w.
    with_number {next = λ n. given (Library.compare at q r n)} at x w (λ n w. some (compares at q r n w))))
libraries at L.Memcmp (v ∷ u ∷ n ∷ x ∷ all) w = fails K.Call at w
libraries at L.Putchar [] w = fails K.Call at w
libraries at L.Putchar (v ∷ []) w = with_number {next = λ n. given (Library.putchar n)} at v w (λ n w. some (puts n w))
libraries at L.Putchar (v ∷ u ∷ all) w = fails K.Call at w
libraries at L.Getchar [] w = some (reads w)
libraries at L.Getchar (v ∷ all) w = fails K.Call at w
libraries at L.Exit [] w = fails K.Call at w
libraries at L.Exit (v ∷ []) w = with_number {next = λ n. Library.exit n} at v w (λ n w. exits n w)
libraries at L.Exit (v ∷ u ∷ all) w = fails K.Call at w

counted : (at : Place) (r size count : ℕ) (zeroed : Bool) (w : World) → Blind Value (allocated_count at r size count zeroed) w
counted at r size count zeroed w = by_test (nat_lt (count * size) (2 ^ 28))
  where
    by_test : (t : Bool) → Blind Value (if t then Library.allocate (Some (r, count)) (count * size) zeroed else is_undefined K.Huge at) w
    by_test true = allocates (Some (r, count)) (count * size) zeroed w
    by_test false = fails K.Huge at w

pub allocates_records : (at : Place) (r size : ℕ) (count : Value) (zeroed : Bool) (w : World) → Blind Value (allocated at r size count zeroed) w
allocates_records at r size count zeroed w =
    with_number {next = λ n. allocated_count at r size n zeroed} at count w (λ n w. counted at r size n zeroed w)

pub assigns_record : (at : Place) (size : ℕ) (q r : Ptr) (w : World) → Blind (Unit {0}) (assign_record at size q r) w
assigns_record at size q r w = then_blind {next = λ v. pure tt} (copies at q r size (is_same_place q r) w) (λ v w. gives tt w)
