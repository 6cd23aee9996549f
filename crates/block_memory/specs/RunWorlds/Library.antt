-- What the functions of the library do (C99 7.19.7, 7.20.3, 7.20.4, 7.21).
use Rattle.std.specs.Prelude.{ℕ, ◌-◌, ◌%◌, ◌^◌, Bool, true, false, List, [], ◌∷◌, Option, Some, None, replicate}
use Rattle.std.specs.Int.{w32, cast_unsigned}
use Rattle.lay_base.specs.declared.place.Place.{Place}
use Rattle.memory_words.specs.declared.cell_words.cell.Cell.TheVariants.{Byte}
use Rattle.block_memory.specs.declared.kinds.BlockKind.TheVariants.{Heap}
use Rattle.memory_words.specs.declared.cell_words.pointer.Ptr.{Ptr}
use Rattle.memory_words.specs.declared.cell_words.pointer.Ptr.TheVariants as P
use Rattle.block_memory.specs.Blocks.{with_cells}
use Rattle.block_memory.specs.Lifetimes as Lifetimes
use Rattle.block_memory.specs.Ranges as Ranges
use Rattle.block_memory.specs.RunWorlds.Doing.{Doing, ◌>>=◌, ◌>>◌, pure, tested, memory_now, with_memory, note, make}
use Rattle.block_memory.specs.RunWorlds.Events.{put, got, allocated, freed}
use Rattle.block_memory.specs.declared.run_worlds.value.Value.{Value}
use Rattle.block_memory.specs.declared.run_worlds.value.Value.TheVariants.{Word as word, Pointer as pointer}
use Rattle.block_memory.specs.RunWorlds.Worlds.{ends}

-- ---- allocations (7.20.3): want of room never gives a null pointer (own)

abbrev pub zeroed : {F : Type 0} → Bool → (block size : ℕ) → Doing F (Unit {0})
zeroed false b size = pure tt
zeroed true b size = memory_now >>= λ m. with_memory (with_cells m b 0 (replicate size (Byte 0)))

-- of so many bytes, all zero or nothing that was stored; of elements of a record where it is recognised as one
abbrev pub allocate : {F : Type 0} → (elements : Option (ℕ × ℕ)) → (size : ℕ) → (zero : Bool) → Doing F Value
allocate elements size zero = do
  b ← make size Heap
  a ← zeroed zero b size
  c ← note (allocated b elements size)
  pure (pointer (P.Block b 0))

abbrev pub note_freed : {F : Type 0} → Ptr → Doing F (Unit {0})
note_freed (P.Block b at) = note (freed b)
note_freed p = pure tt

abbrev pub free : {F : Type 0} → Place → Ptr → Doing F (Unit {0})
free place p = do
  m ← memory_now
  n ← tested place (Lifetimes.free m p)
  a ← with_memory n
  note_freed p

-- ---- ranges of bytes (7.21)

abbrev pub copy : {F : Type 0} → Place → (to from : Ptr) → (count : ℕ) → (overlap : Bool) → Doing F Value
copy place to from count overlap = do
  m ← memory_now
  n ← tested place (Ranges.copy m to from count overlap)
  a ← with_memory n
  pure (pointer to)

abbrev pub fill : {F : Type 0} → Place → (to : Ptr) → (byte count : ℕ) → Doing F Value
fill place to byte count = do
  m ← memory_now
  n ← tested place (Ranges.fill m to (byte % 2 ^ 8) count)
  a ← with_memory n
  pure (pointer to)

abbrev pub compare : {F : Type 0} → Place → (p q : Ptr) → (count : ℕ) → Doing F Value
compare place p q count = do
  m ← memory_now
  z ← tested place (Ranges.compare m p q count)
  pure (word (cast_unsigned w32 z))

-- ---- input and output (7.19.7)

abbrev pub putchar : {F : Type 0} → (v : ℕ) → Doing F Value
putchar v = note (put (v % 2 ^ 8)) >> pure (word (v % 2 ^ 8))

-- minus one where the input is at its end
abbrev pub next_of : {F : Type 0} → List ℕ → Doing F Value
next_of [] = note (got None) >> pure (word (2 ^ 32 - 1))
next_of (byte ∷ more) = λ rest f w. rest (word byte) f (record w { input = more; trace = got (Some byte) ∷ w.trace })

abbrev pub getchar : {F : Type 0} → Doing F Value
getchar = λ rest f w. next_of w.input rest f w

-- ---- 7.20.4.3

abbrev pub exit : {F A : Type 0} → (v : ℕ) → Doing F A
exit v = λ rest f w. ends (v % 2 ^ 8) w
