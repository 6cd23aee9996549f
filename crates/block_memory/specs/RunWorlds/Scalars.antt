-- Numbers and pointers as values, and their accesses by expressions (C99 6.5).
use Rattle.std.specs.Prelude.{ℕ, Bool, true, false, Ok, Err}
use Rattle.lay_base.specs.declared.faults.UndefinedKind.TheVariants as K
use Rattle.lay_base.specs.declared.place.Place.{Place}
use Rattle.c_types.specs.IntKinds.{width}
use Rattle.block_memory.specs.declared.kinds.Access.{Access}
use Rattle.block_memory.specs.declared.kinds.Access.TheVariants.{Number, Pointer}
use Rattle.memory_words.specs.declared.cell_words.pointer.Ptr.{Ptr}
use Rattle.memory_words.specs.declared.cell_words.pointer.Ptr.TheVariants as P
use Rattle.block_memory.specs.Accesses.{load_number, load_pointer, store_number, store_pointer}
use Rattle.block_memory.specs.Blocks.{Memory, kind}
use Rattle.block_memory.specs.Lifetimes.{is_heap}
use Rattle.block_memory.specs.Tested.{Tested}
use Rattle.block_memory.specs.Tested as Tests
use Rattle.block_memory.specs.RunWorlds.Doing.{Doing, ◌>>=◌, pure, note, tested, memory_now, with_memory}
use Rattle.block_memory.specs.RunWorlds.Events.{Event, loaded, stored}
use Rattle.block_memory.specs.declared.run_worlds.value.Value.{Value}
use Rattle.block_memory.specs.declared.run_worlds.value.Value.TheVariants.{Word as word, Pointer as pointer}

-- a value is used as what it is: of the other sort it is undefined
abbrev pub as_word : Value → Tested ℕ
as_word (word v) = Ok v
as_word (pointer p) = Err K.Pointer

abbrev pub as_pointer : Value → Tested Ptr
as_pointer (word v) = Err K.Pointer
as_pointer (pointer p) = Ok p

-- where null is undefined anyway: a number is read as null, which is no place
abbrev pub pointer_of : Value → Ptr
pointer_of (word v) = P.Null
pointer_of (pointer p) = p

abbrev pub width_of : Access → ℕ
width_of (Number kind) = width kind
width_of (Pointer type) = 4

-- ---- what memory holds

abbrev pub as_value : {A : Type 0} → (A → Value) → Tested A → Tested Value
as_value f (Ok x) = Ok (f x)
as_value f (Err kind) = Err kind

abbrev pub load_in : Memory → Ptr → Access → Tested Value
load_in m p (Number kind) = as_value word (load_number m p kind)
load_in m p (Pointer type) = as_value pointer (load_pointer m p type)

abbrev pub store_in : Memory → Ptr → Access → Value → Tested Memory
store_in m p (Number kind) v = Tests.◌>>=◌ (as_word v) (λ n. store_number m p kind n)
store_in m p (Pointer type) v = Tests.◌>>=◌ (as_pointer v) (λ q. store_pointer m p type q)

-- ---- accesses of allocations are told

abbrev pub note_if : {F : Type 0} → Bool → Event → Doing F (Unit {0})
note_if true event = note event
note_if false event = pure tt

abbrev pub note_in : {F : Type 0} → Memory → Ptr → ((block at : ℕ) → Event) → Doing F (Unit {0})
note_in m (P.Block b at) event = note_if (is_heap (kind m b)) (event b at)
note_in m p event = pure tt

-- a load or a store by the expression at a place
abbrev pub load : {F : Type 0} → Place → Ptr → Access → Doing F Value
load place p access = do
  m ← memory_now
  v ← tested place (load_in m p access)
  a ← note_in m p (λ b at. loaded b at (width_of access))
  pure v

abbrev pub store : {F : Type 0} → Place → Ptr → Access → Value → Doing F (Unit {0})
store place p access v = do
  m ← memory_now
  n ← tested place (store_in m p access v)
  a ← with_memory n
  note_in m p (λ b at. stored b at (width_of access))
