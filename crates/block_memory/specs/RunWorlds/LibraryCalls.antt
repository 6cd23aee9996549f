-- Calls of the library by its functions, recognised allocations, and the assignment of whole records (C99 6.5.16.1, 7.19 to 7.21).
use Rattle.std.specs.Prelude.{ℕ, ◌*◌, ◌^◌, ◌==◌, Bool, true, false, ◌&&◌, nat_lt, if◌then◌else◌, List, [], ◌∷◌, Option, Some, None}
use Rattle.lay_base.specs.declared.faults.UndefinedKind.TheVariants as K
use Rattle.lay_base.specs.declared.place.Place.{Place}
use Rattle.c_typed.specs.declared.operators.LibraryFunction.{LibraryFunction}
use Rattle.c_typed.specs.declared.operators.LibraryFunction.TheVariants as L
use Rattle.memory_words.specs.declared.cell_words.pointer.Ptr.{Ptr}
use Rattle.memory_words.specs.declared.cell_words.pointer.Ptr.TheVariants as P
use Rattle.block_memory.specs.RunWorlds.Doing.{Doing, ◌>>=◌, ◌>>◌, pure, is_undefined, tested}
use Rattle.block_memory.specs.RunWorlds.Library as Library
use Rattle.block_memory.specs.RunWorlds.Scalars.{as_word, as_pointer}
use Rattle.block_memory.specs.declared.run_worlds.value.Value.{Value}

-- a recognised allocation of so many records (own)
abbrev pub allocated_count : {F : Type 0} → Place → (r size count : ℕ) → (zeroed : Bool) → Doing F Value
allocated_count place r size count zeroed =
    if nat_lt (count * size) (2 ^ 28) then Library.allocate (Some (r, count)) (count * size) zeroed else is_undefined K.Huge place

abbrev pub allocated : {F : Type 0} → Place → (r size : ℕ) → (count : Value) → (zeroed : Bool) → Doing F Value
allocated place r size count zeroed = tested place (as_word count) >>= λ n. allocated_count place r size n zeroed

abbrev pub the : {F A : Type 0} → Doing F A → (A → Value) → Doing F (Option Value)
the m f = m >>= λ x. pure (Some (f x))

abbrev pub given : {F : Type 0} → Doing F Value → Doing F (Option Value)
given m = m >>= λ v. pure (Some v)

-- an argument is a number, or a pointer; they are tested in their order
abbrev pub number : {F : Type 0} → Place → Value → Doing F ℕ
number place v = tested place (as_word v)

abbrev pub address : {F : Type 0} → Place → Value → Doing F Ptr
address place v = tested place (as_pointer v)

-- what the library does with its arguments; `free` has no value
abbrev pub library : {F : Type 0} → Place → LibraryFunction → List Value → Doing F (Option Value)
library place L.Malloc (v ∷ []) = number place v >>= λ n. given (Library.allocate None n false)
library place L.Calloc (v ∷ w ∷ []) = number place v >>= λ n. number place w >>= λ k. given (Library.allocate None (n * k) true)
library place L.Free (v ∷ []) = address place v >>= λ p. Library.free place p >> pure None
library place L.Memcpy (v ∷ w ∷ x ∷ []) =
    address place v >>= λ p. address place w >>= λ q. number place x >>= λ n. given (Library.copy place p q n false)
library place L.Memmove (v ∷ w ∷ x ∷ []) =
    address place v >>= λ p. address place w >>= λ q. number place x >>= λ n. given (Library.copy place p q n true)
library place L.Memset (v ∷ w ∷ x ∷ []) =
    address place v >>= λ p. number place w >>= λ byte. number place x >>= λ n. given (Library.fill place p byte n)
library place L.Memcmp (v ∷ w ∷ x ∷ []) =
    address place v >>= λ p. address place w >>= λ q. number place x >>= λ n. given (Library.compare place p q n)
library place L.Putchar (v ∷ []) = number place v >>= λ n. given (Library.putchar n)
library place L.Getchar [] = given Library.getchar
library place L.Exit (v ∷ []) = number place v >>= λ n. Library.exit n
library place which all = is_undefined K.Call place

-- a whole record is assigned; to itself it may be (6.5.16.1)
abbrev pub is_same_place : Ptr → Ptr → Bool
is_same_place (P.Block b at) (P.Block c other) = b == c && at == other
is_same_place q r = false

abbrev pub assign_record : {F : Type 0} → Place → (size : ℕ) → (to from : Ptr) → Doing F (Unit {0})
assign_record place size to from = Library.copy place to from size (is_same_place to from) >> pure tt
