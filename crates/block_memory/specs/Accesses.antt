-- Loads and stores of numbers and pointers, with their tests (C99 6.5.3.2, 6.3.2.1, 6.4.5).
use Rattle.std.specs.Prelude.{ℕ, ◌+◌, ◌%◌, ◌==◌, Bool, true, false, ◌&&◌, not, nat_le, Ok, Err}
use Rattle.std.specs.Option.{option_map}
use Rattle.lay_base.specs.declared.faults.UndefinedKind.{UndefinedKind}
use Rattle.lay_base.specs.declared.faults.UndefinedKind.TheVariants as K
use Rattle.c_types.specs.declared.ty.IntKind.{IntKind}
use Rattle.c_types.specs.IntKinds.{width}
use Rattle.block_memory.specs.declared.kinds.BlockKind.{BlockKind}
use Rattle.block_memory.specs.declared.kinds.BlockKind.TheVariants.{Text}
use Rattle.memory_words.specs.declared.cell_words.pointer.Ptr.{Ptr}
use Rattle.memory_words.specs.declared.cell_words.pointer.Ptr.TheVariants as P
use Rattle.block_memory.specs.Blocks.{Memory, kind, is_live, size, cells, with_cells}
use Rattle.block_memory.specs.Held.{bytes_of, number_in, word_of, fragments_of, pointer_in, held}
use Rattle.block_memory.specs.Tested.{Tested, ◌>>=◌}

-- ---- the tests, in their order

abbrev pub is_text : BlockKind → Bool
is_text Text = true
is_text kind = false

abbrev pub must : Bool → UndefinedKind → Tested (Unit {0})
must true kind = Ok tt
must false kind = Err kind

-- a block with an offset; a function is no object
abbrev pub into_block : Ptr → Tested (ℕ × ℕ)
into_block (P.Block b at) = Ok (b, at)
into_block P.Null = Err K.Null
into_block (P.Function f) = Err K.Dead

-- where so many bytes lie, at a multiple of a width, to be stored or only to be read
abbrev pub place : Memory → Ptr → (count width : ℕ) → (stores : Bool) → Tested (ℕ × ℕ)
place m p count width stores = do
  at ← into_block p
  a ← must (is_live m at.0) K.Dead
  b ← must (nat_le (at.1 + count) (size m at.0)) K.Outside
  c ← must (at.1 % width == 0) K.Align
  d ← must (not (stores && is_text (kind m at.0))) K.ReadOnly
  Ok at

-- ---- numbers

abbrev pub load_number : Memory → Ptr → IntKind → Tested ℕ
load_number m p kind = do
  at ← place m p (width kind) (width kind) false
  held (cells m at.0 at.1 (width kind)) (option_map (word_of kind) (number_in (cells m at.0 at.1 (width kind))))

abbrev pub store_number : Memory → Ptr → IntKind → (v : ℕ) → Tested Memory
store_number m p kind v = do
  at ← place m p (width kind) (width kind) true
  Ok (with_cells m at.0 at.1 (bytes_of (width kind) v))

-- ---- pointers, by the number of their type

abbrev pub load_pointer : Memory → Ptr → (type : ℕ) → Tested Ptr
load_pointer m p type = do
  at ← place m p 4 4 false
  held (cells m at.0 at.1 4) (pointer_in type (cells m at.0 at.1 4))

abbrev pub store_pointer : Memory → Ptr → (type : ℕ) → Ptr → Tested Memory
store_pointer m p type q = do
  at ← place m p 4 4 true
  Ok (with_cells m at.0 at.1 (fragments_of type q))
