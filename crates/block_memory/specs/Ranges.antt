-- Ranges of bytes (C99 7.21): copied, filled and compared. One of no length is never looked at (own).
use Rattle.std.specs.Prelude.{ℕ, zero, suc, ◌+◌, ◌==◌, Bool, true, false, ◌&&◌, ◌||◌, not, nat_lt, if◌then◌else◌, List, ◌∷◌, replicate, ℤ, pos, negsuc}
use Rattle.std.specs.Prelude.{Ok, Err}
use Rattle.lay_base.specs.declared.faults.UndefinedKind.TheVariants as K
use Rattle.memory_words.specs.declared.cell_words.cell.Cell.{Cell}
use Rattle.memory_words.specs.declared.cell_words.cell.Cell.TheVariants.{Empty, Byte, Fragment}
use Rattle.memory_words.specs.declared.cell_words.pointer.Ptr.{Ptr}
use Rattle.block_memory.specs.Accesses.{must, place}
use Rattle.block_memory.specs.Blocks.{Memory, cells, with_cells}
use Rattle.block_memory.specs.Tested.{Tested, ◌>>=◌}

-- two ranges of one length have a byte in common
abbrev pub do_overlap : (a b : ℕ × ℕ) → (count : ℕ) → Bool
do_overlap a b count = a.0 == b.0 && nat_lt a.1 (b.1 + count) && nat_lt b.1 (a.1 + count)

-- cells are copied as they are, with their fragments; that ranges overlap may be allowed (7.21.2.1, 7.21.2.2)
abbrev pub copy : Memory → (to from : Ptr) → (count : ℕ) → (overlap : Bool) → Tested Memory
copy m to from zero overlap = Ok m
copy m to from (suc n) overlap = do
  a ← place m to (suc n) 1 true
  b ← place m from (suc n) 1 false
  c ← must (overlap || not (do_overlap a b (suc n))) K.Overlap
  Ok (with_cells m a.0 a.1 (cells m b.0 b.1 (suc n)))

-- 7.21.6.1
abbrev pub fill : Memory → (to : Ptr) → (byte count : ℕ) → Tested Memory
fill m to byte zero = Ok m
fill m to byte (suc n) = do
  a ← place m to (suc n) 1 true
  Ok (with_cells m a.0 a.1 (replicate (suc n) (Byte byte)))

-- ---- 7.21.4.1

abbrev pub byte_in : Cell → Tested ℕ
byte_in (Byte x) = Ok x
byte_in Empty = Err K.Empty
byte_in (Fragment type p k) = Err K.Pointer

-- minus one, zero or one, by the first two bytes that differ; none behind them is loaded (own)
abbrev pub first_difference : List Cell → List Cell → Tested ℤ
first_difference (c ∷ all) (d ∷ others) = do
  x ← byte_in c
  y ← byte_in d
  if nat_lt x y then Ok (negsuc 0) else if nat_lt y x then Ok (pos 1) else first_difference all others
first_difference all others = Ok (pos 0)

abbrev pub compare : Memory → (p q : Ptr) → (count : ℕ) → Tested ℤ
compare m p q zero = Ok (pos 0)
compare m p q (suc n) = do
  a ← place m p (suc n) 1 false
  b ← place m q (suc n) 1 false
  first_difference (cells m a.0 a.1 (suc n)) (cells m b.0 b.1 (suc n))
