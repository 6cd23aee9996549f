-- Arithmetic on pointers, in bytes (C99 6.5.6), and their comparison (6.5.8, 6.5.9).
use Rattle.std.specs.Prelude.{ℕ, ◌==◌, Bool, true, false, ◌&&◌, nat_le, nat_lt, if◌then◌else◌, ℤ, pos, negsuc, ◌+ℤ◌, ◌-ℤ◌, int_div, int_rem, Ok, Err}
use Rattle.std.specs.Ordering.{int_eq}
use Rattle.lay_base.specs.declared.faults.UndefinedKind.TheVariants.{Dead, Range, TwoBlocks, Edge}
use Rattle.memory_words.specs.declared.cell_words.pointer.Ptr.{Ptr}
use Rattle.memory_words.specs.declared.cell_words.pointer.Ptr.TheVariants.{Null, Block, Function}
use Rattle.block_memory.specs.Blocks.{Memory, is_live, size}
use Rattle.block_memory.specs.Tested.{Tested}

-- ---- 6.5.6

-- a pointer into a block, or one past its end, whether it is live or not
abbrev pub within : Memory → (b : ℕ) → (at : ℤ) → Tested Ptr
within m b (pos at) = if nat_le at (size m b) then Ok (Block b at) else Err Range
within m b (negsuc n) = Err Range

-- so many bytes further on, or back; a null pointer stays where it is (own)
abbrev pub stepped : Memory → Ptr → ℤ → Tested Ptr
stepped m (Block b at) by = within m b (pos at +ℤ by)
stepped m Null by = if int_eq by (pos 0) then Ok Null else Err Range
stepped m (Function f) by = Err Range

-- how many elements of a size lie between two offsets, where it is a whole number of them
abbrev pub elements_between : (from to size : ℕ) → Tested ℤ
elements_between from to size =
    if int_eq (int_rem (pos to -ℤ pos from) (pos size)) (pos 0) then Ok (int_div (pos to -ℤ pos from) (pos size)) else Err Range

-- from the second to the first
abbrev pub difference : Ptr → Ptr → (size : ℕ) → Tested ℤ
difference (Block b at) (Block c from) size = if b == c then elements_between from at size else Err TwoBlocks
difference p q size = Err Range

-- ---- 6.5.8

abbrev pub is_less : Memory → Ptr → Ptr → Tested Bool
is_less m (Block b at) (Block c other) = if b == c then (if is_live m b then Ok (nat_lt at other) else Err Dead) else Err TwoBlocks
is_less m p q = Err Range

-- ---- 6.5.9

-- a byte of the block lies there
abbrev pub is_inside : Memory → (b at : ℕ) → Bool
is_inside m b at = nat_lt at (size m b)

-- two places in blocks: one past the end of a block may be where another one begins (own)
abbrev pub are_equal_in : Memory → (b at c other : ℕ) → Tested Bool
are_equal_in m b at c other =
    if is_live m b && is_live m c then
    (if b == c then Ok (at == other) else if is_inside m b at && is_inside m c other then Ok false else Err Edge)
    else Err Dead

abbrev pub are_equal : Memory → Ptr → Ptr → Tested Bool
are_equal m Null Null = Ok true
are_equal m (Block b at) (Block c other) = are_equal_in m b at c other
are_equal m (Function f) (Function g) = Ok (f == g)
are_equal m p q = Ok false
