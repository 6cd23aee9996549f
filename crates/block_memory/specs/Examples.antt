-- Accesses by computation.
use Rattle.std.specs.Prelude.{◌≡◌, ℕ, true, false, [], ◌∷◌, replicate, pos, negsuc, refl, Ok, Err}
use Rattle.lay_base.specs.declared.faults.UndefinedKind.TheVariants as K
use Rattle.c_types.specs.declared.ty.IntKind.TheVariants as I
use Rattle.memory_words.specs.declared.cell_words.cell.Cell.TheVariants.{Empty, Byte}
use Rattle.block_memory.specs.declared.kinds.BlockKind.TheVariants.{Global, Text, Local, Heap}
use Rattle.memory_words.specs.declared.cell_words.pointer.Ptr.{Ptr}
use Rattle.memory_words.specs.declared.cell_words.pointer.Ptr.TheVariants as P
use Rattle.block_memory.specs.Accesses.{load_number, load_pointer, store_number, store_pointer}
use Rattle.block_memory.specs.Blocks.{Memory, living, ended, cells}
use Rattle.block_memory.specs.Lifetimes.{with_block, with_end, free}
use Rattle.block_memory.specs.Pointers.{stepped, difference, is_less, are_equal}
use Rattle.block_memory.specs.Ranges.{copy, fill, compare}
use Rattle.block_memory.specs.Tested.{Tested, ◌>>=◌}

-- block 0 is an allocation of 8 bytes, block 1 a local of 4, block 2 the string literal "abc", block 3 an allocation of none
abbrev start : Memory
start = record { kind = Heap; contents = living (replicate 8 Empty) } ∷ record { kind = Local; contents = living (replicate 4 Empty) } ∷
    record { kind = Text; contents = living (Byte 97 ∷ Byte 98 ∷ Byte 99 ∷ Byte 0 ∷ []) } ∷ record { kind = Heap; contents = living [] } ∷ []

abbrev at : (b offset : ℕ) → Ptr
at b offset = P.Block b offset

-- ---- blocks

made_in_order : with_block (with_block [] 1 Global) 2 Heap
    ≡ record { kind = Global; contents = living (Empty ∷ []) } ∷ record { kind = Heap; contents = living (Empty ∷ Empty ∷ []) } ∷ []
made_in_order = refl

keeps_its_size : with_end (with_block [] 3 Local) 0 ≡ record { kind = Local; contents = ended 3 } ∷ []
keeps_its_size = refl

-- ---- the order of the tests

through_null : load_number start P.Null I.Int ≡ Err K.Null
through_null = refl

stores_through_null : store_number start P.Null I.Char 1 ≡ Err K.Null
stores_through_null = refl

reads_freed : (free start (at 0 0) >>= λ m. load_number m (at 0 0) I.Int) ≡ Err K.Dead
reads_freed = refl

-- of a dead block no size is asked
dead_first : (free start (at 0 0) >>= λ m. load_number m (at 0 9) I.Int) ≡ Err K.Dead
dead_first = refl

reads_ended : load_number (with_end start 1) (at 1 0) I.Char ≡ Err K.Dead
reads_ended = refl

outside : load_number start (at 0 8) I.Char ≡ Err K.Outside
outside = refl

half_outside : load_number start (at 0 6) I.Int ≡ Err K.Outside
half_outside = refl

-- outside comes before misaligned
outside_first : load_number start (at 0 7) I.Short ≡ Err K.Outside
outside_first = refl

misaligned : load_number start (at 0 2) I.Int ≡ Err K.Align
misaligned = refl

misaligned_short : store_number start (at 0 1) I.Short 0 ≡ Err K.Align
misaligned_short = refl

into_a_literal : store_number start (at 2 0) I.Char 98 ≡ Err K.ReadOnly
into_a_literal = refl

-- misaligned comes before read only
misaligned_first : store_number start (at 2 1) I.Short 98 ≡ Err K.Align
misaligned_first = refl

reads_a_literal : load_number start (at 2 0) I.Char ≡ Ok 97
reads_a_literal = refl

of_no_size : load_number start (at 3 0) I.Char ≡ Err K.Outside
of_no_size = refl

-- ---- numbers

-- -2 as an int
abbrev written : Tested Memory
written = store_number start (at 0 4) I.Int 4294967294

least_byte_first : (written >>= λ m. Ok (cells m 0 3 5)) ≡ Ok (Empty ∷ Byte 254 ∷ Byte 255 ∷ Byte 255 ∷ Byte 255 ∷ [])
least_byte_first = refl

reads_word : (written >>= λ m. load_number m (at 0 4) I.Int) ≡ Ok 4294967294
reads_word = refl

reads_unsigned : (written >>= λ m. load_number m (at 0 4) I.ULong) ≡ Ok 4294967294
reads_unsigned = refl

reads_char : (written >>= λ m. load_number m (at 0 4) I.Char) ≡ Ok 254
reads_char = refl

reads_signed_char : (written >>= λ m. load_number m (at 0 4) I.SChar) ≡ Ok 4294967294
reads_signed_char = refl

reads_short : (written >>= λ m. load_number m (at 0 6) I.Short) ≡ Ok 4294967295
reads_short = refl

reads_unsigned_short : (written >>= λ m. load_number m (at 0 6) I.UShort) ≡ Ok 65535
reads_unsigned_short = refl

-- only the low bytes are stored
stores_low_bytes : (store_number start (at 1 2) I.Short 305419896 >>= λ m. Ok (cells m 1 0 4)) ≡ Ok (Empty ∷ Empty ∷ Byte 120 ∷ Byte 86 ∷ [])
stores_low_bytes = refl

reads_nothing : (written >>= λ m. load_number m (at 0 0) I.Int) ≡ Err K.Empty
reads_nothing = refl

reads_half : (store_number start (at 1 0) I.Short 1 >>= λ m. load_number m (at 1 0) I.Int) ≡ Err K.Empty
reads_half = refl

-- ---- pointers in memory

-- a pointer of type 7 in the local
abbrev holds_pointer : Tested Memory
holds_pointer = store_pointer start (at 1 0) 7 (at 0 4)

pointer_back : (holds_pointer >>= λ m. load_pointer m (at 1 0) 7) ≡ Ok (at 0 4)
pointer_back = refl

of_another_type : (holds_pointer >>= λ m. load_pointer m (at 1 0) 8) ≡ Err K.Pointer
of_another_type = refl

as_a_number : (holds_pointer >>= λ m. load_number m (at 1 0) I.Int) ≡ Err K.Pointer
as_a_number = refl

as_a_byte : (holds_pointer >>= λ m. load_number m (at 1 3) I.UChar) ≡ Err K.Pointer
as_a_byte = refl

-- a number as a pointer
no_pointer : (store_number start (at 1 0) I.Int 4 >>= λ m. load_pointer m (at 1 0) 7) ≡ Err K.Pointer
no_pointer = refl

zero_is_null : (store_number start (at 1 0) I.Int 0 >>= λ m. load_pointer m (at 1 0) 7) ≡ Ok P.Null
zero_is_null = refl

-- a null pointer that was stored has its type
null_of_a_type : (store_pointer start (at 1 0) 7 P.Null >>= λ m. load_pointer m (at 1 0) 7) ≡ Ok P.Null
null_of_a_type = refl

null_of_another_type : (store_pointer start (at 1 0) 7 P.Null >>= λ m. load_pointer m (at 1 0) 8) ≡ Err K.Pointer
null_of_another_type = refl

a_function : (store_pointer start (at 1 0) 9 (P.Function 3) >>= λ m. load_pointer m (at 1 0) 9) ≡ Ok (P.Function 3)
a_function = refl

-- one byte of a pointer is stored over
broken : (holds_pointer >>= λ m. store_number m (at 1 2) I.Char 0 >>= λ m. load_pointer m (at 1 0) 7) ≡ Err K.Pointer
broken = refl

-- of an empty cell and a fragment, the empty one decides
empty_first : (holds_pointer >>= λ m. copy m (at 1 1) (at 0 0) 1 false >>= λ m. load_pointer m (at 1 0) 7) ≡ Err K.Empty
empty_first = refl

-- ---- copies

fragments_move : (holds_pointer >>= λ m. copy m (at 0 4) (at 1 0) 4 false >>= λ m. load_pointer m (at 0 4) 7) ≡ Ok (at 0 4)
fragments_move = refl

-- a pointer that is copied in two halves
in_two_halves : (holds_pointer >>= λ m. copy m (at 0 6) (at 1 2) 2 false >>= λ m. copy m (at 0 4) (at 1 0) 2 false >>= λ m. load_pointer m (at 0 4) 7)
    ≡ Ok (at 0 4)
in_two_halves = refl

-- its halves in the wrong order
swapped : (holds_pointer >>= λ m. copy m (at 0 4) (at 1 2) 2 false >>= λ m. copy m (at 0 6) (at 1 0) 2 false >>= λ m. load_pointer m (at 0 4) 7)
    ≡ Err K.Pointer
swapped = refl

empty_cells_move : (written >>= λ m. copy m (at 0 4) (at 0 0) 4 false) ≡ Ok start
empty_cells_move = refl

overlapping : copy start (at 0 0) (at 0 2) 4 false ≡ Err K.Overlap
overlapping = refl

overlap_is_allowed : (store_number start (at 0 0) I.Int 67305985 >>= λ m. copy m (at 0 1) (at 0 0) 4 true >>= λ m. Ok (cells m 0 0 6))
    ≡ Ok (Byte 1 ∷ Byte 1 ∷ Byte 2 ∷ Byte 3 ∷ Byte 4 ∷ Empty ∷ [])
overlap_is_allowed = refl

-- beside each other they do not overlap
side_by_side : (store_number start (at 0 4) I.Int 0 >>= λ m. copy m (at 0 0) (at 0 4) 4 false >>= λ m. load_number m (at 0 0) I.Int) ≡ Ok 0
side_by_side = refl

-- what is written is tested before what is read, and both before the overlap
written_first : copy start (at 2 0) P.Null 2 false ≡ Err K.ReadOnly
written_first = refl

read_then : copy start (at 0 0) (at 0 6) 4 false ≡ Err K.Outside
read_then = refl

of_no_length : copy start P.Null P.Null 0 false ≡ Ok start
of_no_length = refl

filled : (fill start (at 1 1) 7 2 >>= λ m. Ok (cells m 1 0 4)) ≡ Ok (Empty ∷ Byte 7 ∷ Byte 7 ∷ Empty ∷ [])
filled = refl

fills_outside : fill start (at 1 1) 7 4 ≡ Err K.Outside
fills_outside = refl

-- ---- comparisons of ranges

same_bytes : (fill start (at 0 0) 255 8 >>= λ m. compare m (at 0 0) (at 0 4) 4) ≡ Ok (pos 0)
same_bytes = refl

less_bytes : (fill start (at 0 0) 7 4 >>= λ m. fill m (at 1 0) 9 2 >>= λ m. compare m (at 0 0) (at 1 0) 4) ≡ Ok (negsuc 0)
less_bytes = refl

-- bytes are unsigned, and those behind the first that differ are not loaded
greater_bytes : (fill start (at 0 0) 200 1 >>= λ m. fill m (at 1 0) 9 1 >>= λ m. compare m (at 0 0) (at 1 0) 4) ≡ Ok (pos 1)
greater_bytes = refl

-- the first argument's byte is loaded first
first_argument_first : (holds_pointer >>= λ m. compare m (at 1 0) (at 0 0) 4) ≡ Err K.Pointer
first_argument_first = refl

second_is_empty : (fill start (at 1 0) 9 4 >>= λ m. compare m (at 1 0) (at 0 0) 4) ≡ Err K.Empty
second_is_empty = refl

-- both whole ranges are tested before a byte is loaded
ranges_first : compare start (at 0 0) (at 1 1) 4 ≡ Err K.Outside
ranges_first = refl

-- ---- free

freed : free start (at 1 0) ≡ Err K.Free
freed = refl

freed_twice : (free start (at 0 0) >>= λ m. free m (at 0 0)) ≡ Err K.Free
freed_twice = refl

freed_inside : free start (at 0 4) ≡ Err K.Free
freed_inside = refl

frees_null : free start P.Null ≡ Ok start
frees_null = refl

frees_nothing : (free start (at 3 0) >>= λ m. free m (at 3 0)) ≡ Err K.Free
frees_nothing = refl

-- ---- arithmetic

one_past : stepped start (at 0 4) (pos 4) ≡ Ok (at 0 8)
one_past = refl

two_past : stepped start (at 0 4) (pos 8) ≡ Err K.Range
two_past = refl

back : stepped start (at 0 8) (negsuc 7) ≡ Ok (at 0 0)
back = refl

before : stepped start (at 0 0) (negsuc 0) ≡ Err K.Range
before = refl

null_stays : stepped start P.Null (pos 0) ≡ Ok P.Null
null_stays = refl

null_steps : stepped start P.Null (pos 1) ≡ Err K.Range
null_steps = refl

-- a dead block keeps its size
in_a_dead_block : stepped (with_end start 0) (at 0 4) (pos 4) ≡ Ok (at 0 8)
in_a_dead_block = refl

two_elements : difference (at 0 8) (at 0 0) 4 ≡ Ok (pos 2)
two_elements = refl

minus_two_elements : difference (at 0 0) (at 0 8) 4 ≡ Ok (negsuc 1)
minus_two_elements = refl

no_multiple : difference (at 0 7) (at 0 2) 4 ≡ Err K.Range
no_multiple = refl

of_two_blocks : difference (at 0 0) (at 1 0) 1 ≡ Err K.TwoBlocks
of_two_blocks = refl

from_null : difference P.Null P.Null 1 ≡ Err K.Range
from_null = refl

-- ---- comparisons of pointers

is_before : is_less start (at 0 4) (at 0 8) ≡ Ok true
is_before = refl

is_not_before : is_less start (at 0 4) (at 0 4) ≡ Ok false
is_not_before = refl

dead_order : is_less (with_end start 0) (at 0 0) (at 0 4) ≡ Err K.Dead
dead_order = refl

order_of_two_blocks : is_less (with_end start 0) (at 0 0) (at 1 0) ≡ Err K.TwoBlocks
order_of_two_blocks = refl

order_of_null : is_less start (at 0 0) P.Null ≡ Err K.Range
order_of_null = refl

same_place : are_equal start (at 0 4) (at 0 4) ≡ Ok true
same_place = refl

other_place : are_equal start (at 0 4) (at 0 8) ≡ Ok false
other_place = refl

other_block : are_equal start (at 0 0) (at 1 3) ≡ Ok false
other_block = refl

-- one past the end of a block
at_the_edge : are_equal start (at 0 8) (at 1 0) ≡ Err K.Edge
at_the_edge = refl

-- the beginning of a block without a byte is its end
empty_block : are_equal start (at 3 0) (at 1 0) ≡ Err K.Edge
empty_block = refl

dead_pointer : are_equal (with_end start 0) (at 0 0) (at 1 0) ≡ Err K.Dead
dead_pointer = refl

dead_itself : are_equal (with_end start 0) (at 0 0) (at 0 0) ≡ Err K.Dead
dead_itself = refl

dead_is_not_null : are_equal (with_end start 0) (at 0 0) P.Null ≡ Ok false
dead_is_not_null = refl

two_nulls : are_equal start P.Null P.Null ≡ Ok true
two_nulls = refl

same_function : are_equal start (P.Function 2) (P.Function 2) ≡ Ok true
same_function = refl

other_function : are_equal start (P.Function 2) (P.Function 3) ≡ Ok false
other_function = refl
