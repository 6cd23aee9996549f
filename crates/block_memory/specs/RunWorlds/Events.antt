-- What a run is seen to do: one trace, the last event first, and what is read off it.
use Rattle.std.specs.Prelude.{ℕ, ◌+◌, ◌*◌, ◌==◌, Bool, true, false, ◌&&◌, List, [], ◌∷◌, ◌++◌, Option, None}

pub data Event : Type 0 where
  -- a byte is written (C99 7.19.7.9), or read, or the input is at its end (7.19.7.6)
  put : (byte : ℕ) → Event
  got : (byte : Option ℕ) → Event
  -- an allocation of so many bytes, by the number of its block: of so many elements of a record, where it is recognised as one
  allocated : (block : ℕ) → (elements : Option (ℕ × ℕ)) → (size : ℕ) → Event
  -- `free` of a pointer that is not null
  freed : (block : ℕ) → Event
  -- an expression of the program loads or stores a number or a pointer in an allocation, at an offset, of that width
  loaded : (block at width : ℕ) → Event
  stored : (block at width : ℕ) → Event
  -- the way to a field through a pointer is found in an allocation, the field at that offset
  reached : (block at : ℕ) → Event
  -- a function is entered by its number, and the one that was entered last is left; the body of a loop of a function begins
  entered : (function : ℕ) → Event
  left : Event
  began : (function loop : ℕ) → Event

-- ---- output

abbrev pub output_of : List Event → List ℕ
output_of [] = []
output_of (put byte ∷ before) = output_of before ++ byte ∷ []
output_of (event ∷ before) = output_of before

-- ---- calls of `putchar` and `getchar`

pub data Call : Type 0 where
  putting : (byte : ℕ) → Call
  getting : Call

abbrev pub calls_of : List Event → List Call
calls_of [] = []
calls_of (put byte ∷ before) = calls_of before ++ putting byte ∷ []
calls_of (got byte ∷ before) = calls_of before ++ getting ∷ []
calls_of (event ∷ before) = calls_of before

-- ---- counts

abbrev pub one_if : Bool → ℕ
one_if true = 1
one_if false = 0

-- how often a function was entered
abbrev pub entries_of : (function : ℕ) → List Event → ℕ
entries_of f [] = 0
entries_of f (entered g ∷ before) = entries_of f before + one_if (g == f)
entries_of f (event ∷ before) = entries_of f before

-- how often the body of a loop began
abbrev pub begins_of : (function loop : ℕ) → List Event → ℕ
begins_of f l [] = 0
begins_of f l (began g k ∷ before) = begins_of f l before + one_if (g == f && k == l)
begins_of f l (event ∷ before) = begins_of f l before

-- ---- what all languages have, functions among it, by which the stack is weighed. The source alone tells of loops and ways to fields, and of what is
-- allocated more than the bytes

abbrev pub shown : List Event → List Event
shown [] = []
shown (allocated block elements size ∷ before) = allocated block None size ∷ shown before
shown (reached block at ∷ before) = shown before
shown (began function loop ∷ before) = shown before
shown (event ∷ before) = event ∷ shown before

-- ---- weights (own)

-- of the heap: 16 for each byte that was asked for, and 256 for each allocation
abbrev pub heap_weight : List Event → ℕ
heap_weight [] = 0
heap_weight (allocated block elements size ∷ before) = heap_weight before + (16 * size + 256)
heap_weight (event ∷ before) = heap_weight before
