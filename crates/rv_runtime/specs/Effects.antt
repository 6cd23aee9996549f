-- What routines find and leave: registers, the heap, bytes that are copied, filled and compared.
use Rattle.std.specs.Prelude.{◌≡◌, ℕ, zero, suc, ◌+◌, ◌-◌, ◌%◌, ◌^◌, ◌<◌, ◌≤◌, ◌⊎◌, true, nat_lt, if◌then◌else◌, List}
use Rattle.rv_isa.specs.declared.image.Segment.{Segment}
use Rattle.rv_isa.specs.Events.{code_address, heap_start}
use Rattle.rv_isa.specs.Memory.{Memory, readable, writable, are_mapped, word_at}
use Rattle.rv_runtime.specs.Routines.{data_place, head, taken}

-- ---- registers

-- a routine leaves all registers but x10 to x16 as they were
abbrev pub Leaves : (f g : ℕ → ℕ) → Type 0
Leaves f g = (r : ℕ) → (r < 10) ⊎ (17 ≤ r) → g r ≡ f r

-- x0 is 0, and x1 has a place in compiled code
pub record Returns (f : ℕ → ℕ) (place : ℕ) : Type 0 where
  pub nil : f 0 ≡ 0
  pub link : f 1 ≡ place
  pub whole : place % 4 ≡ 0
  pub code : code_address ≤ place
  pub small : place < 2 ^ 32

-- ---- memory

-- what the runtime's data say of the heap: its unused bytes begin and end at these addresses
pub record Heap (segments : List Segment) (memory : Memory) (unused end : ℕ) : Type 0 where
  pub begins : word_at memory data_place ≡ unused
  pub limit : word_at memory (data_place + 4) ≡ end
  pub whole : unused % 16 ≡ 0
  pub low : heap_start ≤ unused
  pub small : end ≤ 2 ^ 31
  pub reads : are_mapped segments readable data_place 8 ≡ true
  pub writes : are_mapped segments writable data_place 4 ≡ true

-- what is left of the heap, if anything, is less than a request for n bytes takes with its head
pub record NoRoom (segments : List Segment) (memory : Memory) (unused end n : ℕ) : Type 0 where
  pub heap : Heap segments memory unused end
  pub inside : unused ≤ end
  pub full : end < unused + head + taken n

-- each byte of a range is what the byte in the other range was, and nothing else changes
pub record Copied (before after : Memory) (to from n : ℕ) : Type 0 where
  pub inside : (i : ℕ) → i < n → after (to + i) ≡ before (from + i)
  pub outside : (a : ℕ) → (a < to) ⊎ (to + n ≤ a) → after a ≡ before a

-- each byte of a range is the low byte of a value, and nothing else changes
pub record Filled (before after : Memory) (to value n : ℕ) : Type 0 where
  pub inside : (i : ℕ) → i < n → after (to + i) ≡ value % 2 ^ 8
  pub outside : (a : ℕ) → (a < to) ⊎ (to + n ≤ a) → after a ≡ before a

-- minus one, 0 or 1, by the first two bytes that differ (C99 7.21.4.1)
unfoldable pub compared : Memory → (p q n : ℕ) → ℕ
compared memory p q zero = 0
compared memory p q (suc n) =
    if nat_lt (memory p) (memory q) then 2 ^ 32 - 1 else
    (if nat_lt (memory q) (memory p) then 1 else compared memory (p + 1) (q + 1) n)
