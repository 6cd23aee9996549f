-- Memory: the byte at each address, and which addresses a program may use for what.
use Rattle.std.specs.Prelude.{ℕ, zero, suc, ◌+◌, ◌-◌, ◌*◌, ◌/◌, ◌%◌, ◌^◌, nat_le, nat_lt, ◌==◌, ◌&&◌, Bool, true, if◌then◌else◌, List, [], ◌∷◌}
use Rattle.std.specs.Prelude.{length, slice_index, bit_and}
use Rattle.std.specs.List.{list_any}
use Rattle.rv_isa.specs.declared.image.Segment.{Segment}

-- ---- what is mapped

-- the flags of ELF's program header: execute, write, read
abbrev pub executable : ℕ
executable = 1

abbrev pub writable : ℕ
writable = 2

abbrev pub readable : ℕ
readable = 4

-- the address lies in the segment
abbrev pub is_in : Segment → ℕ → Bool
is_in segment address = nat_le segment.at address && nat_lt address (segment.at + segment.size)

-- some segment with the flag has the address
abbrev pub is_mapped : List Segment → (flag address : ℕ) → Bool
is_mapped segments flag address = list_any (λ segment. bit_and segment.flags flag == flag && is_in segment address) segments

-- each of n addresses from this one on is mapped
unfoldable pub are_mapped : List Segment → (flag address n : ℕ) → Bool
are_mapped segments flag address zero = true
are_mapped segments flag address (suc n) = is_mapped segments flag address && are_mapped segments flag (address + 1) n

-- ---- what stands there

abbrev pub Memory : Type 0
Memory = ℕ → ℕ

-- a segment's bytes, and zeros after them
abbrev pub initial_memory : List Segment → Memory
initial_memory [] address = 0
initial_memory (segment ∷ segments) address =
    if is_in segment address then slice_index segment.bytes (address - segment.at) else initial_memory segments address

-- four bytes, the lowest first
abbrev pub word_at : Memory → ℕ → ℕ
word_at memory a = memory a + 2 ^ 8 * memory (a + 1) + 2 ^ 16 * memory (a + 2) + 2 ^ 24 * memory (a + 3)

-- two bytes, the lowest first
abbrev pub half_at : Memory → ℕ → ℕ
half_at memory a = memory a + 2 ^ 8 * memory (a + 1)

-- the low byte of a value at an address
abbrev pub with_byte : Memory → (address value : ℕ) → Memory
with_byte memory a v b = if b == a then v % 2 ^ 8 else memory b

abbrev pub with_half : Memory → (address value : ℕ) → Memory
with_half memory a v = with_byte (with_byte memory a v) (a + 1) (v / 2 ^ 8)

abbrev pub with_word : Memory → (address value : ℕ) → Memory
with_word memory a v = with_byte (with_byte (with_byte (with_byte memory a v) (a + 1) (v / 2 ^ 8)) (a + 2) (v / 2 ^ 16)) (a + 3) (v / 2 ^ 24)

-- the n bytes from an address on
unfoldable pub bytes_at : Memory → (address n : ℕ) → List ℕ
bytes_at memory a zero = []
bytes_at memory a (suc n) = memory a ∷ bytes_at memory (a + 1) n

-- memory with a list of bytes from an address on
abbrev pub with_bytes : Memory → ℕ → List ℕ → Memory
with_bytes memory a bytes b = if nat_le a b && nat_lt b (a + length bytes) then slice_index bytes (b - a) else memory b
