-- What stays as it is while a program runs: its text, and which addresses may be used.
use Rattle.std.specs.Prelude.{◌≡◌, ℕ, ◌+◌, ◌<◌, ◌≤◌, ◌⊎◌, true, List, [], ◌∷◌}
use Rattle.rv_isa.specs.declared.image.Segment.{Segment}
use Rattle.rv_isa.specs.Memory.{Memory, readable, writable, are_mapped}
use Rattle.rv_isa.specs.Events.{loads_at, stores_at, Load, Store}
use Rattle.rv_runtime.specs.Bytes.{Runtime}
use Rattle.rv_emit.specs.Maps.{Room}

-- so many bytes from an address on lie in the data, in the stack or in the heap
abbrev pub InRoom : Room → (a k : ℕ) → Type 0
InRoom room a k =
    ((0x08000000 ≤ a) × (a + k ≤ room.data_end)) ⊎ (((0x10000000 ≤ a) × (a + k ≤ room.stack_end)) ⊎ ((0x20000000 ≤ a) × (a + k ≤ room.heap_end)))

pub record Ground : Type 0 where
  pub segments : List Segment
  pub text : Memory
  pub room : Room
  pub runtime : Runtime segments text
  -- the parts of the address space lie apart
  pub data_low : 0x08000100 ≤ room.data_end
  pub data_end : room.data_end ≤ 0x10000000
  pub stack_end : room.stack_end ≤ 0x18000000
  pub heap_end : room.heap_end ≤ 0x60000000
  -- they may be read and written
  pub read : (a k : ℕ) → InRoom room a k → are_mapped segments readable a k ≡ true
  pub write : (a k : ℕ) → InRoom room a k → are_mapped segments writable a k ≡ true
  -- accesses are told in the heap alone
  pub quiet_load : (a k : ℕ) → a < 0x20000000 → loads_at segments a k ≡ []
  pub quiet_store : (a k : ℕ) → a < 0x20000000 → stores_at segments a k ≡ []
  pub told_load : (a k : ℕ) → 0x20000000 ≤ a → a < room.heap_end → loads_at segments a k ≡ Load a k ∷ []
  pub told_store : (a k : ℕ) → 0x20000000 ≤ a → a < room.heap_end → stores_at segments a k ≡ Store a k ∷ []
