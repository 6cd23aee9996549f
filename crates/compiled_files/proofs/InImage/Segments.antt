-- An image of four segments: which addresses may be used for what, and what stands there at first.
use Rattle.std.proofs.Common.{◌≡◌, ℕ, ◌+◌, ◌-◌, ◌<◌, ◌≤◌, Bool, true, false, ◌&&◌, eqb, bit_and, List, [], ◌∷◌, length, refl, ap, arith, le-leb, lt-ltb}
use Rattle.std.specs.Prelude.{slice_index}
use Rattle.std.proofs.lemmas.Bool.{and_from, or_left, or_right}
use Rattle.std.proofs.lemmas.Bool.Decides.{nat_tests}
use Rattle.elf32.specs.Written.{text_address, data_address, stack_address, heap_address}
use Rattle.rv_image.specs.Images.{end_of_room, full_segment, room_segment}
use Rattle.rv_isa.specs.declared.image.Segment.{Segment}
use Rattle.rv_isa.specs.Memory.{executable, is_in, are_mapped, initial_memory}
use Rattle.rv_isa.specs.Events.{is_heap, loads_at, stores_at, Load, Store}
use Rattle.rv_runtime.proofs.Steps.Ranges.{mapped_each}
use Rattle.rv_runtime.specs.Bytes.{Holds}

-- ---- one segment

in_segment : (s : Segment) (a : ℕ) → s.at ≤ a → a < s.at + s.size → is_in s a ≡ true
in_segment s a low high = and_from _ _ (le-leb _ _ low) (lt-ltb _ _ high)

below_segment : (s : Segment) (a : ℕ) → a < s.at → is_in s a ≡ false
below_segment s a lt = grind (arith, nat_tests)

behind_segment : (s : Segment) (a : ℕ) → s.at + s.size ≤ a → is_in s a ≡ false
behind_segment s a le = grind (arith, nat_tests)

abbrev has : (flag address : ℕ) → Segment → Bool
has flag address segment = eqb (bit_and segment.flags flag) flag && is_in segment address

has_yes : (flag a : ℕ) (s : Segment) → eqb (bit_and s.flags flag) flag ≡ true → s.at ≤ a → a < s.at + s.size → has flag a s ≡ true
has_yes flag a s e low high = and_from _ _ e (in_segment s a low high)

-- ---- four segments

module _ (text globals : List ℕ) (heap stack : ℕ) where
  abbrev text_segment : Segment
  text_segment = full_segment text_address 5 text

  abbrev globals_segment : Segment
  globals_segment = full_segment data_address 6 globals

  abbrev stack_segment : Segment
  stack_segment = room_segment stack_address stack

  abbrev heap_segment : Segment
  heap_segment = room_segment heap_address heap

  abbrev pub four : List Segment
  four = text_segment ∷ globals_segment ∷ stack_segment ∷ heap_segment ∷ []

  pub text_executable : (a k : ℕ) → 0x00010000 ≤ a → a + k ≤ 0x00010000 + length text → are_mapped four executable a k ≡ true
  text_executable a k low high =
      mapped_each four executable a k (λ i lt. or_left (has executable (a + i) text_segment) _
      (has_yes executable (a + i) text_segment refl (omega arith) (omega arith)))

  module _ (flag : ℕ) (may : eqb (bit_and 6 flag) flag ≡ true) where
    pub globals_mapped : (a k : ℕ) → 0x08000000 ≤ a → a + k ≤ 0x08000000 + length globals → are_mapped four flag a k ≡ true
    globals_mapped a k low high =
        mapped_each four flag a k (λ i lt. or_right (has flag (a + i) text_segment) _
        (or_left (has flag (a + i) globals_segment) _ (has_yes flag (a + i) globals_segment may (omega arith) (omega arith))))

    pub stack_mapped : (a k : ℕ) → 0x10000000 ≤ a → a + k ≤ end_of_room 0x10000000 stack → are_mapped four flag a k ≡ true
    stack_mapped a k low high =
        mapped_each four flag a k (λ i lt. or_right (has flag (a + i) text_segment) _ (or_right (has flag (a + i) globals_segment) _
        (or_left (has flag (a + i) stack_segment) _ (has_yes flag (a + i) stack_segment may (omega arith) (omega arith)))))

    pub heap_mapped : (a k : ℕ) → 0x20000000 ≤ a → a + k ≤ end_of_room 0x20000000 heap → are_mapped four flag a k ≡ true
    heap_mapped a k low high =
        mapped_each four flag a k (λ i lt. or_right (has flag (a + i) text_segment) _ (or_right (has flag (a + i) globals_segment) _
        (or_right (has flag (a + i) stack_segment) _
        (or_left (has flag (a + i) heap_segment) _ (has_yes flag (a + i) heap_segment may (omega arith) (omega arith))))))

  -- ---- accesses are told in the heap alone

  below_heap : (a : ℕ) → a < 0x20000000 → is_heap four a ≡ false
  below_heap a lt = rw (below_segment heap_segment a lt) refl

  within_heap : (a : ℕ) → 0x20000000 ≤ a → a < end_of_room 0x20000000 heap → is_heap four a ≡ true
  within_heap a low high = rw (in_segment heap_segment a low high) refl

  pub quiet_loads : (a k : ℕ) → a < 0x20000000 → loads_at four a k ≡ []
  quiet_loads a k lt = rw (below_heap a lt) refl

  pub quiet_stores : (a k : ℕ) → a < 0x20000000 → stores_at four a k ≡ []
  quiet_stores a k lt = rw (below_heap a lt) refl

  pub told_loads : (a k : ℕ) → 0x20000000 ≤ a → a < end_of_room 0x20000000 heap → loads_at four a k ≡ Load a k ∷ []
  told_loads a k low high = rw (within_heap a low high) refl

  pub told_stores : (a k : ℕ) → 0x20000000 ≤ a → a < end_of_room 0x20000000 heap → stores_at four a k ≡ Store a k ∷ []
  told_stores a k low high = rw (within_heap a low high) refl

  -- ---- what stands there at first

  pub text_holds : Holds (initial_memory four) 0x00010000 text
  text_holds = record {
    by = λ k lt.
        let e = in_segment text_segment (0x00010000 + k) (omega arith) (omega arith) in
        let f : 0x00010000 + k - 0x00010000 ≡ k = omega arith in
        rw e (ap (slice_index text) f);
  }

  pub globals_hold : length text ≤ 0x04001000 → Holds (initial_memory four) 0x08000000 globals
  globals_hold small = record {
    by = λ k lt.
        let o = behind_segment text_segment (0x08000000 + k) (omega arith) in
        let e = in_segment globals_segment (0x08000000 + k) (omega arith) (omega arith) in
        let f : 0x08000000 + k - 0x08000000 ≡ k = omega arith in
        rw (o, e) (ap (slice_index globals) f);
  }
