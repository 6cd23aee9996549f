-- MALLOC and CALLOC where there is room.
use Rattle.std.proofs.Common.{◌≡◌, ℕ, zero, suc, ◌+◌, ◌-◌, ◌*◌, ◌/◌, ◌%◌, ◌^◌, ◌<◌, ◌≤◌, ◌≢◌, ◌⊎◌, inr, true, false, ltb, eqb, List, ◌∷◌, pos, negsuc}
use Rattle.std.proofs.Common.{refl, ap, sym, ◌∙◌, arith, le-ltb, lt-ltb, ltb-true, ltb-false, eq-eqb}
use Rattle.std.proofs.lemmas.Bool.{cond_both}
use Rattle.std.proofs.lemmas.Int.{ints}
use Rattle.rv_isa.specs.declared.image.Segment.{Segment}
use Rattle.rv_isa.specs.declared.instruction.Inst.TheVariants.{Lui, Jal, Jalr, Bne, Bltu, Bgeu, Lw, Sw, Addi, Add, Sub, Mul, Mulhu}
use Rattle.rv_isa.specs.Arithmetic.{plus}
use Rattle.rv_isa.specs.Memory.{Memory, readable, word_at, with_word}
use Rattle.rv_isa.specs.Step.{State}
use Rattle.rv_isa.specs.Events.{heap_start, MachineEvent, Reply, malloc_entry, calloc_entry}
use Rattle.rv_runtime.specs.Steps.States.{put, at, IsBackward, Code, Keeps}
use Rattle.rv_runtime.proofs.Steps.Ranges.{mapped_part}
use Rattle.rv_runtime.proofs.Steps.Registers.{put_other}
use Rattle.rv_runtime.proofs.Steps.Routines.{by_routine, puts_inside, loads_inside, stores_inside, jumps_inside}
use Rattle.rv_runtime.proofs.Steps.Words.{keeps_word, word_again, word_apart, word_same}
use Rattle.rv_runtime.specs.Bytes.{Runtime}
use Rattle.rv_runtime.specs.Effects.{Leaves, Returns, Heap}
use Rattle.rv_runtime.specs.Laws.{BlocksFit}
use Rattle.rv_runtime.specs.Routines.{rounded, taken, data_place, allocate_entry, allocate_code}
use Rattle.rv_runtime.proofs.Returning.{wider, still_returns, target_is, replies}
use Rattle.rv_runtime.proofs.Rounded.{powers, taken_is, taken_stopped, taken_whole}

-- ---- the heap behind an allocation, and behind what leaves the runtime's own data as they were

pub heap_moves : (segments : List Segment) (memory : Memory) (unused end top : ℕ) → Heap segments memory unused end → top < 2 ^ 32 → top % 16 ≡ 0
    → heap_start ≤ top → Heap segments (with_word memory data_place top) top end
heap_moves segments memory unused end top heap small whole low = record {
  begins = word_again memory data_place top small;
  limit = word_apart memory data_place top (data_place + 4) (inr (omega arith)) ∙ heap.limit;
  whole = whole;
  low = low;
  small = heap.small;
  reads = heap.reads;
  writes = heap.writes;
}

pub heap_stays : (segments : List Segment) (memory after : Memory) (unused end : ℕ) → Heap segments memory unused end
    → ((k : ℕ) → k < 8 → after (data_place + k) ≡ memory (data_place + k)) → Heap segments after unused end
heap_stays segments memory after unused end heap same = record {
  begins = word_same memory after data_place (λ k lt. same k (omega arith)) ∙ heap.begins;
  limit = word_same memory after (data_place + 4) (λ k lt.
      let e : data_place + 4 + k ≡ data_place + (4 + k) = omega arith in ap after e ∙ same (4 + k) (omega arith) ∙ ap memory (sym e)) ∙ heap.limit;
  whole = heap.whole;
  low = heap.low;
  small = heap.small;
  reads = heap.reads;
  writes = heap.writes;
}

pub blocks_fit : BlocksFit
blocks_fit segments memory unused end n heap room = record {
  whole = omega (arith, heap.whole);
  low = omega (arith, heap.low);
  enough = taken_stopped n (omega (arith, heap.small));
  rest =
      heap_moves segments memory unused end (unused + 16 + taken n) heap (omega (arith, heap.small)) (omega (arith, heap.whole, taken_whole n))
      (omega (arith, heap.low));
}

-- ---- the routines

-- the two words of a product that is a word
pub high_none : (m : ℕ) → m < 2 ^ 32 → m / 2 ^ 32 ≡ 0
high_none m lt = omega arith

pub low_all : (m : ℕ) → m < 2 ^ 32 → m % 2 ^ 32 ≡ m
low_all m lt = omega arith

module _ (segments : List Segment) (text : Memory) (Claim : ℕ → State → List MachineEvent → Type 0) (claim : IsBackward segments Claim)
    (runtime : Runtime segments text) (n : ℕ) (before : List MachineEvent) (memory : Memory) (input output : List ℕ) (keeps : Keeps text memory)
    (unused end : ℕ) (heap : Heap segments memory unused end) where
  abbrev S : (ℕ → ℕ) → ℕ → State
  S h pc = at h pc memory input output

  code : Code segments text allocate_entry allocate_code
  code = runtime.malloc.1.1

  -- x13 is doubled until it is no less than m, which is x10
  pub doubling : (m k q : ℕ) (h : ℕ → ℕ) → h 13 ≡ q → h 10 ≡ m → q < 2 ^ 32 → m ≤ 2 ^ 31 → m ≤ q * 2 ^ k
      → ((g : ℕ → ℕ) → g 13 ≡ rounded k q m → ((r : ℕ) → r ≢ 13 → g r ≡ h r) → Claim n (S g 0x10424) before) → Claim n (S h 0x10418) before
  unfolding rounded
  doubling m zero q h is arg small fits enough c =
      by_routine segments text Claim claim n (S h 0x10418) (S h 0x10424) before (Bgeu 13 10 (pos 12)) keeps code.1.1.1.1.0 refl
      (let t : ltb (h 13) (h 10) ≡ false = le-ltb (h 13) (h 10) (omega arith) in rw t refl) (c h is (λ r ne. refl))
  doubling m (suc k) q h is arg small fits enough c =
      cond_both (ltb q m) _ _
      (λ (v : ℕ). ((g : ℕ → ℕ) → g 13 ≡ v → ((r : ℕ) → r ≢ 13 → g r ≡ h r) → Claim n (S g 0x10424) before) → Claim n (S h 0x10418) before)
      (λ e c.
      let lt = ltb-true _ _ e in
      let g = put h 13 ((h 13 + h 13) % 2 ^ 32) in
      let twice : (h 13 + h 13) % 2 ^ 32 ≡ q + q = omega arith in
      by_routine segments text Claim claim n (S h 0x10418) (S h 0x1041C) before (Bgeu 13 10 (pos 12)) keeps code.1.1.1.1.0 refl
      (let t : ltb (h 13) (h 10) ≡ true = lt-ltb (h 13) (h 10) (omega arith) in rw t refl)
      (by_routine segments text Claim claim n (S h 0x1041C) (S g 0x10420) before (Add 13 13 13) keeps code.1.1.1.1.1.0 refl refl
      (by_routine segments text Claim claim n (S g 0x10420) (S g 0x10418) before (Jal 0 (negsuc 7)) keeps code.1.1.1.1.1.1.0 refl refl
      (doubling m k (q + q) g twice arg (omega arith) fits (omega (arith, powers q k))
      (λ i is' others. c i is' (λ r ne. others r ne ∙ put_other h 13 _ r ne))))))
      (λ e c.
      by_routine segments text Claim claim n (S h 0x10418) (S h 0x10424) before (Bgeu 13 10 (pos 12)) keeps code.1.1.1.1.0 refl
      (let t : ltb (h 13) (h 10) ≡ false = le-ltb (h 13) (h 10) (omega (arith, ltb-false _ _ e)) in rw t refl) (c h is (λ r ne. refl)))
      c

  -- memory behind an allocation
  abbrev N : (top : ℕ) → (ℕ → ℕ) → ℕ → State
  N top h pc = at h pc (with_word memory data_place top) input output

  -- a register that x10 to x15 are not
  other : (h : ℕ → ℕ) (r k v : ℕ) → (r < 10) ⊎ (16 ≤ r) → 10 ≤ k → k < 16 → put h k v r ≡ h r
  other h r k v away low high = put_other h k v r (λ d. omega arith)

  -- behind the loop, with the rounded number in x13
  takes : (f g : ℕ → ℕ) (size link : ℕ) → g 13 ≡ size → g 11 ≡ data_place → g 12 ≡ end → g 16 ≡ link → link % 4 ≡ 0 → link < 2 ^ 32
      → unused + 16 + size ≤ end → ((r : ℕ) → (r < 10) ⊎ (16 ≤ r) → g r ≡ f r)
      → ((h : ℕ → ℕ) → h 10 ≡ unused + 16 → ((r : ℕ) → (r < 10) ⊎ (16 ≤ r) → h r ≡ f r) → Claim n (N (unused + 16 + size) h link) before)
      → Claim n (S g 0x10424) before
  takes f g size link is13 is11 is12 is16 whole small room same c =
      let top = unused + 16 + size in
      let g1 = put g 14 unused in
      let g2 = put g1 15 (end - unused) in
      let g3 = put g2 13 (size + 16) in
      let g4 = put g3 15 top in
      let g5 = put g4 10 (unused + 16) in
      let kept = keeps_word text memory data_place top keeps (omega arith) in
      let at11 : plus (g 11) (pos 0) ≡ data_place = ap (λ (z : ℕ). plus z (pos 0)) is11 in
      let reads = mapped_part segments readable data_place 8 data_place 4 heap.reads (omega arith) (omega arith) in
      loads_inside segments text Claim claim n before g 0x10424 memory input output keeps refl (Lw 14 11 (pos 0)) code.1.1.1.1.1.1.1.0
      14 unused 4 (plus (g 11) (pos 0)) data_place (word_at memory) (omega arith) refl at11 refl reads heap.begins
      (puts_inside segments text Claim claim n before g1 0x10428 memory input output keeps refl (Sub 15 12 14) code.1.1.1.1.1.1.1.1.0
      15 (end - unused) ((g 12 + (2 ^ 32 - unused)) % 2 ^ 32) (omega arith) refl (omega (arith, heap.small))
      (puts_inside segments text Claim claim n before g2 0x1042C memory input output keeps refl (Addi 13 13 (pos 16)) code.1.1.1.1.1.1.1.1.1.0
      13 (size + 16) (plus (g 13) (pos 16)) (omega arith) refl (omega (arith, ints, heap.small))
      (by_routine segments text Claim claim n (S g3 0x10430) (S g3 0x10434) before (Bltu 15 13 (pos 20)) keeps code.1.1.1.1.1.1.1.1.1.1.0 refl
      (let t : ltb (end - unused) (size + 16) ≡ false = le-ltb (end - unused) (size + 16) (omega arith) in rw t refl)
      (puts_inside segments text Claim claim n before g3 0x10434 memory input output keeps refl (Add 15 14 13) code.1.1.1.1.1.1.1.1.1.1.1.0
      15 top ((unused + (size + 16)) % 2 ^ 32) (omega arith) refl (omega (arith, heap.small))
      (stores_inside segments text Claim claim n before g4 0x10438 memory input output keeps refl (Sw 11 15 (pos 0)) code.1.1.1.1.1.1.1.1.1.1.1.1.0
      4 (plus (g 11) (pos 0)) data_place (λ (z : ℕ). with_word memory z top) refl at11 refl heap.writes
      (puts_inside segments text Claim claim n before g4 0x1043C (with_word memory data_place top) input output kept refl (Addi 10 14 (pos 16))
      code.1.1.1.1.1.1.1.1.1.1.1.1.1.0 10 (unused + 16) (plus unused (pos 16)) (omega arith) refl (omega (arith, ints, heap.small))
      (jumps_inside segments text Claim claim n before g5 0x10440 (with_word memory data_place top) input output kept refl (Jalr 0 16 (pos 0))
      code.1.1.1.1.1.1.1.1.1.1.1.1.1.1.0 g5 (plus (g 16) (pos 0) / 2 * 2) link refl (target_is (g 16) link is16 whole small) whole
      (c g5 refl (λ r away. other g4 r 10 _ away (omega arith) (omega arith) ∙ other g3 r 15 _ away (omega arith) (omega arith)
      ∙ other g2 r 13 _ away (omega arith) (omega arith) ∙ other g1 r 15 _ away (omega arith) (omega arith) ∙ other g r 14 _ away (omega arith) (omega arith)
      ∙ same r away)))))))))

  -- all of allocate, for m bytes
  allocates : (m link : ℕ) (f : ℕ → ℕ) → f 0 ≡ 0 → f 10 ≡ m → f 16 ≡ link → link % 4 ≡ 0 → link < 2 ^ 32 → unused + 16 + taken m ≤ end
      → ((h : ℕ → ℕ) → h 10 ≡ unused + 16 → ((r : ℕ) → (r < 10) ⊎ (16 ≤ r) → h r ≡ f r) → Claim n (N (unused + 16 + taken m) h link) before)
      → Claim n (S f 0x10408) before
  allocates m link f nil is10 is16 whole small room c =
      let h1 = put f 11 data_place in
      let h2 = put h1 12 end in
      let h3 = put h2 13 16 in
      let covers : m ≤ taken m = taken_stopped m (omega (arith, heap.small)) in
      let reads = mapped_part segments readable data_place 8 (data_place + 4) 4 heap.reads (omega arith) (omega arith) in
      by_routine segments text Claim claim n (S f 0x10408) (S h1 0x1040C) before (Lui 11 0x08000) keeps code.0 refl refl
      (loads_inside segments text Claim claim n before h1 0x1040C memory input output keeps refl (Lw 12 11 (pos 4)) code.1.0
      12 end 4 (data_place + 4) (data_place + 4) (word_at memory) (omega arith) refl refl refl reads heap.limit
      (by_routine segments text Claim claim n (S h2 0x10410) (S h2 0x10414) before (Bltu 12 10 (pos 52)) keeps code.1.1.0 refl
      (let t : ltb end (f 10) ≡ false = le-ltb end (f 10) (omega arith) in rw t refl)
      (puts_inside segments text Claim claim n before h2 0x10414 memory input output keeps refl (Addi 13 0 (pos 16)) code.1.1.1.0
      13 16 (plus (f 0) (pos 16)) (omega arith) refl (ap (λ (z : ℕ). plus z (pos 16)) nil)
      (doubling m 28 16 h3 refl is10 (omega arith) (omega (arith, heap.small)) (omega (arith, heap.small))
      (λ g is others.
      takes f g (taken m) link (is ∙ taken_is m) (others 11 (λ d. omega arith)) (others 12 (λ d. omega arith)) (others 16 (λ d. omega arith) ∙ is16) whole small
      room
      (λ r away. others r (λ d. omega arith) ∙ other h2 r 13 _ away (omega arith) (omega arith) ∙ other h1 r 12 _ away (omega arith) (omega arith)
      ∙ other f r 11 _ away (omega arith) (omega arith))
      c)))))

  -- MALLOC: x10 bytes are given behind a head, and the unused heap begins behind them
  pub malloc_works : (f : ℕ → ℕ) (place : ℕ) → Returns f place → unused + 16 + taken (f 10) ≤ end
      → ((g : ℕ → ℕ) → g 10 ≡ unused + 16 → Leaves f g
      → Claim n (at g place (with_word memory data_place (unused + 16 + taken (f 10))) input output) (Reply (unused + 16) ∷ before))
      → Claim n (at f malloc_entry memory input output) before
  malloc_works f place back room c =
      let h = put f 16 0x10404 in
      let top = unused + 16 + taken (f 10) in
      let kept = keeps_word text memory data_place top keeps (omega arith) in
      by_routine segments text Claim claim n (S f 0x10400) (S h 0x10408) before (Jal 16 (pos 8)) keeps runtime.malloc.0 refl refl
      (allocates (f 10) 0x10404 h back.nil refl refl refl (omega arith) room
      (λ g is same.
      let leaves : Leaves f g = λ r away. same r (wider r 10 17 10 16 away (omega arith) (omega arith)) ∙ put_other f 16 _ r (λ d. omega arith) in
      by_routine segments text Claim claim n (N top g 0x10404) (N top g 0x105FC) before (Jal 0 (pos 504)) kept runtime.malloc.1.0 refl refl
      (replies segments text Claim claim n before g 0x105FC (with_word memory data_place top) input output kept runtime.malloc_last place
      (still_returns f g place back leaves) (unused + 16) refl refl is (c g is leaves))))

  -- CALLOC: as many bytes as the product of x10 and x11
  pub calloc_works : (f : ℕ → ℕ) (place : ℕ) → Returns f place → f 10 * f 11 < 2 ^ 32 → unused + 16 + taken (f 10 * f 11) ≤ end
      → ((g : ℕ → ℕ) → g 10 ≡ unused + 16 → Leaves f g
      → Claim n (at g place (with_word memory data_place (unused + 16 + taken (f 10 * f 11))) input output) (Reply (unused + 16) ∷ before))
      → Claim n (at f calloc_entry memory input output) before
  calloc_works f place back word room c =
      let m = f 10 * f 11 in
      let h1 = put f 12 0 in
      let h2 = put h1 10 m in
      let h3 = put h2 16 0x10610 in
      let top = unused + 16 + taken m in
      let kept = keeps_word text memory data_place top keeps (omega arith) in
      puts_inside segments text Claim claim n before f 0x10600 memory input output keeps refl (Mulhu 12 10 11) runtime.calloc.0
      12 0 (f 10 * f 11 / 2 ^ 32) (omega arith) refl (high_none m word)
      (by_routine segments text Claim claim n (S h1 0x10604) (S h1 0x10608) before (Bne 12 0 (pos 16)) keeps runtime.calloc.1.0 refl
      (let t : eqb 0 (f 0) ≡ true = eq-eqb 0 (f 0) (sym back.nil) in rw t refl)
      (puts_inside segments text Claim claim n before h1 0x10608 memory input output keeps refl (Mul 10 10 11) runtime.calloc.1.1.0
      10 m (f 10 * f 11 % 2 ^ 32) (omega arith) refl (low_all m word)
      (by_routine segments text Claim claim n (S h2 0x1060C) (S h3 0x10408) before (Jal 16 (negsuc 515)) keeps runtime.calloc.1.1.1.0 refl refl
      (allocates m 0x10610 h3 back.nil refl refl refl (omega arith) room
      (λ g is same.
      let leaves : Leaves f g = λ r away. same r (wider r 10 17 10 16 away (omega arith) (omega arith)) ∙ put_other h2 16 _ r (λ d. omega arith) ∙ put_other h1 10 _ r (λ d. omega arith)
      ∙ put_other f 12 _ r (λ d. omega arith) in
      by_routine segments text Claim claim n (N top g 0x10610) (N top g 0x107FC) before (Jal 0 (pos 492)) kept runtime.calloc.1.1.1.1.0 refl refl
      (replies segments text Claim claim n before g 0x107FC (with_word memory data_place top) input output kept runtime.calloc_last place
      (still_returns f g place back leaves) (unused + 16) refl refl is (c g is leaves)))))))
