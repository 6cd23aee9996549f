-- MALLOC and CALLOC where there is no room.
use Rattle.std.proofs.Common.{◌≡◌, ℕ, ◌+◌, ◌-◌, ◌*◌, ◌/◌, ◌%◌, ◌^◌, ◌<◌, ◌≤◌, ◌⊎◌, inl, inr, true, false, ltb, eqb, List, pos, negsuc}
use Rattle.std.proofs.Common.{refl, ap, sym, ◌∙◌, arith, le-ltb, lt-ltb, eq-eqb, ne_eqb}
use Rattle.std.proofs.lemmas.Bool.{cases_lt}
use Rattle.std.proofs.lemmas.Int.{ints}
use Rattle.rv_isa.specs.declared.image.Segment.{Segment}
use Rattle.rv_isa.specs.declared.instruction.Inst.TheVariants.{Lui, Jal, Bne, Bltu, Lw, Addi, Sub, Mul, Mulhu, Ebreak}
use Rattle.rv_isa.specs.Arithmetic.{plus}
use Rattle.rv_isa.specs.Memory.{Memory, readable, word_at}
use Rattle.rv_isa.specs.Step.{State}
use Rattle.rv_isa.specs.Events.{MachineEvent, malloc_entry, calloc_entry}
use Rattle.rv_runtime.specs.Steps.States.{put, at, IsBackward, Code, Keeps, Stands}
use Rattle.rv_runtime.proofs.Steps.Ranges.{mapped_part}
use Rattle.rv_runtime.proofs.Steps.Routines.{by_routine, puts_inside, loads_inside}
use Rattle.rv_runtime.specs.Bytes.{Runtime}
use Rattle.rv_runtime.specs.Effects.{Returns, Heap, NoRoom}
use Rattle.rv_runtime.specs.Routines.{taken, data_place, allocate_entry, allocate_code}
use Rattle.rv_runtime.proofs.Allocation.{doubling, high_none, low_all}
use Rattle.rv_runtime.proofs.Rounded.{taken_is, taken_small}

module _ (segments : List Segment) (text : Memory) (Claim : ℕ → State → List MachineEvent → Type 0) (claim : IsBackward segments Claim)
    (runtime : Runtime segments text) (n : ℕ) (before : List MachineEvent) (memory : Memory) (input output : List ℕ) (keeps : Keeps text memory) where
  abbrev S : (ℕ → ℕ) → ℕ → State
  S h pc = at h pc memory input output

  code : Code segments text allocate_entry allocate_code
  code = runtime.malloc.1.1

  -- what is claimed of every state at an EBREAK with the same memory, input and output
  abbrev Stops : Type 0
  Stops = (g : ℕ → ℕ) (pc : ℕ) → Stands segments text pc Ebreak → Claim n (S g pc) before

  -- behind the loop, with the rounded number in x13: with a head it is more than is left
  refuses : (unused end : ℕ) → Heap segments memory unused end → unused ≤ end → (g : ℕ → ℕ) (size : ℕ) → g 13 ≡ size → g 11 ≡ data_place → g 12 ≡ end
      → size ≤ 2 ^ 31 → end < unused + 16 + size → Stops → Claim n (S g 0x10424) before
  refuses unused end heap inside g size is13 is11 is12 small full c =
      let g1 = put g 14 unused in
      let g2 = put g1 15 (end - unused) in
      let g3 = put g2 13 (size + 16) in
      let at11 : plus (g 11) (pos 0) ≡ data_place = ap (λ (z : ℕ). plus z (pos 0)) is11 in
      let reads = mapped_part segments readable data_place 8 data_place 4 heap.reads (omega arith) (omega arith) in
      loads_inside segments text Claim claim n before g 0x10424 memory input output keeps refl (Lw 14 11 (pos 0)) code.1.1.1.1.1.1.1.0
      14 unused 4 (plus (g 11) (pos 0)) data_place (word_at memory) (omega arith) refl at11 refl reads heap.begins
      (puts_inside segments text Claim claim n before g1 0x10428 memory input output keeps refl (Sub 15 12 14) code.1.1.1.1.1.1.1.1.0
      15 (end - unused) ((g 12 + (2 ^ 32 - unused)) % 2 ^ 32) (omega arith) refl (omega (arith, heap.small))
      (puts_inside segments text Claim claim n before g2 0x1042C memory input output keeps refl (Addi 13 13 (pos 16)) code.1.1.1.1.1.1.1.1.1.0
      13 (size + 16) (plus (g 13) (pos 16)) (omega arith) refl (omega (arith, ints))
      (by_routine segments text Claim claim n (S g3 0x10430) (S g3 0x10444) before (Bltu 15 13 (pos 20)) keeps code.1.1.1.1.1.1.1.1.1.1.0 refl
      (let t : ltb (end - unused) (size + 16) ≡ true = lt-ltb (end - unused) (size + 16) (omega arith) in rw t refl)
      (c g3 0x10444 code.1.1.1.1.1.1.1.1.1.1.1.1.1.1.1.0))))

  -- all of allocate, for m bytes. Those that are rounded are no more than 2 ^ 31, so the rounded number and its head are a word
  allocate_stops : (unused end m : ℕ) (f : ℕ → ℕ) → NoRoom segments memory unused end m → f 0 ≡ 0 → f 10 ≡ m → Stops → Claim n (S f 0x10408) before
  allocate_stops unused end m f room nil is10 c =
      let h1 = put f 11 data_place in
      let h2 = put h1 12 end in
      let h3 = put h2 13 16 in
      let heap = room.heap in
      let reads = mapped_part segments readable data_place 8 (data_place + 4) 4 heap.reads (omega arith) (omega arith) in
      by_routine segments text Claim claim n (S f 0x10408) (S h1 0x1040C) before (Lui 11 0x08000) keeps code.0 refl refl
      (loads_inside segments text Claim claim n before h1 0x1040C memory input output keeps refl (Lw 12 11 (pos 4)) code.1.0
      12 end 4 (data_place + 4) (data_place + 4) (word_at memory) (omega arith) refl refl refl reads heap.limit
      (elim (cases_lt end m) [
        -- a request above the heap's end is not rounded
        | inl past ↦ by_routine segments text Claim claim n (S h2 0x10410) (S h2 0x10444) before (Bltu 12 10 (pos 52)) keeps code.1.1.0 refl
            (let t : ltb end (f 10) ≡ true = lt-ltb end (f 10) (omega arith) in rw t refl)
            (c h2 0x10444 code.1.1.1.1.1.1.1.1.1.1.1.1.1.1.1.0)
        | inr within ↦ by_routine segments text Claim claim n (S h2 0x10410) (S h2 0x10414) before (Bltu 12 10 (pos 52)) keeps code.1.1.0 refl
            (let t : ltb end (f 10) ≡ false = le-ltb end (f 10) (omega arith) in rw t refl)
            (puts_inside segments text Claim claim n before h2 0x10414 memory input output keeps refl (Addi 13 0 (pos 16)) code.1.1.1.0
            13 16 (plus (f 0) (pos 16)) (omega arith) refl (ap (λ (z : ℕ). plus z (pos 16)) nil)
            (doubling segments text Claim claim runtime n before memory input output keeps unused end heap m 28 16 h3 refl is10 (omega arith)
            (omega (arith, heap.small)) (omega (arith, heap.small))
            (λ g is others.
            refuses unused end heap room.inside g (taken m) (is ∙ taken_is m) (others 11 (λ d. omega arith)) (others 12 (λ d. omega arith))
            (taken_small m (omega (arith, heap.small))) room.full c)))
      ]))

  -- MALLOC, for x10 bytes
  pub malloc_stops : (f : ℕ → ℕ) (place : ℕ) → Returns f place → (unused end : ℕ) → NoRoom segments memory unused end (f 10)
      → ((g : ℕ → ℕ) (pc : ℕ) → Stands segments text pc Ebreak → Claim n (at g pc memory input output) before)
      → Claim n (at f malloc_entry memory input output) before
  malloc_stops f place back unused end room c =
      let h = put f 16 0x10404 in
      by_routine segments text Claim claim n (S f 0x10400) (S h 0x10408) before (Jal 16 (pos 8)) keeps runtime.malloc.0 refl refl
      (allocate_stops unused end (f 10) h room back.nil refl c)

  -- CALLOC, where the product of x10 and x11 is no word: the word above it is not 0
  product_stops : (f : ℕ → ℕ) (place : ℕ) → Returns f place → 2 ^ 32 ≤ f 10 * f 11 → Stops → Claim n (S f 0x10600) before
  product_stops f place back past c =
      let above = f 10 * f 11 / 2 ^ 32 in
      let h = put f 12 above in
      puts_inside segments text Claim claim n before f 0x10600 memory input output keeps refl (Mulhu 12 10 11) runtime.calloc.0
      12 above above (omega arith) refl refl
      (by_routine segments text Claim claim n (S h 0x10604) (S h 0x10614) before (Bne 12 0 (pos 16)) keeps runtime.calloc.1.0 refl
      (let t : eqb above (f 0) ≡ false = ne_eqb above (f 0) (λ e. omega (arith, high_some (f 10 * f 11) past, back.nil)) in rw t refl)
      (c h 0x10614 runtime.calloc.1.1.1.1.1.0))
    where
      high_some : (m : ℕ) → 2 ^ 32 ≤ m → 0 < m / 2 ^ 32
      high_some m le = omega arith

  -- where it is a word, but there is no room for as many bytes
  word_stops : (f : ℕ → ℕ) (place : ℕ) → Returns f place → f 10 * f 11 < 2 ^ 32 → (unused end : ℕ) → NoRoom segments memory unused end (f 10 * f 11) → Stops
      → Claim n (S f 0x10600) before
  word_stops f place back word unused end room c =
      let m = f 10 * f 11 in
      let h1 = put f 12 0 in
      let h2 = put h1 10 m in
      let h3 = put h2 16 0x10610 in
      puts_inside segments text Claim claim n before f 0x10600 memory input output keeps refl (Mulhu 12 10 11) runtime.calloc.0
      12 0 (f 10 * f 11 / 2 ^ 32) (omega arith) refl (high_none m word)
      (by_routine segments text Claim claim n (S h1 0x10604) (S h1 0x10608) before (Bne 12 0 (pos 16)) keeps runtime.calloc.1.0 refl
      (let t : eqb 0 (f 0) ≡ true = eq-eqb 0 (f 0) (sym back.nil) in rw t refl)
      (puts_inside segments text Claim claim n before h1 0x10608 memory input output keeps refl (Mul 10 10 11) runtime.calloc.1.1.0
      10 m (f 10 * f 11 % 2 ^ 32) (omega arith) refl (low_all m word)
      (by_routine segments text Claim claim n (S h2 0x1060C) (S h3 0x10408) before (Jal 16 (negsuc 515)) keeps runtime.calloc.1.1.1.0 refl refl
      (allocate_stops unused end m h3 room back.nil refl c))))

  -- CALLOC, in both cases
  pub calloc_stops : (f : ℕ → ℕ) (place : ℕ) → Returns f place → (unused end : ℕ)
      → (2 ^ 32 ≤ f 10 * f 11) ⊎ NoRoom segments memory unused end (f 10 * f 11)
      → ((g : ℕ → ℕ) (pc : ℕ) → Stands segments text pc Ebreak → Claim n (at g pc memory input output) before)
      → Claim n (at f calloc_entry memory input output) before
  calloc_stops f place back unused end (inl past) c = product_stops f place back past c
  calloc_stops f place back unused end (inr room) c = elim (cases_lt (f 10 * f 11) (2 ^ 32)) [
    | inl word ↦ word_stops f place back word unused end room c
    | inr past ↦ product_stops f place back past c
  ]
