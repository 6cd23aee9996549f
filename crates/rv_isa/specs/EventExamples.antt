-- What a small program does with the heap.
use Rattle.std.proofs.Common.{refl}
use Rattle.std.specs.Prelude.{◌≡◌, ℕ, ◌/◌, ◌%◌, ◌^◌, List, [], ◌∷◌, map, replicate, ◌++◌, pos, negsuc}
use Rattle.rv_isa.specs.declared.image.Segment.{Segment}
use Rattle.rv_isa.specs.declared.instruction.Inst.{Inst}
use Rattle.rv_isa.specs.declared.instruction.Inst.TheVariants.{Lui, Jal, Jalr, Lb, Lh, Lw, Lbu, Lhu, Sb, Sh, Sw, Addi, Ebreak}
use Rattle.rv_isa.specs.Encoding.{encoding}
use Rattle.rv_isa.specs.Decoding.{decoded}
use Rattle.rv_isa.specs.Memory.{are_mapped, with_word}
use Rattle.rv_isa.specs.Step.{State, Break, step}
use Rattle.rv_isa.specs.Run.{start, run}
use Rattle.rv_isa.specs.Events.{MachineEvent, Request, Reply, Release, Load, Store, events}

abbrev bytes_of : List Inst → List ℕ
bytes_of [] = []
bytes_of (i ∷ is) = let w = encoding i in w % 2 ^ 8 ∷ w / 2 ^ 8 % 2 ^ 8 ∷ w / 2 ^ 16 % 2 ^ 8 ∷ w / 2 ^ 24 ∷ bytes_of is

-- malloc answers the heap's first address, which it reads before; its last word returns
abbrev malloc : Segment
malloc = record { at = 0x10400; size = 12; flags = 5; bytes = bytes_of (Lui 10 0x20000 ∷ Lw 5 10 (pos 0) ∷ Jal 0 (pos 500) ∷ []) }

abbrev malloc_end : Segment
malloc_end = record { at = 0x105FC; size = 4; flags = 5; bytes = bytes_of (Jalr 0 1 (pos 0) ∷ []) }

abbrev calloc_end : Segment
calloc_end = record { at = 0x107FC; size = 4; flags = 5; bytes = bytes_of (Jalr 0 1 (pos 0) ∷ []) }

abbrev free : Segment
free = record { at = 0x10800; size = 4; flags = 5; bytes = bytes_of (Jalr 0 1 (pos 0) ∷ []) }

abbrev code : Segment
code = record {
  at = 0x11000;
  size = 48;
  flags = 5;
  bytes = bytes_of (
      -- 8 bytes are asked for, at malloc's first word
      Addi 10 0 (pos 8) ∷
      Jal 1 (negsuc 3075) ∷
      -- a word is stored there, and one of its bytes loaded
      Sw 10 10 (pos 0) ∷
      Lbu 11 10 (pos 3) ∷
      -- a byte is stored outside the heap
      Lui 12 0x12 ∷
      Sb 12 10 (pos 1) ∷
      -- the 8 bytes are given back, at free's first word, and then a null pointer
      Jal 1 (negsuc 2071) ∷
      Addi 10 0 (pos 0) ∷
      Jal 1 (negsuc 2079) ∷
      Ebreak ∷
      -- 0x10000 times 0x10001 bytes are asked for, at calloc's first word
      Jal 1 (negsuc 2599) ∷
      -- a store that traps
      Sw 10 0 (pos 2) ∷
      []);
}

abbrev variables : Segment
variables = record { at = 0x12000; size = 4; flags = 6; bytes = [] }

abbrev heap : Segment
heap = record { at = 0x20000000; size = 16; flags = 6; bytes = [] }

abbrev segments : List Segment
segments = malloc ∷ malloc_end ∷ calloc_end ∷ free ∷ code ∷ variables ∷ heap ∷ []

abbrev at_start : State
at_start = start (record { entry = 0x11000; segments = segments }) []

-- the program runs to its break in 16 steps
it_ends : (run segments 16 at_start).standing ≡ Break 0x11024
unfolding run step are_mapped decoded
it_ends = refl

its_events : events segments 16 at_start ≡ Request 8 ∷ Reply 0x20000000 ∷ Store 0x20000000 4 ∷ Load 0x20000003 1 ∷ Release 0x20000000 ∷ []
unfolding events step are_mapped decoded
its_events = refl

-- ---- accesses

-- x10 is the heap's first address, and x11 is 5; the word at 0x11000 is that of an instruction
abbrev before : Inst → State
before i = record at_start { registers = replicate 10 0 ++ (0x20000000 ∷ 5 ∷ replicate 20 0); memory = with_word at_start.memory 0x11000 (encoding i) }

-- an instruction, and its access
abbrev accesses : List (Inst × MachineEvent)
accesses =
    (Lb 12 10 (pos 3), Load 0x20000003 1) ∷
    (Lbu 12 10 (pos 3), Load 0x20000003 1) ∷
    (Lh 12 10 (pos 2), Load 0x20000002 2) ∷
    (Lhu 12 10 (pos 2), Load 0x20000002 2) ∷
    (Lw 12 10 (pos 12), Load 0x2000000C 4) ∷
    (Sb 10 11 (pos 3), Store 0x20000003 1) ∷
    (Sh 10 11 (pos 2), Store 0x20000002 2) ∷
    (Sw 10 11 (pos 12), Store 0x2000000C 4) ∷
    []

each_access_has_its_width : map (λ row. events segments 1 (before row.0)) accesses ≡ map (λ row. row.1 ∷ []) accesses
unfolding events step are_mapped decoded
each_access_has_its_width = refl

-- ---- requests and replies

-- x1 and x10 have values, at a place
abbrev stands_at : (pc x1 x10 : ℕ) → State
stands_at pc x1 x10 = record at_start { registers = 0 ∷ x1 ∷ replicate 8 0 ++ (x10 ∷ replicate 21 0); pc = pc }

calloc_replies_by_its_last_word : events segments 1 (stands_at 0x107FC 0x11008 0x20000010) ≡ Reply 0x20000010 ∷ []
unfolding events step are_mapped decoded
calloc_replies_by_its_last_word = refl

-- the last word of malloc leads to a routine, not to code
a_return_to_the_runtime_is_no_reply : events segments 1 (stands_at 0x105FC 0x10404 0x20000010) ≡ []
unfolding events step are_mapped decoded
a_return_to_the_runtime_is_no_reply = refl

-- free's first word leads to that of malloc, of calloc and of free
the_runtime_makes_no_request : map (λ target. events segments 1 (stands_at 0x10800 target 8)) (0x10400 ∷ 0x10600 ∷ 0x10800 ∷ []) ≡ replicate 3 []
unfolding events step are_mapped decoded
the_runtime_makes_no_request = refl

-- the request is the whole product
calloc_asks_for_the_product : events segments 1 (record at_start { registers = replicate 10 0 ++ (0x10000 ∷ 0x10001 ∷ replicate 20 0); pc = 0x11028 })
    ≡ Request 0x100010000 ∷ []
unfolding events step are_mapped decoded
calloc_asks_for_the_product = refl

a_store_that_traps_is_none : events segments 1 (record at_start { registers = replicate 10 0 ++ (0x20000000 ∷ replicate 21 0); pc = 0x1102C }) ≡ []
unfolding events step are_mapped decoded
a_store_that_traps_is_none = refl
