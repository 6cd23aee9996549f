-- What each routine does, from its first word back to the caller.
use Rattle.std.specs.Prelude.{◌≡◌, ℕ, ◌+◌, ◌*◌, ◌%◌, ◌^◌, ◌<◌, ◌≤◌, ◌⊎◌, true, List, [], ◌∷◌}
use Rattle.rv_isa.specs.declared.image.Segment.{Segment}
use Rattle.rv_isa.specs.Events.{MachineEvent, Reply, code_address, malloc_entry, calloc_entry, free_entry, heap_start}
use Rattle.rv_isa.specs.Memory.{Memory, executable, readable, writable, are_mapped, with_word}
use Rattle.rv_isa.specs.Step.{Ends, Exits, Break, step}
use Rattle.rv_runtime.specs.Steps.States.{put, at, code_end, Keeps, Leads}
use Rattle.rv_runtime.specs.Bytes.{runtime_bytes, data_bytes, Holds, Runtime}
use Rattle.rv_runtime.specs.Effects.{Leaves, Returns, Heap, NoRoom, Copied, Filled, compared}
use Rattle.rv_runtime.specs.Routines.{start_entry, exit_entry, copy_entry, fill_entry, compare_entry, data_place, head, taken}

-- ---- where they stand

-- where the bytes stand in a text that is executable
abbrev pub RoutinesStand : Type 0
RoutinesStand = (segments : List Segment) (text : Memory) → are_mapped segments executable start_entry 0x1000 ≡ true → Holds text start_entry runtime_bytes
    → Runtime segments text

-- the whole heap is unused where the runtime's data stand
abbrev pub HeapBegins : Type 0
HeapBegins = (segments : List Segment) (memory : Memory) (end : ℕ) → end ≤ 2 ^ 31 → are_mapped segments readable data_place 8 ≡ true
    → are_mapped segments writable data_place 4 ≡ true → Holds memory data_place (data_bytes end) → Heap segments memory heap_start end

-- what a request for n bytes is given: a multiple of 16 in the heap, with room for them, and the heap is unused from behind them on
pub record BlockFits (segments : List Segment) (memory : Memory) (unused end n : ℕ) : Type 0 where
  pub whole : (unused + head) % 16 ≡ 0
  pub low : heap_start ≤ unused + head
  pub enough : n ≤ taken n
  pub rest : Heap segments (with_word memory data_place (unused + head + taken n)) (unused + head + taken n) end

-- where there is room
abbrev pub BlocksFit : Type 0
BlocksFit = (segments : List Segment) (memory : Memory) (unused end n : ℕ) → Heap segments memory unused end → unused + head + taken n ≤ end
    → BlockFits segments memory unused end n

-- ---- what they do

-- the state in which a routine is entered: the routines stand, and x1 has a place in compiled code
pub record Entered (segments : List Segment) (text memory : Memory) (registers : ℕ → ℕ) (place : ℕ) : Type 0 where
  pub runtime : Runtime segments text
  pub keeps : Keeps text memory
  pub returns : Returns registers place

-- it comes back to that place with an answer in x10, has made these events, and leaves all registers but x10 to x16, the input and the output as they were
pub record ComesBack (segments : List Segment) (memory after : Memory) (input output : List ℕ) (before : ℕ → ℕ) (entry place answer : ℕ)
    (made : List MachineEvent) : Type 0 where
  pub registers : ℕ → ℕ
  pub leads : Leads segments (at before entry memory input output) (at registers place after input output) made
  pub answers : registers 10 ≡ answer
  pub leaves : Leaves before registers

-- it stops at an EBREAK, has made no event, and leaves memory, the input and the output as they were
pub record Breaks (segments : List Segment) (memory : Memory) (input output : List ℕ) (before : ℕ → ℕ) (entry : ℕ) : Type 0 where
  pub registers : ℕ → ℕ
  pub place : ℕ
  pub leads : Leads segments (at before entry memory input output) (at registers place memory input output) []
  pub ends : step segments (at registers place memory input output) ≡ Ends (Break place)

module _ (segments : List Segment) (memory : Memory) (input output : List ℕ) (f : ℕ → ℕ) (place : ℕ) where
  -- malloc, where there is room for a head and the number of bytes in x10, rounded up
  abbrev pub MallocGives : (unused end : ℕ) → Type 0
  MallocGives unused end = Heap segments memory unused end → unused + head + taken (f 10) ≤ end
      → ComesBack segments memory (with_word memory data_place (unused + head + taken (f 10))) input output f malloc_entry place (unused + head)
      (Reply (unused + head) ∷ [])

  -- calloc, the same for the product of x10 and x11
  abbrev pub CallocGives : (unused end : ℕ) → Type 0
  CallocGives unused end = Heap segments memory unused end → f 10 * f 11 < 2 ^ 32 → unused + head + taken (f 10 * f 11) ≤ end
      → ComesBack segments memory (with_word memory data_place (unused + head + taken (f 10 * f 11))) input output f calloc_entry place (unused + head)
      (Reply (unused + head) ∷ [])

  -- malloc, where there is no room
  abbrev pub MallocBreaks : (unused end : ℕ) → Type 0
  MallocBreaks unused end = NoRoom segments memory unused end (f 10) → Breaks segments memory input output f malloc_entry

  -- calloc, where the product is no word, and where there is no room for it
  abbrev pub CallocBreaks : (unused end : ℕ) → Type 0
  CallocBreaks unused end = (2 ^ 32 ≤ f 10 * f 11) ⊎ NoRoom segments memory unused end (f 10 * f 11) → Breaks segments memory input output f calloc_entry

  -- free
  abbrev pub FreeDoesNothing : Type 0
  FreeDoesNothing = Leads segments (at f free_entry memory input output) (at f place memory input output) []

  -- x12 bytes are copied to x10 from x11, as they were
  abbrev pub CopyCopies : Type 0
  CopyCopies = f 10 + f 12 < 2 ^ 32 → f 11 + f 12 < 2 ^ 32 → (0 < f 12 → code_end ≤ f 10) → are_mapped segments readable (f 11) (f 12) ≡ true
      → are_mapped segments writable (f 10) (f 12) ≡ true
      → (after : Memory) × Copied memory after (f 10) (f 11) (f 12) × ComesBack segments memory after input output f copy_entry place (f 10) []

  -- x12 bytes from x10 on become the low byte of x11
  abbrev pub FillFills : Type 0
  FillFills = f 10 + f 12 < 2 ^ 32 → (0 < f 12 → code_end ≤ f 10) → are_mapped segments writable (f 10) (f 12) ≡ true
      → (after : Memory) × Filled memory after (f 10) (f 11) (f 12) × ComesBack segments memory after input output f fill_entry place (f 10) []

  -- x12 bytes from x10 and from x11 on are compared
  abbrev pub CompareAnswers : Type 0
  CompareAnswers = f 10 + f 12 < 2 ^ 32 → f 11 + f 12 < 2 ^ 32 → are_mapped segments readable (f 10) (f 12) ≡ true
      → are_mapped segments readable (f 11) (f 12) ≡ true
      → ComesBack segments memory memory input output f compare_entry place (compared memory (f 10) (f 11) (f 12)) []

-- each routine does that wherever it is entered
pub record RoutinesDo (segments : List Segment) (memory : Memory) (input output : List ℕ) (f : ℕ → ℕ) (place : ℕ) : Type 0 where
  pub malloc : (unused end : ℕ) → MallocGives segments memory input output f place unused end
  pub calloc : (unused end : ℕ) → CallocGives segments memory input output f place unused end
  pub malloc_breaks : (unused end : ℕ) → MallocBreaks segments memory input output f place unused end
  pub calloc_breaks : (unused end : ℕ) → CallocBreaks segments memory input output f place unused end
  pub free : FreeDoesNothing segments memory input output f place
  pub copy : CopyCopies segments memory input output f place
  pub fill : FillFills segments memory input output f place
  pub compare : CompareAnswers segments memory input output f place

abbrev pub RoutinesWork : Type 0
RoutinesWork = (segments : List Segment) (text memory : Memory) (input output : List ℕ) (f : ℕ → ℕ) (place : ℕ) → Entered segments text memory f place
    → RoutinesDo segments memory input output f place

-- the start leads to compiled code
abbrev pub StartLeads : Type 0
StartLeads = (segments : List Segment) (text memory : Memory) (input output : List ℕ) (f : ℕ → ℕ) → Runtime segments text → Keeps text memory
    → Leads segments (at f start_entry memory input output) (at f code_address memory input output) []

-- exit ends the run with the low byte of x10
abbrev pub ExitEnds : Type 0
ExitEnds = (segments : List Segment) (text memory : Memory) (input output : List ℕ) (f : ℕ → ℕ) → Runtime segments text → Keeps text memory → f 0 ≡ 0
    → Leads segments (at f exit_entry memory input output) (at (put f 17 93) (exit_entry + 4) memory input output) []
    × (step segments (at (put f 17 93) (exit_entry + 4) memory input output) ≡ Ends (Exits (f 10 % 2 ^ 8)))
