-- The image of a program as the ground on which its code runs: its code stands there, and its texts do.
use Rattle.std.proofs.Common.{◌≡◌, ℕ, ◌+◌, ◌-◌, ◌*◌, ◌<◌, ◌≤◌, inl, inr, true, eqb, bit_and, List, [], ◌∷◌, ◌++◌, length, refl, ap, ◌∙◌, arith, length-append}
use Rattle.std.specs.Prelude.{Contains}
use Rattle.std.specs.Int.{w32, to_le_bytes}
use Rattle.std.proofs.lemmas.List.Elements.{recursion_from_All}
use Rattle.c_typed.specs.Programs.{ProgramData}
use Rattle.elf32.specs.Written.{data_address, heap_address, stack_address}
use Rattle.rv_isa.specs.declared.image.Segment.{Segment}
use Rattle.rv_isa.specs.declared.instruction.Inst.{Inst}
use Rattle.rv_isa.specs.Encoding.{IsInRange}
use Rattle.rv_isa.specs.Events.{code_address}
use Rattle.rv_isa.specs.Memory.{Memory, readable, writable, are_mapped, initial_memory}
use Rattle.rv_runtime.specs.Steps.States.{Code as Stand, code_end}
use Rattle.rv_runtime.specs.Bytes.{Holds, bytes_of, runtime_bytes, words_of}
use Rattle.rv_runtime.specs.Routines.{data_place}
use Rattle.rv_runtime.proofs.Standing.{holds_back, holds_front, runtime_stands}
use Rattle.tac_ir.specs.Code.{Code, code_of}
use Rattle.tac_ir.specs.declared.step.Tac.{Tac}
use Rattle.rv_code.specs.Programs.{all_texts_end, entries_end, first_entry, places_of, program_code}
use Rattle.rv_code.proofs.Lists.{end_is_behind}
use Rattle.rv_image.specs.Data.{data_of_program, data_size, empty_data, object_places, object_sizes, objects_at, put_objects, texts_at}
use Rattle.rv_image.specs.Images.{Fits, end_of_room, image_of, text_of_program}
use Rattle.rv_image.proofs.Fitting.{code_in_range}
use Rattle.rv_image.proofs.Lengths.{data_length, text_length}
use Rattle.rv_image.proofs.Walks.{all_ends_behind}
use Rattle.rv_emit.specs.Grounds.{Ground, InRoom}
use Rattle.rv_emit.specs.Relation.{Here, IsBuilt}
use Rattle.compiled_files.specs.Placing.{placed, room_of}
use Rattle.compiled_files.specs.Sound.{IsSound}
use Rattle.compiled_files.proofs.InImage.Building.{built_on}
use Rattle.code_bounds.specs.CompiledLaws.{StepsAreAsLong, FunctionsAreAsLong, ProgramsAreAsLong}
use Rattle.compiled_files.proofs.InImage.Segments.{text_executable, globals_mapped, stack_mapped, heap_mapped}
use Rattle.compiled_files.proofs.InImage.Segments.{quiet_loads, quiet_stores, told_loads, told_stores, text_holds, globals_hold}
use Rattle.compiled_files.proofs.InImage.Standing.{code_stands}
use Rattle.compiled_files.proofs.InImage.Texts.{all_texts_keep, placed_stand}

-- ---- lengths

bytes_length : (words : List ℕ) → length (bytes_of words) ≡ 4 * length words
bytes_length [] = refl
bytes_length (w ∷ words) = (let h = bytes_length words in omega (arith, length-append (to_le_bytes w32 w) (bytes_of words)))

words_length : (code : List Inst) → length (words_of code) ≡ length code
words_length [] = refl
words_length (i ∷ code) = (let h = words_length code in omega arith)

-- the runtime is as long as the text without the code
runtime_long : (p : ProgramData) (c : Code) (stack : ℕ) → length runtime_bytes ≡ 0x1000
runtime_long p c stack =
    let code = program_code c (end_of_room stack_address stack) (object_places p) (texts_at p) in
    let all : length (runtime_bytes ++ bytes_of (words_of code)) ≡ 4096 + 4 * length code = text_length p c stack in
    omega (arith, all, length-append runtime_bytes (bytes_of (words_of code)), bytes_length (words_of code), words_length code)

-- texts end behind the runtime's data
pub texts_far : (p : ProgramData) (c : Code) → data_place + 256 ≤ all_texts_end (texts_at p) c.routines
texts_far p c = omega (arith, end_is_behind objects_at (object_sizes p), all_ends_behind (texts_at p) c.routines)

module _ (p : ProgramData) (t : Tac) (heap stack : ℕ) (fits : Fits p t) (heap_high : heap ≤ 1024) (stack_high : stack ≤ 128) where
  abbrev c : Code
  c = code_of t

  abbrev text : List ℕ
  text = text_of_program p c stack

  abbrev globals : List ℕ
  globals = data_of_program p c (places_of c (object_places p)) (end_of_room heap_address heap)

  abbrev code : List Inst
  code = program_code c (end_of_room stack_address stack) (object_places p) (texts_at p)

  -- what the machine finds at first
  abbrev segments : List Segment
  segments = (image_of p c heap stack).segments

  abbrev memory : Memory
  memory = initial_memory segments

  pub text_low : 0x1000 ≤ length text
  text_low = omega (arith, text_length p c stack)

  pub data_long : data_address + length globals ≡ data_address + data_size p c
  data_long = omega (arith, data_length p c (places_of c (object_places p)) (end_of_room heap_address heap), texts_far p c)

  pub all_bytes : Holds memory 0x00010000 (runtime_bytes ++ bytes_of (words_of code))
  all_bytes = text_holds text globals heap stack

  pub in_room : (flag : ℕ) → eqb (bit_and 6 flag) flag ≡ true → (a k : ℕ) → InRoom (room_of p c heap stack) a k → are_mapped segments flag a k ≡ true
  in_room flag may a k is = elim is [
    | inl room ↦ globals_mapped text globals heap stack flag may a k room.0 (omega (arith, room.1, data_long))
    | inr (inl room) ↦ stack_mapped text globals heap stack flag may a k room.0 room.1
    | inr (inr room) ↦ heap_mapped text globals heap stack flag may a k room.0 room.1
  ]

  -- ---- the ground

  unfoldable pub ground : Ground
  ground = record {
    segments = segments;
    text = memory;
    room = room_of p c heap stack;
    runtime = runtime_stands segments memory (text_executable text globals heap stack 0x00010000 0x1000 (omega arith) (omega (arith, text_low)))
        (holds_front memory 0x00010000 runtime_bytes (bytes_of (words_of code)) all_bytes);
    data_low = omega (arith, texts_far p c);
    data_end = omega (arith, data_long, fits.globals (end_of_room heap_address heap));
    stack_end = omega arith;
    heap_end = omega arith;
    read = in_room readable refl;
    write = in_room writable refl;
    quiet_load = quiet_loads text globals heap stack;
    quiet_store = quiet_stores text globals heap stack;
    told_load = told_loads text globals heap stack;
    told_store = told_stores text globals heap stack;
  }

  pub ground_segments : ground.segments ≡ (image_of p (code_of t) heap stack).segments
  unfolding ground
  ground_segments = refl

  pub ground_text : ground.text ≡ initial_memory (image_of p (code_of t) heap stack).segments
  unfolding ground
  ground_text = refl

  pub ground_room : ground.room ≡ room_of p (code_of t) heap stack
  unfolding ground
  ground_room = refl

  -- ---- the code

  program_stands : Stand segments memory code_address code
  program_stands =
      let long = text_length p c stack in
      code_stands segments memory 0x00010000 (0x00010000 + length text) (omega (arith, fits.text stack))
      (λ a low high. text_executable text globals heap stack a 4 low high) code_address code (omega arith) (omega (arith, long))
      (recursion_from_All IsInRange code (code_in_range c stack (object_places p) (texts_at p) stack_high))
      (holds_back memory 0x00010000 0x1000 runtime_bytes (bytes_of (words_of code)) (runtime_long p c stack) all_bytes)

  pub program_here : Here ground (placed p (code_of t)) code_address code
  unfolding ground
  program_here = program_stands

  module _ (steps : StepsAreAsLong) (functions : FunctionsAreAsLong) (programs : ProgramsAreAsLong) where
    code_ends : entries_end first_entry c.routines < code_end
    code_ends =
        omega (arith, fits.text stack, text_length p c stack, programs c (end_of_room stack_address stack) (object_places p) (texts_at p))

    pub built : IsSound p (code_of t) → IsBuilt ground (placed p (code_of t))
    unfolding ground
    built sound = built_on steps functions ground p c (end_of_room stack_address stack) code_ends program_stands sound

  -- ---- the texts

  pub texts_hold : (at : ℕ) (bytes : List ℕ) → Contains (placed p (code_of t)).texts (at, bytes)
      → Holds (initial_memory (image_of p (code_of t) heap stack).segments) at bytes × (0x08000100 ≤ at)
      × (at + length bytes ≤ (room_of p (code_of t) heap stack).data_end)
  texts_hold at bytes is =
      let q = places_of c (object_places p) in
      let base = put_objects q p.objects q.objects (empty_data p c (end_of_room heap_address heap)) in
      let same : length globals ≡ length base = all_texts_keep (texts_at p) c.routines base in
      let low : objects_at ≤ texts_at p = end_is_behind objects_at (object_sizes p) in
      let shown = placed_stand (texts_at p) c.routines base (omega (arith, low)) (omega (arith, same, data_long)) at bytes is in
      let held = globals_hold text globals heap stack (fits.text stack) in (
        record {
          by = λ k lt.
              let e : at + k ≡ 0x08000000 + (at - data_place + k) = omega (arith, shown.0, low) in
              ap memory e ∙ held.by (at - data_place + k) (omega (arith, shown.0, shown.1, low, same, data_long)) ∙ shown.2 k lt;
        },
        omega (arith, shown.0, low),
        omega (arith, shown.1),
      )
