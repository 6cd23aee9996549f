-- The image of a program: text, data, and room for the stack and the heap.
use Rattle.std.specs.Prelude.{ℕ, ◌+◌, ◌*◌, ◌^◌, ◌≤◌, List, [], ◌∷◌, ◌++◌, length}
use Rattle.c_typed.specs.Programs.{ProgramData}
use Rattle.elf32.specs.Written.{text_address, data_address, stack_address, heap_address}
use Rattle.rv_code.specs.Programs.{AreSmall, places_of, program_code}
use Rattle.rv_image.specs.Data.{data_of_program, data_size, object_places, texts_at}
use Rattle.rv_isa.specs.declared.image.Image.{Image}
use Rattle.rv_isa.specs.declared.image.Segment.{Segment}
use Rattle.rv_runtime.specs.Bytes.{bytes_of, runtime_bytes, words_of}
use Rattle.tac_ir.specs.Code.{Code, code_of}
use Rattle.tac_ir.specs.declared.step.Tac.{Tac}

-- so many MiB from an address on
abbrev pub end_of_room : (address mib : ℕ) → ℕ
end_of_room address mib = address + mib * 2 ^ 20

-- the runtime, and the code of the program
abbrev pub text_of_program : ProgramData → Code → (stack : ℕ) → List ℕ
text_of_program p c stack = runtime_bytes ++ bytes_of (words_of (program_code c (end_of_room stack_address stack) (object_places p) (texts_at p)))

abbrev pub full_segment : (at flags : ℕ) → List ℕ → Segment
full_segment at flags bytes = record { at = at; size = length bytes; flags = flags; bytes = bytes }

abbrev pub room_segment : (at mib : ℕ) → Segment
room_segment at mib = record { at = at; size = mib * 2 ^ 20; flags = 6; bytes = [] }

-- with so many MiB of heap and of stack
abbrev pub image_with : (text globals : List ℕ) → (heap stack : ℕ) → Image
image_with text globals heap stack = record {
  entry = text_address;
  segments = full_segment text_address 5 text
      ∷ full_segment data_address 6 globals
      ∷ room_segment stack_address stack
      ∷ room_segment heap_address heap
      ∷ [];
}

abbrev pub image_of : ProgramData → Code → (heap stack : ℕ) → Image
image_of p c heap stack = image_with (text_of_program p c stack)
    (data_of_program p c (places_of c (object_places p)) (end_of_room heap_address heap)) heap stack

-- the program fits into the parts of the address space
pub record Fits (p : ProgramData) (t : Tac) : Type 0 where
  pub small : AreSmall t (texts_at p)
  pub text : (stack : ℕ) → length (text_of_program p (code_of t) stack) ≤ 0x04001000
  pub globals : (heap_end : ℕ) → length (data_of_program p (code_of t) (places_of (code_of t) (object_places p)) heap_end) ≤ 0x02000100
