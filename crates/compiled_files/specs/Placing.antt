-- Where the code of a program, its objects and its texts stand in the image.
use Rattle.std.specs.Prelude.{ℕ, ◌+◌, List, [], ◌∷◌, ◌++◌}
use Rattle.c_typed.specs.Programs.{ProgramData}
use Rattle.elf32.specs.Written.{data_address, stack_address, heap_address}
use Rattle.rv_code.specs.Programs.{places_of, texts_end, texts_from}
use Rattle.rv_emit.specs.Maps.{Room}
use Rattle.rv_emit.specs.Relation.{Program}
use Rattle.rv_image.specs.Data.{data_size, object_places, texts_at}
use Rattle.rv_image.specs.Images.{end_of_room}
use Rattle.rv_isa.specs.Events.{code_address}
use Rattle.tac_ir.specs.Code.{Code, RoutineData}

-- each text with its place
abbrev pub with_places : (places : List ℕ) → (texts : List (List ℕ)) → List (ℕ × List ℕ)
with_places [] texts = []
with_places (at ∷ places) [] = []
with_places (at ∷ places) (text ∷ texts) = (at, text) ∷ with_places places texts

-- the texts of functions, one function behind the other
abbrev pub placed_texts : (at : ℕ) → List RoutineData → List (ℕ × List ℕ)
placed_texts at [] = []
placed_texts at (g ∷ more) = with_places (texts_from at g) g.texts ++ placed_texts (texts_end at g) more

-- behind the call of `main`, which is the third instruction
abbrev pub end_place : ℕ
end_place = code_address + 12

abbrev pub placed : ProgramData → Code → Program
placed p c = record {
  types = p.types;
  code = c;
  places = places_of c (object_places p);
  end_place = end_place;
  texts = placed_texts (texts_at p) c.routines;
}

-- with so many MiB of heap and of stack
abbrev pub room_of : ProgramData → Code → (heap stack : ℕ) → Room
room_of p c heap stack = record {
  data_end = data_address + data_size p c;
  stack_end = end_of_room stack_address stack;
  heap_end = end_of_room heap_address heap;
}
