-- The bytes of a program's data: the runtime's own, the objects, each with what it holds at first, and the texts from which locals are initialized.
use Rattle.std.specs.Prelude.{ℕ, ◌+◌, ◌-◌, ◌*◌, ◌/◌, ◌%◌, ◌^◌, List, [], ◌∷◌, ◌++◌, Option, Some, None, length, map, replicate, slice_index, slice_set, take}
use Rattle.std.specs.Int.{w32, to_le_bytes}
use Rattle.c_types.specs.IntKinds.{width}
use Rattle.c_typed.specs.declared.program.Initial.{Initial}
use Rattle.c_typed.specs.declared.program.InitialValue.{InitialValue}
use Rattle.c_typed.specs.declared.program.InitialValue.TheVariants.{Number, Address, Function}
use Rattle.c_typed.specs.declared.program.Object.{Object}
use Rattle.c_typed.specs.Programs.{ProgramData}
use Rattle.c_meaning.specs.Program.{object_size}
use Rattle.rv_code.specs.Frames.{end_from, places_from, whole_words}
use Rattle.rv_code.specs.Programs.{all_texts_end}
use Rattle.rv_code.specs.declared.layout.Places.{Places}
use Rattle.rv_runtime.specs.Bytes.{data_bytes}
use Rattle.rv_runtime.specs.Routines.{data_place}
use Rattle.tac_ir.specs.Code.{Code, RoutineData}

-- ---- where objects and texts lie

-- the runtime has the first 256 bytes
abbrev pub objects_at : ℕ
objects_at = data_place + 256

abbrev pub object_sizes : ProgramData → List ℕ
object_sizes p = map (object_size p) p.objects

abbrev pub object_places : ProgramData → List ℕ
object_places p = places_from objects_at (object_sizes p)

abbrev pub texts_at : ProgramData → ℕ
texts_at p = end_from objects_at (object_sizes p)

-- ---- what stands there

-- bytes stand in a list from an index on, in place of others
abbrev pub put_bytes : (at : ℕ) → List ℕ → List ℕ → List ℕ
put_bytes at [] all = all
put_bytes at (byte ∷ more) all = put_bytes (at + 1) more (slice_set all at byte)

abbrev pub value_bytes : Places → InitialValue → List ℕ
value_bytes q (Number kind n) = take (width kind) (to_le_bytes w32 n)
value_bytes q (Address type object at) = to_le_bytes w32 ((slice_index q.objects object + at) % 2 ^ 32)
value_bytes q (Function type f) = to_le_bytes w32 (slice_index q.entries f)

module _ (q : Places) where
  abbrev pub put_values : (at : ℕ) → List Initial → List ℕ → List ℕ
  put_values at [] all = all
  put_values at (i ∷ more) all = put_values at more (put_bytes (at + i.offset) (value_bytes q i.value) all)

  abbrev pub put_initial : (at : ℕ) → Option (List Initial) → List ℕ → List ℕ
  put_initial at None all = all
  put_initial at (Some values) all = put_values at values all

  -- objects at their places
  abbrev pub put_objects : List Object → (places : List ℕ) → List ℕ → List ℕ
  put_objects [] places all = all
  put_objects (o ∷ more) [] all = all
  put_objects (o ∷ more) (at ∷ places) all = put_objects more places (put_initial (at - data_place) o.initial all)

-- texts one behind the other, each at a multiple of 4
abbrev pub put_texts : (at : ℕ) → List (List ℕ) → List ℕ → List ℕ
put_texts at [] all = all
put_texts at (text ∷ more) all = put_texts (at + whole_words (length text)) more (put_bytes (at - data_place) text all)

abbrev pub put_all_texts : (at : ℕ) → List RoutineData → List ℕ → List ℕ
put_all_texts at [] all = all
put_all_texts at (g ∷ more) all = put_all_texts (end_from at (map length g.texts)) more (put_texts at g.texts all)

-- ---- the data, whose length is a multiple of 16

abbrev pub data_size : ProgramData → Code → ℕ
data_size p c = (all_texts_end (texts_at p) c.routines - data_place + 15) / 16 * 16

-- the runtime's own data, and zeros for the rest
abbrev pub empty_data : ProgramData → Code → (heap_end : ℕ) → List ℕ
empty_data p c heap_end = data_bytes heap_end ++ replicate (data_size p c - 256) 0

abbrev pub data_of_program : ProgramData → Code → Places → (heap_end : ℕ) → List ℕ
data_of_program p c q heap_end = put_all_texts (texts_at p) c.routines (put_objects q p.objects q.objects (empty_data p c heap_end))
