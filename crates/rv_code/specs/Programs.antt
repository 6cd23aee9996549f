-- The code of a program: how many words each function takes, where it lies, and its instructions.
use Rattle.std.specs.Prelude.{ℕ, ◌+◌, ◌*◌, ◌/◌, ◌^◌, ◌<◌, List, [], ◌∷◌, ◌++◌, length, map, reverse, slice_index, pos, All}
use Rattle.std.specs.List.{sum_by}
use Rattle.rv_isa.specs.Events.{code_address}
use Rattle.rv_isa.specs.declared.instruction.Inst.{Inst}
use Rattle.rv_isa.specs.declared.instruction.Inst.TheVariants.{Lui, Addi, Ecall}
use Rattle.tac_ir.specs.Code.{Code, RoutineData, code_of, data_of}
use Rattle.tac_ir.specs.declared.step.Step.{Step}
use Rattle.tac_ir.specs.declared.step.Tac.{Tac}
use Rattle.rv_code.specs.Code.{step_code, entry_code, function_code}
use Rattle.rv_code.specs.Frames.{block_places, end_from, frame_size, places_from}
use Rattle.rv_code.specs.Words.{call_code}
use Rattle.rv_code.specs.declared.layout.Layout.{Layout}
use Rattle.rv_code.specs.declared.layout.Places.{Places}

-- ---- how many words code takes, which is so wherever things lie

abbrev pub no_places : Places
no_places = record { objects = []; entries = [] }

abbrev pub frame_alone : RoutineData → Layout
frame_alone g = record { blocks = block_places g; size = frame_size g; texts = []; behind = []; end = 0 }

abbrev pub words_of : RoutineData → Step → ℕ
words_of g s = length (step_code no_places g (frame_alone g) s)

-- what is only declared has no code
abbrev pub words_of_all : RoutineData → List Step → ℕ
words_of_all g [] = 0
words_of_all g (s ∷ more) = length (entry_code (frame_alone g) g.parameters) + sum_by (words_of g) (s ∷ more)

abbrev pub words_of_function : RoutineData → ℕ
words_of_function g = words_of_all g g.code

-- ---- where things lie

-- the sums of no numbers, of the first, of the first two and so on, from n on
abbrev pub sums_from : (n : ℕ) → List ℕ → List ℕ
sums_from n [] = n ∷ []
sums_from n (k ∷ more) = n ∷ sums_from (n + k) more

-- how many words the code takes that is left, by how many steps are left
abbrev pub words_behind : RoutineData → List ℕ
words_behind g = sums_from 0 (map (words_of g) (reverse g.code))

-- the bytes of texts lie one behind the other, each at a multiple of 4
abbrev pub texts_from : (at : ℕ) → RoutineData → List ℕ
texts_from at g = places_from at (map length g.texts)

abbrev pub texts_end : (at : ℕ) → RoutineData → ℕ
texts_end at g = end_from at (map length g.texts)

abbrev pub layout_of : RoutineData → (entry texts : ℕ) → Layout
layout_of g entry texts = record {
  blocks = block_places g;
  size = frame_size g;
  texts = texts_from texts g;
  behind = words_behind g;
  end = entry + 4 * words_of_function g;
}

abbrev pub entries_from : (at : ℕ) → List RoutineData → List ℕ
entries_from at [] = []
entries_from at (g ∷ more) = at ∷ entries_from (at + 4 * words_of_function g) more

abbrev pub entries_end : (at : ℕ) → List RoutineData → ℕ
entries_end at [] = at
entries_end at (g ∷ more) = entries_end (at + 4 * words_of_function g) more

-- ---- the code of a program

-- `main` is called on an empty stack, and its value is the status of the program
abbrev pub start_code : (stack_end main : ℕ) → List Inst
start_code stack_end main = Lui 2 (stack_end / 2 ^ 12) ∷ (call_code main ++ (Addi 17 0 (pos 93) ∷ Ecall ∷ []))

abbrev pub first_entry : ℕ
first_entry = code_address + 20

-- of functions from a place on, whose texts lie from another place on
abbrev pub layouts_from : (at texts : ℕ) → List RoutineData → List Layout
layouts_from at texts [] = []
layouts_from at texts (g ∷ more) = layout_of g at texts ∷ layouts_from (at + 4 * words_of_function g) (texts_end texts g) more

abbrev pub functions_code : Places → List RoutineData → List Layout → List Inst
functions_code p [] layouts = []
functions_code p (g ∷ more) [] = []
functions_code p (g ∷ more) (l ∷ layouts) = function_code p g l ++ functions_code p more layouts

abbrev pub places_of : Code → (objects : List ℕ) → Places
places_of c objects = record { objects = objects; entries = entries_from first_entry c.routines }

abbrev pub program_code : Code → (stack_end : ℕ) → (objects : List ℕ) → (texts : ℕ) → List Inst
program_code c stack_end objects texts =
    start_code stack_end (slice_index (entries_from first_entry c.routines) c.main)
    ++ functions_code (places_of c objects) c.routines (layouts_from first_entry texts c.routines)

-- ---- within the parts of the address space

pub record IsSmall (g : RoutineData) : Type 0 where
  pub frame : frame_size g < 2 ^ 31
  pub parameters : length g.parameters < 2 ^ 32
  pub texts : All (λ bytes. length bytes < 2 ^ 32) g.texts

abbrev pub all_texts_end : (at : ℕ) → List RoutineData → ℕ
all_texts_end at [] = at
all_texts_end at (g ∷ more) = all_texts_end (texts_end at g) more

pub record AreSmall (t : Tac) (first_text : ℕ) : Type 0 where
  pub each : All (λ g. IsSmall (data_of g)) t.routines
  pub code : entries_end first_entry (code_of t).routines < 2 ^ 32
  pub texts : all_texts_end first_text (code_of t).routines < 2 ^ 32
