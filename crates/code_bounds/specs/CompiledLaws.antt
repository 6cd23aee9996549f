-- The laws of compiled code: how long it is, and how much room it takes.
use Rattle.std.specs.Prelude.{◌≡◌, ◌≢◌, ℕ, ◌+◌, ◌*◌, ◌^◌, ◌≤◌, ◌<◌, List, All, Some, None, length, map}
use Rattle.lay_base.specs.declared.place.File.{File}
use Rattle.c_typed.specs.Programs.{FunctionData, ProgramData}
use Rattle.c_meaning.specs.Program.{all_locals, object_size}
use Rattle.c_meaning.specs.Weights.{frame_of, size_of_locals}
use Rattle.c_link.specs.Programs.{IsProgramOf}
use Rattle.c_link.specs.Texts.{texts_in_functions}
use Rattle.c_well_typed.specs.ProgramWeights.Bounds.{IsProgramBounded}
use Rattle.c_well_typed.specs.ProgramWeights.Counted.{frame}
use Rattle.c_well_typed.specs.ProgramWeights.Weights.{weight_of_function}
use Rattle.c_well_typed.specs.WellTyped.{HasMain}
use Rattle.lower_tac.specs.Statements.{lowered}
use Rattle.rv_isa.specs.Events.{code_address}
use Rattle.rv_isa.specs.Encoding.{IsInRange}
use Rattle.tac_ir.specs.Code.{Code, RoutineData, code_of}
use Rattle.tac_ir.specs.declared.step.Parameter.{Parameter}
use Rattle.tac_ir.specs.declared.step.Step.{Step}
use Rattle.tac_ir.specs.declared.step.Tac.{Tac}
use Rattle.code_bounds.specs.LoweredLaws.{IsRoutineOf}
use Rattle.code_bounds.specs.Scopes.{HasScopes}
use Rattle.code_bounds.specs.Prices.{in_bytes, price_of, price_of_routine}
use Rattle.rv_code.specs.Code.{step_code, entry_code, function_code}
use Rattle.rv_code.specs.Frames.{end_from, frame_size}
use Rattle.rv_code.specs.Programs.{AreSmall, all_texts_end, entries_end, first_entry, layout_of, program_code, words_of, words_of_function}
use Rattle.rv_image.specs.Images.{Fits}
use Rattle.rv_code.specs.declared.layout.Layout.{Layout}
use Rattle.rv_code.specs.declared.layout.Places.{Places}

-- ---- how long code is does not depend on where things lie

-- frames of the same form
abbrev pub HaveSameFrames : (l m : Layout) → Type 0
HaveSameFrames l m = (l.blocks ≡ m.blocks) × (l.size ≡ m.size)

abbrev pub StepsAreAsLong : Type 0
StepsAreAsLong = (p q : Places) (g : RoutineData) (l m : Layout) → HaveSameFrames l m → (s : Step)
    → length (step_code p g l s) ≡ length (step_code q g m s)

abbrev pub EntriesAreAsLong : Type 0
EntriesAreAsLong = (l m : Layout) → HaveSameFrames l m → (all : List Parameter) → length (entry_code l all) ≡ length (entry_code m all)

abbrev pub FunctionsAreAsLong : Type 0
FunctionsAreAsLong = (p : Places) (g : RoutineData) (entry texts : ℕ) → length (function_code p g (layout_of g entry texts)) ≡ words_of_function g

-- so a program ends where its last function does
abbrev pub ProgramsAreAsLong : Type 0
ProgramsAreAsLong = (c : Code) (stack_end : ℕ) (objects : List ℕ) (texts : ℕ)
    → code_address + 4 * length (program_code c stack_end objects texts) ≡ entries_end first_entry c.routines

-- ---- each instruction has a word

abbrev pub CodeIsInRange : Type 0
CodeIsInRange = (c : Code) (stack_end : ℕ) (objects : List ℕ) (texts : ℕ) → stack_end < 2 ^ 32 → All IsInRange (program_code c stack_end objects texts)

-- ---- the code of a step costs no more than the step

abbrev pub WordsArePaid : Type 0
WordsArePaid = (g : RoutineData) (s : Step) → 4 * words_of g s ≤ price_of in_bytes s

abbrev pub FunctionsArePaid : Type 0
FunctionsArePaid = (g : RoutineData) → 4 * words_of_function g ≤ price_of_routine in_bytes g

-- the code of a program is within the bounds on nodes
abbrev pub CodeIsWithin : Type 0
CodeIsWithin = (p : ProgramData) → All HasScopes p.functions → HasMain p → IsProgramBounded p
    → entries_end first_entry (lowered p).routines ≤ code_address + 512 * p.nodes

-- ---- frames

-- the words for temporaries are within the weight of the frame, and blocks take at most four bytes for each byte of the locals
abbrev pub FramesAreSmall : Type 0
FramesAreSmall = (p : ProgramData) (r : RoutineData) (f : FunctionData) → IsRoutineOf p r f → HasScopes f → f.body ≢ None
    → frame_size r + 80 ≤ weight_of_function frame f + 4 * size_of_locals p (all_locals f)

-- so a frame is within what a call of the function weighs
abbrev pub FramesAreWeighed : Type 0
FramesAreWeighed = (p : ProgramData) → IsProgramBounded p → (r : RoutineData) (f : FunctionData) → IsRoutineOf p r f → HasScopes f → f.body ≢ None
    → frame_size r ≤ frame_of p (Some f)

-- ---- texts

-- the texts of compiled code take no more bytes than those of the source
abbrev pub TextsAreWithin : Type 0
TextsAreWithin = (p : ProgramData) (at : ℕ) → all_texts_end at (lowered p).routines ≤ at + texts_in_functions p.functions

-- ---- the code of a program of files keeps within the parts of the address space

abbrev pub ProgramIsSmall : (p : ProgramData) (t : Tac) (first_text : ℕ) → Type 0
ProgramIsSmall p t first_text = (files : List File) → IsProgramOf files p → code_of t ≡ lowered p → first_text < 2 ^ 31 → AreSmall t first_text

-- its code takes no more than 64 MiB
abbrev pub CodeFits : (p : ProgramData) (t : Tac) → Type 0
CodeFits p t = (files : List File) → IsProgramOf files p → code_of t ≡ lowered p → (stack_end : ℕ) (objects : List ℕ) (texts : ℕ)
    → 4 * length (program_code (code_of t) stack_end objects texts) ≤ 2 ^ 26

-- its objects, one behind the other, and the texts behind them take no more than 16 MiB
abbrev pub DataFits : Type 0
DataFits = (files : List File) (p : ProgramData) → IsProgramOf files p → (at : ℕ)
    → end_from at (map (object_size p) p.objects) + texts_in_functions p.functions ≤ at + 2 ^ 24

-- so its image is within the parts of the address space
abbrev pub ProgramFits : (p : ProgramData) (t : Tac) → Type 0
ProgramFits p t = (files : List File) → IsProgramOf files p → code_of t ≡ lowered p → Fits p t
