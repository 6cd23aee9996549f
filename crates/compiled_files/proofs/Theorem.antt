-- The file of the image of a program of files is one of the program: by the laws of the crates below.
use Rattle.std.proofs.Common.{ℕ, ◌<◌, ◌^◌, All, List, sym, subst}
use Rattle.c_meaning.specs.Longer.{HadRoom}
use Rattle.c_meaning.specs.Run.{run}
use Rattle.c_well_typed.specs.Printable.Laws.{ProgramIsPrintable}
use Rattle.c_typed.specs.Programs.{ProgramData}
use Rattle.c_well_typed.specs.Laws.{ProgramIsWellTyped}
use Rattle.c_well_typed.specs.ProgramWeights.Bounds.{ProgramsAreBounded}
use Rattle.c_well_typed.specs.Within.{InitialsLieWithin}
use Rattle.code_bounds.specs.CompiledLaws.{FramesAreWeighed, FunctionsAreAsLong, ProgramFits, ProgramsAreAsLong, StepsAreAsLong}
use Rattle.code_bounds.specs.LoweredLaws.{JumpsStand, KindsStand, TypedHaveScopes}
use Rattle.lower_tac.specs.Same.{RunsAreSame}
use Rattle.tac_ir.specs.Code.{Code, code_of}
use Rattle.tac_ir.specs.declared.step.Tac.{Tac}
use Rattle.compiled_files.specs.CodeRuns.Laws.{EarlierFits, LightRunsFit, RunsAdd, StepsAdd}
use Rattle.compiled_files.specs.CodeRuns.Room.{AllocationHasRoom, AreWithin, CallHasRoom}
use Rattle.compiled_files.specs.Laws.{ImageIsOfProgram}
use Rattle.compiled_files.specs.Sound.{IsSound}
use Rattle.compiled_files.proofs.Composed.{file_is}
use Rattle.compiled_files.proofs.Room.{frame_in}
use Rattle.compiled_files.proofs.Soundness.Sound.{sound}
use Rattle.compiled_files.proofs.Starting.Bytes.{memory_holds_bytes}
use Rattle.compiled_files.proofs.Weighed.{frames_within}

-- what is known of a program of files
pub record IsKnown (p : ProgramData) : Type 0 where
  pub typed : ProgramIsWellTyped p
  pub printable : ProgramIsPrintable p
  pub bounded : ProgramsAreBounded
  pub initials : InitialsLieWithin

-- ... of lowered code
pub record AreLowered : Type 0 where
  pub jumps : JumpsStand
  pub kinds : KindsStand
  pub scopes : TypedHaveScopes
  pub steps_long : StepsAreAsLong
  pub functions_long : FunctionsAreAsLong
  pub programs_long : ProgramsAreAsLong
  pub frames : FramesAreWeighed

-- ... and of runs
pub record AreRuns : Type 0 where
  pub same : RunsAreSame
  pub adds : RunsAdd
  pub steps_add : StepsAdd
  pub earlier : EarlierFits
  pub light : LightRunsFit
  pub calls : CallHasRoom
  pub allocations : AllocationHasRoom
  pub room : (p : ProgramData) → (input : List ℕ) → (turns : ℕ) → HadRoom (run p input turns)

pub image_is_of_program : (p : ProgramData) (t : Tac) → ProgramFits p t → IsKnown p → AreLowered → AreRuns → ImageIsOfProgram p t
image_is_of_program p t program_fits known code runs files is lowers small heap stack heap_high stack_high elf bytes is_file loads =
    let fits = program_fits files is lowers in
    let typed = (known.typed files is).lists.functions in
    let is_sound : IsSound p (code_of t) =
    subst (IsSound p) (sym lowers) (sound files p is known.typed known.printable small code.jumps code.kinds code.scopes known.initials) in
    let within : AreWithin p (frame_in (code_of t)) =
    subst (λ (c : Code). AreWithin p (frame_in c)) (sym lowers) (frames_within p typed code.scopes code.frames (known.bounded files p is)) in
    file_is p t heap stack fits heap_high stack_high lowers is_sound code.steps_long code.functions_long code.programs_long runs.same runs.adds runs.steps_add
    runs.earlier runs.calls runs.allocations (memory_holds_bytes p (code_of t) heap stack (subst (λ (z : List ℕ). All (λ b. b < 2 ^ 8) z) is_file bytes))
    runs.light within (runs.room p) elf loads
