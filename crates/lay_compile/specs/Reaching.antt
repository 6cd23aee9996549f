-- How far some files have come together, file after file.
use Rattle.std.specs.Prelude.{◌≡◌, ℕ, List, [], ◌∷◌, ◌++◌, All, length, map, Result, Ok, Err}
use Rattle.lay_base.specs.declared.place.File.{File}
use Rattle.c_typed.specs.Programs.{UnitData, program_data, unit_data}
use Rattle.c_typed.specs.declared.program.Typed.{Typed}
use Rattle.c_link.specs.Counting.{IsCountable}
use Rattle.c_link.specs.Gaps.{IsGap, IsProgramOfUnits}
use Rattle.c_link.specs.Linking.{Fails}
use Rattle.c_link.specs.Programs.{AreUnitsOf, IsProgramOf}
use Rattle.c_link.specs.declared.gap.Gap.{Gap}
use Rattle.lay_compile.specs.declared.fault.CompileFault.{CompileFault}
use Rattle.lay_compile.specs.declared.fault.CompileFault.TheVariants.{Joining}
use Rattle.lay_compile.specs.declared.stages.Reached.{Reached}
use Rattle.lay_compile.specs.declared.stages.Reached.TheVariants.{Units, Trees, Tokens}
use Rattle.lay_compile.specs.Front.{FirstFails, HasSyntaxFault, HasTokens, HasTree, HasTypeFault, HasUnit, IsFaultOf}

abbrev pub HaveReached : List File → Reached → Type 0
HaveReached files (Units units) = AreUnitsOf 0 files (map unit_data units) × All IsCountable (map unit_data units)
HaveReached files (Trees fault) = FirstFails HasTree HasUnit (HasTypeFault fault) files
HaveReached files (Tokens fault) = FirstFails HasTokens HasTree (HasSyntaxFault fault) files

-- with all of them
abbrev pub ReachedGives : List File → Result Reached CompileFault → Type 0
ReachedGives files (Ok reached) = HaveReached files reached
ReachedGives files (Err fault) = IsFaultOf files fault

-- with one more file; a fault stands whatever files follow
abbrev pub NextGives : (before : List File) → File → Result Reached CompileFault → Type 0
NextGives before file (Ok reached) = HaveReached (before ++ file ∷ []) reached
NextGives before file (Err fault) = (later : List File) → IsFaultOf (before ++ file ∷ later) fault

-- after any files, as many as the number says, that have come so far
abbrev pub StepGives : (number : ℕ) → File → Reached → Result Reached CompileFault → Type 0
StepGives number file reached result = (before : List File) → length before ≡ number → HaveReached before reached → NextGives before file result

-- through all stages
abbrev pub StagesGive : List File → Result Typed CompileFault → Type 0
StagesGive files (Ok p) = IsProgramOf files (program_data p)
StagesGive files (Err fault) = IsFaultOf files fault

-- joining all units
abbrev pub ProgramGives : List UnitData → Result Typed CompileFault → Type 0
ProgramGives units (Ok p) = IsProgramOfUnits units (program_data p)
ProgramGives units (Err fault) = (gap : Gap) × (fault ≡ Joining gap) × Fails (IsGap units) gap
