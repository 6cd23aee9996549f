-- The profile that `compile` is given, and what it was given as a whole.
use Rattle.std.specs.Prelude.{◌≡◌, ℕ, ◌≤◌, List, [], length, slice_get, All, Option, Some, None, Result, Ok, Err, ◌⊎◌, ⊤}
use Rattle.std.specs.Global.{Vec}
use Rattle.lay_base.specs.Known.{Contents, Rose, IfKnown}
use Rattle.lay_base.specs.declared.place.File.{File}
use Rattle.lay_base.specs.declared.faults.Stale.{Stale}
use Rattle.refusals.specs.declared.refusal.Refusal.{Refusal}
use Rattle.refusals.specs.declared.refusal.Refusal.TheVariants as R
use Rattle.c_link.specs.Programs.{IsProgramOf}
use Rattle.c_typed.specs.declared.run_counts.counts.Counts.{Counts}
use Rattle.c_typed.specs.declared.run_counts.order.Defined.{Defined}
use Rattle.c_typed.specs.Programs.{ProgramData, program_data}
use Rattle.c_typed.specs.RunCounts.Counting.{name_at}
use Rattle.c_typed.specs.RunCounts.Order.{profile_order}
use Rattle.c_typed.specs.RunCounts.Stale.{Fits, stale}
use Rattle.profile_file.specs.Lines.{BreaksAt}
use Rattle.profile_file.specs.Text.{IsProfile, profile_text}
use Rattle.lay_compile.specs.ProgramFiles.FrontEnd.{FilesAreRefused}
use Rattle.lay_compile.specs.ProgramFiles.Outside.{Outside, IsUntouched, HoldsLonger}
use Rattle.lay_compile.specs.ProgramFiles.Reading.{AreFilesOf, BytesGive, IsReadable, WereSo, most_files}
use Rattle.lay_commands.specs.Words.{Compilation}
use Rattle.lay_commands.specs.declared.inputs.Inputs.{Inputs}

-- the greatest number of bytes of a profile
abbrev pub profile_limit : ℕ
profile_limit = 67108864

-- ---- the profile at entry

-- where the files are known: the name has the text of these counts
abbrev pub IsTextOf : Option Contents → (name : List ℕ) → Counts → Type 0
IsTextOf files name counts = IsProfile counts × IfKnown files name (λ file. file ≡ Some (profile_text counts))

-- where a profile is named, the counts whose text it is, which fit the program
abbrev pub IsProfileOf : Option Contents → (profile : Option (List ℕ)) → ProgramData → Option Counts → Type 0
IsProfileOf files None p None = ⊤
IsProfileOf files (Some name) p (Some counts) = IsTextOf files name counts × Fits counts p
IsProfileOf files _ p _ = ⊥

-- The files under the names were a program, and the profile, if one is named, was one of it; of all this holds.
abbrev pub WereGiven : Option Contents → Compilation → (List File → ProgramData → Option Counts → Type 0) → Type 0
WereGiven files c P = WereSo files c.files
    (λ read. (p : ProgramData) × (counts : Option Counts) × IsProgramOf read p × IsProfileOf files c.profile p counts × P read p counts)

-- ---- a profile that is refused

-- there are no more files than a program has, and each can be read
abbrev pub AreReadable : Option Contents → (names : List (List ℕ)) → Type 0
AreReadable files names = (length names ≤ most_files) × All (IsReadable files) names

-- the files under the names were a program of which this holds
abbrev pub WereProgram : Option Contents → (names : List (List ℕ)) → (ProgramData → Type 0) → Type 0
WereProgram files names P = WereSo files names (λ read. (p : ProgramData) × IsProgramOf read p × P p)

-- the name of the function with that number in the order of profiles
abbrev pub name_of_defined : ProgramData → Option Defined → List ℕ
name_of_defined p None = []
name_of_defined p (Some f) = name_at p f.number

abbrev pub profiled_name : ProgramData → (number : ℕ) → List ℕ
profiled_name p number = name_of_defined p (slice_get (profile_order p) number)

-- the profile under the name is of another program; the difference is told with the name of the function that it is about
pub record IsStale (files : Option Contents) (name function : List ℕ) (difference : Stale) (p : ProgramData) : Type 0 where
  pub counts : Counts
  pub text : IsTextOf files name counts
  pub differs : stale counts p ≡ Some difference
  pub named : function ≡ profiled_name p difference.function

-- it can be read after the files, or not; then it is looked at where the files are a program
abbrev pub IsProfileRefused : Compilation → (name : List ℕ) → (before now : Outside) → Refusal → Type 0
IsProfileRefused c name before now (R.FileFault named) =
    (named ≡ name) × AreReadable before.files c.files × Rose (before.failed_reads name) (now.failed_reads name)
IsProfileRefused c name before now (R.TooLong named) =
    (named ≡ name) × AreReadable before.files c.files × HoldsLonger profile_limit name before now
IsProfileRefused c name before now (R.BadProfile line) = WereProgram before.files c.files
    (λ p. IfKnown before.files name (λ file. (bytes : List ℕ) × (file ≡ Some bytes) × BreaksAt line bytes))
IsProfileRefused c name before now (R.Stale function difference) = WereProgram before.files c.files (IsStale before.files name function difference)
IsProfileRefused c name before now refusal = ⊥

abbrev pub ProfileIsRefused : Compilation → (before now : Outside) → Refusal → Type 0
ProfileIsRefused c before now refusal =
    (name : List ℕ) × (c.profile ≡ Some name) × IsProfileRefused c name before now refusal × IsUntouched before now

abbrev pub IsRefused : Compilation → (before now : Outside) → Refusal → Type 0
IsRefused c before now refusal = FilesAreRefused c.files before now refusal ⊎ ProfileIsRefused c before now refusal

-- ---- by the answer; want of memory says nothing

-- counts are of the program
abbrev pub FitGives : Counts → ProgramData → Result (Unit {0}) Refusal → Type 0
FitGives counts p (Ok done) = Fits counts p
FitGives counts p (Err (R.Stale function difference)) = (stale counts p ≡ Some difference) × (function ≡ profiled_name p difference.function)
FitGives counts p (Err (R.Memory want)) = Unit {0}
FitGives counts p (Err _) = ⊥

-- bytes are the text of a profile of the program
abbrev pub CountsGive : (bytes : List ℕ) → ProgramData → Result Counts Refusal → Type 0
CountsGive bytes p (Ok counts) = IsProfile counts × (profile_text counts ≡ bytes) × Fits counts p
CountsGive bytes p (Err (R.BadProfile line)) = BreaksAt line bytes
CountsGive bytes p (Err (R.Stale function difference)) = (counts : Counts) × IsProfile counts × (profile_text counts ≡ bytes)
    × (stale counts p ≡ Some difference) × (function ≡ profiled_name p difference.function)
CountsGive bytes p (Err (R.Memory want)) = Unit {0}
CountsGive bytes p (Err _) = ⊥

-- the program with its files and the counts of the profile, as they were under their names at entry
abbrev pub InputsGive : Compilation → (before now : Outside) → Result Inputs Refusal → Type 0
InputsGive c before now (Ok given) = AreFilesOf before.files c.files given.source.files × IsProgramOf given.source.files (program_data given.source.program)
    × IsProfileOf before.files c.profile (program_data given.source.program) given.counts × IsUntouched before now
InputsGive c before now (Err refusal) = IsRefused c before now refusal

-- the bytes under the name, if one is given
abbrev pub ProfileBytesGive : (reads_before reads_now : List ℕ → ℕ) → Option Contents → (profile : Option (List ℕ)) → Result (Option (Vec ℕ)) Refusal → Type 0
ProfileBytesGive before now files None (Ok None) = ⊤
ProfileBytesGive before now files (Some name) (Ok (Some bytes)) = BytesGive profile_limit (before name) (now name) files name (Ok bytes)
ProfileBytesGive before now files (Some name) (Err refusal) = BytesGive profile_limit (before name) (now name) files name (Err refusal)
ProfileBytesGive before now files _ _ = ⊥

-- the counts whose text the bytes are, if there are any
abbrev pub CountsIfAnyGive : Option (Vec ℕ) → ProgramData → Result (Option Counts) Refusal → Type 0
CountsIfAnyGive None p (Ok None) = ⊤
CountsIfAnyGive (Some bytes) p (Ok (Some counts)) = CountsGive bytes.items p (Ok counts)
CountsIfAnyGive (Some bytes) p (Err refusal) = CountsGive bytes.items p (Err refusal)
CountsIfAnyGive _ p _ = ⊥
