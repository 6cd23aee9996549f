-- The outside after `interp` and `profile`.
use Rattle.std.specs.Prelude.{◌≡◌, ℕ, List, take, Option, Some, Result, Ok, Err, ◌⊎◌}
use Rattle.lay_base.specs.Known.{Rose, IfKnown, FilesKeep, FilesKeepBut}
use Rattle.lay_base.specs.Want.{no_memory}
use Rattle.c_typed.specs.declared.run_counts.counts.Counts.{Counts}
use Rattle.c_link.specs.Programs.{IsProgramOf}
use Rattle.c_typed.specs.Programs.{ProgramData}
use Rattle.profile_file.specs.Text.{profile_text}
use Rattle.refusals.specs.declared.refusal.Refusal.{Refusal}
use Rattle.refusals.specs.declared.refusal.Refusal.TheVariants as R
use Rattle.source_run.specs.RunGives.{RunGives as RunComesTo}
use Rattle.source_run.specs.Streams.{Streams, streams}
use Rattle.source_run.specs.declared.end.RunEnd.{RunEnd}
use Rattle.source_run.specs.declared.end.RunEnd.TheVariants as E
use Rattle.lay_commands.specs.Words.{Interpretation, Profiling}
use Rattle.lay_commands.specs.declared.profiling.Profiled.{Profiled}
use Rattle.lay_compile.specs.ProgramFiles.FrontEnd.{FilesAreRefused}
use Rattle.lay_compile.specs.ProgramFiles.Outside.{Outside}
use Rattle.lay_compile.specs.ProgramFiles.Reading.{WereSo}

-- ---- a run of the program that the files are

abbrev pub streams_of : Outside → Streams
streams_of o = streams o.input.bytes o.input.faults o.out.bytes o.out.faults

-- the files under the names, as they were at entry, are a program, whose run within so many turns came to an end with counts that are so
abbrev pub Ran : (names : List (List ℕ)) (turns : ℕ) (before now : Outside) → (Counts → RunEnd → Type 0) → Type 0
Ran names turns before now P = WereSo before.files names (λ files.
    (p : ProgramData) × IsProgramOf files p × ((counts : Counts) × (end : RunEnd)
    × RunComesTo p turns (streams_of before) (streams_of now) counts end × P counts end))

-- the answer that tells an end of a run
abbrev pub told : RunEnd → Result ℕ Refusal
told (E.Ends status) = Ok status
told (E.Undefined kind place) = Err (R.Undefined kind place)
told (E.TurnLimit turns) = Err (R.TurnLimit turns)
told (E.Room what counted) = Err (R.Room what counted)
told E.ReadFault = Err R.ReadFault
told E.WriteFault = Err R.WriteFault
told (E.Memory want) = Err (R.Memory want)

-- an end whose text has a place, for which memory may be out
abbrev pub IsUndefined : RunEnd → Type 0
IsUndefined (E.Undefined kind place) = Unit {0}
IsUndefined end = ⊥

abbrev pub IsStatus : RunEnd → Type 0
IsStatus (E.Ends status) = Unit {0}
IsStatus end = ⊥

-- the answer tells the end, or memory is out for its text
abbrev pub Tells : RunEnd → Result ℕ Refusal → Type 0
Tells end answer = (answer ≡ told end) ⊎ ((answer ≡ Err (R.Memory no_memory)) × IsUndefined end)

-- ---- by the answer of a run

-- a run came to an end that is so, or memory was out before it began
abbrev pub RanSo : ProgramData → (turns : ℕ) → (before now : Streams) → (answer : Result ℕ Refusal) → (Counts → RunEnd → Type 0) → Type 0
RanSo p turns before now answer P = ((counts : Counts) × (end : RunEnd) × RunComesTo p turns before now counts end × P counts end)
    ⊎ ((answer ≡ Err (R.Memory no_memory)) × (now ≡ before))

abbrev pub InterpretGives : ProgramData → (turns : ℕ) → (before now : Streams) → Result ℕ Refusal → Type 0
InterpretGives p turns before now answer = RanSo p turns before now answer (λ counts end. Tells end answer)

-- the end is told, or memory is out for its profile
abbrev pub TellsNoProfile : RunEnd → Refusal → Type 0
TellsNoProfile end refusal = Tells end (Err refusal) ⊎ ((refusal ≡ R.Memory no_memory) × IsStatus end)

abbrev pub ProfiledGives : ProgramData → (turns : ℕ) → (before now : Streams) → Result Profiled Refusal → Type 0
ProfiledGives p turns before now (Ok profiled) =
    (counts : Counts) × RunComesTo p turns before now counts (E.Ends profiled.status) × (profiled.text.items ≡ profile_text counts)
ProfiledGives p turns before now (Err refusal) = RanSo p turns before now (Err refusal) (λ counts end. TellsNoProfile end refusal)

-- ---- interp

-- the files are refused, or their program ran, and no file changed
abbrev pub InterpGives : Interpretation → (before now : Outside) → Result ℕ Refusal → Type 0
InterpGives i before now (Ok status) =
    Ran i.files i.turns before now (λ counts end. Tells end (Ok status)) × FilesKeep before.files now.files
InterpGives i before now (Err refusal) = FilesAreRefused i.files before now refusal
    ⊎ (Ran i.files i.turns before now (λ counts end. Tells end (Err refusal)) × FilesKeep before.files now.files)

-- ---- profile

-- The program ended, and the file under P holds its profile. No other file changed.
abbrev pub IsProfiled : Profiling → (before now : Outside) → (status : ℕ) → Type 0
IsProfiled c before now status =
    Ran c.files c.turns before now (λ counts end. (end ≡ E.Ends status) × IfKnown now.files c.out (λ file. file ≡ Some (profile_text counts)))
    × FilesKeepBut c.out before.files now.files

-- the file is as it was, or a first part of the text
abbrev pub IsPartly : (text : List ℕ) → (was file : Option (List ℕ)) → Type 0
IsPartly text was file = (file ≡ was) ⊎ ((k : ℕ) × (file ≡ Some (take k text)))

-- The program ended, and the host failed to write its profile under P.
pub record ProfileFailed (c : Profiling) (before now : Outside) : Type 0 where
  pub cause : Rose (before.failed_writes c.out) (now.failed_writes c.out)
  pub partly : Ran c.files c.turns before now (λ counts end.
      IsStatus end × IfKnown before.files c.out (λ was. IfKnown now.files c.out (IsPartly (profile_text counts) was)))
  pub others : FilesKeepBut c.out before.files now.files

-- the files are refused, or their program ran and there is no profile: it came to an end that is told, or it ended and memory is out for its profile
abbrev pub HasNoProfile : Profiling → (before now : Outside) → Refusal → Type 0
HasNoProfile c before now refusal = FilesAreRefused c.files before now refusal
    ⊎ (Ran c.files c.turns before now (λ counts end. TellsNoProfile end refusal) × FilesKeep before.files now.files)

abbrev pub ProfileGives : Profiling → (before now : Outside) → Result ℕ Refusal → Type 0
ProfileGives c before now (Ok status) = IsProfiled c before now status
ProfileGives c before now (Err R.WriteFault) = HasNoProfile c before now R.WriteFault ⊎ ProfileFailed c before now
ProfileGives c before now (Err refusal) = HasNoProfile c before now refusal
