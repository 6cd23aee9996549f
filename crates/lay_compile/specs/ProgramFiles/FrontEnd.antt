-- What the front end says of files, as a command tells it.
use Rattle.std.specs.Prelude.{◌≡◌, ℕ, ◌<◌, List, [], length, Option, Some, None, IfSome, Result, Ok, Err, ◌⊎◌}
use Rattle.lay_base.specs.Known.{Contents, Rose}
use Rattle.lay_base.specs.Want.{no_memory}
use Rattle.lay_base.specs.declared.place.File.{File}
use Rattle.lay_base.specs.declared.faults.LimitKind.TheVariants.{Files}
use Rattle.c_lexer.specs.declared.fault.LexFault.TheVariants as L
use Rattle.c_parser.specs.declared.faults.ParseFault.TheVariants as S
use Rattle.c_check.specs.declared.fault.CheckFault.TheVariants as T
use Rattle.c_link.specs.declared.gap.Gap.TheVariants as G
use Rattle.c_link.specs.Programs.{IsProgramOf}
use Rattle.c_typed.specs.Programs.{ProgramData, program_data}
use Rattle.c_typed.specs.declared.program.Typed.{Typed}
use Rattle.lay_compile.specs.declared.fault.CompileFault.{CompileFault}
use Rattle.lay_compile.specs.declared.fault.CompileFault.TheVariants as C
use Rattle.lay_compile.specs.Front.{FrontGives}
use Rattle.refusals.specs.declared.refusal.Refusal.{Refusal}
use Rattle.refusals.specs.declared.refusal.Refusal.TheVariants as R
use Rattle.refusals.specs.Table.{HasPlace, places}
use Rattle.lay_compile.specs.LineTexts.PlaceTexts.{IsPlaceText}
use Rattle.lay_compile.specs.declared.program_files.front_end.PlaceTexts.{PlaceTexts}
use Rattle.lay_compile.specs.declared.program_files.source_program.SourceProgram.{SourceProgram}
use Rattle.lay_compile.specs.ProgramFiles.Outside.{Outside, IsUntouched, HoldsLonger}
use Rattle.lay_compile.specs.ProgramFiles.Reading.{most_files, file_limit, AreFilesOf, ComesTo, WereSo}

-- the fault of the front end that a refusal tells
abbrev pub fault_told : Refusal → Option CompileFault
fault_told (R.BadByte place) = Some (C.Lexical place.file (L.BadByte place.at))
fault_told (R.BadLiteral place) = Some (C.Lexical place.file (L.BadLiteral place.at))
fault_told (R.Unclosed place) = Some (C.Lexical place.file (L.Unclosed place.at))
fault_told (R.TooWide place) = Some (C.Lexical place.file (L.TooWide place.at))
fault_told (R.NoParse place) = Some (C.Syntax (S.NoParse place))
fault_told (R.Unsupported keyword place) = Some (C.Syntax (S.Unsupported keyword place))
fault_told (R.TooBig place) = Some (C.Types (T.TooBig place))
fault_told (R.IllTyped rule place) = Some (C.Types (T.IllTyped rule place))
fault_told (R.Undeclared name place) = Some (C.Types (T.Undeclared name place))
fault_told (R.Redeclared name place first) = Some (C.Types (T.Redeclared name place first))
fault_told (R.TagClash tag place first) = Some (C.Joining (G.TagClash (record { name = tag; place = place; first = first })))
fault_told (R.NameClash name place first) = Some (C.Joining (G.NameClash (record { name = name; place = place; first = first })))
fault_told (R.Twice name place first) = Some (C.Joining (G.Twice (record { name = name; place = place; first = first })))
fault_told (R.Missing name) = Some (C.Joining (G.Missing name))
fault_told R.NoMain = Some (C.Joining G.NoMain)
fault_told (R.Limit which counted) = Some (C.Joining (G.Limit (record { which = which; counted = counted })))
fault_told _ = None

-- the refusal tells the fault, or want of memory
abbrev pub Tells : CompileFault → Refusal → Type 0
Tells fault refusal = (refusal ≡ R.Memory no_memory) ⊎ (fault_told refusal ≡ Some fault)

-- the files are a program
abbrev pub AreProgram : List File → Type 0
AreProgram files = (p : ProgramData) × IsProgramOf files p

-- the files are no program, for the cause that the refusal tells
abbrev pub AreRefused : List File → Refusal → Type 0
AreRefused files refusal = (fault : CompileFault) × (fault_told refusal ≡ Some fault) × FrontGives files (Err fault)

-- ---- the texts of places

-- each place of the refusal has its text
abbrev pub HaveTexts : List File → Refusal → (at first : List ℕ) → Type 0
HaveTexts files refusal at first =
    IfSome (places refusal).0 (λ place. IsPlaceText files place at) × IfSome (places refusal).1 (λ place. IsPlaceText files place first)

-- a text that is not there is empty
abbrev pub or_empty : Option (List ℕ) → List ℕ
or_empty None = []
or_empty (Some text) = text

-- ... and these are they
abbrev pub AreTexts : List File → Refusal → PlaceTexts → Type 0
AreTexts files refusal texts = HaveTexts files refusal (or_empty texts.at) (or_empty texts.first)

-- the places of a refusal, if it has any, are in the files under these names, as they were at entry, and have these texts
abbrev pub HasTexts : Option Contents → (names : List (List ℕ)) → PlaceTexts → Refusal → Type 0
HasTexts files names texts refusal = HasPlace refusal → WereSo files names (λ read. AreTexts read refusal texts)

-- ---- by the answer: the files are a program, or are refused; want of memory says nothing

abbrev pub IsRefused : List File → Refusal → Type 0
IsRefused files (R.Memory want) = Unit {0}
IsRefused files refusal = AreRefused files refusal

abbrev pub FrontEndGives : List File → Result (Unit {0}) Refusal → Type 0
FrontEndGives files (Ok done) = AreProgram files
FrontEndGives files (Err refusal) = IsRefused files refusal

abbrev pub ProgramGives : List File → Result Typed Refusal → Type 0
ProgramGives files (Ok p) = IsProgramOf files (program_data p)
ProgramGives files (Err refusal) = IsRefused files refusal

-- ... the files with it
abbrev pub FileSourceGives : List File → Result SourceProgram Refusal → Type 0
FileSourceGives files (Ok source) = (source.files ≡ files) × IsProgramOf files (program_data source.program)
FileSourceGives files (Err refusal) = IsRefused files refusal

-- ---- the same of names

-- The files under the names are refused: there are too many, or one cannot be read, or they are no program. Nothing else happened. Memory may be out before.
abbrev pub FilesAreRefused : (names : List (List ℕ)) → (before now : Outside) → Refusal → Type 0
FilesAreRefused names before now (R.Limit Files counted) = (counted ≡ length names) × (most_files < length names) × (now ≡ before)
FilesAreRefused names before now (R.FileFault name) =
    ComesTo before.files names name × Rose (before.failed_reads name) (now.failed_reads name) × IsUntouched before now
FilesAreRefused names before now (R.TooLong name) = ComesTo before.files names name × HoldsLonger file_limit name before now × IsUntouched before now
FilesAreRefused names before now (R.Memory want) = IsUntouched before now
FilesAreRefused names before now refusal = WereSo before.files names (λ files. AreRefused files refusal) × IsUntouched before now

-- the files with their program, as they were under the names at entry
abbrev pub SourceGives : (names : List (List ℕ)) → (before now : Outside) → Result SourceProgram Refusal → Type 0
SourceGives names before now (Ok source) =
    AreFilesOf before.files names source.files × IsProgramOf source.files (program_data source.program) × IsUntouched before now
SourceGives names before now (Err refusal) = FilesAreRefused names before now refusal
