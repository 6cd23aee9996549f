-- When each outcome comes, and what it leaves.
use Rattle.std.specs.Prelude.{◌≡◌, ℕ, List, [], take, Option, Some, None, Result, Ok, Err, ◌⊎◌, ⊤}
use Rattle.lay_base.specs.Known.{Contents, Rose, Appends}
use Rattle.refusals.specs.Table.{refusal_text, HasPlace}
use Rattle.refusals.specs.declared.refusal.Refusal.{Refusal}
use Rattle.refusals.specs.declared.refusal.Refusal.TheVariants as R
use Rattle.lay_commands.specs.Words.{Command, Compile, Profile, Interp, Run}
use Rattle.lay_compile.specs.ProgramFiles.FrontEnd.{HaveTexts}
use Rattle.lay_compile.specs.ProgramFiles.Outside.{Stream, Outside, IsUntouched}
use Rattle.lay_compile.specs.ProgramFiles.Reading.{WereSo}
use Rattle.lay_compile.specs.RefusalPlaces.Texts.{AreOfPlaces}
use Rattle.lay_commands.specs.declared.outcome.Outcome.{Outcome}
use Rattle.lay_commands.specs.declared.outcome.Outcome.TheVariants.{Program, Done, Refused}
use Rattle.lay_commands.specs.Interpreting.{InterpGives, ProfileGives}
use Rattle.lay_commands.specs.Stages.{CompileGives, RunGives}

-- ---- what is left of the host, the input and out

-- by the outcome of a command that runs a program, and of one that does not
abbrev pub ByStatus : (Result ℕ Refusal → Type 0) → Outcome → Type 0
ByStatus Gives (Program status) = Gives (Ok status)
ByStatus Gives Done = ⊥
ByStatus Gives (Refused refusal) = Gives (Err refusal)

abbrev pub ByWork : (Result (Unit {0}) Refusal → Type 0) → Outcome → Type 0
ByWork Gives (Program status) = ⊥
ByWork Gives Done = Gives (Ok tt)
ByWork Gives (Refused refusal) = Gives (Err refusal)

abbrev pub CommandGives : Command → (before now : Outside) → Outcome → Type 0
CommandGives (Compile c) before now outcome = ByWork (CompileGives c before now) outcome
CommandGives (Profile c) before now outcome = ByStatus (ProfileGives c before now) outcome
CommandGives (Interp c) before now outcome = ByStatus (InterpGives c before now) outcome
CommandGives (Run steps elf) before now outcome = ByStatus (RunGives steps elf before now) outcome

-- where the words ask for nothing
abbrev pub NoCommandGives : (before now : Outside) → Outcome → Type 0
NoCommandGives before now (Refused R.Usage) = IsUntouched before now
NoCommandGives before now _ = ⊥

-- where the words are read
abbrev pub AskedGives : Option Command → (before now : Outside) → Outcome → Type 0
AskedGives None before now outcome = NoCommandGives before now outcome
AskedGives (Some command) before now outcome = CommandGives command before now outcome

-- where memory is out before they are read
abbrev pub AreUnread : (before now : Outside) → Outcome → Type 0
AreUnread before now (Refused R.Unread) = IsUntouched before now
AreUnread before now _ = ⊥

abbrev pub OutcomeGives : Option Command → (before now : Outside) → Outcome → Type 0
OutcomeGives command before now outcome = AskedGives command before now outcome ⊎ AreUnread before now outcome

-- ---- what is left of err

-- the files of source text that a command names
abbrev pub source_files : Command → List (List ℕ)
source_files (Compile c) = c.files
source_files (Profile c) = c.files
source_files (Interp c) = c.files
source_files (Run steps elf) = []

-- the places of a refusal, if it has any, are in the files of the command, as they were at entry, and have these texts
abbrev pub PlacesHave : Option Command → Option Contents → Refusal → (at first : List ℕ) → Type 0
PlacesHave command files refusal at first =
    HasPlace refusal → (c : Command) × (command ≡ Some c) × WereSo files (source_files c) (λ read. HaveTexts read refusal at first)

-- the same of an outcome that is a refusal
abbrev pub OutcomeHas : Option Command → Option Contents → Outcome → (at first : List ℕ) → Type 0
OutcomeHas command files (Refused refusal) at first = PlacesHave command files refusal at first
OutcomeHas command files _ at first = ⊤

-- the place of an undefined step comes from the input too, and every other from the files alone
abbrev pub IsTold : Refusal → (input : Option (List ℕ)) → Type 0
IsTold (R.Undefined kind place) input = (bytes : List ℕ) × (input ≡ Some bytes)
IsTold refusal input = ⊤

-- where these are known, each place of a refusal is one of the file of its number, with tokens before it, and its text is that of the place
abbrev pub PlacesStand : Option Command → Option Contents → (input : Option (List ℕ)) → Refusal → (at first : List ℕ) → Type 0
PlacesStand command files input refusal at first = HasPlace refusal → (c : Command) × (command ≡ Some c)
    × ((contents : Contents) → files ≡ Some contents → IsTold refusal input → WereSo files (source_files c) (λ read. AreOfPlaces read refusal at first))

abbrev pub IsText : Option Command → Option Contents → (input : Option (List ℕ)) → Refusal → List ℕ → Type 0
IsText command files input refusal text = (at first : List ℕ) × (text ≡ refusal_text at first refusal) × PlacesHave command files refusal at first
    × PlacesStand command files input refusal at first

-- a text went to err: all of it, or a first part where err failed
abbrev pub IsReported : (before now : Stream) → (text : List ℕ) → Type 0
IsReported before now text =
    Appends before.bytes now.bytes text ⊎ (Rose before.faults now.faults × ((k : ℕ) × Appends before.bytes now.bytes (take k text)))

-- what a command leaves of err, by its outcome, and by the files and the input at entry
abbrev pub ErrGives : Option Command → Option Contents → (input : Option (List ℕ)) → (before now : Stream) → Outcome → Type 0
ErrGives command files input before now (Refused refusal) = (text : List ℕ) × IsText command files input refusal text × IsReported before now text
ErrGives command files input before now _ = now ≡ before

-- ---- who reads the input

-- the outcomes of a program that ran on the machine
abbrev pub IsOfMachine : Outcome → Type 0
IsOfMachine (Program status) = ⊤
IsOfMachine (Refused (R.Trap kind pc)) = ⊤
IsOfMachine (Refused (R.Break pc)) = ⊤
IsOfMachine (Refused (R.StepLimit steps)) = ⊤
IsOfMachine (Refused R.ReadFault) = ⊤
IsOfMachine (Refused R.WriteFault) = ⊤
IsOfMachine _ = ⊥

-- the outcomes of a program that the interpreter ran
abbrev pub IsOfSource : Outcome → Type 0
IsOfSource (Program status) = ⊤
IsOfSource (Refused (R.Undefined kind place)) = ⊤
IsOfSource (Refused (R.TurnLimit turns)) = ⊤
IsOfSource (Refused (R.Room what counted)) = ⊤
IsOfSource (Refused R.ReadFault) = ⊤
IsOfSource (Refused R.WriteFault) = ⊤
IsOfSource (Refused (R.Memory want)) = ⊤
IsOfSource _ = ⊥

-- the outcome of a run by its answer
abbrev pub run_outcome : Result ℕ Refusal → Outcome
run_outcome (Ok status) = Program status
run_outcome (Err refusal) = Refused refusal

-- only a program that ran may have read the input
abbrev pub MayRead : Option Command → Outcome → Type 0
MayRead (Some (Profile c)) outcome = IsOfSource outcome
MayRead (Some (Interp c)) outcome = IsOfSource outcome
MayRead (Some (Run steps elf)) outcome = IsOfMachine outcome
MayRead command outcome = ⊥
