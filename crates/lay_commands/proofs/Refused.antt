-- What a refusal leaves, of each command.
use Rattle.std.proofs.Common.{◌≡◌, ℕ, List, Option, Some, inl, inr, refl}
use Rattle.std.specs.Prelude.{Result, Ok, Err, IfErr}
use Rattle.lay_base.specs.Calls.{PutGives}
use Rattle.lay_base.specs.Known.{Contents}
use Rattle.lay_base.specs.declared.outside.SinkFault.{SinkFault}
use Rattle.refusals.specs.Table.{refusal_text}
use Rattle.refusals.specs.declared.refusal.Refusal.{Refusal}
use Rattle.refusals.specs.declared.refusal.Refusal.TheVariants as R
use Rattle.lay_commands.specs.Words.{Command}
use Rattle.lay_compile.specs.declared.program_files.front_end.PlaceTexts.{PlaceTexts}
use Rattle.lay_compile.specs.ProgramFiles.FrontEnd.{HasTexts, or_empty}
use Rattle.lay_compile.specs.ProgramFiles.Outside.{Outside, Stream, stream}
use Rattle.lay_commands.specs.declared.outcome.Outcome.{Outcome}
use Rattle.lay_commands.specs.declared.outcome.Outcome.TheVariants.{Refused}
use Rattle.lay_commands.specs.Stages.{RunGives}
use Rattle.lay_commands.specs.Answers.{ByStatus, OutcomeHas, PlacesHave, PlacesStand, ErrGives, run_outcome, source_files}

-- ---- texts

-- the places of a refusal have the texts that a command leaves
pub by_command : (command : Command) (files : Option Contents) (texts : PlaceTexts) (r : Result ℕ Refusal)
    → IfErr r (HasTexts files (source_files command) texts) → OutcomeHas (Some command) files (run_outcome r) (or_empty texts.at) (or_empty texts.first)
by_command command files texts (Ok status) has = tt
by_command command files texts (Err refusal) has = λ place. (command, refl, has place)

-- a refusal of a run has no place
pub no_places : (command : Option Command) (files : Option Contents) (at first : List ℕ) (limit : ℕ) (elf : List ℕ) (before now : Outside)
    (refusal : Refusal) → RunGives limit elf before now (Err refusal) → PlacesHave command files refusal at first
no_places command files at first limit elf before now (R.Trap kind pc) gives = λ place. cc
no_places command files at first limit elf before now (R.Break pc) gives = λ place. cc
no_places command files at first limit elf before now (R.StepLimit n) gives = λ place. cc
no_places command files at first limit elf before now R.ReadFault gives = λ place. cc
no_places command files at first limit elf before now R.WriteFault gives = λ place. cc
no_places command files at first limit elf before now (R.BadElf field found) gives = λ place. cc
no_places command files at first limit elf before now (R.FileFault name) gives = λ place. cc
no_places command files at first limit elf before now (R.TooLong name) gives = λ place. cc
no_places command files at first limit elf before now (R.Memory want) gives = λ place. cc
no_places command files at first limit elf before now _ gives = absurd gives

pub run_texts : (command : Option Command) (files : Option Contents) (at first : List ℕ) (limit : ℕ) (elf : List ℕ) (before now : Outside)
    (r : Result ℕ Refusal) → RunGives limit elf before now r → OutcomeHas command files (run_outcome r) at first
run_texts command files at first limit elf before now (Ok status) gives = tt
run_texts command files at first limit elf before now (Err refusal) gives = no_places command files at first limit elf before now refusal gives

-- what is left of err, by what putting the text gives
pub reported : (command : Option Command) (files : Option Contents) (input : Option (List ℕ)) (at first : List ℕ) (refusal : Refusal)
    (faults_before faults_now : ℕ) (before now : Option (List ℕ)) (r : Result (Unit {0}) SinkFault) → PlacesHave command files refusal at first
    → PlacesStand command files input refusal at first → PutGives faults_before faults_now before now (refusal_text at first refusal) r
    → ErrGives command files input (stream before faults_before) (stream now faults_now) (Refused refusal)
reported command files input at first refusal faults_before faults_now before now (Ok done) has stand puts =
    (refusal_text at first refusal, (at, first, refl, has, stand), inl puts)
reported command files input at first refusal faults_before faults_now before now (Err fault) has stand puts =
    (refusal_text at first refusal, (at, first, refl, has, stand), inr puts)

-- every other outcome leaves it
pub unreported : (command : Option Command) (files : Option Contents) (input : Option (List ℕ)) (before now : Stream) (outcome : Outcome)
    → ((refusal : Refusal) → outcome ≡ Refused refusal → ⊥) → now ≡ before → ErrGives command files input before now outcome
unreported command files input before now (Refused refusal) other same = absurd (other refusal refl)
unreported command files input before now _ other same = same

-- ---- outcomes

pub by_status_gives : (Gives : Result ℕ Refusal → Type 0) (r : Result ℕ Refusal) → Gives r → ByStatus Gives (run_outcome r)
by_status_gives Gives (Ok status) gives = gives
by_status_gives Gives (Err refusal) gives = gives
