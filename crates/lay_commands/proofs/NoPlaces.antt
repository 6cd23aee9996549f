-- Refusals of `compile` that have no place.
use Rattle.std.proofs.Common.{ℕ, List, Option}
use Rattle.std.specs.Prelude.{Result, Ok, Err, IfErr}
use Rattle.lay_base.specs.Known.{Contents}
use Rattle.lay_base.specs.declared.place.File.{File}
use Rattle.c_typed.specs.declared.run_counts.counts.Counts.{Counts}
use Rattle.c_typed.specs.Programs.{ProgramData}
use Rattle.lay_commands.specs.Words.{Compilation}
use Rattle.refusals.specs.declared.refusal.Refusal.{Refusal}
use Rattle.refusals.specs.declared.refusal.Refusal.TheVariants as R
use Rattle.lay_compile.specs.declared.program_files.front_end.PlaceTexts.{PlaceTexts}
use Rattle.lay_compile.specs.ProgramFiles.FrontEnd.{HasTexts}
use Rattle.lay_commands.specs.Compiling.{OutputsGive}
use Rattle.lay_commands.specs.Stages.{WriteGives, ReportGives}

pub outputs_texts : (f : Option Contents) (names : List (List ℕ)) (texts : PlaceTexts) (given : List ℕ) (c : Compilation) (files : List File) (p : ProgramData)
    (counts : Option Counts) (refusal : Refusal) → OutputsGive given c files p counts (Err refusal) → HasTexts f names texts refusal
outputs_texts f names texts given c files p counts (R.NotBuilt name) gives = λ place. cc
outputs_texts f names texts given c files p counts (R.Memory want) gives = λ place. cc
outputs_texts f names texts given c files p counts _ gives = absurd gives

pub write_texts : (f : Option Contents) (names : List (List ℕ)) (texts : PlaceTexts) (writes_before writes_now : ℕ) (before now : Option Contents)
    (out bytes : List ℕ) (refusal : Refusal) → WriteGives writes_before writes_now before now out bytes (Err refusal) → HasTexts f names texts refusal
write_texts f names texts writes_before writes_now before now out bytes R.WriteFault gives = λ place. cc
write_texts f names texts writes_before writes_now before now out bytes (R.Memory want) gives = λ place. cc
write_texts f names texts writes_before writes_now before now out bytes _ gives = absurd gives

pub report_texts : (f : Option Contents) (names : List (List ℕ)) (texts : PlaceTexts) (faults_before faults_now : ℕ) (before now : Option (List ℕ))
    (report : List ℕ) (r : Result (Unit {0}) Refusal) → ReportGives faults_before faults_now before now report r → IfErr r (HasTexts f names texts)
report_texts f names texts faults_before faults_now before now report (Ok done) gives = tt
report_texts f names texts faults_before faults_now before now report (Err R.WriteFault) gives = λ place. cc
report_texts f names texts faults_before faults_now before now report (Err _) gives = absurd gives
