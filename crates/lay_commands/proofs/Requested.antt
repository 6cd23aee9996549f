-- What a request leaves is what its command leaves. Each law goes from the one to the other by an equation alone, so that no clause is opened.
use Rattle.std.proofs.Common.{◌≡◌, ℕ, List, Option, Some, sym, subst}
use Rattle.std.specs.Prelude.{◌⊎◌, Result, Ok, Err, IfErr}
use Rattle.lay_base.specs.Known.{Contents}
use Rattle.refusals.specs.declared.refusal.Refusal.{Refusal}
use Rattle.lay_commands.specs.declared.words.CompileRequest.{CompileRequest}
use Rattle.lay_commands.specs.declared.words.InterpRequest.{InterpRequest}
use Rattle.lay_commands.specs.declared.words.ProfileRequest.{ProfileRequest}
use Rattle.lay_commands.specs.declared.words.RunRequest.{RunRequest}
use Rattle.lay_commands.specs.declared.words.Request.{Request}
use Rattle.lay_commands.specs.declared.words.Request.TheVariants as Q
use Rattle.lay_commands.specs.Words.{requested, compilation_of, interpretation_of, profiling_of}
use Rattle.lay_compile.specs.declared.program_files.front_end.PlaceTexts.{PlaceTexts}
use Rattle.lay_compile.specs.ProgramFiles.FrontEnd.{HasTexts, or_empty}
use Rattle.lay_compile.specs.ProgramFiles.Outside.{Outside}
use Rattle.lay_commands.specs.declared.outcome.Outcome.{Outcome}
use Rattle.lay_commands.specs.declared.outcome.Outcome.TheVariants.{Done, Refused}
use Rattle.lay_commands.specs.Answers.{AskedGives, IsOfMachine, IsOfSource, MayRead, OutcomeHas, run_outcome}
use Rattle.lay_commands.specs.Interpreting.{InterpGives, ProfileGives}
use Rattle.lay_commands.specs.Stages.{CompileGives, RunGives}
use Rattle.lay_commands.proofs.Refused.{by_command, by_status_gives, run_texts}

-- ---- of one to compile

module _ (request : Request) (r : CompileRequest) (is : request ≡ Q.Compile r) where
  pub compile_done : (before now : Outside) → CompileGives (compilation_of r) before now (Ok tt) → AskedGives (Some (requested request)) before now Done
  compile_done before now gives = subst (λ (q : Request). AskedGives (Some (requested q)) before now Done) (sym is) gives

  pub compile_refused : (before now : Outside) (refusal : Refusal) → CompileGives (compilation_of r) before now (Err refusal)
      → AskedGives (Some (requested request)) before now (Refused refusal)
  compile_refused before now refusal gives = subst (λ (q : Request). AskedGives (Some (requested q)) before now (Refused refusal)) (sym is) gives

  pub compile_texts : (files : Option Contents) (texts : PlaceTexts) (refusal : Refusal) → HasTexts files (compilation_of r).files texts refusal
      → OutcomeHas (Some (requested request)) files (Refused refusal) (or_empty texts.at) (or_empty texts.first)
  compile_texts files texts refusal has =
      subst (λ (q : Request). OutcomeHas (Some (requested q)) files (Refused refusal) (or_empty texts.at) (or_empty texts.first)) (sym is)
      (by_command (requested (Q.Compile r)) files texts (Err refusal) has)

-- ---- of one to profile, with the answer that is its outcome

module _ (request : Request) (r : ProfileRequest) (is : request ≡ Q.Profile r) (answer : Result ℕ Refusal) (outcome : Outcome)
    (tells : outcome ≡ run_outcome answer) where
  pub profile_gives : (before now : Outside) → ProfileGives (profiling_of r) before now answer → AskedGives (Some (requested request)) before now outcome
  profile_gives before now gives =
      subst (λ (q : Request). AskedGives (Some (requested q)) before now outcome) (sym is)
      (subst (λ (o : Outcome). AskedGives (Some (requested (Q.Profile r))) before now o) (sym tells)
      (by_status_gives (ProfileGives (profiling_of r) before now) answer gives))

  pub profile_texts : (files : Option Contents) (texts : PlaceTexts) → IfErr answer (HasTexts files (profiling_of r).files texts)
      → OutcomeHas (Some (requested request)) files outcome (or_empty texts.at) (or_empty texts.first)
  profile_texts files texts has =
      subst (λ (q : Request). OutcomeHas (Some (requested q)) files outcome (or_empty texts.at) (or_empty texts.first)) (sym is)
      (subst (λ (o : Outcome). OutcomeHas (Some (requested (Q.Profile r))) files o (or_empty texts.at) (or_empty texts.first)) (sym tells)
      (by_command (requested (Q.Profile r)) files texts answer has))

  pub profile_reads : {Kept : Type 0} → Kept ⊎ IsOfSource (run_outcome answer) → Kept ⊎ MayRead (Some (requested request)) outcome
  profile_reads {Kept} reads =
      subst (λ (q : Request). Kept ⊎ MayRead (Some (requested q)) outcome) (sym is)
      (subst (λ (o : Outcome). Kept ⊎ IsOfSource o) (sym tells) reads)

-- ---- of one to interpret

module _ (request : Request) (r : InterpRequest) (is : request ≡ Q.Interp r) (answer : Result ℕ Refusal) (outcome : Outcome)
    (tells : outcome ≡ run_outcome answer) where
  pub interp_gives : (before now : Outside) → InterpGives (interpretation_of r) before now answer → AskedGives (Some (requested request)) before now outcome
  interp_gives before now gives =
      subst (λ (q : Request). AskedGives (Some (requested q)) before now outcome) (sym is)
      (subst (λ (o : Outcome). AskedGives (Some (requested (Q.Interp r))) before now o) (sym tells)
      (by_status_gives (InterpGives (interpretation_of r) before now) answer gives))

  pub interp_texts : (files : Option Contents) (texts : PlaceTexts) → IfErr answer (HasTexts files (interpretation_of r).files texts)
      → OutcomeHas (Some (requested request)) files outcome (or_empty texts.at) (or_empty texts.first)
  interp_texts files texts has =
      subst (λ (q : Request). OutcomeHas (Some (requested q)) files outcome (or_empty texts.at) (or_empty texts.first)) (sym is)
      (subst (λ (o : Outcome). OutcomeHas (Some (requested (Q.Interp r))) files o (or_empty texts.at) (or_empty texts.first)) (sym tells)
      (by_command (requested (Q.Interp r)) files texts answer has))

  pub interp_reads : {Kept : Type 0} → Kept ⊎ IsOfSource (run_outcome answer) → Kept ⊎ MayRead (Some (requested request)) outcome
  interp_reads {Kept} reads =
      subst (λ (q : Request). Kept ⊎ MayRead (Some (requested q)) outcome) (sym is)
      (subst (λ (o : Outcome). Kept ⊎ IsOfSource o) (sym tells) reads)

-- ---- of one to run

module _ (request : Request) (r : RunRequest) (is : request ≡ Q.Run r) (answer : Result ℕ Refusal) (outcome : Outcome)
    (tells : outcome ≡ run_outcome answer) where
  pub run_gives : (before now : Outside) → RunGives r.steps r.elf.now before now answer → AskedGives (Some (requested request)) before now outcome
  run_gives before now gives =
      subst (λ (q : Request). AskedGives (Some (requested q)) before now outcome) (sym is)
      (subst (λ (o : Outcome). AskedGives (Some (requested (Q.Run r))) before now o) (sym tells)
      (by_status_gives (RunGives r.steps r.elf.now before now) answer gives))

  pub run_has : (files : Option Contents) (at first : List ℕ) (before now : Outside) → RunGives r.steps r.elf.now before now answer
      → OutcomeHas (Some (requested request)) files outcome at first
  run_has files at first before now gives =
      subst (λ (q : Request). OutcomeHas (Some (requested q)) files outcome at first) (sym is)
      (subst (λ (o : Outcome). OutcomeHas (Some (requested (Q.Run r))) files o at first) (sym tells)
      (run_texts (Some (requested (Q.Run r))) files at first r.steps r.elf.now before now answer gives))

  pub run_reads : {Kept : Type 0} → Kept ⊎ IsOfMachine (run_outcome answer) → Kept ⊎ MayRead (Some (requested request)) outcome
  run_reads {Kept} reads =
      subst (λ (q : Request). Kept ⊎ MayRead (Some (requested q)) outcome) (sym is)
      (subst (λ (o : Outcome). Kept ⊎ IsOfMachine o) (sym tells) reads)
