-- Where the files are known, each place of a refusal is one of the files with tokens before it, so its text is that of the place.
use Rattle.std.proofs.Common.{◌≡◌, ℕ, true, List, Option, Some, None, sym, subst, inl, inr, refl}
use Rattle.std.specs.Prelude.{Err}
use Rattle.c_typed.specs.declared.run_counts.counts.Counts.{Counts}
use Rattle.c_tokens.specs.TokenPlaces.{IsPlaceOf}
use Rattle.c_link.specs.Programs.{IsProgramOf}
use Rattle.c_typed.specs.Programs.{ProgramData}
use Rattle.c_undefined_places.specs.Laws.{UndefinedStepsStandInFiles}
use Rattle.lay_base.specs.Known.{Contents}
use Rattle.lay_base.specs.Want.{no_memory}
use Rattle.lay_base.specs.declared.faults.UndefinedKind.{UndefinedKind}
use Rattle.lay_base.specs.declared.place.File.{File}
use Rattle.lay_base.specs.declared.place.Place.{Place}
use Rattle.refusals.specs.Table.{HasPlace}
use Rattle.refusals.specs.declared.refusal.Refusal.{Refusal}
use Rattle.refusals.specs.declared.refusal.Refusal.TheVariants as R
use Rattle.source_run.specs.RunGives.{RunGives as RunComesTo}
use Rattle.source_run.specs.declared.end.RunEnd.{RunEnd}
use Rattle.source_run.specs.declared.end.RunEnd.TheVariants as E
use Rattle.lay_commands.specs.Words.{Command, Compilation, Profiling, Compile, Profile, Interp, Run}
use Rattle.lay_compile.specs.ProgramFiles.FrontEnd.{AreRefused, HaveTexts, FilesAreRefused}
use Rattle.lay_compile.specs.ProgramFiles.Outside.{Outside}
use Rattle.lay_compile.specs.ProgramFiles.Reading.{AreFilesOf, WereSo}
use Rattle.lay_compile.specs.RefusalPlaces.Texts.{AreOfPlaces, NamedTextsAreOfPlaces}
use Rattle.lay_compile.proofs.RefusalPlaces.FilesOfNames.{one_list}
use Rattle.lay_commands.specs.Answers.{AreUnread, AskedGives, CommandGives, OutcomeGives, IsOfSource, IsTold, PlacesHave, PlacesStand, source_files}
use Rattle.lay_commands.specs.Interpreting.{Ran, Tells, TellsNoProfile, ProfileGives, streams_of}
use Rattle.lay_commands.specs.Profiles.{ProfileIsRefused}
use Rattle.lay_commands.specs.Stages.{CompileGives}
use Rattle.lay_commands.specs.declared.outcome.Outcome.TheVariants.{Refused}
use Rattle.lay_commands.proofs.Interpreted.{tells_source}
use Rattle.lay_commands.proofs.Refused.{no_places}

-- of the refusals that tell an end of a run, only an undefined step has a place
is_step : (refusal : Refusal) → IsOfSource (Refused refusal) → HasPlace refusal → (kind : UndefinedKind) × (place : Place) × (refusal ≡ R.Undefined kind place)
is_step (R.Undefined kind place) source has = (kind, place, refl)
is_step (R.TurnLimit turns) source has = cc
is_step (R.Room what counted) source has = cc
is_step R.ReadFault source has = cc
is_step R.WriteFault source has = cc
is_step (R.Memory want) source has = cc
is_step _ source has = absurd source

no_command : (c : Command) → None ≡ Some c → ⊥
no_command c e = cc

-- an undefined step is told by its own end alone
end_is : (end : RunEnd) (kind : UndefinedKind) (place : Place) → Tells end (Err (R.Undefined kind place)) → end ≡ E.Undefined kind place
end_is (E.Undefined own at) kind place (inl e) = cc
end_is (E.Ends status) kind place (inl e) = cc
end_is (E.TurnLimit turns) kind place (inl e) = cc
end_is (E.Room what counted) kind place (inl e) = cc
end_is E.ReadFault kind place (inl e) = cc
end_is E.WriteFault kind place (inl e) = cc
end_is (E.Memory want) kind place (inl e) = cc
end_is end kind place (inr lacks) = let none = lacks.0 in cc

module _ (of_places : NamedTextsAreOfPlaces) (steps : UndefinedStepsStandInFiles) (contents : Contents) (at first : List ℕ) where
  abbrev Texts : List (List ℕ) → Refusal → Type 0
  Texts names refusal = WereSo (Some contents) names (λ read. HaveTexts read refusal at first)

  abbrev Stand : List (List ℕ) → Refusal → Type 0
  Stand names refusal = WereSo (Some contents) names (λ read. AreOfPlaces read refusal at first)

  -- ---- the front end

  front : (names : List (List ℕ)) (before now : Outside) (refusal : Refusal) → before.files ≡ Some contents → FilesAreRefused names before now refusal
      → Texts names refusal → Stand names refusal
  front names before now (R.FileFault name) known gives t = (t.0, t.1, (tt, tt))
  front names before now (R.TooLong name) known gives t = (t.0, t.1, (tt, tt))
  front names before now (R.Limit which counted) known gives t = (t.0, t.1, (tt, tt))
  front names before now (R.Memory want) known gives t = (t.0, t.1, (tt, tt))
  front names before now refusal known gives t =
      of_places contents names refusal at first (subst (λ files. WereSo files names (λ read. AreRefused read refusal)) known gives.0) t

  -- ---- an undefined step

  step_placed : (files : List File) (p : ProgramData) → IsProgramOf files p → (turns : ℕ) (before now : Outside) (counts : Counts) (kind : UndefinedKind)
      (place : Place) → IsTold (R.Undefined kind place) before.input.bytes
      → RunComesTo p turns (streams_of before) (streams_of now) counts (E.Undefined kind place) → IsPlaceOf files place
  step_placed files p is turns before now counts kind place told run =
      let came = run.1 told.0 told.1 in steps files p is told.0 turns true kind place came.output came.rest came.is

  step : (names : List (List ℕ)) (kind : UndefinedKind) (place : Place) (files : List File) → AreFilesOf (Some contents) names files → IsPlaceOf files place
      → Texts names (R.Undefined kind place) → Stand names (R.Undefined kind place)
  step names kind place files of_names (file, found, before) (others, others_of_names, texts) =
      let same = one_list contents names others files others_of_names of_names in
      let own = subst (λ read. HaveTexts read (R.Undefined kind place) at first) same texts in
      (files, of_names, (((file, found, before), (file, found, own.0 file found before)), tt))

  ran : (names : List (List ℕ)) (turns : ℕ) (before now : Outside) (refusal : Refusal) → HasPlace refusal → IsTold refusal before.input.bytes
      → before.files ≡ Some contents → Ran names turns before now (λ counts end. Tells end (Err refusal)) → Texts names refusal → Stand names refusal
  ran names turns before now refusal has told known (files, of_names, (p, is, (counts, end, run, tells))) t =
      let z = is_step refusal (tells_source end (Err refusal) tells) has in
      let kind = z.0 in
      let place = z.1 in
      let own_told = subst (λ r. IsTold r before.input.bytes) z.2 told in
      let own_end = end_is end kind place (subst (λ r. Tells end (Err r)) z.2 tells) in
      let own_run = subst (λ end. RunComesTo p turns (streams_of before) (streams_of now) counts end) own_end run in
      let stands = step_placed files p is turns before now counts kind place own_told own_run in
      let here = subst (λ contents. AreFilesOf contents names files) known of_names in
      subst (Stand names) (sym z.2) (step names kind place files here stands (subst (Texts names) z.2 t))

  -- ---- commands

  by_given : (c : Compilation) (before now : Outside) (refusal : Refusal) → ProfileIsRefused c before now refusal → Texts c.files refusal → Stand c.files refusal
  by_given c before now (R.FileFault name) gives t = (t.0, t.1, (tt, tt))
  by_given c before now (R.TooLong name) gives t = (t.0, t.1, (tt, tt))
  by_given c before now (R.BadProfile line) gives t = (t.0, t.1, (tt, tt))
  by_given c before now (R.Stale function difference) gives t = (t.0, t.1, (tt, tt))
  by_given c before now _ gives t = absurd gives.2

  by_compile : (c : Compilation) (before now : Outside) (refusal : Refusal) → before.files ≡ Some contents → CompileGives c before now (Err refusal)
      → Texts c.files refusal → Stand c.files refusal
  by_compile c before now (R.NotBuilt name) known gives t = (t.0, t.1, (tt, tt))
  by_compile c before now R.WriteFault known gives t = (t.0, t.1, (tt, tt))
  by_compile c before now refusal known (inl gives) t = front c.files before now refusal known gives t
  by_compile c before now refusal known (inr gives) t = by_given c before now refusal gives t

  memory_has : (refusal : Refusal) → refusal ≡ R.Memory no_memory → HasPlace refusal → ⊥
  memory_has refusal e has = let none : HasPlace (R.Memory no_memory) = subst HasPlace e has in cc

  no_profile : (names : List (List ℕ)) (turns : ℕ) (before now : Outside) (refusal : Refusal) → HasPlace refusal
      → Ran names turns before now (λ counts end. TellsNoProfile end refusal) → Ran names turns before now (λ counts end. Tells end (Err refusal))
  no_profile names turns before now refusal has (files, of_names, (p, is, (counts, end, run, inl tells))) = (files, of_names, (p, is, (counts, end, run, tells)))
  no_profile names turns before now refusal has (files, of_names, (p, is, (counts, end, run, inr lacks))) = absurd (memory_has refusal lacks.0 has)

  by_profile : (c : Profiling) (before now : Outside) (refusal : Refusal) → HasPlace refusal → IsTold refusal before.input.bytes
      → before.files ≡ Some contents → ProfileGives c before now (Err refusal) → Texts c.files refusal → Stand c.files refusal
  by_profile c before now R.WriteFault has told known gives t = (t.0, t.1, (tt, tt))
  by_profile c before now refusal has told known (inl gives) t = front c.files before now refusal known gives t
  by_profile c before now refusal has told known (inr gives) t =
      ran c.files c.turns before now refusal has told known (no_profile c.files c.turns before now refusal has gives.0) t

  by_command : (c : Command) (before now : Outside) (refusal : Refusal) → HasPlace refusal → IsTold refusal before.input.bytes
      → before.files ≡ Some contents → CommandGives c before now (Refused refusal) → Texts (source_files c) refusal → Stand (source_files c) refusal
  by_command (Compile c) before now refusal has told known gives t = by_compile c before now refusal known gives t
  by_command (Profile c) before now refusal has told known gives t = by_profile c before now refusal has told known gives t
  by_command (Interp c) before now refusal has told known (inl gives) t = front c.files before now refusal known gives t
  by_command (Interp c) before now refusal has told known (inr gives) t = ran c.files c.turns before now refusal has told known gives.0 t
  by_command (Run limit elf) before now refusal has told known gives t =
      let z = no_places None None at first limit elf before now refusal gives has in absurd (no_command z.0 z.1)

-- words that are not read have no place
unread_has : (before now : Outside) (refusal : Refusal) → AreUnread before now (Refused refusal) → HasPlace refusal → ⊥
unread_has before now R.Unread unread has = cc
unread_has before now _ unread has = absurd unread

pub places_stand : NamedTextsAreOfPlaces → UndefinedStepsStandInFiles → (command : Option Command) (before now : Outside) (refusal : Refusal)
    (at first : List ℕ) → OutcomeGives command before now (Refused refusal) → PlacesHave command before.files refusal at first
    → PlacesStand command before.files before.input.bytes refusal at first
places_stand of_places steps command before now refusal at first (inr unread) have has = absurd (unread_has before now refusal unread has)
places_stand of_places steps command before now refusal at first (inl gives) have has =
    let z = have has in
    let c = z.0 in
    let own = subst (λ command. AskedGives command before now (Refused refusal)) z.1 gives in (
      c,
      z.1,
      λ contents known told.
          subst (λ files. WereSo files (source_files c) (λ read. AreOfPlaces read refusal at first)) (sym known)
          (by_command of_places steps contents at first c before now refusal has told known own
          (subst (λ files. WereSo files (source_files c) (λ read. HaveTexts read refusal at first)) known z.2)),
    )
