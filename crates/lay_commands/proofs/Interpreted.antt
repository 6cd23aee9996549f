-- What `interp` and `profile` leave, by what a run of the program gives.
use Rattle.std.proofs.Common.{◌≡◌, ℕ, List, take, Option, Some, None, refl, sym, ap, ◌∙◌, inl, inr, subst}
use Rattle.std.specs.Prelude.{◌⊎◌, Result, Ok, Err}
use Rattle.c_typed.specs.declared.run_counts.counts.Counts.{Counts}
use Rattle.c_link.specs.Programs.{IsProgramOf}
use Rattle.c_typed.specs.Programs.{ProgramData}
use Rattle.lay_base.specs.Known.{Contents, IfKnown, FilesKeep, FilesKeepBut}
use Rattle.lay_base.specs.Want.{no_memory}
use Rattle.lay_base.specs.declared.place.File.{File}
use Rattle.profile_file.specs.Text.{profile_text}
use Rattle.refusals.specs.declared.refusal.Refusal.{Refusal}
use Rattle.refusals.specs.declared.refusal.Refusal.TheVariants as R
use Rattle.source_run.specs.RunGives.{RunGives as RunComesTo}
use Rattle.source_run.specs.Streams.{Streams}
use Rattle.source_run.specs.declared.end.RunEnd.{RunEnd}
use Rattle.source_run.specs.declared.end.RunEnd.TheVariants as E
use Rattle.lay_commands.specs.Words.{Profiling}
use Rattle.lay_compile.specs.ProgramFiles.FrontEnd.{FilesAreRefused}
use Rattle.lay_compile.specs.ProgramFiles.Outside.{Outside, Stream, outside, stream, IsUntouched}
use Rattle.lay_compile.specs.ProgramFiles.Reading.{AreFilesOf}
use Rattle.lay_commands.specs.Answers.{IsOfSource, run_outcome}
use Rattle.lay_commands.specs.Interpreting.{Ran, RanSo, Tells, IsStatus, TellsNoProfile, InterpretGives, InterpGives, streams_of}
use Rattle.lay_commands.specs.Interpreting.{IsPartly, HasNoProfile, ProfileGives}
use Rattle.lay_commands.specs.Stages.{WriteGives}
use Rattle.lay_commands.proofs.Files.{keep_then_but, keep_then_same}

-- what tells an end is an outcome of a program that the interpreter ran
pub tells_source : (end : RunEnd) (r : Result ℕ Refusal) → Tells end r → IsOfSource (run_outcome r)
tells_source (E.Ends status) r (inl e) = rw e tt
tells_source (E.Undefined kind place) r (inl e) = rw e tt
tells_source (E.TurnLimit turns) r (inl e) = rw e tt
tells_source (E.Room what counted) r (inl e) = rw e tt
tells_source E.ReadFault r (inl e) = rw e tt
tells_source E.WriteFault r (inl e) = rw e tt
tells_source (E.Memory want) r (inl e) = rw e tt
tells_source end r (inr lacks) = rw lacks.0 tt

-- a status tells that a program ended with it
pub tells_status : (end : RunEnd) (status : ℕ) → Tells end (Ok status) → end ≡ E.Ends status
tells_status (E.Ends own) status (inl e) = cc
tells_status (E.Undefined kind place) status (inl e) = cc
tells_status (E.TurnLimit turns) status (inl e) = cc
tells_status (E.Room what counted) status (inl e) = cc
tells_status E.ReadFault status (inl e) = cc
tells_status E.WriteFault status (inl e) = cc
tells_status (E.Memory want) status (inl e) = cc
tells_status end status (inr lacks) = let none = lacks.0 in cc

pub ended_so : (end : RunEnd) (status : ℕ) → Tells end (Ok status) → IsStatus end
ended_so end status tells = rw (tells_status end status tells) tt

-- files that are refused have no profile
pub files_refused_too : (c : Profiling) (before now : Outside) (refusal : Refusal) → FilesAreRefused c.files before now refusal
    → ProfileGives c before now (Err refusal)
files_refused_too c before now R.WriteFault refused = inl (inl refused)
files_refused_too c before now refusal refused = inl refused

-- what a host that failed left under a name
left_partly : (out text : List ℕ) (f0 f1 f2 : Option Contents) → FilesKeep f0 f1
    → IfKnown f1 out (λ was. IfKnown f2 out (λ now. (now ≡ was) ⊎ ((k : ℕ) × (now ≡ Some (take k text)))))
    → IfKnown f0 out (λ was. IfKnown f2 out (IsPartly text was))
left_partly out text None f1 f2 k left = tt
left_partly out text (Some f0) None f2 k left = absurd k
left_partly out text (Some f0) (Some f1) None k left = tt
left_partly out text (Some f0) (Some f1) (Some f2) k left = elim left [ inl same ↦ inl (same ∙ k out) | inr some ↦ inr some ]

same_streams : (a b : Outside) → streams_of a ≡ streams_of b → (a.input ≡ b.input) × (a.out ≡ b.out)
same_streams a b e =
    (ap (λ (s : Streams). stream s.left s.read_faults) e, ap (λ (s : Streams). stream s.written s.write_faults) e)

-- The files are the program p, and no file has changed since.
module _ (names : List (List ℕ)) (turns : ℕ) (f0 f1 : Option Contents) (reads0 reads1 writes0 writes1 : List ℕ → ℕ) (in0 in1 out0 out1 : Stream)
    (read : List File) (p : ProgramData) (are : AreFilesOf f0 names read) (is_program : IsProgramOf read p) (kept : FilesKeep f0 f1) where
  abbrev before : Outside
  before = outside f0 reads0 writes0 in0 out0

  abbrev now : Outside
  now = outside f1 reads1 writes1 in1 out1

  untouched : streams_of now ≡ streams_of before → IsUntouched before now
  untouched same = let both = same_streams now before same in record { files = kept; input = both.0; out = both.1 }

  refused : (refusal : Refusal) → refusal ≡ R.Memory no_memory → streams_of now ≡ streams_of before → FilesAreRefused names before now refusal
  refused refusal e same = subst (λ (r : Refusal). FilesAreRefused names before now r) (sym e) (untouched same)

  ran : (P : Counts → RunEnd → Type 0) (counts : Counts) (end : RunEnd) → RunComesTo p turns (streams_of before) (streams_of now) counts end → P counts end
      → Ran names turns before now P
  ran P counts end gives holds = (read, are, (p, is_program, (counts, end, gives, holds)))

  pub interp_gives : (r : Result ℕ Refusal) → InterpretGives p turns (streams_of before) (streams_of now) r
      → InterpGives (record { turns = turns; files = names }) before now r
  interp_gives (Ok status) (inl h) = (ran _ h.0 h.1 h.2 h.3, kept)
  interp_gives (Ok status) (inr h) = let none = h.0 in cc
  interp_gives (Err refusal) (inl h) = inr (ran _ h.0 h.1 h.2 h.3, kept)
  interp_gives (Err refusal) (inr h) = let e : refusal ≡ R.Memory no_memory = let is = h.0 in cc in inl (refused refusal e h.1)

  module _ (out : List ℕ) where
    abbrev c : Profiling
    c = record { out = out; turns = turns; files = names }

    no_profile : (refusal : Refusal)
        → RanSo p turns (streams_of before) (streams_of now) (Err refusal) (λ counts end. TellsNoProfile end refusal) → HasNoProfile c before now refusal
    no_profile refusal (inl h) = inr (ran _ h.0 h.1 h.2 h.3, kept)
    no_profile refusal (inr h) = let e : refusal ≡ R.Memory no_memory = let is = h.0 in cc in inl (refused refusal e h.1)

    pub profile_refused : (refusal : Refusal)
        → RanSo p turns (streams_of before) (streams_of now) (Err refusal) (λ counts end. TellsNoProfile end refusal) → ProfileGives c before now (Err refusal)
    profile_refused R.WriteFault h = inl (no_profile R.WriteFault h)
    profile_refused refusal h = no_profile refusal h

    -- the program ended, and its profile is written or not
    module _ (f2 : Option Contents) (reads2 writes2 : List ℕ → ℕ) (status : ℕ) (counts : Counts) (text : List ℕ)
        (gives : RunComesTo p turns (streams_of before) (streams_of now) counts (E.Ends status)) (is_text : text ≡ profile_text counts)
        (but : FilesKeepBut out f1 f2) where
      abbrev after : Outside
      after = outside f2 reads2 writes2 in1 out1

      ended : (P : Counts → RunEnd → Type 0) → P counts (E.Ends status) → Ran names turns before after P
      ended P holds = (read, are, (p, is_program, (counts, E.Ends status, gives, holds)))

      pub profile_written : IfKnown f2 out (λ file. file ≡ Some text) → ProfileGives c before after (Ok status)
      profile_written written =
          (ended _ (refl, subst (λ (t : List ℕ). IfKnown f2 out (λ file. file ≡ Some t)) is_text written), keep_then_but out f0 f1 f2 kept but)

      pub profile_unwritten : (refusal : Refusal) → writes1 out ≡ writes0 out
          → WriteGives (writes1 out) (writes2 out) f1 f2 out text (Err refusal) → ProfileGives c before after (Err refusal)
      profile_unwritten R.WriteFault same left = inr (record {
        cause = rw (← same) left.0;
        partly = ended _ (tt, subst (λ (t : List ℕ). IfKnown f0 out (λ was. IfKnown f2 out (IsPartly t was))) is_text (left_partly out text f0 f1 f2 kept left.1));
        others = keep_then_but out f0 f1 f2 kept but;
      })
      profile_unwritten (R.Memory want) same left = inr (ended _ (inr (refl, tt)), keep_then_same out f0 f1 f2 kept but left)
      profile_unwritten _ same left = absurd left
