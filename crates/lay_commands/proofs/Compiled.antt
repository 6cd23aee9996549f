-- The stages of `compile`, one after the other: what is left where one refuses, and at the end.
use Rattle.std.proofs.Common.{◌≡◌, ℕ, List, take, Option, Some, None, refl, sym, ap, ◌∙◌, inl, inr}
use Rattle.std.specs.Prelude.{◌⊎◌, Result, Ok, Err, slice_get}
use Rattle.lay_base.specs.Known.{Contents, IfKnown, FilesKeep, FilesKeepBut}
use Rattle.lay_base.specs.declared.place.File.{File}
use Rattle.c_link.specs.Programs.{IsProgramOf}
use Rattle.c_typed.specs.declared.run_counts.counts.Counts.{Counts}
use Rattle.c_typed.specs.Programs.{ProgramData}
use Rattle.compiled_files.specs.Files.{IsFileOf}
use Rattle.refusals.specs.declared.refusal.Refusal.{Refusal}
use Rattle.refusals.specs.declared.refusal.Refusal.TheVariants as R
use Rattle.lay_commands.specs.Words.{Compilation}
use Rattle.lay_compile.specs.ProgramFiles.Outside.{Outside, Stream, outside}
use Rattle.lay_compile.specs.ProgramFiles.Reading.{AreFilesOf}
use Rattle.lay_commands.specs.Compiling.{IsBuilt, IsCompiled, IsPartlyCompiled, IsCompiledTo, IsReportOf, OutputsGive}
use Rattle.lay_commands.specs.Profiles.{IsProfileOf, IsRefused, WereGiven}
use Rattle.lay_commands.specs.Stages.{WriteGives, ReportGives, CompileGives}
use Rattle.lay_commands.proofs.Files.{keep_then_but, keep_then_same}

-- ---- what is given is refused

pub inputs_refused : (c : Compilation) (before now : Outside) (refusal : Refusal) → IsRefused c before now refusal → CompileGives c before now (Err refusal)
inputs_refused c before now (R.NotBuilt name) (inl refused) = let none = refused.0.2.1 in cc
inputs_refused c before now (R.NotBuilt name) (inr refused) = absurd refused.2
inputs_refused c before now R.WriteFault (inl refused) = let none = refused.0.2.1 in cc
inputs_refused c before now R.WriteFault (inr refused) = absurd refused.2
inputs_refused c before now refusal refused = refused

-- ---- the files are the program p, the profile has these counts, and no file has changed since

module _ (c : Compilation) (f0 f1 : Option Contents) (reads0 reads1 writes0 writes1 : List ℕ → ℕ) (input : Stream) (read : List File) (p : ProgramData)
    (counts : Option Counts) (are : AreFilesOf f0 c.files read) (is_program : IsProgramOf read p) (profile : IsProfileOf f0 c.profile p counts)
    (kept : FilesKeep f0 f1) where
  were : (P : List File → ProgramData → Option Counts → Type 0) → P read p counts → WereGiven f0 c P
  were P holds = (read, are, (p, counts, is_program, profile, holds))

  -- it is not built yet, or memory is out
  pub outputs_refused : (reported : Stream) (name : List ℕ) → slice_get c.files 0 ≡ Some name → (refusal : Refusal) → OutputsGive name c read p counts (Err refusal)
      → CompileGives c (outside f0 reads0 writes0 input reported) (outside f1 reads1 writes1 input reported) (Err refusal)
  outputs_refused reported name first (R.NotBuilt other) gives =
      (first ∙ ap Some (sym gives.0), were _ gives.1, record { files = kept; input = refl; out = refl })
  outputs_refused reported name first (R.Memory want) gives = inl (record { files = kept; input = refl; out = refl })
  outputs_refused reported name first _ gives = absurd gives

  -- its ELF file is written or not: these are the host's files after it
  module _ (f2 : Option Contents) (reads2 writes2 : List ℕ → ℕ) (elf report : List ℕ) (built : IsBuilt c p counts) (is : IsFileOf p c.heap c.stack elf)
      (reports : IsReportOf c.is_plain read p counts report) (but : FilesKeepBut c.out f1 f2) where
    left_partly : (before between after : Option Contents) → FilesKeep before between
        → IfKnown between c.out (λ was. IfKnown after c.out (λ now. (now ≡ was) ⊎ ((k : ℕ) × (now ≡ Some (take k elf)))))
        → IfKnown before c.out (λ was. IfKnown after c.out (IsPartlyCompiled c p was))
    left_partly None between after k left = tt
    left_partly (Some before) None after k left = absurd k
    left_partly (Some before) (Some between) None k left = tt
    left_partly (Some before) (Some between) (Some after) k left = elim left [ inl same ↦ inl (same ∙ k c.out) | inr some ↦ inr (elf, is, some) ]

    left_whole : (after : Option Contents) → IfKnown after c.out (λ file. file ≡ Some elf) → IfKnown after c.out (IsCompiled c p)
    left_whole None written = tt
    left_whole (Some after) written = (elf, written, is)

    pub write_refused : (reported : Stream) (refusal : Refusal) → writes1 c.out ≡ writes0 c.out
        → WriteGives (writes1 c.out) (writes2 c.out) f1 f2 c.out elf (Err refusal)
        → CompileGives c (outside f0 reads0 writes0 input reported) (outside f2 reads2 writes2 input reported) (Err refusal)
    write_refused reported R.WriteFault same gives = inl (record {
      cause = rw (← same) gives.0;
      partly = were _ (built, left_partly f0 f1 f2 kept gives.1);
      others = keep_then_but c.out f0 f1 f2 kept but;
      unreported = refl;
      unread = refl;
    })
    write_refused reported (R.Memory want) same gives = inl (record { files = keep_then_same c.out f0 f1 f2 kept but gives; input = refl; out = refl })
    write_refused reported _ same gives = absurd gives

    compiled_to : (was now : Stream) (Reported : List ℕ → Type 0) → Reported report → IfKnown f2 c.out (λ file. file ≡ Some elf)
        → IsCompiledTo c (outside f0 reads0 writes0 input was) (outside f2 reads2 writes2 input now) Reported
    compiled_to was now Reported holds written = record {
      program = were _ (built, left_whole f2 written, (report, reports, holds));
      others = keep_then_but c.out f0 f1 f2 kept but;
      unread = refl;
    }

    pub report_gives : (was now : Stream) (r : Result (Unit {0}) Refusal) → ((name : List ℕ) → writes2 name ≡ writes0 name)
        → IfKnown f2 c.out (λ file. file ≡ Some elf) → ReportGives was.faults now.faults was.bytes now.bytes report r
        → CompileGives c (outside f0 reads0 writes0 input was) (outside f2 reads2 writes2 input now) r
    report_gives was now (Ok done) same written gives = compiled_to was now _ gives written
    report_gives was now (Err R.WriteFault) same written gives =
        inr (record { cause = gives.0; compiled = compiled_to was now _ gives.1 written; written = same })
    report_gives was now (Err _) same written gives = absurd gives
