-- What `compile` is given, stage by stage: what is left where one refuses, and at the end.
use Rattle.std.proofs.Common.{◌≡◌, ℕ, ◌≤◌, List, length, Option, Some, None, refl, inl, inr}
use Rattle.std.specs.Prelude.{Ok, Err}
use Rattle.std.specs.Global.{Vec}
use Rattle.lay_base.specs.Known.{Contents, IfKnown, FilesKeep}
use Rattle.lay_base.specs.declared.place.File.{File}
use Rattle.lay_base.specs.declared.faults.LimitKind.TheVariants as L
use Rattle.refusals.specs.declared.refusal.Refusal.{Refusal}
use Rattle.refusals.specs.declared.refusal.Refusal.TheVariants as R
use Rattle.c_link.specs.Programs.{IsProgramOf}
use Rattle.c_typed.specs.declared.run_counts.counts.Counts.{Counts}
use Rattle.c_typed.specs.Programs.{ProgramData}
use Rattle.lay_compile.specs.declared.program_files.front_end.PlaceTexts.{PlaceTexts}
use Rattle.lay_compile.specs.ProgramFiles.FrontEnd.{HasTexts}
use Rattle.lay_compile.specs.ProgramFiles.Outside.{Stream, Outside, outside, IsUntouched}
use Rattle.lay_compile.specs.ProgramFiles.Reading.{AreFilesOf, BytesGive, FilesGive, NumberGives}
use Rattle.lay_compile.proofs.ProgramFiles.FilesRead.{all_readable, known_before}
use Rattle.lay_commands.specs.Profiles.{AreReadable, CountsGive, CountsIfAnyGive, IsProfileOf, IsRefused, ProfileBytesGive, profile_limit}
use Rattle.profile_file.specs.Lines.{BreaksAt}
use Rattle.lay_commands.specs.Words.{Compilation}

-- ---- too many files

pub number_refused : (c : Compilation) (n : ℕ) (now : Outside) (refusal : Refusal) → n ≡ length c.files → NumberGives n (Err refusal) → IsRefused c now now refusal
number_refused c n now (R.Limit L.Files counted) same gives = inl (rw (← same) gives.0, rw (← same) gives.1, refl)
number_refused c n now _ same gives = absurd gives

module _ (c : Compilation) (f0 f1 : Option Contents) (reads0 reads1 writes0 writes1 : List ℕ → ℕ) (input out : Stream) (kept : FilesKeep f0 f1) where
  abbrev before : Outside
  before = outside f0 reads0 writes0 input out

  abbrev now : Outside
  now = outside f1 reads1 writes1 input out

  untouched : IsUntouched before now
  untouched = record { files = kept; input = refl; out = refl }

  -- a file that cannot be read
  pub unread : (refusal : Refusal) → FilesGive reads0 reads1 f0 c.files (Err refusal) → IsRefused c before now refusal
  unread (R.FileFault name) gives = inl (gives.0, gives.1, untouched)
  unread (R.TooLong name) gives = inl (gives.0, gives.1, untouched)
  unread (R.Memory want) gives = inl untouched
  unread _ gives = absurd gives

-- ---- the files are read, and the profile is not

readable : (f : Option Contents) (names : List (List ℕ)) (read : List File) → AreFilesOf f names read → AreReadable f names
readable f names read are = (are.few, rw (← are.named) (all_readable f read are.as_known))

module _ (c : Compilation) (f0 f1 f2 : Option Contents) (reads0 reads1 reads2 writes0 writes2 : List ℕ → ℕ) (input out : Stream) (read : List File)
    (are : AreFilesOf f0 c.files read) (first : FilesKeep f0 f1) (both : FilesKeep f0 f2) (same : (name : List ℕ) → reads1 name ≡ reads0 name) where
  abbrev was : Outside
  was = outside f0 reads0 writes0 input out

  abbrev is : Outside
  is = outside f2 reads2 writes2 input out

  left : IsUntouched was is
  left = record { files = both; input = refl; out = refl }

  by_name : (name : List ℕ) → c.profile ≡ Some name → (refusal : Refusal) → BytesGive profile_limit (reads1 name) (reads2 name) f1 name (Err refusal)
      → IsRefused c was is refusal
  by_name name named (R.FileFault other) gives = inr (name, named, (gives.0, readable f0 c.files read are, rw (same name) at gives.1), left)
  by_name name named (R.TooLong other) gives = inr (
    name,
    named,
    (gives.0, readable f0 c.files read are, known_before f0 f1 name _ first (rw (same name) at gives.1)),
    left,
  )
  by_name name named (R.Memory want) gives = inl left
  by_name name named _ gives = absurd gives

  pub profile_unread : (profile : Option (List ℕ)) → c.profile ≡ profile → (refusal : Refusal) → ProfileBytesGive reads1 reads2 f1 profile (Err refusal)
      → IsRefused c was is refusal
  profile_unread None named refusal gives = absurd gives
  profile_unread (Some name) named refusal gives = by_name name named refusal gives

-- ---- the files are a program, and the bytes of the profile are read

module _ (c : Compilation) (f0 f1 f2 : Option Contents) (reads0 reads1 reads2 writes0 writes2 : List ℕ → ℕ) (input out : Stream) (read : List File)
    (are : AreFilesOf f0 c.files read) (p : ProgramData) (is_program : IsProgramOf read p) (first : FilesKeep f0 f1) (both : FilesKeep f0 f2) where
  abbrev entry : Outside
  entry = outside f0 reads0 writes0 input out

  abbrev after : Outside
  after = outside f2 reads2 writes2 input out

  unchanged : IsUntouched entry after
  unchanged = record { files = both; input = refl; out = refl }

  held : (name : List ℕ) (bytes : List ℕ) → IfKnown f1 name (λ file. file ≡ Some bytes) → IfKnown f0 name (λ file. file ≡ Some bytes)
  held name bytes known = known_before f0 f1 name _ first known

  named_refused : (name : List ℕ) → c.profile ≡ Some name → (bytes : Vec ℕ) → BytesGive profile_limit (reads1 name) (reads2 name) f1 name (Ok bytes)
      → (refusal : Refusal) → CountsGive bytes.items p (Err refusal) → IsRefused c entry after refusal
  named_refused name named bytes gives (R.BadProfile line) breaks = inr (name, named, (read, are, (p, is_program, known_line f0 (held name bytes.items gives.0))), unchanged)
    where
      known_line : (f : Option Contents) → IfKnown f name (λ file. file ≡ Some bytes.items)
          → IfKnown f name (λ file. (own : List ℕ) × (file ≡ Some own) × BreaksAt line own)
      known_line None known = tt
      known_line (Some files) known = (bytes.items, known, breaks)
  named_refused name named bytes gives (R.Stale function difference) stale = inr (
    name,
    named,
    (
      read,
      are,
      (
        p,
        is_program,
        record {
          counts = stale.0;
          text = (stale.1, rw stale.2 (held name bytes.items gives.0));
          differs = stale.3;
          named = stale.4;
        },
      ),
    ),
    unchanged,
  )
  named_refused name named bytes gives (R.Memory want) none = inl unchanged
  named_refused name named bytes gives _ none = absurd none

  pub counts_refused : (profile : Option (List ℕ)) → c.profile ≡ profile → (bytes : Option (Vec ℕ)) → ProfileBytesGive reads1 reads2 f1 profile (Ok bytes)
      → (refusal : Refusal) → CountsIfAnyGive bytes p (Err refusal) → IsRefused c entry after refusal
  counts_refused None named None gives refusal counts = absurd counts
  counts_refused None named (Some bytes) gives refusal counts = absurd gives
  counts_refused (Some name) named None gives refusal counts = absurd gives
  counts_refused (Some name) named (Some bytes) gives refusal counts = named_refused name named bytes gives refusal counts

  pub profile_of : (profile : Option (List ℕ)) → (bytes : Option (Vec ℕ)) → ProfileBytesGive reads1 reads2 f1 profile (Ok bytes)
      → (counts : Option Counts) → CountsIfAnyGive bytes p (Ok counts) → IsProfileOf f0 profile p counts
  profile_of None None gives None counts = tt
  profile_of None None gives (Some own) counts = absurd counts
  profile_of None (Some bytes) gives own counts = absurd gives
  profile_of (Some name) None gives own counts = absurd gives
  profile_of (Some name) (Some bytes) gives None counts = absurd counts
  profile_of (Some name) (Some bytes) gives (Some own) counts = ((counts.0, rw counts.1 (held name bytes.items gives.0)), counts.2)

-- the bytes of a profile are within the limit
pub short_profile : (reads0 reads1 : List ℕ → ℕ) (f : Option Contents) (profile : Option (List ℕ)) (bytes : Vec ℕ)
    → ProfileBytesGive reads0 reads1 f profile (Ok (Some bytes)) → length bytes.items ≤ profile_limit
short_profile reads0 reads1 f None bytes gives = absurd gives
short_profile reads0 reads1 f (Some name) bytes gives = gives.1

-- ---- refusals that have no place

pub bytes_have_none : (f : Option Contents) (names : List (List ℕ)) (texts : PlaceTexts) (reads0 reads1 : List ℕ → ℕ) (f1 : Option Contents)
    (profile : Option (List ℕ)) (refusal : Refusal) → ProfileBytesGive reads0 reads1 f1 profile (Err refusal) → HasTexts f names texts refusal
bytes_have_none f names texts reads0 reads1 f1 None refusal gives = absurd gives
bytes_have_none f names texts reads0 reads1 f1 (Some name) (R.FileFault other) gives = λ place. cc
bytes_have_none f names texts reads0 reads1 f1 (Some name) (R.TooLong other) gives = λ place. cc
bytes_have_none f names texts reads0 reads1 f1 (Some name) (R.Memory want) gives = λ place. cc
bytes_have_none f names texts reads0 reads1 f1 (Some name) _ gives = absurd gives

pub counts_have_none : (f : Option Contents) (names : List (List ℕ)) (texts : PlaceTexts) (bytes : Option (Vec ℕ)) (p : ProgramData) (refusal : Refusal)
    → CountsIfAnyGive bytes p (Err refusal) → HasTexts f names texts refusal
counts_have_none f names texts None p refusal gives = absurd gives
counts_have_none f names texts (Some bytes) p (R.BadProfile line) gives = λ place. cc
counts_have_none f names texts (Some bytes) p (R.Stale function difference) gives = λ place. cc
counts_have_none f names texts (Some bytes) p (R.Memory want) gives = λ place. cc
counts_have_none f names texts (Some bytes) p _ gives = absurd gives
