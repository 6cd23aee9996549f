-- The files under some names that were read, and what is answered of them.
use Rattle.std.proofs.Common.{◌≡◌, ℕ, ◌≤◌, List, length, map, Option, refl}
use Rattle.std.specs.Prelude.{All, Result, Ok, Err, IfErr}
use Rattle.std.specs.Borrow.{Bor}
use Rattle.std.proofs.lemmas.List.{length-map}
use Rattle.lay_base.specs.Known.{Contents, FilesKeep}
use Rattle.lay_base.specs.declared.place.File.{File}
use Rattle.lay_base.specs.declared.faults.LimitKind.TheVariants as L
use Rattle.refusals.specs.declared.refusal.Refusal.{Refusal}
use Rattle.refusals.specs.declared.refusal.Refusal.TheVariants as R
use Rattle.lay_compile.specs.declared.program_files.front_end.PlaceTexts.{PlaceTexts}
use Rattle.lay_compile.specs.declared.program_files.source_program.SourceProgram.{SourceProgram}
use Rattle.lay_compile.specs.ProgramFiles.FrontEnd.{AreTexts, IsRefused, HasTexts, FilesAreRefused, FileSourceGives, SourceGives}
use Rattle.lay_compile.specs.ProgramFiles.Outside.{Stream, Outside, outside, IsUntouched}
use Rattle.lay_compile.specs.ProgramFiles.Reading.{most_files, AreFilesOf, IsRead}
use Rattle.lay_compile.proofs.ProgramFiles.FrontFaults.{no_files_limit}

-- the files under the names, as they were at entry
pub are_files : (f : Option Contents) (names : List (Bor (List ℕ))) (read : List File) → length names ≤ most_files
    → map (λ file. file.name) read ≡ map (λ name. name.now) names → All (IsRead f) read → AreFilesOf f (map (λ name. name.now) names) read
are_files f names read few named all = record { few = rw length-map few; named = named; as_known = all }

-- the texts of the places are those in these files
pub places_in : (f : Option Contents) (names : List (List ℕ)) (read : List File) (texts : PlaceTexts) (refusal : Refusal)
    → AreFilesOf f names read → AreTexts read refusal texts → HasTexts f names texts refusal
places_in f names read texts refusal are has = λ place. (read, are, has)

pub places_in_any : {A : Type 0} (f : Option Contents) (names : List (List ℕ)) (read : List File) (texts : PlaceTexts) (r : Result A Refusal)
    → AreFilesOf f names read → IfErr r (λ refusal. AreTexts read refusal texts) → IfErr r (HasTexts f names texts)
places_in_any f names read texts (Ok done) are has = tt
places_in_any f names read texts (Err refusal) are has = places_in f names read texts refusal are has

module _ (f0 f1 : Option Contents) (reads0 reads1 writes0 writes1 : List ℕ → ℕ) (input out : Stream) (names : List (List ℕ)) (read : List File)
    (kept : FilesKeep f0 f1) (are : AreFilesOf f0 names read) where
  abbrev before : Outside
  before = outside f0 reads0 writes0 input out

  abbrev now : Outside
  now = outside f1 reads1 writes1 input out

  untouched : IsUntouched before now
  untouched = record { files = kept; input = refl; out = refl }

  -- for the cause that the refusal tells, or memory is out
  pub files_refused : (refusal : Refusal) → IsRefused read refusal → FilesAreRefused names before now refusal
  files_refused (R.Limit L.Files counted) refused = absurd (no_files_limit read counted refused)
  files_refused (R.FileFault name) refused = let none = refused.1 in cc
  files_refused (R.TooLong name) refused = let none = refused.1 in cc
  files_refused (R.Memory want) refused = untouched
  files_refused refusal refused = ((read, are, refused), untouched)

  pub source_gives : (r : Result SourceProgram Refusal) → FileSourceGives read r → SourceGives names before now r
  source_gives (Ok source) gives = (rw gives.0 are, rw gives.0 gives.1, untouched)
  source_gives (Err refusal) gives = files_refused refusal gives
