-- Files that are read one after the other.
use Rattle.std.proofs.Common.{◌≡◌, ℕ, ◌+◌, ◌<◌, ◌≤◌, List, [], ◌∷◌, ◌++◌, length, map, take, get_or, Option, Some, None, refl, sym, ap, subst, ◌∙◌}
use Rattle.std.specs.Prelude.{All, Ok, Err}
use Rattle.std.specs.Global.{Vec}
use Rattle.std.specs.Borrow.{Bor}
use Rattle.std.specs.Prelude.{option_map}
use Rattle.std.proofs.lemmas.List.{length-map, map-append, map_more, take-map}
use Rattle.std.proofs.lemmas.Option.{slice_get-map, slice_get-get_or}
use Rattle.std.proofs.lemmas.List.Elements.{All-push, All-map, All-weaker}
use Rattle.lay_base.specs.Known.{Contents, IfKnown, FilesKeep}
use Rattle.lay_base.specs.declared.place.File.{File}
use Rattle.refusals.specs.declared.refusal.Refusal.{Refusal}
use Rattle.refusals.specs.declared.refusal.Refusal.TheVariants as R
use Rattle.lay_compile.specs.ProgramFiles.Reading.{most_files, file_limit, IsReadable, IsRead, ComesTo}
use Rattle.lay_compile.specs.ProgramFiles.Reading.{BytesGive, FilesGive}

-- ---- known files over calls that change none

pub same_files : (f : Option Contents) → FilesKeep f f
same_files None = refl
same_files (Some files) = λ name. refl

pub keep_twice : (f0 f1 f2 : Option Contents) → FilesKeep f0 f1 → FilesKeep f1 f2 → FilesKeep f0 f2
keep_twice None f1 f2 a b = let e : f1 ≡ None = a in rw e at b
keep_twice (Some f0) None f2 a b = absurd a
keep_twice (Some f0) (Some f1) None a b = absurd b
keep_twice (Some f0) (Some f1) (Some f2) a b = λ name. b name ∙ a name

-- what is known of a file later was so before
pub known_before : (f0 f1 : Option Contents) (name : List ℕ) (P : Option (List ℕ) → Type 0) → FilesKeep f0 f1 → IfKnown f1 name P → IfKnown f0 name P
known_before None f1 name P a known = tt
known_before (Some f0) None name P a known = absurd a
known_before (Some f0) (Some f1) name P a known = subst P (a name) known

-- ---- the files of the first names

-- the first names are read, and the host has failed no more than before, and holds what it held
pub record AreRead (reads0 reads writes0 writes : List ℕ → ℕ) (f0 f1 : Option Contents) (names : List (Bor (List ℕ))) (n : ℕ) (files : List File) : Type 0 where
  pub named : map (λ file. file.name) files ≡ map (λ name. name.now) (take n names)
  pub read : All (IsRead f0) files
  pub reads_same : (name : List ℕ) → reads name ≡ reads0 name
  pub writes_same : (name : List ℕ) → writes name ≡ writes0 name
  pub kept : FilesKeep f0 f1

-- a file that was read was readable
readable : (f : Option Contents) (file : File) → IsRead f file → IsReadable f file.name
readable None file read = tt
readable (Some files) file read = (file.bytes, read.0, read.1, tt)

pub all_readable : (f : Option Contents) (files : List File) → All (IsRead f) files → All (IsReadable f) (map (λ file. file.name) files)
all_readable f files read = All-map (IsReadable f) (λ file. file.name) files (All-weaker (IsRead f) (λ file. IsReadable f file.name) (readable f) files read)

-- files that were read are no more than their names, and within the limit of a file
pub few_read : (files : List File) (names : List (Bor (List ℕ))) → map (λ file. file.name) files ≡ map (λ name. name.now) names → length names ≤ most_files
    → length files ≤ most_files
few_read files names named few =
    let same = ap (λ (l : List (List ℕ)). length l) named in
    let count : length files ≡ length names = rw (length-map, length-map) at same in
    rw count few

pub short_read : (f : Option Contents) (files : List File) → All (IsRead f) files → All (λ file. length file.bytes ≤ file_limit) files
short_read f files read = All-weaker (IsRead f) (λ file. length file.bytes ≤ file_limit) (λ file was. was.1) files read

-- a name that is never read, for the names of lists within their length
abbrev pub no_name : Bor (List ℕ)
no_name = record { ref_ptr = (0, 0); now = [] }

module _ (reads0 reads1 reads2 writes0 writes1 writes2 : List ℕ → ℕ) (f0 f1 f2 : Option Contents) (names : List (Bor (List ℕ))) (i : ℕ) (files : List File)
    (before : AreRead reads0 reads1 writes0 writes1 f0 f1 names i files) (within : i < length names) where
  abbrev name_of : Bor (List ℕ) → List ℕ
  name_of name = name.now

  abbrev name : List ℕ
  name = name_of (get_or names i no_name)

  pub one_more_read : (bytes : Vec ℕ) → FilesKeep f1 f2 → ((other : List ℕ) → reads2 other ≡ reads1 other) → ((other : List ℕ) → writes2 other ≡ writes1 other)
      → BytesGive file_limit (reads1 name) (reads2 name) f1 name (Ok bytes)
      → AreRead reads0 reads2 writes0 writes2 f0 f2 names (i + 1) (files ++ record { name = name; bytes = bytes.items } ∷ [])
  one_more_read bytes k same_reads same_writes gives = record {
    named = map-append (λ (file : File). file.name) files _ ∙ ap (λ l. l ++ name ∷ []) before.named ∙ sym (map_more name_of names i no_name within);
    read = All-push (IsRead f0) files _ before.read (known_before f0 f1 name _ before.kept gives.0, gives.1);
    reads_same = λ other. same_reads other ∙ before.reads_same other;
    writes_same = λ other. same_writes other ∙ before.writes_same other;
    kept = keep_twice f0 f1 f2 before.kept k;
  }

  comes_to : length names ≤ most_files → ComesTo f0 (map name_of names) name
  comes_to few = record {
    few = rw length-map few;
    place = (
      i,
      slice_get-map name_of names i ∙ ap (option_map name_of) (slice_get-get_or names i no_name within),
      rw (take-map, ← before.named) (all_readable f0 files before.read),
    );
  }

  pub stops : length names ≤ most_files → (refusal : Refusal) → BytesGive file_limit (reads1 name) (reads2 name) f1 name (Err refusal)
      → FilesGive reads0 reads2 f0 (map name_of names) (Err refusal)
  stops few (R.FileFault other) gives = rw gives.0 (comes_to few, rw (← before.reads_same name) gives.1)
  stops few (R.TooLong other) gives = rw gives.0 (comes_to few, known_before f0 f1 name _ before.kept (rw (← before.reads_same name) gives.1))
  stops few (R.Memory want) gives = tt
  stops few _ gives = absurd gives
