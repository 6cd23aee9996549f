-- The files of a program as they are read: how many, each within its limit, in the order of their names.
use Rattle.std.specs.Prelude.{◌≡◌, ℕ, ◌<◌, ◌≤◌, List, length, map, take, slice_get, All, Option, Some, Result, Ok, Err, ⊤}
use Rattle.std.specs.Global.{Vec}
use Rattle.lay_base.specs.Known.{Contents, Rose, IfKnown}
use Rattle.lay_base.specs.declared.place.File.{File}
use Rattle.lay_base.specs.declared.faults.LimitKind.TheVariants as L
use Rattle.refusals.specs.declared.refusal.Refusal.{Refusal}
use Rattle.refusals.specs.declared.refusal.Refusal.TheVariants as R
use Rattle.lay_compile.specs.ProgramFiles.Outside.{HoldsWithin}

-- the greatest number of files that a program has
abbrev pub most_files : ℕ
most_files = 64

-- the greatest number of bytes of a file
abbrev pub file_limit : ℕ
file_limit = 4194304

-- ---- the files at entry

-- where the files are known: the name has bytes within the limit of a file
abbrev pub IsReadable : Option Contents → (name : List ℕ) → Type 0
IsReadable files name = HoldsWithin file_limit files name (λ bytes. ⊤)

-- There are no more names than a program has files, and reading them in their order comes to this one: those before it can be read.
pub record ComesTo (files : Option Contents) (names : List (List ℕ)) (name : List ℕ) : Type 0 where
  pub few : length names ≤ most_files
  pub place : (k : ℕ) × (slice_get names k ≡ Some name) × All (IsReadable files) (take k names)

-- the file has the bytes under its name, where these are known, and is within the limit
abbrev pub IsRead : Option Contents → File → Type 0
IsRead files file = IfKnown files file.name (λ was. was ≡ Some file.bytes) × (length file.bytes ≤ file_limit)

-- There are no more names than a program has files, and these are the files under them, as they were at entry.
pub record AreFilesOf (files : Option Contents) (names : List (List ℕ)) (read : List File) : Type 0 where
  pub few : length names ≤ most_files
  pub named : map (λ file. file.name) read ≡ names
  pub as_known : All (IsRead files) read

-- ... of which this holds
abbrev pub WereSo : (files : Option Contents) (names : List (List ℕ)) (P : List File → Type 0) → Type 0
WereSo files names P = (read : List File) × AreFilesOf files names read × P read

-- ---- by the answer; want of memory says nothing

-- a file: the bytes under the name, at most so many, are read
abbrev pub BytesGive : (limit reads_before reads_now : ℕ) → Option Contents → (name : List ℕ) → Result (Vec ℕ) Refusal → Type 0
BytesGive limit before now files name (Ok bytes) = IfKnown files name (λ file. file ≡ Some bytes.items) × (length bytes.items ≤ limit)
BytesGive limit before now files name (Err (R.FileFault named)) = (named ≡ name) × Rose before now
BytesGive limit before now files name (Err (R.TooLong named)) =
    (named ≡ name) × IfKnown files name (λ file. (now ≡ before) × ((bytes : List ℕ) × (file ≡ Some bytes) × (limit < length bytes)))
BytesGive limit before now files name (Err (R.Memory want)) = Unit {0}
BytesGive limit before now files name (Err _) = ⊥

-- there are no more files than a program has
abbrev pub NumberGives : (files : ℕ) → Result (Unit {0}) Refusal → Type 0
NumberGives files (Ok done) = files ≤ most_files
NumberGives files (Err (R.Limit L.Files counted)) = (counted ≡ files) × (most_files < files)
NumberGives files (Err _) = ⊥

-- the files are read, in the order of their names
abbrev pub FilesGive : (reads_before reads_now : List ℕ → ℕ) → Option Contents → (names : List (List ℕ)) → Result (List File) Refusal → Type 0
FilesGive before now files names (Ok read) = (map (λ file. file.name) read ≡ names) × All (IsRead files) read
FilesGive before now files names (Err (R.FileFault name)) = ComesTo files names name × Rose (before name) (now name)
FilesGive before now files names (Err (R.TooLong name)) = ComesTo files names name
    × IfKnown files name (λ file. (now name ≡ before name) × ((bytes : List ℕ) × (file ≡ Some bytes) × (file_limit < length bytes)))
FilesGive before now files names (Err (R.Memory want)) = Unit {0}
FilesGive before now files names (Err _) = ⊥
