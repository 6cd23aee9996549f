-- The observation of the objects that a command is given: their contents, where these are known, and
-- how often they failed.
use Rattle.std.specs.Prelude.{◌≡◌, ℕ, ◌<◌, ◌≤◌, List, length, Option, Some}
use Rattle.lay_base.specs.Known.{Contents, IfKnown, FilesKeep}

-- the bytes that are left of a stream, or that were written to it, and how often it failed
pub record Stream : Type 0 where
  pub bytes : Option (List ℕ)
  pub faults : ℕ

abbrev pub stream : Option (List ℕ) → ℕ → Stream
stream bytes faults = record { bytes = bytes; faults = faults }

pub record Outside : Type 0 where
  -- the host's files, and its failed reads and writes of each name
  pub files : Option Contents
  pub failed_reads : List ℕ → ℕ
  pub failed_writes : List ℕ → ℕ
  pub input : Stream
  pub out : Stream

abbrev pub outside : Option Contents → (failed_reads failed_writes : List ℕ → ℕ) → (input out : Stream) → Outside
outside files failed_reads failed_writes input out =
    record { files = files; failed_reads = failed_reads; failed_writes = failed_writes; input = input; out = out }

-- no file changed, nothing was read of the input, and nothing was written to out
pub record IsUntouched (before now : Outside) : Type 0 where
  pub files : FilesKeep before.files now.files
  pub input : now.input ≡ before.input
  pub out : now.out ≡ before.out

-- where the files are known: the name has bytes within the limit, and this holds of them
abbrev pub HoldsWithin : (limit : ℕ) → Option Contents → (name : List ℕ) → (List ℕ → Type 0) → Type 0
HoldsWithin limit files name P = IfKnown files name (λ file. (bytes : List ℕ) × (file ≡ Some bytes) × (length bytes ≤ limit) × P bytes)

-- ... has more bytes, and its reading did not fail
abbrev pub HoldsLonger : (limit : ℕ) → (name : List ℕ) → (before now : Outside) → Type 0
HoldsLonger limit name before now = IfKnown before.files name (λ file.
    (now.failed_reads name ≡ before.failed_reads name) × ((bytes : List ℕ) × (file ≡ Some bytes) × (limit < length bytes)))
