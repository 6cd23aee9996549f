-- What the reader answers.
use Rattle.std.specs.Prelude.{◌≡◌, ℕ, ◌≤◌, List, length, take, drop, Option, Some, None, Result, Ok, Err}
use Rattle.std.specs.Global.{Vec}
use Rattle.lay_base.specs.declared.faults.ElfField.{ElfField}
use Rattle.rv_isa.specs.declared.image.Image.{Image}
use Rattle.elf32.specs.declared.fault.ElfFault.{ElfFault}
use Rattle.elf32.specs.declared.fault.ElfFault.TheVariants.{BadElf, Memory}
use Rattle.elf32.specs.declared.header.ProgramHeader.{ProgramHeader}
use Rattle.elf32.specs.declared.reading.FirstHeaders.{FirstHeaders}
use Rattle.elf32.specs.Header.{loadable}
use Rattle.elf32.specs.Loaded.{Test, file_tests, first_refusal}

-- the answer for bytes that load so: the image, or the refused field and the number found there.
-- Want of memory may come at any time.
abbrev pub ReadGives : Result Image ElfFault → Result Image (ElfField × ℕ) → Type 0
ReadGives (Ok image) loads = loads ≡ Ok image
ReadGives (Err (BadElf field found)) loads = loads ≡ Err (field, found)
ReadGives (Err (Memory want)) loads = Unit {0}

-- ---- parts of the reader

-- the fault of a test that refuses
abbrev pub unless_fault : Option Test → Result (Unit {0}) ElfFault
unless_fault None = Ok tt
unless_fault (Some t) = Err (BadElf t.field t.found)

-- the answer where only these tests are made
abbrev pub tested : List Test → Result (Unit {0}) ElfFault
tested ts = unless_fault (first_refusal ts)

-- how many headers there are, and the first 16 of them
pub record HasFirst (found : FirstHeaders) (hs : List ProgramHeader) : Type 0 where
  pub count : found.count ≡ length hs
  pub first : found.first.items ≡ take 16 hs

-- these are the loadable headers, and how many they are passes the last of the file's tests
pub record AreLoadable (hs : List ProgramHeader) (bytes : List ℕ) : Type 0 where
  pub passes : tested (drop 10 (file_tests bytes)) ≡ Ok tt
  pub few : length hs ≤ 16
  pub all : hs ≡ loadable bytes

-- they, or that test's refusal
abbrev pub LoadableGives : Result (Vec ProgramHeader) ElfFault → List ℕ → Type 0
LoadableGives (Ok headers) bytes = AreLoadable headers.items bytes
LoadableGives (Err (BadElf field found)) bytes = tested (drop 10 (file_tests bytes)) ≡ Err (BadElf field found)
LoadableGives (Err (Memory want)) bytes = Unit {0}
