-- The outside after `run`.
use Rattle.std.specs.Prelude.{◌≡◌, ℕ, ◌+◌, ◌<◌, ◌≤◌, List, ◌++◌, take, drop, Option, Some, Ok}
use Rattle.lay_base.specs.Known.{Contents, Appends, FilesKeep}
use Rattle.rv_isa.specs.declared.image.Image.{Image}
use Rattle.rv_isa.specs.Memory.{bytes_at}
use Rattle.rv_isa.specs.Step.{State, Standing, Running, register, IsAtCall}
use Rattle.rv_isa.specs.Run.{start, state_after, machine_run}
use Rattle.elf32.specs.Loaded.{loaded}
use Rattle.lay_compile.specs.ProgramFiles.Outside.{Outside, HoldsWithin}

-- the greatest number of bytes of an ELF file
abbrev pub elf_limit : ℕ
elf_limit = 201326592

-- where the files are known: ELF has bytes within the limit, and this holds of them
abbrev pub HoldsElf : Option Contents → (elf : List ℕ) → (List ℕ → Type 0) → Type 0
HoldsElf files elf P = HoldsWithin elf_limit files elf P

-- The bytes of ELF load as an image. Where the input is known too, this holds of the image with that input. No
-- file changed.
pub record Ran (elf : List ℕ) (before now : Outside) (P : Image → (input : List ℕ) → Type 0) : Type 0 where
  pub program : HoldsElf before.files elf (λ bytes.
      (image : Image) × (loaded bytes ≡ Ok image) × ((input : List ℕ) → before.input.bytes ≡ Some input → P image input))
  pub files : FilesKeep before.files now.files

-- After m steps the program stands so: out has gained its output, and the rest of its input is left.
pub record CameTo (standing : Standing) (before now : Outside) (image : Image) (input : List ℕ) (m : ℕ) : Type 0 where
  pub stands : (machine_run image input m).standing ≡ standing
  pub written : Appends before.out.bytes now.out.bytes (machine_run image input m).output
  pub left : now.input.bytes ≡ Some (machine_run image input m).rest

-- the program came to this end within so many steps
abbrev pub Ended : (limit : ℕ) (elf : List ℕ) (before now : Outside) → Standing → Type 0
Ended limit elf before now standing = Ran elf before now (λ image input. (m : ℕ) × (m ≤ limit) × CameTo standing before now image input m)

-- so many steps were made, and the program would go on
abbrev pub WouldGoOn : (limit : ℕ) (elf : List ℕ) (before now : Outside) → Type 0
WouldGoOn limit elf before now = Ran elf before now (λ image input. CameTo Running before now image input limit)

-- the state of the machine after m steps
abbrev pub state_at : Image → (input : List ℕ) (m : ℕ) → State
state_at image input m = state_after image.segments m (start image input)

-- After m steps the program is at the call read, with which it would go on. Out has gained its output, and fewer
-- bytes than it asks for were taken from the input.
pub record StoppedInRead (before now : Outside) (image : Image) (input : List ℕ) (m : ℕ) : Type 0 where
  pub stands : (machine_run image input m).standing ≡ Running
  pub call : IsAtCall 63 (state_at image input m)
  pub goes : (machine_run image input (m + 1)).standing ≡ Running
  pub written : Appends before.out.bytes now.out.bytes (machine_run image input m).output
  pub taken : (j : ℕ) × (j < register (state_at image input m) 12) × (now.input.bytes ≡ Some (drop j (machine_run image input m).rest))

-- the bytes that a call write at this state asks for
abbrev pub asked_bytes : State → List ℕ
asked_bytes s = bytes_at s.memory (register s 11) (register s 12)

-- After m steps the program is at the call write, with which it would go on. Out has gained its output and a
-- first part of this call's bytes, and the rest of its input is left.
pub record StoppedInWrite (before now : Outside) (image : Image) (input : List ℕ) (m : ℕ) : Type 0 where
  pub stands : (machine_run image input m).standing ≡ Running
  pub call : IsAtCall 64 (state_at image input m)
  pub goes : (machine_run image input (m + 1)).standing ≡ Running
  pub written : (k : ℕ) × Appends before.out.bytes now.out.bytes ((machine_run image input m).output ++ take k (asked_bytes (state_at image input m)))
  pub left : now.input.bytes ≡ Some (machine_run image input m).rest

-- the program stopped so before it had made so many steps
abbrev pub Stopped : (limit : ℕ) (elf : List ℕ) (before now : Outside) → (Image → (input : List ℕ) (m : ℕ) → Type 0) → Type 0
Stopped limit elf before now InCall = Ran elf before now (λ image input. (m : ℕ) × (m < limit) × InCall image input m)
