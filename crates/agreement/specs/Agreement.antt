-- When an ELF file does what a source program does. The source is given by its runs (for an input
-- and a number of turns) and by which of them are light, that is, fit in the file's room.
use Rattle.std.specs.Prelude.{◌≡◌, ℕ, ◌*◌, ◌^◌, ◌<◌, ◌≤◌, List, All, Contains, Ok}
use Rattle.block_memory.specs.SourceEnd.{SourceEnd, Ends, GoesOn, IsDefined}
use Rattle.rv_isa.specs.declared.image.Image.{Image}
use Rattle.rv_isa.specs.declared.image.Segment.{Segment}
use Rattle.rv_isa.specs.Step.{Standing, Running, Exits, Trap, Break}
use Rattle.rv_isa.specs.Run.{Shown, machine_run}
use Rattle.elf32.specs.Loaded.{loaded}
use Rattle.elf32.specs.Written.{stack_address, heap_address}

-- the run for an input and a number of turns
abbrev pub SourceRun : Type 0
SourceRun = (input : List ℕ) → (turns : ℕ) → SourceEnd

-- is the run for an input and a number of turns light?
abbrev pub Lightness : Type 1
Lightness = (input : List ℕ) → (turns : ℕ) → Type 0

abbrev pub shows : Standing → (output rest : List ℕ) → Shown
shows standing output rest = record { standing = standing; output = output; rest = rest }

-- the image has a segment of so many MiB at an address
pub record HasRoom (image : Image) (address mib : ℕ) : Type 0 where
  pub segment : Segment
  pub among : Contains image.segments segment
  pub is_at : segment.at ≡ address
  pub size : segment.size ≡ mib * 2 ^ 20

-- What the machine shows at some moment is nothing that the source does not do: it neither traps
-- nor breaks, and where it has ended, the source ends so.
abbrev pub ShowsOnlySource : (source : SourceRun) (input : List ℕ) → Shown → Type 0
ShowsOnlySource source input m = by_standing m.standing
  where
    by_standing : Standing → Type 0
    by_standing Running = Unit {0}
    by_standing (Exits status) = (n : ℕ) × (source input n ≡ Ends m.output status m.rest)
    by_standing (Trap kind pc) = ⊥
    by_standing (Break pc) = ⊥

-- For this input the machine on the image does what the source does.
pub record AgreesFor (source : SourceRun) (IsLight : Lightness) (image : Image) (input : List ℕ) : Type 0 where
  -- where the source ends, the machine ends so
  pub ends : (n : ℕ) (output : List ℕ) (status : ℕ) (rest : List ℕ) → source input n ≡ Ends output status rest → IsLight input n
      → (m : ℕ) × (machine_run image input m ≡ shows (Exits status) output rest)
  -- where the source goes on after n turns, the machine runs on after n steps or more, with the same output so far
  pub goes_on : (n : ℕ) (output rest : List ℕ) → source input n ≡ GoesOn output rest → IsLight input n
      → (m : ℕ) × (n ≤ m) × (machine_run image input m ≡ shows Running output rest)
  -- where every run of the source is defined and light, the machine does nothing else
  pub nothing_else : ((n : ℕ) → IsDefined (source input n)) → ((n : ℕ) → IsLight input n)
      → (m : ℕ) → ShowsOnlySource source input (machine_run image input m)

-- The machine on the file does what the source does for every input, that is, for all bytes, with so
-- many MiB of heap and stack.
pub record Agrees (source : SourceRun) (IsLight : Lightness) (file : List ℕ) (heap stack : ℕ) : Type 0 where
  pub image : Image
  pub loads : loaded file ≡ Ok image
  pub heap_room : HasRoom image heap_address heap
  pub stack_room : HasRoom image stack_address stack
  pub each_input : (input : List ℕ) → All (λ b. b < 2 ^ 8) input → AgreesFor source IsLight image input
