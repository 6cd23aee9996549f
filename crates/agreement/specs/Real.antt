-- When the machine asks for, gives back and accesses in the heap just what a source program does, over blocks that lie as the source has them.
use Rattle.std.specs.Prelude.{◌≡◌, ℕ, ◌+◌, ◌^◌, ◌<◌, ◌≤◌, List, [], ◌∷◌, ◌++◌, All, Ok}
use Rattle.block_memory.specs.RunWorlds.Events as E
use Rattle.block_memory.specs.RunWorlds.Events.{Event}
use Rattle.block_memory.specs.SourceEnd.{Ends, GoesOn}
use Rattle.rv_isa.specs.declared.image.Image.{Image}
use Rattle.rv_isa.specs.Events.{MachineEvent, Request, Reply, Release, Load, Store, events}
use Rattle.rv_isa.specs.Run.{Shown, machine_run, start}
use Rattle.rv_isa.specs.Step.{Running, Exits}
use Rattle.elf32.specs.Loaded.{loaded}
use Rattle.agreement.specs.Agreement.{SourceRun, Lightness, shows}

-- the events of a run for an input and a number of turns, the last one first
abbrev pub SourceTrace : Type 0
SourceTrace = (input : List ℕ) → (turns : ℕ) → List Event

-- where each heap block lies, by its number
module _ (address : ℕ → ℕ) where
  -- an allocation asks for its bytes and gets them, a release gives the block back, and an access lies in its block
  abbrev pub machine_events : Event → List MachineEvent
  machine_events (E.allocated block elements size) = Request size ∷ Reply (address block) ∷ []
  machine_events (E.freed block) = Release (address block) ∷ []
  machine_events (E.loaded block offset width) = Load (address block + offset) width ∷ []
  machine_events (E.stored block offset width) = Store (address block + offset) width ∷ []
  machine_events event = []

  -- in the order of time
  abbrev pub events_of : List Event → List MachineEvent
  events_of [] = []
  events_of (event ∷ before) = events_of before ++ machine_events event

-- after so many steps the machine shows this, and its events are those of the trace
pub record ComesTo (image : Image) (input : List ℕ) (steps : ℕ) (shown : Shown) (trace : List Event) : Type 0 where
  pub shows_it : machine_run image input steps ≡ shown
  pub address : ℕ → ℕ
  pub events_are : events image.segments steps (start image input) ≡ events_of address trace

-- For this input: where the source ends, or goes on after n turns, the machine does so, with the events of the source.
pub record IsRealFor (source : SourceRun) (trace : SourceTrace) (IsLight : Lightness) (image : Image) (input : List ℕ) : Type 0 where
  pub ends : (n : ℕ) (output : List ℕ) (status : ℕ) (rest : List ℕ) → source input n ≡ Ends output status rest → IsLight input n
      → (m : ℕ) × ComesTo image input m (shows (Exits status) output rest) (trace input n)
  pub goes_on : (n : ℕ) (output rest : List ℕ) → source input n ≡ GoesOn output rest → IsLight input n
      → (m : ℕ) × (n ≤ m) × ComesTo image input m (shows Running output rest) (trace input n)

-- The heap of the file is that of the source, for every input.
pub record Real (source : SourceRun) (trace : SourceTrace) (IsLight : Lightness) (file : List ℕ) : Type 0 where
  pub image : Image
  pub loads : loaded file ≡ Ok image
  pub each_input : (input : List ℕ) → All (λ b. b < 2 ^ 8) input → IsRealFor source trace IsLight image input
