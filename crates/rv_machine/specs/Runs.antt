-- What a run of the machine gives.
use Rattle.std.specs.Prelude.{◌≡◌, ℕ, ◌+◌, ◌<◌, ◌≤◌, List, [], map, Some, None}
use Rattle.lay_base.specs.Known.{Rose, Appends}
use Rattle.rv_isa.specs.declared.image.Image.{Image}
use Rattle.rv_isa.specs.Step.{State, Standing, Running, Exits, Trap, Break, IsAtCall}
use Rattle.rv_isa.specs.Run.{Shown, start, run, state_after, machine_run}
use Rattle.rv_machine.specs.declared.machine.Machine.{Machine}
use Rattle.rv_machine.specs.declared.machine.MachineEnd.{MachineEnd}
use Rattle.rv_machine.specs.declared.machine.MachineEnd.TheVariants as E
use Rattle.rv_machine.specs.declared.hart.Hart.{Hart}
use Rattle.rv_machine.specs.View.{bare}
use Rattle.rv_machine.specs.Stepping.{with_streams}
use Rattle.rv_machine.specs.Harts.{places_of, state_of}
use Rattle.rv_machine.specs.Advances.{Streams, AreSteady, ReadsPart, WritesPart}

-- ---- what a machine runs

-- what a program shows after so many steps, and its state then, by its input
pub record ProgramRun : Type 0 where
  pub shows : (input : List ℕ) → (steps : ℕ) → Shown
  pub states : (input : List ℕ) → (steps : ℕ) → State

abbrev pub run_of : Image → ProgramRun
run_of image = record { shows = machine_run image; states = λ input m. state_after image.segments m (start image input) }

-- the same from where a hart is
abbrev pub own_run : Hart → ProgramRun
own_run hart = record {
  shows = λ input m. run (places_of hart) m (with_streams input [] (state_of hart));
  states = λ input m. state_after (places_of hart) m (with_streams input [] (state_of hart));
}

abbrev pub shows : Standing → (output rest : List ℕ) → Shown
shows standing output rest = record { standing = standing; output = output; rest = rest }

-- a machine that holds the image and has made no step
pub record IsFresh (image : Image) (machine : Machine) : Type 0 where
  pub places : places_of machine.hart ≡ map bare image.segments
  pub state : state_of machine.hart ≡ start image []
  pub steps : machine.steps ≡ 0
  pub ended : machine.ended ≡ None

-- ---- after a run

-- what can be observed of a machine
pub record Observation : Type 0 where
  pub registers : List ℕ
  pub pc : ℕ
  pub steps : ℕ

abbrev pub observed : Machine → Observation
observed machine = record { registers = machine.hart.registers; pc = machine.hart.pc; steps = machine.steps }

-- the program came to this: it had shown this output, this is left of the input, and the registers are those
-- of its state
pub record Came (run : ProgramRun) (input : List ℕ) (standing : Standing) (output rest : List ℕ) (observation : Observation) : Type 0 where
  pub shows : run.shows input observation.steps ≡ shows standing output rest
  pub before : (k : ℕ) → k < observation.steps → (run.shows input k).standing ≡ Running
  pub registers : observation.registers ≡ (run.states input observation.steps).registers
  pub pc : observation.pc ≡ (run.states input observation.steps).pc

-- ... and the streams have gained and lost just that
pub record Left (run : ProgramRun) (before now : Streams) (input : List ℕ) (standing : Standing) (observation : Observation) : Type 0 where
  pub output : List ℕ
  pub rest : List ℕ
  pub came : Came run input standing output rest observation
  pub written : Appends before.written now.written output
  pub left : now.left ≡ Some rest

-- the program was at a call with this number, with which it would have gone on, and of which a part was done
pub record Stopped (run : ProgramRun) (before now : Streams) (input : List ℕ)
    (number : ℕ) (Part : State → (before now : Streams) → Type 0) (observation : Observation) : Type 0 where
  pub output : List ℕ
  pub rest : List ℕ
  pub came : Came run input Running output rest observation
  pub call : IsAtCall number (run.states input observation.steps)
  pub goes : (run.shows input (observation.steps + 1)).standing ≡ Running
  pub middle : Streams
  pub written : Appends before.written middle.written output
  pub left : middle.left ≡ Some rest
  pub part : Part (run.states input observation.steps) middle now

-- the program came to an end within so many steps
abbrev pub Comes : ProgramRun → (limit : ℕ) → (before now : Streams) → Observation → Standing → Type 0
Comes run limit before now observation standing =
    (observation.steps ≤ limit) × AreSteady before now
    × ((input : List ℕ) → before.left ≡ Some input → Left run before now input standing observation)

-- What a run of at most so many steps gives, by its answer. Of the program it speaks where the input is known.
abbrev pub RunGives : ProgramRun → (limit : ℕ) → (before now : Streams) → Observation → MachineEnd → Type 0
RunGives run limit before now observation (E.StepLimit n) =
    (n ≡ limit) × (observation.steps ≡ limit) × AreSteady before now
    × ((input : List ℕ) → before.left ≡ Some input → Left run before now input Running observation)
RunGives run limit before now observation E.ReadFault =
    Rose before.read_faults now.read_faults × (observation.steps < limit)
    × ((input : List ℕ) → before.left ≡ Some input → Stopped run before now input 63 ReadsPart observation)
RunGives run limit before now observation E.WriteFault =
    Rose before.write_faults now.write_faults × (observation.steps < limit)
    × ((input : List ℕ) → before.left ≡ Some input → Stopped run before now input 64 WritesPart observation)
RunGives run limit before now observation (E.Exits status) = Comes run limit before now observation (Exits status)
RunGives run limit before now observation (E.Trap kind pc) = Comes run limit before now observation (Trap kind pc)
RunGives run limit before now observation (E.Break pc) = Comes run limit before now observation (Break pc)
