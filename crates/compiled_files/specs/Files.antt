-- What the file of a program is.
use Rattle.std.specs.Prelude.{ℕ, false, List}
use Rattle.agreement.specs.Agreement.{Agrees}
use Rattle.agreement.specs.Real.{Real, SourceTrace}
use Rattle.block_memory.specs.RunWorlds.Worlds.{world_of}
use Rattle.c_meaning.specs.Run.{run_of}
use Rattle.c_meaning.specs.SourceRun.{source_run}
use Rattle.c_meaning.specs.Weights.{IsLight}
use Rattle.c_typed.specs.Programs.{ProgramData}

-- the events of a run
abbrev pub trace_in : ProgramData → SourceTrace
trace_in p input turns = (world_of (run_of p input turns false)).trace

-- With so many MiB of heap and of stack, the machine on it does what the program does, and with the heap just what the program does, over blocks that lie as
-- they are declared.
pub record IsFileOf (p : ProgramData) (heap stack : ℕ) (elf : List ℕ) : Type 0 where
  pub agrees : Agrees (source_run p) (IsLight p heap stack) elf heap stack
  pub real : Real (source_run p) (trace_in p) (IsLight p heap stack) elf
