-- The run of a C program as one of a source program in any language, of which an ELF file is said to agree with it.
use Rattle.std.specs.Prelude.{ℕ, List}
use Rattle.block_memory.specs.SourceEnd.{SourceEnd, Ends, GoesOn, Undefined}
use Rattle.c_typed.specs.Programs.{ProgramData}
use Rattle.c_meaning.specs.Run.{RunEnd, ended, went_on, was_undefined, no_room, run}

-- a run that lacks room has come so far; a run without limit never does (`runs_have_room`), so the last line says nothing of it
abbrev pub source_end : RunEnd → SourceEnd
source_end (ended output status rest) = Ends output status rest
source_end (went_on output rest) = GoesOn output rest
source_end (was_undefined kind place output rest) = Undefined kind place output rest
source_end (no_room kind counted output rest) = GoesOn output rest

-- where at most so many turns begin
abbrev pub source_run : ProgramData → (input : List ℕ) → (turns : ℕ) → SourceEnd
source_run p input turns = source_end (run p input turns)
