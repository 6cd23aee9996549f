-- Where a run starts, and what is answered where it is over.
use Rattle.std.specs.Prelude.{◌≡◌, ◌⊎◌, ℕ}
use Rattle.c_typed.specs.RunCounts.Counting.{counts_by}
use Rattle.c_typed.specs.declared.run_counts.counts.Counts.{Counts}
use Rattle.c_typed.specs.Programs.{ProgramData, program_data}
use Rattle.c_typed.specs.declared.program.Typed.{Typed}
use Rattle.lay_base.specs.Want.{no_memory}
use Rattle.lower_tac.specs.Statements.{lowered}
use Rattle.source_run.specs.declared.end.RunEnd.{RunEnd as Answer}
use Rattle.source_run.specs.declared.end.RunEnd.TheVariants as E
use Rattle.source_start.specs.Counted.{entry_in, begin_in}
use Rattle.source_start.specs.Zeros.{no_counts}
use Rattle.source_state.specs.Steps.AtStart.{core_at_start}
use Rattle.source_state.specs.Steps.Cores.{Core}
use Rattle.source_state.specs.Steps.Counting.{Counting}
use Rattle.source_state.specs.declared.ends.Final.{Final}
use Rattle.source_state.specs.declared.ends.Final.TheVariants.{Ends, TurnLimit, Undefined, Room}
use Rattle.tac_engine.specs.States.{State}
use Rattle.tac_engine.specs.View.{ready}
use Rattle.source_values.specs.Rows.{TypesAreSmall}
use Rattle.tac_ir.specs.Code.{code_of}
use Rattle.tac_ir.specs.Steady.{AllSteady}
use Rattle.tac_ir.specs.declared.step.Routine.{Routine}
use Rattle.tac_ir.specs.declared.step.Tac.{Tac}

-- the program's objects are in memory, and its counts are all 0
abbrev pub first_core : ProgramData → (turns : ℕ) → Core
first_core p turns = core_at_start p turns (no_counts p)

-- its code is steady, where its types are small
abbrev pub IsSteadyProgram : ProgramData → Type 0
IsSteadyProgram p = TypesAreSmall p → AllSteady (lowered p).routines

-- an engine for the code of a program, before `main` is called
pub record IsAtStart (typed : Typed) (turns : ℕ) (s : State) : Type 0 where
  pub code : Tac
  pub routine : Routine
  pub lowers : code_of code ≡ lowered (program_data typed)
  pub state : s ≡ ready typed code (first_core (program_data typed) turns) routine

abbrev pub answer_of : Final → (turns : ℕ) → Answer
answer_of (Ends status) turns = E.Ends status
answer_of TurnLimit turns = E.TurnLimit turns
answer_of (Undefined kind place) turns = E.Undefined kind place
answer_of (Room kind counted) turns = E.Room kind counted

-- what was counted, as counts of the program
abbrev pub AreCounts : ProgramData → Counting → Counts → Type 0
AreCounts p counting counts = counts ≡ counts_by (entry_in counting) (begin_in counting) p

-- the answer is the end, or there was no memory for the counts
abbrev pub HasFinished : ProgramData → Counting → Counts → Final → (turns : ℕ) → Answer → Type 0
HasFinished p counting counts end turns answer = ((answer ≡ answer_of end turns) × AreCounts p counting counts) ⊎ (answer ≡ E.Memory no_memory)
