-- The run of the code is the source's run: for every program, input and number of turns, within the room of the interpreter or not, the same end in the same
-- world.
use Rattle.std.specs.Prelude.{ℕ, Bool, List}
use Rattle.c_typed.specs.Programs.{ProgramData}
use Rattle.c_meaning.specs.Run.{run_of, start}
use Rattle.tac_ir.specs.Covering.{Covers}
use Rattle.tac_ir.specs.Running.{code_run}
use Rattle.lower_tac.specs.Statements.{lowered}

abbrev pub RunsAreSame : Type 0
RunsAreSame = (p : ProgramData) (input : List ℕ) (turns : ℕ) (limited : Bool)
    → Covers (run_of p input turns limited) (code_run p.types (lowered p) (start p input turns limited))
