-- Which counts there are.
use Rattle.std.specs.Prelude.{◌≡◌, length, map}
use Rattle.c_typed.specs.RunCounts.Loops.{loops_of}
use Rattle.c_typed.specs.Programs.{ProgramData}
use Rattle.source_state.specs.Steps.Counting.{Counting}

-- one for each function of the program, and for each of its loops
pub record HasAll (p : ProgramData) (c : Counting) : Type 0 where
  pub entries : length c.entries ≡ length p.functions
  pub begins : map length c.begins ≡ map loops_of p.functions
