-- Counts that are all 0.
use Rattle.std.specs.Prelude.{ℕ, List, map, replicate, length, Vec}
use Rattle.std.specs.Global.{Global}
use Rattle.c_typed.specs.RunCounts.Loops.{loops_of}
use Rattle.c_typed.specs.Programs.{ProgramData}
use Rattle.source_state.specs.Steps.Counting.{Counting}

-- one for each function, and for each of its loops
abbrev pub no_counts : ProgramData → Counting
no_counts p = record {
  entries = replicate (length p.functions) 0;
  begins = map (λ f. replicate (loops_of f) 0) p.functions;
}

abbrev pub rows_of : List (Vec ℕ Global) → List (List ℕ)
rows_of rows = map (λ row. row.items) rows
