-- A runner that has not run.
use Rattle.std.specs.Prelude.{◌≡◌, None}
use Rattle.c_typed.specs.RunCounts.Counting.{counts_by}
use Rattle.c_typed.specs.declared.run_counts.counts.Counts.{Counts}
use Rattle.c_typed.specs.Programs.{ProgramData}
use Rattle.c_typed.specs.declared.program.Typed.{Typed}
use Rattle.source_run.specs.declared.runner.Runner.{Runner}

pub record IsFresh (p : Typed) (runner : Runner) : Type 0 where
  pub program : runner.types ≡ p
  pub ended : runner.ended ≡ None

-- the counts of a program of which nothing was done
abbrev pub no_counts : ProgramData → Counts
no_counts p = counts_by (λ f. 0) (λ f l. 0) p
