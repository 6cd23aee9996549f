-- Counts that are all 0.
use Rattle.std.proofs.Common.{◌≡◌, ap, ◌∙◌}
use Rattle.c_typed.specs.RunCounts.Counting.{counts_by}
use Rattle.c_typed.specs.Programs.{ProgramData}
use Rattle.source_run.specs.Fresh.{no_counts as counts_of_none}
use Rattle.source_start.proofs.NoCounts.{are_zero, has_all}
use Rattle.source_start.proofs.Telling.{counts_are}
use Rattle.source_start.specs.Counted.{entry_in, begin_in}
use Rattle.source_start.specs.Zeros.{no_counts}
use Rattle.source_state.specs.Steps.Counting.{Counting}

pub zeros_are : (p : ProgramData) (c : Counting) → c ≡ no_counts p → counts_by (entry_in c) (begin_in c) p ≡ counts_of_none p
zeros_are p c e = ap (λ (c : Counting). counts_by (entry_in c) (begin_in c) p) e
    ∙ counts_are p (no_counts p) (λ f. 0) (λ f l. 0) (has_all p) (are_zero p).entries (are_zero p).begins
