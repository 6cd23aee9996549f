use Rattle.std.proofs.Common.{◌≡◌, subst}
use Rattle.std.specs.Prelude.{IfOk}
use Rattle.c_typed.specs.declared.run_counts.counts.Counts.{Counts}
use Rattle.c_typed.specs.Programs.{program_data}
use Rattle.source_run.proofs.Zeros.{zeros_are}
use Rattle.source_run.proofs.runner.counts_at_start.Goals as goal
use Rattle.source_state.specs.CountsView.{counting_of}

pub returns-in-Ok : goal.returns-in-Ok
returns-in-Ok c = subst (λ (all : Counts). IfOk c.counts.result (λ counts. counts ≡ all))
    (zeros_are (program_data c.args.p.now) (counting_of c.in-Ok.none) c.in-Ok.ensures) c.counts.ensures
