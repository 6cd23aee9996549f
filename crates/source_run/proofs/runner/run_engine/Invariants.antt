use Rattle.c_typed.specs.Programs.{program_data}
use Rattle.source_run.specs.Streams.{streams}
use Rattle.source_run.proofs.Reaching.{FarAt}
use Rattle.source_run.proofs.runner.run_engine.Given as goal
use Rattle.tac_engine.specs.View.{state_of}
use Rattle.tac_engine.proofs.Lessening.{IsSteadyAt, measure}

abbrev pub invariant-loop-end : goal.invariant-loop-end
invariant-loop-end g l =
    FarAt (program_data l.fn.types) l.fn.turns
    (streams (g.I.Source.left l.fn.input) (g.I.Source.faults l.fn.input) (g.O.Sink.written l.fn.out) (g.O.Sink.faults l.fn.out))
    (streams (g.I.Source.left l.input) (g.I.Source.faults l.input) (g.O.Sink.written l.out) (g.O.Sink.faults l.out)) (state_of l.engine)
    × IsSteadyAt (state_of l.engine)

abbrev pub decreases-loop-end : goal.decreases-loop-end
decreases-loop-end g l = measure (state_of l.engine)
