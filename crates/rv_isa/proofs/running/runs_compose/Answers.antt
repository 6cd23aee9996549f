use Rattle.rv_isa.proofs.Runs.{states_compose, events_compose, run_shows_state, running_runs_compose, settled}
use Rattle.rv_isa.proofs.running.runs_compose.Goals as goal

pub returns-clause-states : goal.returns-clause-states
returns-clause-states c = states_compose

pub returns-clause-made : goal.returns-clause-made
returns-clause-made c = events_compose

pub returns-clause-shows_state : goal.returns-clause-shows_state
returns-clause-shows_state c = run_shows_state

pub returns-clause-running : goal.returns-clause-running
returns-clause-running c = running_runs_compose

pub returns-clause-ended : goal.returns-clause-ended
returns-clause-ended c = settled
