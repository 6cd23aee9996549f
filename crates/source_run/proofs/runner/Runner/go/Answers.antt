use Rattle.c_typed.specs.Programs.{program_data}
use Rattle.source_run.proofs.Stopping.{none_at_all}
use Rattle.source_run.proofs.runner.Runner.go.Goals as goal

pub returns-in-Err : goal.returns-in-Err
returns-in-Err g c = none_at_all (program_data c.args.self.now.types) c.args.turns _ c.args.self.now.counts
