use Rattle.c_typed.specs.Programs.{program_data}
use Rattle.source_run.proofs.Stopping.{none_at_all}
use Rattle.source_run.proofs.runner.run_code.Goals as goal

pub returns : goal.returns
returns g c = none_at_all (program_data c.args.types.now) c.args.turns _ c.args.kept.now
