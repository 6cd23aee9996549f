use Rattle.compiled_files.proofs.CodeRuns.Runs.{runs_pass}
use Rattle.compiled_files.proofs.code_runs.runs_pass.Goals as goal

pub returns : goal.returns
returns c = runs_pass
