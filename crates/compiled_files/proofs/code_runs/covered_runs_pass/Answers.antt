use Rattle.compiled_files.proofs.CodeRuns.Runs.{covered_runs_pass}
use Rattle.compiled_files.proofs.code_runs.covered_runs_pass.Goals as goal

pub returns : goal.returns
returns c = covered_runs_pass
