use Rattle.compiled_files.proofs.CodeRuns.Weights.{light_runs_fit}
use Rattle.compiled_files.proofs.code_runs.light_runs_fit.Goals as goal

pub returns : goal.returns
returns c = light_runs_fit
