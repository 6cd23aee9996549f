use Rattle.compiled_files.proofs.CodeRuns.Weights.{light_moments_fit}
use Rattle.compiled_files.proofs.code_runs.light_moments_fit.Goals as goal

pub returns : goal.returns
returns c = light_moments_fit
