use Rattle.compiled_files.proofs.CodeRuns.Weights.{weights_rise}
use Rattle.compiled_files.proofs.code_runs.weights_rise.Goals as goal

pub returns : goal.returns
returns c = weights_rise
