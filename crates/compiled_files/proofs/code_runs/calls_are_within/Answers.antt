use Rattle.compiled_files.proofs.CodeRuns.Weights.{calls_are_within}
use Rattle.compiled_files.proofs.code_runs.calls_are_within.Goals as goal

pub returns : goal.returns
returns c = calls_are_within
