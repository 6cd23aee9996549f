use Rattle.compiled_files.proofs.CodeRuns.Runs.{go_grows}
use Rattle.compiled_files.proofs.code_runs.runs_add.Goals as goal

pub returns : goal.returns
returns c = go_grows
