use Rattle.compiled_files.proofs.CodeRuns.Runs.{add}
use Rattle.compiled_files.proofs.code_runs.steps_add.Goals as goal

pub returns : goal.returns
returns c = add
