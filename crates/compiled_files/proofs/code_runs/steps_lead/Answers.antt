use Rattle.compiled_files.proofs.CodeRuns.Runs.{lead}
use Rattle.compiled_files.proofs.code_runs.steps_lead.Goals as goal

pub returns : goal.returns
returns c = lead
