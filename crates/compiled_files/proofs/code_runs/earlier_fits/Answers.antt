use Rattle.compiled_files.proofs.CodeRuns.Weights.{earlier_fits}
use Rattle.compiled_files.proofs.code_runs.earlier_fits.Goals as goal

pub returns : goal.returns
returns c = earlier_fits
