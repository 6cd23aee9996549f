use Rattle.code_bounds.proofs.Programs.{data_fits}
use Rattle.code_bounds.proofs.compiled.data_fits.Goals as goal

pub returns : goal.returns
returns c = data_fits c.programs_are_within_limits.ensures
