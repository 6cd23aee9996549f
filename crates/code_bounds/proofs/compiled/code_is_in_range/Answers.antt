use Rattle.rv_code.proofs.Ranges.{program_in}
use Rattle.code_bounds.proofs.compiled.code_is_in_range.Goals as goal

pub returns : goal.returns
returns c = program_in
