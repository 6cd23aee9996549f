use Rattle.code_bounds.proofs.Functions.{bytes_are_left}
use Rattle.code_bounds.proofs.lowered.bytes_are_left.Goals as goal

pub returns : goal.returns
returns c = bytes_are_left
