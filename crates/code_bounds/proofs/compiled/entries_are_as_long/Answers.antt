use Rattle.code_bounds.proofs.Lengths.{entries_are_as_long}
use Rattle.code_bounds.proofs.compiled.entries_are_as_long.Goals as goal

pub returns : goal.returns
returns c = entries_are_as_long
