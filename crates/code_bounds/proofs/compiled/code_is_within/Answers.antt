use Rattle.code_bounds.proofs.Programs.{code_is_within}
use Rattle.code_bounds.proofs.compiled.code_is_within.Goals as goal

pub returns : goal.returns
returns c = code_is_within c.functions_are_paid.ensures c.bytes_are_left.ensures
