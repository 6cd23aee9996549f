use Rattle.code_bounds.proofs.Asked.{few_are_asked}
use Rattle.code_bounds.proofs.lowered.few_are_asked.Goals as goal

pub returns : goal.returns
returns c = few_are_asked c.programs_are_bounded.ensures c.programs_are_within_limits.ensures
