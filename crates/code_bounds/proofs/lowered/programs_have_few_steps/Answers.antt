use Rattle.code_bounds.proofs.Functions.{programs_have_few_steps}
use Rattle.code_bounds.proofs.lowered.programs_have_few_steps.Goals as goal

pub returns : goal.returns
returns c = programs_have_few_steps
