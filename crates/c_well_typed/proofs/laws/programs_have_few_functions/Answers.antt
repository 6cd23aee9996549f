use Rattle.c_well_typed.proofs.ProgramFunctions.{programs_have_few_functions}
use Rattle.c_well_typed.proofs.laws.programs_have_few_functions.Goals as goal

pub returns : goal.returns
returns c = programs_have_few_functions
