use Rattle.c_well_typed.proofs.ProgramLoops.{programs_have_few_loops}
use Rattle.c_well_typed.proofs.laws.programs_have_few_loops.Goals as goal

pub returns : goal.returns
returns c = programs_have_few_loops c.tokens_have_places.ensures
