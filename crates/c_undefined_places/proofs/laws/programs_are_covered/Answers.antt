use Rattle.c_undefined_places.proofs.CoveredPrograms.{programs_covered}
use Rattle.c_undefined_places.proofs.CoveredSources.{units_covered}
use Rattle.c_undefined_places.proofs.laws.programs_are_covered.Goals as goal

pub returns : goal.returns
returns c = λ files p h. programs_covered c.units_have_typed_functions.ensures files p h (units_covered c.tokens_have_places.ensures files p h)
