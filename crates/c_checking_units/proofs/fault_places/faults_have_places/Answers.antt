use Rattle.c_checking_units.proofs.FaultPlaces.Texts.{faults_have_places}
use Rattle.c_checking_units.proofs.fault_places.faults_have_places.Goals as goal

pub returns : goal.returns
returns c = faults_have_places c.tokens_have_places.ensures
