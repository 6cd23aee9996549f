use Rattle.lay_compile.proofs.FaultPlaces.{faults_stand}
use Rattle.lay_compile.proofs.laws.faults_stand_in_files.Goals as goal

pub returns : goal.returns
returns c = faults_stand c.tokens_have_places.ensures c.faults_have_places.ensures c.gaps_have_places.ensures
