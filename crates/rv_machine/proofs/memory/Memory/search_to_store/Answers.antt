use Rattle.rv_machine.proofs.Places.{covered}
use Rattle.rv_machine.proofs.memory.Memory.search_to_store.Goals as goal

pub returns-in-Some-clause-found : goal.returns-in-Some-clause-found
returns-in-Some-clause-found c = covered _ _ _ _ _ _ c.in-Some.ensures.0 _ c.place.ensures
