-- At first nothing is stored.
use Rattle.std.proofs.Common.{◌≡◌, List, [], ap}
use Rattle.c_initial_values.specs.declared.stores.Store.{Store}
use Rattle.c_initial_values.specs.Values.{stores_in}

pub nothing_stored : (found : List Store) → found ≡ [] → stores_in found ≡ []
unfolding stores_in
nothing_stored found h = ap stores_in h
