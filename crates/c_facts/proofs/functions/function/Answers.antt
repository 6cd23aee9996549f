use Rattle.std.proofs.Common.{rules}
use Rattle.std.proofs.lemmas.Option.{slice_get-map}
use Rattle.c_facts.proofs.functions.function.Goals as goal

pub returns-in-None : goal.returns-in-None
returns-in-None c = search (rules, slice_get-map)

pub returns-in-Some : goal.returns-in-Some
returns-in-Some c = search (rules, slice_get-map)
