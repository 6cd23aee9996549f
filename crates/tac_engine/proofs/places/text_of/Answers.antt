use Rattle.std.proofs.Common.{ap, ◌∙◌, ℕ, List, [], Option, unwrap_or}
use Rattle.std.proofs.lemmas.Option.{unwrap_or-slice_get}
use Rattle.tac_engine.proofs.places.text_of.Goals as goal

pub returns-in-None : goal.returns-in-None
returns-in-None c = ap (λ (o : Option (List ℕ)). unwrap_or o []) c.in-None.ensures.value ∙ unwrap_or-slice_get c.args.routine.now.texts c.args.number []
