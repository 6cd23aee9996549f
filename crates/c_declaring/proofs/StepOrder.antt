-- One step more, which is taken first.
use Rattle.std.proofs.Common.{◌≡◌, List, [], ◌∷◌, ◌++◌, map, ap}
use Rattle.std.proofs.lemmas.List.{reverse-append}
use Rattle.c_nodes.specs.declared.declarator_types.declarators.Derivation.{Derivation}
use Rattle.c_nodes.specs.DeclaratorTypes.DeclaratorViews.{derivation_of, derivations_of}

pub one_more : (steps : List Derivation) (step : Derivation) → derivations_of (steps ++ step ∷ []) ≡ derivation_of step ∷ derivations_of steps
one_more steps step = ap (map derivation_of) (reverse-append steps (step ∷ []))
