use Rattle.std.proofs.Common.{◌≡◌, drop, fold, map}
use Rattle.std.specs.Prelude.{flat_map}
use Rattle.c_types.specs.Views.{type_of}
use Rattle.legality.specs.Breaches.{by_fact}
use Rattle.legality.specs.Firsts.{marked}
use Rattle.legality.proofs.facts.mark_facts.Given as goal

abbrev pub invariant-loop-fact : goal.invariant-loop-fact
invariant-loop-fact l = fold marked l.firsts (flat_map (by_fact (map type_of l.types)) (drop l.fact-index l.facts))
    ≡ fold marked l.fn.firsts (flat_map (by_fact (map type_of l.types)) l.facts)
