use Rattle.std.proofs.Common.{◌≡◌, drop, fold, map}
use Rattle.std.specs.Prelude.{flat_map}
use Rattle.c_types.specs.Views.{type_of}
use Rattle.legality.specs.Breaches.{by_mention}
use Rattle.legality.specs.Firsts.{marked}
use Rattle.legality.proofs.mentions.mark_mentions.Given as goal

abbrev pub invariant-loop-m : goal.invariant-loop-m
invariant-loop-m l = fold marked l.firsts (flat_map (by_mention (map type_of l.types) l.holdings) (drop l.m-index l.mentions))
    ≡ fold marked l.fn.firsts (flat_map (by_mention (map type_of l.types) l.holdings) l.mentions)
