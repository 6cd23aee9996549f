use Rattle.std.proofs.Common.{◌≡◌, drop, fold, map}
use Rattle.std.specs.Prelude.{flat_map}
use Rattle.c_types.specs.Views.{field_of}
use Rattle.legality.specs.Breaches.{by_field}
use Rattle.legality.specs.Firsts.{marked}
use Rattle.legality.proofs.fields.mark_fields.Given as goal

abbrev pub invariant-loop-f : goal.invariant-loop-f
invariant-loop-f l = fold marked l.firsts (flat_map (by_field l.holdings l.owner) (map field_of (drop l.f-index l.fields)))
    ≡ fold marked l.fn.firsts (flat_map (by_field l.holdings l.owner) (map field_of l.fields))
