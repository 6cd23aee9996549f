use Rattle.std.proofs.Common.{◌≡◌, ◌∷◌, [], drop, fold, map}
use Rattle.c_types.specs.Views.{field_of}
use Rattle.legality.specs.Holdings.{with_field}
use Rattle.legality.proofs.holdings.held_by.Given as goal

abbrev pub invariant-loop-f : goal.invariant-loop-f
invariant-loop-f l = fold (with_field l.holdings) l.all (map field_of (drop l.f-index l.fields))
    ≡ fold (with_field l.holdings) (l.number ∷ []) (map field_of l.fields)
