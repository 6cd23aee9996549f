use Rattle.std.proofs.Common.{◌≡◌, drop}
use Rattle.c_types.specs.Sameness.{same_types}
use Rattle.c_types.specs.Views.{types_of}
use Rattle.c_types.proofs.sameness.+sameness.Given as goal

abbrev pub invariant-are_all_alike-loop-index : goal.invariant-are_all_alike-loop-index
invariant-are_all_alike-loop-index l = same_types (types_of (drop l.index l.all)) (types_of (drop l.index l.others))
    ≡ same_types (types_of l.all) (types_of l.others)
