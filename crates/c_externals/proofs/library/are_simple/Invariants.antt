use Rattle.std.proofs.Common.{◌≡◌, drop, map}
use Rattle.c_types.specs.Sameness.{same_types}
use Rattle.c_types.specs.Views.{listed, types_of}
use Rattle.c_externals.specs.Signatures.{simple_type}
use Rattle.c_externals.proofs.library.are_simple.Given as goal

abbrev pub invariant-loop-index : goal.invariant-loop-index
invariant-loop-index l = same_types (types_of (drop l.index l.all)) (listed (map simple_type (drop l.index l.wanted)))
    ≡ same_types (types_of l.all) (listed (map simple_type l.wanted))
