use Rattle.std.proofs.Common.{◌≡◌, ◌++◌, drop}
use Rattle.std.specs.Prelude.{flat_map}
use Rattle.c_link.specs.Gaps.{types_of_object}
use Rattle.c_walks.specs.NodeTypes.{references_in, types_found}
use Rattle.c_link.proofs.held.add_types.Given as goal

abbrev pub invariant-loop-o : goal.invariant-loop-o
invariant-loop-o l =
    (types_found (λ n. n) l.found ++ flat_map types_of_object (drop l.o-index l.objects) ≡ types_found (λ n. n) l.initial.found ++ flat_map types_of_object l.objects)
    × (references_in l.found ≡ references_in l.initial.found)
