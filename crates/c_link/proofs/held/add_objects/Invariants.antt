use Rattle.std.proofs.Common.{◌≡◌, ◌++◌, drop, map}
use Rattle.std.specs.Prelude.{flat_map}
use Rattle.c_walks.specs.NodeTypes.{reference_of}
use Rattle.c_link.specs.Joining.{if_any}
use Rattle.c_link.specs.Gaps.{referred_by_value}
use Rattle.c_link.proofs.held.add_objects.Given as goal

abbrev pub invariant-loop-o : goal.invariant-loop-o
invariant-loop-o l = map reference_of l.all ++ flat_map (λ o. flat_map referred_by_value (flat_map (λ all. all) (if_any o.initial))) (drop l.o-index l.objects)
    ≡ map reference_of l.initial.all ++ flat_map (λ o. flat_map referred_by_value (flat_map (λ all. all) (if_any o.initial))) l.objects
