use Rattle.std.proofs.Common.{◌≡◌, ◌++◌, drop, map}
use Rattle.std.specs.Prelude.{flat_map}
use Rattle.c_walks.specs.NodeTypes.{reference_of}
use Rattle.c_link.specs.Gaps.{referred_by_value}
use Rattle.c_link.proofs.held.add_values.Given as goal

abbrev pub invariant-loop-it : goal.invariant-loop-it
invariant-loop-it l = map reference_of l.all ++ flat_map referred_by_value (drop l.it-index l.values) ≡ map reference_of l.initial.all ++ flat_map referred_by_value l.values
