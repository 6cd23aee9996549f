use Rattle.std.proofs.Common.{◌≡◌, ◌++◌, drop, map}
use Rattle.c_types.specs.Views.{type_of}
use Rattle.c_link.specs.Missing.{least_in}
use Rattle.c_link.proofs.structures.least_of_each.Given as goal

abbrev pub invariant-loop-t : goal.invariant-loop-t
invariant-loop-t l = l.leasts.items ++ map (least_in l.count) (map type_of (drop l.t-index l.types)) ≡ map (least_in l.count) (map type_of l.types)
