use Rattle.std.proofs.Common.{◌≡◌, ◌++◌, drop, map}
use Rattle.c_erasure.specs.Units.{number_in}
use Rattle.c_numbers.specs.NewNumbers.Numbers.{number_at}
use Rattle.c_numbers.specs.TypeNumbers.Renumbered.{renumbered}
use Rattle.c_types.specs.Views.{type_of}
use Rattle.c_link.proofs.types.numbers_of_types.Given as goal

abbrev pub invariant-loop-t : goal.invariant-loop-t
invariant-loop-t l = l.entries ++ map (λ t. number_in (map type_of l.types) (renumbered (number_at l.records) t)) (map type_of (drop l.t-index l.all))
    ≡ map (λ t. number_in (map type_of l.types) (renumbered (number_at l.records) t)) (map type_of l.all)
