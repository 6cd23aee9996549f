use Rattle.std.proofs.Common.{◌≡◌, drop, fold, map}
use Rattle.c_numbers.specs.NewNumbers.Numbers.{number_at}
use Rattle.c_numbers.specs.TypeNumbers.Adding.{with_type}
use Rattle.c_numbers.specs.TypeNumbers.Renumbered.{renumbered}
use Rattle.c_types.specs.Views.{type_of}
use Rattle.c_link.proofs.types.add_types.Given as goal

abbrev pub invariant-loop-t : goal.invariant-loop-t
invariant-loop-t l = fold with_type (map type_of l.types) (map (renumbered (number_at l.records)) (map type_of (drop l.t-index l.t-items)))
    ≡ fold with_type (map type_of l.initial.types) (map (renumbered (number_at l.records)) (map type_of l.t-items))
