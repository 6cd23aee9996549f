use Rattle.std.proofs.Common.{◌≡◌, map, take}
use Rattle.c_numbers.specs.NewNumbers.Numbers.{number_at}
use Rattle.c_numbers.specs.TypeNumbers.Renumbered.{renumbered}
use Rattle.c_types.specs.Views.{type_of}
use Rattle.c_numbers.proofs.type_numbers.renumbered.+renumbered_type.Given as goal

abbrev pub invariant-loop-parameter : goal.invariant-loop-parameter
invariant-loop-parameter l = map type_of l.copies ≡ map (λ t. renumbered (number_at l.records) (type_of t)) (take l.parameter-index l.parameter-items)
