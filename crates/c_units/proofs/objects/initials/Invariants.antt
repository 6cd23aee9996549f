use Rattle.std.proofs.Common.{◌≡◌, map, take}
use Rattle.c_initial_values.specs.Values.{store_of}
use Rattle.c_types.specs.Views.{type_of}
use Rattle.c_units.specs.NumberedParts.{initial_in}
use Rattle.c_units.proofs.objects.initials.Given as goal

abbrev pub invariant-loop-s : goal.invariant-loop-s
invariant-loop-s l = l.done ≡ map (initial_in (map type_of l.types)) (map store_of (take l.s-index l.all))
