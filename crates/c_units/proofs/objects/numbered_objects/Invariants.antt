use Rattle.std.proofs.Common.{◌≡◌, map, take}
use Rattle.c_types.specs.Views.{type_of}
use Rattle.c_units.specs.NumberedParts.{object_in}
use Rattle.c_units.specs.ValuedObjects.{valued_of}
use Rattle.c_units.proofs.objects.numbered_objects.Given as goal

abbrev pub invariant-loop-o : goal.invariant-loop-o
invariant-loop-o l = l.done ≡ map (object_in (map type_of l.types)) (map valued_of (take l.o-index l.all))
