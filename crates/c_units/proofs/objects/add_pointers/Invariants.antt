use Rattle.std.proofs.Common.{◌≡◌, drop, fold, map}
use Rattle.std.specs.Prelude.{flat_map}
use Rattle.c_erasure.specs.Units.{type_if_pointer}
use Rattle.c_initial_values.specs.Values.{store_of}
use Rattle.c_numbers.specs.TypeNumbers.Adding.{with_type}
use Rattle.c_types.specs.Views.{type_of}
use Rattle.c_units.proofs.objects.add_pointers.Given as goal

abbrev pub invariant-loop-s : goal.invariant-loop-s
invariant-loop-s l = fold with_type (map type_of l.types) (flat_map type_if_pointer (map store_of (drop l.s-index l.all)))
    ≡ fold with_type (map type_of l.initial.types) (flat_map type_if_pointer (map store_of l.all))
