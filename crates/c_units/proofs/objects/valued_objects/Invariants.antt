use Rattle.std.proofs.Common.{◌≡◌, ◌++◌, drop, fold, map, take}
use Rattle.std.specs.Prelude.{flat_map}
use Rattle.c_annotated.specs.FileViews.{object_of}
use Rattle.c_initial_values.specs.Values.{mentions_in}
use Rattle.c_numbers.specs.TypeNumbers.Adding.{with_type}
use Rattle.c_types.specs.Views.{type_of}
use Rattle.c_units.specs.CollectedTypes.{object_types}
use Rattle.c_units.specs.SizeOperands.{told}
use Rattle.c_units.specs.ValuedObjects.{valued_of, valued_with}
use Rattle.c_units.proofs.objects.valued_objects.Given as goal

abbrev pub invariant-loop-o : goal.invariant-loop-o
invariant-loop-o l =
    let each = valued_with l.records l.objects in
    record {
      valued : map valued_of l.done ≡ map each (map object_of (take l.o-index l.objects));
      types : fold with_type (map type_of l.types) (flat_map object_types (map each (map object_of (drop l.o-index l.objects))))
          ≡ fold with_type (map type_of l.initial.types) (flat_map object_types (map each (map object_of l.objects)));
      told : mentions_in l.found ++ told (map object_of (drop l.o-index l.objects)) ≡ mentions_in l.fn.found ++ told (map object_of l.objects);
    }
