use Rattle.std.proofs.Common.{◌≡◌, drop, fold, map}
use Rattle.std.specs.Prelude.{flat_map}
use Rattle.c_types.specs.Views.{type_of}
use Rattle.layout_plan.specs.Peeling.{by_object}
use Rattle.layout_plan.specs.Clearing.{cleared}
use Rattle.layout_plan.proofs.peeling.clear_objects.Given as goal

abbrev pub invariant-loop-o : goal.invariant-loop-o
invariant-loop-o l = fold cleared l.marks (flat_map (by_object (map type_of l.types) l.objects) (drop l.o-index l.objects))
    ≡ fold cleared l.fn.marks (flat_map (by_object (map type_of l.types) l.objects) l.objects)
