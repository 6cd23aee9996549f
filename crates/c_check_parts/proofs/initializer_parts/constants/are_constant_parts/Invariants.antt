use Rattle.std.proofs.Common.{◌≡◌, map, drop}
use Rattle.c_annotated.specs.Views.{part_of}
use Rattle.c_erasure.specs.Checking.Initializers.{are_constant_parts}
use Rattle.c_initial_values.specs.Values.{declared_by}
use Rattle.c_check_parts.proofs.initializer_parts.constants.are_constant_parts.Given as goal

abbrev pub invariant-loop-part : goal.invariant-loop-part
invariant-loop-part l = are_constant_parts (declared_by l.records l.objects) (map part_of l.all)
    ≡ are_constant_parts (declared_by l.records l.objects) (map part_of (drop l.part-index l.all))
