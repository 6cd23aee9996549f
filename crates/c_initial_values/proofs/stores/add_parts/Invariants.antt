use Rattle.std.proofs.Common.{◌≡◌, ◌++◌, drop}
use Rattle.std.specs.Prelude.{flat_map, map}
use Rattle.c_annotated.specs.Views.{part_of}
use Rattle.c_erasure.specs.Units.{of_part}
use Rattle.c_typed.specs.Mapped.{mapped_part, of_types}
use Rattle.c_initial_values.specs.Values.{scope_with, stores_in}
use Rattle.c_initial_values.proofs.stores.add_parts.Given as goal

abbrev pub invariant-loop-part : goal.invariant-loop-part
invariant-loop-part l =
    stores_in l.found ++ flat_map (of_part (scope_with l.records l.objects)) (map (mapped_part (of_types (λ t. t.ty))) (map part_of (drop l.part-index l.all)))
    ≡ stores_in l.fn.found ++ flat_map (of_part (scope_with l.records l.objects)) (map (mapped_part (of_types (λ t. t.ty))) (map part_of l.all))
