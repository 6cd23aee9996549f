use Rattle.std.proofs.Common.{◌≡◌, ◌++◌, drop, map}
use Rattle.std.specs.Prelude.{flat_map}
use Rattle.c_numbers.specs.NewNumbers.Numbers.{number_at}
use Rattle.c_typed.specs.Programs.{data_of}
use Rattle.c_types.specs.Views.{type_of}
use Rattle.c_link.specs.Gaps.{linked_function_in, linked_object_in}
use Rattle.c_link.specs.Names.{linked_of}
use Rattle.c_link.proofs.linked.add_unit.Given as goal

abbrev pub invariant-loop-o : goal.invariant-loop-o
invariant-loop-o l = map linked_of l.all ++ flat_map (linked_object_in (number_at l.records) (map type_of l.types)) (drop l.o-index l.o-items)
    ≡ map linked_of l.initial.all ++ flat_map (linked_object_in (number_at l.records) (map type_of l.types)) l.o-items

abbrev pub invariant-loop-f : goal.invariant-loop-f
invariant-loop-f l = map linked_of l.all ++ flat_map (linked_function_in (number_at l.records) (map type_of l.types)) (map data_of (drop l.f-index l.f-items))
    ≡ map linked_of l.initial.all ++ flat_map (linked_function_in (number_at l.records) (map type_of l.types)) (map data_of l.f-items)
