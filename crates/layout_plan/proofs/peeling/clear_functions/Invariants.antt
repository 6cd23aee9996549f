use Rattle.std.proofs.Common.{◌≡◌, drop, fold, map}
use Rattle.std.specs.Prelude.{flat_map}
use Rattle.c_types.specs.Views.{type_of}
use Rattle.c_typed.specs.Programs.{data_of}
use Rattle.layout_plan.specs.Peeling.{by_function}
use Rattle.layout_plan.specs.Clearing.{cleared}
use Rattle.layout_plan.proofs.peeling.clear_functions.Given as goal

abbrev pub invariant-loop-f : goal.invariant-loop-f
invariant-loop-f l = fold cleared l.marks (flat_map (by_function (map type_of l.types)) (map data_of (drop l.f-index l.functions)))
    ≡ fold cleared l.fn.marks (flat_map (by_function (map type_of l.types)) (map data_of l.functions))
