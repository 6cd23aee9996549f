use Rattle.std.proofs.Common.{◌≡◌, drop, fold, map}
use Rattle.std.specs.Prelude.{flat_map}
use Rattle.c_types.specs.Views.{type_of}
use Rattle.layout_plan.specs.Peeling.{by_initial_value}
use Rattle.layout_plan.specs.Clearing.{cleared}
use Rattle.layout_plan.proofs.peeling.clear_initial.Given as goal

abbrev pub invariant-loop-i : goal.invariant-loop-i
invariant-loop-i l = fold cleared l.marks (flat_map (λ i. by_initial_value (map type_of l.types) l.objects i.value) (drop l.i-index l.all))
    ≡ fold cleared l.fn.marks (flat_map (λ i. by_initial_value (map type_of l.types) l.objects i.value) l.all)
