use Rattle.std.proofs.Common.{◌≡◌, drop, fold, map}
use Rattle.std.specs.Prelude.{flat_map}
use Rattle.c_types.specs.Views.{type_of}
use Rattle.layout_plan.specs.Peeling.{by_local}
use Rattle.layout_plan.specs.Clearing.{cleared}
use Rattle.layout_plan.proofs.peeling.clear_locals.Given as goal

abbrev pub invariant-loop-l : goal.invariant-loop-l
invariant-loop-l l = fold cleared l.marks (flat_map (by_local (map type_of l.types)) (drop l.l-index l.locals))
    ≡ fold cleared l.fn.marks (flat_map (by_local (map type_of l.types)) l.locals)
